pub mod Truths
pub mod Sides
pub mod Comparisons
pub mod Tests
