pub mod Keys
pub mod Slices
pub mod Ranges
pub mod Sums
