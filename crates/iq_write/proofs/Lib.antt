pub mod Tests
pub mod Changes
pub mod Lists
pub mod Appends
