pub mod Entries
pub mod Stands
pub mod Calls
pub mod Gathered
pub mod Steps
