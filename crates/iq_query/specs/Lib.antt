pub mod Simple
pub mod Calls
