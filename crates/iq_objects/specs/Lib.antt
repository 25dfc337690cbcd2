pub mod Open
pub mod Opened
pub mod Changes
