pub mod Levels
pub mod Putting
