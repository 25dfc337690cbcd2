pub mod Roots
pub mod Pages
pub mod Causes
pub mod Stops
pub mod Publishing
pub mod Formatting
