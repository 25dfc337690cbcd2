pub mod Bare
pub mod Changes
pub mod Saves
pub mod Kept
pub mod Table
