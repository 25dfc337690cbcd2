pub mod Saves
pub mod Left
pub mod Turns
pub mod Refused
pub mod Commits
pub mod Fresh
