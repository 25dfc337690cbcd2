pub mod Histories
pub mod Places
pub mod Lines
pub mod Commits
pub mod Numbered
pub mod Made
pub mod Kept
