pub mod Cells
pub mod Locks
pub mod Limits
pub mod Shorts
