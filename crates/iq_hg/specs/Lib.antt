pub mod Bounds
pub mod Places
pub mod Stands
pub mod Marks
pub mod Walks
pub mod Search
