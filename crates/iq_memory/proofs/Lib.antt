pub mod Places
pub mod Moving
pub mod Running
