pub mod Parts
pub mod Heads
pub mod Stored
pub mod Causes
pub mod Written
pub mod Laws
