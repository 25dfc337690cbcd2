pub mod Placed
pub mod State
