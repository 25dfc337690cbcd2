pub mod Names
pub mod LookUps
pub mod Frames
pub mod Slots
pub mod At
