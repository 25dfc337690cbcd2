pub mod Chosen
pub mod Classes
