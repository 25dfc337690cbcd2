pub mod Names
pub mod Fields
pub mod Parts
pub mod Wholes
pub mod Loops
pub mod FirstFault
