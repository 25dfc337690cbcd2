pub mod Control
pub mod Changes
pub mod Asked
pub mod Due
pub mod Opened
