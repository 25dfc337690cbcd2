pub mod Plain
pub mod Stages
