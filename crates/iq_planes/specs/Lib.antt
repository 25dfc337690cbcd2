pub mod Planes
pub mod Growing
