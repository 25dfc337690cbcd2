pub mod Simples
pub mod Reading
pub mod Walks
pub mod Selects
