pub mod Words
pub mod Built
