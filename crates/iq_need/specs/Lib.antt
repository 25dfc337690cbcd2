pub mod Sizes
pub mod Need
