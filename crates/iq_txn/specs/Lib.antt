pub mod Txns
pub mod Saved
