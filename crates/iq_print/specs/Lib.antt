pub mod Conditions
pub mod Words
pub mod Spellable
