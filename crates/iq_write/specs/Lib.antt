pub mod Simple
pub mod Effects
