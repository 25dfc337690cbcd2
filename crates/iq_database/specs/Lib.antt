pub mod Standing
pub mod LookUps
