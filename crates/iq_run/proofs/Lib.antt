pub mod Walk
pub mod Complete
