pub mod Steps
pub mod Tables
pub mod Walk
pub mod Opening
pub mod Calls
pub mod Laws
pub mod Free
