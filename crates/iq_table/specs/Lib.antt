pub mod Calls
pub mod Faults
pub mod Limits
pub mod Places
pub mod Plans
pub mod Table
