pub mod Counts
pub mod Objects
pub mod Faults
pub mod Taking
pub mod Codes
pub mod Reading
