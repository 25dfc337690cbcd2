pub mod Forms
pub mod Stands
pub mod Calls
pub mod Plans
pub mod Scans
pub mod Laws
