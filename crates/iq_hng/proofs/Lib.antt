pub mod Rows
pub mod Orders
pub mod Sums
pub mod Ranges
pub mod PlaneBits
