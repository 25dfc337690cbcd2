pub mod Readings
pub mod Growth
pub mod Repeats
pub mod OnPages
pub mod Chosen
pub mod Pairs
pub mod ColumnLaws
pub mod Bounds
