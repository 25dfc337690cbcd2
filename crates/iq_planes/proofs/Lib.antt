pub mod PlaneReads
pub mod PutRows
pub mod Growth
