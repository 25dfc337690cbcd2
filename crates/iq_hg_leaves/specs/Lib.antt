pub mod Entries
pub mod Sorted
pub mod Order
pub mod Leaves
pub mod Cuts
pub mod Bytes
pub mod Merging
pub mod Spots
