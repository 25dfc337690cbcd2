pub mod Values
pub mod Refusals
pub mod Replies
pub mod Entries
pub mod Whole
pub mod Placed
