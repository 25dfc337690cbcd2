pub mod Views
pub mod Seats
pub mod Keeps
pub mod Closing
