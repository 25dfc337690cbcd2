pub mod Streams
pub mod Words
pub mod Reports
pub mod Runs
pub mod Ends
