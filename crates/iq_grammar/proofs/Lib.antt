pub mod Lists
pub mod Steps
pub mod Forms
pub mod Sound
pub mod Ends
pub mod Laws
