pub mod Lists
pub mod Conditions
pub mod Texts
