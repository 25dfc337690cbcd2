pub mod Kinds
pub mod Quotes
pub mod Tokens
