pub mod Quotes
pub mod WordFronts
pub mod MarkFronts
pub mod NumberFronts
pub mod ValueFronts
pub mod Cutting
