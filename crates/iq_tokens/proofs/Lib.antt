pub mod Cutting
pub mod Quoting
pub mod OneKind
pub mod Reserved
