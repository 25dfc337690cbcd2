pub mod CellBytes
pub mod CellLaws
