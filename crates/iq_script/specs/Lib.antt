pub mod Faults
pub mod Lines
pub mod Built
pub mod Pieces
pub mod Putting
pub mod Scripts
pub use Rattle.iq_model.specs.Scripts as Runnable
