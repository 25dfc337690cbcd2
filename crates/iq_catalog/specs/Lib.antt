pub mod Texts
pub mod Storable
pub mod Pages
pub mod Reading
pub mod Faults
pub mod Sizes
pub mod FirstFault
