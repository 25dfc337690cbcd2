pub mod KindLists
pub mod Room
pub mod Moves
pub mod Making
pub mod Growth
pub mod TableGrowth
pub mod Readings
pub mod Removals
