pub mod CountLemmas
pub mod StandLemmas
pub mod PageLemmas
pub mod CloseLemmas
pub mod OpenLemmas
