pub mod TableLemmas
pub mod CallLemmas
pub mod ReadLemmas
pub mod ClosingLemmas
pub mod OpeningLemmas
