pub mod BitLemmas
pub mod MoveLemmas
