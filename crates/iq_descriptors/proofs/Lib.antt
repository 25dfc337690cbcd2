pub mod SaidLemmas
pub mod ReadLemmas
pub mod LawLemmas
pub mod WriteLemmas
