pub mod DeviceLemmas
pub mod ImageLemmas
pub mod StreamLemmas
