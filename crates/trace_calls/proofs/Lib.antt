pub mod NameLemmas
pub mod EndLemmas
pub mod CallerLemmas
