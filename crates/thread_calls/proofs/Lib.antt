pub mod TurnLemmas
pub mod CallerLemmas
