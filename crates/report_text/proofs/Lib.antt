pub mod CallerLemmas
pub mod WriteLemmas
pub mod EntryLemmas
