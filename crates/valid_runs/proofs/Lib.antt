mod Links
mod Runs
pub mod CallerLemmas
