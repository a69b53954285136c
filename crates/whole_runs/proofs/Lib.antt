mod Around
mod Calls
mod Turned
mod Ties
mod Silence
mod Runs
pub mod CallerLemmas
