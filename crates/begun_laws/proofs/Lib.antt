mod Kept
mod Posts
mod Orphans
mod Steps
mod Hands
pub mod CallerLemmas
