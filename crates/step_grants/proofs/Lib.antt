pub mod Words
pub mod Silence
pub mod Apart
pub mod Writes
pub mod Lists
pub mod Runs
pub mod Named
pub mod CallerLemmas
