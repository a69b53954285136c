pub mod Jobs
pub mod Out
pub mod Got
pub mod Kept
pub mod Swept
pub mod Moved
pub mod CallerLemmas
