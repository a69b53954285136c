pub mod Fresh
pub mod Here
pub mod Notes
pub mod Left
pub mod Nothing
pub mod Scans
pub mod Runs
pub mod CallerLemmas
