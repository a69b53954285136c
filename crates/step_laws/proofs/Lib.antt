pub mod Elsewhere
pub mod Turns
pub mod Seats
pub mod Desks
pub mod Gone
pub mod Fits
pub mod Runs
pub mod CallerLemmas
