pub mod Looks
pub mod Allowed
pub mod Driving
pub mod Asked
pub mod Seats
pub mod CallerLemmas
