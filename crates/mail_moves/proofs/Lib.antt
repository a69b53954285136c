pub mod Stays
pub mod Joined
pub mod Boxes
pub mod Joins
pub mod Adopts
pub mod Leaves
pub mod Turns
pub mod CallerLemmas
