pub mod Chains
pub mod Pushing
pub mod Seats
pub mod Named
pub mod Laws
pub mod Wrong
