pub mod Hands
pub mod Changes
pub mod Fits
pub mod Laws
