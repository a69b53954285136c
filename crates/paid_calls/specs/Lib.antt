pub mod Earning
pub mod Laws
