pub mod Grants
pub mod Named
pub mod Laws
