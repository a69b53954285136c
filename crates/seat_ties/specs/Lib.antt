pub mod Says
pub mod Ties
pub mod Turns
pub mod Left
pub mod Laws
