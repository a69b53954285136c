pub mod Says
pub mod Started
pub mod Laws
