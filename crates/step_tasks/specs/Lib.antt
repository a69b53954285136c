pub mod Objects
pub mod Mail
pub mod Lands
pub mod Laws
