pub mod Cache
pub mod Released
pub mod Hands
pub mod Shelves
pub mod Laws
