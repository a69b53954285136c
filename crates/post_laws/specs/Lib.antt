pub mod Posts
pub mod After
pub mod Steps
pub mod Named
pub mod Laws
