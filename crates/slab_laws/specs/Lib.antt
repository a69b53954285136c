pub mod Books
pub mod OneSlab
pub mod Heaps
pub mod Steps
pub mod Named
pub mod Laws
pub mod Wrong
