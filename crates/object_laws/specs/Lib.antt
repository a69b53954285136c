pub mod Objects
pub mod Parts
pub mod Rely
pub mod Rows
pub mod Steps
pub mod Named
pub mod Laws
pub mod Wrong
