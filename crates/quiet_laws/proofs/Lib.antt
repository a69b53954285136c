pub mod Either
pub mod Given
pub mod Slabs
pub mod Turns
pub mod Begun
pub mod Homes
pub mod CallerLemmas
