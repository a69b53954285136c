pub mod Rows
pub mod Moves
pub mod Placing
pub mod Puts
pub mod Maps
pub mod Refuted
pub mod CallerLemmas
