mod Pieces
mod Units
mod Placed
mod PlacedSmall
mod PlacedLarge
mod PlacedBackend
mod Served
mod Cached
mod Turns
mod Lies
pub mod CallerLemmas
