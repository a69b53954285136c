pub mod Plain
pub mod Summaries
pub mod Explained
pub mod Settled
pub mod Replay
pub mod Running
pub mod Laws
