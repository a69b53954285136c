pub mod Drain
pub mod Put
