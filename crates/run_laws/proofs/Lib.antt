mod Scripted
mod Offices
mod Depots
mod Machines
mod Lines
mod Makings
mod Traces
mod Texts
pub mod CallerLemmas
