pub mod Exact
pub mod Growing
pub mod GapLemmas
pub mod Shrinking
pub mod SlotLemmas
