pub mod TellLemmas
pub mod WorkLemmas
pub mod SlotLemmas
