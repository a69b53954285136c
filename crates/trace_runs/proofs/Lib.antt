mod LinesLead
mod SlotLemmas
mod RunLemmas
