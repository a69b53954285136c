pub mod PlainLemmas
pub mod ReplyLemmas
pub mod NameLemmas
pub mod Steps
pub mod RunLemmas
pub mod ReplayLemmas
pub mod ClearLemmas
mod OneReply
mod WantedLemmas
pub mod StatusLemmas
mod TextLemmas
