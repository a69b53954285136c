pub mod Draft
pub mod Pieces
pub mod Answers
pub mod Moves
pub mod Totals
pub mod Entries
pub mod Reports
