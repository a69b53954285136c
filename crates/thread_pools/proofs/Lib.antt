pub mod RowLemmas
pub mod FreshLemmas
