-- What proofs of other crates cite of these.
pub use Rattle.index_lists.proofs.Times.{none_behind, not_behind, not_first, times-list_without, times-here}
pub use Rattle.index_lists.proofs.Listed.{below_in, in_one, in_some, list_of, none_from_each, once_in, one_list, place_in}
pub use Rattle.index_lists.proofs.Listed.{members-with_first, members-without, IsIn-with_first}
pub use Rattle.index_lists.proofs.Listed.{AreApart-with_first, AreApart-without}
pub use Rattle.index_lists.proofs.Walks.{few_members}
