-- What laws above cite.
pub use Rattle.object_laws.proofs.Parts.Marks.{granted_is_held, granted-cases, end-cases, grants-granted, grants-ended}
pub use Rattle.object_laws.proofs.Parts.Out.{out-cases, out-inside, room_for}
pub use Rattle.object_laws.proofs.Parts.Once.{privates-none, privates-other, listed-none, private-there, listed-there}
pub use Rattle.object_laws.proofs.Parts.Chains.{chain-marked, public-pushed, chain-starts, chain_at}
pub use Rattle.object_laws.proofs.Seats.{is_by, by_other, note-stays, task-stays, taken-stays, seats_keep, fits_at}
pub use Rattle.object_laws.proofs.Seats.{taken_at, hand_at, head-mine}
pub use Rattle.object_laws.proofs.Facts.{slab_is, handed-of, small_is, large_is, none-out, head-small}
pub use Rattle.object_laws.proofs.EndRows.{own_keeps, other_keeps, large_keeps}
pub use Rattle.object_laws.proofs.PostRows.{link_keeps, list_keeps}
pub use Rattle.object_laws.proofs.JoinRows.{take_keeps, walk_keeps, tie_keeps, stand_keeps, notes_keep}
pub use Rattle.object_laws.proofs.GrantRows.{private_keeps, rest_keeps, block_keeps}
pub use Rattle.object_laws.proofs.SlabRows.{keepers_keep, cached_keep, ready_keeps, begin_keeps, end_keeps}
pub use Rattle.object_laws.proofs.Looks.{looks_keep}
pub use Rattle.object_laws.proofs.Keeps.{steps_keep_objects, runs_keep_objects}
