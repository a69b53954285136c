-- What laws above cite.
pub use Rattle.use_laws.proofs.Keeps.{steps_keep_pool, runs_keep_pool}
pub use Rattle.use_laws.proofs.Bare.{blocks_in_hand_are_bare, blocks_have_one_purpose}
pub use Rattle.use_laws.proofs.Apart.{objects_lie_apart, objects_lie_in_blocks}
pub use Rattle.use_laws.proofs.Stays.{others_leave_blocks_in_hand, other_steps_leave_the_shelf}
pub use Rattle.use_laws.proofs.Stays.{block_of, kept_by, kept_cached}
pub use Rattle.use_laws.proofs.Large.{freed_rests}
pub use Rattle.use_laws.proofs.Slabs.{cached_by}
pub use Rattle.use_laws.proofs.Far.{IsFar, same_self, mem_so}
