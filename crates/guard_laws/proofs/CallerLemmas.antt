-- What laws above cite.
pub use Rattle.guard_laws.proofs.Edges.{edge_each, edge_both, edge_here, edge_else, IsOut, range_in, range_out}
pub use Rattle.guard_laws.proofs.Edges.{in_or, range_each}
pub use Rattle.guard_laws.proofs.Blocks.{same_block, blocks_apart, edges_apart, no_edge_within, use_was}
pub use Rattle.guard_laws.proofs.Blocks.{Moved, used_moves, ranged_was}
pub use Rattle.guard_laws.proofs.Wins.{free_is_open, open_is_bin}
pub use Rattle.guard_laws.proofs.Words.{edge_stored, word_is, guard_is, free_reads, stored-apart, SameGuards}
pub use Rattle.guard_laws.proofs.Words.{same_after}
pub use Rattle.guard_laws.proofs.Keeps.{read_puts, read_same, free_within, open_within, fits_at, steps_keep_guards}
pub use Rattle.guard_laws.proofs.Keeps.{runs_keep_guards, away_piece}
pub use Rattle.guard_laws.proofs.Regroup.{quiet_stands, word_marked, reused}
pub use Rattle.guard_laws.proofs.Cuts.{cut}
pub use Rattle.guard_laws.proofs.Drains.{drained_was}
pub use Rattle.guard_laws.proofs.Regions.{came}
pub use Rattle.guard_laws.proofs.Hands.{others_leave_hands}
pub use Rattle.guard_laws.proofs.Tells.{both_words_or_none, free_guards_tell_blocks, fresh_pools_have_no_blocks}
pub use Rattle.guard_laws.proofs.Tells.{zero_reads}
pub use Rattle.guard_laws.proofs.Examples.{stands_at}
