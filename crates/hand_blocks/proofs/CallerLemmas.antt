-- What laws above cite.
pub use Rattle.hand_blocks.proofs.Counts.{changes_count_blocks, count_of}
pub use Rattle.hand_blocks.proofs.Backend.{all_beside}
pub use Rattle.hand_blocks.proofs.Begun.{begins_leave_hands, fresh_hands_are_empty, idle_hands_are_empty}
pub use Rattle.hand_blocks.proofs.Turns.{turns_change_hands, turns_keep_hand_fits}
pub use Rattle.hand_blocks.proofs.Lists.{Apart, all_of, alters_all, alters_apart, first_of_all, rest_of_all}
pub use Rattle.hand_blocks.proofs.ResetTurns.{all_beside_bin}
