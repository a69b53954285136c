-- What laws above cite.
pub use Rattle.backend_moves.proofs.Below.{LiesWithin, bin_is_not_drained, lies_within, range_in, range_out, won_is_bin}
pub use Rattle.backend_moves.proofs.BinJobs.{BinMoved, HasAt, bin_moves, free_stays, has_at, has_last}
pub use Rattle.backend_moves.proofs.BinJobs.{left_hands, take_stays}
pub use Rattle.backend_moves.proofs.Finish.{IsBackendAt, OthersStay, leaves_by, others_stay, told_is}
pub use Rattle.backend_moves.proofs.Looks.{idle_away, is_free, look_moves, look_stays, none_move}
pub use Rattle.backend_moves.proofs.Queues.{queues_are_turned}
pub use Rattle.backend_moves.proofs.Wins.{WinMoved, taken_hands, win_moves, win_stays}
pub use Rattle.backend_moves.proofs.Wholes.{wholes_are_turned}
pub use Rattle.backend_moves.proofs.Scans.{scans_are_turned}
pub use Rattle.backend_moves.proofs.Cuts.{cuts_are_turned}
pub use Rattle.backend_moves.proofs.Splits.{Readied, ready_moves, split_moves}
