-- What laws above cite.
pub use Rattle.step_fits.proofs.Begun.{begins_keep_fits, fresh_locals_fit, resets_keep_fits}
pub use Rattle.step_fits.proofs.Follows.{cached_slabs_have_room, ended_slabs_hold_nothing, gets_are_of_bins}
pub use Rattle.step_fits.proofs.Follows.{grants_are_in_kept_slabs, grants_have_numbers, kept_slabs_are_of_the_pool}
pub use Rattle.step_fits.proofs.Follows.{nothing_lies_aside_elsewhere, place_at, seats_of_pools_fit}
pub use Rattle.step_fits.proofs.Follows.{stages_of_mailboxes, sweeps_are_of_bins}
pub use Rattle.step_fits.proofs.Heaps.{class-found, class-low, from-found, slab-is}
pub use Rattle.step_fits.proofs.Turns.{turns_keep_fits}
