-- What is cited of the crates below.
pub use Rattle.word_codes.proofs.CallerLemmas.{guards_read_back}
pub use Rattle.word_laws.proofs.CallerLemmas.{equal_or, put-same, put-other, stored-valid}
pub use Rattle.chain_laws.proofs.CallerLemmas.{tally-here, tally-else}
pub use Rattle.guard_laws.proofs.CallerLemmas.{Moved, used_moves, zero_reads}
pub use Rattle.slab_laws.proofs.CallerLemmas.{one_slab_by_its_lists, unit-at}
pub use Rattle.object_laws.proofs.CallerLemmas.{fits_at as object_fits_at}
pub use Rattle.object_laws.proofs.CallerLemmas.{private-there, listed-there, slab_is, handed-of}
pub use Rattle.mail_laws.proofs.CallerLemmas.{fetched-his}
pub use Rattle.mail_laws.proofs.Seats.{fits_at as mail_fits_at}
pub use Rattle.orphan_laws.proofs.CallerLemmas.{fits_at as orphan_fits_at}
pub use Rattle.orphan_laws.proofs.Words.{after-apart}
pub use Rattle.office_laws.proofs.CallerLemmas.{fits_at as office_fits_at}
pub use Rattle.cache_laws.proofs.CallerLemmas.{gets_take_the_newest, puts_release_the_oldest, sweeps_release_the_oldest}
pub use Rattle.use_laws.proofs.CallerLemmas.{steps_keep_pool, objects_lie_apart, blocks_in_hand_are_bare, cached_by}
pub use Rattle.shelf_laws.proofs.Taking.{at_bin, IsOnce, Leaves, in_here, in_none}
pub use Rattle.shelf_laws.proofs.Stocks.{got_leaves, kept_leaves, swept_leaves}
pub use Rattle.shelf_laws.proofs.Jobs.{once_in}
pub use Rattle.shelf_laws.proofs.Keeps.{runs_keep_shelf, blocks_in_bins_are_free}
pub use Rattle.region_laws.proofs.Granules.{IsUnsettled, no_edge, all_outside}
pub use Rattle.region_laws.proofs.Keeps.{runs_keep_regions, objects_lie_in_regions}
pub use Rattle.free_laws.proofs.Words.{insert_writes, remove_writes, push_writes}
pub use Rattle.free_laws.proofs.Keeps.{runs_keep_free}
pub use Rattle.free_laws.proofs.Places.{granules_have_one_place}
pub use Rattle.post_laws.proofs.Ties.{IsAlone, mail_alone}
pub use Rattle.post_laws.proofs.Premises.{swaps_give_orphans, adopters_have_the_orphan, left_slabs_have_their_record}
pub use Rattle.post_laws.proofs.Premises.{returners_have_the_orphan}
pub use Rattle.post_laws.proofs.Lists.{given_back_is_not_lost}
pub use Rattle.post_laws.proofs.Keeps.{runs_keep_post}
