-- What proofs of other crates cite of these.
pub use Rattle.part_model.proofs.Changes.{lies_in_any, after_part-inside, after_part-outside, after_parts-at, can_move-after_part}
pub use Rattle.part_model.proofs.Changes.{holders_of-is, moves_keep_one_holder, apart_moves_commute}
pub use Rattle.part_model.proofs.Ranges.{apart_before, lies_in-is, lies_in-not, lies_in-parts, same_region-is, same_region-parts}
pub use Rattle.part_model.proofs.Sums.{sum_regions-none, sum_regions-one, sum_regions-same}
pub use Rattle.part_model.proofs.MoveCounts.{totals_follow_moves, totals_sum}
