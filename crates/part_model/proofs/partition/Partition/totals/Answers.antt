use Rattle.std.proofs.Common.{refl, sym, ◌≤◌, ◌-◌, ◌^◌, subst}
use Rattle.part_model.specs.Stretches.{holder_at}
use Rattle.part_model.specs.Totals.{has_holder, bytes_held}
use Rattle.part_model.proofs.Counts.{bytes-stretches}
use Rattle.part_model.proofs.partition.Partition.totals.Goals as goal

pub totals_of-requires-clause-fits : goal.totals_of-requires-clause-fits
totals_of-requires-clause-fits c =
    rw c.as_slice.ensures.value
    (subst (λ n. n ≤ 2 ^ 64 - 1) (bytes-stretches has_holder refl c.self.inside.stretches.items c.self.invariant)
    (subst (λ stretches. bytes_held (holder_at stretches) ≤ 2 ^ 64 - 1) (sym c.self.view_is) c.requires))
