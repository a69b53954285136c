-- The office is sound without the region that left.
use Rattle.std.proofs.Common.{sym}
use Rattle.regions.proofs.Shrinking.{shrunk}
use Rattle.regions.proofs.office.Office.give.Goals as goal

pub invariant_of-self : goal.invariant_of-self
invariant_of-self g c =
    rw c.remove-record.ensures.items
    (shrunk g.R.Raw.out _ c.put.new.self c.position_of_first-position.result c.remove-record.result c.self.invariant
    (rw c.as_slice.ensures.value at c.position_of_first-position.ensures.below) (sym c.remove-record.ensures.value) c.put.ensures.out)

pub returns-clause-sound : goal.returns-clause-sound
returns-clause-sound g c = invariant_of-self g c
