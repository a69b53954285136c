-- The office is sound with the region that came.
use Rattle.std.proofs.Common.{sym, subst}
use Rattle.regions.specs.Offices.{Desk}
use Rattle.regions.specs.Obtaining.{HasNumber}
use Rattle.regions.proofs.Growing.{came}
use Rattle.regions.proofs.office.Office.obtain.Goals as goal

pub invariant_of-self-2 : goal.invariant_of-self-2
invariant_of-self-2 g c =
    rw c.push.ensures.items
    (came g.R.Raw.out _ c.record_of-record.result c.get.new.self c.in_ok-asking.asking.bytes c.in_ok-asking.asking.number c.in-Some.region
    c.record_of-record.ensures.number c.record_of-record.ensures.region c.self.invariant
    (subst (λ (desk : Desk g.row.R.Denot). HasNumber desk c.in_ok-asking.asking.number) (sym c.self.view_is) c.in_ok-asking.ensures.number)
    c.in_ok-asking.ensures.least c.in-Some.ensures.given (rw c.as_slice-records.ensures.value at c.record_of-record.ensures.placed) c.in-Some.ensures.out)

pub returns-clause-sound : goal.returns-clause-sound
returns-clause-sound g c = invariant_of-self-2 g c
