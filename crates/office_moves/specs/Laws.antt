-- The law of turns at the office.
use Rattle.std.specs.Prelude.{◌≡◌, ℕ, ◌+◌, ◌≤◌}
use Rattle.pool_types.specs.declared.policy.RegionRec.{RegionRec}
use Rattle.regions.specs.declared.errors.ObtainError.{ObtainError}
use Rattle.pool_words.specs.declared.words.Key.{Key}
use Rattle.pool_words.specs.declared.actions.Action.TheVariants.{TakeOffice, GiveOffice}
use Rattle.pool_words.specs.declared.actions.OfficeJob.{OfficeJob}
use Rattle.pool_words.specs.declared.actions.Seen.{Seen}
use Rattle.region_steps.specs.declared.office.OfficeAt.{OfficeAt}
use Rattle.office_laws.specs.Regions.{Shadow}
use Rattle.office_laws.specs.Steps.{IsFresh, shadow_came}
use Rattle.step_local.specs.declared.frames.At.{At}
use Rattle.step_local.specs.declared.frames.Local.{Local}
use Rattle.step_local.specs.declared.frames.OfficeFor.{OfficeFor}
use Rattle.step_local.specs.Course.{course}
use Rattle.step_local.specs.Learn.{learn}
use Rattle.pool_laws.specs.Wholes.{Whole, WholeGood}
use Rattle.seat_ties.specs.Left.{Turned}
use Rattle.seat_ties.specs.Ties.{SeatTied}
use Rattle.seat_ties.specs.Turns.{SeatRun, StateHere}

abbrev pub IsAtOffice : Local → Type 0
IsAtOffice l = (job : OfficeFor) × (at : OfficeAt) × (l.at ≡ At.Office job at)

abbrev pub OfficeTurnsAreSteps : Type 0
OfficeTurnsAreSteps = Turned IsAtOffice

-- what the seat is told, without a step on a word: its own step leads to a whole with the same words, where its next
-- position is there, and with these records at the office
pub record IsTold (k : Key) (w : Whole) (l : Local) (s : Seen) (office : Shadow) : Type 0 where
  pub later : Whole
  pub run : SeatRun k l.seat w later
  pub words : later.pool.mem ≡ w.pool.mem
  pub office' : later.office ≡ office
  pub here : StateHere k later l.seat (learn l s).0

-- a region that comes has no granule of another, and lies in the pool
pub record MayCome (k : Key) (w : Whole) (one : RegionRec) : Type 0 where
  pub fresh : IsFresh w.office one
  pub within : one.first + one.granules ≤ k.span

-- a region comes, none does, one is taken out to be given back, and the office is put back
pub record TurnsAreTold (k : Key) (w : Whole) (l : Local) : Type 0 where
  pub comes : (granules : ℕ) (one : RegionRec) → course l ≡ TakeOffice (OfficeJob.Obtain granules) → MayCome k w one
      → IsTold k w l (Seen.Obtained one) (shadow_came one w.office)
  pub refused : (granules : ℕ) (error : ObtainError) → course l ≡ TakeOffice (OfficeJob.Obtain granules)
      → IsTold k w l (Seen.Refused error) w.office
  pub taken : (first : ℕ) → course l ≡ TakeOffice (OfficeJob.Give first) → IsTold k w l Seen.Given w.office
  pub back : course l ≡ GiveOffice → IsTold k w l Seen.Done w.office

abbrev pub OfficeTurnsAreTold : Type 0
OfficeTurnsAreTold = (k : Key) (w : Whole) (l : Local) → WholeGood k w → SeatTied k w l.seat l → IsAtOffice l
    → TurnsAreTold k w l
