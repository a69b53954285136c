-- A reset of a quiet pool, seat by seat and turn by turn.
use Rattle.std.specs.Prelude.{◌≡◌, ◌≢◌, ℕ, suc, ◌<◌, true, List, Option, Some, None, slice_get, slice_set}
use mathlib.Core.Option.{some}
use lib.ListN.{get_elem?}
use Rattle.pool_types.specs.declared.values.Answer.{Answer}
use Rattle.pool_types.specs.declared.values.Turn.{Turn}
use Rattle.step_local.specs.declared.frames.Local.{Local}
use Rattle.step_local.specs.declared.frames.Reset.{Reset}
use Rattle.step_local.specs.Getting.{reset_begun}
use Rattle.atomic_driver.specs.Rule.{key_by}
use Rattle.pool_api.specs.Heaps.{is_going, IsResting}
use Rattle.quiet_pool.specs.Quiet.{Quiet}
use Rattle.quiet_pool.specs.Stepping.{turned}

abbrev pub locals_begun_of : Option Local → List Local → ℕ → Reset → List Local
locals_begun_of None locals seat reset = locals
locals_begun_of (Some l) locals seat reset = slice_set locals seat (reset_begun l reset).0

-- a seat begins its part of a reset
abbrev pub locals_begun : List Local → ℕ → Reset → List Local
locals_begun locals seat reset = locals_begun_of (slice_get locals seat) locals seat reset

module _ {R : Type 0} where
  abbrev pub part_begun : Quiet R → ℕ → Reset → Quiet R
  part_begun q seat reset = record q { locals = locals_begun q.locals seat reset }

  -- turns of a seat, one after another, of which none has answered
  pub data Goes (q : Quiet R) (seat : ℕ) : Quiet R → Type 0 where
    begins : Goes q seat q
    turns : {mid : Quiet R} → Goes q seat mid → is_going (turned mid seat).1 ≡ true → Goes q seat (turned mid seat).0

  -- the part of a seat: it begins, and makes turns to the one that answers
  pub record IsPart (q : Quiet R) (seat : ℕ) (reset : Reset) (now : Quiet R) : Type 0 where
    pub mid : Quiet R
    pub goes : Goes (part_begun q seat reset) seat mid
    pub answer : Answer
    pub done : (turned mid seat).1 ≡ Turn.Done answer
    pub after : now ≡ (turned mid seat).0

  -- the first so many seats give up what their heaps keep, one after another
  pub data HeapsReset (q : Quiet R) : ℕ → Quiet R → Type 0 where
    none : HeapsReset q 0 q
    heap : {seat : ℕ} {mid now : Quiet R} → HeapsReset q seat mid → IsPart mid seat Reset.Heap now
        → HeapsReset q (suc seat) now

  -- a reset: first each seat gives up what its heap keeps, and then all else goes to the bins, as seat 0
  pub record IsReset (q now : Quiet R) : Type 0 where
    pub mid : Quiet R
    pub heaps : HeapsReset q (key_by q.plan).seats mid
    pub pool : IsPart mid 0 Reset.Pool now

-- no seat is in a call or in a reset
abbrev pub AreResting : List Local → Type 0
AreResting locals = (seat : ℕ) (l : Local) → get_elem? locals seat ≡ some l → IsResting l

abbrev pub AreRestingBelow : ℕ → List Local → Type 0
AreRestingBelow end locals = (seat : ℕ) (l : Local) → get_elem? locals seat ≡ some l → seat < end → IsResting l

-- behind a seat's part it rests, and the others are as they were
pub record RestsAt (seat : ℕ) (locals now : List Local) : Type 0 where
  pub here : (l : Local) → get_elem? now seat ≡ some l → IsResting l
  pub others : (other : ℕ) → other ≢ seat → get_elem? now other ≡ get_elem? locals other
