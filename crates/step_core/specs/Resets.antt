-- What a reset does, seat by seat and turn by turn.
use Rattle.std.specs.Prelude.{◌≡◌, ℕ, zero, suc, ◌+◌, Bool, true, false, cond, ltb, is_none, List, Option, Some, None, slice_get, slice_set, Result, Ok, Err}
use Rattle.pool_types.specs.declared.endings.ResetError.{ResetError}
use Rattle.pool_types.specs.declared.values.InCall.{InCall}
use Rattle.pool_types.specs.declared.values.Region.{Region}
use Rattle.pool_types.specs.declared.values.Turn.{Turn}
use Rattle.step_local.specs.declared.frames.Local.{Local}
use Rattle.step_local.specs.Getting.{reset_begun as part_begun}
use Rattle.step_local.specs.declared.frames.Reset.{Reset}
use Rattle.step_core.specs.Machines.{Machine, lowest_in_call}
use Rattle.step_core.specs.Turns.{StepsAt}
use Rattle.step_core.specs.declared.resets.Resetting.{Resetting}
use Rattle.step_core.specs.declared.resets.Resetting.TheVariants.{Heap, Pool}

-- the seat as which a part of a reset steps
abbrev pub seat_of : Resetting → ℕ
seat_of (Heap seat) = seat
seat_of Pool = 0

abbrev pub kind_of : Resetting → Reset
kind_of (Heap seat) = Reset.Heap
kind_of Pool = Reset.Pool

-- what comes next, where there are so many seats
abbrev pub part_after : ℕ → Resetting → Option Resetting
part_after seats (Heap seat) = cond (ltb (seat + 1) seats) (Some (Heap (seat + 1))) (Some Pool)
part_after seats Pool = None

abbrev pub begun_of_seat : Option Local → List Local → Resetting → List Local
begun_of_seat None locals part = locals
begun_of_seat (Some l) locals part = slice_set locals (seat_of part) (part_begun l (kind_of part)).0

-- a seat begins its part
abbrev pub begun_at : List Local → Resetting → List Local
begun_at locals part = begun_of_seat (slice_get locals (seat_of part)) locals part

module _ {R : Type 0} where
  abbrev pub begun_part : Machine R → Option Resetting → Machine R
  begun_part m None = record m { resetting = None }
  begun_part m (Some part) = record m { locals = begun_at m.locals part; resetting = Some part }

  abbrev pub reset_begun_by : Option ℕ → Machine R → Machine R × Result Unit InCall
  reset_begun_by (Some seat) m = (m, Err (record { seat = seat }))
  reset_begun_by None m = (begun_part m (Some (Heap 0)), Ok tt)

  -- a reset begins where no seat is in a call
  abbrev pub reset_begun : Machine R → Machine R × Result Unit InCall
  reset_begun m = reset_begun_by (lowest_in_call m.locals) m

  abbrev pub part_turned : Resetting → Turn → Machine R → Machine R × Bool
  part_turned part (Turn.Done answer) m =
      (begun_part m (part_after m.stock.key.seats part), is_none (part_after m.stock.key.seats part))
  part_turned part Turn.Stepped m = (m, false)
  part_turned part (Turn.Waits awaited) m = (m, false)
  part_turned part Turn.Idle m = (m, false)

module _ {R : Type 0} (out : R → List Region) (faults : R → ℕ) (got : R → ℕ → Option Region → R → Type 0)
    (passed : R → Region → Bool → R → Type 0) where
  -- a step of a part, and what follows where the part is done
  pub record PartTurns (old : Machine R) (part : Resetting) (done : Bool) (new : Machine R) : Type 0 where
    pub middle : Machine R
    pub turn : Turn
    pub steps : StepsAt out faults got passed old (seat_of part) turn middle
    pub after : (new, done) ≡ part_turned part turn middle

  abbrev pub ResetTurnsBy : Option Resetting → Machine R → Bool → Machine R → Type 0
  ResetTurnsBy None old done new = (done ≡ true) × (new ≡ old)
  ResetTurnsBy (Some part) old done new = PartTurns old part done new

  -- the next step of a reset, and whether the reset is done
  abbrev pub ResetTurns : Machine R → Bool → Machine R → Type 0
  ResetTurns old done new = ResetTurnsBy old.resetting old done new

  -- so many of them, after which the reset is not done
  abbrev pub ResetsOn : ℕ → Machine R → Machine R → Type 0
  ResetsOn zero old new = new ≡ old
  ResetsOn (suc turns) old new =
      (middle : Machine R) × ResetsOn turns old middle × ResetTurns middle false new

  -- all of them
  pub record IsReset (old new : Machine R) : Type 0 where
    pub turns : ℕ
    pub last : Machine R
    pub before : ResetsOn turns old last
    pub done : ResetTurns last true new

  -- some of them
  pub record IsAmid (old new : Machine R) : Type 0 where
    pub turns : ℕ
    pub so_far : ResetsOn turns old new

  -- from a reset that was begun on: all of it, or want of memory amid it
  abbrev pub ResetsFrom : Machine R → Result Unit ResetError → Machine R → Type 0
  ResetsFrom old (Ok done) new = IsReset old new
  ResetsFrom old (Err (ResetError.CallBegun seat)) new = ⊥
  ResetsFrom old (Err ResetError.NoMemory) new = IsAmid old new

  abbrev pub ResetsBy : Option ℕ → Machine R → Result Unit ResetError → Machine R → Type 0
  ResetsBy (Some seat) old result new = (result ≡ Err (ResetError.CallBegun seat)) × (new ≡ old)
  ResetsBy None old result new = ResetsFrom (begun_part old (Some (Heap 0))) result new

  -- a reset: none begins where a seat is in a call
  abbrev pub Resets : Machine R → Result Unit ResetError → Machine R → Type 0
  Resets old result new = ResetsBy (lowest_in_call old.locals) old result new
