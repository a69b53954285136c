-- A heap between two calls, and what a call makes of it.
use Rattle.std.specs.Prelude.{◌≡◌, ℕ, Bool, true, false, List, [], ◌∷◌, ◌++◌, Option, Result, Ok, Err}
use mathlib.Core.Option.{some}
use lib.ListN.{get_elem?}
use Rattle.pool_types.specs.declared.raw.Raw.{Ghosts}
use Rattle.pool_types.specs.declared.values.Answer.{Answer}
use Rattle.pool_types.specs.declared.values.InCall.{InCall}
use Rattle.pool_types.specs.declared.values.Region.{Region}
use Rattle.pool_types.specs.declared.values.Request.{Request}
use Rattle.pool_types.specs.declared.values.Turn.{Turn}
use Rattle.pool_words.specs.declared.actions.Action.TheVariants.{Nothing}
use Rattle.pool_words.specs.declared.actions.Seen.{Seen}
use Rattle.regions.specs.Offices.{Desk}
use Rattle.step_local.specs.declared.frames.Local.{Local}
use Rattle.step_local.specs.Course.{course}
use Rattle.step_local.specs.Frames.{made}
use Rattle.step_local.specs.Getting.{begun, is_idle}
use Rattle.step_local.specs.Learn.{learn}
use Rattle.step_runs.specs.declared.entry.Entry.{Entry}
use Rattle.step_runs.specs.declared.entry.Told.{Told}
use Rattle.step_runs.specs.Entries.{first_entry}
use Rattle.atomic_driver.specs.declared.pool.Shared.{Shared}
use Rattle.atomic_driver.specs.declared.rule.Plan.{Plan}
use Rattle.atomic_driver.specs.declared.seat.DriverSeat.{DriverSeat}
use Rattle.atomic_driver.specs.Rule.{key_by}
use Rattle.atomic_driver.specs.Steps.{own_of, Acts, PoolDriven}
use Rattle.call_laws.specs.Calls.{IsCalling, is_reset_at}

-- what a heap's own entry is: its steps, its answers, what it granted and what it freed, as of its last step
abbrev pub entry_of : {R : Type 0} {raw : Ghosts R} → DriverSeat R raw → Entry (Desk R)
entry_of x = own_of x.key x.place.me.0.entries

-- no call is begun, and no reset
abbrev pub IsResting : Local → Type 0
IsResting l = (is_idle l.at ≡ true) × IsCalling l

-- a call is begun, and no reset
abbrev pub IsInCall : Local → Type 0
IsInCall l = (is_reset_at l.at ≡ false) × IsCalling l

-- turns that answer nothing
abbrev pub is_going : Turn → Bool
is_going (Turn.Done answer) = false
is_going Turn.Stepped = true
is_going (Turn.Waits awaited) = true
is_going Turn.Idle = true

module _ {D : Type 0} where
  -- turns of one call, one after another, of which none has answered yet: each makes one row of the local's course
  pub data Goes (l : Local) (e : Entry D) : Local → Entry D → Type 0 where
    begins : Goes l e l e
    turns : {mid : Local} {was : Entry D} → Goes l e mid was → (now : Local) (after : Entry D) (turn : Turn)
        → Acts mid was now after turn → is_going turn ≡ true → Goes l e now after

  -- the turns of a call, to the one that answers it
  pub record Answers (l : Local) (e : Entry D) (answer : Answer) (now : Local) (after : Entry D) : Type 0 where
    pub mid : Local
    pub was : Entry D
    pub goes : Goes l e mid was
    pub last : Acts mid was now after (Turn.Done answer)

-- what is told of an answer that came with a step
abbrev pub told : Request → Answer → Told
told request answer = record { request = request; answer = answer }

-- the answers of a heap with this one more, or as they were
abbrev pub answers_after : Bool → Request → Answer → List Told → List Told
answers_after true request answer answers = answers ++ (told request answer ∷ [])
answers_after false request answer answers = answers

module _ {D : Type 0} where
  -- What is told of a call that was answered. Where it made a step, the heap's answers have it; else the request and
  -- the heap's local alone decide the answer, and nothing has changed but that.
  pub record IsTold (l : Local) (e : Entry D) (request : Request) (answer : Answer) (now : Local) (after : Entry D)
      : Type 0 where
    pub stepped : Bool
    pub answers_are : after.answers ≡ answers_after stepped request answer e.answers
    pub alone : stepped ≡ false → (course (begun l request).0 ≡ Nothing)
        × (learn (begun l request).0 Seen.Done ≡ (now, Turn.Done answer)) × (after ≡ e)
    pub seat : now.seat ≡ l.seat
    pub key : now.key ≡ l.key
    pub rests : IsResting now

  -- A call that was answered: it begins, and its turns are rows of its course, to the one that answers. One that is
  -- refused, as another is begun, changes nothing.
  abbrev pub CalledBy : Local → Entry D → Request → Result Answer InCall → Local → Entry D → Type 0
  CalledBy l e request (Ok answer) now after = (is_idle l.at ≡ true) × Answers (begun l request).0 e answer now after
      × (after.seat ≡ e.seat) × (IsResting l → IsTold l e request answer now after)
  CalledBy l e request (Err refused) now after = (is_idle l.at ≡ false) × (now ≡ l) × (after ≡ e)

module _ {R : Type 0} (out : R → List Region) (faults : R → ℕ) (got : R → ℕ → Option Region → R → Type 0)
    (passed : R → Region → Bool → R → Type 0) where
  -- the heap is one of the pool
  pub record IsHeap {raw : Ghosts R} (s : Shared R) (x : DriverSeat R raw) : Type 0 where
    pub same_table : x.place.table_id ≡ s.board.shared.table_id
    pub same_plan : x.plan ≡ s.plan
    pub driven : PoolDriven out faults got passed x.plan x.local x.office x.place.me

  -- the heap is the one of this number, and has made no turn
  pub record IsFresh {raw : Ghosts R} (s : Shared R) (seat : ℕ) (x : DriverSeat R raw) : Type 0 where
    pub heap : IsHeap s x
    pub fresh : x.local ≡ made (key_by s.plan) seat
    pub first : entry_of x ≡ first_entry (key_by s.plan) seat

  -- they are the heaps of a new pool, each at its number
  abbrev pub AreFresh : {raw : Ghosts R} → Shared R → List (DriverSeat R raw) → Type 0
  AreFresh {raw} s xs = (i : ℕ) (x : DriverSeat R raw) → get_elem? xs i ≡ some x → IsFresh s i x
