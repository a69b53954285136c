-- Where the office is that a seat has taken, and what a step makes of that.
use Rattle.std.specs.Prelude.{◌≡◌, ℕ, Bool, true, false, cond, eqb, Option, Some, None}
use Rattle.pool_words.specs.declared.actions.Action.{Action}
use Rattle.pool_words.specs.declared.actions.Action.TheVariants.{Load, Store, Swap, Exchange, Add, TakeOffice}
use Rattle.pool_words.specs.declared.actions.Action.TheVariants.{GiveOffice, Nothing}
use Rattle.pool_words.specs.declared.actions.OfficeJob.{OfficeJob}
use Rattle.region_steps.specs.declared.office.OfficeAt.{OfficeAt}
use Rattle.region_steps.specs.declared.office.OfficeEnd.{OfficeEnd}
use Rattle.step_local.specs.declared.frames.At.{At}
use Rattle.step_local.specs.declared.frames.Local.{Local}
use Rattle.step_local.specs.Backend.{office_job}

-- the action is one on a word
abbrev pub has_word : Action → Bool
has_word (Load w) = true
has_word (Store w value) = true
has_word (Swap w value) = true
has_word (Exchange w from to) = true
has_word (Add w value) = true
has_word (TakeOffice job) = false
has_word GiveOffice = false
has_word Nothing = false

-- a seat has not taken the office, or it has: in its slot, or in hand
pub data Carry : Type 0 where
  away : Carry
  in_slot : Carry
  in_hand : Carry

-- the office is taken where its lock is won, and until the lock is freed
abbrev pub carry_at : OfficeAt → Carry
carry_at OfficeAt.Lock = away
carry_at (OfficeAt.Region slot given) = in_slot
carry_at (OfficeAt.Take given) = in_slot
carry_at (OfficeAt.Base came) = in_hand
carry_at (OfficeAt.Enter came) = in_hand
carry_at (OfficeAt.WallSize came) = in_hand
carry_at (OfficeAt.WallLeft came) = in_hand
carry_at (OfficeAt.FirstSize came) = in_hand
carry_at (OfficeAt.LastLeft came) = in_hand
carry_at (OfficeAt.Remove given) = in_hand
carry_at (OfficeAt.Back end) = in_hand
carry_at (OfficeAt.Unlock end) = in_slot

abbrev pub carry_of : At → Carry
carry_of (At.Office job at) = carry_at at
carry_of _ = away

-- what the seat has of the office there
abbrev pub HasDesk : {D : Type 0} → Carry → Option D → Type 0
HasDesk away desk = desk ≡ None
HasDesk {D} in_slot desk = (one : D) × (desk ≡ Some one)
HasDesk {D} in_hand desk = (one : D) × (desk ≡ Some one)

-- what a step on a word makes of the office: it stays where it is, the seat takes it, or gives it back
pub data Move : Type 0 where
  stays : Move
  takes : Move
  gives : Move

abbrev pub move_at : OfficeAt → ℕ → Move
move_at OfficeAt.Lock found = cond (eqb found 0) takes stays
move_at (OfficeAt.Unlock end) found = gives
move_at (OfficeAt.Region slot given) found = stays
move_at (OfficeAt.Take given) found = stays
move_at (OfficeAt.Base came) found = stays
move_at (OfficeAt.Enter came) found = stays
move_at (OfficeAt.WallSize came) found = stays
move_at (OfficeAt.WallLeft came) found = stays
move_at (OfficeAt.FirstSize came) found = stays
move_at (OfficeAt.LastLeft came) found = stays
move_at (OfficeAt.Remove given) found = stays
move_at (OfficeAt.Back end) found = stays

abbrev pub move_of : At → ℕ → Move
move_of (At.Office job at) found = move_at at found
move_of _ found = stays

-- the index at which the region begins that is given back
abbrev pub given_by : OfficeJob → Option ℕ
given_by (OfficeJob.Obtain granules) = None
given_by (OfficeJob.Give first) = Some first

abbrev pub gives_in : OfficeJob → OfficeAt → Option ℕ
gives_in job (OfficeAt.Remove given) = given_by job
gives_in job _ = None

abbrev pub gives_at : Local → At → Option ℕ
gives_at l (At.Office job at) = gives_in (office_job l job) at
gives_at l _ = None

-- the region that is passed to the callback with the next step, right behind it
abbrev pub gives_of : Local → Option ℕ
gives_of l = gives_at l l.at

abbrev pub passed_with : OfficeJob → OfficeEnd → Option ℕ
passed_with job OfficeEnd.Given = given_by job
passed_with job (OfficeEnd.Obtained one) = None
passed_with job (OfficeEnd.Refused error) = None

abbrev pub passed_in : OfficeJob → OfficeAt → Option ℕ
passed_in job (OfficeAt.Back end) = passed_with job end
passed_in job _ = None

abbrev pub passed_at : Local → At → Option ℕ
passed_at l (At.Office job at) = passed_in (office_job l job) at
passed_at l _ = None

-- the region that was passed to the callback right behind the last step
abbrev pub passed_of : Local → Option ℕ
passed_of l = passed_at l l.at
