-- A quiet pool, as clauses see it, and the state of a run that it is.
use Rattle.std.specs.Prelude.{◌≡◌, ◌⊎◌, ℕ, ◌≤◌, Bool, true, List, [], length, Option, Some, None}
use mathlib.Core.Option.{some}
use lib.ListN.{get_elem?}
use Rattle.pool_types.specs.declared.values.Region.{Region}
use Rattle.regions.specs.Offices.{Desk}
use Rattle.step_local.specs.declared.frames.Local.{Local}
use Rattle.step_local.specs.Getting.{is_idle}
use Rattle.step_runs.specs.declared.entry.Entry.{Entry}
use Rattle.step_runs.specs.Callbacks.{office_of, PoolRun}
use Rattle.step_runs.specs.Entries.{first_entry}
use Rattle.step_runs.specs.Runs.{Callback, Silent}
use Rattle.word_totals.specs.Reading.{Still}
use Rattle.quiet_laws.specs.Resets.{IsResetting}
use Rattle.atomic_driver.specs.declared.rule.Note.{Note}
use Rattle.atomic_driver.specs.declared.rule.Plan.{Plan}
use Rattle.atomic_driver.specs.Rule.{key_by}

-- what the pool was made with, the value of each word, the office, and each seat's local and entry, by number
pub record Quiet (R : Type 0) : Type 0 where
  pub plan : Plan
  pub words : List ℕ
  pub desk : Desk R
  pub locals : List Local
  pub entries : List (Entry (Desk R))

-- what is counted of it
abbrev pub still_of : {R : Type 0} → Quiet R → Still
still_of q = record { key = key_by q.plan; words = q.words; locals = q.locals }

-- the words of a note
abbrev pub words_noted : {D : Type 0} → Option (Note D) → List ℕ
words_noted None = []
words_noted (Some note) = note.words

-- a seat between two calls, or in a reset
abbrev pub MayReset : Local → Type 0
MayReset l = (is_idle l.at ≡ true) ⊎ IsResetting l

-- the seat's local is what silent turns behind its last step lead to, and it has not taken the office
pub record IsBehind {D : Type 0} (c : Callback D) (e : Entry D) (l : Local) : Type 0 where
  pub since : Silent c e.local e.desk l None
  pub may : MayReset l

abbrev pub AreIdle : List Local → Type 0
AreIdle locals = (seat : ℕ) (l : Local) → get_elem? locals seat ≡ some l → is_idle l.at ≡ true

module _ {R : Type 0} (out : R → List Region) (faults : R → ℕ) (got : R → ℕ → Option Region → R → Type 0)
    (passed : R → Region → Bool → R → Type 0) where
  -- the words, the office and the entries are those of a state of a run: the entries are those of the pool's seats, by
  -- number, and no other seat has made a step
  pub record IsState (q : Quiet R) : Type 0 where
    pub raw : R
    pub none_out : out raw ≡ []
    pub all : ℕ → Entry (Desk R)
    pub run : PoolRun out faults got passed q.plan.policy q.plan.limits raw q.words (Some q.desk) all
    pub many : length q.entries ≡ (key_by q.plan).seats
    pub each : (seat : ℕ) (e : Entry (Desk R)) → get_elem? q.entries seat ≡ some e → all seat ≡ e
    pub others : (seat : ℕ) → (key_by q.plan).seats ≤ seat → all seat ≡ first_entry (key_by q.plan) seat
    pub count : length q.locals ≡ (key_by q.plan).seats
    pub behind : (seat : ℕ) (l : Local) (e : Entry (Desk R)) → get_elem? q.locals seat ≡ some l
        → get_elem? q.entries seat ≡ some e → IsBehind (office_of out faults got passed (key_by q.plan)) e l
