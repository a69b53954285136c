-- The laws of the office over whole locals and over runs.
use Rattle.std.specs.Prelude.{◌≡◌, ℕ, ◌+◌, ◌<◌, ◌≤◌, Bool, true, List, [], Option, Some}
use Rattle.pool_types.specs.declared.policy.Limits.{Limits}
use Rattle.pool_types.specs.declared.policy.Policy.{Policy}
use Rattle.pool_types.specs.declared.policy.RegionRec.{RegionRec}
use Rattle.pool_types.specs.declared.values.Region.{Region}
use Rattle.pool_types.specs.Policies.{IsAllowed}
use Rattle.regions.specs.Offices.{Desk}
use Rattle.pool_words.specs.declared.words.Key.{Key}
use Rattle.pool_words.specs.Actions.{finds, after_action}
use Rattle.pool_words.specs.Words.{office_locks, regions}
use Rattle.word_codes.specs.declared.region_words.RegionWord.{RegionWord}
use Rattle.word_codes.specs.Locks.{holder_of}
use Rattle.word_codes.specs.RegionWords.{region_of}
use Rattle.step_depot.specs.Steps.{key_of}
use Rattle.word_laws.specs.Memory.{put, memory, fresh}
use Rattle.office_laws.specs.Named.{no_regions}
use Rattle.office_laws.specs.Regions.{Task, Shadow, core_in, Holds, OfficeGood}
use Rattle.office_laws.specs.Steps.{IsOtherAction, OfficeRun}
use Rattle.step_local.specs.declared.frames.Local.{Local}
use Rattle.step_local.specs.Course.{course}
use Rattle.step_runs.specs.declared.entry.Entry.{Entry}
use Rattle.step_runs.specs.Callbacks.{office_of, PoolRun}
use Rattle.step_runs.specs.Entries.{learnt}
use Rattle.step_runs.specs.Places.{has_word, move_of}
use Rattle.step_runs.specs.Runs.{Callback, Silent, home_after}
use Rattle.step_laws.specs.Desks.{DeskFits}
use Rattle.step_laws.specs.Tasks.{task_of, tasks_of}

-- a seat with nothing to do at the office writes neither the office's lock nor a region's words
abbrev pub TurnsElsewhereLeaveTheOffice : Type 0
TurnsElsewhereLeaveTheOffice = (l : Local) → task_of l ≡ Task.Away → IsOtherAction (course l)

-- no seat but these has made a step
abbrev pub OnlySeatsStep : {D : Type 0} → ℕ → (ℕ → Entry D) → Type 0
OnlySeatsStep seats entries = (seat : ℕ) → seats ≤ seat → (entries seat).rows ≡ []

-- the states that a state leads to: each step is one row of one seat's course, as in `Run`
pub data RunsOn {D : Type 0} (c : Callback D) (k : Key) (words0 : List ℕ) (home0 : Option D) (entries0 : ℕ → Entry D)
    : List ℕ → Option D → (ℕ → Entry D) → Type 0 where
  stays : RunsOn c k words0 home0 entries0 words0 home0 entries0
  steps_on : {words : List ℕ} {home : Option D} {entries : ℕ → Entry D}
      → RunsOn c k words0 home0 entries0 words home entries → (seat : ℕ) (l : Local) (desk : Option D)
      → Silent c (entries seat).local (entries seat).desk l desk → has_word (course l) ≡ true
      → RunsOn c k words0 home0 entries0 (after_action k words (course l))
      (home_after (move_of l.at (finds k words (course l))) home desk)
      (put entries seat (learnt (entries seat) l home desk (finds k words (course l))))

-- what the office's records are of use to, wherever it is
abbrev pub DesksFit : {R : Type 0} → (R → List Region) → Shadow → Option (Desk R) → Type 0
DesksFit {R} out g desk = (one : Desk R) → desk ≡ Some one → DeskFits out g one

-- a state of the pool is one that the office's steps lead to
pub record IsOffice {R : Type 0} (out : R → List Region) (k : Key) (words : List ℕ) (home : Option (Desk R))
    (entries : ℕ → Entry (Desk R)) : Type 0 where
  pub shadow : Shadow
  pub run : OfficeRun k no_regions fresh (λ seat. Task.Away) shadow (memory k words) (tasks_of entries)
  pub good : OfficeGood shadow (core_in (memory k words) (tasks_of entries))
  -- the office is sound and has a record of each region, in its slot and in the hand of the seat that has it
  pub at_home : memory k words office_locks 0 ≡ 0 → DesksFit out shadow home
  pub at_seats : (seat : ℕ) → Holds (tasks_of entries seat) → DesksFit out shadow (entries seat).desk

-- the office's own steps lead from the one state to the other
pub record LeadsOn {D : Type 0} (k : Key) (words words' : List ℕ) (entries entries' : ℕ → Entry D) : Type 0 where
  pub before : Shadow
  pub later : Shadow
  pub good : OfficeGood before (core_in (memory k words) (tasks_of entries))
  pub run : OfficeRun k before (memory k words) (tasks_of entries) later (memory k words') (tasks_of entries')
  -- the number of a region that has left is no later region's
  pub numbers : (s : ℕ) (one : RegionRec) → later.out s ≡ Some one → one.number < before.counter
      → before.out s ≡ Some one

module _ {R : Type 0} (out : R → List Region) (faults : R → ℕ) (got : R → ℕ → Option Region → R → Type 0)
    (passed : R → Region → Bool → R → Type 0) where
  -- Each state that a pool comes to that can be made with this policy and these limits, and whose callback had no
  -- region out at first, is one that the office's steps lead to, and so all holds of it that they keep.
  abbrev pub RunsKeepOffice : Type 0
  RunsKeepOffice =
      (policy : Policy) (limits : Limits) (raw : R) (words : List ℕ) (home : Option (Desk R))
      (entries : ℕ → Entry (Desk R)) → IsAllowed policy limits → out raw ≡ []
      → PoolRun out faults got passed policy limits raw words home entries → OnlySeatsStep limits.seats entries
      → IsOffice out (key_of policy limits) words home entries

  -- Between any two states of a run the office makes its own steps. So no region that comes has a number that one had.
  abbrev pub RunsGoOn : Type 0
  RunsGoOn =
      (policy : Policy) (limits : Limits) (raw : R) (words : List ℕ) (home : Option (Desk R))
      (entries : ℕ → Entry (Desk R)) (words' : List ℕ) (home' : Option (Desk R)) (entries' : ℕ → Entry (Desk R))
      → IsAllowed policy limits → out raw ≡ [] → PoolRun out faults got passed policy limits raw words home entries
      → RunsOn (office_of out faults got passed (key_of policy limits)) (key_of policy limits) words home entries
      words' home' entries' → OnlySeatsStep limits.seats entries'
      → LeadsOn (key_of policy limits) words words' entries entries'

-- a region's index, or its wall's, by the region's word
abbrev pub HasIndexOf : RegionWord → ℕ → Type 0
HasIndexOf w e = (w.first ≤ e) × (e ≤ w.first + w.granules)

-- what the words alone say
pub record WordsSay (k : Key) (words : List ℕ) (tasks : ℕ → Task) : Type 0 where
  -- no granule and no wall is in the regions of two slots
  pub apart : (s other e : ℕ) → (region_of (memory k words regions s)).live ≡ true
      → (region_of (memory k words regions other)).live ≡ true
      → HasIndexOf (region_of (memory k words regions s)) e → HasIndexOf (region_of (memory k words regions other)) e
      → s ≡ other
  -- the office's word names a seat exactly where its local says that it is there
  pub held : (seat : ℕ) → Holds (tasks seat) → holder_of (memory k words office_locks 0) ≡ Some seat
  pub named : (seat : ℕ) → holder_of (memory k words office_locks 0) ≡ Some seat → Holds (tasks seat)

module _ {R : Type 0} (out : R → List Region) (faults : R → ℕ) (got : R → ℕ → Option Region → R → Type 0)
    (passed : R → Region → Bool → R → Type 0) where
  abbrev pub LiveRegionsLieApart : Type 0
  LiveRegionsLieApart =
      (policy : Policy) (limits : Limits) (raw : R) (words : List ℕ) (home : Option (Desk R))
      (entries : ℕ → Entry (Desk R)) → IsAllowed policy limits → out raw ≡ []
      → PoolRun out faults got passed policy limits raw words home entries → OnlySeatsStep limits.seats entries
      → WordsSay (key_of policy limits) words (tasks_of entries)
