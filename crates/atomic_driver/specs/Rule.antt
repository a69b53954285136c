-- The rule of the table: its words, the office's slot and the entries of all views are a state that a run comes to.
-- It says nothing more of them.
use Rattle.std.specs.Prelude.{◌≡◌, ◌⊎◌, ℕ, zero, suc, ◌<◌, ◌≤◌, List, [], ◌∷◌, ◌++◌, Bool, false, Option, Some, None}
use mathlib.Core.Option as maybe
use mathlib.Core.Option.{some, none}
use lib.ListN.{get_elem?}
use Rattle.pool_types.specs.declared.values.Region.{Region}
use Rattle.pool_words.specs.declared.words.Key.{Key}
use Rattle.pool_words.specs.Words.{words_of}
use Rattle.regions.specs.Offices.{Desk, desk_of}
use Rattle.step_depot.specs.Steps.{key_of}
use Rattle.step_runs.specs.declared.entry.Entry.{Entry}
use Rattle.step_runs.specs.Entries.{first_entry}
use Rattle.step_runs.specs.Runs.{Callback, Run}
use Rattle.step_runs.specs.Callbacks.{office_of}
use Rattle.atomic_table.specs.Seated.{TableId}
use Rattle.atomic_driver.specs.declared.rule.Note.{Note}
use Rattle.atomic_driver.specs.declared.rule.Plan.{Plan}
use Rattle.atomic_driver.specs.declared.rule.View.{View}

-- the key of a pool that is made so
abbrev pub key_by : Plan → Key
key_by plan = key_of plan.policy plan.limits

abbrev pub no_plan : Plan
no_plan = record {
  policy = record {
    gets = false;
    frees = false;
    version = 0;
    granularity = 0;
    fixed = false;
    keep = false;
    reserved = 0;
  };
  limits = record { pool = 0; seats = 0; span = 0; region = 0 };
}

-- a view with no note
abbrev pub plain : {D : Type 0} → List (Entry D) → View D
plain entries = record { entries = entries; note = None }

-- the entries of n seats of a new pool, from this one on
abbrev pub first_entries : {D : Type 0} → Key → ℕ → ℕ → List (Entry D)
first_entries k seat zero = []
first_entries k seat (suc n) = first_entry k seat ∷ first_entries k (suc seat) n

abbrev pub first_view : {D : Type 0} → Key → View D
first_view k = plain (first_entries k 0 k.seats)

abbrev pub first_view_of : {D : Type 0} → Plan → View D
first_view_of plan = first_view (key_by plan)

module _ {D : Type 0} where
  -- what lies in the one slot
  abbrev pub home_of : List (maybe.Option (Option D)) → Option D
  home_of [] = None
  home_of (none ∷ homes) = None
  home_of (some desk ∷ homes) = desk

  -- each entry of a view is that of its seat, and the view owns the seat
  pub record IsTied (k : Key) (all : ℕ → Entry D) (owner : ℕ → ℕ) (id : ℕ) (e : Entry D) : Type 0 where
    pub owned : owner e.seat ≡ id
    pub entry : all e.seat ≡ e
    pub low : e.seat < k.seats

  abbrev pub Tied : Key → (ℕ → Entry D) → (ℕ → ℕ) → List (View D) → Type 0
  Tied k all owner views =
      (id : ℕ) (v : View D) (j : ℕ) (e : Entry D) → get_elem? views id ≡ some v → get_elem? v.entries j ≡ some e
      → IsTied k all owner id e

  -- a note has all words and the office, and its view owns all seats
  pub record IsNoted (k : Key) (words : List ℕ) (home : Option D) (owner : ℕ → ℕ) (id : ℕ) (note : Note D)
      : Type 0 where
    pub words_are : words ≡ note.words
    pub office_is : home ≡ Some note.office
    pub owns : (seat : ℕ) → seat < k.seats → owner seat ≡ id

  abbrev pub Noted : Key → List ℕ → Option D → (ℕ → ℕ) → List (View D) → Type 0
  Noted k words home owner views =
      (id : ℕ) (v : View D) (note : Note D) → get_elem? views id ≡ some v → v.note ≡ Some note
      → IsNoted k words home owner id note

  -- a view has a note
  pub record HasNote (views : List (View D)) : Type 0 where
    pub id : ℕ
    pub view : View D
    pub note : Note D
    pub at : get_elem? views id ≡ some view
    pub noted : view.note ≡ Some note

  -- `IsFirst` says what the office was like as the pool was made; what lies at home is in the slot, but where the
  -- place of a quiet pool has taken it out; no seat beyond the pool's has made a step
  pub record Rule (c : Callback D) (k : Key) (IsFirst : D → Type 0) (words : List ℕ) (slot : Option D)
      (views : List (View D)) : Type 0 where
    pub first : D
    pub is_first : IsFirst first
    pub home : Option D
    pub lies : (slot ≡ home) ⊎ HasNote views
    pub all : ℕ → Entry D
    pub owner : ℕ → ℕ
    pub run : Run c k first words home all
    pub others : (seat : ℕ) → k.seats ≤ seat → all seat ≡ first_entry k seat
    pub tied : Tied k all owner views
    pub noted : Noted k words home owner views

module _ {R : Type 0} (out : R → List Region) where
  -- the office of a pool that is made so, over a callback that had no region out
  pub record IsMade (plan : Plan) (desk : Desk R) : Type 0 where
    pub raw : R
    pub none_out : out raw ≡ []
    pub desk_is : desk ≡ desk_of plan.policy plan.limits [] 0 false raw

  abbrev pub PoolRule : (R → ℕ) → (R → ℕ → Option Region → R → Type 0) → (R → Region → Bool → R → Type 0) → Plan
      → List ℕ → Option (Desk R) → List (View (Desk R)) → Type 0
  PoolRule faults got passed plan words home views =
      Rule (office_of out faults got passed (key_by plan)) (key_by plan) (IsMade plan) words home views

-- a table of this key
pub record IsTable (table : TableId) (k : Key) : Type 0 where
  pub words : table.words ≡ words_of k
  pub slots : table.slots ≡ 1
