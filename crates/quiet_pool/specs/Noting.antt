-- How a place comes to know all of a pool, and what it knows then.
use Rattle.std.specs.Prelude.{◌≡◌, ℕ, ◌≤◌, List, [], ◌∷◌, ◌++◌, length, Option, Some, None}
use mathlib.Core.Option.{some}
use lib.ListN.{get_elem?}
use Rattle.pool_words.specs.declared.words.Key.{Key}
use Rattle.step_runs.specs.declared.entry.Entry.{Entry}
use Rattle.step_runs.specs.Entries.{first_entry}
use Rattle.step_runs.specs.Runs.{Callback, Run}
use Rattle.atomic_table.specs.Table.{Me}
use Rattle.atomic_driver.specs.declared.rule.View.{View}
use Rattle.atomic_driver.specs.Rule.{plain}

-- the entries of both views
abbrev pub joined : {D : Type 0} → View D → View D → View D
joined v w = plain (v.entries ++ w.entries)

-- a view with the entries, and a note of the words and the office
abbrev pub noted : {D : Type 0} → List (Entry D) → List ℕ → D → View D
noted entries words office = record {
  entries = entries;
  note = Some (record { words = words; office = office });
}

module _ {D : Type 0} where
  -- the entries are those of all seats, by number, and no seat has taken the office
  pub record IsAll (k : Key) (entries : List (Entry D)) : Type 0 where
    pub many : length entries ≡ k.seats
    pub each : (seat : ℕ) (e : Entry D) → get_elem? entries seat ≡ some e → e.seat ≡ seat
    pub none : (seat : ℕ) (e : Entry D) → get_elem? entries seat ≡ some e → e.desk ≡ None

  -- the entries, with these words and this office, are a state of a run
  pub record IsWhole (c : Callback D) (k : Key) (IsFirst : D → Type 0) (words : List ℕ) (office : D)
      (entries : List (Entry D)) : Type 0 where
    pub first : D
    pub is_first : IsFirst first
    pub all : ℕ → Entry D
    pub run : Run c k first words (Some office) all
    pub each : (seat : ℕ) (e : Entry D) → get_elem? entries seat ≡ some e → all seat ≡ e
    pub others : (seat : ℕ) → k.seats ≤ seat → all seat ≡ first_entry k seat

  -- what the load tells with which a place notes all words, and takes the office
  pub record Notes (c : Callback D) (k : Key) (IsFirst Is : D → Type 0) (me now : Me (Option D) (View D)) : Type 0 where
    pub words : List ℕ
    pub office : D
    pub me_is : now ≡ (noted me.0.entries words office, (0, Some office) ∷ [])
    pub whole : IsWhole c k IsFirst words office me.0.entries
    pub is_pools : Is office

  -- what the load tells with which it gives back the slot, with the office in it, and knows nothing of the words
  abbrev pub Forgets : Me (Option D) (View D) → Me (Option D) (View D) → Type 0
  Forgets me now = now ≡ (plain me.0.entries, [])
