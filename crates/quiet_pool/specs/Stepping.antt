-- A step of a quiet pool, as one of its seats.
use Rattle.std.specs.Prelude.{◌≡◌, ℕ, cond, List, length, slice_get, slice_set}
use Rattle.std.specs.Prelude.{slice_index, Option, Some, None}
use mathlib.Core.Option.{some}
use lib.ListN.{get_elem?}
use Rattle.pool_types.specs.declared.values.Turn.{Turn}
use Rattle.pool_words.specs.declared.words.Key.{Key}
use Rattle.pool_words.specs.Words.{words_of}
use Rattle.pool_words.specs.Actions.{finds, after_action}
use Rattle.step_local.specs.declared.frames.Local.{Local}
use Rattle.step_local.specs.Course.{course}
use Rattle.step_local.specs.Learn.{learn}
use Rattle.step_runs.specs.declared.entry.Entry.{Entry}
use Rattle.step_runs.specs.Entries.{first_entry, learnt, seen_by}
use Rattle.step_runs.specs.Places.{has_word}
use Rattle.step_runs.specs.Runs.{Callback}
use Rattle.atomic_table.specs.Table.{Me}
use Rattle.atomic_driver.specs.declared.rule.Note.{Note}
use Rattle.atomic_driver.specs.declared.rule.View.{View}
use Rattle.atomic_driver.specs.Rule.{key_by}
use Rattle.quiet_pool.specs.Noting.{noted}
use Rattle.quiet_pool.specs.Quiet.{Quiet, IsBehind}

-- the entry of a seat
abbrev pub entry_by : {D : Type 0} → Key → ℕ → Option (Entry D) → Entry D
entry_by k seat (Some e) = e
entry_by k seat None = first_entry k seat

abbrev pub entry_at : {D : Type 0} → Key → List (Entry D) → ℕ → Entry D
entry_at k entries seat = entry_by k seat (slice_get entries seat)

-- what was found, as the words are noted
abbrev pub found_in : {D : Type 0} → Key → Note D → Local → ℕ
found_in k note l = finds k note.words (course l)

abbrev pub view_stepped : {D : Type 0} → Key → ℕ → Local → View D → Option (Note D) → View D
view_stepped k seat l v None = v
view_stepped k seat l v (Some note) = noted
    (slice_set v.entries seat (learnt (entry_at k v.entries seat) l (Some note.office) None (found_in k note l)))
    (after_action k note.words (course l)) note.office

-- what a place with a note knows behind the step of a seat's local: the words, and the seat's entry, are what the step
-- leaves
abbrev pub me_stepped : {D : Type 0} → Key → ℕ → Local → Me (Option D) (View D) → Me (Option D) (View D)
me_stepped k seat l me = (view_stepped k seat l me.0 me.0.note, me.1)

-- what it knows behind a turn, with a step on a word or without
abbrev pub me_turned : {D : Type 0} → Key → ℕ → Local → Me (Option D) (View D) → Me (Option D) (View D)
me_turned k seat l me = cond (has_word (course l)) (me_stepped k seat l me) me

-- the value of a word, as it is noted
abbrev pub value_noted : {D : Type 0} → Option (Note D) → ℕ → ℕ
value_noted None word = 0
value_noted (Some note) word = slice_index note.words word

-- a step of a seat's local may be made: the place has all entries, by number, and a note
pub record CanStep {D : Type 0} (c : Callback D) (k : Key) (seat : ℕ) (l : Local) (me : Me (Option D) (View D))
    : Type 0 where
  pub note : Note D
  pub is_noted : me.0.note ≡ Some note
  pub sized : length note.words ≡ words_of k
  pub row : (i : ℕ) (e : Entry D) → get_elem? me.0.entries i ≡ some e → e.seat ≡ i
  pub there : get_elem? me.0.entries seat ≡ some (entry_at k me.0.entries seat)
  pub behind : IsBehind c (entry_at k me.0.entries seat) l

module _ {R : Type 0} where
  abbrev pub turned_of : Option Local → Quiet R → ℕ → Quiet R × Turn
  turned_of None q seat = (q, Turn.Idle)
  turned_of (Some l) q seat =
      let found = finds (key_by q.plan) q.words (course l) in
      let next = learn l (seen_by (course l) found) in
      let entry = learnt (entry_at (key_by q.plan) q.entries seat) l (Some q.desk) None found in (
        record q {
          words = after_action (key_by q.plan) q.words (course l);
          locals = slice_set q.locals seat next.0;
          entries = cond (has_word (course l)) (slice_set q.entries seat entry) q.entries;
        },
        next.1,
      )

  -- a turn of a seat: the step that its local names is made, it learns what that found, and its entry has the row
  abbrev pub turned : Quiet R → ℕ → Quiet R × Turn
  turned q seat = turned_of (slice_get q.locals seat) q seat
