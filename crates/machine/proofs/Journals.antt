-- The journal of a run tells what its turns moved and answered.
use Rattle.std.proofs.Common.{◌≡◌, ◌≤◌, List, [], ◌∷◌, ◌++◌, length, Bool, true, false, Some, None, refl, sym, ◌∙◌, ap, ap₂, append-nil, map, lit≤}
use Rattle.std.specs.Prelude.{option_to_list, if◌then◌else◌}
use Rattle.std.specs.declared.option.Option.{Option}
use Rattle.std.specs.List.{flat_map}
use Rattle.std.proofs.lemmas.Grind.{flat_map-append}
use Rattle.pool_types.specs.declared.rows.KeeperChange.{KeeperChange}
use Rattle.pool_types.specs.declared.values.Answer.{Answer}
use Rattle.part_model.specs.declared.moves.Part.{Part}
use Rattle.machine.specs.Ranges.{Each}
use Rattle.machine.specs.Journal.{Turn}
use Rattle.machine.specs.Events.{Event, Begins, Makes, Reset_begins, Reset_ends, Ends}
use Rattle.machine.specs.Runs.{with_answer, answers_in}
use Rattle.machine.specs.Stored.{Stored, by_fours, passes_in, has_looked, entry_of, moved_entries, still_entries, or_still, noted_first}
use Rattle.machine.specs.Stored.{stored_of, journal_of, IsTold, JournalsTellAll}
use Rattle.machine.proofs.Shapes.{each-append}

-- what an entry has of parts, of changes of a keeper, and of answers
abbrev parts_of_entry : Stored → List Part
parts_of_entry entry = entry.parts

abbrev keepers_of : Stored → List KeeperChange
keepers_of entry = option_to_list entry.book

abbrev answers_of : Stored → List Answer
answers_of entry = option_to_list entry.answer

abbrev IsFew : Stored → Type 0
IsFew entry = length entry.parts ≤ 4

-- the parts by fours are all parts, and by fours
fours_all : (parts : List Part) → flat_map (λ four. four) (by_fours parts) ≡ parts
fours_all [] = refl
fours_all (one ∷ []) = refl
fours_all (one ∷ two ∷ []) = refl
fours_all (one ∷ two ∷ three ∷ []) = refl
fours_all (one ∷ two ∷ three ∷ four ∷ parts) = ap (λ more. one ∷ two ∷ three ∷ four ∷ more) (fours_all parts)

fours_few : (parts : List Part) → Each (λ four. length four ≤ 4) (by_fours parts)
fours_few [] = tt
fours_few (one ∷ []) = (lit≤ tt, tt)
fours_few (one ∷ two ∷ []) = (lit≤ tt, tt)
fours_few (one ∷ two ∷ three ∷ []) = (lit≤ tt, tt)
fours_few (one ∷ two ∷ three ∷ four ∷ parts) = (lit≤ tt, fours_few parts)

-- the entries of parts, and those of keepers
parts_told : (turn : Turn) (fours : List (List Part)) → flat_map parts_of_entry (map (λ parts. entry_of turn parts None) fours) ≡ flat_map (λ four. four) fours
parts_told turn [] = refl
parts_told turn (parts ∷ more) = ap (λ ps. parts ++ ps) (parts_told turn more)

parts_keep : (turn : Turn) (fours : List (List Part)) → flat_map keepers_of (map (λ parts. entry_of turn parts None) fours) ≡ []
parts_keep turn [] = refl
parts_keep turn (parts ∷ more) = parts_keep turn more

parts_few : (turn : Turn) (fours : List (List Part)) → Each (λ four. length four ≤ 4) fours → Each IsFew (map (λ parts. entry_of turn parts None) fours)
parts_few turn [] few = tt
parts_few turn (parts ∷ more) few = (few.0, parts_few turn more few.1)

parts_unanswered : (turn : Turn) (fours : List (List Part)) → flat_map answers_of (map (λ parts. entry_of turn parts None) fours) ≡ []
parts_unanswered turn [] = refl
parts_unanswered turn (parts ∷ more) = parts_unanswered turn more

keepers_move : (turn : Turn) (changes : List KeeperChange) → flat_map parts_of_entry (map (λ change. entry_of turn [] (Some change)) changes) ≡ []
keepers_move turn [] = refl
keepers_move turn (change ∷ changes) = keepers_move turn changes

keepers_told : (turn : Turn) (changes : List KeeperChange) → flat_map keepers_of (map (λ change. entry_of turn [] (Some change)) changes) ≡ changes
keepers_told turn [] = refl
keepers_told turn (change ∷ changes) = ap (λ cs. change ∷ cs) (keepers_told turn changes)

keepers_few : (turn : Turn) (changes : List KeeperChange) → Each IsFew (map (λ change. entry_of turn [] (Some change)) changes)
keepers_few turn [] = tt
keepers_few turn (change ∷ changes) = (lit≤ tt, keepers_few turn changes)

keepers_unanswered : (turn : Turn) (changes : List KeeperChange) → flat_map answers_of (map (λ change. entry_of turn [] (Some change)) changes) ≡ []
keepers_unanswered turn [] = refl
keepers_unanswered turn (change ∷ changes) = keepers_unanswered turn changes

-- what is noted in the first entry leaves the rest as it was
first_parts : (turn : Turn) (entries : List Stored) → flat_map parts_of_entry (noted_first turn entries) ≡ flat_map parts_of_entry entries
first_parts turn [] = refl
first_parts turn (entry ∷ entries) = refl

first_keepers : (turn : Turn) (entries : List Stored) → flat_map keepers_of (noted_first turn entries) ≡ flat_map keepers_of entries
first_keepers turn [] = refl
first_keepers turn (entry ∷ entries) = refl

first_few : (turn : Turn) (entries : List Stored) → Each IsFew entries → Each IsFew (noted_first turn entries)
first_few turn [] few = few
first_few turn (entry ∷ entries) few = few

-- a turn that moves nothing has one entry or none
still_all : (turn : Turn) (answer : Option Answer) (fact : List Stored → Type 0) → fact [] → fact (entry_of turn [] None ∷ []) → fact (still_entries turn answer)
still_all turn (Some answer) fact none one = one
still_all turn None fact none one = by_looks (has_looked turn.seen)
  where
    by_looks : (looked : Bool) → fact (if looked then entry_of turn [] None ∷ [] else [])
    by_looks true = one
    by_looks false = none

still_answers : (turn : Turn) (answer : Option Answer) → turn.answer ≡ answer → flat_map answers_of (noted_first turn (still_entries turn answer)) ≡ option_to_list turn.answer
still_answers turn (Some answer) is = append-nil (option_to_list turn.answer)
still_answers turn None is =
    still_all turn None (λ entries. flat_map answers_of (noted_first turn entries) ≡ option_to_list turn.answer) (sym (ap option_to_list is)) (append-nil (option_to_list turn.answer))

-- the entries of a turn, where these are those of what it moves
with_parts : (turn : Turn) (entries : List Stored) → flat_map parts_of_entry (or_still turn entries) ≡ flat_map parts_of_entry entries
with_parts turn [] = still_all turn turn.answer (λ entries. flat_map parts_of_entry entries ≡ []) refl refl
with_parts turn (entry ∷ entries) = refl

with_keepers : (turn : Turn) (entries : List Stored) → flat_map keepers_of (or_still turn entries) ≡ flat_map keepers_of entries
with_keepers turn [] = still_all turn turn.answer (λ entries. flat_map keepers_of entries ≡ []) refl refl
with_keepers turn (entry ∷ entries) = refl

with_few : (turn : Turn) (entries : List Stored) → Each IsFew entries → Each IsFew (or_still turn entries)
with_few turn [] few = still_all turn turn.answer (Each IsFew) tt (lit≤ tt, tt)
with_few turn (entry ∷ entries) few = few

with_answers : (turn : Turn) (entries : List Stored) → flat_map answers_of entries ≡ [] → flat_map answers_of (noted_first turn (or_still turn entries)) ≡ option_to_list turn.answer
with_answers turn [] none = still_answers turn turn.answer refl
with_answers turn (entry ∷ entries) none =
    ap (λ answers. option_to_list turn.answer ++ answers) (none_left (option_to_list entry.answer) (flat_map answers_of entries) none) ∙ append-nil (option_to_list turn.answer)
  where
    none_left : (one other : List Answer) → one ++ other ≡ [] → other ≡ []
    none_left [] other is = is
    none_left (x ∷ xs) other is = absurd cc

-- the answer, and those behind it
answer_first : (answer : Option Answer) (answers : List Answer) → option_to_list answer ++ answers ≡ with_answer answer answers
answer_first (Some answer) answers = refl
answer_first None answers = refl

-- what the entries of one turn tell
told_parts : (turn : Turn) → flat_map parts_of_entry (stored_of turn) ≡ turn.parts
told_parts turn =
    first_parts turn (or_still turn (moved_entries turn))
    ∙ with_parts turn (moved_entries turn)
    ∙ flat_map-append parts_of_entry (map (λ parts. entry_of turn parts None) (by_fours turn.parts)) (map (λ change. entry_of turn [] (Some change)) (passes_in turn.book))
    ∙ ap₂ (λ ps qs. ps ++ qs) (parts_told turn (by_fours turn.parts) ∙ fours_all turn.parts) (keepers_move turn (passes_in turn.book))
    ∙ append-nil turn.parts

told_keepers : (turn : Turn) → flat_map keepers_of (stored_of turn) ≡ passes_in turn.book
told_keepers turn =
    first_keepers turn (or_still turn (moved_entries turn))
    ∙ with_keepers turn (moved_entries turn)
    ∙ flat_map-append keepers_of (map (λ parts. entry_of turn parts None) (by_fours turn.parts)) (map (λ change. entry_of turn [] (Some change)) (passes_in turn.book))
    ∙ ap₂ (λ one other. one ++ other) (parts_keep turn (by_fours turn.parts)) (keepers_told turn (passes_in turn.book))

told_answers : (turn : Turn) → flat_map answers_of (stored_of turn) ≡ option_to_list turn.answer
told_answers turn =
    with_answers turn (moved_entries turn)
    (flat_map-append answers_of (map (λ parts. entry_of turn parts None) (by_fours turn.parts)) (map (λ change. entry_of turn [] (Some change)) (passes_in turn.book))
    ∙ ap₂ (λ one other. one ++ other) (parts_unanswered turn (by_fours turn.parts)) (keepers_unanswered turn (passes_in turn.book)))

told_few : (turn : Turn) → Each IsFew (stored_of turn)
told_few turn =
    first_few turn (or_still turn (moved_entries turn))
    (with_few turn (moved_entries turn)
    (each-append IsFew (map (λ parts. entry_of turn parts None) (by_fours turn.parts)) (map (λ change. entry_of turn [] (Some change)) (passes_in turn.book))
    (parts_few turn (by_fours turn.parts) (fours_few turn.parts)) (keepers_few turn (passes_in turn.book))))

-- the entries of one turn, before those of the others
turn_told : (turn : Turn) (events : List Event) → IsTold events → IsTold (Makes turn ∷ events)
turn_told turn events told = record {
  parts = flat_map-append parts_of_entry (stored_of turn) (journal_of events) ∙ ap₂ (λ ps qs. ps ++ qs) (told_parts turn) told.parts;
  few = each-append IsFew (stored_of turn) (journal_of events) (told_few turn) told.few;
  keepers = flat_map-append keepers_of (stored_of turn) (journal_of events) ∙ ap₂ (λ one other. one ++ other) (told_keepers turn) told.keepers;
  answers = flat_map-append answers_of (stored_of turn) (journal_of events)
      ∙ ap₂ (λ one other. one ++ other) (told_answers turn) told.answers
      ∙ answer_first turn.answer (answers_in events);
}

-- the journal of a run
pub journals_tell_all : JournalsTellAll
journals_tell_all [] = record { parts = refl; few = tt; keepers = refl; answers = refl }
journals_tell_all (Begins seat request ∷ events) = let told = journals_tell_all events in record { parts = told.parts; few = told.few; keepers = told.keepers; answers = told.answers }
journals_tell_all (Makes turn ∷ events) = turn_told turn events (journals_tell_all events)
journals_tell_all (Reset_begins ∷ events) = let told = journals_tell_all events in record { parts = told.parts; few = told.few; keepers = told.keepers; answers = told.answers }
journals_tell_all (Reset_ends ∷ events) = let told = journals_tell_all events in record { parts = told.parts; few = told.few; keepers = told.keepers; answers = told.answers }
journals_tell_all (Ends farewells ∷ events) = let told = journals_tell_all events in record { parts = told.parts; few = told.few; keepers = told.keepers; answers = told.answers }
