-- The journal of a run: what is kept of each turn.
use Rattle.std.specs.Prelude.{◌≡◌, ◌≤◌, ℕ, Bool, true, false, if◌then◌else◌, List, [], ◌∷◌, ◌++◌, length, map}
use Rattle.std.specs.Prelude.{Option, Some, None, option_to_list}
use Rattle.std.specs.List.{flat_map}
use Rattle.pool_types.specs.declared.policy.RegionRec.{RegionRec}
use Rattle.pool_types.specs.declared.rows.KeeperChange.{KeeperChange}
use Rattle.pool_types.specs.declared.rows.Row.{Row}
use Rattle.pool_types.specs.declared.values.Answer.{Answer}
use Rattle.part_model.specs.declared.moves.Part.{Part}
use Rattle.machine.specs.Ranges.{Each}
use Rattle.machine.specs.Journal.{BookChange, Enters, Leaves, Passes, Sight, Nothing_seen, Bins_seen, Raw_called}
use Rattle.machine.specs.Journal.{Tick_drawn, Items_seen, Turn}
use Rattle.machine.specs.Events.{Event, Begins, Makes, Reset_begins, Reset_ends, Ends}
use Rattle.machine.specs.Runs.{answers_in}

-- An entry of the journal: the number and the kind of its step, its seat, at most four parts, a slab that goes from
-- one keeper to another, the class of a slab that enters the book, the record of a region that comes, and the answer
-- of the call that the turn ends.
pub record Stored : Type 0 where
  pub number : ℕ
  pub seat : ℕ
  pub row : Option Row
  pub parts : List Part
  pub book : Option KeeperChange
  pub entered : Option ℕ
  pub region : Option RegionRec
  pub answer : Option Answer

-- the parts by fours
abbrev pub by_fours : List Part → List (List Part)
by_fours [] = []
by_fours (one ∷ []) = (one ∷ []) ∷ []
by_fours (one ∷ two ∷ []) = (one ∷ two ∷ []) ∷ []
by_fours (one ∷ two ∷ three ∷ []) = (one ∷ two ∷ three ∷ []) ∷ []
by_fours (one ∷ two ∷ three ∷ four ∷ parts) = (one ∷ two ∷ three ∷ four ∷ []) ∷ by_fours parts

-- the slabs that go from one keeper to another
abbrev pub passes_in : List BookChange → List KeeperChange
passes_in [] = []
passes_in (Enters slab ∷ changes) = passes_in changes
passes_in (Leaves place ∷ changes) = passes_in changes
passes_in (Passes change ∷ changes) = change ∷ passes_in changes

-- the class of the slab that enters, if one does
abbrev pub entered_in : List BookChange → Option ℕ
entered_in [] = None
entered_in (Enters slab ∷ changes) = Some slab.class
entered_in (Leaves place ∷ changes) = entered_in changes
entered_in (Passes change ∷ changes) = entered_in changes

-- the turn looked at bins
abbrev pub has_looked : Sight → Bool
has_looked Nothing_seen = false
has_looked (Bins_seen look) = true
has_looked (Raw_called call) = false
has_looked (Tick_drawn tick) = false
has_looked (Items_seen granules items) = false

-- an entry of the turn, with these parts and this change of a keeper
abbrev pub entry_of : Turn → List Part → Option KeeperChange → Stored
entry_of turn parts change = record {
  number = turn.number;
  seat = turn.seat;
  row = turn.row;
  parts = parts;
  book = change;
  entered = None;
  region = None;
  answer = None;
}

-- the entries of what the turn moves: one for each four parts, and then one for each change of a keeper
abbrev pub moved_entries : Turn → List Stored
moved_entries turn =
    map (λ parts. entry_of turn parts None) (by_fours turn.parts)
    ++ map (λ change. entry_of turn [] (Some change)) (passes_in turn.book)

-- the entry of a turn that moves nothing: it has one where it answers or looked at bins
abbrev pub still_entries : Turn → Option Answer → List Stored
still_entries turn (Some answer) = entry_of turn [] None ∷ []
still_entries turn None = if has_looked turn.seen then entry_of turn [] None ∷ [] else []

-- these entries, or where there is none that of a turn that moves nothing
abbrev pub or_still : Turn → List Stored → List Stored
or_still turn [] = still_entries turn turn.answer
or_still turn (entry ∷ entries) = entry ∷ entries

-- the class of a slab that begins, the record of a region that comes, and the answer, in the first entry
abbrev pub noted_first : Turn → List Stored → List Stored
noted_first turn [] = []
noted_first turn (entry ∷ entries) =
    record entry { entered = entered_in turn.book; region = turn.region; answer = turn.answer } ∷ entries

-- What is kept of a turn: nothing of one that moves nothing, answers nothing and looked at no bins.
abbrev pub stored_of : Turn → List Stored
stored_of turn = noted_first turn (or_still turn (moved_entries turn))

-- the journal of a run (its history)
abbrev pub journal_of : List Event → List Stored
journal_of [] = []
journal_of (Begins seat request ∷ events) = journal_of events
journal_of (Makes turn ∷ events) = stored_of turn ++ journal_of events
journal_of (Reset_begins ∷ events) = journal_of events
journal_of (Reset_ends ∷ events) = journal_of events
journal_of (Ends farewells ∷ events) = journal_of events

-- all parts that the turns of a run move, in order
abbrev pub parts_in : List Event → List Part
parts_in [] = []
parts_in (Begins seat request ∷ events) = parts_in events
parts_in (Makes turn ∷ events) = turn.parts ++ parts_in events
parts_in (Reset_begins ∷ events) = parts_in events
parts_in (Reset_ends ∷ events) = parts_in events
parts_in (Ends farewells ∷ events) = parts_in events

-- all slabs that go from one keeper to another, in order
abbrev pub keepers_in : List Event → List KeeperChange
keepers_in [] = []
keepers_in (Begins seat request ∷ events) = keepers_in events
keepers_in (Makes turn ∷ events) = passes_in turn.book ++ keepers_in events
keepers_in (Reset_begins ∷ events) = keepers_in events
keepers_in (Reset_ends ∷ events) = keepers_in events
keepers_in (Ends farewells ∷ events) = keepers_in events

-- what the journal of a run tells
pub record IsTold (events : List Event) : Type 0 where
  -- all parts that moved, at most four in an entry
  pub parts : flat_map (λ entry. entry.parts) (journal_of events) ≡ parts_in events
  pub few : Each (λ entry. length entry.parts ≤ 4) (journal_of events)
  -- all slabs that went from one keeper to another
  pub keepers : flat_map (λ entry. option_to_list entry.book) (journal_of events) ≡ keepers_in events
  -- all answers
  pub answers : flat_map (λ entry. option_to_list entry.answer) (journal_of events) ≡ answers_in events

-- so it is of any run
abbrev pub JournalsTellAll : Type 0
JournalsTellAll = (events : List Event) → IsTold events
