-- The journal's entries of one step.
use Rattle.std.specs.Prelude.{ℕ, ◌&&◌, Bool, true, false, cond, eqb, List, [], ◌∷◌, ◌++◌, Option, Some, None}
use Rattle.arrayvec.specs.ArrayVec.{ArrayVec}
use Rattle.pool_types.specs.declared.policy.RegionRec.{RegionRec}
use Rattle.pool_types.specs.declared.rows.KeeperChange.{KeeperChange}
use Rattle.pool_types.specs.declared.values.Answer.{Answer}
use Rattle.part_model.specs.declared.journal.Journaled.{Journaled}
use Rattle.part_model.specs.declared.moves.Part.{Part}
use Rattle.backend_bins.specs.declared.scan.ScanStep.{ScanStep}
use Rattle.step_local.specs.declared.frames.At.{At}
use Rattle.step_local.specs.declared.frames.Local.{Local}
use Rattle.step_local.specs.declared.frames.Tries.{Tries}
use Rattle.step_parts.specs.declared.journal.StepName.{StepName}
use Rattle.step_parts.specs.Moves.{Moving}

-- the most parts of an entry
abbrev pub most_parts : ℕ
most_parts = 4

-- the scan after all cached blocks were released is a call's last one
abbrev pub is_last_scan : Tries → Bool
is_last_scan Tries.First = false
is_last_scan Tries.Queue = false
is_last_scan Tries.Soft = false
is_last_scan Tries.Hard = true

-- a look at a bin finds its list empty without the lock, or takes the lock
abbrev pub looks_in : ScanStep → ℕ → Bool
looks_in ScanStep.Peek f = eqb f 0
looks_in ScanStep.Lock f = eqb f 0
looks_in ScanStep.Head f = false
looks_in (ScanStep.Length first) f = false
looks_in (ScanStep.Win block at) f = false
looks_in (ScanStep.Next first) f = false
looks_in (ScanStep.Out block at) f = false
looks_in (ScanStep.Unlock took) f = false

abbrev pub looks_at : Local → ℕ → At → Bool
looks_at l f (At.Scan at) = is_last_scan l.ask.tries && looks_in at.step f
looks_at l f _ = false

-- whether the step is a look at a bin in a call's last scan
abbrev pub looks_at_bin : Local → ℕ → Bool
looks_at_bin l f = looks_at l f l.at

-- an entry that says which step it is of, and no more; that of some parts, and of a slab's keeper
abbrev pub bare_entry : StepName → Journaled
bare_entry name = record {
  step = name.step;
  seat = name.seat;
  row = name.row;
  parts = record { items = [] };
  book = None;
  entered = None;
  region = None;
  answer = None;
}

abbrev pub part_entry : StepName → List Part → Journaled
part_entry name parts = record (bare_entry name) { parts = record { items = parts } }

abbrev pub book_entry : StepName → KeeperChange → Journaled
book_entry name change = record (bare_entry name) { book = Some change }

-- these entries, and those of parts, with as many in one as it has room for
abbrev pub part_entries : StepName → List Journaled → List Part → List Journaled
part_entries name entries [] = entries
part_entries name entries (a ∷ []) = entries ++ part_entry name (a ∷ []) ∷ []
part_entries name entries (a ∷ b ∷ []) = entries ++ part_entry name (a ∷ b ∷ []) ∷ []
part_entries name entries (a ∷ b ∷ c ∷ []) = entries ++ part_entry name (a ∷ b ∷ c ∷ []) ∷ []
part_entries name entries (a ∷ b ∷ c ∷ d ∷ parts) =
    part_entries name (entries ++ part_entry name (a ∷ b ∷ c ∷ d ∷ []) ∷ []) parts

-- these entries, and those of slabs' keepers, one in each
abbrev pub book_entries : StepName → List Journaled → List KeeperChange → List Journaled
book_entries name entries [] = entries
book_entries name entries (change ∷ book) = book_entries name (entries ++ book_entry name change ∷ []) book

-- a step that has no entry gets one, if it is a look
abbrev pub or_bare : StepName → Bool → List Journaled → List Journaled
or_bare name looks [] = cond looks (bare_entry name ∷ []) []
or_bare name looks (entry ∷ entries) = entry ∷ entries

-- the first entry tells which slab enters the book, and which region comes
abbrev pub with_signs : Option ℕ → Option RegionRec → List Journaled → List Journaled
with_signs entered region [] = []
with_signs entered region (entry ∷ entries) = record entry { entered = entered; region = region } ∷ entries

abbrev pub moved_entries : StepName → Moving → List Journaled
moved_entries name moves = book_entries name (part_entries name [] moves.parts) moves.book

-- the entries of a step, by what it moves and whether it looks at a bin in vain
unfoldable pub entries_of : StepName → Bool → Moving → List Journaled
entries_of name looks moves =
    with_signs moves.entered moves.region (or_bare name looks (moved_entries name moves))

-- the step ends its call with this answer, which its first entry has
unfoldable pub with_answer : StepName → Answer → List Journaled → List Journaled
with_answer name answer [] = record (bare_entry name) { answer = Some answer } ∷ []
with_answer name answer (entry ∷ entries) = record entry { answer = Some answer } ∷ entries
