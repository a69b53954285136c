-- What a turn moved, as lines of a report.
use Rattle.std.specs.Prelude.{ℕ, ◌+◌, ◌||◌, not, cond, Bool, true, false, is_some, List, [], ◌∷◌, Option, Some, None}
use Rattle.pool_types.specs.Sums.{capped}
use Rattle.pool_types.specs.declared.rows.KeeperChange.{KeeperChange}
use Rattle.part_model.specs.declared.journal.Journaled.{Journaled}
use Rattle.part_model.specs.declared.moves.Part.{Part}
use Rattle.report_text.specs.declared.entry.ReportEntry.TheVariants.{Moved, KeeperMoved}
use Rattle.run_report.specs.declared.book.Book.{Book}
use Rattle.run_report.specs.Books.{noted}

-- each of these parts of a move, one after another
abbrev pub parts_noted : Book → ℕ → Journaled → List Part → Book
parts_noted book number step [] = book
parts_noted book number step (part ∷ parts) =
    parts_noted (noted book (Moved number step.seat step.row part)) number step parts

-- the slab that goes to another keeper, if one does
abbrev pub keeper_noted : Book → ℕ → Journaled → Option KeeperChange → Book
keeper_noted book number step None = book
keeper_noted book number step (Some change) = noted book (KeeperMoved number step.seat step.row change)

abbrev pub entry_noted : Book → ℕ → Journaled → Book
entry_noted book number step = keeper_noted (parts_noted book number step step.parts.items) number step step.book

-- each of the entries of a step, as the move of this number
abbrev pub entries_noted : Book → ℕ → List Journaled → Book
entries_noted book number [] = book
entries_noted book number (step ∷ steps) = entries_noted (entry_noted book number step) number steps

-- the entry moves something
abbrev pub has_parts : List Part → Bool
has_parts [] = false
has_parts (part ∷ parts) = true

abbrev pub moves_something : Journaled → Bool
moves_something step = has_parts step.parts.items || is_some step.book

-- one of them does
abbrev pub any_moves : List Journaled → Bool
any_moves [] = false
any_moves (step ∷ steps) = cond (moves_something step) true (any_moves steps)

abbrev pub with_number : Book → Book
with_number book = record book { moved = capped (book.moved + 1) }

abbrev pub numbered : Book → List Journaled → Book
numbered book steps = entries_noted (with_number book) (capped (book.moved + 1)) steps

-- What a turn moved is written, where moves are reported. All entries of the turn have one number; a turn that moves
-- nothing takes none.
unfoldable pub entered : Book → List Journaled → Book
entered book steps = cond book.moves (cond (any_moves steps) (numbered book steps) book) book
