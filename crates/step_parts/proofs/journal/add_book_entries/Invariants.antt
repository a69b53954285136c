-- the entries so far, with those of the slabs that are left
use Rattle.std.proofs.Common.{◌≡◌, ◌≤◌, drop, vec_capacity}
use Rattle.step_parts.specs.Journal.{book_entries}
use Rattle.step_parts.proofs.journal.add_book_entries.Given as goal

abbrev pub invariant-loop-change : goal.invariant-loop-change
invariant-loop-change l = record {
  items : book_entries l.name l.initial.entries.items l.book ≡ book_entries l.name l.entries.items (drop l.change-index l.book);
  capacity : vec_capacity l.initial.entries ≤ vec_capacity l.entries;
}
