-- the entries so far, with those of the parts that are left
use Rattle.std.proofs.Common.{◌≡◌, ◌≤◌, length, vec_capacity}
use Rattle.step_parts.specs.Journal.{part_entries}
use Rattle.step_parts.proofs.journal.add_part_entries.Given as goal

abbrev pub decreases-loop-rest : goal.decreases-loop-rest
decreases-loop-rest l = length l.rest

abbrev pub invariant-loop-rest : goal.invariant-loop-rest
invariant-loop-rest l = record {
  items : part_entries l.name l.initial.entries.items l.parts ≡ part_entries l.name l.entries.items l.rest;
  capacity : vec_capacity l.initial.entries ≤ vec_capacity l.entries;
}
