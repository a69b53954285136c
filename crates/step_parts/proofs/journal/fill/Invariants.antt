-- the parts so far; all else stays
use Rattle.std.proofs.Common.{◌≡◌, take}
use Rattle.step_parts.proofs.journal.fill.Given as goal

abbrev pub invariant-loop-part : goal.invariant-loop-part
invariant-loop-part l = l.entry ≡ record l.fn.entry { parts = record { items = take l.part-index l.part-items } }
