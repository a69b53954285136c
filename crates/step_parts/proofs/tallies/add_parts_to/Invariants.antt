-- the totals so far, with the parts that are left
use Rattle.std.proofs.Common.{◌≡◌, drop}
use Rattle.step_parts.specs.Tallies.{after_parts}
use Rattle.step_parts.proofs.tallies.add_parts_to.Given as goal

abbrev pub invariant-loop-part : goal.invariant-loop-part
invariant-loop-part l = after_parts l.initial.totals l.parts ≡ after_parts l.totals (drop l.part-index l.parts)
