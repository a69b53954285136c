-- no region so far has this first granule
use Rattle.std.proofs.Common.{◌≡◌, drop}
use Rattle.word_parts.specs.Parts.{region_at}
use Rattle.word_parts.proofs.parts.region_at.Given as goal

abbrev pub invariant-loop-one : goal.invariant-loop-one
invariant-loop-one l = region_at l.regions l.first ≡ region_at (drop l.one-index l.regions) l.first
