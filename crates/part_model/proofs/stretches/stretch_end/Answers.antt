use Rattle.std.proofs.Common.{arith}
use Rattle.part_model.proofs.StretchLemmas.{alike_more}
use Rattle.part_model.proofs.stretches.stretch_end.Goals as goal

pub loop-stretch-preserved : goal.loop-stretch-preserved
loop-stretch-preserved c = record {
  above = c.nearest_edge-near.ensures.above;
  within = omega arith;
  alike = λ other same from below.
      alike_more c.args.stretches.now c.loop-stretch.stretch-index _ c.args.byte.now other c.loop-stretch-test.true
      (c.loop-stretch.invariant.alike other same from (omega arith)) (c.nearest_edge-near.ensures.alike other same from below);
}
