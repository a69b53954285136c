use Rattle.std.proofs.Common.{◌∙◌}
use Rattle.part_model.specs.Stretches.{holder_at}
use Rattle.part_model.proofs.StretchLemmas.{moves_on}
use Rattle.part_model.proofs.stretches.after_parts.Goals as goal

pub loop-part-preserved : goal.loop-part-preserved
loop-part-preserved c = record {
  held = λ byte.
      moves_on c.args.parts.now c.loop-part.part-index _ (holder_at c.loop-part.next.items) (holder_at c.in_ok-next-2.next.items) c.loop-part-test.true
      (rw c.as_slice.ensures.value at c.in_ok-next-2.ensures.held) byte
      ∙ c.loop-part.invariant.held byte;
  stretches = c.in_ok-next-2.ensures.stretches;
}
