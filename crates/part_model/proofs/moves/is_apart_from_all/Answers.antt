use Rattle.std.proofs.Common.{refl}
use Rattle.part_model.proofs.Apart.{apart_from_more}
use Rattle.part_model.proofs.moves.is_apart_from_all.Goals as goal

pub loop-part-preserved : goal.loop-part-preserved
loop-part-preserved c =
    apart_from_more c.args.range.now c.args.parts.now c.loop-part.part-index _ c.loop-part-test.true (c.if-not-is_apart.ensures.0 refl) c.loop-part.invariant
