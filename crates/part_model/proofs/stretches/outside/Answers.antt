use Rattle.part_model.proofs.StretchLemmas.{outside_more, cover_more}
use Rattle.part_model.proofs.stretches.outside.Goals as goal

pub loop-stretch-preserved : goal.loop-stretch-preserved
loop-stretch-preserved c = record {
  held = λ byte. outside_more c.args.stretches.now c.loop-stretch.kept.items c.keep_outside.new.kept.items c.loop-stretch.stretch-index _ c.args.range.now byte c.loop-stretch-test.true
      (c.loop-stretch.invariant.held byte) (c.in_ok-keep_outside.ensures.held byte);
  sound = c.in_ok-keep_outside.ensures.sound;
  cover = λ byte. cover_more c.args.stretches.now c.loop-stretch.kept.items c.keep_outside.new.kept.items c.loop-stretch.stretch-index _ c.args.range.now byte c.loop-stretch-test.true
      (c.loop-stretch.invariant.cover byte) (c.in_ok-keep_outside.ensures.cover byte);
}
