-- One more piece of the text was taken.
use Rattle.std.proofs.Common.{arith, ◌∙◌}
use Rattle.pool_types.proofs.CallerLemmas.{writes_on}
use Rattle.pool_types.proofs.transfers.write_all.Goals as goal

pub loop-at-preserved : goal.loop-at-preserved
loop-at-preserved g c = record {
  within = omega (arith, c.in-Ok.ensures.bound);
  written = writes_on _ (g.K.Sink.taken c.loop-at.sink) _ c.args.text.now c.loop-at.at c.in-Ok.count c.loop-at.invariant.written c.in-Ok.ensures.bytes;
  kept = c.in-Ok.ensures.cause.kept ∙ c.loop-at.invariant.kept;
}
