use Rattle.std.proofs.Common.{◌≡◌, List, ◌∷◌, ◌+◌, drop, get_or, subst}
use Rattle.std.proofs.lemmas.List.{drop_more}
use Rattle.trace_reader.specs.declared.acts.Act.TheVariants as act
use Rattle.trace_reader.specs.declared.acts.TraceLine.{TraceLine}
use Rattle.poolreplay.proofs.Steps.{IsUnderWay, stepped}
use Rattle.poolreplay.proofs.run.run_lines.Goals as goal

pub loop-line-preserved : goal.loop-line-preserved
loop-line-preserved c =
    let run = c.loop-line.run in
    let way = c.loop-line.invariant.way in
    let none : TraceLine = record { line = 0; act = act.Threads } in
    let line : TraceLine = get_or c.args.lines.now c.loop-line.line-index none in
    let left : drop c.loop-line.line-index c.args.lines.now ≡ line ∷ drop (c.loop-line.line-index + 1) c.args.lines.now =
    drop_more c.args.lines.now c.loop-line.line-index none c.loop-line-test.true in
    record {
      way = stepped c.args.threads c.loop-line.line-index run.pool _ run.places _ run.report _ c.args.run.now.report c.args.lines.now line (drop (c.loop-line.line-index + 1) c.args.lines.now)
          c.in_ok-step.ensures.going c.in_ok-step.ensures.report
          (subst (λ (ls : List TraceLine). IsUnderWay c.args.threads c.loop-line.line-index run.pool run.places run.report c.args.run.now.report c.args.lines.now ls) left way);
    }
