-- A line that is run leads on, one that is not ends the run, and so does the last.
use Rattle.std.proofs.Common.{◌≡◌, List, ◌∷◌, [], ◌+◌, drop, get_or, subst}
use Rattle.std.proofs.lemmas.List.{drop_more, drop_all}
use Rattle.trace_reader.specs.declared.acts.Act.TheVariants as act
use Rattle.trace_reader.specs.declared.acts.TraceLine.{TraceLine}
use Rattle.trace_runs.proofs.LinesLead.{LinesLead, goes_on, ends, stops}
use Rattle.trace_runs.proofs.state.Run.all_lines.Goals as goal

pub loop-line-preserved : goal.loop-line-preserved
loop-line-preserved c =
    let none : TraceLine = record { line = 0; act = act.Threads } in
    let line : TraceLine = get_or c.args.lines.now c.loop-line.line-index none in
    let rest : List TraceLine = drop (c.loop-line.line-index + 1) c.args.lines.now in
    let left : drop c.loop-line.line-index c.args.lines.now ≡ line ∷ rest =
    drop_more c.args.lines.now c.loop-line.line-index none c.loop-line-test.true in
    goes_on c.args.trace.now c.args.lines.now rest line c.args.self.now c.loop-line.self c.one_line.new.self
    c.in-Ok.ensures
    (subst (λ (ls : List TraceLine). LinesLead c.args.trace.now c.args.lines.now c.args.self.now ls c.loop-line.self) left
    c.loop-line.invariant)

pub returns-in-Err : goal.returns-in-Err
returns-in-Err c =
    let none : TraceLine = record { line = 0; act = act.Threads } in
    let line : TraceLine = get_or c.args.lines.now c.loop-line.line-index none in
    let rest : List TraceLine = drop (c.loop-line.line-index + 1) c.args.lines.now in
    let left : drop c.loop-line.line-index c.args.lines.now ≡ line ∷ rest =
    drop_more c.args.lines.now c.loop-line.line-index none c.loop-line-test.true in
    stops c.args.trace.now c.args.lines.now rest line c.args.self.now c.loop-line.self c.one_line.new.self
    c.in-Err.error c.in-Err.ensures
    (subst (λ (ls : List TraceLine). LinesLead c.args.trace.now c.args.lines.now c.args.self.now ls c.loop-line.self) left
    c.loop-line.invariant)

pub returns : goal.returns
returns c =
    ends c.args.trace.now c.args.lines.now c.args.self.now c.loop-line.self
    (subst (λ (ls : List TraceLine). LinesLead c.args.trace.now c.args.lines.now c.args.self.now ls c.loop-line.self)
    (drop_all c.loop-line.line-index c.args.lines.now c.loop-line-test.false) c.loop-line.invariant)
