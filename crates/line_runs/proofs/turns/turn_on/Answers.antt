-- A turn at which the line stops, one at which it goes on, and the end.
use Rattle.std.proofs.Common.{◌≡◌, ℕ, suc, ◌+◌, ◌-◌, arith, subst, sym, ap, ◌∙◌}
use Rattle.run_report.specs.Moves.{entered}
use Rattle.line_runs.specs.Turning.{TurnsOn, stop_of}
use Rattle.line_runs.specs.declared.turns.Stop.{Stop}
use Rattle.line_runs.proofs.LeadsTo.{LeadsTo, spent, stops_there, goes_on}
use Rattle.line_runs.proofs.turns.turn_on.Goals as goal

pub returns-in-Some : goal.returns-in-Some
returns-in-Some c =
    let left : ℕ = c.args.turns - (c.loop.counter + 1) in
    let many : c.args.turns - c.loop.counter ≡ suc left = omega (arith, c.loop-test.true) in
    c.loop.invariant.leads c.in-Some.stop c.turn.new.self c.enter.new.self
    (subst (λ (n : ℕ). TurnsOn n c.args.until c.args.seat c.loop.machine c.loop.book c.in-Some.stop c.turn.new.self
    c.enter.new.self) (sym many)
    (stops_there left c.args.until c.args.seat c.loop.machine c.turn.new.self c.loop.book c.enter.new.self
    c.in_ok-turn.turn c.in-Some.stop c.in_ok-turn.ensures.turns
    (c.in-Some.ensures ∙ ap (stop_of c.args.until c.in_ok-turn.turn) c.made.ensures)
    (c.in_ok-enter.ensures ∙ ap (entered c.loop.book) c.entries.ensures)))

pub loop-preserved : goal.loop-preserved
loop-preserved c =
    let left : ℕ = c.args.turns - (c.loop.counter + 1) in
    let many : c.args.turns - c.loop.counter ≡ suc left = omega (arith, c.loop-test.true) in
    goes_on c.args.turns left c.args.until c.args.seat c.args.machine.now c.loop.machine c.turn.new.self c.args.book.now
    c.loop.book c.enter.new.self c.in_ok-turn.turn c.in_ok-turn.ensures.turns
    (c.in-None.ensures ∙ ap (stop_of c.args.until c.in_ok-turn.turn) c.made.ensures)
    (c.in_ok-enter.ensures ∙ ap (entered c.loop.book) c.entries.ensures)
    (subst (λ (n : ℕ). LeadsTo c.args.turns c.args.until c.args.seat c.args.machine.now c.args.book.now n c.loop.machine
    c.loop.book) many c.loop.invariant)

pub returns : goal.returns
returns c =
    let none : c.args.turns - c.loop.counter ≡ 0 = omega (arith, c.loop-test.false) in
    c.loop.invariant.leads Stop.Spent c.loop.machine c.loop.book
    (subst (λ (n : ℕ). TurnsOn n c.args.until c.args.seat c.loop.machine c.loop.book Stop.Spent c.loop.machine c.loop.book)
    (sym none) (spent c.args.until c.args.seat c.loop.machine c.loop.book))
