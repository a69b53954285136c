-- A turn that ends the reset, and one that does not.
use Rattle.std.proofs.Common.{◌≡◌, ℕ, suc, ◌+◌, ◌-◌, arith, subst, sym, ap, ◌∙◌}
use Rattle.run_report.specs.Moves.{entered}
use Rattle.line_runs.specs.Resetting.{ResetsOn}
use Rattle.line_runs.proofs.LeadsTo.{ResetLeads, reset_ends, reset_goes_on}
use Rattle.line_runs.proofs.resets.reset_on.Goals as goal

pub returns-then-done : goal.returns-then-done
returns-then-done c =
    let left : ℕ = c.args.turns - (c.loop.counter + 1) in
    let many : c.args.turns - c.loop.counter ≡ suc left = omega (arith, c.loop-test.true) in
    c.loop.invariant.leads c.reset_turn.new.self c.enter.new.self
    (subst (λ (n : ℕ). ResetsOn n c.loop.machine c.loop.book c.reset_turn.new.self c.enter.new.self) (sym many)
    (reset_ends left c.loop.machine c.reset_turn.new.self c.loop.book c.enter.new.self c.in_ok-done.done
    c.in_ok-done.ensures.turns c.if-done.true (c.in_ok-enter.ensures ∙ ap (entered c.loop.book) c.entries.ensures)))

pub loop-preserved : goal.loop-preserved
loop-preserved c =
    let left : ℕ = c.args.turns - (c.loop.counter + 1) in
    let many : c.args.turns - c.loop.counter ≡ suc left = omega (arith, c.loop-test.true) in
    reset_goes_on c.args.turns left c.args.machine.now c.loop.machine c.reset_turn.new.self c.args.book.now c.loop.book
    c.enter.new.self c.in_ok-done.done c.in_ok-done.ensures.turns c.if-done.false
    (c.in_ok-enter.ensures ∙ ap (entered c.loop.book) c.entries.ensures)
    (subst (λ (n : ℕ). ResetLeads c.args.turns c.args.machine.now c.args.book.now n c.loop.machine c.loop.book) many
    c.loop.invariant)
