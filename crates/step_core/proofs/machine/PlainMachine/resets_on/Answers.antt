-- The turns that were made, and one more.
use Rattle.std.proofs.Common.{suc, subst}
use Rattle.step_core.specs.Resets.{ResetTurns}
use Rattle.step_core.proofs.machine.PlainMachine.resets_on.Goals as goal

pub returns-then-done : goal.returns-then-done
returns-then-done g c = record {
  turns = c.loop.invariant.0;
  last = c.loop.self;
  before = c.loop.invariant.1;
  done = subst (λ b. ResetTurns g.R.Raw.out g.R.Raw.faults g.R.Raw.got g.R.Raw.passed c.loop.self b c.reset_turn.new.self)
      c.if-done.true c.in-Ok.ensures.turns;
}

pub loop-preserved : goal.loop-preserved
loop-preserved g c = (
  suc c.loop.invariant.0,
  (
    c.loop.self,
    c.loop.invariant.1,
    subst (λ b. ResetTurns g.R.Raw.out g.R.Raw.faults g.R.Raw.got g.R.Raw.passed c.loop.self b c.reset_turn.new.self)
        c.if-done.false c.in-Ok.ensures.turns,
  ),
)
