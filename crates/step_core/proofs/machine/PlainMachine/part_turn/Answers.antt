-- The step as the part's seat, and what follows.
use Rattle.std.proofs.Common.{ℕ, subst}
use Rattle.step_core.specs.Turns.{StepsAt}
use Rattle.step_core.proofs.machine.PlainMachine.part_turn.Goals as goal

pub returns-in-Ok-clause-turns : goal.returns-in-Ok-clause-turns
returns-in-Ok-clause-turns g c = record {
  middle = c.steps_in.new.self;
  turn = c.in-Ok.turn;
  steps = subst (λ (seat : ℕ). StepsAt g.R.Raw.out g.R.Raw.faults g.R.Raw.got g.R.Raw.passed c.args.self.now seat
      c.in-Ok.turn c.steps_in.new.self) c.seat.ensures c.in-Ok.ensures.steps;
  after = c.follows.ensures;
}
