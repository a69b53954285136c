use Rattle.step_runs.proofs.Ordered.{steps_leave_rows}
use Rattle.step_runs.proofs.laws.steps_leave_rows.Goals as goal

pub returns : goal.returns
returns g c policy limits raw words home entries run none =
    let unstepped = steps_leave_rows run none in
    record {
      words_are = unstepped.words_are;
      home_is = unstepped.home_is;
      entries_are = unstepped.entries_are;
    }
