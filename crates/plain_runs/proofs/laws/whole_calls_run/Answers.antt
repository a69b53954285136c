use Rattle.plain_runs.proofs.Journals.{whole_calls_run}
use Rattle.plain_runs.proofs.laws.whole_calls_run.Goals as goal

pub returns : goal.returns
returns c = whole_calls_run
