use Rattle.plain_runs.proofs.Journals.{whole_calls_hold}
use Rattle.plain_runs.proofs.laws.whole_calls_hold.Goals as goal

pub returns : goal.returns
returns c = whole_calls_hold
