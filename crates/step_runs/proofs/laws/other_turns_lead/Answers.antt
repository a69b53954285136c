use Rattle.step_runs.proofs.Onward.{other_turns_lead}
use Rattle.step_runs.proofs.laws.other_turns_lead.Goals as goal

pub returns : goal.returns
returns c = other_turns_lead
