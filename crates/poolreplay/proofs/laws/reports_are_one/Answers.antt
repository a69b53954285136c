use Rattle.poolreplay.proofs.OneReply.{reports_are_one}
use Rattle.poolreplay.proofs.laws.reports_are_one.Goals as goal

pub returns : goal.returns
returns c = reports_are_one
