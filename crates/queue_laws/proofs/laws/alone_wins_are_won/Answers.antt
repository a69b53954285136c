use Rattle.queue_laws.proofs.LoneWins.{alone_wins_are_won}
use Rattle.queue_laws.proofs.laws.alone_wins_are_won.Goals as goal

pub returns : goal.returns
returns c = alone_wins_are_won
