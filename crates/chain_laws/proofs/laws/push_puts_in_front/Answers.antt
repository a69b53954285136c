use Rattle.chain_laws.proofs.Pushes.{push_puts_in_front}
use Rattle.chain_laws.proofs.laws.push_puts_in_front.Goals as goal

pub returns : goal.returns
returns c = push_puts_in_front
