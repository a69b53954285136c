use Rattle.chain_laws.proofs.Leading.{front_comes_off}
use Rattle.chain_laws.proofs.laws.front_comes_off.Goals as goal

pub returns : goal.returns
returns c = front_comes_off
