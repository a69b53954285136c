use Rattle.chain_laws.proofs.Leading.{chains_have_no_repeats}
use Rattle.chain_laws.proofs.laws.chains_have_no_repeats.Goals as goal

pub returns : goal.returns
returns c = chains_have_no_repeats
