use Rattle.step_fits.proofs.Follows.{nothing_lies_aside_elsewhere}
use Rattle.step_fits.proofs.laws.nothing_lies_aside_elsewhere.Goals as goal

pub returns : goal.returns
returns c = nothing_lies_aside_elsewhere
