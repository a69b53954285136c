use Rattle.step_fits.proofs.Follows.{kept_slabs_are_of_the_pool}
use Rattle.step_fits.proofs.laws.kept_slabs_are_of_the_pool.Goals as goal

pub returns : goal.returns
returns c = kept_slabs_are_of_the_pool
