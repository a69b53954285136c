use Rattle.size_classes.proofs.Places.{slabs_are_laid_out}
use Rattle.size_classes.proofs.laws.slabs_are_laid_out.Goals as goal

pub returns : goal.returns
returns c = slabs_are_laid_out
