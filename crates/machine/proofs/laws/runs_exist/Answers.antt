use Rattle.machine.proofs.Examples.{malloc_in_vain_runs}
use Rattle.machine.proofs.FirstMalloc.{first_malloc_runs}
use Rattle.machine.proofs.laws.runs_exist.Goals as goal

pub returns : goal.returns
returns c = (first_malloc_runs, malloc_in_vain_runs)
