use Rattle.machine_laws.proofs.Machines.{machine_runs}
use Rattle.machine_laws.proofs.laws.machines_run.Goals as goal

pub returns : goal.returns
returns g c policy limits raw m reached = machine_runs _ _ _ _ policy limits raw reached
