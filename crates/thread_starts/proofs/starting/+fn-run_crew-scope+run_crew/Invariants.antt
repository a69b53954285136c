use Rattle.std.proofs.Common.{◌+◌, ◌*◌, length}
use Rattle.thread_starts.proofs.starting.+fn-run_crew-scope+run_crew.Given as goal

abbrev pub decreases-scope : goal.decreases-scope
decreases-scope g l = 2 * length l.rest.items + 1

abbrev pub decreases-run_crew : goal.decreases-run_crew
decreases-run_crew g l = 2 * length l.waiting.items
