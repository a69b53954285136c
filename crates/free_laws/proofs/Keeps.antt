-- Each step, and so each run, keeps what holds of blocks in bins, queued, in hands and at rest.
use Rattle.free_laws.specs.Steps.{FreeStep}
use Rattle.free_laws.specs.Steps.FreeRun.{starts, steps}
use Rattle.free_laws.specs.Laws.{StepsKeepFree, RunsKeepFree}
use Rattle.free_laws.proofs.Guarded.{guards_keep}
use Rattle.free_laws.proofs.Used.{uses_keep}
use Rattle.free_laws.proofs.Binned.{bins_keep}
use Rattle.free_laws.proofs.Queued.{queue_keeps}

pub steps_keep_free : StepsKeepFree
steps_keep_free k t s later good (FreeStep.guards h m' tasks step use' keeps idle things lists queue) =
    guards_keep k t s h m' tasks step use' keeps idle things lists queue good
steps_keep_free k t s later good (FreeStep.uses pool action step ok idle is same) =
    uses_keep k t s pool action step ok idle is same good
steps_keep_free k t s later good (FreeStep.bins h m' l' step at idle) = bins_keep k t s h m' l' step at idle good
steps_keep_free k t s later good (FreeStep.queue h m' l' step at) = queue_keeps k t s h m' l' step at good

pub runs_keep_free : RunsKeepFree
runs_keep_free k s later good starts = good
runs_keep_free k s later good (steps {before} run seat step) =
    steps_keep_free k seat before later (runs_keep_free k s before good run) step
