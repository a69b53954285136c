-- Each step, and so each run, keeps what holds of slabs.
use Rattle.slab_laws.specs.Steps.SlabStep.{takes_private, takes_rest, frees, joins, begins, ends, stores_header, leaves}
use Rattle.slab_laws.specs.Steps.SlabStep.{comes, goes_back, adopts, caches, newest_out, oldest_out, large, others}
use Rattle.slab_laws.specs.Steps.SlabRun.{starts, steps}
use Rattle.slab_laws.specs.Laws.{StepsKeepSlabs, RunsKeepSlabs}
use Rattle.slab_laws.proofs.Steps as first
use Rattle.slab_laws.proofs.Taking as taking
use Rattle.slab_laws.proofs.Caching as caching

pub steps_keep_slabs : StepsKeepSlabs
steps_keep_slabs k s later good (takes_private seat e u below by head fits) =
    taking.takes_private k s seat e u below good by head fits
steps_keep_slabs k s later good (takes_rest seat e by none low) = taking.takes_rest k s seat e good by none low
steps_keep_slabs k s later good (frees seat e u by fits) = taking.frees k s seat e u good by fits
steps_keep_slabs k s later good (joins seat e first joined by fits) =
    taking.joins k s seat e first joined good by fits
steps_keep_slabs k s later good (begins seat e class nobody place low) =
    first.begins k s seat e class good nobody place low
steps_keep_slabs k s later good (ends seat e by) = first.ends k s seat e good by
steps_keep_slabs k s later good (stores_header seat e by) = first.stores_header k s seat e good by
steps_keep_slabs k s later good (leaves seat e by header) = first.leaves k s seat e good by header
steps_keep_slabs k s later good (comes seat chain orphans) = taking.comes k s seat chain good orphans
steps_keep_slabs k s later good (goes_back seat e is) = taking.goes_back k s seat e good is
steps_keep_slabs k s later good (adopts seat e is) = taking.adopts k s seat e good is
steps_keep_slabs k s later good (caches seat e nobody low room) = caching.caches k s seat e good nobody low room
steps_keep_slabs k s later good (newest_out seat e is) = caching.newest_out k s seat e good is
steps_keep_slabs k s later good (oldest_out seat e is) = caching.oldest_out k s seat e good is
steps_keep_slabs k s later good (large e first granules nobody fits) =
    caching.large k s e first granules good nobody fits
steps_keep_slabs k s later good (others action other) = caching.others k s action good other

pub runs_keep_slabs : RunsKeepSlabs
runs_keep_slabs k s later good starts = good
runs_keep_slabs k s later good (steps {before} run step) =
    steps_keep_slabs k before later (runs_keep_slabs k s before good run) step
