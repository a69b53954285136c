-- Each step, and so each run, keeps what holds of blocks, slabs and objects, and of what each block is used for.
use Rattle.use_laws.specs.Pools.{slabs_of}
use Rattle.use_laws.specs.Steps.{PoolStep}
use Rattle.use_laws.specs.Steps.PoolRun.{starts, steps}
use Rattle.use_laws.specs.Laws.{StepsKeepPool, RunsKeepPool}
use Rattle.guard_laws.proofs.CallerLemmas.{steps_keep_guards}
use Rattle.use_laws.proofs.Uses.{use_stays}
use Rattle.use_laws.proofs.Quiet.{guards_are_quiet}
use Rattle.use_laws.proofs.Words.{slabs_as, objects_as}
use Rattle.use_laws.proofs.Plain.{plain_keeps}
use Rattle.use_laws.proofs.Small.{frees_keeps, takes_keeps, rests_keeps, joins_keeps}
use Rattle.use_laws.proofs.Large.{readies_keeps, frees_block_keeps}
use Rattle.use_laws.proofs.Slabs.{slab_begins_keeps, slab_ends_keeps, slab_cached_keeps, newest_out_keeps}
use Rattle.use_laws.proofs.Slabs.{oldest_out_keeps, clears_keeps, stores_header_keeps, leaves_keeps, comes_keeps}
use Rattle.use_laws.proofs.Slabs.{goes_back_keeps, adopts_keeps, shelves_keeps, unshelves_keeps}

pub steps_keep_pool : StepsKeepPool
steps_keep_pool k t p later good (PoolStep.guards h m' tasks step keeps same) =
    let quiet = guards_are_quiet k t p.blocks p.mem p.tasks h m' tasks step keeps good.guards in record {
      guards = steps_keep_guards k t p.blocks p.mem p.tasks h m' tasks good.guards step;
      slabs = slabs_as k (slabs_of p) m' same good.slabs;
      objects = objects_as k p.objects p.mem m' p.locals same good.objects;
      uses = λ y. use_stays y (p.blocks.place y) (h.place y) (p.locals.book.keeper y) (p.locals.book.keeper y)
          p.objects.held p.objects.held (p.purpose y) (record {
            to = λ n is. quiet.to y n is;
            from = λ n is. quiet.from y n is;
            kept = λ is. is;
            was_kept = λ is. is;
            has = λ u n is. is;
            had = λ u n is. is;
          }) (good.uses y);
    }
steps_keep_pool k t p later good (PoolStep.objects h m' l' step plain) = plain_keeps k p h m' l' step plain good
steps_keep_pool k t p later good (PoolStep.frees call kind at few is own) =
    frees_keeps k t p call kind at few is own good
steps_keep_pool k t p later good (PoolStep.frees_block call x n at taking few is ends away) =
    frees_block_keeps k t p call x n at taking few is ends away good
steps_keep_pool k t p later good (PoolStep.takes e head below few is) = takes_keeps k t p e head below few is good
steps_keep_pool k t p later good (PoolStep.rests e unit few is) = rests_keeps k t p e unit few is good
steps_keep_pool k t p later good (PoolStep.joins e first last count is) = joins_keeps k t p e first last count is good
steps_keep_pool k t p later good (PoolStep.readies x n unit has away fits low high few) =
    readies_keeps k t p x n unit has away fits low high few good
steps_keep_pool k t p later good (PoolStep.slab_begins e class has away even low) =
    slab_begins_keeps k t p e class has away even low good
steps_keep_pool k t p later good (PoolStep.slab_ends e taking free away by none) =
    slab_ends_keeps k t p e taking free away by none good
steps_keep_pool k t p later good (PoolStep.slab_cached e has even room) = slab_cached_keeps k t p e has even room good
steps_keep_pool k t p later good (PoolStep.newest_out e taking free is) = newest_out_keeps k t p e taking free is good
steps_keep_pool k t p later good (PoolStep.oldest_out e taking free is) = oldest_out_keeps k t p e taking free is good
steps_keep_pool k t p later good (PoolStep.clears e n taking has) = clears_keeps k t p e n taking has good
steps_keep_pool k t p later good (PoolStep.stores_header e by) = stores_header_keeps k t p e by good
steps_keep_pool k t p later good (PoolStep.leaves e away by header) = leaves_keeps k t p e away by header good
steps_keep_pool k t p later good (PoolStep.comes chain away orphans) = comes_keeps k t p chain away orphans good
steps_keep_pool k t p later good (PoolStep.goes_back e away has) = goes_back_keeps k t p e away has good
steps_keep_pool k t p later good (PoolStep.adopts e away has) = adopts_keeps k t p e away has good
steps_keep_pool k t p later good (PoolStep.shelves x n has) = shelves_keeps k t p x n has good
steps_keep_pool k t p later good (PoolStep.unshelves x n taking free shelved rests) =
    unshelves_keeps k t p x n taking free shelved rests good

pub runs_keep_pool : RunsKeepPool
runs_keep_pool k p later good starts = good
runs_keep_pool k p later good (steps {before} run seat step) =
    steps_keep_pool k seat before later (runs_keep_pool k p before good run) step
