-- Each step, and so each run, keeps what holds of the pool and its cache.
use Rattle.std.proofs.Common.{◌≡◌, ◌⊎◌, inl, inr, ℕ, Some, sym, ap, subst, arith}
use Rattle.std.proofs.Common.{◌∙◌}
use Rattle.pool_words.specs.declared.words.Key.{Key}
use Rattle.word_codes.specs.Places.{granule_of}
use Rattle.guards.specs.declared.win.Taking.{Taking}
use Rattle.large_cache.specs.Get.{get_course, get_learn}
use Rattle.large_cache.specs.Keep.{keep_course, keep_learn}
use Rattle.large_cache.specs.Sweep.{sweep_course, sweep_learn}
use Rattle.large_cache.specs.Undo.{undo_course, undo_learn}
use Rattle.word_laws.specs.Memory.{Mem, put, after, found}
use Rattle.word_laws.proofs.CallerLemmas.{less_or, equal_or, each}
use Rattle.guard_laws.specs.Blocks.{Use, Place}
use Rattle.guard_laws.proofs.CallerLemmas.{same_block}
use Rattle.cache_laws.specs.Bins.{Bin}
use Rattle.cache_laws.specs.Good.{Task, hand, CacheGood}
use Rattle.cache_laws.specs.Steps.{BinStep, IsFree, call_of, keep_of, sweep_of, task_got, task_undone, task_kept}
use Rattle.cache_laws.specs.Steps.{task_swept, bins_got, bins_undone, bins_kept, bins_swept}
use Rattle.cache_laws.proofs.CallerLemmas.{steps_keep_cache}
use Rattle.use_laws.specs.Uses.{Purpose}
use Rattle.use_laws.specs.Pools.{Pool, InHand}
use Rattle.use_laws.specs.Laws.{IsSlabBlock, IsObjectBlock, IsShelvedBlock}
use Rattle.use_laws.proofs.CallerLemmas.{steps_keep_pool, others_leave_blocks_in_hand, other_steps_leave_the_shelf}
use Rattle.use_laws.proofs.CallerLemmas.{blocks_have_one_purpose, objects_lie_in_blocks}
use Rattle.shelf_laws.specs.Shelves.{State, stock_of, PutFits, ShelfGood}
use Rattle.use_laws.specs.After.{with_mem}
use Rattle.shelf_laws.specs.Steps.{with_job, ShelfStep}
use Rattle.shelf_laws.specs.Steps.ShelfRun.{starts, steps}
use Rattle.shelf_laws.specs.Laws.{StepsKeepShelf, RunsKeepShelf, LiesFree, BlocksInBinsAreFree}
use Rattle.shelf_laws.proofs.Far.{get_far, undo_far, keep_far, sweep_far}
use Rattle.shelf_laws.proofs.Words.{cache_as}
use Rattle.use_laws.proofs.CallerLemmas.{mem_so}
use Rattle.shelf_laws.proofs.Taking.{Moved}
use Rattle.shelf_laws.proofs.Jobs.{put_stays, put_none, got_fits, undone_fits, swept_fits, kept_fits, got_moved}
use Rattle.shelf_laws.proofs.Jobs.{undone_moved, kept_moved, swept_moved}

-- a job's step: blocks moved, and the cache's bins and jobs are these
moved_so : (k : Key) (seat : ℕ) (s : State) (m' : Mem) (q : Pool) (bins : ℕ → Bin) (task : Task) → ShelfGood k s
    → CacheGood k bins m' (put s.jobs seat task) → Moved k seat (with_mem m' s.pool) q (stock_of bins)
    → PutFits q.blocks.place seat task
    → ShelfGood k (record { pool = q; bins = bins; jobs = put s.jobs seat task })
moved_so k t s m' q bins task good cache moved fits = record {
  pool = moved.pool;
  cache = subst (λ (m : Mem). CacheGood k bins m (put s.jobs t task)) (sym moved.mem) cache;
  shelves = moved.shelves;
  puts = each (λ o w. PutFits q.blocks.place o w) s.jobs t task
      (λ o ne. put_stays s.pool.blocks.place q.blocks.place o (s.jobs o) (moved.hands o (λ e. ne (sym e)))
      (good.puts o)) fits;
}

-- a job begins
begun_so : (k : Key) (seat : ℕ) (s : State) (task : Task) → ShelfGood k s
    → CacheGood k s.bins s.pool.mem (put s.jobs seat task) → PutFits s.pool.blocks.place seat task
    → ShelfGood k (with_job seat task s)
begun_so k t s task good cache fits = record {
  pool = good.pool;
  cache = cache;
  shelves = good.shelves;
  puts = each (λ o w. PutFits s.pool.blocks.place o w) s.jobs t task (λ o _. good.puts o) fits;
}

hand_is : (place : ℕ → Place) (seat x n : ℕ) (task : Task) → hand task ≡ Some x → PutFits place seat task
    → (b : ℕ) × (place x ≡ Place.Block x b (Use.Held seat Taking.ForUse))
hand_is place t x n Task.Away is fits = absurd (cc)
hand_is place t x n (Task.Getting b time at) is fits = absurd (cc)
hand_is place t x n (Task.Undoing b at) is fits = absurd (cc)
hand_is place t x n (Task.Keeping b time block at) is fits =
    let e : block ≡ x = cc in
    (b, subst (λ z. place z ≡ Place.Block z b (Use.Held t Taking.ForUse)) e fits)
hand_is place t x n (Task.Sweeping b time cleanup gone at) is fits = absurd (cc)

-- a block in hand is in no bin, and no other seat is about to put it
hand_free : (k : Key) (t : ℕ) (s : State) (x n : ℕ) → s.jobs t ≡ Task.Away → InHand s.pool t x n Taking.ForUse
    → ShelfGood k s → IsFree s.bins s.jobs x
hand_free k t s x n away has good = record {
  bins = λ b. less_or 0 (stock_of s.bins b x)
      (λ some. absurd (let old = good.shelves.binned b x some in
      let q = (same_block s.pool.blocks.place x x n x b (Use.Held t Taking.ForUse) Use.Elsewhere has.block old.1).2 in
      cc))
      (λ none. omega arith);
  hands = λ o is. equal_or o t
      (λ e. let q : hand Task.Away ≡ Some x = sym (ap hand (ap s.jobs e ∙ away)) ∙ is in cc)
      (λ ne. let old = hand_is s.pool.blocks.place o x n (s.jobs o) is (good.puts o) in
      let q = (same_block s.pool.blocks.place x x n x old.0 (Use.Held t Taking.ForUse) (Use.Held o Taking.ForUse)
      has.block old.1).2 in ne (cc));
}

pub steps_keep_shelf : StepsKeepShelf
steps_keep_shelf k t s later good (ShelfStep.pool q step leaves none same) =
    let stays = other_steps_leave_the_shelf k t s.pool q good.pool step leaves in record {
      pool = steps_keep_pool k t s.pool q good.pool step;
      cache = cache_as k s.bins s.pool.mem q.mem s.jobs same good.cache;
      shelves = record {
        binned = λ b x some. let old = good.shelves.binned b x some in
            (stays.to x old.0, stays.rests x b old.0 old.1);
        shelved = λ x is. good.shelves.shelved x (stays.from x is);
      };
      puts = λ o. equal_or o t
          (λ e. put_none q.blocks.place o (s.jobs o) (ap (λ z. hand (s.jobs z)) e ∙ none))
          (λ ne. put_stays s.pool.blocks.place q.blocks.place o (s.jobs o)
          (others_leave_blocks_in_hand k o t s.pool q good.pool step (λ e. ne (sym e))) (good.puts o));
    }
steps_keep_shelf k t s later good (ShelfStep.asks b time low is) =
    begun_so k t s _ good (steps_keep_cache k s.bins s.pool.mem s.jobs s.bins s.pool.mem _ good.cache
    (BinStep.asks t b time low is)) tt
steps_keep_shelf k t s later good (ShelfStep.regrets b low is) =
    begun_so k t s _ good (steps_keep_cache k s.bins s.pool.mem s.jobs s.bins s.pool.mem _ good.cache
    (BinStep.regrets t b low is)) tt
steps_keep_shelf k t s later good (ShelfStep.cleans b time cleanup at low none is) =
    begun_so k t s _ good (steps_keep_cache k s.bins s.pool.mem s.jobs s.bins s.pool.mem _ good.cache
    (BinStep.cleans t b time cleanup at low none is)) tt
steps_keep_shelf k t s later good (ShelfStep.gives b time block low is has) =
    let within = good.pool.guards.parts.within block b (Use.Held t Taking.ForUse) has.block in
    let below = (good.pool.guards.parts.whole block block b (Use.Held t Taking.ForUse) has.block).below in
    begun_so k t s _ good (steps_keep_cache k s.bins s.pool.mem s.jobs s.bins s.pool.mem _ good.cache
    (BinStep.gives t b time block low (omega arith) (hand_free k t s block b is has good) is)) has.block
steps_keep_shelf k t s later good (ShelfStep.gets b time at taking is away) =
    let action = get_course (call_of t b time) at in
    let m' = after k s.pool.mem action in
    let pool = mem_so k t s.pool action (get_far (call_of t b time) at) good.pool in
    let next = get_learn at (found s.pool.mem action) in
    let moved = got_moved k t taking b time at s (with_mem m' s.pool) is good pool away good.shelves in
    moved_so k t s m' _ (bins_got b time at s.bins) (task_got b time next) good
    (steps_keep_cache k s.bins s.pool.mem s.jobs (bins_got b time at s.bins) m' _ good.cache
    (BinStep.gets t b time at is)) moved (got_fits _ t b time next)
steps_keep_shelf k t s later good (ShelfStep.undoes b at is) =
    let action = undo_course (call_of t b 0) at in
    let m' = after k s.pool.mem action in
    let pool = mem_so k t s.pool action (undo_far (call_of t b 0) at) good.pool in
    let next = undo_learn at (found s.pool.mem action) in
    moved_so k t s m' (with_mem m' s.pool) (bins_undone b at s.bins) (task_undone b next) good
    (steps_keep_cache k s.bins s.pool.mem s.jobs (bins_undone b at s.bins) m' _ good.cache
    (BinStep.undoes t b at is)) (undone_moved k t b at s (with_mem m' s.pool) good pool good.shelves)
    (undone_fits _ t b next)
steps_keep_shelf k t s later good (ShelfStep.keeps b time block at taking is away) =
    let action = keep_course (keep_of t b time block) at in
    let m' = after k s.pool.mem action in
    let pool = mem_so k t s.pool action (keep_far (keep_of t b time block) at) good.pool in
    let next = keep_learn at (found s.pool.mem action) in
    let block_at : s.pool.blocks.place block ≡ Place.Block block b (Use.Held t Taking.ForUse) =
    subst (λ w. PutFits s.pool.blocks.place t w) is (good.puts t) in
    moved_so k t s m' _ (bins_kept b time block at s.bins) (task_kept b time block next) good
    (steps_keep_cache k s.bins s.pool.mem s.jobs (bins_kept b time block at s.bins) m' _ good.cache
    (BinStep.keeps t b time block at is))
    (kept_moved k t taking b time block at s (with_mem m' s.pool) is good pool
    (record { away = away; block = block_at }) good.shelves)
    (kept_fits t taking b time block (found s.pool.mem action) at (with_mem m' s.pool) block_at)
steps_keep_shelf k t s later good (ShelfStep.sweeps b time cleanup gone at taking is away) =
    let action = sweep_course (sweep_of t b time cleanup) at in
    let m' = after k s.pool.mem action in
    let pool = mem_so k t s.pool action (sweep_far (sweep_of t b time cleanup) at) good.pool in
    let next = sweep_learn (sweep_of t b time cleanup) at (found s.pool.mem action) in
    moved_so k t s m' _ (bins_swept b time cleanup at s.bins) (task_swept b time cleanup gone next) good
    (steps_keep_cache k s.bins s.pool.mem s.jobs (bins_swept b time cleanup at s.bins) m' _ good.cache
    (BinStep.sweeps t b time cleanup gone at is))
    (swept_moved k t taking b time cleanup gone at s (with_mem m' s.pool) is good pool away good.shelves)
    (swept_fits _ t b time cleanup gone next)

pub runs_keep_shelf : RunsKeepShelf
runs_keep_shelf k s later good starts = good
runs_keep_shelf k s later good (steps {before} run seat step) =
    steps_keep_shelf k seat before later (runs_keep_shelf k s before good run) step

pub blocks_in_bins_are_free : BlocksInBinsAreFree
blocks_in_bins_are_free k s b x good some = by (blocks_have_one_purpose k s.pool x b good.pool old.1)
  where
    old : (s.pool.purpose x ≡ Purpose.Shelved) × (s.pool.blocks.place x ≡ Place.Block x b Use.Elsewhere)
    old = good.shelves.binned b x some

    shelved : IsShelvedBlock s.pool x b → LiesFree k s b x
    shelved is = record {
      within = good.pool.guards.parts.within x b Use.Elsewhere old.1;
      slab = is.slab;
      object = is.object;
      units = λ u unit has low high.
          let r = objects_lie_in_blocks k s.pool u unit good.pool has in
          let z = granule_of unit in
          let at = (good.pool.guards.parts.whole x x b Use.Elsewhere old.1).all z low high in
          let rest = Use.Elsewhere in
          let same = (same_block s.pool.blocks.place z r.first r.granules x b rest rest r.block at).0 in
          not (s.pool.purpose r.first) u (ap s.pool.purpose same ∙ old.0) r.purpose;
    }
      where
        not : (q : Purpose) (u : ℕ) → q ≡ Purpose.Shelved → (q ≡ Purpose.Slab) ⊎ (q ≡ Purpose.Object u) → ⊥
        not q u is' (inl e) = let w : Purpose.Slab ≡ Purpose.Shelved = sym e ∙ is' in cc
        not q u is' (inr e) = let w : Purpose.Object u ≡ Purpose.Shelved = sym e ∙ is' in cc

    slab_not : IsSlabBlock s.pool x b → ⊥
    slab_not is =
        let w : Purpose.Shelved ≡ Purpose.Slab = sym old.0 ∙ (good.pool.uses x).slab is.kept in cc

    object_not : IsObjectBlock s.pool x b → ⊥
    object_not is =
        let w : Purpose.Shelved ≡ Purpose.Object is.unit = sym old.0 ∙ (good.pool.uses x).object is.unit b is.has in cc

    by : IsSlabBlock s.pool x b ⊎ IsObjectBlock s.pool x b ⊎ IsShelvedBlock s.pool x b → LiesFree k s b x
    by (inl is) = absurd (slab_not is)
    by (inr (inl is)) = absurd (object_not is)
    by (inr (inr is)) = shelved is
