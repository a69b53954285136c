-- Steps of jobs at the cache of large blocks.
use Rattle.std.proofs.Common.{◌≡◌, inr, ℕ, ◌+◌, ◌<◌, ◌≤◌, Option, Some, None, List, [], ◌∷◌, refl, sym, ap}
use Rattle.std.proofs.Common.{subst, arith, ◌∙◌}
use Rattle.pool_words.specs.declared.words.Key.{Key}
use Rattle.pool_words.specs.declared.actions.Action.{Action}
use Rattle.pool_words.specs.declared.actions.Action.TheVariants.{Nothing}
use Rattle.guards.specs.declared.win.Taking.{Taking}
use Rattle.large_cache.specs.declared.get.GetAt.{GetAt}
use Rattle.large_cache.specs.declared.get.HitAt.{HitAt}
use Rattle.large_cache.specs.declared.keep.KeepAt.{KeepAt}
use Rattle.large_cache.specs.declared.sweep.Cleanup.{Cleanup}
use Rattle.large_cache.specs.declared.sweep.JudgeAt.{JudgeAt}
use Rattle.large_cache.specs.declared.sweep.SweepAt.{SweepAt}
use Rattle.large_cache.specs.declared.undo.UndoAt.{UndoAt}
use Rattle.large_cache.specs.Get.{get_course, hit_course}
use Rattle.large_cache.specs.List.{cut_behind}
use Rattle.large_cache.specs.Keep.{keep_course}
use Rattle.large_cache.specs.Sweep.{sweep_course, judge_course}
use Rattle.large_cache.specs.Undo.{undo_course}
use Rattle.word_laws.specs.Memory.{put, after}
use Rattle.chain_laws.specs.Chains.{tally}
use Rattle.guard_laws.specs.Blocks as blocks
use Rattle.guard_laws.specs.Blocks.{Use, Place, put_range}
use Rattle.guard_laws.specs.Steps.{GuardStep}
use Rattle.orphan_laws.specs.Steps.{OrphanRun}
use Rattle.queue_laws.specs.Steps.{IsIdle}
use Rattle.cache_laws.specs.Good.{Task, hand}
use Rattle.cache_laws.specs.Steps.{call_of, keep_of, sweep_of, bins_got, bins_kept, bins_swept}
use Rattle.use_laws.specs.Uses.{Purpose}
use Rattle.use_laws.specs.Pools.{Pool, PoolGood, InHand}
use Rattle.use_laws.specs.After.{with_mem, pool_shelved, pool_unshelved}
use Rattle.use_laws.specs.Steps.{PoolStep, PoolRun}
use Rattle.shelf_laws.specs.Shelves.{State, ShelvesFit, PutFits, stock_of}
use Rattle.shelf_laws.specs.Steps.{list_of, left_by_get, left_by_keep, left_by_sweep, shelved_by, taken_out, ShelfStep}
use Rattle.shelf_laws.specs.Steps.{ShelfRun}
use Rattle.region_laws.specs.Steps.{RegionStep, RegionRun}
use Rattle.free_laws.specs.Steps.{FreeStep, FreeRun, IsLoose}
use Rattle.post_laws.specs.Posts.{locals_of}
use Rattle.pool_laws.specs.Wholes.{Whole, WholeGood, shelf_of, regions_of, space_of, post_of}
use Rattle.pool_laws.specs.Changes.{with_pool, with_shelf}
use Rattle.pool_laws.specs.Moves.{Moves}
use Rattle.pool_laws.specs.Steps.{IsAtShelves}
use Rattle.pool_laws.proofs.Words.{Writing, NoGuard, leaves_guards, leaves_things, leaves_lists, leaves_queue}
use Rattle.pool_laws.proofs.Words.{leaves_office, same_office}
use Rattle.pool_laws.proofs.Lifts.{wrote, orphans_stay, Between, no_thing, no_guard, no_list, no_queue, no_office}
use Rattle.pool_laws.proofs.Lifts.{no_mail, post_runs}
use Rattle.pool_laws.proofs.Below.{steps_keep_pool, Moved, used_moves, put-same, put-other, at_bin, Leaves}
use Rattle.pool_laws.proofs.Below.{in_here, in_none}
use Rattle.pool_laws.proofs.Below.{tally-here, tally-else, equal_or, once_in, got_leaves, kept_leaves, swept_leaves}
use Rattle.pool_laws.proofs.Below.{gets_take_the_newest, puts_release_the_oldest, sweeps_release_the_oldest}

-- what a step at the cache is to the other groups
record Inner (k : Key) (t : ℕ) (w : Whole) (later : Pool) : Type 0 where
  pub regions : RegionRun k (regions_of w) (regions_of (with_pool later w))
  pub free : FreeRun k (space_of w) (space_of (with_pool later w))
  pub run : PoolRun k w.pool later
  pub orphans : OrphanRun k w.ways w.pool.mem (locals_of (post_of w)) w.ways later.mem (locals_of (post_of w))
  pub same : later.locals ≡ w.pool.locals
  pub good : PoolGood k later
  pub away : later.tasks ≡ w.pool.tasks

inner_none : (k : Key) (t : ℕ) (w : Whole) → PoolGood k w.pool → Inner k t w w.pool
inner_none k t w good = record {
  regions = RegionRun.starts;
  free = FreeRun.starts;
  run = PoolRun.starts;
  orphans = OrphanRun.starts;
  same = refl;
  good = good;
  away = refl;
}

-- a step on a word of the cache
inner_word : (k : Key) (t : ℕ) (w : Whole) (action : Action) → IsIdle (w.queue t) → Writing (Between 16 25) action
    → PoolGood k w.pool → Inner k t w (with_mem (after k w.pool.mem action) w.pool)
inner_word k t w action idle is good =
    let m = w.pool.mem in
    let m' = after k m action in
    let later : Pool = with_mem m' w.pool in
    let far : NoGuard (Between 16 25) = no_guard 16 25 (inr (omega arith)) in
    let things = leaves_things k m (Between 16 25) action (no_thing 16 25 (omega arith)) is in
    let step = GuardStep.others action (leaves_guards (Between 16 25) action far is) in
    let pool : PoolStep k t w.pool later = PoolStep.guards w.pool.blocks m' w.pool.tasks step tt things in
    record {
      regions = RegionRun.steps RegionRun.starts t (RegionStep.pool later
          (PoolStep.guards w.pool.blocks m' w.pool.tasks step tt things) tt
          (leaves_office k m (Between 16 25) action (no_office 16 25 (omega arith)) is));
      free = FreeRun.steps FreeRun.starts t (FreeStep.guards w.pool.blocks m' w.pool.tasks step tt tt idle things
          (leaves_lists k m (Between 16 25) action (no_list 16 25 (inr (omega arith))) is)
          (leaves_queue k m (Between 16 25) action (no_queue 16 25 (inr (omega arith))) is));
      run = PoolRun.steps PoolRun.starts t pool;
      orphans = orphans_stay k w.ways m m' (locals_of (post_of w)) (Between 16 25)
          (no_mail 16 25 (inr (omega arith)) (inr (omega arith))) (wrote k m (Between 16 25) action is);
      same = refl;
      good = steps_keep_pool k t w.pool later good pool;
      away = refl;
    }

-- a block comes out of the cache, and one comes into it
inner_out : (k : Key) (t : ℕ) (w : Whole) (taking : Taking) (b x : ℕ) (p : Pool) → IsIdle (w.queue t)
    → w.pool.tasks t ≡ blocks.Task.Away → p.purpose x ≡ Purpose.Shelved
    → p.blocks.place x ≡ Place.Block x b Use.Elsewhere → Inner k t w p
    → Inner k t w (pool_unshelved t x b taking p)
inner_out k t w taking b x p idle away shelved rests first =
    let later : Pool = pool_unshelved t x b taking p in
    let free : p.tasks t ≡ blocks.Task.Away = ap (λ (f : ℕ → blocks.Task). f t) first.away ∙ away in
    let step : PoolStep k t p later = PoolStep.unshelves x b taking free shelved rests in
    record {
      regions = RegionRun.steps first.regions t (RegionStep.pool later
          (PoolStep.unshelves x b taking free shelved rests) tt (same_office p.mem));
      free = FreeRun.steps first.free t (FreeStep.uses later Nothing (PoolStep.unshelves x b taking free shelved rests)
          tt idle tt refl);
      run = PoolRun.steps first.run t step;
      orphans = first.orphans;
      same = first.same;
      good = steps_keep_pool k t p later first.good step;
      away = first.away;
    }

inner_in : (k : Key) (t : ℕ) (w : Whole) (b x : ℕ) (p : Pool) → IsIdle (w.queue t) → IsLoose (space_of w) t x
    → InHand p t x b Taking.ForUse → Inner k t w p → Inner k t w (pool_shelved x b p)
inner_in k t w b x p idle loose has first =
    let later : Pool = pool_shelved x b p in
    let step : PoolStep k t p later = PoolStep.shelves x b has in
    record {
      regions = RegionRun.steps first.regions t (RegionStep.pool later (PoolStep.shelves x b has) tt
          (same_office p.mem));
      free = FreeRun.steps first.free t (FreeStep.uses later Nothing (PoolStep.shelves x b has)
          (record { listed = loose.listed; taken = loose.taken }) idle tt refl);
      run = PoolRun.steps first.run t step;
      orphans = first.orphans;
      same = first.same;
      good = steps_keep_pool k t p later first.good step;
      away = first.away;
    }

-- each of these blocks lies in the cache, once
record AreShelved (p : Pool) (b : ℕ) (xs : List ℕ) : Type 0 where
  pub is : (x : ℕ) → 0 < tally x xs
      → (p.purpose x ≡ Purpose.Shelved) × (p.blocks.place x ≡ Place.Block x b Use.Elsewhere)
  pub once : (x : ℕ) → tally x xs ≤ 1

-- the others still do once the first one is taken out
others_shelved : (k : Key) (t b y : ℕ) (ys : List ℕ) (taking : Taking) (p : Pool) → PoolGood k p
    → AreShelved p b (y ∷ ys) → AreShelved (pool_unshelved t y b taking p) b ys
others_shelved k t b y ys taking p good are = record {
  is = λ x some. equal_or x y
      (λ e. absurd (let one = are.once y in let h = tally-here y ys in
      let s : 0 < tally y ys = subst (λ z. 0 < tally z ys) e some in omega arith))
      (λ ne. let old = are.is x (let r = tally-else x y ys ne in omega arith) in (
        put-other p.purpose y Purpose.Spare x ne ∙ old.0,
        moves.to x b Use.Elsewhere ne old.1,
      ));
  once = λ x. equal_or x y
      (λ e. subst (λ z. tally z ys ≤ 1) (sym e) (let one = are.once y in let h = tally-here y ys in omega arith))
      (λ ne. let one = are.once x in let r = tally-else x y ys ne in omega arith);
}
  where
    here : p.blocks.place y ≡ Place.Block y b Use.Elsewhere
    here = (are.is y (let h = tally-here y ys in omega arith)).1

    moves : Moved p.blocks.place (put_range p.blocks.place y b (Place.Block y b (Use.Held t taking))) y b
        (Use.Held t taking)
    moves = used_moves p.blocks.place y b Use.Elsewhere (Use.Held t taking) good.guards.parts.whole here

inner_take : (k : Key) (t : ℕ) (w : Whole) (taking : Taking) (b : ℕ) (xs : List ℕ) (p : Pool) → IsIdle (w.queue t)
    → w.pool.tasks t ≡ blocks.Task.Away → AreShelved p b xs → Inner k t w p
    → Inner k t w (taken_out t taking b xs p)
inner_take k t w taking b [] p idle away are first = first
inner_take k t w taking b (y ∷ ys) p idle away are first =
    let here = are.is y (let h = tally-here y ys in omega arith) in
    inner_take k t w taking b ys (pool_unshelved t y b taking p) idle away
    (others_shelved k t b y ys taking p first.good are)
    (inner_out k t w taking b y p idle away here.0 here.1 first)

-- what leaves a bin lies in the cache
leaving_shelved : (p : Pool) (b : ℕ) (xs : List ℕ) (stock stock' : ℕ → ℕ → ℕ)
    → ShelvesFit stock p.blocks.place p.purpose → Leaves stock stock' b xs → ((x : ℕ) → tally x xs ≤ 1)
    → AreShelved p b xs
leaving_shelved p b xs stock stock' fits leaves once = record {
  is = λ x some. fits.binned b x (let l = leaves b x in let h = in_here b (tally x xs) in omega arith);
  once = once;
}

one_once : (o : Option ℕ) (x : ℕ) → tally x (list_of o) ≤ 1
one_once None x = omega arith
one_once (Some y) x = equal_or x y
    (λ e. subst (λ z. tally z (y ∷ []) ≤ 1) (sym e) (let h = tally-here y [] in omega arith))
    (λ ne. let r = tally-else x y [] ne in omega arith)

-- the words that the jobs write
hit_on : (t b time : ℕ) (at : HitAt) → Writing (Between 16 25) (hit_course (call_of t b time) at)
hit_on t b time (HitAt.Link items block) = tt
hit_on t b time (HitAt.Age items block link) = tt
hit_on t b time (HitAt.Mean items block link age) = tt
hit_on t b time (HitAt.Pop newest) = (omega arith, omega arith)
hit_on t b time (HitAt.SetItems newest) = (omega arith, omega arith)
hit_on t b time (HitAt.SetMean newest) = (omega arith, omega arith)

get_on : (t b time : ℕ) (at : GetAt) → Writing (Between 16 25) (get_course (call_of t b time) at)
get_on t b time GetAt.Lock = (omega arith, omega arith)
get_on t b time GetAt.Items = tt
get_on t b time (GetAt.Head items) = tt
get_on t b time (GetAt.Hit at) = hit_on t b time at
get_on t b time GetAt.Cleaned = tt
get_on t b time (GetAt.SetThreshold cleaned) = (omega arith, omega arith)
get_on t b time GetAt.ClearCleaned = (omega arith, omega arith)
get_on t b time (GetAt.SetTime block) = (omega arith, omega arith)
get_on t b time (GetAt.Used block) = tt
get_on t b time (GetAt.SetUsed block used) = (omega arith, omega arith)
get_on t b time (GetAt.Unlock block) = (omega arith, omega arith)

undo_on : (t b : ℕ) (at : UndoAt) → Writing (Between 16 25) (undo_course (call_of t b 0) at)
undo_on t b UndoAt.Lock = (omega arith, omega arith)
undo_on t b UndoAt.Used = tt
undo_on t b (UndoAt.SetUsed used) = (omega arith, omega arith)
undo_on t b UndoAt.Unlock = (omega arith, omega arith)

cut_on : (b : ℕ) (before : Option ℕ) → Writing (Between 16 25) (cut_behind b before)
cut_on b (Some block) = (omega arith, omega arith)
cut_on b None = (omega arith, omega arith)

keep_on : (t b time block : ℕ) (at : KeepAt) → Writing (Between 16 25) (keep_course (keep_of t b time block) at)
keep_on t b time block KeepAt.Lock = (omega arith, omega arith)
keep_on t b time block KeepAt.Items = tt
keep_on t b time block (KeepAt.Head items) = tt
keep_on t b time block (KeepAt.Walk tail) = tt
keep_on t b time block (KeepAt.OldAge tail) = tt
keep_on t b time block (KeepAt.Cut tail age) = cut_on b tail.before
keep_on t b time block (KeepAt.SetCleaned tail age) = (omega arith, omega arith)
keep_on t b time block (KeepAt.SetLink items head released) = (omega arith, omega arith)
keep_on t b time block (KeepAt.SetAge items released) = (omega arith, omega arith)
keep_on t b time block (KeepAt.SetHead items released) = (omega arith, omega arith)
keep_on t b time block (KeepAt.SetItems items released) = (omega arith, omega arith)
keep_on t b time block (KeepAt.Used released) = tt
keep_on t b time block (KeepAt.SetUsed released used) = (omega arith, omega arith)
keep_on t b time block (KeepAt.Unlock released) = (omega arith, omega arith)

judge_on : (b : ℕ) (at : JudgeAt) → Writing (Between 16 25) (judge_course b at)
judge_on b (JudgeAt.Threshold count) = tt
judge_on b (JudgeAt.Mean count threshold) = tt
judge_on b (JudgeAt.Get count threshold mean) = tt
judge_on b (JudgeAt.Used count threshold mean get) = tt

sweep_on : (t b time : ℕ) (cleanup : Cleanup) (at : SweepAt)
    → Writing (Between 16 25) (sweep_course (sweep_of t b time cleanup) at)
sweep_on t b time cleanup SweepAt.Clock = tt
sweep_on t b time cleanup SweepAt.Peek = tt
sweep_on t b time cleanup SweepAt.Lock = (omega arith, omega arith)
sweep_on t b time cleanup SweepAt.Items = tt
sweep_on t b time cleanup (SweepAt.Judge at) = judge_on b at
sweep_on t b time cleanup (SweepAt.SetThreshold count threshold) = (omega arith, omega arith)
sweep_on t b time cleanup (SweepAt.Head count threshold) = tt
sweep_on t b time cleanup (SweepAt.Age walk) = tt
sweep_on t b time cleanup (SweepAt.Link walk) = tt
sweep_on t b time cleanup (SweepAt.Cut walk) = cut_on b walk.kept
sweep_on t b time cleanup (SweepAt.SetItems walk) = (omega arith, omega arith)
sweep_on t b time cleanup (SweepAt.SetCleaned walk) = (omega arith, omega arith)
sweep_on t b time cleanup SweepAt.Unlock = (omega arith, omega arith)

-- a get
got_inner : (k : Key) (t : ℕ) (w : Whole) (taking : Taking) (b time : ℕ) (at : GetAt) (p : Pool)
    → w.jobs t ≡ Task.Getting b time at → w.pool.tasks t ≡ blocks.Task.Away → IsIdle (w.queue t) → WholeGood k w
    → ShelvesFit (stock_of w.shelves) p.blocks.place p.purpose → Inner k t w p
    → Inner k t w (taken_out t taking b (left_by_get at) p)
got_inner k t w taking b time GetAt.Lock p is away idle good fits first = first
got_inner k t w taking b time GetAt.Items p is away idle good fits first = first
got_inner k t w taking b time (GetAt.Head items) p is away idle good fits first = first
got_inner k t w taking b time (GetAt.Hit at) p is away idle good fits first = first
got_inner k t w taking b time GetAt.Cleaned p is away idle good fits first = first
got_inner k t w taking b time (GetAt.SetThreshold cleaned) p is away idle good fits first = first
got_inner k t w taking b time GetAt.ClearCleaned p is away idle good fits first = first
got_inner k t w taking b time (GetAt.SetTime block) p is away idle good fits first = first
got_inner k t w taking b time (GetAt.Used block) p is away idle good fits first = first
got_inner k t w taking b time (GetAt.SetUsed block used) p is away idle good fits first = first
got_inner k t w taking b time (GetAt.Unlock block) p is away idle good fits first =
    inner_take k t w taking b (list_of block) p idle away
    (leaving_shelved p b (list_of block) (stock_of w.shelves)
    (stock_of (bins_got b time (GetAt.Unlock block) w.shelves)) fits
    (got_leaves w.shelves b time block
    (gets_take_the_newest k w.shelves w.pool.mem w.jobs t b time block good.shelf.cache is)) (one_once block)) first

-- the bins, and the block that is put beside
abbrev with_put : (ℕ → ℕ → ℕ) → ℕ → ℕ → ℕ → ℕ → ℕ
with_put stock b block c x = stock c x + at_bin b c (tally x (block ∷ []))

-- the block that is put lies in the cache then, beside what lay there
put_fits : (k : Key) (t b block : ℕ) (p : Pool) (stock : ℕ → ℕ → ℕ) → PoolGood k p
    → InHand p t block b Taking.ForUse → ShelvesFit stock p.blocks.place p.purpose → ((c : ℕ) → stock c block ≡ 0)
    → (o : Option ℕ) → ((x : ℕ) → 0 < tally x (list_of o) → 0 < with_put stock b block b x)
    → AreShelved (pool_shelved block b p) b (list_of o)
put_fits k t b block p stock good has fits none o some = record {
  is = λ x more. equal_or x block
      (λ e. subst (λ z. (put p.purpose block Purpose.Shelved z ≡ Purpose.Shelved)
      × ((pool_shelved block b p).blocks.place z ≡ Place.Block z b Use.Elsewhere)) (sym e)
      (put-same p.purpose block Purpose.Shelved, moves.here))
      (λ ne. let s = some x more in let n = tally-else x block [] ne in
      let z : at_bin b b (tally x (block ∷ [])) ≡ 0 = ap (at_bin b b) n ∙ in_none b b in
      let old = fits.binned b x (omega arith) in (
        put-other p.purpose block Purpose.Shelved x ne ∙ old.0,
        moves.to x b Use.Elsewhere ne old.1,
      ));
  once = one_once o;
}
  where
    moves : Moved p.blocks.place (put_range p.blocks.place block b (Place.Block block b Use.Elsewhere)) block b
        Use.Elsewhere
    moves = used_moves p.blocks.place block b (Use.Held t Taking.ForUse) Use.Elsewhere good.guards.parts.whole
        has.block

kept_inner : (k : Key) (t : ℕ) (w : Whole) (taking : Taking) (b time block : ℕ) (at : KeepAt) (p : Pool)
    → w.jobs t ≡ Task.Keeping b time block at → w.pool.tasks t ≡ blocks.Task.Away → IsIdle (w.queue t)
    → IsLoose (space_of w) t block → WholeGood k w → InHand p t block b Taking.ForUse
    → ShelvesFit (stock_of w.shelves) p.blocks.place p.purpose → Inner k t w p
    → Inner k t w (taken_out t taking b (left_by_keep at) (shelved_by at block b p))
kept_inner k t w taking b time block KeepAt.Lock p is away idle loose good has fits first = first
kept_inner k t w taking b time block KeepAt.Items p is away idle loose good has fits first = first
kept_inner k t w taking b time block (KeepAt.Head items) p is away idle loose good has fits first = first
kept_inner k t w taking b time block (KeepAt.Walk tail) p is away idle loose good has fits first = first
kept_inner k t w taking b time block (KeepAt.OldAge tail) p is away idle loose good has fits first = first
kept_inner k t w taking b time block (KeepAt.Cut tail age) p is away idle loose good has fits first = first
kept_inner k t w taking b time block (KeepAt.SetCleaned tail age) p is away idle loose good has fits first = first
kept_inner k t w taking b time block (KeepAt.SetLink items head r) p is away idle loose good has fits first = first
kept_inner k t w taking b time block (KeepAt.SetAge items r) p is away idle loose good has fits first = first
kept_inner k t w taking b time block (KeepAt.SetHead items r) p is away idle loose good has fits first = first
kept_inner k t w taking b time block (KeepAt.SetItems items r) p is away idle loose good has fits first = first
kept_inner k t w taking b time block (KeepAt.Used r) p is away idle loose good has fits first = first
kept_inner k t w taking b time block (KeepAt.SetUsed r used) p is away idle loose good has fits first = first
kept_inner k t w taking b time block (KeepAt.Unlock released) p is away idle loose good has fits first =
    inner_take k t w taking b (list_of released) (pool_shelved block b p) idle away
    (put_fits k t b block p (stock_of w.shelves) first.good has fits
    (λ c. good.shelf.cache.hands t block c (ap hand is)) released
    (λ x more. let l = leaves b x in let h = in_here b (tally x (list_of released)) in omega arith))
    (inner_in k t w b block p idle loose has first)
  where
    leaves : Leaves (with_put (stock_of w.shelves) b block)
        (stock_of (bins_kept b time block (KeepAt.Unlock released) w.shelves)) b (list_of released)
    leaves = kept_leaves k w.shelves b time block released (good.shelf.cache.bins b)
        (puts_release_the_oldest k w.shelves w.pool.mem w.jobs t b time block released good.shelf.cache is)

swept_inner : (k : Key) (t : ℕ) (w : Whole) (taking : Taking) (b time : ℕ) (cleanup : Cleanup) (gone : List ℕ)
    (at : SweepAt) (p : Pool) → w.jobs t ≡ Task.Sweeping b time cleanup gone at → w.pool.tasks t ≡ blocks.Task.Away
    → IsIdle (w.queue t) → WholeGood k w → ShelvesFit (stock_of w.shelves) p.blocks.place p.purpose
    → Inner k t w p → Inner k t w (taken_out t taking b (left_by_sweep gone at) p)
swept_inner k t w taking b time cleanup gone SweepAt.Clock p is away idle good fits first = first
swept_inner k t w taking b time cleanup gone SweepAt.Peek p is away idle good fits first = first
swept_inner k t w taking b time cleanup gone SweepAt.Lock p is away idle good fits first = first
swept_inner k t w taking b time cleanup gone SweepAt.Items p is away idle good fits first = first
swept_inner k t w taking b time cleanup gone (SweepAt.Judge at) p is away idle good fits first = first
swept_inner k t w taking b time cleanup gone (SweepAt.SetThreshold n a) p is away idle good fits first = first
swept_inner k t w taking b time cleanup gone (SweepAt.Head n a) p is away idle good fits first = first
swept_inner k t w taking b time cleanup gone (SweepAt.Age walk) p is away idle good fits first = first
swept_inner k t w taking b time cleanup gone (SweepAt.Link walk) p is away idle good fits first = first
swept_inner k t w taking b time cleanup gone (SweepAt.Cut walk) p is away idle good fits first = first
swept_inner k t w taking b time cleanup gone (SweepAt.SetItems walk) p is away idle good fits first = first
swept_inner k t w taking b time cleanup gone (SweepAt.SetCleaned walk) p is away idle good fits first = first
swept_inner k t w taking b time cleanup gone SweepAt.Unlock p is away idle good fits first =
    inner_take k t w taking b gone p idle away
    (leaving_shelved p b gone (stock_of w.shelves)
    (stock_of (bins_swept b time cleanup SweepAt.Unlock w.shelves)) fits leaves
    (λ x. let l = leaves b x in let h = in_here b (tally x gone) in
    let o = (once_in k (shelf_of w) good.shelf).one b x in omega arith)) first
  where
    leaves : Leaves (stock_of w.shelves) (stock_of (bins_swept b time cleanup SweepAt.Unlock w.shelves)) b gone
    leaves = swept_leaves w.shelves b time cleanup gone
        (sweeps_release_the_oldest k w.shelves w.pool.mem w.jobs t b time cleanup gone good.shelf.cache is)

shelf_inner : (k : Key) (t : ℕ) (w : Whole) (later : State) → (step : ShelfStep k t (shelf_of w) later)
    → IsAtShelves k t w later step → IsIdle (w.queue t) → WholeGood k w → Inner k t w later.pool
shelf_inner k t w later (ShelfStep.pool p step leaves none same) ok idle good = absurd ok
shelf_inner k t w later (ShelfStep.asks b time low is) ok idle good = inner_none k t w good.shelf.pool
shelf_inner k t w later (ShelfStep.regrets b low is) ok idle good = inner_none k t w good.shelf.pool
shelf_inner k t w later (ShelfStep.cleans b time cleanup at low holds is) ok idle good =
    inner_none k t w good.shelf.pool
shelf_inner k t w later (ShelfStep.gives b time block low is has) ok idle good = inner_none k t w good.shelf.pool
shelf_inner k t w later (ShelfStep.gets b time at taking is away) ok idle good =
    let action = get_course (call_of t b time) at in
    got_inner k t w taking b time at (with_mem (after k w.pool.mem action) w.pool) is away idle good
    good.shelf.shelves (inner_word k t w action idle (get_on t b time at) good.shelf.pool)
shelf_inner k t w later (ShelfStep.undoes b at is) ok idle good =
    inner_word k t w (undo_course (call_of t b 0) at) idle (undo_on t b at) good.shelf.pool
shelf_inner k t w later (ShelfStep.keeps b time block at taking is away) ok idle good =
    let action = keep_course (keep_of t b time block) at in
    kept_inner k t w taking b time block at (with_mem (after k w.pool.mem action) w.pool) is away idle ok good
    (record {
      away = away;
      block = subst (λ q. PutFits w.pool.blocks.place t q) is (good.shelf.puts t);
    }) good.shelf.shelves (inner_word k t w action idle (keep_on t b time block at) good.shelf.pool)
shelf_inner k t w later (ShelfStep.sweeps b time cleanup gone at taking is away) ok idle good =
    let action = sweep_course (sweep_of t b time cleanup) at in
    swept_inner k t w taking b time cleanup gone at (with_mem (after k w.pool.mem action) w.pool) is away idle good
    good.shelf.shelves (inner_word k t w action idle (sweep_on t b time cleanup at) good.shelf.pool)

pub shelves_move : (k : Key) (t : ℕ) (w : Whole) (later : State) → (step : ShelfStep k t (shelf_of w) later)
    → IsAtShelves k t w later step → IsIdle (w.queue t) → WholeGood k w → Moves k w (with_shelf later w)
shelves_move k t w later step ok idle good =
    let inner = shelf_inner k t w later step ok idle good in record {
      shelf = ShelfRun.steps ShelfRun.starts t step;
      regions = inner.regions;
      free = inner.free;
      post = post_runs k t w later.pool good.post inner.run inner.same inner.orphans;
    }
