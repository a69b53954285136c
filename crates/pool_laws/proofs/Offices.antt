-- Steps at the office.
use Rattle.std.proofs.Common.{◌≡◌, inl, inr, ℕ, ◌+◌, ◌<◌, ◌≤◌, Some, None, refl, ap, arith, ◌∙◌}
use Rattle.pool_types.specs.declared.policy.RegionRec.{RegionRec}
use Rattle.pool_words.specs.declared.words.Key.{Key}
use Rattle.pool_words.specs.declared.words.Word.{Word}
use Rattle.pool_words.specs.declared.actions.Action.{Action}
use Rattle.pool_words.specs.declared.actions.Action.TheVariants.{Store}
use Rattle.pool_words.specs.declared.actions.OfficeJob.{OfficeJob}
use Rattle.pool_words.specs.Words.{sizes, lefts}
use Rattle.word_codes.specs.declared.guards.Guard.{Guard}
use Rattle.word_codes.specs.Guards.{guard_of, guard_word}
use Rattle.word_codes.specs.Places.{slot_of}
use Rattle.guards.specs.declared.win.Side.{Side}
use Rattle.region_steps.specs.declared.office.OfficeAt.{OfficeAt}
use Rattle.region_steps.specs.Office.{office_course, wall_of}
use Rattle.word_laws.specs.Memory.{Mem, after}
use Rattle.guard_laws.specs.Blocks as blocks
use Rattle.guard_laws.specs.Blocks.{Place, Standing, edge_of, edge_word}
use Rattle.guard_laws.specs.Steps.{GuardStep, IsNoEdge, guard_in, with_edge}
use Rattle.orphan_laws.specs.Steps.{OrphanRun}
use Rattle.office_laws.specs.Regions as offices
use Rattle.office_laws.specs.Regions.{Task, IsIn}
use Rattle.office_laws.specs.Steps.{call_of}
use Rattle.use_laws.specs.Pools.{Pool}
use Rattle.use_laws.specs.Steps.{KeepsUse, PoolStep, PoolRun}
use Rattle.shelf_laws.specs.Steps.{ShelfStep, ShelfRun}
use Rattle.region_laws.specs.Granules.{State, settling, settling_at}
use Rattle.region_laws.specs.Steps.{RegionStep, RegionRun, blocks_settled, blocks_removed}
use Rattle.free_laws.specs.Steps.{KeepsFree, FreeStep, FreeRun}
use Rattle.post_laws.specs.Posts.{locals_of}
use Rattle.pool_laws.specs.Wholes.{Whole, WholeGood, shelf_of, regions_of, space_of, post_of}
use Rattle.pool_laws.specs.Changes.{with_pool, with_regions}
use Rattle.pool_laws.specs.Moves.{Moves}
use Rattle.pool_laws.specs.Steps.{IsFree, IsAtOffice}
use Rattle.pool_laws.proofs.Words.{Writing, NoGuard, leaves_guards, leaves_things, leaves_lists, leaves_queue}
use Rattle.pool_laws.proofs.Words.{leaves_cache, missed, same_things, same_lists, same_queue, same_cache}
use Rattle.pool_laws.proofs.Lifts.{Wrote, wrote, things_stay, lists_stay, queue_stays, cache_stays, orphans_stay}
use Rattle.pool_laws.proofs.Lifts.{Between, no_thing, no_guard, no_list, no_queue, no_cache, no_mail, post_runs}
use Rattle.pool_laws.proofs.Guarded.{edge_writes}
use Rattle.pool_laws.proofs.Below.{IsUnsettled, no_edge, all_outside, office_fits_at, guards_read_back, stored-valid}
use Rattle.pool_laws.proofs.Below.{put-same}

-- what a step at the office is to the other groups
pub record Outer (k : Key) (t : ℕ) (w : Whole) (later : Pool) : Type 0 where
  pub shelf : ShelfRun k (shelf_of w) (shelf_of (with_pool later w))
  pub free : FreeRun k (space_of w) (space_of (with_pool later w))
  pub run : PoolRun k w.pool later
  pub orphans : OrphanRun k w.ways w.pool.mem (locals_of (post_of w)) w.ways later.mem (locals_of (post_of w))
  pub same : later.locals ≡ w.pool.locals

pub outer_none : (k : Key) (t : ℕ) (w : Whole) → Outer k t w w.pool
outer_none k t w = record {
  shelf = ShelfRun.starts;
  free = FreeRun.starts;
  run = PoolRun.starts;
  orphans = OrphanRun.starts;
  same = refl;
}

-- a step on a word of the office
pub outer_word : (k : Key) (t : ℕ) (w : Whole) (action : Action) → IsFree w t → Writing (Between 27 29) action
    → Outer k t w (record w.pool { mem = after k w.pool.mem action })
outer_word k t w action free is =
    let m = w.pool.mem in
    let m' = after k m action in
    let far : NoGuard (Between 27 29) = no_guard 27 29 (inr (omega arith)) in
    let things = leaves_things k m (Between 27 29) action (no_thing 27 29 (omega arith)) is in
    let step = GuardStep.others action (leaves_guards (Between 27 29) action far is) in
    record {
      shelf = ShelfRun.steps ShelfRun.starts t (ShelfStep.pool (record w.pool { mem = m' })
          (PoolStep.guards w.pool.blocks m' w.pool.tasks step tt things) tt free.shelf
          (leaves_cache k m (Between 27 29) action (no_cache 27 29 (inr (omega arith))) is));
      free = FreeRun.steps FreeRun.starts t (FreeStep.guards w.pool.blocks m' w.pool.tasks step tt tt free.queue things
          (leaves_lists k m (Between 27 29) action (no_list 27 29 (inr (omega arith))) is)
          (leaves_queue k m (Between 27 29) action (no_queue 27 29 (inr (omega arith))) is));
      run = PoolRun.steps PoolRun.starts t (PoolStep.guards w.pool.blocks m' w.pool.tasks step tt things);
      orphans = orphans_stay k w.ways m m' (locals_of (post_of w)) (Between 27 29)
          (no_mail 27 29 (inr (omega arith)) (inr (omega arith))) (wrote k m (Between 27 29) action is);
      same = refl;
    }

-- a guard at an edge of a region that comes
outer_guard : (k : Key) (t : ℕ) (w : Whole) (h : blocks.Shadow) (m' : Mem)
    → (step : GuardStep k t w.pool.blocks w.pool.mem w.pool.tasks h m' w.pool.tasks)
    → KeepsUse k t w.pool.blocks w.pool.mem w.pool.tasks h m' w.pool.tasks step
    → KeepsFree k t (space_of w) h m' w.pool.tasks step → IsFree w t → Wrote k w.pool.mem m' (Between 6 7)
    → Outer k t w (record w.pool { mem = m'; blocks = h })
outer_guard k t w h m' step uses keeps free is =
    let m = w.pool.mem in
    let things = things_stay k m m' (Between 6 7) (no_thing 6 7 (omega arith)) is in
    record {
      shelf = ShelfRun.steps ShelfRun.starts t (ShelfStep.pool (record w.pool { mem = m'; blocks = h })
          (PoolStep.guards h m' w.pool.tasks step uses things) tt free.shelf
          (cache_stays k m m' (Between 6 7) (no_cache 6 7 (inl (omega arith))) is));
      free = FreeRun.steps FreeRun.starts t (FreeStep.guards h m' w.pool.tasks step uses keeps free.queue things
          (lists_stay k m m' (Between 6 7) (no_list 6 7 (inl (omega arith))) is)
          (queue_stays k m m' (Between 6 7) (no_queue 6 7 (inl (omega arith))) is));
      run = PoolRun.steps PoolRun.starts t (PoolStep.guards h m' w.pool.tasks step uses things);
      orphans = orphans_stay k w.ways m m' (locals_of (post_of w)) (Between 6 7)
          (no_mail 6 7 (inr (omega arith)) (inl (omega arith))) is;
      same = refl;
    }

-- and then a region's block comes or goes
pub outer_then : (k : Key) (t : ℕ) (w : Whole) (p : Pool) (h : blocks.Shadow)
    → (step : GuardStep k t p.blocks p.mem p.tasks h p.mem p.tasks)
    → KeepsUse k t p.blocks p.mem p.tasks h p.mem p.tasks step
    → KeepsFree k t (space_of (with_pool p w)) h p.mem p.tasks step → IsFree w t → Outer k t w p
    → Outer k t w (record p { blocks = h })
outer_then k t w p h step uses keeps free first = record {
  shelf = ShelfRun.steps first.shelf t (ShelfStep.pool (record p { blocks = h })
      (PoolStep.guards h p.mem p.tasks step uses (same_things p.mem)) tt free.shelf (same_cache p.mem));
  free = FreeRun.steps first.free t (FreeStep.guards h p.mem p.tasks step uses keeps free.queue (same_things p.mem)
      (same_lists p.mem) (same_queue p.mem));
  run = PoolRun.steps first.run t (PoolStep.guards h p.mem p.tasks step uses (same_things p.mem));
  orphans = first.orphans;
  same = first.same;
}

-- the region that a seat is about to settle
record Comes (k : Key) (w : Whole) (one : RegionRec) : Type 0 where
  pub un : IsUnsettled w.office w.settled one
  pub within : one.first + one.granules ≤ k.span

comes_at : (k : Key) (t : ℕ) (w : Whole) (job : OfficeJob) (at : OfficeAt) (one : RegionRec)
    → w.desks t ≡ Task.At job at → settling_at at ≡ Some one → IsIn w.office one → WholeGood k w → Comes k w one
comes_at k t w job at one is settles in' good =
    let out = good.regions.office.records_fit.known (slot_of one.number) one in' in record {
      un = record { out = out; none = good.regions.unsettled t one (ap settling is ∙ settles) };
      within = good.regions.placed.within (slot_of one.number) one out;
    }

no_edge_at : (k : Key) (w : Whole) (one : RegionRec) (e : Side) (y : ℕ) → Comes k w one → one.first ≤ y
    → y ≤ one.first + one.granules → WholeGood k w → IsNoEdge w.pool.blocks.place e y
no_edge_at k w one e y comes low high good =
    no_edge k w.office w.settled w.pool.blocks.place one e y good.regions.placed good.regions.office.out_fits
    good.regions.office.records_fit.known good.regions.pool.guards.parts.whole comes.un low high

wall_outer : (k : Key) (t : ℕ) (w : Whole) (e : Side) (y : ℕ) → y ≤ k.span → IsNoEdge w.pool.blocks.place e y
    → IsFree w t → Outer k t w (record w.pool {
      mem = after k w.pool.mem (Store (edge_word e y) (guard_word Guard.Wall));
      blocks = with_edge e y Standing.Walled w.pool.blocks;
    })
wall_outer k t w e y low none free = outer_guard k t w (with_edge e y Standing.Walled w.pool.blocks)
    (after k w.pool.mem (Store (edge_word e y) (guard_word Guard.Wall))) (GuardStep.walls e y low none) tt tt free
    (wrote k w.pool.mem (Between 6 7) (Store (edge_word e y) (guard_word Guard.Wall))
    (edge_writes e y (guard_word Guard.Wall)))

used_outer : (k : Key) (t : ℕ) (w : Whole) (e : Side) (y : ℕ) → y ≤ k.span → IsNoEdge w.pool.blocks.place e y
    → IsFree w t → Outer k t w (record w.pool {
      mem = after k w.pool.mem (Store (edge_word e y) (guard_word Guard.Used));
      blocks = with_edge e y Standing.Inner w.pool.blocks;
    })
used_outer k t w e y low none free = outer_guard k t w (with_edge e y Standing.Inner w.pool.blocks)
    (after k w.pool.mem (Store (edge_word e y) (guard_word Guard.Used))) (GuardStep.outlines e y low none) tt tt free
    (wrote k w.pool.mem (Between 6 7) (Store (edge_word e y) (guard_word Guard.Used))
    (edge_writes e y (guard_word Guard.Used)))

-- both guards of the region say that it is in use, once its last one is stored
both_used : (k : Key) (m : Mem) (one : RegionRec) → one.first + one.granules ≤ k.span
    → guard_in m Side.Begin one.first ≡ Guard.Used → (e : Side)
    → guard_in (after k m (Store (Word.Left (wall_of one)) (guard_word Guard.Used))) e
    (edge_of e one.first one.granules) ≡ Guard.Used
both_used k m one within first Side.Begin = ap (λ (f : ℕ → ℕ). guard_of (f one.first))
    (missed k m (Between 7 7) sizes (Store (Word.Left (wall_of one)) (guard_word Guard.Used))
    (λ n is e. let a = is.0 in omega (arith, e, a)) (omega arith, omega arith)) ∙ first
both_used k m one within first Side.End =
    ap (λ (m' : Mem). guard_of (m' lefts (wall_of one)))
    (stored-valid k m (Word.Left (wall_of one)) (guard_word Guard.Used) (omega arith))
    ∙ ap guard_of (put-same (m lefts) (wall_of one) (guard_word Guard.Used))
    ∙ guards_read_back Guard.Used tt

settled_outer : (k : Key) (t : ℕ) (w : Whole) (one : RegionRec) → Comes k w one → 0 < one.granules
    → guard_in w.pool.mem Side.Begin one.first ≡ Guard.Used → IsFree w t → WholeGood k w
    → Outer k t w (record w.pool {
      mem = after k w.pool.mem (Store (Word.Left (wall_of one)) (guard_word Guard.Used));
      blocks = blocks_settled t one w.pool.blocks;
    })
settled_outer k t w one comes some first free good =
    outer_then k t w (record w.pool {
      mem = after k w.pool.mem (Store (Word.Left (wall_of one)) (guard_word Guard.Used));
      blocks = with_edge Side.End (wall_of one) Standing.Inner w.pool.blocks;
    }) (blocks_settled t one w.pool.blocks)
    (GuardStep.comes one.first one.granules some comes.within
    (all_outside k w.office w.settled w.pool.blocks.place one good.regions.placed good.regions.office.out_fits
    good.regions.office.records_fit.known comes.un) (both_used k w.pool.mem one comes.within first)) tt tt free
    (used_outer k t w Side.End (wall_of one) comes.within
    (no_edge_at k w one Side.End (wall_of one) comes (omega arith) (omega arith) good) free)

office_outer : (k : Key) (t : ℕ) (w : Whole) (later : State) → (step : RegionStep k t (regions_of w) later)
    → IsAtOffice k t w later step → IsFree w t → WholeGood k w → Outer k t w later.pool
office_outer k t w later (RegionStep.pool p step leaves same) ok free good = absurd ok
office_outer k t w later (RegionStep.begins job is) ok free good = outer_none k t w
office_outer k t w later (RegionStep.locks job few is) ok free good =
    outer_word k t w (office_course (call_of t job) OfficeAt.Lock) free (omega arith, omega arith)
office_outer k t w later (RegionStep.looks job slot given is) ok free good =
    outer_word k t w (office_course (call_of t job) (OfficeAt.Region slot given)) free tt
office_outer k t w later (RegionStep.backs job end is) ok free good =
    outer_word k t w (office_course (call_of t job) (OfficeAt.Back end)) free tt
office_outer k t w later (RegionStep.unlocks job end is) ok free good =
    outer_word k t w (office_course (call_of t job) (OfficeAt.Unlock end)) free (omega arith, omega arith)
office_outer k t w later (RegionStep.comes granules given one is fresh within) ok free good = outer_none k t w
office_outer k t w later (RegionStep.refused granules given error is) ok free good = outer_none k t w
office_outer k t w later (RegionStep.gives_back first given is) ok free good = outer_none k t w
office_outer k t w later (RegionStep.bases' job one is) ok free good =
    outer_word k t w (office_course (call_of t job) (OfficeAt.Base one)) free (omega arith, omega arith)
office_outer k t w later (RegionStep.enters job one is) ok free good =
    outer_word k t w (office_course (call_of t job) (OfficeAt.Enter one)) free (omega arith, omega arith)
office_outer k t w later (RegionStep.walls_off job one is) ok free good =
    let in' = office_fits_at w.office (offices.core_in w.pool.mem w.desks) t (Task.At job (OfficeAt.WallSize one)) is
    good.regions.office in
    let comes = comes_at k t w job (OfficeAt.WallSize one) one is refl in' good in
    wall_outer k t w Side.Begin (wall_of one) comes.within
    (no_edge_at k w one Side.Begin (wall_of one) comes (omega arith) (omega arith) good) free
office_outer k t w later (RegionStep.walls_in job one is) ok free good =
    let in' = office_fits_at w.office (offices.core_in w.pool.mem w.desks) t (Task.At job (OfficeAt.WallLeft one)) is
    good.regions.office in
    let comes = comes_at k t w job (OfficeAt.WallLeft one) one is refl in' good in
    let within = comes.within in
    wall_outer k t w Side.End one.first (omega (arith, within))
    (no_edge_at k w one Side.End one.first comes (omega arith) (omega arith) good) free
office_outer k t w later (RegionStep.outlines job one is) ok free good =
    let in' = office_fits_at w.office (offices.core_in w.pool.mem w.desks) t (Task.At job (OfficeAt.FirstSize one)) is
    good.regions.office in
    let comes = comes_at k t w job (OfficeAt.FirstSize one) one is refl in' good in
    let within = comes.within in
    used_outer k t w Side.Begin one.first (omega (arith, within))
    (no_edge_at k w one Side.Begin one.first comes (omega arith) (omega arith) good) free
office_outer k t w later (RegionStep.settles job one is some first) ok free good =
    let in' = office_fits_at w.office (offices.core_in w.pool.mem w.desks) t (Task.At job (OfficeAt.LastLeft one)) is
    good.regions.office in
    settled_outer k t w one (comes_at k t w job (OfficeAt.LastLeft one) one is refl in' good) some first free good
office_outer k t w later (RegionStep.removes slot one taking is live has) ok free good =
    let job = OfficeJob.Give one.first in
    let action = office_course (call_of t job) (OfficeAt.Remove (Some slot)) in
    outer_then k t w (record w.pool { mem = after k w.pool.mem action }) (blocks_removed one w.pool.blocks)
    (GuardStep.leaves one.first one.granules taking has.away has.block) tt
    (record { listed = ok.listed; taken = ok.taken }) free
    (outer_word k t w action free (omega arith, omega arith))
office_outer k t w later (RegionStep.removes_none job is) ok free good =
    outer_word k t w (office_course (call_of t job) (OfficeAt.Remove None)) free (omega arith, omega arith)

pub office_moves : (k : Key) (t : ℕ) (w : Whole) (later : State) → (step : RegionStep k t (regions_of w) later)
    → IsAtOffice k t w later step → IsFree w t → WholeGood k w → Moves k w (with_regions later w)
office_moves k t w later step ok free good =
    let outer = office_outer k t w later step ok free good in record {
      shelf = outer.shelf;
      regions = RegionRun.steps RegionRun.starts t step;
      free = outer.free;
      post = post_runs k t w later.pool good.post outer.run outer.same outer.orphans;
    }
