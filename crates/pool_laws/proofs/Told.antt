-- What a run of steps on objects and slabs, and on words of mail and orphans, is to the cache, to the office, to bins
-- and to the queue.
use Rattle.std.proofs.Common.{◌≡◌, inl, inr, ℕ, ◌<◌, sym, subst, arith}
use Rattle.pool_words.specs.declared.words.Key.{Key}
use Rattle.pool_words.specs.declared.actions.Action.{Action}
use Rattle.word_laws.specs.Memory.{Mem, after}
use Rattle.guard_laws.specs.Steps.{GuardStep}
use Rattle.use_laws.specs.Pools.{Pool}
use Rattle.use_laws.specs.After.{with_mem}
use Rattle.use_laws.specs.Steps.{PoolStep, PoolRun}
use Rattle.use_laws.specs.Stays.{LeavesShelf}
use Rattle.shelf_laws.specs.Steps.{SameCache, ShelfStep, ShelfRun}
use Rattle.region_laws.specs.Steps.{SameOffice, LeavesRegions, RegionStep, RegionRun}
use Rattle.free_laws.specs.Steps.{IsOfUses, FreeStep, FreeRun}
use Rattle.pool_laws.specs.Wholes.{Whole, shelf_of, regions_of, space_of}
use Rattle.pool_laws.specs.Changes.{with_pool}
use Rattle.pool_laws.specs.Steps.{IsFree}
use Rattle.pool_laws.proofs.Words.{Writing, NoThing, NoGuard, leaves_guards, leaves_things, leaves_lists, leaves_queue}
use Rattle.pool_laws.proofs.Words.{leaves_cache, leaves_office}
use Rattle.pool_laws.proofs.Lifts.{Between, no_guard, no_list, no_queue, no_cache, no_office, no_thing}

pub record Tells (k : Key) (t : ℕ) (w : Whole) (later : Pool) : Type 0 where
  pub shelf : ShelfRun k (shelf_of w) (shelf_of (with_pool later w))
  pub regions : RegionRun k (regions_of w) (regions_of (with_pool later w))
  pub free : FreeRun k (space_of w) (space_of (with_pool later w))
  pub run : PoolRun k w.pool later

pub tells_none : (k : Key) (t : ℕ) (w : Whole) → Tells k t w w.pool
tells_none k t w = record {
  shelf = ShelfRun.starts;
  regions = RegionRun.starts;
  free = FreeRun.starts;
  run = PoolRun.starts;
}

-- then a step on slabs or objects
pub tells_use : (k : Key) (t : ℕ) (w : Whole) (p later : Pool) → (step : PoolStep k t p later)
    → LeavesShelf k t p later step → LeavesRegions k t p later step
    → IsOfUses k t (space_of (with_pool p w)) later step → IsFree w t → (action : Action)
    → Writing (Between 0 5) action → later.mem ≡ after k p.mem action → Tells k t w p → Tells k t w later
tells_use k t w p later step shelf regions uses free action is so first = record {
  shelf = ShelfRun.steps first.shelf t (ShelfStep.pool later step shelf free.shelf
      (subst (λ (x : Mem). SameCache p.mem x) (sym so)
      (leaves_cache k p.mem (Between 0 5) action (no_cache 0 5 (inl (omega arith))) is)));
  regions = RegionRun.steps first.regions t (RegionStep.pool later step regions
      (subst (λ (x : Mem). SameOffice p.mem x) (sym so)
      (leaves_office k p.mem (Between 0 5) action (no_office 0 5 (omega arith)) is)));
  free = FreeRun.steps first.free t (FreeStep.uses later action step uses free.queue is so);
  run = PoolRun.steps first.run t step;
}

-- an action on words of mail or orphans alone
pub data Mails (action : Action) : Type 0 where
  own : Writing (Between 2 2) action → Mails action
  next : Writing (Between 4 4) action → Mails action
  box : Writing (Between 14 15) action → Mails action

own_things : NoThing (Between 2 2)
own_things = record {
  marks' = λ n is e. let a = is.0 in let b = is.1 in omega (arith, e, a, b);
  publics' = λ n is e. let a = is.0 in let b = is.1 in omega (arith, e, a, b);
  kinds' = λ n is e. let a = is.0 in let b = is.1 in omega (arith, e, a, b);
  headers' = λ n is e. let a = is.0 in let b = is.1 in omega (arith, e, a, b);
}

next_things : NoThing (Between 4 4)
next_things = record {
  marks' = λ n is e. let a = is.0 in let b = is.1 in omega (arith, e, a, b);
  publics' = λ n is e. let a = is.0 in let b = is.1 in omega (arith, e, a, b);
  kinds' = λ n is e. let a = is.0 in let b = is.1 in omega (arith, e, a, b);
  headers' = λ n is e. let a = is.0 in let b = is.1 in omega (arith, e, a, b);
}

tells_word : (k : Key) (t : ℕ) (w : Whole) (p : Pool) (action : Action) (low high : ℕ) → NoThing (Between low high)
    → (high < 6) → IsFree w t → Writing (Between low high) action → Tells k t w p
    → Tells k t w (with_mem (after k p.mem action) p)
tells_word k t w p action low high things few free is first =
    let m = p.mem in
    let m' = after k m action in
    let far : NoGuard (Between low high) = no_guard low high (inl few) in
    let step = GuardStep.others action (leaves_guards (Between low high) action far is) in
    let same = leaves_things k m (Between low high) action things is in
    record {
      shelf = ShelfRun.steps first.shelf t (ShelfStep.pool (with_mem m' p)
          (PoolStep.guards p.blocks m' p.tasks step tt same) tt free.shelf
          (leaves_cache k m (Between low high) action (no_cache low high (inl (omega (arith, few)))) is));
      regions = RegionRun.steps first.regions t (RegionStep.pool (with_mem m' p)
          (PoolStep.guards p.blocks m' p.tasks step tt same) tt
          (leaves_office k m (Between low high) action (no_office low high (omega (arith, few))) is));
      free = FreeRun.steps first.free t (FreeStep.guards p.blocks m' p.tasks step tt tt free.queue same
          (leaves_lists k m (Between low high) action (no_list low high (inl (omega (arith, few)))) is)
          (leaves_queue k m (Between low high) action (no_queue low high (inl (omega (arith, few)))) is));
      run = PoolRun.steps first.run t (PoolStep.guards p.blocks m' p.tasks step tt same);
    }

tells_box : (k : Key) (t : ℕ) (w : Whole) (p : Pool) (action : Action) → IsFree w t → Writing (Between 14 15) action
    → Tells k t w p → Tells k t w (with_mem (after k p.mem action) p)
tells_box k t w p action free is first =
    let m = p.mem in
    let m' = after k m action in
    let far : NoGuard (Between 14 15) = no_guard 14 15 (inr (omega arith)) in
    let same = leaves_things k m (Between 14 15) action (no_thing 14 15 (omega arith)) is in
    let step = GuardStep.others action (leaves_guards (Between 14 15) action far is) in
    record {
      shelf = ShelfRun.steps first.shelf t (ShelfStep.pool (with_mem m' p)
          (PoolStep.guards p.blocks m' p.tasks step tt same) tt free.shelf
          (leaves_cache k m (Between 14 15) action (no_cache 14 15 (inl (omega arith))) is));
      regions = RegionRun.steps first.regions t (RegionStep.pool (with_mem m' p)
          (PoolStep.guards p.blocks m' p.tasks step tt same) tt
          (leaves_office k m (Between 14 15) action (no_office 14 15 (omega arith)) is));
      free = FreeRun.steps first.free t (FreeStep.guards p.blocks m' p.tasks step tt tt free.queue same
          (leaves_lists k m (Between 14 15) action (no_list 14 15 (inr (omega arith))) is)
          (leaves_queue k m (Between 14 15) action (no_queue 14 15 (inr (omega arith))) is));
      run = PoolRun.steps first.run t (PoolStep.guards p.blocks m' p.tasks step tt same);
    }

-- then a step on such a word
pub tells_mail : (k : Key) (t : ℕ) (w : Whole) (p : Pool) (action : Action) → IsFree w t → Mails action
    → Tells k t w p → Tells k t w (with_mem (after k p.mem action) p)
tells_mail k t w p action free (Mails.own is) first =
    tells_word k t w p action 2 2 own_things (omega arith) free is first
tells_mail k t w p action free (Mails.next is) first =
    tells_word k t w p action 4 4 next_things (omega arith) free is first
tells_mail k t w p action free (Mails.box is) first = tells_box k t w p action free is first
