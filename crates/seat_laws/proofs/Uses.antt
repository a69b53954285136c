-- A step on objects or slabs alone leaves all other seats alone.
use Rattle.std.proofs.Common.{◌≡◌, ◌≢◌, ℕ, refl, sym, ap, ◌∙◌}
use Rattle.pool_words.specs.declared.words.Key.{Key}
use Rattle.guards.specs.declared.win.Taking.{Taking}
use Rattle.word_codes.specs.declared.kinds.Kind.{Kind}
use Rattle.public_list.specs.declared.ending.EndNext.{EndNext}
use Rattle.public_list.specs.Ending.{end_course, end_learn}
use Rattle.public_list.specs.Looking.{look_course, look_learn}
use Rattle.word_laws.specs.Memory.{Mem, found}
use Rattle.guard_laws.specs.Blocks.{Place, Use}
use Rattle.object_laws.specs.Objects as objects
use Rattle.object_laws.specs.Steps.{ObjectStep}
use Rattle.use_laws.specs.After.{pool_block_freed, pool_cached, pool_freed, pool_newest_out, pool_oldest_out}
use Rattle.use_laws.specs.After.{pool_readied, pool_rested, pool_taken}
use Rattle.use_laws.specs.Pools.{Pool}
use Rattle.use_laws.specs.Steps.{PoolStep}
use Rattle.pool_laws.specs.Changes.{with_pool}
use Rattle.pool_laws.specs.Steps.{IsOwnObject, IsOwnUse}
use Rattle.pool_laws.specs.Wholes.{Whole, WholeGood}
use Rattle.seat_hands.specs.Moved.{HandsStand}
use Rattle.seat_laws.specs.Stays.{PoolStays, SeatStays}
use Rattle.seat_laws.proofs.Alone.{SameGuards, after_spared, blocks_stay, lists_stay, not_put, same_guards, stand_same}
use Rattle.seat_laws.proofs.Alone.{stand_used, stored_spared}
use Rattle.seat_laws.proofs.Freed.{cached_rests, freed_at}
use Rattle.seat_laws.proofs.Objects.{OwnStays, end_spares, look_spares, own_ended, own_granted, own_looked}
use Rattle.seat_laws.proofs.Objects.{own_task}

-- what is left of a pool to a seat, beside the blocks
pub pool_stays : (p later : Pool) (t : ℕ) → later.tasks ≡ p.tasks → OwnStays p.locals later.locals t
    → later.kept t ≡ p.kept t → later.cached t ≡ p.cached t → PoolStays p later t
pool_stays p later t tasks own kept cached = record {
  guards = ap (λ f. f t) tasks;
  objects = own.tasks;
  notes = own.notes;
  last = own.lasts;
  kept = kept;
  cached = cached;
}

pub pool_leaves : (w : Whole) (t : ℕ) (later : Pool) → PoolStays w.pool later t → SameGuards w.pool.mem later.mem
    → HandsStand later.blocks.place w.pool.blocks.place t → SeatStays w (with_pool later w) t
pool_leaves w t later pool words stand = record {
  pool = pool;
  tasks = record {
    bins = refl;
    queue = refl;
    drained = refl;
    mails = refl;
    orphans = refl;
    spares = refl;
    jobs = refl;
    desks = refl;
  };
  blocks = blocks_stay w.pool later t stand words;
  lists = lists_stay w (with_pool later w) t words refl refl;
}

not_he : (o seat t : ℕ) → o ≡ seat → seat ≢ t → o ≢ t
not_he o seat t is ne same = ne (sym is ∙ same)

-- a step on objects changes words of objects alone, and what is the seat's own
record ObjectsLeave (m m' : Mem) (l l' : objects.Locals) (t : ℕ) : Type 0 where
  pub words : SameGuards m m'
  pub own : OwnStays l l' t

objects_leave : (k : Key) (seat t : ℕ) (w : Whole) (h : objects.Shadow) (m' : Mem) (l' : objects.Locals) → seat ≢ t
    → (step : ObjectStep k w.pool.objects w.pool.mem w.pool.locals h m' l') → IsOwnObject seat w step
    → ObjectsLeave w.pool.mem m' w.pool.locals l' t
objects_leave k seat t w h m' l' ne (ObjectStep.looks o call at is) own = record {
  words = after_spared k w.pool.mem (look_course call at) (look_spares call at);
  own = own_looked o t call (look_learn call at (found w.pool.mem (look_course call at))) w.pool.locals
      (not_he o seat t own ne);
}
objects_leave k seat t w h m' l' ne (ObjectStep.ends o call kind at few is) own = record {
  words = after_spared k w.pool.mem (end_course call at) (end_spares call at);
  own = own_ended o t call kind (end_learn call at (found w.pool.mem (end_course call at))) w.pool.locals
      (not_he o seat t own ne);
}
objects_leave k seat t w h m' l' ne (ObjectStep.reads o e head is) own = record {
  words = same_guards w.pool.mem;
  own = own_task o t _ w.pool.locals (not_he o seat t own ne);
}
objects_leave k seat t w h m' l' ne (ObjectStep.blocks o unit first granules few is) own = record {
  words = stored_spared k w.pool.mem _ _ refl;
  own = own_granted o t unit _ w.pool.locals.book w.pool.locals (not_he o seat t own ne);
}
objects_leave k seat t w h m' l' ne (ObjectStep.begins o task is start fits) own = record {
  words = same_guards w.pool.mem;
  own = own_task o t task w.pool.locals (not_he o seat t own.0 ne);
}
objects_leave k seat t w h m' l' ne (ObjectStep.forgets o n ns is) own = record {
  words = same_guards w.pool.mem;
  own = record { tasks = refl; notes = not_put w.pool.locals.notes o t ns (not_he o seat t own ne); lasts = refl };
}
objects_leave k seat t w h m' l' ne step own = absurd own

pub uses_leave : (k : Key) (seat t : ℕ) (w : Whole) (later : Pool) → WholeGood k w → seat ≢ t
    → (step : PoolStep k seat w.pool later) → IsOwnUse k seat w later step → SeatStays w (with_pool later w) t
uses_leave k seat t w later good ne (PoolStep.objects h m' l' step plain) own =
    let left = objects_leave k seat t w h m' l' ne step own in
    pool_leaves w t _ (pool_stays w.pool _ t refl left.own refl refl) left.words (stand_same w.pool.blocks.place t)
uses_leave k seat t w later good ne (PoolStep.frees call kind at few is ends) own =
    pool_leaves w t (pool_freed k seat call kind at w.pool)
    (pool_stays w.pool (pool_freed k seat call kind at w.pool) t refl (own_ended seat t call kind EndNext.Own
    w.pool.locals ne) (not_put w.pool.kept seat t _ ne) refl)
    (after_spared k w.pool.mem (end_course call at) (end_spares call at)) (stand_same w.pool.blocks.place t)
uses_leave k seat t w later good ne (PoolStep.frees_block call x n at taking few is ends away) own =
    pool_leaves w t (pool_block_freed k seat call x n at taking w.pool) (pool_stays w.pool (pool_block_freed k seat
    call x n at taking w.pool) t refl (own_ended seat t call (Kind.Large x n) EndNext.Large w.pool.locals ne) refl
    refl)
    (after_spared k w.pool.mem (end_course call at) (end_spares call at))
    (stand_used w.pool.blocks.place t x n Use.Elsewhere (Place.Block x n (Use.Held seat taking))
    good.free.pool.guards.parts.whole (freed_at k w.pool seat call x n at good.free.pool is ends) tt)
uses_leave k seat t w later good ne (PoolStep.takes e head below few is) own =
    pool_leaves w t (pool_taken k seat e head below w.pool)
    (pool_stays w.pool (pool_taken k seat e head below w.pool) t refl (own_granted seat t head _ _ w.pool.locals ne)
    (not_put w.pool.kept seat t _ ne) refl)
    (stored_spared k w.pool.mem _ _ refl) (stand_same w.pool.blocks.place t)
uses_leave k seat t w later good ne (PoolStep.rests e unit few is) own =
    pool_leaves w t (pool_rested k seat e unit w.pool)
    (pool_stays w.pool (pool_rested k seat e unit w.pool) t refl (own_granted seat t unit _ _ w.pool.locals ne)
    (not_put w.pool.kept seat t _ ne) refl)
    (stored_spared k w.pool.mem _ _ refl) (stand_same w.pool.blocks.place t)
uses_leave k seat t w later good ne (PoolStep.readies x n unit has away fits low high few) own =
    pool_leaves w t (pool_readied k seat x n unit w.pool) (pool_stays w.pool (pool_readied k seat x n unit w.pool) t
    refl (own_task seat t _ w.pool.locals ne) refl refl)
    (stored_spared k w.pool.mem _ _ refl)
    (stand_used w.pool.blocks.place t x n (Use.Held seat Taking.ForUse) (Place.Block x n Use.Elsewhere)
    good.free.pool.guards.parts.whole has.block ne)
uses_leave k seat t w later good ne (PoolStep.slab_cached e has even room) own =
    pool_leaves w t (pool_cached k seat e w.pool)
    (pool_stays w.pool (pool_cached k seat e w.pool) t refl (record { tasks = refl; notes = refl; lasts = refl }) refl
    (not_put w.pool.cached seat t _ ne))
    (stored_spared k w.pool.mem _ _ refl)
    (stand_used w.pool.blocks.place t e 2 (Use.Held seat Taking.ForUse) (Place.Block e 2 Use.Elsewhere)
    good.free.pool.guards.parts.whole has.block ne)
uses_leave k seat t w later good ne (PoolStep.newest_out e taking free is) own =
    pool_leaves w t (pool_newest_out k seat e taking w.pool)
    (pool_stays w.pool (pool_newest_out k seat e taking w.pool) t refl (record {
      tasks = refl;
      notes = refl;
      lasts =
          refl;
    }) refl (not_put w.pool.cached seat t _ ne))
    (stored_spared k w.pool.mem _ _ refl)
    (stand_used w.pool.blocks.place t e 2 Use.Elsewhere (Place.Block e 2 (Use.Held seat taking))
    good.free.pool.guards.parts.whole (cached_rests k w.pool seat e _ good.free.pool is) tt)
uses_leave k seat t w later good ne (PoolStep.oldest_out e taking free is) own =
    pool_leaves w t (pool_oldest_out k seat e taking w.pool)
    (pool_stays w.pool (pool_oldest_out k seat e taking w.pool) t refl (record {
      tasks = refl;
      notes = refl;
      lasts =
          refl;
    }) refl (not_put w.pool.cached seat t _ ne))
    (stored_spared k w.pool.mem _ _ refl)
    (stand_used w.pool.blocks.place t e 2 Use.Elsewhere (Place.Block e 2 (Use.Held seat taking))
    good.free.pool.guards.parts.whole (cached_rests k w.pool seat e _ good.free.pool is) tt)
uses_leave k seat t w later good ne step own = absurd own
