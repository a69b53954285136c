-- Steps on slabs and objects.
use Rattle.std.proofs.Common.{◌≡◌, ℕ, ◌-◌, length, inl, refl, sym, subst, arith}
use Rattle.pool_words.specs.declared.words.Key.{Key}
use Rattle.pool_words.specs.declared.actions.Action.{Action}
use Rattle.word_codes.specs.declared.guards.Guard.{Guard}
use Rattle.word_codes.specs.Guards.{guard_of}
use Rattle.guards.specs.declared.win.Side.{Side}
use Rattle.guards.specs.declared.win.Taking.{Taking}
use Rattle.word_laws.specs.Memory.{Mem, after}
use Rattle.guard_laws.specs.Blocks as blocks
use Rattle.guard_laws.specs.Blocks.{Use, Place, Standing, at_edge, edge_of, core_in}
use Rattle.guard_laws.specs.Blocks.{view_of, GuardFits, IsShut, rest_of}
use Rattle.guard_laws.specs.Steps.{guard_in, GuardStep}
use Rattle.guard_laws.proofs.CallerLemmas.{quiet_stands, away_piece}
use Rattle.bin_laws.specs.Bins.{BinGood}
use Rattle.queue_laws.specs.Queue.{QueueGood}
use Rattle.queue_laws.specs.Steps.{IsIdle}
use Rattle.use_laws.specs.Pools.{Pool, InHand}
use Rattle.use_laws.specs.After.{at_rest, in_hand}
use Rattle.use_laws.specs.Steps.{PoolStep}
use Rattle.use_laws.proofs.CallerLemmas.{steps_keep_pool, block_of, kept_by, kept_cached, freed_rests, cached_by}
use Rattle.free_laws.specs.Spaces.{Space, bins_of, bin_tasks, queue_of, queue_tasks, SeatFits, FreeGood}
use Rattle.free_laws.specs.Steps.{with_guards, IsLoose, IsOfThings, IsOfUses}
use Rattle.free_laws.proofs.Calm.{IsCalm, calm_used, calm_taken}
use Rattle.free_laws.proofs.Guarded.{bins_as, queue_as, bins_other, queue_other}
use Rattle.free_laws.proofs.Words.{leaves_guards, leaves_lists, leaves_queue, same_lists, same_queue}

-- bins and the queue, where blocks are so, after a step on a word of slabs or objects
record FreeAs (k : Key) (s : Space) (h : blocks.Shadow) (m : Mem) : Type 0 where
  pub bins : BinGood k (bins_of (with_guards h m s.pool.tasks s)) m (bin_tasks s)
  pub queue : QueueGood k (queue_of (with_guards h m s.pool.tasks s)) m (queue_tasks s)

word_as : (k : Key) (t : ℕ) (s : Space) (action : Action) → IsIdle (s.queue t) → IsOfThings action → FreeGood k s
    → FreeAs k s s.pool.blocks (after k s.pool.mem action)
word_as k t s action idle is good = let other = leaves_guards 0 5 action (inl (omega arith)) is in record {
  bins = bins_other k t s action other (leaves_lists k s.pool.mem 0 5 action (inl (omega arith)) is) good.bins;
  queue = queue_other k t s action other idle (leaves_queue k s.pool.mem 0 5 action (omega arith) is) good.queue;
}

-- one block has another use
used_as : (k : Key) (t : ℕ) (s : Space) (h : blocks.Shadow) (m : Mem)
    → GuardStep k t s.pool.blocks m s.pool.tasks h m s.pool.tasks
    → IsCalm s.pool.blocks.place h.place t (λ y. IsLoose (with_guards s.pool.blocks m s.pool.tasks s) t y)
    → IsIdle (s.queue t) → FreeAs k s s.pool.blocks m → FreeAs k s h m
used_as k t s h m step calm idle free = let now = with_guards s.pool.blocks m s.pool.tasks s in record {
  bins = bins_as k t now h m s.pool.tasks step calm (same_lists m) free.bins;
  queue = queue_as k t now h m s.pool.tasks step calm idle (same_queue m) free.queue;
}

-- a block in hand comes to rest
rests_as : (k : Key) (t : ℕ) (s : Space) (x n : ℕ) (m : Mem) → InHand s.pool t x n Taking.ForUse → IsLoose s t x
    → IsIdle (s.queue t) → FreeAs k s s.pool.blocks m → FreeAs k s (at_rest x n s.pool.blocks) m
rests_as k t s x n m has loose idle free = used_as k t s (at_rest x n s.pool.blocks) m
    (GuardStep.reuses x n (Use.Held t Taking.ForUse) Use.Elsewhere has.away refl tt has.block (λ e. says e))
    (calm_used s.pool.blocks.place t x n (Use.Held t Taking.ForUse) Use.Elsewhere
    (λ y. IsLoose (with_guards s.pool.blocks m s.pool.tasks s) t y) free.bins.guards.parts.whole has.block refl tt
    (record { listed = loose.listed; taken = loose.taken })) idle free
  where
    says : (e : Side) → GuardFits Standing.Resting (guard_in m e (edge_of e x n))
    says e = subst (λ st. GuardFits st (guard_of (at_edge (core_in m s.pool.tasks).words e (edge_of e x n))))
        (quiet_stands k.span (view_of s.pool.blocks (core_in m s.pool.tasks)) x n (Use.Held t Taking.ForUse) e
        has.block (away_piece s.pool.tasks t x n has.away) free.bins.guards.parts)
        (free.bins.guards.parts.words_fit e (edge_of e x n))

used_fits : (taking : Taking) (guard : Guard) → guard ≡ Guard.Used → GuardFits (rest_of taking) guard
used_fits Taking.ForUse guard is = is
used_fits Taking.ToJoin guard is = subst IsShut (sym is) tt

-- a block at rest comes into the seat's hand
taken_as : (k : Key) (t : ℕ) (s : Space) (x n : ℕ) (taking : Taking) (m : Mem) → s.pool.tasks t ≡ blocks.Task.Away
    → s.pool.blocks.place x ≡ Place.Block x n Use.Elsewhere → IsIdle (s.queue t) → FreeAs k s s.pool.blocks m
    → FreeAs k s (in_hand t taking x n s.pool.blocks) m
taken_as k t s x n taking m away at idle free = used_as k t s (in_hand t taking x n s.pool.blocks) m
    (GuardStep.reuses x n Use.Elsewhere (Use.Held t taking) away tt refl at
    (λ e. used_fits taking (guard_in m e (edge_of e x n)) (says e)))
    (calm_taken s.pool.blocks.place t x n (Use.Held t taking)
    (λ y. IsLoose (with_guards s.pool.blocks m s.pool.tasks s) t y) free.bins.guards.parts.whole at refl) idle free
  where
    says : (e : Side) → guard_in m e (edge_of e x n) ≡ Guard.Used
    says e = subst (λ st. GuardFits st (guard_of (at_edge (core_in m s.pool.tasks).words e (edge_of e x n))))
        (quiet_stands k.span (view_of s.pool.blocks (core_in m s.pool.tasks)) x n Use.Elsewhere e at tt
        free.bins.guards.parts) (free.bins.guards.parts.words_fit e (edge_of e x n))

-- what each step makes of blocks
blocks_as : (k : Key) (t : ℕ) (s : Space) (later : Pool) (m : Mem) → (step : PoolStep k t s.pool later)
    → IsOfUses k t s later step → IsIdle (s.queue t) → FreeAs k s s.pool.blocks m → FreeGood k s
    → (later.tasks ≡ s.pool.tasks) × FreeAs k s later.blocks m
blocks_as k t s later m (PoolStep.guards h m' tasks step keeps same) ok idle free good = absurd ok
blocks_as k t s later m (PoolStep.objects h m' l' step plain) ok idle free good = (refl, free)
blocks_as k t s later m (PoolStep.frees call kind at few is own) ok idle free good = (refl, free)
blocks_as k t s later m (PoolStep.frees_block call x n at taking few is ends away) ok idle free good = (
  refl,
  taken_as k t s x n taking m away (freed_rests k s.pool t call x n at is ends good.pool).1 idle free,
)
blocks_as k t s later m (PoolStep.takes e head below few is) ok idle free good = (refl, free)
blocks_as k t s later m (PoolStep.rests e unit few is) ok idle free good = (refl, free)
blocks_as k t s later m (PoolStep.joins e first last count is) ok idle free good = (refl, free)
blocks_as k t s later m (PoolStep.readies x n unit has away fits low high few) ok idle free good =
    (refl, rests_as k t s x n m has ok idle free)
blocks_as k t s later m (PoolStep.slab_begins e class has away even low) ok idle free good =
    (refl, rests_as k t s e 2 m has ok idle free)
blocks_as k t s later m (PoolStep.slab_ends e taking free' away by none) ok idle free good =
    let kept = kept_by (s.pool.locals.book.keeper e) t by in
    (refl, taken_as k t s e 2 taking m free' (block_of k s.pool e kept good.pool) idle free)
blocks_as k t s later m (PoolStep.slab_cached e has even room) ok idle free good =
    (refl, rests_as k t s e 2 m has ok idle free)
blocks_as k t s later m (PoolStep.newest_out e taking free' is) ok idle free good =
    let by = cached_by k s.pool t e (length (s.pool.cached t).items - 1) is good.pool in
    let kept = kept_cached (s.pool.locals.book.keeper e) t by in
    (refl, taken_as k t s e 2 taking m free' (block_of k s.pool e kept good.pool) idle free)
blocks_as k t s later m (PoolStep.oldest_out e taking free' is) ok idle free good =
    let kept = kept_cached (s.pool.locals.book.keeper e) t (cached_by k s.pool t e 0 is good.pool) in
    (refl, taken_as k t s e 2 taking m free' (block_of k s.pool e kept good.pool) idle free)
blocks_as k t s later m (PoolStep.clears e n taking has) ok idle free good = (refl, free)
blocks_as k t s later m (PoolStep.stores_header e by) ok idle free good = (refl, free)
blocks_as k t s later m (PoolStep.leaves e away by header) ok idle free good = (refl, free)
blocks_as k t s later m (PoolStep.comes chain away orphans) ok idle free good = (refl, free)
blocks_as k t s later m (PoolStep.goes_back e away has) ok idle free good = (refl, free)
blocks_as k t s later m (PoolStep.adopts e away has) ok idle free good = (refl, free)
blocks_as k t s later m (PoolStep.shelves x n has) ok idle free good = (refl, rests_as k t s x n m has ok idle free)
blocks_as k t s later m (PoolStep.unshelves x n taking free' shelved at) ok idle free good =
    (refl, taken_as k t s x n taking m free' at idle free)

-- each step on slabs and objects
pub uses_keep : (k : Key) (t : ℕ) (s : Space) (later : Pool) (action : Action) → (step : PoolStep k t s.pool later)
    → IsOfUses k t s later step → IsIdle (s.queue t) → IsOfThings action → later.mem ≡ after k s.pool.mem action
    → FreeGood k s → FreeGood k (record s { pool = later })
uses_keep k t s later action step ok idle is same good =
    let m = after k s.pool.mem action in
    let both = blocks_as k t s later m step ok idle (word_as k t s action idle is good) good in
    let free = both.1 in record {
      pool = steps_keep_pool k t s.pool later good.pool step;
      bins = subst (λ (f : Mem). BinGood k (bins_of (record s { pool = later })) f
          (bin_tasks (record s { pool = later }))) (sym same)
          (subst (λ (f : ℕ → blocks.Task). BinGood k (bins_of (record s { pool = later })) m
          (record { guards = f; bins = s.bins })) (sym both.0) free.bins);
      queue = subst (λ (f : Mem). QueueGood k (queue_of (record s { pool = later })) f
          (queue_tasks (record s { pool = later }))) (sym same)
          (subst (λ (f : ℕ → blocks.Task). QueueGood k (queue_of (record s { pool = later })) m
          (record { guards = f; queue = s.queue })) (sym both.0) free.queue);
      seats = subst (λ (f : ℕ → blocks.Task). (o : ℕ) → SeatFits (f o) (s.bins o) (s.queue o)) (sym both.0) good.seats;
    }
