-- Steps at the queue.
use Rattle.std.proofs.Common.{◌≡◌, ◌≢◌, inl, inr, ℕ, refl, sym, ap, subst, arith, ◌∙◌}
use Rattle.pool_words.specs.declared.words.Key.{Key}
use Rattle.pool_words.specs.declared.words.Word.{Word}
use Rattle.pool_words.specs.declared.actions.Action.{Action}
use Rattle.pool_words.specs.declared.actions.Action.TheVariants.{Swap}
use Rattle.pool_words.specs.Words.{queue_links}
use Rattle.word_codes.specs.Guards.{guard_of}
use Rattle.word_codes.specs.Links.{link_of}
use Rattle.word_codes.specs.QueueLinks.{queue_link_of}
use Rattle.guards.specs.declared.win.Side.{Side}
use Rattle.guards.specs.declared.win.Taking.{Taking}
use Rattle.chain_words.specs.declared.pushing.PushAt.{PushAt}
use Rattle.chain_words.specs.declared.pushing.PushNext.{PushNext}
use Rattle.chain_words.specs.Pushing.{push_learn}
use Rattle.word_laws.specs.Memory.{Mem, put, after, found}
use Rattle.word_laws.proofs.CallerLemmas.{each}
use Rattle.chain_laws.specs.Pushing.{push_action}
use Rattle.guard_laws.specs.Blocks as blocks
use Rattle.guard_laws.specs.Blocks.{Use, Place, Piece, put_range, edge_of, BlocksWhole}
use Rattle.guard_laws.specs.Steps.{guard_in, place_drained, use_drained, shadow_drained, GuardStep, IsOtherAction}
use Rattle.guard_laws.proofs.CallerLemmas.{same_block, Moved, used_moves, use_was, drained_was, same_after}
use Rattle.bin_laws.specs.Bins.{Task, BinGood}
use Rattle.bin_laws.specs.Steps as bins
use Rattle.bin_laws.specs.Steps.{kept_of, BinStep}
use Rattle.bin_laws.proofs.Keeps.{steps_keep_bins}
use Rattle.queue_laws.specs.Queue as queues
use Rattle.queue_laws.specs.Queue.{queue_words, push_of, QueuesFit, TaskFits}
use Rattle.queue_laws.specs.Steps.{task_queued, shadow_queued, QueueStep}
use Rattle.queue_laws.proofs.Keeps.{steps_keep_queue}
use Rattle.use_laws.specs.Pools.{PoolGood}
use Rattle.use_laws.specs.Steps.{PoolStep}
use Rattle.use_laws.proofs.CallerLemmas.{steps_keep_pool}
use Rattle.free_laws.specs.Spaces.{Space, bins_of, bin_tasks, queue_of, queue_tasks, QueueFits, SeatFits}
use Rattle.free_laws.specs.Spaces.{SeatsFit, FreeGood}
use Rattle.free_laws.specs.Steps.{with_guards, with_queue, IsAtQueue}
use Rattle.free_laws.proofs.Guarded.{pool_other, bins_other}
use Rattle.free_laws.proofs.Words.{leaves_guards, leaves_things, leaves_lists, same_things, same_lists, push_writes}

-- one block has another use, and neither is that of one in a bin
pub bins_used : (place : ℕ → Place) (seat x n : ℕ) (was now : Use) (kept : Piece) → BlocksWhole place
    → place x ≡ Place.Block x n was → was ≢ Use.Bin → now ≢ Use.Bin
    → ((m : ℕ) (taking : Taking) → was ≡ Use.Held seat taking → kept ≢ Piece.Got x m)
    → bins.IsQuiet place (put_range place x n (Place.Block x n now)) seat kept
bins_used place t x n was now kept whole at ne ne' own = record {
  to = λ y m f. moves.to y m Use.Bin (λ same. ne (use_is y m Use.Bin same f)) f;
  from = λ y m f. elim (use_was place x n was now whole at y m Use.Bin f) [
    | inl is ↦ absurd (ne' (sym is.2))
    | inr is ↦ is.1
  ];
  hand = λ y m taking is f. moves.to y m (Use.Held t taking)
      (λ same. own m taking (use_is y m (Use.Held t taking) same f) (is ∙ ap (λ z. Piece.Got z m) same)) f;
}
  where
    moves : Moved place (put_range place x n (Place.Block x n now)) x n now
    moves = used_moves place x n was now whole at

    use_is : (y m : ℕ) (w : Use) → y ≡ x → place y ≡ Place.Block y m w → was ≡ w
    use_is y m w same f =
        (same_block place x x n x m was w at (subst (λ z. place z ≡ Place.Block z m w) same f)).2

bin_was : (seat : ℕ) (u : Use) → use_drained seat u ≡ Use.Bin → u ≡ Use.Bin
bin_was t Use.Bin is = is
bin_was t (Use.Held o taking) is = absurd (cc)
bin_was t Use.Queued is = absurd (cc)
bin_was t Use.Elsewhere is = absurd (cc)

bins_drained : (place : ℕ → Place) (seat : ℕ) (kept : Piece)
    → bins.IsQuiet place (λ y. place_drained seat (place y)) seat kept
bins_drained place t kept = record {
  to = λ x n is. ap (place_drained t) is;
  from = λ x n is. let was = drained_was t (place x) x n Use.Bin is in
      was.1 ∙ ap (Place.Block x n) (bin_was t was.0 was.2);
  hand = λ x n taking _ is. ap (place_drained t) is;
}

pool_same : (k : Key) (s : Space) → PoolGood k s.pool
    → PoolGood k (with_guards s.pool.blocks s.pool.mem s.pool.tasks s).pool
pool_same k s good = record {
  guards = good.guards;
  slabs = good.slabs;
  objects = good.objects;
  uses = good.uses;
}

-- another task at the queue
queue_put : (s : Space) (t : ℕ) (task : queues.Task) → SeatsFit s → QueueFits (s.pool.tasks t) (s.bins t) task
    → (o : ℕ) → SeatFits (s.pool.tasks o) (s.bins o) (put s.queue t task o)
queue_put s t task fits now = each (λ o r. SeatFits (s.pool.tasks o) (s.bins o) r) s.queue t task (λ o _. fits o)
    (record { lock = (fits t).lock; queue = now })

-- a block comes into the queue
queues_fit : (k : Key) (t : ℕ) (s : Space) (x n : ℕ) (at : PushAt) → s.queue t ≡ queues.Task.Queues x n at
    → FreeGood k s → QueuesFit s.pool.blocks s.pool.mem t x n at
queues_fit k t s x n at is good = subst (λ q. TaskFits s.pool.blocks s.pool.mem t q) is (good.queue.tasks t)

at_none : (k : Key) (t : ℕ) (s : Space) (x n : ℕ) (at : PushAt) → s.queue t ≡ queues.Task.Queues x n at
    → FreeGood k s → (s.pool.tasks t ≡ blocks.Task.Away) × (s.bins t ≡ Task.Away)
at_none k t s x n at is good = subst (λ q. QueueFits (s.pool.tasks t) (s.bins t) q) is (good.seats t).queue

guard_stays : (k : Key) (m : Mem) (action : Action) (e : Side) (y : ℕ) → IsOtherAction action
    → guard_in (after k m action) e y ≡ guard_in m e y
guard_stays k m action Side.Begin y other = ap (λ f. guard_of (f y)) (same_after k m action other).sizes'
guard_stays k m action Side.End y other = ap (λ f. guard_of (f y)) (same_after k m action other).lefts'

-- the block's use, once the exchange has made it the first one
queued_step : (k : Key) (t : ℕ) (s : Space) (x n head : ℕ) (at : PushAt) (action : Action)
    → s.queue t ≡ queues.Task.Queues x n at → IsOtherAction action → FreeGood k s
    → GuardStep k t s.pool.blocks (after k s.pool.mem action) s.pool.tasks
    (shadow_queued x n (PushNext.Pushed head) s.pool.blocks) (after k s.pool.mem action) s.pool.tasks
queued_step k t s x n head at action is other good =
    let fits = queues_fit k t s x n at is good in
    GuardStep.reuses x n (Use.Held t Taking.ToJoin) Use.Queued (at_none k t s x n at is good).0 refl tt fits.hand
    (λ e. guard_stays k s.pool.mem action e (edge_of e x n) other ∙ fits.guards e)

pushed_pool : (k : Key) (t : ℕ) (s : Space) (x n : ℕ) (at : PushAt) (next : PushNext) (action : Action)
    → s.queue t ≡ queues.Task.Queues x n at → IsOtherAction action → FreeGood k s
    → PoolGood k (with_guards s.pool.blocks (after k s.pool.mem action) s.pool.tasks s).pool
    → PoolGood k (with_guards (shadow_queued x n next s.pool.blocks) (after k s.pool.mem action) s.pool.tasks s).pool
unfolding queued_step
pushed_pool k t s x n at (PushNext.Goes now) action is other good pool = pool
pushed_pool k t s x n at (PushNext.Pushed head) action is other good pool =
    let m' = after k s.pool.mem action in
    let g = shadow_queued x n (PushNext.Pushed head) s.pool.blocks in
    steps_keep_pool k t (with_guards s.pool.blocks m' s.pool.tasks s).pool (with_guards g m' s.pool.tasks s).pool pool
    (PoolStep.guards g m' s.pool.tasks (queued_step k t s x n head at action is other good)
    ((λ q. cc), (λ q. cc)) (same_things m'))

pushed_bins : (k : Key) (t : ℕ) (s : Space) (x n : ℕ) (at : PushAt) (next : PushNext) (action : Action)
    → s.queue t ≡ queues.Task.Queues x n at → IsOtherAction action → FreeGood k s
    → BinGood k (bins_of s) (after k s.pool.mem action) (bin_tasks s)
    → BinGood k (bins_of (with_guards (shadow_queued x n next s.pool.blocks) s.pool.mem s.pool.tasks s))
    (after k s.pool.mem action) (bin_tasks s)
pushed_bins k t s x n at (PushNext.Goes now) action is other good bins' = bins'
pushed_bins k t s x n at (PushNext.Pushed head) action is other good bins' =
    let m' = after k s.pool.mem action in
    let g = shadow_queued x n (PushNext.Pushed head) s.pool.blocks in
    let away = (at_none k t s x n at is good).1 in
    steps_keep_bins k t (bins_of s) m' (bin_tasks s) (bins_of (with_guards g s.pool.mem s.pool.tasks s)) m'
    (bin_tasks s) bins' (BinStep.guards g m' s.pool.tasks (queued_step k t s x n head at action is other good)
    (bins_used s.pool.blocks.place t x n (Use.Held t Taking.ToJoin) Use.Queued (kept_of (s.bins t))
    good.pool.guards.parts.whole (queues_fit k t s x n at is good).hand (λ q. cc) (λ q. cc)
    (λ m taking _ q. let none : Piece.NoPiece ≡ Piece.Got x m = ap kept_of (sym away) ∙ q in cc)) (same_lists m'))

after_push : (k : Key) (t : ℕ) (s : Space) (x n : ℕ) (at : PushAt) (next : PushNext)
    → s.queue t ≡ queues.Task.Queues x n at → FreeGood k s
    → QueueFits (s.pool.tasks t) (s.bins t) (task_queued x n next)
after_push k t s x n at (PushNext.Goes now) is good = at_none k t s x n at is good
after_push k t s x n at (PushNext.Pushed head) is good = tt

-- each step at the queue
pub queue_keeps : (k : Key) (t : ℕ) (s : Space) (h : queues.Shadow) (m' : Mem) (l' : queues.Locals)
    → (step : QueueStep k t (queue_of s) s.pool.mem (queue_tasks s) h m' l') → IsAtQueue k t s h m' l' step
    → FreeGood k s → FreeGood k (with_queue h m' l' s)
queue_keeps k t s h m' l' (QueueStep.guards g m tasks step idle quiet same) at good = absurd at
queue_keeps k t s h m' l' (QueueStep.begins x n is away at marked) none good = record {
  pool = pool_same k s good.pool;
  bins = good.bins;
  queue = steps_keep_queue k t (queue_of s) s.pool.mem (queue_tasks s) h m' l' good.queue
      (QueueStep.begins x n is away at marked);
  seats = queue_put s t (queues.Task.Queues x n PushAt.Look) good.seats (away, none);
}
queue_keeps k t s h m' l' (QueueStep.pushes x n at is away) _ good =
    let action = push_action queue_words (push_of x n) at in
    let next = push_learn at (found s.pool.mem action) in
    let writes = push_writes x n at in
    let other = leaves_guards 12 13 action (inr (omega arith)) writes in record {
      pool = pushed_pool k t s x n at next action is other good (pool_other k t s.pool action other
          (leaves_things k s.pool.mem 12 13 action (omega arith) writes) good.pool);
      bins = pushed_bins k t s x n at next action is other good (bins_other k t s action other
          (leaves_lists k s.pool.mem 12 13 action (inr (omega arith)) writes) good.bins);
      queue = steps_keep_queue k t (queue_of s) s.pool.mem (queue_tasks s) h m' l' good.queue
          (QueueStep.pushes x n at is away);
      seats = queue_put s t (task_queued x n next) good.seats (after_push k t s x n at next is good);
    }
queue_keeps k t s h m' l' (QueueStep.takes is) _ good =
    let action = Swap Word.Queue 0 in
    let m1 = after k s.pool.mem action in
    let g = shadow_drained t s.pool.blocks in
    let other = leaves_guards 12 13 action (inr (omega arith)) (omega arith, omega arith) in
    let pool = pool_other k t s.pool action other
    (leaves_things k s.pool.mem 12 13 action (omega arith) (omega arith, omega arith)) good.pool in
    let lists = bins_other k t s action other
    (leaves_lists k s.pool.mem 12 13 action (inr (omega arith)) (omega arith, omega arith)) good.bins in record {
      pool = steps_keep_pool k t (with_guards s.pool.blocks m1 s.pool.tasks s).pool
          (with_guards g m1 s.pool.tasks s).pool pool
          (PoolStep.guards g m1 s.pool.tasks GuardStep.drains tt (same_things m1));
      bins = steps_keep_bins k t (bins_of s) m1 (bin_tasks s) (bins_of (with_guards g m1 s.pool.tasks s)) m1
          (bin_tasks s) lists (BinStep.guards g m1 s.pool.tasks GuardStep.drains
          (bins_drained s.pool.blocks.place t (kept_of (s.bins t))) (same_lists m1));
      queue = steps_keep_queue k t (queue_of s) s.pool.mem (queue_tasks s) h m' l' good.queue (QueueStep.takes is);
      seats = queue_put s t (queues.Task.Drains (link_of (found s.pool.mem action))) good.seats tt;
    }
queue_keeps k t s h m' l' (QueueStep.reads x is) _ good = record {
  pool = pool_same k s good.pool;
  bins = good.bins;
  queue = steps_keep_queue k t (queue_of s) s.pool.mem (queue_tasks s) h m' l' good.queue (QueueStep.reads x is);
  seats = queue_put s t (queues.Task.Drains (queue_link_of (s.pool.mem queue_links x)).next) good.seats tt;
}
queue_keeps k t s h m' l' (QueueStep.ends is) _ good = record {
  pool = pool_same k s good.pool;
  bins = good.bins;
  queue = steps_keep_queue k t (queue_of s) s.pool.mem (queue_tasks s) h m' l' good.queue (QueueStep.ends is);
  seats = queue_put s t queues.Task.Away good.seats tt;
}
