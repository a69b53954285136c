-- Steps at bins.
use Rattle.std.proofs.Common.{◌≡◌, ◌≢◌, inl, inr, ℕ, ◌+◌, ◌<◌, List, sym, ap, subst, arith}
use Rattle.pool_words.specs.declared.words.Key.{Key}
use Rattle.pool_words.specs.declared.words.Word.{Word}
use Rattle.pool_words.specs.declared.actions.Action.{Action}
use Rattle.pool_words.specs.declared.actions.Action.TheVariants.{Store}
use Rattle.word_codes.specs.declared.guards.Guard.{Guard}
use Rattle.word_codes.specs.Guards.{guard_word}
use Rattle.guards.specs.declared.win.Side.{Side}
use Rattle.guards.specs.declared.win.Taking.{Taking}
use Rattle.guards.specs.declared.win.WinAt.{WinAt}
use Rattle.guards.specs.declared.win.WinCall.{WinCall}
use Rattle.guards.specs.declared.win.WinNext.{WinNext}
use Rattle.guards.specs.Win.{win_course, win_learn}
use Rattle.locked_chain.specs.declared.insert.InsertAt.{InsertAt}
use Rattle.locked_chain.specs.Locks.{lock_course, unlock_course}
use Rattle.locked_chain.specs.Insert.{insert_course}
use Rattle.locked_chain.specs.Remove.{remove_course}
use Rattle.backend_bins.specs.Blocks.{bin_of}
use Rattle.word_laws.specs.Memory.{Mem, put, after, found}
use Rattle.word_laws.proofs.CallerLemmas.{each}
use Rattle.chain_laws.specs.Chains.{tally}
use Rattle.lock_laws.specs.Locks.{lock_by}
use Rattle.lock_laws.specs.Seats.{list_call}
use Rattle.guard_laws.specs.Blocks as blocks
use Rattle.guard_laws.specs.Blocks.{Use, Place, Standing, piece_of, put_range, BlocksWhole}
use Rattle.guard_laws.specs.Steps.{GuardStep, task_after, shadow_won, shadow_taken, with_use, with_edge}
use Rattle.guard_laws.specs.Laws.{WinEnds, IsTaken}
use Rattle.guard_laws.proofs.CallerLemmas.{same_block, Moved, used_moves, use_was, both_words_or_none}
use Rattle.bin_laws.specs.Bins.{bin_words, Task, Member, Shadow, Locals, BinGood}
use Rattle.bin_laws.specs.Steps.{BinStep, task_won}
use Rattle.bin_laws.proofs.Keeps.{steps_keep_bins}
use Rattle.queue_laws.specs.Queue.{QueueGood}
use Rattle.queue_laws.specs.Steps as queues
use Rattle.queue_laws.specs.Steps.{IsIdle, QueueStep}
use Rattle.queue_laws.proofs.Keeps.{steps_keep_queue}
use Rattle.use_laws.specs.Pools.{PoolGood}
use Rattle.use_laws.specs.Steps.{PoolStep}
use Rattle.use_laws.proofs.CallerLemmas.{steps_keep_pool}
use Rattle.free_laws.specs.Spaces.{Space, bins_of, bin_tasks, queue_of, queue_tasks, LockFits, SeatFits, FreeGood}
use Rattle.free_laws.specs.Steps.{with_guards, with_bins, Writes, IsWordIn, IsAtBins}
use Rattle.free_laws.proofs.Guarded.{pool_other, queue_other}
use Rattle.free_laws.proofs.Seats.{idle_fits, seats_put}
use Rattle.free_laws.proofs.Words.{leaves_guards, leaves_things, leaves_queue, win_writes, insert_writes, remove_writes}

-- one block has another use, and neither is that of a queued one
pub queue_used : (place : ℕ → Place) (seat x n : ℕ) (was now : Use) (drained : List ℕ) → BlocksWhole place
    → place x ≡ Place.Block x n was → was ≢ Use.Queued → now ≢ Use.Queued
    → (was ≡ Use.Held seat Taking.ToJoin → tally x drained ≡ 0)
    → queues.IsQuiet place (put_range place x n (Place.Block x n now)) seat drained
queue_used place t x n was now drained whole at ne ne' own = record {
  to = λ y m f. moves.to y m Use.Queued (λ same. ne (use_is y m Use.Queued same f)) f;
  from = λ y m f. elim (use_was place x n was now whole at y m Use.Queued f) [
    | inl is ↦ absurd (ne' (sym is.2))
    | inr is ↦ is.1
  ];
  hand = λ y m some f. moves.to y m (Use.Held t Taking.ToJoin)
      (λ same. let none = own (use_is y m (Use.Held t Taking.ToJoin) same f) in
      let some' : 0 < tally x drained = subst (λ z. 0 < tally z drained) same some in omega arith) f;
}
  where
    moves : Moved place (put_range place x n (Place.Block x n now)) x n now
    moves = used_moves place x n was now whole at

    use_is : (y m : ℕ) (w : Use) → y ≡ x → place y ≡ Place.Block y m w → was ≡ w
    use_is y m w same f =
        (same_block place x x n x m was w at (subst (λ z. place z ≡ Place.Block z m w) same f)).2

-- what a step on words of bins leaves: pool and queue, where the seat is at no guard
at_lists : (k : Key) (t : ℕ) (s : Space) (items : ℕ → List ℕ) (member : ℕ → Member) (action : Action) (bin : Task)
    → FreeGood k s → s.pool.tasks t ≡ blocks.Task.Away → IsIdle (s.queue t) → Writes (IsWordIn 8 11) action
    → BinGood k (record { guards = s.pool.blocks; items = items; member = member }) (after k s.pool.mem action)
    (record { guards = s.pool.tasks; bins = put s.bins t bin })
    → FreeGood k (with_bins (record { guards = s.pool.blocks; items = items; member = member })
    (after k s.pool.mem action) (record { guards = s.pool.tasks; bins = put s.bins t bin }) s)
at_lists k t s items member action bin good away idle is bins =
    let other = leaves_guards 8 11 action (inr (omega arith)) is in record {
      pool = pool_other k t s.pool action other (leaves_things k s.pool.mem 8 11 action (omega arith) is) good.pool;
      bins = bins;
      queue = queue_other k t s action other idle (leaves_queue k s.pool.mem 8 11 action (omega arith) is) good.queue;
      seats = each (λ o r. SeatFits (s.pool.tasks o) r (s.queue o)) s.bins t bin (λ o _. good.seats o) (record {
        lock = subst (λ g. LockFits g bin) (sym away) tt;
        queue = idle_fits (s.pool.tasks t) bin (s.queue t) idle;
      });
    }

-- the second guard of a block is won
won_pool : (k : Key) (t : ℕ) (s : Space) (c : WinCall) → s.pool.tasks t ≡ blocks.Task.Wins c WinAt.Second
    → win_learn c WinAt.Second (found s.pool.mem (win_course c WinAt.Second)) ≡ WinNext.Won → PoolGood k s.pool
    → PoolGood k (with_guards (shadow_taken t c s.pool.blocks) (after k s.pool.mem (win_course c WinAt.Second))
    (put s.pool.tasks t blocks.Task.Away) s).pool
won_pool k t s c is won good =
    let m' = after k s.pool.mem (win_course c WinAt.Second) in
    let next = win_learn c WinAt.Second (found s.pool.mem (win_course c WinAt.Second)) in
    subst (λ (q : WinNext). PoolGood k (with_guards (shadow_won t c q s.pool.blocks) m'
    (put s.pool.tasks t (task_after c q)) s).pool) won
    (steps_keep_pool k t s.pool (with_guards (shadow_won t c next s.pool.blocks) m'
    (put s.pool.tasks t (task_after c next)) s).pool good
    (PoolStep.guards (shadow_won t c next s.pool.blocks) m' (put s.pool.tasks t (task_after c next))
    (GuardStep.wins c WinAt.Second is) tt
    (leaves_things k s.pool.mem 6 7 (win_course c WinAt.Second) (omega arith) (win_writes c))))

won_queue : (k : Key) (t : ℕ) (s : Space) (c : WinCall) → s.pool.tasks t ≡ blocks.Task.Wins c WinAt.Second
    → win_learn c WinAt.Second (found s.pool.mem (win_course c WinAt.Second)) ≡ WinNext.Won → IsIdle (s.queue t)
    → FreeGood k s
    → QueueGood k (record { guards = shadow_taken t c s.pool.blocks; queued = s.queued; drained = s.drained })
    (after k s.pool.mem (win_course c WinAt.Second))
    (record { guards = put s.pool.tasks t blocks.Task.Away; queue = s.queue })
won_queue k t s c is won idle good =
    let g = s.pool.blocks in
    let m' = after k s.pool.mem (win_course c WinAt.Second) in
    let tasks' = put s.pool.tasks t blocks.Task.Away in
    let next = win_learn c WinAt.Second (found s.pool.mem (win_course c WinAt.Second)) in
    let taken : IsTaken g (shadow_taken t c g) m' t c = subst (λ (q : WinNext).
    WinEnds g (shadow_won t c q g) s.pool.mem m' t c q) won
    (both_words_or_none k t g s.pool.mem s.pool.tasks c WinAt.Second good.pool.guards is) in
    let step : GuardStep k t g s.pool.mem s.pool.tasks (shadow_taken t c g) m' tasks' = subst (λ (q : WinNext).
    GuardStep k t g s.pool.mem s.pool.tasks (shadow_won t c q g) m' (put s.pool.tasks t (task_after c q))) won
    (GuardStep.wins c WinAt.Second is) in
    steps_keep_queue k t (queue_of s) s.pool.mem (queue_tasks s)
    (record { guards = shadow_taken t c g; queued = s.queued; drained = s.drained }) m'
    (record { guards = tasks'; queue = s.queue }) good.queue
    (QueueStep.guards (shadow_taken t c g) m' tasks' step idle
    (queue_used g.place t c.begin c.granules Use.Bin (Use.Held t c.taking) (s.drained t) good.pool.guards.parts.whole
    taken.bin (λ q. cc) (λ q. cc) (λ q. absurd (cc)))
    (leaves_queue k s.pool.mem 6 7 (win_course c WinAt.Second) (omega arith) (win_writes c)))

-- the second guard of a block that is put
abbrev put_shadow : ℕ → ℕ → blocks.Shadow → blocks.Shadow
put_shadow x n g = with_use x n Use.Bin (with_edge Side.End (x + n) (Standing.Open n) g)

put_pool : (k : Key) (t : ℕ) (s : Space) (x n : ℕ) → s.pool.tasks t ≡ blocks.Task.Offers x n → PoolGood k s.pool
    → PoolGood k (with_guards (put_shadow x n s.pool.blocks)
    (after k s.pool.mem (Store (Word.Left (x + n)) (guard_word (Guard.Free n))))
    (put s.pool.tasks t blocks.Task.Away) s).pool
put_pool k t s x n is good =
    let action = Store (Word.Left (x + n)) (guard_word (Guard.Free n)) in
    steps_keep_pool k t s.pool (with_guards (put_shadow x n s.pool.blocks) (after k s.pool.mem action)
    (put s.pool.tasks t blocks.Task.Away) s).pool good
    (PoolStep.guards (put_shadow x n s.pool.blocks) (after k s.pool.mem action) (put s.pool.tasks t blocks.Task.Away)
    (GuardStep.offered x n is) tt
    (leaves_things k s.pool.mem 6 7 action (omega arith) (omega arith, omega arith)))

put_queue : (k : Key) (t : ℕ) (s : Space) (x n : ℕ) → s.pool.tasks t ≡ blocks.Task.Offers x n
    → tally x (s.drained t) ≡ 0 → IsIdle (s.queue t) → FreeGood k s
    → QueueGood k (record { guards = put_shadow x n s.pool.blocks; queued = s.queued; drained = s.drained })
    (after k s.pool.mem (Store (Word.Left (x + n)) (guard_word (Guard.Free n))))
    (record { guards = put s.pool.tasks t blocks.Task.Away; queue = s.queue })
put_queue k t s x n is none idle good =
    let action = Store (Word.Left (x + n)) (guard_word (Guard.Free n)) in
    let h = put_shadow x n s.pool.blocks in
    let tasks' = put s.pool.tasks t blocks.Task.Away in
    let got = (good.pool.guards.parts.piece_is t x n (ap piece_of is)).0 in
    steps_keep_queue k t (queue_of s) s.pool.mem (queue_tasks s)
    (record { guards = h; queued = s.queued; drained = s.drained }) (after k s.pool.mem action)
    (record { guards = tasks'; queue = s.queue }) good.queue
    (QueueStep.guards h (after k s.pool.mem action) tasks' (GuardStep.offered x n is) idle
    (queue_used s.pool.blocks.place t x n (Use.Held t got.0) Use.Bin (s.drained t) good.pool.guards.parts.whole
    got.1 (λ q. cc) (λ q. cc) (λ q. none))
    (leaves_queue k s.pool.mem 6 7 action (omega arith) (omega arith, omega arith)))

-- each step at bins
pub bins_keep : (k : Key) (t : ℕ) (s : Space) (h : Shadow) (m' : Mem) (l' : Locals)
    → (step : BinStep k t (bins_of s) s.pool.mem (bin_tasks s) h m' l') → IsAtBins k t s h m' l' step
    → IsIdle (s.queue t) → FreeGood k s → FreeGood k (with_bins h m' l' s)
bins_keep k t s h m' l' (BinStep.guards g m tasks step quiet same) at idle good = absurd at
bins_keep k t s h m' l' (BinStep.wins c is won ready) at idle good = record {
  pool = won_pool k t s c is won good.pool;
  bins = steps_keep_bins k t (bins_of s) s.pool.mem (bin_tasks s) h m' l' good.bins (BinStep.wins c is won ready);
  queue = won_queue k t s c is won idle good;
  seats = seats_put s.pool.tasks s.bins s.queue t blocks.Task.Away (task_won c.begin c.granules (s.bins t)) good.seats
      (record {
        lock = tt;
        queue = idle_fits blocks.Task.Away (task_won c.begin c.granules (s.bins t)) (s.queue t) idle;
      });
}
bins_keep k t s h m' l' (BinStep.comes x n is has) none idle good = record {
  pool = put_pool k t s x n is good.pool;
  bins = steps_keep_bins k t (bins_of s) s.pool.mem (bin_tasks s) h m' l' good.bins (BinStep.comes x n is has);
  queue = put_queue k t s x n is none idle good;
  seats = seats_put s.pool.tasks s.bins s.queue t blocks.Task.Away (Task.Links x n InsertAt.Head) good.seats (record {
    lock = tt;
    queue = idle_fits blocks.Task.Away (Task.Links x n InsertAt.Head) (s.queue t) idle;
  });
}
bins_keep k t s h m' l' (BinStep.takes b some is) away idle good =
    at_lists k t s h.items h.member (lock_course (lock_by bin_words.lock t b)) _ good away idle
    (omega arith, omega arith)
    (steps_keep_bins k t (bins_of s) s.pool.mem (bin_tasks s) h m' l' good.bins (BinStep.takes b some is))
bins_keep k t s h m' l' (BinStep.leaves x n is) away idle good =
    at_lists k t s h.items h.member (lock_course (lock_by bin_words.lock t (bin_of n))) _ good away idle
    (omega arith, omega arith)
    (steps_keep_bins k t (bins_of s) s.pool.mem (bin_tasks s) h m' l' good.bins (BinStep.leaves x n is))
bins_keep k t s h m' l' (BinStep.frees b is) away idle good =
    at_lists k t s h.items h.member (unlock_course (lock_by bin_words.lock t b)) Task.Away good away idle
    (omega arith, omega arith)
    (steps_keep_bins k t (bins_of s) s.pool.mem (bin_tasks s) h m' l' good.bins (BinStep.frees b is))
bins_keep k t s h m' l' (BinStep.links x n at is) away idle good =
    at_lists k t s h.items h.member (insert_course (list_call bin_words (bin_of n) x) at) _ good away idle
    (insert_writes (bin_of n) x at)
    (steps_keep_bins k t (bins_of s) s.pool.mem (bin_tasks s) h m' l' good.bins (BinStep.links x n at is))
bins_keep k t s h m' l' (BinStep.unlinks x n at is) away idle good =
    at_lists k t s h.items h.member (remove_course (list_call bin_words (bin_of n) x) at) _ good away idle
    (remove_writes (bin_of n) x at)
    (steps_keep_bins k t (bins_of s) s.pool.mem (bin_tasks s) h m' l' good.bins (BinStep.unlinks x n at is))
