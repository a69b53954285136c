-- Each step of a put that is alone keeps calm.
use Rattle.std.proofs.Common.{◌≡◌, ◌⊎◌, inl, inr, ℕ, ◌+◌, ◌-◌, ◌<◌, Bool, true, false, cond, ◌&&◌, refl, sym}
use Rattle.std.proofs.Common.{arith, ◌∙◌}
use Rattle.pool_words.specs.declared.words.Key.{Key}
use Rattle.word_codes.specs.declared.guards.Guard.{Guard}
use Rattle.word_codes.specs.Guards.{guard_of}
use Rattle.chain_words.specs.declared.pushing.PushAt.{PushAt}
use Rattle.guards.specs.declared.win.Taking.{Taking}
use Rattle.guards.specs.declared.win.WinAt.{WinAt}
use Rattle.guards.specs.declared.win.WinNext.{WinNext}
use Rattle.guards.specs.Win.{win_learn}
use Rattle.locked_chain.specs.declared.insert.InsertNext.{InsertNext}
use Rattle.locked_chain.specs.declared.lock.LockNext.{LockNext}
use Rattle.locked_chain.specs.Insert.{insert_learn}
use Rattle.locked_chain.specs.Locks.{lock_learn}
use Rattle.backend_bins.specs.declared.bin.BinAt.{BinAt}
use Rattle.backend_bins.specs.declared.bin.BinNext.{BinNext}
use Rattle.backend_bins.specs.declared.blocks.Block.{Block}
use Rattle.backend_bins.specs.Blocks.{block_end}
use Rattle.backend_bins.specs.Bin.{bin_lock, lock_tried, insert_goes, bin_learn}
use Rattle.coalescer.specs.declared.put.Beside.{Beside}
use Rattle.coalescer.specs.declared.put.PutAt.{PutAt}
use Rattle.coalescer.specs.declared.put.PutCall.{PutCall}
use Rattle.coalescer.specs.declared.put.PutStep.{PutStep}
use Rattle.coalescer.specs.Put.{left_win, right_win, unlink_call, insert_call, step_course, goes, bins, queues}
use Rattle.coalescer.specs.Put.{judges_left, judges_right, wins_left, wins_right, unlinks_left, unlinks_right}
use Rattle.coalescer.specs.Put.{is_walled, right_ends, left_ends, looks_far, sides_known, sees_far_left}
use Rattle.coalescer.specs.Put.{sees_far_right, bin_goes, step_learn}
use Rattle.word_laws.specs.Memory.{Mem, found}
use Rattle.guard_laws.specs.Blocks as blocks
use Rattle.guard_laws.specs.Blocks.{Use, Place, put_range, CallFits, GuardGood, core_in}
use Rattle.guard_laws.specs.Steps.{shadow_won}
use Rattle.guard_laws.proofs.CallerLemmas.{IsOut, ranged_was}
use Rattle.queue_laws.specs.Puts.{HasBlock, HasBoth, BinFits, PutFits, shadow_joined, shadow_binned}
use Rattle.queue_laws.specs.Puts.{shadow_put}
use Rattle.queue_laws.specs.Alone.{IsCalm, IsCalmOfTwo, IsAtRest, CalmBin, CalmAt, CalmAfter}
use Rattle.queue_laws.specs.Alone.{CalmFits, JoinsOn}
use Rattle.queue_laws.specs.Laws.{AlonePutsKeepCalm}
use Rattle.queue_laws.proofs.NeverQueue.{alone_puts_never_queue}

-- a range that is a block of a use that is not queued
pub none_queued : (place : ℕ → Place) (x n : ℕ) (u : Use) → (u ≡ Use.Queued → ⊥)
    → ((y j : ℕ) → place y ≡ Place.Block y j Use.Queued → ⊥)
    → (y j : ℕ) → put_range place x n (Place.Block x n u) y ≡ Place.Block y j Use.Queued → ⊥
none_queued place x n u never none y j f = by (ranged_was place x n u y j Use.Queued f)
  where
    by : ((y ≡ x) × (j ≡ n) × (Use.Queued ≡ u)) ⊎ (IsOut x n y × (place y ≡ Place.Block y j Use.Queued)) → ⊥
    by (inl (a, b, w)) = never (sym w)
    by (inr (out, old)) = none y j old

-- a neighbour comes into hand: its begin is one of two, and the put's block the other
two_won : (place : ℕ → Place) (t x n first one two : ℕ)
    → ((y : ℕ) → (y ≡ x) ⊎ (y ≡ first) → (y ≡ one) ⊎ (y ≡ two)) → IsCalm place first
    → IsCalmOfTwo (put_range place x n (Place.Block x n (Use.Held t Taking.ToJoin))) one two
two_won place t x n first one two are calm = record {
  queue = none_queued place x n (Use.Held t Taking.ToJoin) (λ q. cc) calm.queue;
  alone = λ y j o f. by y j o (ranged_was place x n (Use.Held t Taking.ToJoin) y j (Use.Held o Taking.ToJoin) f);
}
  where
    by : (y j o : ℕ) → ((y ≡ x) × (j ≡ n) × (Use.Held o Taking.ToJoin ≡ Use.Held t Taking.ToJoin))
        ⊎ (IsOut x n y × (place y ≡ Place.Block y j (Use.Held o Taking.ToJoin))) → (y ≡ one) ⊎ (y ≡ two)
    by y j o (inl (a, b, w)) = are y (inl a)
    by y j o (inr (out, old)) = are y (inr (calm.alone y j o old))

-- both are one block
one_joined : (place : ℕ → Place) (t first n two : ℕ) → first < two → two < first + n → IsCalmOfTwo place first two
    → IsCalm (put_range place first n (Place.Block first n (Use.Held t Taking.ToJoin))) first
one_joined place t first n two low high calm = record {
  queue = none_queued place first n (Use.Held t Taking.ToJoin) (λ q. cc) calm.queue;
  alone = λ y j o f. by y j o (ranged_was place first n (Use.Held t Taking.ToJoin) y j (Use.Held o Taking.ToJoin) f);
}
  where
    one : (y : ℕ) → IsOut first n y → (y ≡ first) ⊎ (y ≡ two) → y ≡ first
    one y out (inl q) = q
    one y (inl below) (inr q) = omega arith
    one y (inr above) (inr q) = omega arith

    by : (y j o : ℕ) → ((y ≡ first) × (j ≡ n) × (Use.Held o Taking.ToJoin ≡ Use.Held t Taking.ToJoin))
        ⊎ (IsOut first n y × (place y ≡ Place.Block y j (Use.Held o Taking.ToJoin))) → y ≡ first
    by y j o (inl (a, b, w)) = a
    by y j o (inr (out, old)) = one y out (calm.alone y j o old)

-- the block has a use of blocks at rest
pub rest_left : (place : ℕ → Place) (first n : ℕ) (u : Use) → 0 < n → (u ≡ Use.Queued → ⊥)
    → ((o : ℕ) → u ≡ Use.Held o Taking.ToJoin → ⊥) → IsCalm place first
    → IsAtRest (put_range place first n (Place.Block first n u))
rest_left place first n u some unqueued unheld calm = record {
  queue = none_queued place first n u unqueued calm.queue;
  hands = λ y j o f. by y j o (ranged_was place first n u y j (Use.Held o Taking.ToJoin) f);
}
  where
    none : (y : ℕ) → IsOut first n y → y ≡ first → ⊥
    none y (inl below) q = omega arith
    none y (inr above) q = omega arith

    by : (y j o : ℕ) → ((y ≡ first) × (j ≡ n) × (Use.Held o Taking.ToJoin ≡ u))
        ⊎ (IsOut first n y × (place y ≡ Place.Block y j (Use.Held o Taking.ToJoin))) → ⊥
    by y j o (inl (a, b, w)) = unheld o (sym w)
    by y j o (inr (out, old)) = none y out (calm.alone y j o old)

queues_calm : (place : ℕ → Place) (c : PutCall) (p : PutAt) (step : PutStep) (b : Block) → IsCalm place p.block.first
    → CalmAfter place b step (queues c p)
queues_calm place c p step b calm = by c.drained
  where
    by : (d : Bool) → CalmAfter place b step (cond d (bins p) (goes p (PutStep.Queue PushAt.Look)))
    by true = calm
    by false = calm

right_calm : (place : ℕ → Place) (p : PutAt) (step : PutStep) (b : Block) → IsCalm place p.block.first
    → (right : Beside) → CalmAfter place b step (right_ends p right)
right_calm place p step b calm Beside.Joined = calm
right_calm place p step b calm Beside.InUse = calm
right_calm place p step b calm Beside.Wall = calm
right_calm place p step b calm Beside.Unknown = calm

left_calm : (place : ℕ → Place) (p : PutAt) (step : PutStep) (b : Block) → IsCalm place p.block.first
    → (left : Beside) → CalmAfter place b step (left_ends p left)
left_calm place p step b calm Beside.Joined = calm
left_calm place p step b calm Beside.InUse = right_calm place p step b calm p.right
left_calm place p step b calm Beside.Wall = right_calm place p step b calm p.right
left_calm place p step b calm Beside.Unknown = right_calm place p step b calm p.right

sides_calm : (place : ℕ → Place) (c : PutCall) (p : PutAt) (step : PutStep) (b : Block) → IsCalm place p.block.first
    → CalmAfter place b step (sides_known c p)
sides_calm place c p step b calm = by (c.gives && is_walled p)
  where
    by : (d : Bool) → CalmAfter place b step (cond d (looks_far p) (bins p))
    by true = left_calm place p step b calm p.left
    by false = calm

judge_left : (place : ℕ → Place) (c : PutCall) (p : PutAt) (step : PutStep) (guard : Guard)
    → IsCalm place p.block.first → CalmAfter place p.block step (judges_left c p guard)
judge_left place c p step Guard.Used calm = calm
judge_left place c p step Guard.Wall calm = calm
judge_left place c p step Guard.Coalescing calm = queues_calm place c p step p.block calm
judge_left place c p step (Guard.Free n) calm = calm

judge_right : (place : ℕ → Place) (c : PutCall) (p : PutAt) (step : PutStep) (guard : Guard)
    → IsCalm place p.block.first → CalmAfter place p.block step (judges_right c p guard)
judge_right place c p step Guard.Used calm = sides_calm place c (record p { right = Beside.InUse }) step p.block calm
judge_right place c p step Guard.Wall calm = sides_calm place c (record p { right = Beside.Wall }) step p.block calm
judge_right place c p step Guard.Coalescing calm = queues_calm place c p step p.block calm
judge_right place c p step (Guard.Free n) calm = calm

won_left : (g : blocks.Shadow) (c : PutCall) (p : PutAt) (step : PutStep) (n : ℕ) (next : WinNext)
    → CallFits (left_win p n) → IsCalm g.place p.block.first
    → CalmAfter (shadow_won c.seat (left_win p n) next g).place p.block step (wins_left c p n next)
won_left g c p step n (WinNext.Goes WinAt.First) call calm = calm
won_left g c p step n (WinNext.Goes WinAt.Second) call calm = calm
won_left g c p step n (WinNext.Goes WinAt.Back) call calm = calm
won_left g c p step n WinNext.Won call calm =
    two_won g.place c.seat (p.block.first - n) n p.block.first (p.block.first - n) ((p.block.first - n) + n) are calm
  where
    are : (y : ℕ) → (y ≡ (p.block.first - n)) ⊎ (y ≡ p.block.first)
        → (y ≡ (p.block.first - n)) ⊎ (y ≡ (p.block.first - n) + n)
    are y (inl q) = inl q
    are y (inr q) = inr (q ∙ sym call.ends)
won_left g c p step n (WinNext.NotWon f) call calm = judge_left g.place c p step (guard_of f) calm
won_left g c p step n WinNext.GivenBack call calm = queues_calm g.place c p step p.block calm

won_right : (g : blocks.Shadow) (c : PutCall) (p : PutAt) (step : PutStep) (n : ℕ) (next : WinNext)
    → IsCalm g.place p.block.first
    → CalmAfter (shadow_won c.seat (right_win p n) next g).place p.block step (wins_right c p n next)
won_right g c p step n (WinNext.Goes WinAt.First) calm = calm
won_right g c p step n (WinNext.Goes WinAt.Second) calm = calm
won_right g c p step n (WinNext.Goes WinAt.Back) calm = calm
won_right g c p step n WinNext.Won calm =
    two_won g.place c.seat (block_end p.block) n p.block.first p.block.first (block_end p.block) are calm
  where
    are : (y : ℕ) → (y ≡ block_end p.block) ⊎ (y ≡ p.block.first)
        → (y ≡ p.block.first) ⊎ (y ≡ block_end p.block)
    are y (inl q) = inr q
    are y (inr q) = inl q
won_right g c p step n (WinNext.NotWon f) calm = judge_right g.place c p step (guard_of f) calm
won_right g c p step n WinNext.GivenBack calm = queues_calm g.place c p step p.block calm

pub some_of : (k : Key) (g : blocks.Shadow) (m : Mem) (tasks : ℕ → blocks.Task) (t x n : ℕ)
    → GuardGood k g (core_in m tasks) → HasBlock g t x n → 0 < n
some_of k g m tasks t x n good hand =
    let low = (good.parts.whole x x n (Use.Held t Taking.ToJoin) hand).below in omega arith

-- the begin of the second of two blocks lies in both
joined_calm : (k : Key) (g : blocks.Shadow) (m : Mem) (tasks : ℕ → blocks.Task) (t : ℕ) (b : Block)
    (left right two : ℕ) → GuardGood k g (core_in m tasks) → HasBoth g t b left right → two ≡ b.first + left
    → IsCalmOfTwo g.place b.first two → IsCalm (shadow_joined t b.first left right BinNext.Done g).place b.first
joined_calm k g m tasks t b left right two good both is calm =
    let low = some_of k g m tasks t b.first left good both.left_hand in
    let high = some_of k g m tasks t (b.first + left) right good both.right_hand in
    one_joined g.place t b.first (left + right) two (omega arith) (omega arith) calm

bin_calm : (k : Key) (g : blocks.Shadow) (m : Mem) (tasks : ℕ → blocks.Task) (c : PutCall) (p : PutAt) (at : BinAt)
    (f : ℕ) → GuardGood k g (core_in m tasks) → BinFits g c.seat p.block at → CalmBin g.place p.block.first at
    → CalmAfter (shadow_binned p.block at g).place p.block (PutStep.Bin at)
    (bin_goes p (bin_learn (insert_call c p.block) at f))
bin_calm k g m tasks c p BinAt.Lock f good fits calm = by (lock_learn (bin_lock (insert_call c p.block)) f)
  where
    by : (next : LockNext) → CalmAfter g.place p.block (PutStep.Bin BinAt.Lock)
        (bin_goes p (lock_tried (insert_call c p.block) next))
    by LockNext.Won = calm
    by LockNext.Waits = calm
bin_calm k g m tasks c p BinAt.Size f good fits calm = calm
bin_calm k g m tasks c p BinAt.Left f good fits calm =
    rest_left g.place p.block.first p.block.granules Use.Bin
    (some_of k g m tasks c.seat p.block.first p.block.granules good fits) (λ q. cc) (λ o q. cc) calm
bin_calm k g m tasks c p (BinAt.Insert at) f good fits calm = by (insert_learn at f)
  where
    by : (next : InsertNext) → CalmAfter g.place p.block (PutStep.Bin (BinAt.Insert at))
        (bin_goes p (insert_goes next))
    by (InsertNext.Goes now) = calm
    by InsertNext.Inserted = calm
bin_calm k g m tasks c p (BinAt.Out at) f good fits calm = absurd fits
bin_calm k g m tasks c p BinAt.Unlock f good fits calm = calm

calm_as : (k : Key) (g : blocks.Shadow) (m : Mem) (tasks : ℕ → blocks.Task) (c : PutCall) (p : PutAt) (step : PutStep)
    (f : ℕ) → GuardGood k g (core_in m tasks) → PutFits c g p step → CalmAt g.place p.block step → JoinsOn step
    → CalmAfter (shadow_put c p step f g).place p.block step (step_learn c p step f)
calm_as k g m tasks c p PutStep.Size f good fits calm on = calm
calm_as k g m tasks c p PutStep.Left f good fits calm on = calm
calm_as k g m tasks c p PutStep.LeftWord f good fits calm on =
    judge_left g.place c p PutStep.LeftWord (guard_of f) calm
calm_as k g m tasks c p (PutStep.WinLeft n at) f good fits calm on =
    won_left g c p (PutStep.WinLeft n at) n (win_learn (left_win p n) at f) fits.1 calm
calm_as k g m tasks c p (PutStep.UnlinkLeft b at) f good fits calm on = by (bin_learn (unlink_call c b) at f)
  where
    by : (next : BinNext) → CalmAfter (shadow_joined c.seat p.block.first b.granules
        (p.block.granules - b.granules) next g).place p.block (PutStep.UnlinkLeft b at) (unlinks_left p b next)
    by (BinNext.Goes now) = calm
    by BinNext.Waits = calm
    by BinNext.Done = joined_calm k g m tasks c.seat p.block b.granules (p.block.granules - b.granules)
        (p.block.first + b.granules) good fits.0 refl calm
calm_as k g m tasks c p PutStep.RightWord f good fits calm on =
    judge_right g.place c p PutStep.RightWord (guard_of f) calm
calm_as k g m tasks c p (PutStep.WinRight n at) f good fits calm on =
    won_right g c p (PutStep.WinRight n at) n (win_learn (right_win p n) at f) calm
calm_as k g m tasks c p (PutStep.UnlinkRight b at) f good fits calm on = by (bin_learn (unlink_call c b) at f)
  where
    by : (next : BinNext) → CalmAfter (shadow_joined c.seat p.block.first (p.block.granules - b.granules)
        b.granules next g).place p.block (PutStep.UnlinkRight b at) (unlinks_right c p b next)
    by (BinNext.Goes now) = calm
    by BinNext.Waits = calm
    by BinNext.Done = sides_calm _ c (record p { right = Beside.Joined }) (PutStep.UnlinkRight b at) p.block
        (joined_calm k g m tasks c.seat p.block (p.block.granules - b.granules) b.granules b.first good fits.0
        fits.2 calm)
calm_as k g m tasks c p PutStep.FarLeft f good fits calm on = by (guard_of f)
  where
    by : (guard : Guard) → CalmAfter g.place p.block PutStep.FarLeft (sees_far_left p guard)
    by Guard.Wall = right_calm g.place p PutStep.FarLeft p.block calm p.right
    by Guard.Used = calm
    by Guard.Coalescing = calm
    by (Guard.Free n) = calm
calm_as k g m tasks c p PutStep.FarRight f good fits calm on = by (guard_of f)
  where
    by : (guard : Guard) → CalmAfter g.place p.block PutStep.FarRight (sees_far_right p guard)
    by Guard.Wall = calm
    by Guard.Used = calm
    by Guard.Coalescing = calm
    by (Guard.Free n) = calm
calm_as k g m tasks c p (PutStep.Queue at) f good fits calm on = absurd on
calm_as k g m tasks c p (PutStep.Bin at) f good fits calm on = bin_calm k g m tasks c p at f good fits calm

-- where the put looks or wins, its block alone is to be joined
calm_there : (place : ℕ → Place) (b : Block) (step : PutStep) → CalmAt place b step → CalmFits place b.first step
calm_there place b PutStep.Size calm = tt
calm_there place b PutStep.Left calm = tt
calm_there place b PutStep.LeftWord calm = calm
calm_there place b (PutStep.WinLeft n at) calm = calm
calm_there place b (PutStep.UnlinkLeft neighbour at) calm = tt
calm_there place b PutStep.RightWord calm = calm
calm_there place b (PutStep.WinRight n at) calm = calm
calm_there place b (PutStep.UnlinkRight neighbour at) calm = tt
calm_there place b PutStep.FarLeft calm = tt
calm_there place b PutStep.FarRight calm = tt
calm_there place b (PutStep.Queue at) calm = tt
calm_there place b (PutStep.Bin at) calm = tt

pub alone_puts_keep_calm : AlonePutsKeepCalm
alone_puts_keep_calm k g m tasks c p good covered alone joins looks fits calm on = (
  calm_as k g m tasks c p p.step (found m (step_course c p p.step)) good fits calm on,
  alone_puts_never_queue k g m tasks c p good covered alone joins looks fits
      (calm_there g.place p.block p.step calm) on,
)
