-- What a put has in hand, from each of its positions to the next.
use Rattle.std.proofs.Common.{◌≡◌, ◌≢◌, ℕ, ◌+◌, ◌-◌, ◌^◌, ◌<◌, ◌≤◌, min, Bool, true, false, cond, eqb, ◌&&◌, refl, sym}
use Rattle.std.proofs.Common.{inl, inr, ap, subst, arith, ◌∙◌}
use Rattle.pool_words.specs.declared.words.Key.{Key}
use Rattle.pool_words.specs.Words.{sizes, lefts}
use Rattle.word_codes.specs.declared.guards.Guard.{Guard}
use Rattle.word_codes.specs.Guards.{guard_of}
use Rattle.chain_words.specs.declared.pushing.PushAt.{PushAt}
use Rattle.chain_words.specs.declared.pushing.PushNext.{PushNext}
use Rattle.chain_words.specs.Pushing.{push_learn}
use Rattle.guards.specs.declared.win.Side.{Side}
use Rattle.guards.specs.declared.win.Taking.{Taking}
use Rattle.guards.specs.declared.win.WinAt.{WinAt}
use Rattle.guards.specs.declared.win.WinCall.{WinCall}
use Rattle.guards.specs.declared.win.WinNext.{WinNext}
use Rattle.guards.specs.Win.{guard_at, other_side, free_word, win_course, win_learn}
use Rattle.locked_chain.specs.declared.insert.InsertNext.{InsertNext}
use Rattle.locked_chain.specs.declared.lock.LockNext.{LockNext}
use Rattle.locked_chain.specs.declared.remove.RemoveNext.{RemoveNext}
use Rattle.locked_chain.specs.Insert.{insert_learn}
use Rattle.locked_chain.specs.Locks.{lock_learn}
use Rattle.locked_chain.specs.Remove.{remove_learn}
use Rattle.backend_bins.specs.declared.bin.BinAt.{BinAt}
use Rattle.backend_bins.specs.declared.blocks.Block.{Block}
use Rattle.backend_bins.specs.Blocks.{block_end}
use Rattle.backend_bins.specs.Bin.{bin_lock, lock_tried, insert_goes, out_goes, bin_learn}
use Rattle.coalescer.specs.declared.put.Beside.{Beside}
use Rattle.coalescer.specs.declared.put.PutAt.{PutAt}
use Rattle.coalescer.specs.declared.put.PutCall.{PutCall}
use Rattle.coalescer.specs.declared.put.PutStep.{PutStep}
use Rattle.coalescer.specs.Put.{left_win, right_win, unlink_call, insert_call, step_course, goes, bins, queues}
use Rattle.coalescer.specs.Put.{judges_left, judges_right, wins_left, wins_right, unlinks_left, unlinks_right}
use Rattle.coalescer.specs.Put.{is_walled, right_ends, left_ends, looks_far, sides_known, sees_far_left}
use Rattle.coalescer.specs.Put.{sees_far_right, queue_goes, bin_goes, step_learn}
use Rattle.word_laws.specs.Memory.{Mem, after, found, word_at}
use Rattle.guard_laws.specs.Blocks as blocks
use Rattle.guard_laws.specs.Blocks.{Use, Place, put_range, CallFits, GuardGood, core_in}
use Rattle.guard_laws.specs.Steps.{guard_in, shadow_won, shadow_merged, GuardStep}
use Rattle.guard_laws.specs.Laws.{WinEnds}
use Rattle.guard_laws.proofs.CallerLemmas.{range_in, range_out, both_words_or_none, free_guards_tell_blocks}
use Rattle.guard_laws.proofs.CallerLemmas.{others_leave_hands}
use Rattle.queue_laws.specs.Puts.{HasBlock, HasBoth, BinFits, PutFits, IsJoining, shadow_put, Covers}
use Rattle.queue_laws.specs.Puts.{AfterPut}
use Rattle.queue_laws.specs.Puts.{shadow_joined, shadow_binned}
use Rattle.queue_laws.specs.Steps.{shadow_queued}
use Rattle.queue_laws.specs.Laws.{PutEndsJoinedQueuedOrWhole, PutsComeIntoBins, OthersKeepPuts}

same : (b : Block) → Covers b b
same b = record { from = omega arith; to = omega arith }

-- what came from the queue goes into its bin
queues_fit : (c : PutCall) (g h : blocks.Shadow) (p : PutAt) (step : PutStep)
    → HasBlock h c.seat p.block.first p.block.granules → AfterPut c g h p step (queues c p)
queues_fit c g h p step hand = by c.drained refl
  where
    by : (b : Bool) → c.drained ≡ b → AfterPut c g h p step (cond b (bins p) (goes p (PutStep.Queue PushAt.Look)))
    by true e = (hand, same p.block)
    by false e = ((hand, e), same p.block)

first_of : (a b : Bool) → (a && b) ≡ true → a ≡ true
first_of true b e = refl
first_of false b e = e

-- both ends are known, of a call that may give a block
right_fits : (c : PutCall) (g h : blocks.Shadow) (p : PutAt) (step : PutStep)
    → HasBlock h c.seat p.block.first p.block.granules → c.gives ≡ true → (right : Beside)
    → AfterPut c g h p step (right_ends p right)
right_fits c g h p step hand gives Beside.Joined = ((hand, gives), same p.block)
right_fits c g h p step hand gives Beside.InUse = (refl, hand, gives)
right_fits c g h p step hand gives Beside.Wall = (refl, hand, gives)
right_fits c g h p step hand gives Beside.Unknown = (refl, hand, gives)

left_fits : (c : PutCall) (g h : blocks.Shadow) (p : PutAt) (step : PutStep)
    → HasBlock h c.seat p.block.first p.block.granules → c.gives ≡ true → (left : Beside)
    → AfterPut c g h p step (left_ends p left)
left_fits c g h p step hand gives Beside.Joined = ((hand, gives), same p.block)
left_fits c g h p step hand gives Beside.InUse = right_fits c g h p step hand gives p.right
left_fits c g h p step hand gives Beside.Wall = right_fits c g h p step hand gives p.right
left_fits c g h p step hand gives Beside.Unknown = right_fits c g h p step hand gives p.right

sides_fit : (c : PutCall) (g h : blocks.Shadow) (p : PutAt) (step : PutStep)
    → HasBlock h c.seat p.block.first p.block.granules → AfterPut c g h p step (sides_known c p)
sides_fit c g h p step hand = by (c.gives && is_walled p) refl
  where
    by : (b : Bool) → (c.gives && is_walled p) ≡ b → AfterPut c g h p step (cond b (looks_far p) (bins p))
    by true e = left_fits c g h p step hand (first_of c.gives (is_walled p) e) p.left
    by false e = (hand, same p.block)

-- a guard beside the block is judged
judge_left : (k : Key) (g : blocks.Shadow) (m : Mem) (tasks : ℕ → blocks.Task) (c : PutCall) (p : PutAt)
    (step : PutStep) (guard : Guard) → GuardGood k g (core_in m tasks)
    → HasBlock g c.seat p.block.first p.block.granules → guard_in m Side.End p.block.first ≡ guard
    → AfterPut c g g p step (judges_left c p guard)
judge_left k g m tasks c p step Guard.Used good hand is = (hand, same p.block)
judge_left k g m tasks c p step Guard.Wall good hand is = (hand, same p.block)
judge_left k g m tasks c p step Guard.Coalescing good hand is = queues_fit c g g p step hand
judge_left k g m tasks c p step (Guard.Free n) good hand is =
    let tells = free_guards_tell_blocks k g m tasks Side.End p.block.first n good is in
    let ends = tells.1 in let low = tells.3 in let few = good.small in
    ((hand, record { ends = omega arith; told = omega arith }), same p.block)

judge_right : (k : Key) (g : blocks.Shadow) (m : Mem) (tasks : ℕ → blocks.Task) (c : PutCall) (p : PutAt)
    (step : PutStep) (guard : Guard) → GuardGood k g (core_in m tasks)
    → HasBlock g c.seat p.block.first p.block.granules
    → guard_in m Side.Begin (right_win p 0).begin ≡ guard → AfterPut c g g p step (judges_right c p guard)
judge_right k g m tasks c p step Guard.Used good hand is =
    sides_fit c g g (record p { right = Beside.InUse }) step hand
judge_right k g m tasks c p step Guard.Wall good hand is =
    sides_fit c g g (record p { right = Beside.Wall }) step hand
judge_right k g m tasks c p step Guard.Coalescing good hand is = queues_fit c g g p step hand
judge_right k g m tasks c p step (Guard.Free n) good hand is =
    let tells = free_guards_tell_blocks k g m tasks Side.Begin (right_win p 0).begin n good is in
    let begins = tells.1 in let low = tells.3 in let few = good.small in
    ((hand, record { ends = omega arith; told = omega arith }), same p.block)

-- a win that is lost found what the first guard said
pub not_won : (m : Mem) (c : WinCall) (at : WinAt) (f : ℕ)
    → win_learn c at (found m (win_course c at)) ≡ WinNext.NotWon f → word_at m (guard_at c c.first) ≡ f
not_won m c WinAt.First f = by (eqb (word_at m (guard_at c c.first)) (free_word c))
  where
    by : (b : Bool)
        → cond b (WinNext.Goes WinAt.Second) (WinNext.NotWon (word_at m (guard_at c c.first))) ≡ WinNext.NotWon f
        → word_at m (guard_at c c.first) ≡ f
    by true e = absurd (cc)
    by false e = cc
not_won m c WinAt.Second f = by (eqb (word_at m (guard_at c (other_side c.first))) (free_word c))
  where
    by : (b : Bool) → cond b WinNext.Won (WinNext.Goes WinAt.Back) ≡ WinNext.NotWon f
        → word_at m (guard_at c c.first) ≡ f
    by true e = absurd (cc)
    by false e = absurd (cc)
not_won m c WinAt.Back f = λ e. absurd (cc)

hand_as : (h : blocks.Shadow) (seat first n x m : ℕ) → x ≡ first → m ≡ n → HasBlock h seat first n → HasBlock h seat x m
hand_as h seat first n x m a b hand =
    subst (λ y. HasBlock h seat y m) (sym a) (subst (λ j. HasBlock h seat first j) (sym b) hand)

-- a neighbour is won, lost and judged anew, or given back
won_left : (k : Key) (g : blocks.Shadow) (m m' : Mem) (tasks : ℕ → blocks.Task) (c : PutCall) (p : PutAt)
    (step : PutStep) (n : ℕ) (next : WinNext) → GuardGood k g (core_in m tasks)
    → HasBlock g c.seat p.block.first p.block.granules → CallFits (left_win p n)
    → ((f : ℕ) → next ≡ WinNext.NotWon f → m lefts p.block.first ≡ f)
    → WinEnds g (shadow_won c.seat (left_win p n) next g) m m' c.seat (left_win p n) next
    → AfterPut c g (shadow_won c.seat (left_win p n) next g) p step (wins_left c p n next)
won_left k g m m' tasks c p step n (WinNext.Goes at) good hand call lost ends =
    ((ap (λ f. f p.block.first) ends ∙ hand, call), same p.block)
won_left k g m m' tasks c p step n WinNext.Won good hand call lost ends = (
  (
    record {
      left_hand = ends.hand (p.block.first - n) (omega (arith, low, few, some, below)) (omega
          (arith, low, few, some, below));
      right_hand = hand_as (shadow_won c.seat (left_win p n) WinNext.Won g) c.seat p.block.first p.block.granules
          ((p.block.first - n) + n) (min (p.block.granules + n) (2 ^ 64 - 1) - n) below (omega
          (arith, low, few, some, below))
          (range_out g.place (p.block.first - n) n
          (Place.Block (p.block.first - n) n (Use.Held c.seat Taking.ToJoin)) p.block.first (inr (omega
          (arith, low, few, some, below))) ∙ hand);
      sum = omega (arith, low, few, some, below);
    },
    tt,
    refl,
  ),
  record { from = omega (arith, low, few, some, below); to = omega (arith, low, few, some, below) },
)
  where
    low : p.block.first + p.block.granules ≤ k.span
    low = good.parts.within p.block.first p.block.granules (Use.Held c.seat Taking.ToJoin) hand

    few : k.span < 2 ^ 32
    few = good.small

    some : 0 < n
    some = let b = (good.parts.whole (p.block.first - n) (p.block.first - n) n Use.Bin ends.bin).below in omega arith

    below : (p.block.first - n) + n ≡ p.block.first
    below = call.ends
won_left k g m m' tasks c p step n (WinNext.NotWon f) good hand call lost ends =
    judge_left k g m tasks c p step (guard_of f) good hand (ap guard_of (lost f refl))
won_left k g m m' tasks c p step n WinNext.GivenBack good hand call lost ends = queues_fit c g _ p step hand

won_right : (k : Key) (g : blocks.Shadow) (m m' : Mem) (tasks : ℕ → blocks.Task) (c : PutCall) (p : PutAt)
    (step : PutStep) (n : ℕ) (next : WinNext) → GuardGood k g (core_in m tasks)
    → HasBlock g c.seat p.block.first p.block.granules → CallFits (right_win p n)
    → ((f : ℕ) → next ≡ WinNext.NotWon f → m sizes (block_end p.block) ≡ f)
    → WinEnds g (shadow_won c.seat (right_win p n) next g) m m' c.seat (right_win p n) next
    → AfterPut c g (shadow_won c.seat (right_win p n) next g) p step (wins_right c p n next)
won_right k g m m' tasks c p step n (WinNext.Goes at) good hand call lost ends =
    ((ap (λ f. f p.block.first) ends ∙ hand, call), same p.block)
won_right k g m m' tasks c p step n WinNext.Won good hand call lost ends = (
  (
    record {
      left_hand = hand_as (shadow_won c.seat (right_win p n) WinNext.Won g) c.seat p.block.first p.block.granules
          p.block.first (min (p.block.granules + n) (2 ^ 64 - 1) - n) refl (omega
          (arith, low, few, own, far, some, ends_at))
          (range_out g.place (block_end p.block) n (Place.Block (block_end p.block) n (Use.Held c.seat Taking.ToJoin))
          p.block.first (inl (omega (arith, low, few, own, far, some, ends_at))) ∙ hand);
      right_hand = hand_as (shadow_won c.seat (right_win p n) WinNext.Won g) c.seat (block_end p.block) n
          (p.block.first + (min (p.block.granules + n) (2 ^ 64 - 1) - n)) n (omega
          (arith, low, few, own, far, some, ends_at)) refl
          (ends.hand (block_end p.block) (omega (arith, low, few, own, far, some, ends_at)) (omega
          (arith, low, few, own, far, some, ends_at)));
      sum = omega (arith, low, few, own, far, some, ends_at);
    },
    tt,
    omega (arith, low, few, own, far, some, ends_at),
  ),
  record {
    from = omega (arith, low, few, own, far, some, ends_at);
    to = omega
        (arith, low, few, own, far, some, ends_at);
  },
)
  where
    low : p.block.first + p.block.granules ≤ k.span
    low = good.parts.within p.block.first p.block.granules (Use.Held c.seat Taking.ToJoin) hand

    few : k.span < 2 ^ 32
    few = good.small

    own : 0 < p.block.granules
    own = let b = (good.parts.whole p.block.first p.block.first p.block.granules (Use.Held c.seat Taking.ToJoin)
        hand).below in omega arith

    ends_at : block_end p.block + n ≡ min (block_end p.block + n) (2 ^ 64 - 1)
    ends_at = call.ends

    far : block_end p.block + n ≤ k.span
    far = good.parts.within (block_end p.block) n Use.Bin ends.bin

    some : 0 < n
    some = let b = (good.parts.whole (block_end p.block) (block_end p.block) n Use.Bin ends.bin).below in omega arith
won_right k g m m' tasks c p step n (WinNext.NotWon f) good hand call lost ends =
    judge_right k g m tasks c p step (guard_of f) good hand (ap guard_of (lost f refl))
won_right k g m m' tasks c p step n WinNext.GivenBack good hand call lost ends = queues_fit c g _ p step hand

-- both blocks are one
joined_hand : (k : Key) (g : blocks.Shadow) (m : Mem) (tasks : ℕ → blocks.Task) (seat : ℕ) (b : Block) (left right : ℕ)
    → GuardGood k g (core_in m tasks) → HasBoth g seat b left right
    → HasBlock (shadow_merged seat b.first left right g) seat b.first b.granules
joined_hand k g m tasks seat b left right good both =
    range_in g.place b.first (left + right) (Place.Block b.first (left + right) (Use.Held seat Taking.ToJoin)) b.first
    (omega arith)
    (let low = (good.parts.whole b.first b.first left
    (Use.Held seat Taking.ToJoin) both.left_hand).below in omega arith)
    ∙ ap (λ j. Place.Block b.first j (Use.Held seat Taking.ToJoin)) both.sum

-- the neighbour leaves its list, and is joined then
unlink_left : (k : Key) (g : blocks.Shadow) (m : Mem) (tasks : ℕ → blocks.Task) (c : PutCall) (p : PutAt)
    (step : PutStep) (b : Block) (at : BinAt) (f : ℕ) → GuardGood k g (core_in m tasks)
    → PutFits c g p (PutStep.UnlinkLeft b at)
    → AfterPut c g (shadow_put c p (PutStep.UnlinkLeft b at) f g) p step (step_learn c p (PutStep.UnlinkLeft b at) f)
unlink_left k g m tasks c p step b BinAt.Lock f good (both, takes, first) =
    by (lock_learn (bin_lock (unlink_call c b)) f)
  where
    by : (next : LockNext) → AfterPut c g (shadow_joined c.seat p.block.first b.granules
        (p.block.granules - b.granules) (lock_tried (unlink_call c b) next) g) p step
        (unlinks_left p b (lock_tried (unlink_call c b) next))
    by LockNext.Won = ((both, tt, first), same p.block)
    by LockNext.Waits = refl
unlink_left k g m tasks c p step b BinAt.Size f good (both, takes, first) = absurd takes
unlink_left k g m tasks c p step b BinAt.Left f good (both, takes, first) = absurd takes
unlink_left k g m tasks c p step b (BinAt.Insert at) f good (both, takes, first) = absurd takes
unlink_left k g m tasks c p step b (BinAt.Out at) f good (both, takes, first) = by (remove_learn at f)
  where
    by : (next : RemoveNext) → AfterPut c g (shadow_joined c.seat p.block.first b.granules
        (p.block.granules - b.granules) (out_goes next) g) p step (unlinks_left p b (out_goes next))
    by (RemoveNext.Goes now) = ((both, tt, first), same p.block)
    by RemoveNext.Out = ((both, tt, first), same p.block)
unlink_left k g m tasks c p step b BinAt.Unlock f good (both, takes, first) =
    (joined_hand k g m tasks c.seat p.block b.granules (p.block.granules - b.granules) good both, same p.block)

unlink_right : (k : Key) (g : blocks.Shadow) (m : Mem) (tasks : ℕ → blocks.Task) (c : PutCall) (p : PutAt)
    (step : PutStep) (b : Block) (at : BinAt) (f : ℕ) → GuardGood k g (core_in m tasks)
    → PutFits c g p (PutStep.UnlinkRight b at)
    → AfterPut c g (shadow_put c p (PutStep.UnlinkRight b at) f g) p step (step_learn c p (PutStep.UnlinkRight b at) f)
unlink_right k g m tasks c p step b BinAt.Lock f good (both, takes, first) =
    by (lock_learn (bin_lock (unlink_call c b)) f)
  where
    by : (next : LockNext) → AfterPut c g (shadow_joined c.seat p.block.first (p.block.granules - b.granules)
        b.granules (lock_tried (unlink_call c b) next) g) p step
        (unlinks_right c p b (lock_tried (unlink_call c b) next))
    by LockNext.Won = ((both, tt, first), same p.block)
    by LockNext.Waits = refl
unlink_right k g m tasks c p step b BinAt.Size f good (both, takes, first) = absurd takes
unlink_right k g m tasks c p step b BinAt.Left f good (both, takes, first) = absurd takes
unlink_right k g m tasks c p step b (BinAt.Insert at) f good (both, takes, first) = absurd takes
unlink_right k g m tasks c p step b (BinAt.Out at) f good (both, takes, first) = by (remove_learn at f)
  where
    by : (next : RemoveNext) → AfterPut c g (shadow_joined c.seat p.block.first (p.block.granules - b.granules)
        b.granules (out_goes next) g) p step (unlinks_right c p b (out_goes next))
    by (RemoveNext.Goes now) = ((both, tt, first), same p.block)
    by RemoveNext.Out = ((both, tt, first), same p.block)
unlink_right k g m tasks c p step b BinAt.Unlock f good (both, takes, first) =
    sides_fit c g (shadow_merged c.seat p.block.first (p.block.granules - b.granules) b.granules g)
    (record p { right = Beside.Joined }) step
    (joined_hand k g m tasks c.seat p.block (p.block.granules - b.granules) b.granules good both)

-- the block goes into its bin
bin_puts : (c : PutCall) (g : blocks.Shadow) (p : PutAt) (at : BinAt) (f : ℕ) → BinFits g c.seat p.block at
    → AfterPut c g (shadow_binned p.block at g) p (PutStep.Bin at) (bin_goes p (bin_learn (insert_call c p.block) at f))
bin_puts c g p BinAt.Lock f hand = by (lock_learn (bin_lock (insert_call c p.block)) f)
  where
    by : (next : LockNext) → AfterPut c g g p (PutStep.Bin BinAt.Lock) (bin_goes p
        (lock_tried (insert_call c p.block) next))
    by LockNext.Won = (hand, same p.block)
    by LockNext.Waits = refl
bin_puts c g p BinAt.Size f hand = (hand, same p.block)
bin_puts c g p BinAt.Left f hand = (tt, same p.block)
bin_puts c g p (BinAt.Insert at) f hand = by (insert_learn at f)
  where
    by : (next : InsertNext) → AfterPut c g g p (PutStep.Bin (BinAt.Insert at)) (bin_goes p (insert_goes next))
    by (InsertNext.Goes now) = (tt, same p.block)
    by InsertNext.Inserted = (tt, same p.block)
bin_puts c g p (BinAt.Out at) f hand = absurd hand
bin_puts c g p BinAt.Unlock f hand = refl

ranged : (k : Key) (g : blocks.Shadow) (m : Mem) (tasks : ℕ → blocks.Task) (seat x n : ℕ) (now : Use)
    → GuardGood k g (core_in m tasks) → HasBlock g seat x n
    → put_range g.place x n (Place.Block x n now) x ≡ Place.Block x n now
ranged k g m tasks seat x n now good hand =
    let low = (good.parts.whole x x n (Use.Held seat Taking.ToJoin) hand).below in
    range_in g.place x n (Place.Block x n now) x (omega arith) low

put_as : (k : Key) (g : blocks.Shadow) (m : Mem) (tasks : ℕ → blocks.Task) (c : PutCall) (p : PutAt) (step : PutStep)
    → GuardGood k g (core_in m tasks) → IsJoining (tasks c.seat) p step → PutFits c g p step
    → AfterPut c g (shadow_put c p step (found m (step_course c p step)) g) p step
    (step_learn c p step (found m (step_course c p step)))
put_as k g m tasks c p PutStep.Size good joins hand = (hand, same p.block)
put_as k g m tasks c p PutStep.Left good joins hand = (hand, same p.block)
put_as k g m tasks c p PutStep.LeftWord good joins hand =
    judge_left k g m tasks c p PutStep.LeftWord (guard_of (m lefts p.block.first)) good hand refl
put_as k g m tasks c p (PutStep.WinLeft n at) good joins (hand, call) =
    won_left k g m (after k m (win_course (left_win p n) at)) tasks c p (PutStep.WinLeft n at) n
    (win_learn (left_win p n) at (found m (win_course (left_win p n) at))) good hand call
    (λ f e. not_won m (left_win p n) at f e) (both_words_or_none k c.seat g m tasks (left_win p n) at good joins)
put_as k g m tasks c p (PutStep.UnlinkLeft b at) good joins fits =
    unlink_left k g m tasks c p (PutStep.UnlinkLeft b at) b at
    (found m (step_course c p (PutStep.UnlinkLeft b at))) good fits
put_as k g m tasks c p PutStep.RightWord good joins hand =
    judge_right k g m tasks c p PutStep.RightWord (guard_of (m sizes (block_end p.block))) good hand refl
put_as k g m tasks c p (PutStep.WinRight n at) good joins (hand, call) =
    won_right k g m (after k m (win_course (right_win p n) at)) tasks c p (PutStep.WinRight n at) n
    (win_learn (right_win p n) at (found m (win_course (right_win p n) at))) good hand call
    (λ f e. not_won m (right_win p n) at f e) (both_words_or_none k c.seat g m tasks (right_win p n) at good joins)
put_as k g m tasks c p (PutStep.UnlinkRight b at) good joins fits =
    unlink_right k g m tasks c p (PutStep.UnlinkRight b at) b at
    (found m (step_course c p (PutStep.UnlinkRight b at))) good fits
put_as k g m tasks c p PutStep.FarLeft good joins (hand, gives) = by (guard_of (m lefts p.block.first))
  where
    by : (guard : Guard) → AfterPut c g g p PutStep.FarLeft (sees_far_left p guard)
    by Guard.Wall = right_fits c g g p PutStep.FarLeft hand gives p.right
    by Guard.Used = (hand, same p.block)
    by Guard.Coalescing = (hand, same p.block)
    by (Guard.Free n) = (hand, same p.block)
put_as k g m tasks c p PutStep.FarRight good joins (hand, gives) = by (guard_of (m sizes (block_end p.block)))
  where
    by : (guard : Guard) → AfterPut c g g p PutStep.FarRight (sees_far_right p guard)
    by Guard.Wall = (refl, hand, gives)
    by Guard.Used = (hand, same p.block)
    by Guard.Coalescing = (hand, same p.block)
    by (Guard.Free n) = (hand, same p.block)
put_as k g m tasks c p (PutStep.Queue at) good joins (hand, fresh) =
    by (push_learn at (found m (step_course c p (PutStep.Queue at))))
  where
    by : (next : PushNext) → AfterPut c g (shadow_queued p.block.first p.block.granules next g) p (PutStep.Queue at)
        (queue_goes p next)
    by (PushNext.Goes now) = ((hand, fresh), same p.block)
    by (PushNext.Pushed head) = ranged k g m tasks c.seat p.block.first p.block.granules Use.Queued good hand
put_as k g m tasks c p (PutStep.Bin at) good joins fits =
    bin_puts c g p at (found m (step_course c p (PutStep.Bin at))) fits

pub put_ends_joined_queued_or_whole : PutEndsJoinedQueuedOrWhole
put_ends_joined_queued_or_whole k g m tasks c p good joins fits = put_as k g m tasks c p p.step good joins fits

pub puts_come_into_bins : PutsComeIntoBins
puts_come_into_bins k g m tasks c p f good is fits =
    subst (λ step. PutFits c g p step
    → (shadow_put c p step f g).place p.block.first ≡ Place.Block p.block.first p.block.granules Use.Bin) (sym is)
    (λ hand. ranged k g m tasks c.seat p.block.first p.block.granules Use.Bin good hand) fits

-- others leave what the seat has
stays : (k : Key) (o : ℕ) (g : blocks.Shadow) (m : Mem) (tasks : ℕ → blocks.Task) (h : blocks.Shadow) (m' : Mem)
    (tasks' : ℕ → blocks.Task) (seat x n : ℕ) → GuardGood k g (core_in m tasks) → GuardStep k o g m tasks h m' tasks'
    → o ≢ seat → HasBlock g seat x n → HasBlock h seat x n
stays k o g m tasks h m' tasks' seat x n good step ne hand =
    (others_leave_hands k seat o g m tasks h m' tasks' x n Taking.ToJoin good step ne hand).place

both_stay : (g h : blocks.Shadow) (seat : ℕ) (b : Block) (left right : ℕ)
    → ((x n : ℕ) → HasBlock g seat x n → HasBlock h seat x n) → HasBoth g seat b left right
    → HasBoth h seat b left right
both_stay g h seat b left right stay both = record {
  left_hand = stay b.first left both.left_hand;
  right_hand = stay (b.first + left) right both.right_hand;
  sum = both.sum;
}

bin_stays : (g h : blocks.Shadow) (seat : ℕ) (b : Block) (at : BinAt)
    → ((x n : ℕ) → HasBlock g seat x n → HasBlock h seat x n) → BinFits g seat b at → BinFits h seat b at
bin_stays g h seat b BinAt.Lock stay fits = stay b.first b.granules fits
bin_stays g h seat b BinAt.Size stay fits = stay b.first b.granules fits
bin_stays g h seat b BinAt.Left stay fits = stay b.first b.granules fits
bin_stays g h seat b (BinAt.Insert at) stay fits = tt
bin_stays g h seat b (BinAt.Out at) stay fits = fits
bin_stays g h seat b BinAt.Unlock stay fits = tt

put_stays : (c : PutCall) (g h : blocks.Shadow) (p : PutAt) (step : PutStep)
    → ((x n : ℕ) → HasBlock g c.seat x n → HasBlock h c.seat x n) → PutFits c g p step → PutFits c h p step
put_stays c g h p PutStep.Size stay hand = stay p.block.first p.block.granules hand
put_stays c g h p PutStep.Left stay hand = stay p.block.first p.block.granules hand
put_stays c g h p PutStep.LeftWord stay hand = stay p.block.first p.block.granules hand
put_stays c g h p (PutStep.WinLeft n at) stay (hand, call) = (stay p.block.first p.block.granules hand, call)
put_stays c g h p (PutStep.UnlinkLeft b at) stay (both, takes, first) =
    (both_stay g h c.seat p.block b.granules (p.block.granules - b.granules) stay both, takes, first)
put_stays c g h p PutStep.RightWord stay hand = stay p.block.first p.block.granules hand
put_stays c g h p (PutStep.WinRight n at) stay (hand, call) = (stay p.block.first p.block.granules hand, call)
put_stays c g h p (PutStep.UnlinkRight b at) stay (both, takes, first) =
    (both_stay g h c.seat p.block (p.block.granules - b.granules) b.granules stay both, takes, first)
put_stays c g h p PutStep.FarLeft stay (hand, gives) = (stay p.block.first p.block.granules hand, gives)
put_stays c g h p PutStep.FarRight stay (hand, gives) = (stay p.block.first p.block.granules hand, gives)
put_stays c g h p (PutStep.Queue at) stay (hand, fresh) = (stay p.block.first p.block.granules hand, fresh)
put_stays c g h p (PutStep.Bin at) stay fits = bin_stays g h c.seat p.block at stay fits

pub others_keep_puts : OthersKeepPuts
others_keep_puts k o g m tasks h m' tasks' c p good step ne fits = put_stays c g h p p.step
    (λ x n hand. stays k o g m tasks h m' tasks' c.seat x n good step ne hand) fits
