-- What a put, or the emptying of the queue, wins next is one block.
use Rattle.std.proofs.Common.{◌≡◌, ℕ, Bool, true, false, cond, eqb, Option, Some, None, refl}
use Rattle.std.proofs.Common.{arith}
use Rattle.std.specs.Prelude.{⊤, ◌&&◌}
use Rattle.pool_words.specs.Actions.{word_seen}
use Rattle.pool_words.specs.Words.{lefts, sizes}
use Rattle.pool_words.specs.declared.actions.Action.{Action}
use Rattle.pool_words.specs.declared.words.Key.{Key}
use Rattle.word_codes.specs.declared.guards.Guard.{Guard}
use Rattle.word_codes.specs.Guards.{guard_of}
use Rattle.word_codes.specs.Links.{link_of}
use Rattle.chain_words.specs.declared.pushing.PushNext.{PushNext}
use Rattle.chain_words.specs.Pushing.{push_learn}
use Rattle.guards.specs.declared.win.Side.{Side}
use Rattle.guards.specs.declared.win.WinAt.{WinAt}
use Rattle.guards.specs.declared.win.WinNext.{WinNext}
use Rattle.guards.specs.Win.{free_word, win_learn}
use Rattle.backend_bins.specs.declared.bin.BinAt.{BinAt}
use Rattle.backend_bins.specs.declared.bin.BinNext.{BinNext}
use Rattle.backend_bins.specs.declared.blocks.Block.{Block}
use Rattle.backend_bins.specs.Bin.{bin_learn}
use Rattle.backend_bins.specs.Blocks.{block_end}
use Rattle.coalescer.specs.declared.drain.DrainAt.{DrainAt}
use Rattle.coalescer.specs.declared.drain.DrainCall.{DrainCall}
use Rattle.coalescer.specs.declared.drain.DrainNext.{DrainNext}
use Rattle.coalescer.specs.declared.put.Beside.{Beside}
use Rattle.coalescer.specs.declared.put.PutAt.{PutAt}
use Rattle.coalescer.specs.declared.put.PutCall.{PutCall}
use Rattle.coalescer.specs.declared.put.PutNext.{PutNext}
use Rattle.coalescer.specs.declared.put.PutStep.{PutStep}
use Rattle.coalescer.specs.Drain.{drain_course, drain_learn, goes_on, put_call, put_goes}
use Rattle.coalescer.specs.Put.{bin_goes, bins, insert_call, judges_left, judges_right, left_ends, left_win}
use Rattle.coalescer.specs.Put.{looks_far, put_learn, queue_goes, queues, right_ends, right_win}
use Rattle.coalescer.specs.Put.{sees_far_left, sees_far_right, sides_known, is_walled, step_course, step_learn}
use Rattle.coalescer.specs.Put.{unlink_call, unlinks_left, unlinks_right, wins_left, wins_right}
use Rattle.word_laws.specs.Memory.{found}
use Rattle.guard_laws.specs.Blocks.{CallFits, TaskFits}
use Rattle.backend_tasks.specs.Guards.{bin_guard, drain_guard, put_guard}
use Rattle.step_runs.specs.Entries.{seen_by}
use Rattle.pool_laws.specs.Wholes.{Whole, WholeGood}
use Rattle.turn_suits.proofs.Guards.{free_tells}

-- what a seat is told of a step
abbrev pub told : Whole → Action → ℕ
told w action = word_seen (seen_by action (found w.pool.mem action))

pub left_fits : (k : Key) (w : Whole) (p : PutAt) (n : ℕ) → WholeGood k w
    → guard_of (w.pool.mem lefts p.block.first) ≡ Guard.Free n → CallFits (left_win p n)
left_fits k w p n good is =
    let t = free_tells k w.pool.blocks w.pool.mem w.pool.tasks Side.End p.block.first n good.free.pool.guards is in
    let small = good.free.pool.guards.small in let edge = t.edge in let within = t.within in
    record { ends = omega arith; told = omega arith }

pub right_fits : (k : Key) (w : Whole) (p : PutAt) (n : ℕ) → WholeGood k w
    → guard_of (w.pool.mem sizes (block_end p.block)) ≡ Guard.Free n → CallFits (right_win p n)
right_fits k w p n good is =
    let t = free_tells k w.pool.blocks w.pool.mem w.pool.tasks Side.Begin (block_end p.block) n good.free.pool.guards
    is in
    let small = good.free.pool.guards.small in let edge = t.edge in let within = t.within in
    record { ends = omega arith; told = omega arith }

-- what is next fits
abbrev pub NextFits : PutNext → Type 0
NextFits (PutNext.Goes p) = TaskFits (put_guard p p.step)
NextFits (PutNext.Waits bin) = ⊤
NextFits PutNext.Done = ⊤
NextFits (PutNext.Gives b) = ⊤

bin_fits : (b : Block) (at : BinAt) → TaskFits (bin_guard b at)
bin_fits b BinAt.Left = tt
bin_fits b _ = tt

either : (b : Bool) (x y : PutNext) → NextFits x → NextFits y → NextFits (cond b x y)
either true x y one other = one
either false x y one other = other

queues_fit : (c : PutCall) (p : PutAt) → NextFits (queues c p)
queues_fit c p = either c.drained _ _ tt tt

left_guard_fits : (k : Key) (w : Whole) (c : PutCall) (p : PutAt) (guard : Guard) → WholeGood k w
    → guard_of (w.pool.mem lefts p.block.first) ≡ guard → NextFits (judges_left c p guard)
left_guard_fits k w c p (Guard.Free n) good is = left_fits k w p n good is
left_guard_fits k w c p Guard.Used good is = tt
left_guard_fits k w c p Guard.Coalescing good is = queues_fit c p
left_guard_fits k w c p Guard.Wall good is = tt

right_ends_fit : (p : PutAt) (right : Beside) → NextFits (right_ends p right)
right_ends_fit p Beside.Joined = tt
right_ends_fit p _ = tt

left_ends_fit : (p : PutAt) (left : Beside) → NextFits (left_ends p left)
left_ends_fit p Beside.Joined = tt
left_ends_fit p Beside.InUse = right_ends_fit p p.right
left_ends_fit p Beside.Wall = right_ends_fit p p.right
left_ends_fit p Beside.Unknown = right_ends_fit p p.right

sides_fit : (c : PutCall) (p : PutAt) → NextFits (sides_known c p)
sides_fit c p = either (c.gives && is_walled p) (looks_far p) (bins p) (left_ends_fit p p.left) tt

right_guard_fits : (k : Key) (w : Whole) (c : PutCall) (p : PutAt) (guard : Guard) → WholeGood k w
    → guard_of (w.pool.mem sizes (block_end p.block)) ≡ guard → NextFits (judges_right c p guard)
right_guard_fits k w c p (Guard.Free n) good is = right_fits k w p n good is
right_guard_fits k w c p Guard.Used good is = sides_fit c (record p { right = Beside.InUse })
right_guard_fits k w c p Guard.Coalescing good is = queues_fit c p
right_guard_fits k w c p Guard.Wall good is = sides_fit c (record p { right = Beside.Wall })

far_left_fits : (p : PutAt) (guard : Guard) → NextFits (sees_far_left p guard)
far_left_fits p Guard.Wall = right_ends_fit p p.right
far_left_fits p _ = tt

far_right_fits : (p : PutAt) (guard : Guard) → NextFits (sees_far_right p guard)
far_right_fits p Guard.Wall = tt
far_right_fits p _ = tt

-- the two wins, each at all its positions; a guard that says no more that the block is free is judged anew
win_left_fits : (k : Key) (w : Whole) (c : PutCall) (p : PutAt) (n : ℕ) (at : WinAt) → WholeGood k w
    → CallFits (left_win p n)
    → NextFits (wins_left c p n (win_learn (left_win p n) at (told w (step_course c p (PutStep.WinLeft n at)))))
win_left_fits k w c p n WinAt.First good fits =
    by (eqb (w.pool.mem lefts p.block.first) (free_word (left_win p n)))
  where
    by : (b : Bool) → NextFits (wins_left c p n
        (cond b (WinNext.Goes WinAt.Second) (WinNext.NotWon (w.pool.mem lefts p.block.first))))
    by true = fits
    by false = left_guard_fits k w c p (guard_of (w.pool.mem lefts p.block.first)) good refl
win_left_fits k w c p n WinAt.Second good fits =
    by (eqb (told w (step_course c p (PutStep.WinLeft n WinAt.Second))) (free_word (left_win p n)))
  where
    by : (b : Bool) → NextFits (wins_left c p n (cond b WinNext.Won (WinNext.Goes WinAt.Back)))
    by true = tt
    by false = fits
win_left_fits k w c p n WinAt.Back good fits = queues_fit c p

win_right_fits : (k : Key) (w : Whole) (c : PutCall) (p : PutAt) (n : ℕ) (at : WinAt) → WholeGood k w
    → CallFits (right_win p n)
    → NextFits (wins_right c p n (win_learn (right_win p n) at (told w (step_course c p (PutStep.WinRight n at)))))
win_right_fits k w c p n WinAt.First good fits =
    by (eqb (w.pool.mem sizes (block_end p.block)) (free_word (right_win p n)))
  where
    by : (b : Bool) → NextFits (wins_right c p n
        (cond b (WinNext.Goes WinAt.Second) (WinNext.NotWon (w.pool.mem sizes (block_end p.block)))))
    by true = fits
    by false = right_guard_fits k w c p (guard_of (w.pool.mem sizes (block_end p.block))) good refl
win_right_fits k w c p n WinAt.Second good fits =
    by (eqb (told w (step_course c p (PutStep.WinRight n WinAt.Second))) (free_word (right_win p n)))
  where
    by : (b : Bool) → NextFits (wins_right c p n (cond b WinNext.Won (WinNext.Goes WinAt.Back)))
    by true = tt
    by false = fits
win_right_fits k w c p n WinAt.Back good fits = queues_fit c p

unlink_left_fits : (p : PutAt) (b : Block) (next : BinNext) → NextFits (unlinks_left p b next)
unlink_left_fits p b (BinNext.Goes at) = bin_fits b at
unlink_left_fits p b BinNext.Waits = tt
unlink_left_fits p b BinNext.Done = tt

unlink_right_fits : (c : PutCall) (p : PutAt) (b : Block) (next : BinNext) → NextFits (unlinks_right c p b next)
unlink_right_fits c p b (BinNext.Goes at) = bin_fits b at
unlink_right_fits c p b BinNext.Waits = tt
unlink_right_fits c p b BinNext.Done = sides_fit c (record p { right = Beside.Joined })

queue_fits : (p : PutAt) (next : PushNext) → NextFits (queue_goes p next)
queue_fits p (PushNext.Goes at) = tt
queue_fits p (PushNext.Pushed found) = tt

bin_goes_fits : (p : PutAt) (next : BinNext) → NextFits (bin_goes p next)
bin_goes_fits p (BinNext.Goes at) = bin_fits p.block at
bin_goes_fits p BinNext.Waits = tt
bin_goes_fits p BinNext.Done = tt

pub put_next_fits : (k : Key) (w : Whole) (c : PutCall) (p : PutAt) (step : PutStep) → WholeGood k w
    → TaskFits (put_guard p step) → NextFits (step_learn c p step (told w (step_course c p step)))
put_next_fits k w c p PutStep.Size good fits = tt
put_next_fits k w c p PutStep.Left good fits = tt
put_next_fits k w c p PutStep.LeftWord good fits =
    left_guard_fits k w c p (guard_of (w.pool.mem lefts p.block.first)) good refl
put_next_fits k w c p (PutStep.WinLeft n at) good fits = win_left_fits k w c p n at good fits
put_next_fits k w c p (PutStep.UnlinkLeft b at) good fits =
    unlink_left_fits p b (bin_learn (unlink_call c b) at (told w (step_course c p (PutStep.UnlinkLeft b at))))
put_next_fits k w c p PutStep.RightWord good fits =
    right_guard_fits k w c p (guard_of (w.pool.mem sizes (block_end p.block))) good refl
put_next_fits k w c p (PutStep.WinRight n at) good fits = win_right_fits k w c p n at good fits
put_next_fits k w c p (PutStep.UnlinkRight b at) good fits =
    unlink_right_fits c p b (bin_learn (unlink_call c b) at (told w (step_course c p (PutStep.UnlinkRight b at))))
put_next_fits k w c p PutStep.FarLeft good fits =
    far_left_fits p (guard_of (told w (step_course c p PutStep.FarLeft)))
put_next_fits k w c p PutStep.FarRight good fits =
    far_right_fits p (guard_of (told w (step_course c p PutStep.FarRight)))
put_next_fits k w c p (PutStep.Queue at) good fits =
    queue_fits p (push_learn at (told w (step_course c p (PutStep.Queue at))))
put_next_fits k w c p (PutStep.Bin at) good fits =
    bin_goes_fits p (bin_learn (insert_call c p.block) at (told w (step_course c p (PutStep.Bin at))))

-- and so it is where the queue is emptied
abbrev pub DrainFits : DrainNext → Type 0
DrainFits (DrainNext.Goes at) = TaskFits (drain_guard at)
DrainFits (DrainNext.Waits bin) = ⊤
DrainFits (DrainNext.Gives b rest) = ⊤
DrainFits DrainNext.Drained = ⊤

pub goes_on_fits : (rest : Option ℕ) → DrainFits (goes_on rest)
goes_on_fits (Some first) = tt
goes_on_fits None = tt

put_goes_fits : (rest : Option ℕ) (next : PutNext) → NextFits next → DrainFits (put_goes rest next)
put_goes_fits rest (PutNext.Goes at) fits = fits
put_goes_fits rest (PutNext.Waits bin) fits = tt
put_goes_fits rest PutNext.Done fits = goes_on_fits rest
put_goes_fits rest (PutNext.Gives b) fits = tt

pub drain_next_fits : (k : Key) (w : Whole) (c : DrainCall) (at : DrainAt) → WholeGood k w
    → TaskFits (drain_guard at) → DrainFits (drain_learn c at (told w (drain_course c at)))
drain_next_fits k w c DrainAt.Swap good fits = goes_on_fits (link_of (told w (drain_course c DrainAt.Swap)))
drain_next_fits k w c (DrainAt.Link first) good fits = tt
drain_next_fits k w c (DrainAt.Put rest at) good fits = put_goes_fits rest
    (put_learn (put_call c) at (told w (drain_course c (DrainAt.Put rest at))))
    (put_next_fits k w (put_call c) at at.step good fits)
