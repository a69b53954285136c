-- Steps on guards, at bins and at the queue, and on words of no group.
use Rattle.std.proofs.Common.{◌≡◌, ◌≢◌, inl, inr, ℕ, ◌+◌, None, refl, ap, subst, arith, ◌∙◌}
use Rattle.pool_words.specs.declared.words.Key.{Key}
use Rattle.pool_words.specs.declared.words.Word.{Word}
use Rattle.pool_words.specs.declared.actions.Action.{Action}
use Rattle.pool_words.specs.declared.actions.Action.TheVariants.{Store, Swap}
use Rattle.pool_words.specs.Words.{sizes, lefts}
use Rattle.word_codes.specs.Guards.{guard_of, guard_word}
use Rattle.word_codes.specs.declared.guards.Guard.{Guard}
use Rattle.guards.specs.declared.win.Side.{Side}
use Rattle.guards.specs.declared.win.Taking.{Taking}
use Rattle.guards.specs.declared.win.WinAt.{WinAt}
use Rattle.guards.specs.declared.win.WinCall.{WinCall}
use Rattle.guards.specs.declared.win.WinNext.{WinNext}
use Rattle.guards.specs.Win.{guard_at, other_side, win_course, win_learn}
use Rattle.chain_words.specs.declared.pushing.PushAt.{PushAt}
use Rattle.chain_words.specs.declared.pushing.PushNext.{PushNext}
use Rattle.chain_words.specs.Pushing.{push_learn}
use Rattle.locked_chain.specs.Locks.{lock_course, unlock_course}
use Rattle.locked_chain.specs.Insert.{insert_course}
use Rattle.locked_chain.specs.Remove.{remove_course}
use Rattle.backend_bins.specs.Blocks.{bin_of}
use Rattle.word_laws.specs.Memory.{Mem, put, after, found}
use Rattle.chain_laws.specs.Pushing.{push_action}
use Rattle.lock_laws.specs.Locks.{lock_by}
use Rattle.lock_laws.specs.Seats.{list_call}
use Rattle.guard_laws.specs.Blocks as blocks
use Rattle.guard_laws.specs.Blocks.{Use, edge_of, edge_word}
use Rattle.guard_laws.specs.Steps.{guard_in, shadow_won, shadow_drained, task_after, GuardStep}
use Rattle.bin_laws.specs.Bins as bins
use Rattle.bin_laws.specs.Bins.{bin_words}
use Rattle.bin_laws.specs.Steps.{BinStep}
use Rattle.queue_laws.specs.Queue as queues
use Rattle.queue_laws.specs.Queue.{queue_words, push_of, QueuesFit, TaskFits}
use Rattle.queue_laws.specs.Steps.{shadow_queued, QueueStep}
use Rattle.cache_laws.specs.Good.{hand}
use Rattle.use_laws.specs.After.{with_mem}
use Rattle.use_laws.specs.Steps.{KeepsUse}
use Rattle.region_laws.specs.Steps.{KeepsRegions}
use Rattle.free_laws.specs.Spaces.{bins_of, bin_tasks, queue_of, queue_tasks, QueueFits}
use Rattle.free_laws.specs.Steps.{with_guards, with_bins, with_queue, IsHand, KeepsFree, IsAtBins, IsAtQueue}
use Rattle.free_laws.specs.Steps.{FreeStep, FreeRun}
use Rattle.pool_laws.specs.Wholes.{Whole, WholeGood, space_of}
use Rattle.pool_laws.specs.Changes.{with_pool, with_space}
use Rattle.pool_laws.specs.Moves.{Moves}
use Rattle.pool_laws.specs.Steps.{IsFree, KeepsWhole, IsOfNone}
use Rattle.pool_laws.proofs.Words.{Writing, On, missed, leaves_guards, leaves_things, leaves_lists, leaves_queue}
use Rattle.pool_laws.proofs.Lifts.{Wrote, wrote, wrote_none, things_stay, lists_stay, queue_stays, Between, no_thing}
use Rattle.pool_laws.proofs.Lifts.{no_list, no_queue, NoneButFree, free_words, Beside, beside_none, word_beside}
use Rattle.pool_laws.proofs.Lifts.{guard_beside, beside_then, space_moves}
use Rattle.pool_laws.proofs.Below.{insert_writes, remove_writes, push_writes}

edge_on : (e : Side) (y : ℕ) → On (Between 6 7) (edge_word e y)
edge_on Side.Begin y = (omega arith, omega arith)
edge_on Side.End y = (omega arith, omega arith)

pub edge_writes : (e : Side) (y v : ℕ) → Writing (Between 6 7) (Store (edge_word e y) v)
edge_writes Side.Begin y v = (omega arith, omega arith)
edge_writes Side.End y v = (omega arith, omega arith)

guard_on : (c : WinCall) (e : Side) → On (Between 6 7) (guard_at c e)
guard_on c Side.Begin = (omega arith, omega arith)
guard_on c Side.End = (omega arith, omega arith)

win_on : (c : WinCall) (at : WinAt) → Writing (Between 6 7) (win_course c at)
win_on c WinAt.First = guard_on c c.first
win_on c WinAt.Second = guard_on c (other_side c.first)
win_on c WinAt.Back = guard_on c c.first

-- what each step on guards writes
guard_wrote : (k : Key) (t : ℕ) (w : Whole) (h : blocks.Shadow) (m' : Mem) (tasks : ℕ → blocks.Task)
    → (step : GuardStep k t w.pool.blocks w.pool.mem w.pool.tasks h m' tasks) → KeepsWhole k t w h m' tasks step
    → Wrote k w.pool.mem m' (Between 6 7)
guard_wrote k t w h m' tasks (GuardStep.begins c is fits) keeps = wrote_none k w.pool.mem (Between 6 7)
guard_wrote k t w h m' tasks (GuardStep.wins c at is) keeps =
    wrote k w.pool.mem (Between 6 7) (win_course c at) (win_on c at)
guard_wrote k t w h m' tasks (GuardStep.offers x n taking is at) keeps =
    wrote k w.pool.mem (Between 6 7) (Store (Word.Size x) (guard_word (Guard.Free n))) (omega arith, omega arith)
guard_wrote k t w h m' tasks (GuardStep.offered x n is) keeps = absurd keeps
guard_wrote k t w h m' tasks (GuardStep.marks e x n taking guard is at fits) keeps =
    wrote k w.pool.mem (Between 6 7) (Store (edge_word e (edge_of e x n)) (guard_word guard))
    (edge_writes e (edge_of e x n) (guard_word guard))
guard_wrote k t w h m' tasks (GuardStep.readies e x n y taking at low high) keeps =
    wrote k w.pool.mem (Between 6 7) (Store (edge_word e y) (guard_word Guard.Used))
    (edge_writes e y (guard_word Guard.Used))
guard_wrote k t w h m' tasks (GuardStep.splits x a b is some more at used) keeps =
    wrote_none k w.pool.mem (Between 6 7)
guard_wrote k t w h m' tasks (GuardStep.merges x a b is at behind) keeps = wrote_none k w.pool.mem (Between 6 7)
guard_wrote k t w h m' tasks (GuardStep.reuses x n was now is own own' at fits) keeps =
    wrote_none k w.pool.mem (Between 6 7)
guard_wrote k t w h m' tasks GuardStep.drains keeps = absurd keeps
guard_wrote k t w h m' tasks (GuardStep.walls e y low none) keeps = absurd keeps
guard_wrote k t w h m' tasks (GuardStep.outlines e y low none) keeps = absurd keeps
guard_wrote k t w h m' tasks (GuardStep.comes x n some within outside used) keeps = absurd keeps
guard_wrote k t w h m' tasks (GuardStep.leaves x n taking is at) keeps = absurd keeps
guard_wrote k t w h m' tasks (GuardStep.others action other) keeps = absurd keeps

hand_used : (t : ℕ) (u : Use) → IsHand t u → u ≢ Use.Elsewhere
hand_used t Use.Bin own is = own
hand_used t (Use.Held o taking) own is = absurd (let q : Use.Held o taking ≡ Use.Elsewhere = is in cc)
hand_used t Use.Queued own is = own
hand_used t Use.Elsewhere own is = own

keeps_use : (k : Key) (t : ℕ) (w : Whole) (h : blocks.Shadow) (m' : Mem) (tasks : ℕ → blocks.Task)
    → (step : GuardStep k t w.pool.blocks w.pool.mem w.pool.tasks h m' tasks) → KeepsWhole k t w h m' tasks step
    → KeepsUse k t w.pool.blocks w.pool.mem w.pool.tasks h m' tasks step
keeps_use k t w h m' tasks (GuardStep.begins c is fits) keeps = tt
keeps_use k t w h m' tasks (GuardStep.wins c at is) keeps = tt
keeps_use k t w h m' tasks (GuardStep.offers x n taking is at) keeps = tt
keeps_use k t w h m' tasks (GuardStep.offered x n is) keeps = tt
keeps_use k t w h m' tasks (GuardStep.marks e x n taking guard is at fits) keeps = tt
keeps_use k t w h m' tasks (GuardStep.readies e x n y taking at low high) keeps = tt
keeps_use k t w h m' tasks (GuardStep.splits x a b is some more at used) keeps = tt
keeps_use k t w h m' tasks (GuardStep.merges x a b is at behind) keeps = tt
keeps_use k t w h m' tasks (GuardStep.reuses x n was now is own own' at fits) keeps =
    (hand_used t was keeps.0, hand_used t now keeps.1)
keeps_use k t w h m' tasks GuardStep.drains keeps = tt
keeps_use k t w h m' tasks (GuardStep.walls e y low none) keeps = tt
keeps_use k t w h m' tasks (GuardStep.outlines e y low none) keeps = tt
keeps_use k t w h m' tasks (GuardStep.comes x n some within outside used) keeps = tt
keeps_use k t w h m' tasks (GuardStep.leaves x n taking is at) keeps = tt
keeps_use k t w h m' tasks (GuardStep.others action other) keeps = tt

keeps_free : (k : Key) (t : ℕ) (w : Whole) (h : blocks.Shadow) (m' : Mem) (tasks : ℕ → blocks.Task)
    → (step : GuardStep k t w.pool.blocks w.pool.mem w.pool.tasks h m' tasks) → KeepsWhole k t w h m' tasks step
    → KeepsFree k t (space_of w) h m' tasks step
keeps_free k t w h m' tasks (GuardStep.begins c is fits) keeps = keeps
keeps_free k t w h m' tasks (GuardStep.wins c at is) keeps = keeps
keeps_free k t w h m' tasks (GuardStep.offers x n taking is at) keeps = keeps
keeps_free k t w h m' tasks (GuardStep.offered x n is) keeps = keeps
keeps_free k t w h m' tasks (GuardStep.marks e x n taking guard is at fits) keeps = tt
keeps_free k t w h m' tasks (GuardStep.readies e x n y taking at low high) keeps = tt
keeps_free k t w h m' tasks (GuardStep.splits x a b is some more at used) keeps = keeps
keeps_free k t w h m' tasks (GuardStep.merges x a b is at behind) keeps = keeps
keeps_free k t w h m' tasks (GuardStep.reuses x n was now is own own' at fits) keeps = keeps
keeps_free k t w h m' tasks GuardStep.drains keeps = keeps
keeps_free k t w h m' tasks (GuardStep.walls e y low none) keeps = tt
keeps_free k t w h m' tasks (GuardStep.outlines e y low none) keeps = tt
keeps_free k t w h m' tasks (GuardStep.comes x n some within outside used) keeps = tt
keeps_free k t w h m' tasks (GuardStep.leaves x n taking is at) keeps = absurd keeps
keeps_free k t w h m' tasks (GuardStep.others action other) keeps = tt

keeps_regions : (k : Key) (t : ℕ) (w : Whole) (h : blocks.Shadow) (m' : Mem) (tasks : ℕ → blocks.Task)
    → (step : GuardStep k t w.pool.blocks w.pool.mem w.pool.tasks h m' tasks) → KeepsWhole k t w h m' tasks step
    → KeepsRegions k t w.pool.blocks w.pool.mem w.pool.tasks h m' tasks step
keeps_regions k t w h m' tasks (GuardStep.begins c is fits) keeps = tt
keeps_regions k t w h m' tasks (GuardStep.wins c at is) keeps = tt
keeps_regions k t w h m' tasks (GuardStep.offers x n taking is at) keeps = tt
keeps_regions k t w h m' tasks (GuardStep.offered x n is) keeps = tt
keeps_regions k t w h m' tasks (GuardStep.marks e x n taking guard is at fits) keeps = tt
keeps_regions k t w h m' tasks (GuardStep.readies e x n y taking at low high) keeps = tt
keeps_regions k t w h m' tasks (GuardStep.splits x a b is some more at used) keeps = tt
keeps_regions k t w h m' tasks (GuardStep.merges x a b is at behind) keeps = tt
keeps_regions k t w h m' tasks (GuardStep.reuses x n was now is own own' at fits) keeps = tt
keeps_regions k t w h m' tasks GuardStep.drains keeps = tt
keeps_regions k t w h m' tasks (GuardStep.walls e y low none) keeps = keeps
keeps_regions k t w h m' tasks (GuardStep.outlines e y low none) keeps = keeps
keeps_regions k t w h m' tasks (GuardStep.comes x n some within outside used) keeps = keeps
keeps_regions k t w h m' tasks (GuardStep.leaves x n taking is at) keeps = keeps
keeps_regions k t w h m' tasks (GuardStep.others action other) keeps = tt

pub guards_move : (k : Key) (t : ℕ) (w : Whole) (h : blocks.Shadow) (m' : Mem) (tasks : ℕ → blocks.Task)
    → (step : GuardStep k t w.pool.blocks w.pool.mem w.pool.tasks h m' tasks) → KeepsWhole k t w h m' tasks step
    → IsFree w t → WholeGood k w → Moves k w (with_space (with_guards h m' tasks (space_of w)) w)
guards_move k t w h m' tasks step keeps free good =
    let m = w.pool.mem in
    let is = guard_wrote k t w h m' tasks step keeps in
    let uses = keeps_use k t w h m' tasks step keeps in
    space_moves k t w (with_guards h m' tasks (space_of w)) good.post free.shelf
    (guard_beside k t w h m' tasks step uses (keeps_regions k t w h m' tasks step keeps) is)
    (FreeRun.steps FreeRun.starts t (FreeStep.guards h m' tasks step uses (keeps_free k t w h m' tasks step keeps)
    free.queue (things_stay k m m' (Between 6 7) (no_thing 6 7 (omega arith)) is)
    (lists_stay k m m' (Between 6 7) (no_list 6 7 (inl (omega arith))) is)
    (queue_stays k m m' (Between 6 7) (no_queue 6 7 (inl (omega arith))) is)))

-- the clock, or no word at all
pub others_move : (k : Key) (t : ℕ) (w : Whole) (action : Action) → IsOfNone action → IsFree w t → WholeGood k w
    → Moves k w (with_pool (with_mem (after k w.pool.mem action) w.pool) w)
others_move k t w action is free good =
    let m = w.pool.mem in
    let none = free_words 26 26 (omega arith) (inr (omega arith)) (omega arith) in
    space_moves k t w (with_guards w.pool.blocks (after k m action) w.pool.tasks (space_of w)) good.post free.shelf
    (word_beside k t w (Between 26 26) action none is)
    (FreeRun.steps FreeRun.starts t (FreeStep.guards w.pool.blocks (after k m action) w.pool.tasks
    (GuardStep.others action (leaves_guards (Between 26 26) action none.guards is)) tt tt free.queue
    (leaves_things k m (Between 26 26) action none.things is)
    (leaves_lists k m (Between 26 26) action (no_list 26 26 (inr (omega arith))) is)
    (leaves_queue k m (Between 26 26) action (no_queue 26 26 (inr (omega arith))) is)))

bin_words_only : NoneButFree (Between 8 11)
bin_words_only = free_words 8 11 (omega arith) (inl (omega arith)) (omega arith)

-- steps at bins, to all groups but their own
bins_beside : (k : Key) (t : ℕ) (w : Whole) (h : bins.Shadow) (m' : Mem) (l' : bins.Locals)
    → (step : BinStep k t (bins_of (space_of w)) w.pool.mem (bin_tasks (space_of w)) h m' l')
    → IsAtBins k t (space_of w) h m' l' step → Beside k t w (with_bins h m' l' (space_of w)).pool
bins_beside k t w h m' l' (BinStep.guards g m tasks step quiet same) ok = absurd ok
bins_beside k t w h m' l' (BinStep.wins c is won ready) ok =
    let next = win_learn c WinAt.Second (found w.pool.mem (win_course c WinAt.Second)) in
    subst (λ (n : WinNext). Beside k t w (record w.pool {
      mem = after k w.pool.mem (win_course c WinAt.Second);
      blocks = shadow_won t c n w.pool.blocks;
      tasks = put w.pool.tasks t (task_after c n);
    })) won
    (guard_beside k t w (shadow_won t c next w.pool.blocks) (after k w.pool.mem (win_course c WinAt.Second))
    (put w.pool.tasks t (task_after c next)) (GuardStep.wins c WinAt.Second is) tt tt
    (wrote k w.pool.mem (Between 6 7) (win_course c WinAt.Second) (win_on c WinAt.Second)))
bins_beside k t w h m' l' (BinStep.comes x n is has) ok = guard_beside k t w h.guards m' l'.guards
    (GuardStep.offered x n is) tt tt
    (wrote k w.pool.mem (Between 6 7) (Store (Word.Left (x + n)) (guard_word (Guard.Free n)))
    (omega arith, omega arith))
bins_beside k t w h m' l' (BinStep.takes b some is) ok =
    word_beside k t w (Between 8 11) (lock_course (lock_by bin_words.lock t b)) bin_words_only
    (omega arith, omega arith)
bins_beside k t w h m' l' (BinStep.leaves x n is) ok =
    word_beside k t w (Between 8 11) (lock_course (lock_by bin_words.lock t (bin_of n))) bin_words_only
    (omega arith, omega arith)
bins_beside k t w h m' l' (BinStep.frees b is) ok =
    word_beside k t w (Between 8 11) (unlock_course (lock_by bin_words.lock t b)) bin_words_only
    (omega arith, omega arith)
bins_beside k t w h m' l' (BinStep.links x n at is) ok =
    word_beside k t w (Between 8 11) (insert_course (list_call bin_words (bin_of n) x) at) bin_words_only
    (insert_writes (bin_of n) x at)
bins_beside k t w h m' l' (BinStep.unlinks x n at is) ok =
    word_beside k t w (Between 8 11) (remove_course (list_call bin_words (bin_of n) x) at) bin_words_only
    (remove_writes (bin_of n) x at)

pub bins_move : (k : Key) (t : ℕ) (w : Whole) (h : bins.Shadow) (m' : Mem) (l' : bins.Locals)
    → (step : BinStep k t (bins_of (space_of w)) w.pool.mem (bin_tasks (space_of w)) h m' l')
    → IsAtBins k t (space_of w) h m' l' step → IsFree w t → WholeGood k w
    → Moves k w (with_space (with_bins h m' l' (space_of w)) w)
bins_move k t w h m' l' step ok free good =
    space_moves k t w (with_bins h m' l' (space_of w)) good.post free.shelf (bins_beside k t w h m' l' step ok)
    (FreeRun.steps FreeRun.starts t (FreeStep.bins h m' l' step ok free.queue))

queue_words_only : NoneButFree (Between 12 13)
queue_words_only = free_words 12 13 (omega arith) (inl (omega arith)) (omega arith)

guard_stays : (k : Key) (m : Mem) (action : Action) (e : Side) (y : ℕ) → Writing (Between 12 13) action
    → guard_in (after k m action) e y ≡ guard_in m e y
guard_stays k m action Side.Begin y is = ap (λ (f : ℕ → ℕ). guard_of (f y))
    (missed k m (Between 12 13) sizes action (λ n in' e. let a = in'.0 in omega (arith, e, a)) is)
guard_stays k m action Side.End y is = ap (λ (f : ℕ → ℕ). guard_of (f y))
    (missed k m (Between 12 13) lefts action (λ n in' e. let a = in'.0 in omega (arith, e, a)) is)

-- a push: the block is queued with the exchange that makes it the first one
pushed_beside : (k : Key) (t : ℕ) (w : Whole) (x n : ℕ) (at : PushAt) (next : PushNext)
    → w.queue t ≡ queues.Task.Queues x n at → WholeGood k w
    → Beside k t w (record w.pool {
      mem = after k w.pool.mem (push_action queue_words (push_of x n) at);
      blocks = shadow_queued x n next w.pool.blocks;
    })
pushed_beside k t w x n at (PushNext.Goes at') is good =
    word_beside k t w (Between 12 13) (push_action queue_words (push_of x n) at) queue_words_only (push_writes x n at)
pushed_beside k t w x n at (PushNext.Pushed head) is good =
    let action = push_action queue_words (push_of x n) at in
    let m' = after k w.pool.mem action in
    beside_then k t w (record w.pool { mem = m' }) (shadow_queued x n (PushNext.Pushed head) w.pool.blocks)
    (GuardStep.reuses x n (Use.Held t Taking.ToJoin) Use.Queued
    (subst (λ q. QueueFits (w.pool.tasks t) (w.bins t) q) is (good.free.seats t).queue).0 refl tt fits.hand
    (λ e. guard_stays k w.pool.mem action e (edge_of e x n) (push_writes x n at) ∙ fits.guards e)) (
      (λ q. absurd (let r : Use.Held t Taking.ToJoin ≡ Use.Elsewhere = q in cc)),
      (λ q. absurd (let r : Use.Queued ≡ Use.Elsewhere = q in cc)),
    ) tt
    (word_beside k t w (Between 12 13) action queue_words_only (push_writes x n at))
  where
    fits : QueuesFit w.pool.blocks w.pool.mem t x n at
    fits = subst (λ q. TaskFits w.pool.blocks w.pool.mem t q) is (good.free.queue.tasks t)

queue_beside : (k : Key) (t : ℕ) (w : Whole) (h : queues.Shadow) (m' : Mem) (l' : queues.Locals)
    → (step : QueueStep k t (queue_of (space_of w)) w.pool.mem (queue_tasks (space_of w)) h m' l')
    → IsAtQueue k t (space_of w) h m' l' step → WholeGood k w
    → Beside k t w (with_queue h m' l' (space_of w)).pool
queue_beside k t w h m' l' (QueueStep.guards g m tasks step idle quiet same) ok good = absurd ok
queue_beside k t w h m' l' (QueueStep.begins x n is away at marked) ok good = beside_none k t w
queue_beside k t w h m' l' (QueueStep.pushes x n at is away) ok good =
    pushed_beside k t w x n at (push_learn at (found w.pool.mem (push_action queue_words (push_of x n) at))) is good
queue_beside k t w h m' l' (QueueStep.takes is) ok good =
    let m'' = after k w.pool.mem (Swap Word.Queue 0) in
    beside_then k t w (record w.pool { mem = m'' }) (shadow_drained t w.pool.blocks) GuardStep.drains tt tt
    (word_beside k t w (Between 12 13) (Swap Word.Queue 0) queue_words_only (omega arith, omega arith))
queue_beside k t w h m' l' (QueueStep.reads x is) ok good = beside_none k t w
queue_beside k t w h m' l' (QueueStep.ends is) ok good = beside_none k t w

pub queue_moves : (k : Key) (t : ℕ) (w : Whole) (h : queues.Shadow) (m' : Mem) (l' : queues.Locals)
    → (step : QueueStep k t (queue_of (space_of w)) w.pool.mem (queue_tasks (space_of w)) h m' l')
    → IsAtQueue k t (space_of w) h m' l' step → hand (w.jobs t) ≡ None → WholeGood k w
    → Moves k w (with_space (with_queue h m' l' (space_of w)) w)
queue_moves k t w h m' l' step ok none good =
    space_moves k t w (with_queue h m' l' (space_of w)) good.post none (queue_beside k t w h m' l' step ok good)
    (FreeRun.steps FreeRun.starts t (FreeStep.queue h m' l' step ok))
