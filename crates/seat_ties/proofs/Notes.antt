-- Where notes are forgotten no block is put into the cache or into the queue.
use Rattle.std.proofs.Common.{◌≡◌, ◌∙◌, ◌++◌, ℕ, List, refl, sym, ap, subst}
use Rattle.std.specs.Prelude.{Option, Some, None}
use Rattle.pool_words.specs.declared.actions.Seen.{Seen}
use Rattle.pool_words.specs.Actions.{word_seen}
use Rattle.chain_words.specs.declared.pushing.PushNext.{PushNext}
use Rattle.chain_words.specs.Pushing.{push_learn}
use Rattle.coalescer.specs.declared.drain.DrainAt.{DrainAt}
use Rattle.coalescer.specs.declared.drain.DrainCall.{DrainCall}
use Rattle.coalescer.specs.declared.put.PutAt.{PutAt}
use Rattle.coalescer.specs.declared.put.PutNext.{PutNext}
use Rattle.coalescer.specs.declared.put.PutStep.{PutStep}
use Rattle.coalescer.specs.Drain.{put_call as drained_put}
use Rattle.coalescer.specs.Put.{put_learn, queue_goes}
use Rattle.word_codes.specs.Links.{link_of}
use Rattle.large_cache.specs.declared.get.GetNext.{GetNext}
use Rattle.large_cache.specs.declared.keep.KeepAt.{KeepAt}
use Rattle.large_cache.specs.declared.keep.KeepNext.{KeepNext}
use Rattle.large_cache.specs.declared.sweep.Cleanup.{Cleanup}
use Rattle.large_cache.specs.declared.sweep.SweepNext.{SweepNext}
use Rattle.large_cache.specs.declared.undo.UndoNext.{UndoNext}
use Rattle.large_cache.specs.Get.{get_learn}
use Rattle.large_cache.specs.Keep.{keep_learn}
use Rattle.large_cache.specs.Sweep.{sweep_learn}
use Rattle.large_cache.specs.Undo.{undo_learn}
use Rattle.cache_laws.specs.Good.{hand}
use Rattle.cache_laws.specs.Steps.{task_got, task_kept, task_swept, task_undone}
use Rattle.queue_laws.specs.Steps.{IsIdle, task_queued}
use Rattle.region_steps.specs.declared.office.OfficeNext.{OfficeNext}
use Rattle.region_steps.specs.Office.{office_learn}
use Rattle.step_local.specs.declared.frames.At.{At}
use Rattle.step_local.specs.declared.frames.Local.{Local}
use Rattle.step_local.specs.declared.frames.OfficeFor.{OfficeFor}
use Rattle.step_local.specs.Backend.{drain_call, office_call, put_as}
use Rattle.step_local.specs.Large.{granules_of_served, keep_as, sweep_call}
use Rattle.step_local.specs.Learn.{learn, learn_at}
use Rattle.backend_tasks.specs.Queue.{drained, drained_by, given_by, office_queue_left, queue_left}
use Rattle.backend_tasks.specs.Queue.{drain_queue_left, queue_left_at}
use Rattle.cache_tasks.specs.Cache.{cache_left, cache_left_at, gone_at}
use Rattle.heap_tasks.specs.Notes.{notes_added_at, notes_left, notes_of}

pub data NotesOrFree (l : Local) (s : Seen) : Type 0 where
  same : notes_of (learn l s).0 ≡ notes_left l (word_seen s) → NotesOrFree l s
  free : hand (cache_left l (word_seen s)) ≡ None → IsIdle (queue_left l s) → NotesOrFree l s

-- by its position
data OrAt (l : Local) (at : At) (s : Seen) : Type 0 where
  stay : notes_of (learn_at l at s).0 ≡ notes_of l → OrAt l at s
  off : hand (cache_left_at l at (word_seen s)) ≡ None → IsIdle (queue_left_at l at s) → OrAt l at s

got_off : (b time : ℕ) (next : GetNext) → hand (task_got b time next) ≡ None
got_off b time (GetNext.Goes at) = refl
got_off b time GetNext.Waits = refl
got_off b time (GetNext.Took block) = refl
got_off b time GetNext.Missed = refl

undone_off : (b : ℕ) (next : UndoNext) → hand (task_undone b next) ≡ None
undone_off b (UndoNext.Goes at) = refl
undone_off b UndoNext.Waits = refl
undone_off b UndoNext.Undone = refl

swept_off : (b time : ℕ) (cleanup : Cleanup) (gone : List ℕ) (next : SweepNext)
    → hand (task_swept b time cleanup gone next) ≡ None
swept_off b time cleanup gone (SweepNext.Goes at) = refl
swept_off b time cleanup gone (SweepNext.Stays at) = refl
swept_off b time cleanup gone (SweepNext.Stale block at) = refl
swept_off b time cleanup gone SweepNext.Waits = refl
swept_off b time cleanup gone (SweepNext.Began time') = refl
swept_off b time cleanup gone SweepNext.Passed = refl
swept_off b time cleanup gone SweepNext.Swept = refl

-- a put into the cache
data KeptAs (l : Local) (at : KeepAt) (next : KeepNext) : Type 0 where
  kept_stay : notes_of (keep_as l at next).0 ≡ notes_of l → KeptAs l at next
  kept_off : hand (task_kept l.call.block.granules l.call.time l.call.block.first next) ≡ None → KeptAs l at next

kept_or : (l : Local) (at : KeepAt) (next : KeepNext) → KeptAs l at next
kept_or l at (KeepNext.Goes next) = kept_stay refl
kept_or l at KeepNext.Waits = kept_stay refl
kept_or l at (KeepNext.Kept released) = kept_off refl

keep_or : (l : Local) (at : KeepAt) (s : Seen) → KeptAs l at (keep_learn at (word_seen s)) → OrAt l (At.Keep at) s
keep_or l at s (kept_stay e) = stay e
keep_or l at s (kept_off e) = off e tt

-- a put into the queue
data PushedAs (l : Local) (at : PutAt) (next : PushNext) : Type 0 where
  pushed_stay : notes_of (put_as l at (queue_goes at next)).0 ≡ notes_of l → PushedAs l at next
  pushed_off : IsIdle (task_queued at.block.first at.block.granules next) → PushedAs l at next

pushed_or : (l : Local) (at : PutAt) (next : PushNext) → PushedAs l at next
pushed_or l at (PushNext.Goes next) = pushed_stay refl
pushed_or l at (PushNext.Pushed found) = pushed_off tt

put_or : (l : Local) (at : PutAt) (step : PutStep) (s : Seen) → OrAt l (At.Put (record at { step = step })) s
put_or l at (PutStep.Queue push) s =
    by (pushed_or l (record at { step = PutStep.Queue push }) (push_learn push (word_seen s)))
  where
    by : PushedAs l (record at { step = PutStep.Queue push }) (push_learn push (word_seen s))
        → OrAt l (At.Put (record at { step = PutStep.Queue push })) s
    by (pushed_stay e) = stay e
    by (pushed_off e) = off refl e
put_or l at _ s = off refl tt

drained_off : (rest : Option ℕ) → IsIdle (drained rest)
drained_off (Some first) = tt
drained_off None = tt

drained_by_off : (rest : Option ℕ) (next : PutNext) → IsIdle (drained_by rest next)
drained_by_off rest (PutNext.Goes at) = tt
drained_by_off rest (PutNext.Waits bin) = tt
drained_by_off rest PutNext.Done = drained_off rest
drained_by_off rest (PutNext.Gives b) = tt

drain_off : (c : DrainCall) (at : DrainAt) (f : ℕ) → IsIdle (drain_queue_left c at f)
drain_off c DrainAt.Swap f = drained_off (link_of f)
drain_off c (DrainAt.Link first) f = tt
drain_off c (DrainAt.Put rest at) f = drained_by_off rest (put_learn (drained_put c) at f)

given_off : (rest : Option ℕ) (next : OfficeNext) → IsIdle (given_by rest next)
given_off rest (OfficeNext.Goes at) = tt
given_off rest OfficeNext.Waits = tt
given_off rest (OfficeNext.Left end) = drained_off rest

office_off : (job : OfficeFor) (next : OfficeNext) → IsIdle (office_queue_left job next)
office_off OfficeFor.Ask next = tt
office_off (OfficeFor.Put first) next = tt
office_off (OfficeFor.Drain first rest) next = given_off rest next

or_at : (l : Local) (at : At) (s : Seen) → OrAt l at s
or_at l (At.Get at) s = off (got_off (granules_of_served l.call.served) l.call.time (get_learn at (word_seen s))) tt
or_at l (At.Undo cause at) s = off (undone_off (granules_of_served l.call.served) (undo_learn at (word_seen s))) tt
or_at l (At.Keep at) s = keep_or l at s (kept_or l at (keep_learn at (word_seen s)))
or_at l (At.Sweep at) s = off (swept_off l.sweep.granules l.sweep.time l.sweep.cleanup (gone_at l.released.items at)
    (sweep_learn (sweep_call l) at (word_seen s))) tt
or_at l (At.Put at) s = put_or l at at.step s
or_at l (At.Drain at) s = off refl (drain_off (drain_call l) at (word_seen s))
or_at l (At.Office job at) s = off refl (office_off job (office_learn (office_call l job) at s))
or_at l _ s = off refl tt

pub notes_or_free : (l : Local) (s : Seen) → NotesOrFree l s
notes_or_free l s = by l.at refl (or_at l l.at s)
  where
    by : (at : At) → l.at ≡ at → OrAt l at s → NotesOrFree l s
    by (At.Look at) e (stay is) = free (ap (λ (x : At). hand (cache_left_at l x (word_seen s))) e)
        (subst (λ (x : At). IsIdle (queue_left_at l x s)) (sym e) tt)
    by (At.Small at) e (stay is) = free (ap (λ (x : At). hand (cache_left_at l x (word_seen s))) e)
        (subst (λ (x : At). IsIdle (queue_left_at l x s)) (sym e) tt)
    by (At.Large at) e (stay is) = free (ap (λ (x : At). hand (cache_left_at l x (word_seen s))) e)
        (subst (λ (x : At). IsIdle (queue_left_at l x s)) (sym e) tt)
    by at e (off none idle) = free (ap (λ (x : At). hand (cache_left_at l x (word_seen s))) e ∙ none)
        (subst (λ (x : At). IsIdle (queue_left_at l x s)) (sym e) idle)
    by _ e (stay is) = same (ap (λ (x : At). notes_of (learn_at l x s).0) e ∙ is
        ∙ sym (ap (λ (x : At). notes_added_at l x (word_seen s) ++ notes_of l) e))
