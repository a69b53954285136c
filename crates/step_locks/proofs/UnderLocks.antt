-- A step writes a word under a lock only where its seat has that lock.
use Rattle.std.proofs.Common.{◌≡◌, ℕ, false, List, [], ◌∷◌, refl}
use Rattle.std.specs.Prelude.{Option, Some, None}
use Rattle.pool_words.specs.declared.actions.Action.{Action}
use Rattle.pool_words.specs.declared.actions.Action.TheVariants.{Load, Store, Swap, Exchange, Add, TakeOffice}
use Rattle.pool_words.specs.declared.actions.Action.TheVariants.{GiveOffice, Nothing}
use Rattle.pool_words.specs.declared.words.Word.{Word}
use Rattle.pool_words.specs.Words.{WordKind, kind_of_word, bin_heads, forwards, backwards, cache_heads, cache_items}
use Rattle.pool_words.specs.Words.{cache_used, cache_means, cache_thresholds, cache_gets, cache_cleaned, cache_links}
use Rattle.pool_words.specs.Words.{cache_ages}
use Rattle.backend_bins.specs.Bin.{bin_course}
use Rattle.backend_bins.specs.Blocks.{bin_of}
use Rattle.backend_bins.specs.Cut.{back_call, cut_course, front_call}
use Rattle.backend_bins.specs.Scan.{step_course as scan_step, win_of}
use Rattle.backend_bins.specs.declared.bin.BinAt.{BinAt}
use Rattle.backend_bins.specs.declared.bin.BinCall.{BinCall}
use Rattle.backend_bins.specs.declared.cut.CutAt.{CutAt}
use Rattle.backend_bins.specs.declared.cut.CutCall.{CutCall}
use Rattle.backend_bins.specs.declared.scan.ScanAt.{ScanAt}
use Rattle.backend_bins.specs.declared.scan.ScanCall.{ScanCall}
use Rattle.backend_bins.specs.declared.scan.ScanStep.{ScanStep}
use Rattle.chain_words.specs.Pushing.{push_course}
use Rattle.chain_words.specs.declared.pushing.PushAt.{PushAt}
use Rattle.coalescer.specs.Drain.{drain_course, put_call as drained_put}
use Rattle.coalescer.specs.Put.{insert_call, left_win, push_call as queue_push, right_win, step_course as put_step}
use Rattle.coalescer.specs.Put.{unlink_call}
use Rattle.coalescer.specs.declared.drain.DrainAt.{DrainAt}
use Rattle.coalescer.specs.declared.drain.DrainCall.{DrainCall}
use Rattle.coalescer.specs.declared.put.PutAt.{PutAt}
use Rattle.coalescer.specs.declared.put.PutCall.{PutCall}
use Rattle.coalescer.specs.declared.put.PutStep.{PutStep}
use Rattle.guards.specs.Win.{guard_at, other_side, win_course}
use Rattle.guards.specs.declared.win.Side.{Side}
use Rattle.guards.specs.declared.win.WinAt.{WinAt}
use Rattle.guards.specs.declared.win.WinCall.{WinCall}
use Rattle.large_cache.specs.Get.{get_course, hit_course}
use Rattle.large_cache.specs.Keep.{keep_course}
use Rattle.large_cache.specs.List.{cut_behind}
use Rattle.large_cache.specs.Sweep.{judge_course, sweep_course}
use Rattle.large_cache.specs.Undo.{undo_course}
use Rattle.large_cache.specs.declared.get.CacheCall.{CacheCall}
use Rattle.large_cache.specs.declared.get.GetAt.{GetAt}
use Rattle.large_cache.specs.declared.get.HitAt.{HitAt}
use Rattle.large_cache.specs.declared.keep.KeepAt.{KeepAt}
use Rattle.large_cache.specs.declared.keep.KeepCall.{KeepCall}
use Rattle.large_cache.specs.declared.sweep.JudgeAt.{JudgeAt}
use Rattle.large_cache.specs.declared.sweep.SweepAt.{SweepAt}
use Rattle.large_cache.specs.declared.sweep.SweepCall.{SweepCall}
use Rattle.large_cache.specs.declared.undo.UndoAt.{UndoAt}
use Rattle.locked_chain.specs.Insert.{insert_course}
use Rattle.locked_chain.specs.Remove.{remove_course, skip_course}
use Rattle.locked_chain.specs.declared.insert.InsertAt.{InsertAt}
use Rattle.locked_chain.specs.declared.remove.RemoveAt.{RemoveAt}
use Rattle.reset_steps.specs.Clear.{clear_course, number_word}
use Rattle.reset_steps.specs.Unite.{unite_course, unite_win, unlink_call as unite_unlink}
use Rattle.reset_steps.specs.declared.clear.ClearAt.{ClearAt}
use Rattle.reset_steps.specs.declared.clear.ClearCall.{ClearCall}
use Rattle.reset_steps.specs.declared.clear.Number.{Number}
use Rattle.reset_steps.specs.declared.unite.UniteAt.{UniteAt}
use Rattle.reset_steps.specs.declared.unite.UniteCall.{UniteCall}
use Rattle.word_codes.specs.Links.{link_of}
use Rattle.step_local.specs.declared.frames.At.{At}
use Rattle.step_local.specs.declared.frames.LargeAt.{LargeAt}
use Rattle.step_local.specs.declared.frames.Local.{Local}
use Rattle.step_local.specs.declared.frames.ResetAt.{ResetAt}
use Rattle.step_local.specs.declared.frames.SmallAt.{SmallAt}
use Rattle.step_local.specs.Backend.{cut_call, drain_call, whole_call}
use Rattle.step_local.specs.Course.{course_at}
use Rattle.step_local.specs.Large.{cache_call, keep_call, sweep_call}
use Rattle.step_local.specs.Leaving.{put_call, scan_call}
use Rattle.step_local.specs.Resetting.{binning_call, clear_call, unite_call}
use Rattle.step_writes.specs.Kinds.{kinds_at, large_kinds, small_kinds}
use Rattle.step_writes.specs.Writings.{has_kind, share_kind, writes_one_of, writing_of}
use Rattle.step_writes.proofs.CallerLemmas.{other_jobs_leave_kinds}
use Rattle.step_locks.specs.Holdings.{Holding, no_lock, bin_lock, cache_lock}
use Rattle.step_locks.specs.Jobs.{bin_holds, scan_holds, cut_holds, put_holds, drain_holds, unite_holds, get_holds}
use Rattle.step_locks.specs.Jobs.{undo_holds, keep_holds, sweep_holds, clear_holds}
use Rattle.step_locks.specs.Positions.{holding_at}
use Rattle.step_locks.specs.UnderLocks.{IsUnderLock, WritesUnderLock, StepsWriteUnderLocks}

insert_under : (bin item : ℕ) (at : InsertAt)
    → WritesUnderLock (bin_lock bin) (insert_course (record { head = Word.BinHead bin; item = item }) at)
insert_under bin item InsertAt.Head = tt
insert_under bin item (InsertAt.Forward head) = (bin, refl)
insert_under bin item (InsertAt.Backward head) = (bin, refl)
insert_under bin item (InsertAt.OldBackward old) = (bin, refl)
insert_under bin item InsertAt.NewHead = refl

skip_under : (bin item forward : ℕ) (before : Option ℕ)
    → WritesUnderLock (bin_lock bin) (skip_course (record { head = Word.BinHead bin; item = item }) forward before)
skip_under bin item forward (Some before) = (bin, refl)
skip_under bin item forward None = refl

remove_under : (bin item : ℕ) (at : RemoveAt)
    → WritesUnderLock (bin_lock bin) (remove_course (record { head = Word.BinHead bin; item = item }) at)
remove_under bin item RemoveAt.Forward = tt
remove_under bin item (RemoveAt.Backward forward) = tt
remove_under bin item (RemoveAt.Skip forward backward) = skip_under bin item forward (link_of backward)
remove_under bin item (RemoveAt.SkipBack behind backward) = (bin, refl)

guard_under : (had : Holding) (c : WinCall) (side : Side) → IsUnderLock had (guard_at c side)
guard_under had c Side.Begin = tt
guard_under had c Side.End = tt

win_under : (had : Holding) (c : WinCall) (at : WinAt) → WritesUnderLock had (win_course c at)
win_under had c WinAt.First = guard_under had c c.first
win_under had c WinAt.Second = guard_under had c (other_side c.first)
win_under had c WinAt.Back = guard_under had c c.first

bin_under : (c : BinCall) (at : BinAt) → WritesUnderLock (bin_holds c at) (bin_course c at)
bin_under c (BinAt.Insert at) = insert_under (bin_of c.block.granules) c.block.first at
bin_under c (BinAt.Out at) = remove_under (bin_of c.block.granules) c.block.first at
bin_under c _ = tt

cut_under : (c : CutCall) (at : CutAt) → WritesUnderLock (cut_holds c at) (cut_course c at)
cut_under c (CutAt.Front at) = bin_under (front_call c) at
cut_under c (CutAt.Back at) = bin_under (back_call c) at
cut_under c _ = tt

scan_under : (c : ScanCall) (s : ScanAt) (step : ScanStep)
    → WritesUnderLock (scan_holds s.bin step) (scan_step c s step)
scan_under c s (ScanStep.Win b at) = win_under (bin_lock s.bin) (win_of b) at
scan_under c s (ScanStep.Out b at) = remove_under s.bin b.first at
scan_under c s _ = tt

push_under : (had : Holding) (p : PutAt) (at : PushAt) → WritesUnderLock had (push_course (queue_push p at) at)
push_under had p PushAt.Look = tt
push_under had p _ = tt

put_under : (c : PutCall) (p : PutAt) (step : PutStep) → WritesUnderLock (put_holds c p step) (put_step c p step)
put_under c p (PutStep.WinLeft granules at) = win_under _ (left_win p granules) at
put_under c p (PutStep.WinRight granules at) = win_under _ (right_win p granules) at
put_under c p (PutStep.UnlinkLeft neighbour at) = bin_under (unlink_call c neighbour) at
put_under c p (PutStep.UnlinkRight neighbour at) = bin_under (unlink_call c neighbour) at
put_under c p (PutStep.Queue at) = push_under _ p at
put_under c p (PutStep.Bin at) = bin_under (insert_call c p.block) at
put_under c p _ = tt

drain_under : (c : DrainCall) (at : DrainAt) → WritesUnderLock (drain_holds c at) (drain_course c at)
drain_under c (DrainAt.Put rest at) = put_under (drained_put c) at at.step
drain_under c _ = tt

unite_under : (c : UniteCall) (at : UniteAt) → WritesUnderLock (unite_holds c at) (unite_course c at)
unite_under c (UniteAt.Size first) = tt
unite_under c (UniteAt.Win b at) = win_under _ (unite_win b) at
unite_under c (UniteAt.Unlink b at) = bin_under (unite_unlink c b) at

hit_under : (c : CacheCall) (at : HitAt) → WritesUnderLock (cache_lock c.granules) (hit_course c at)
hit_under c (HitAt.Link items block) = tt
hit_under c (HitAt.Age items block link) = tt
hit_under c (HitAt.Mean items block link age) = tt
hit_under c (HitAt.Pop newest) = refl
hit_under c (HitAt.SetItems newest) = refl
hit_under c (HitAt.SetMean newest) = refl

get_under : (c : CacheCall) (at : GetAt) → WritesUnderLock (get_holds c.granules at) (get_course c at)
get_under c (GetAt.Hit at) = hit_under c at
get_under c (GetAt.SetThreshold cleaned) = refl
get_under c GetAt.ClearCleaned = refl
get_under c (GetAt.SetTime block) = refl
get_under c (GetAt.SetUsed block used) = refl
get_under c _ = tt

undo_under : (c : CacheCall) (at : UndoAt) → WritesUnderLock (undo_holds c.granules at) (undo_course c at)
undo_under c (UndoAt.SetUsed used) = refl
undo_under c _ = tt

cut_behind_under : (granules : ℕ) (kept : Option ℕ)
    → WritesUnderLock (cache_lock granules) (cut_behind granules kept)
cut_behind_under granules (Some kept) = (granules, refl)
cut_behind_under granules None = refl

keep_under : (c : KeepCall) (at : KeepAt) → WritesUnderLock (keep_holds c.granules at) (keep_course c at)
keep_under c (KeepAt.Cut tail age) = cut_behind_under c.granules tail.before
keep_under c (KeepAt.SetCleaned tail age) = refl
keep_under c (KeepAt.SetLink items head released) = (c.granules, refl)
keep_under c (KeepAt.SetAge items released) = (c.granules, refl)
keep_under c (KeepAt.SetHead items released) = refl
keep_under c (KeepAt.SetItems items released) = refl
keep_under c (KeepAt.SetUsed released used) = refl
keep_under c _ = tt

judge_under : (had : Holding) (granules : ℕ) (at : JudgeAt) → WritesUnderLock had (judge_course granules at)
judge_under had granules (JudgeAt.Threshold count) = tt
judge_under had granules _ = tt

sweep_under : (c : SweepCall) (at : SweepAt) → WritesUnderLock (sweep_holds c.granules at) (sweep_course c at)
sweep_under c (SweepAt.Judge at) = judge_under (cache_lock c.granules) c.granules at
sweep_under c (SweepAt.SetThreshold count threshold) = refl
sweep_under c (SweepAt.Cut walk) = cut_behind_under c.granules walk.kept
sweep_under c (SweepAt.SetItems walk) = refl
sweep_under c (SweepAt.SetCleaned walk) = refl
sweep_under c _ = tt

number_under : (number : Number) (granules : ℕ) → IsUnderLock (cache_lock granules) (number_word number granules)
number_under Number.Items granules = refl
number_under _ granules = refl

clear_under : (c : ClearCall) (at : ClearAt) → WritesUnderLock (clear_holds c.granules at) (clear_course c at)
clear_under c ClearAt.Cut = refl
clear_under c (ClearAt.Zero number) = number_under number c.granules
clear_under c _ = tt

-- the kinds of these words
abbrev under_kinds : List WordKind
under_kinds = bin_heads ∷ forwards ∷ backwards ∷ cache_heads ∷ cache_items ∷ cache_used ∷ cache_means
    ∷ cache_thresholds ∷ cache_gets ∷ cache_cleaned ∷ cache_links ∷ cache_ages ∷ []

word_apart : (had : Holding) (w : Word) → has_kind (kind_of_word w) under_kinds ≡ false → IsUnderLock had w
word_apart had (Word.BinHead bin) e = absurd (cc)
word_apart had (Word.Forward block) e = absurd (cc)
word_apart had (Word.Backward block) e = absurd (cc)
word_apart had (Word.CacheHead granules) e = absurd (cc)
word_apart had (Word.CacheItems granules) e = absurd (cc)
word_apart had (Word.CacheUsed granules) e = absurd (cc)
word_apart had (Word.CacheMean granules) e = absurd (cc)
word_apart had (Word.CacheThreshold granules) e = absurd (cc)
word_apart had (Word.CacheGet granules) e = absurd (cc)
word_apart had (Word.CacheCleaned granules) e = absurd (cc)
word_apart had (Word.CacheLink block) e = absurd (cc)
word_apart had (Word.CacheAge block) e = absurd (cc)
word_apart had _ e = tt

action_apart : (had : Holding) (action : Action) → writes_one_of under_kinds (writing_of action) ≡ false
    → WritesUnderLock had action
action_apart had (Load w) e = tt
action_apart had (Store w value) e = word_apart had w e
action_apart had (Swap w value) e = word_apart had w e
action_apart had (Exchange w from to) e = word_apart had w e
action_apart had (Add w value) e = word_apart had w e
action_apart had (TakeOffice job) e = tt
action_apart had GiveOffice e = tt
action_apart had Nothing e = tt

small_apart : (at : SmallAt) → share_kind under_kinds (small_kinds at) ≡ false
small_apart (SmallAt.Uncache slab) = refl
small_apart _ = refl

large_apart : (at : LargeAt) → share_kind under_kinds (large_kinds at) ≡ false
large_apart LargeAt.Tick = refl
large_apart _ = refl

abbrev IsAt : Local → At → Type 0
IsAt l at = WritesUnderLock (holding_at l at) (course_at l at)

job_apart : (l : Local) (at : At) (had : Holding) → share_kind under_kinds (kinds_at at) ≡ false
    → WritesUnderLock had (course_at l at)
job_apart l at had none = action_apart had (course_at l at) (other_jobs_leave_kinds l at under_kinds none)

reset_under : (l : Local) (at : ResetAt) → IsAt l (At.Reset at)
reset_under l (ResetAt.Clear granules at) = clear_under (clear_call l granules) at
reset_under l (ResetAt.Unite region at) = unite_under (unite_call l region) at
reset_under l (ResetAt.Bin at) = bin_under (binning_call l) at
reset_under l (ResetAt.Seek at) = tt
reset_under l (ResetAt.Strip slab at) = job_apart l (At.Reset (ResetAt.Strip slab at)) no_lock refl
reset_under l (ResetAt.Evict region at) = job_apart l (At.Reset (ResetAt.Evict region at)) no_lock refl
reset_under l (ResetAt.Unqueue at) = job_apart l (At.Reset (ResetAt.Unqueue at)) no_lock refl

under_at : (l : Local) (at : At) → IsAt l at
under_at l (At.Get at) = get_under (cache_call l) at
under_at l (At.Undo cause at) = undo_under (cache_call l) at
under_at l (At.Keep at) = keep_under (keep_call l) at
under_at l (At.Sweep at) = sweep_under (sweep_call l) at
under_at l (At.Scan at) = scan_under (scan_call l) at at.step
under_at l (At.Cut at) = cut_under (cut_call l) at
under_at l (At.Whole at) = bin_under (whole_call l) at
under_at l (At.Drain at) = drain_under (drain_call l) at
under_at l (At.Put at) = put_under (put_call l) at at.step
under_at l (At.Reset at) = reset_under l at
under_at l (At.Small at) = job_apart l (At.Small at) no_lock (small_apart at)
under_at l (At.Large at) = job_apart l (At.Large at) no_lock (large_apart at)
under_at l at = job_apart l at no_lock refl

pub steps_write_under_locks : StepsWriteUnderLocks
steps_write_under_locks l = under_at l l.at
