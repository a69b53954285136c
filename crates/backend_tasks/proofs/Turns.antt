-- What each turn leaves to do, position by position.
use Rattle.std.proofs.Common.{◌≡◌, ◌∙◌, ℕ, refl, subst, sym}
use Rattle.std.specs.Prelude.{Option, Some, None}
use Rattle.pool_words.specs.declared.actions.Seen.{Seen}
use Rattle.pool_words.specs.Actions.{word_seen}
use Rattle.word_codes.specs.declared.region_words.RegionWord.{RegionWord}
use Rattle.backend_bins.specs.declared.bin.BinAt.{BinAt}
use Rattle.backend_bins.specs.declared.bin.BinNext.{BinNext}
use Rattle.backend_bins.specs.declared.cut.CutAt.{CutAt}
use Rattle.backend_bins.specs.declared.cut.CutNext.{CutNext}
use Rattle.backend_bins.specs.declared.scan.ScanAt.{ScanAt}
use Rattle.backend_bins.specs.declared.scan.ScanNext.{ScanNext}
use Rattle.backend_bins.specs.Bin.{bin_learn}
use Rattle.backend_bins.specs.Cut.{cut_learn}
use Rattle.backend_bins.specs.Scan.{scan_learn}
use Rattle.coalescer.specs.declared.drain.DrainAt.{DrainAt}
use Rattle.coalescer.specs.declared.drain.DrainNext.{DrainNext}
use Rattle.coalescer.specs.declared.put.PutAt.{PutAt}
use Rattle.coalescer.specs.declared.put.PutNext.{PutNext}
use Rattle.coalescer.specs.Drain.{drain_learn}
use Rattle.coalescer.specs.Put.{put_learn}
use Rattle.region_steps.specs.declared.office.OfficeAt.{OfficeAt}
use Rattle.region_steps.specs.declared.office.OfficeEnd.{OfficeEnd}
use Rattle.region_steps.specs.declared.office.OfficeNext.{OfficeNext}
use Rattle.region_steps.specs.Office.{office_learn}
use Rattle.reset_steps.specs.declared.unite.UniteAt.{UniteAt}
use Rattle.reset_steps.specs.declared.unite.UniteNext.{UniteNext}
use Rattle.reset_steps.specs.Unite.{unite_learn}
use Rattle.step_local.specs.declared.frames.At.{At}
use Rattle.step_local.specs.declared.frames.Local.{Local}
use Rattle.step_local.specs.declared.frames.OfficeFor.{OfficeFor}
use Rattle.step_local.specs.declared.frames.ResetAt.{ResetAt}
use Rattle.step_local.specs.Backend.{asked, cut_as, cut_call, cutting, drain_call, drained_as, drained_on, in_vain}
use Rattle.step_local.specs.Backend.{obtained_as, office_as, office_call, office_left, put_as, put_done, scanned_as}
use Rattle.step_local.specs.Backend.{whole_as, whole_call}
use Rattle.step_local.specs.Learn.{learn_at}
use Rattle.step_local.specs.Leaving.{put_call, scan_call}
use Rattle.step_local.specs.Resetting.{binned_as, binned_at, binning_call, unite_call, uniting}
use Rattle.guard_laws.specs.Blocks as guards
use Rattle.bin_laws.specs.Bins as bins
use Rattle.queue_laws.specs.Queue as queue
use Rattle.backend_tasks.specs.Bins.{bin_left_at, bin_task, bin_task_at, bin_task_of}
use Rattle.backend_tasks.specs.Guards.{GuardGoesOn, GuardStarts, guard_left_at, guard_task_at, guard_task_of}
use Rattle.backend_tasks.specs.Laws.{TurnsMoveBinTasks, TurnsMoveGuardTasks, TurnsMoveQueueTasks}
use Rattle.backend_tasks.specs.Queue.{QueueGoesOn, QueueStarts, drained, given_by, office_queue_left, queue_left_at}
use Rattle.backend_tasks.specs.Queue.{queue_task_at, queue_task_of}
use Rattle.backend_tasks.proofs.Bare.{guard_starts, no_bin_task, no_guard_task, queue_starts}
use Rattle.backend_tasks.proofs.BareBackend.{bare-asked, bare-cutting, bare-in_vain, bare-obtained_as, bare-put_done}
use Rattle.backend_tasks.proofs.BareResets.{bare-binned_at, bare-united}
use Rattle.backend_tasks.proofs.Cuts.{cut_guard_moves, cut_guard_then, cut_task_moves, cut_task_then}
use Rattle.backend_tasks.proofs.Cuts.{unite_guard_moves, unite_guard_then, unite_task_moves, unite_task_then}
use Rattle.backend_tasks.proofs.Drains.{drain_guard_moves, drain_guard_then, drain_queue_moves, drain_queue_then}
use Rattle.backend_tasks.proofs.Drains.{drain_task_moves, drain_task_then}
use Rattle.backend_tasks.proofs.GoesOn.{guard_from_away, guard_same, queue_from_away, queue_same}
use Rattle.backend_tasks.proofs.Jobs.{guard_moves, guard_then, task_moves, task_then}
use Rattle.backend_tasks.proofs.Opens.{put_guard_then, put_queue_then, put_task_then}
use Rattle.backend_tasks.proofs.Others.{other_turn}
use Rattle.backend_tasks.proofs.Puts.{put_guard_moves, put_queue_moves, put_task_moves}
use Rattle.backend_tasks.proofs.Scans.{scan_guard_moves, scan_guard_then, scan_task_moves, scan_task_then}

-- on guards
guard_is : (now left : guards.Task) → now ≡ left → GuardGoesOn now left
guard_is now left is = subst (GuardGoesOn now) is (guard_same now)

scan_guard_turn : (l : Local) (at : ScanAt) (next : ScanNext) (left : guards.Task)
    → GuardGoesOn (scan_guard_then at.step next) left → GuardGoesOn (guard_task_of (scanned_as l at next).0) left
scan_guard_turn l at (ScanNext.Goes next) left goes = goes
scan_guard_turn l at ScanNext.WaitsLock left goes = goes
scan_guard_turn l at (ScanNext.WaitsHalf bin again) left goes = goes
scan_guard_turn l at (ScanNext.Took b) left goes =
    guard_from_away (guard_task_of (cutting l b).0) left goes (guard_starts (cutting l b).0 (bare-cutting l b))
scan_guard_turn l at (ScanNext.Nothing seen) left goes =
    guard_from_away (guard_task_of (in_vain l seen l.ask.tries).0) left goes
    (guard_starts (in_vain l seen l.ask.tries).0 (bare-in_vain l seen l.ask.tries))

cut_guard_turn : (l : Local) (at : CutAt) (next : CutNext)
    → guard_task_of (cut_as l (At.Cut at) next).0 ≡ cut_guard_then (cut_call l) at next
cut_guard_turn l at (CutNext.Goes next) = refl
cut_guard_turn l at (CutNext.Waits bin) = refl
cut_guard_turn l at CutNext.Done = no_guard_task (asked l).0 (bare-asked l)

whole_guard_turn : (l : Local) (at : BinAt) (next : BinNext)
    → guard_task_of (whole_as l at next).0 ≡ guard_then l.ask.block at next
whole_guard_turn l at (BinNext.Goes next) = refl
whole_guard_turn l at BinNext.Waits = refl
whole_guard_turn l at BinNext.Done = refl

drain_guard_turn : (l : Local) (at : DrainAt) (next : DrainNext) (left : guards.Task)
    → GuardGoesOn (drain_guard_then at next) left → GuardGoesOn (guard_task_of (drained_as l (At.Drain at) next).0) left
drain_guard_turn l at (DrainNext.Goes next) left goes = goes
drain_guard_turn l at (DrainNext.Waits bin) left goes = goes
drain_guard_turn l at (DrainNext.Gives b rest) left goes = goes
drain_guard_turn l at DrainNext.Drained left goes = goes

put_guard_turn : (l : Local) (at : PutAt) (next : PutNext) (left : guards.Task)
    → GuardGoesOn (put_guard_then at at.step next) left → GuardGoesOn (guard_task_of (put_as l at next).0) left
put_guard_turn l at (PutNext.Goes next) left goes = goes
put_guard_turn l at (PutNext.Waits bin) left goes = goes
put_guard_turn l at PutNext.Done left goes =
    guard_from_away (guard_task_of (put_done l).0) left goes (guard_starts (put_done l).0 (bare-put_done l))
put_guard_turn l at (PutNext.Gives b) left goes = goes

on_guard : (l : Local) (rest : Option ℕ) → GuardStarts (guard_task_of (drained_on l rest).0)
on_guard l (Some first) = tt
on_guard l None = tt

left_guard : (l : Local) (job : OfficeFor) (end : OfficeEnd) → GuardStarts (guard_task_of (office_left l job end).0)
left_guard l OfficeFor.Ask end = guard_starts (obtained_as l end).0 (bare-obtained_as l end)
left_guard l (OfficeFor.Put first) end = guard_starts (put_done l).0 (bare-put_done l)
left_guard l (OfficeFor.Drain first rest) end = on_guard l rest

office_guard_turn : (l : Local) (job : OfficeFor) (at : OfficeAt) (next : OfficeNext)
    → GuardStarts (guard_task_of (office_as l job at next).0)
office_guard_turn l job at (OfficeNext.Goes next) = tt
office_guard_turn l job at OfficeNext.Waits = tt
office_guard_turn l job at (OfficeNext.Left end) = left_guard l job end

unite_guard_turn : (l : Local) (region : RegionWord) (at : UniteAt) (next : UniteNext) (left : guards.Task)
    → GuardGoesOn (unite_guard_then at next) left → GuardGoesOn (guard_task_of (uniting l region at next).0) left
unite_guard_turn l region at (UniteNext.Goes next) left goes = goes
unite_guard_turn l region at (UniteNext.Waits bin) left goes = goes
unite_guard_turn l region at (UniteNext.United b) left goes =
    guard_from_away (guard_task_of (uniting l region at (UniteNext.United b)).0) left goes
    (guard_starts (uniting l region at (UniteNext.United b)).0 (bare-united l region at b))

binned_guard_turn : (l : Local) (at : BinAt) (next : BinNext)
    → guard_task_of (binned_as l at next).0 ≡ guard_then l.call.block at next
binned_guard_turn l at (BinNext.Goes next) = refl
binned_guard_turn l at BinNext.Waits = refl
binned_guard_turn l at BinNext.Done =
    no_guard_task (binned_at l l.call.stage).0 (bare-binned_at l l.call.stage)

guard_turn_at : (l : Local) (at : At) (s : Seen) → l.at ≡ at
    → GuardGoesOn (guard_task_of (learn_at l at s).0) (guard_left_at l at (word_seen s))
guard_turn_at l At.Idle s here = subst (λ (at : At). GuardStarts (guard_task_at l at)) (sym here) tt
guard_turn_at l (At.Scan at) s here =
    scan_guard_turn l at (scan_learn (scan_call l) at (word_seen s)) (guard_left_at l (At.Scan at) (word_seen s))
    (scan_guard_moves (scan_call l) at at.step (word_seen s))
guard_turn_at l (At.Cut at) s here =
    guard_is (guard_task_of (learn_at l (At.Cut at) s).0) (guard_left_at l (At.Cut at) (word_seen s))
    (cut_guard_turn l at (cut_learn (cut_call l) at (word_seen s))
    ∙ cut_guard_moves (cut_call l) at (word_seen s))
guard_turn_at l (At.Whole at) s here =
    guard_is (guard_task_of (learn_at l (At.Whole at) s).0) (guard_left_at l (At.Whole at) (word_seen s))
    (whole_guard_turn l at (bin_learn (whole_call l) at (word_seen s))
    ∙ guard_moves (whole_call l) at (word_seen s))
guard_turn_at l (At.Drain at) s here =
    drain_guard_turn l at (drain_learn (drain_call l) at (word_seen s)) (guard_left_at l (At.Drain at) (word_seen s))
    (drain_guard_moves (drain_call l) at (word_seen s))
guard_turn_at l (At.Put at) s here =
    put_guard_turn l at (put_learn (put_call l) at (word_seen s)) (guard_left_at l (At.Put at) (word_seen s))
    (put_guard_moves (put_call l) at at.step (word_seen s))
guard_turn_at l (At.Office job at) s here = office_guard_turn l job at (office_learn (office_call l job) at s)
guard_turn_at l (At.Reset (ResetAt.Unite region at)) s here =
    unite_guard_turn l region at (unite_learn (unite_call l region) at (word_seen s))
    (guard_left_at l (At.Reset (ResetAt.Unite region at)) (word_seen s))
    (unite_guard_moves (unite_call l region) at (word_seen s))
guard_turn_at l (At.Reset (ResetAt.Bin at)) s here =
    guard_is (guard_task_of (learn_at l (At.Reset (ResetAt.Bin at)) s).0)
    (guard_left_at l (At.Reset (ResetAt.Bin at)) (word_seen s))
    (binned_guard_turn l at (bin_learn (binning_call l) at (word_seen s))
    ∙ guard_moves (binning_call l) at (word_seen s))
guard_turn_at l (At.Reset at) s here =
    guard_starts (learn_at l (At.Reset at) s).0 (other_turn l (At.Reset at) s refl)
guard_turn_at l at s here = guard_starts (learn_at l at s).0 (other_turn l at s refl)

pub turns_move_guard_tasks : TurnsMoveGuardTasks
turns_move_guard_tasks l s = guard_turn_at l l.at s refl

-- in bins
scan_task_turn : (l : Local) (at : ScanAt) (next : ScanNext)
    → bin_task_of (scanned_as l at next).0 ≡ scan_task_then at at.step next
scan_task_turn l at (ScanNext.Goes next) = refl
scan_task_turn l at ScanNext.WaitsLock = refl
scan_task_turn l at (ScanNext.WaitsHalf bin again) = refl
scan_task_turn l at (ScanNext.Took b) = no_bin_task (cutting l b).0 (bare-cutting l b)
scan_task_turn l at (ScanNext.Nothing seen) =
    no_bin_task (in_vain l seen l.ask.tries).0 (bare-in_vain l seen l.ask.tries)

cut_task_turn : (l : Local) (at : CutAt) (next : CutNext)
    → bin_task_of (cut_as l (At.Cut at) next).0 ≡ cut_task_then (cut_call l) at next
cut_task_turn l at (CutNext.Goes next) = refl
cut_task_turn l at (CutNext.Waits bin) = refl
cut_task_turn l at CutNext.Done = no_bin_task (asked l).0 (bare-asked l)

whole_task_turn : (l : Local) (at : BinAt) (next : BinNext)
    → bin_task_of (whole_as l at next).0 ≡ task_then (whole_call l) (bin_task (whole_call l) at) next
whole_task_turn l at (BinNext.Goes next) = refl
whole_task_turn l at BinNext.Waits = refl
whole_task_turn l at BinNext.Done = refl

drain_task_turn : (l : Local) (at : DrainAt) (next : DrainNext)
    → bin_task_of (drained_as l (At.Drain at) next).0 ≡ drain_task_then (drain_call l) at next
drain_task_turn l at (DrainNext.Goes next) = refl
drain_task_turn l at (DrainNext.Waits bin) = refl
drain_task_turn l at (DrainNext.Gives b rest) = refl
drain_task_turn l at DrainNext.Drained = refl

put_task_turn : (l : Local) (at : PutAt) (next : PutNext)
    → bin_task_of (put_as l at next).0 ≡ put_task_then (put_call l) at at.step next
put_task_turn l at (PutNext.Goes next) = refl
put_task_turn l at (PutNext.Waits bin) = refl
put_task_turn l at PutNext.Done = no_bin_task (put_done l).0 (bare-put_done l)
put_task_turn l at (PutNext.Gives b) = refl

on_task : (l : Local) (rest : Option ℕ) → bin_task_of (drained_on l rest).0 ≡ bins.Task.Away
on_task l (Some first) = refl
on_task l None = refl

left_task : (l : Local) (job : OfficeFor) (end : OfficeEnd)
    → bin_task_of (office_left l job end).0 ≡ bins.Task.Away
left_task l OfficeFor.Ask end = no_bin_task (obtained_as l end).0 (bare-obtained_as l end)
left_task l (OfficeFor.Put first) end = no_bin_task (put_done l).0 (bare-put_done l)
left_task l (OfficeFor.Drain first rest) end = on_task l rest

office_task_turn : (l : Local) (job : OfficeFor) (at : OfficeAt) (next : OfficeNext)
    → bin_task_of (office_as l job at next).0 ≡ bins.Task.Away
office_task_turn l job at (OfficeNext.Goes next) = refl
office_task_turn l job at OfficeNext.Waits = refl
office_task_turn l job at (OfficeNext.Left end) = left_task l job end

unite_task_turn : (l : Local) (region : RegionWord) (at : UniteAt) (next : UniteNext)
    → bin_task_of (uniting l region at next).0 ≡ unite_task_then (unite_call l region) at next
unite_task_turn l region at (UniteNext.Goes next) = refl
unite_task_turn l region at (UniteNext.Waits bin) = refl
unite_task_turn l region at (UniteNext.United b) =
    no_bin_task (uniting l region at (UniteNext.United b)).0 (bare-united l region at b)

binned_task_turn : (l : Local) (at : BinAt) (next : BinNext)
    → bin_task_of (binned_as l at next).0 ≡ task_then (binning_call l) (bin_task (binning_call l) at) next
binned_task_turn l at (BinNext.Goes next) = refl
binned_task_turn l at BinNext.Waits = refl
binned_task_turn l at BinNext.Done = no_bin_task (binned_at l l.call.stage).0 (bare-binned_at l l.call.stage)

task_turn_at : (l : Local) (at : At) (s : Seen) → l.at ≡ at
    → bin_task_of (learn_at l at s).0 ≡ bin_left_at l at (word_seen s)
task_turn_at l At.Idle s here = subst (λ (at : At). bin_task_at l at ≡ bins.Task.Away) (sym here) refl
task_turn_at l (At.Scan at) s here =
    scan_task_turn l at (scan_learn (scan_call l) at (word_seen s))
    ∙ scan_task_moves (scan_call l) at at.step (word_seen s)
task_turn_at l (At.Cut at) s here =
    cut_task_turn l at (cut_learn (cut_call l) at (word_seen s)) ∙ cut_task_moves (cut_call l) at (word_seen s)
task_turn_at l (At.Whole at) s here =
    whole_task_turn l at (bin_learn (whole_call l) at (word_seen s)) ∙ task_moves (whole_call l) at (word_seen s)
task_turn_at l (At.Drain at) s here =
    drain_task_turn l at (drain_learn (drain_call l) at (word_seen s))
    ∙ drain_task_moves (drain_call l) at (word_seen s)
task_turn_at l (At.Put at) s here =
    put_task_turn l at (put_learn (put_call l) at (word_seen s))
    ∙ put_task_moves (put_call l) at at.step (word_seen s)
task_turn_at l (At.Office job at) s here = office_task_turn l job at (office_learn (office_call l job) at s)
task_turn_at l (At.Reset (ResetAt.Unite region at)) s here =
    unite_task_turn l region at (unite_learn (unite_call l region) at (word_seen s))
    ∙ unite_task_moves (unite_call l region) at (word_seen s)
task_turn_at l (At.Reset (ResetAt.Bin at)) s here =
    binned_task_turn l at (bin_learn (binning_call l) at (word_seen s))
    ∙ task_moves (binning_call l) at (word_seen s)
task_turn_at l (At.Reset at) s here =
    no_bin_task (learn_at l (At.Reset at) s).0 (other_turn l (At.Reset at) s refl)
task_turn_at l at s here = no_bin_task (learn_at l at s).0 (other_turn l at s refl)

pub turns_move_bin_tasks : TurnsMoveBinTasks
turns_move_bin_tasks l s = task_turn_at l l.at s refl

-- at the queue
queue_is : (now left : queue.Task) → now ≡ left → QueueGoesOn now left
queue_is now left is = subst (QueueGoesOn now) is (queue_same now)

scan_queue_turn : (l : Local) (at : ScanAt) (next : ScanNext) → QueueStarts (queue_task_of (scanned_as l at next).0)
scan_queue_turn l at (ScanNext.Goes next) = tt
scan_queue_turn l at ScanNext.WaitsLock = tt
scan_queue_turn l at (ScanNext.WaitsHalf bin again) = tt
scan_queue_turn l at (ScanNext.Took b) = queue_starts (cutting l b).0 (bare-cutting l b)
scan_queue_turn l at (ScanNext.Nothing seen) =
    queue_starts (in_vain l seen l.ask.tries).0 (bare-in_vain l seen l.ask.tries)

cut_queue_turn : (l : Local) (at : CutAt) (next : CutNext)
    → QueueStarts (queue_task_of (cut_as l (At.Cut at) next).0)
cut_queue_turn l at (CutNext.Goes next) = tt
cut_queue_turn l at (CutNext.Waits bin) = tt
cut_queue_turn l at CutNext.Done = queue_starts (asked l).0 (bare-asked l)

whole_queue_turn : (l : Local) (at : BinAt) (next : BinNext) → QueueStarts (queue_task_of (whole_as l at next).0)
whole_queue_turn l at (BinNext.Goes next) = tt
whole_queue_turn l at BinNext.Waits = tt
whole_queue_turn l at BinNext.Done = tt

drain_queue_turn : (l : Local) (at : DrainAt) (next : DrainNext)
    → queue_task_of (drained_as l (At.Drain at) next).0 ≡ drain_queue_then at next
drain_queue_turn l at (DrainNext.Goes next) = refl
drain_queue_turn l at (DrainNext.Waits bin) = refl
drain_queue_turn l at (DrainNext.Gives b rest) = refl
drain_queue_turn l at DrainNext.Drained = refl

put_queue_turn : (l : Local) (at : PutAt) (next : PutNext) (left : queue.Task)
    → QueueGoesOn (put_queue_then at at.step next) left → QueueGoesOn (queue_task_of (put_as l at next).0) left
put_queue_turn l at (PutNext.Goes next) left goes = goes
put_queue_turn l at (PutNext.Waits bin) left goes = goes
put_queue_turn l at PutNext.Done left goes =
    queue_from_away (queue_task_of (put_done l).0) left goes (queue_starts (put_done l).0 (bare-put_done l))
put_queue_turn l at (PutNext.Gives b) left goes = goes

on_queue : (l : Local) (rest : Option ℕ) → queue_task_of (drained_on l rest).0 ≡ drained rest
on_queue l (Some first) = refl
on_queue l None = refl

given_turn : (l : Local) (first : ℕ) (rest : Option ℕ) (at : OfficeAt) (next : OfficeNext)
    → queue_task_of (office_as l (OfficeFor.Drain first rest) at next).0 ≡ given_by rest next
given_turn l first rest at (OfficeNext.Goes next) = refl
given_turn l first rest at OfficeNext.Waits = refl
given_turn l first rest at (OfficeNext.Left end) = on_queue l rest

asked_turn : (l : Local) (at : OfficeAt) (next : OfficeNext)
    → QueueStarts (queue_task_of (office_as l OfficeFor.Ask at next).0)
asked_turn l at (OfficeNext.Goes next) = tt
asked_turn l at OfficeNext.Waits = tt
asked_turn l at (OfficeNext.Left end) = queue_starts (obtained_as l end).0 (bare-obtained_as l end)

put_turn : (l : Local) (first : ℕ) (at : OfficeAt) (next : OfficeNext)
    → QueueStarts (queue_task_of (office_as l (OfficeFor.Put first) at next).0)
put_turn l first at (OfficeNext.Goes next) = tt
put_turn l first at OfficeNext.Waits = tt
put_turn l first at (OfficeNext.Left end) = queue_starts (put_done l).0 (bare-put_done l)

office_queue_turn : (l : Local) (job : OfficeFor) (at : OfficeAt) (next : OfficeNext)
    → QueueGoesOn (queue_task_of (office_as l job at next).0) (office_queue_left job next)
office_queue_turn l OfficeFor.Ask at next = asked_turn l at next
office_queue_turn l (OfficeFor.Put first) at next = put_turn l first at next
office_queue_turn l (OfficeFor.Drain first rest) at next =
    queue_is (queue_task_of (office_as l (OfficeFor.Drain first rest) at next).0) (given_by rest next)
    (given_turn l first rest at next)

unite_queue_turn : (l : Local) (region : RegionWord) (at : UniteAt) (next : UniteNext)
    → QueueStarts (queue_task_of (uniting l region at next).0)
unite_queue_turn l region at (UniteNext.Goes next) = tt
unite_queue_turn l region at (UniteNext.Waits bin) = tt
unite_queue_turn l region at (UniteNext.United b) =
    queue_starts (uniting l region at (UniteNext.United b)).0 (bare-united l region at b)

binned_queue_turn : (l : Local) (at : BinAt) (next : BinNext) → QueueStarts (queue_task_of (binned_as l at next).0)
binned_queue_turn l at (BinNext.Goes next) = tt
binned_queue_turn l at BinNext.Waits = tt
binned_queue_turn l at BinNext.Done = queue_starts (binned_at l l.call.stage).0 (bare-binned_at l l.call.stage)

queue_turn_at : (l : Local) (at : At) (s : Seen) → l.at ≡ at
    → QueueGoesOn (queue_task_of (learn_at l at s).0) (queue_left_at l at s)
queue_turn_at l At.Idle s here = subst (λ (at : At). QueueStarts (queue_task_at l at)) (sym here) tt
queue_turn_at l (At.Scan at) s here = scan_queue_turn l at (scan_learn (scan_call l) at (word_seen s))
queue_turn_at l (At.Cut at) s here = cut_queue_turn l at (cut_learn (cut_call l) at (word_seen s))
queue_turn_at l (At.Whole at) s here = whole_queue_turn l at (bin_learn (whole_call l) at (word_seen s))
queue_turn_at l (At.Drain at) s here =
    queue_is (queue_task_of (learn_at l (At.Drain at) s).0) (queue_left_at l (At.Drain at) s)
    (drain_queue_turn l at (drain_learn (drain_call l) at (word_seen s))
    ∙ drain_queue_moves (drain_call l) at (word_seen s))
queue_turn_at l (At.Put at) s here =
    put_queue_turn l at (put_learn (put_call l) at (word_seen s)) (queue_left_at l (At.Put at) s)
    (put_queue_moves (put_call l) at at.step (word_seen s))
queue_turn_at l (At.Office job at) s here = office_queue_turn l job at (office_learn (office_call l job) at s)
queue_turn_at l (At.Reset (ResetAt.Unite region at)) s here =
    unite_queue_turn l region at (unite_learn (unite_call l region) at (word_seen s))
queue_turn_at l (At.Reset (ResetAt.Bin at)) s here =
    binned_queue_turn l at (bin_learn (binning_call l) at (word_seen s))
queue_turn_at l (At.Reset at) s here =
    queue_starts (learn_at l (At.Reset at) s).0 (other_turn l (At.Reset at) s refl)
queue_turn_at l at s here = queue_starts (learn_at l at s).0 (other_turn l at s refl)

pub turns_move_queue_tasks : TurnsMoveQueueTasks
turns_move_queue_tasks l s = queue_turn_at l l.at s refl
