-- What each turn leaves a seat to do with orphans, position by position.
use Rattle.std.proofs.Common.{◌≡◌, ◌+◌, ℕ, eqb, refl, sym, subst}
use Rattle.std.specs.Prelude.{None, Option, Some, ◌%◌, ◌^◌, ◌||◌}
use Rattle.pool_words.specs.declared.actions.Seen.{Seen}
use Rattle.pool_words.specs.Actions.{word_seen}
use Rattle.backend_bins.specs.Bin.{bin_learn}
use Rattle.backend_bins.specs.Cut.{cut_learn}
use Rattle.backend_bins.specs.Scan.{scan_learn}
use Rattle.coalescer.specs.Drain.{drain_learn}
use Rattle.coalescer.specs.Put.{put_learn}
use Rattle.heap_slabs.specs.Rolls.{without_newest}
use Rattle.heap_slabs.specs.Slabs.{after_remove}
use Rattle.large_cache.specs.Get.{get_learn}
use Rattle.large_cache.specs.Keep.{keep_learn}
use Rattle.large_cache.specs.Sweep.{sweep_learn}
use Rattle.large_cache.specs.Undo.{undo_learn}
use Rattle.mailbox.specs.declared.boxes.BoxNext.{BoxNext}
use Rattle.mailbox.specs.declared.mailing.MailNext.{MailNext}
use Rattle.mailbox.specs.Boxes.{box_learn}
use Rattle.mailbox.specs.Mailing.{mail_learn}
use Rattle.orphans.specs.Leaving.{leave_learn}
use Rattle.public_list.specs.declared.ending.EndNext.{EndNext}
use Rattle.public_list.specs.declared.looking.LookNext.{LookNext}
use Rattle.public_list.specs.declared.posting.PostNext.{PostNext}
use Rattle.public_list.specs.Ending.{end_learn}
use Rattle.public_list.specs.Looking.{look_learn}
use Rattle.public_list.specs.Posting.{post_learn}
use Rattle.region_steps.specs.Office.{office_learn}
use Rattle.reset_steps.specs.Clear.{clear_learn}
use Rattle.reset_steps.specs.Evict.{evict_learn}
use Rattle.reset_steps.specs.Seek.{seek_learn}
use Rattle.reset_steps.specs.Strip.{strip_learn}
use Rattle.reset_steps.specs.Unite.{unite_learn}
use Rattle.reset_steps.specs.Unqueue.{unqueue_learn}
use Rattle.word_codes.specs.Links.{link_of}
use Rattle.step_local.specs.declared.frames.At.{At}
use Rattle.step_local.specs.declared.frames.LargeAt.{LargeAt}
use Rattle.step_local.specs.declared.frames.Local.{Local}
use Rattle.step_local.specs.declared.frames.ResetAt.{ResetAt}
use Rattle.step_local.specs.declared.frames.SmallAt.{SmallAt}
use Rattle.step_local.specs.Answers.{end_call, got, lost_end}
use Rattle.step_local.specs.Backend.{cut_as, cut_call, drain_call, drained_as, office_as, office_call, put_as}
use Rattle.step_local.specs.Backend.{queue_as, scanned_as, whole_as, whole_call}
use Rattle.step_local.specs.Large.{get_as, keep_as, large_learn, locate_learn, sweep_call, swept_as, undo_as}
use Rattle.step_local.specs.Learn.{learn_at}
use Rattle.step_local.specs.Leaving.{put_call, scan_call, with_slabs}
use Rattle.step_local.specs.Objects.{end_as, look_call, looked_as, mail_as, post_as}
use Rattle.step_local.specs.Resetting.{binning_call, cleared_as, evict_call, evicting, reset_learn_of}
use Rattle.step_local.specs.Resetting.{sought_as, strip_call, unite_call, uniting, unqueuing}
use Rattle.step_local.specs.Slabs.{boxed_as, fetched, newest_given, slab_cached, slab_came, small_learn, with_joined}
use Rattle.step_local.specs.Slabs.{with_taken}
use Rattle.orphan_tasks.specs.Laws.{OrphanMoves, TurnsMoveOrphanTasks}
use Rattle.orphan_tasks.specs.Orphans.{orphan_left_at, reset_left, small_left, spares_left_at}
use Rattle.orphan_tasks.specs.Starts.{NoOrphans, OrphanFitsAt, OrphanStartsAt, ResetFits, SmallFits}
use Rattle.orphan_tasks.proofs.Moves.{done, ends}
use Rattle.orphan_tasks.proofs.OrphanTurns.{adopt_turn, bin_turn, emptied_turn, join_turn, leave_turn, spare_turn}
use Rattle.orphan_tasks.proofs.OrphanTurns.{strip_turn}
use Rattle.orphan_tasks.proofs.Started.{IsMoved, IsStarted, moves, none_behind}
use Rattle.orphan_tasks.proofs.StartedBackend.{starts-cut_as, starts-drained_as, starts-office_as, starts-put_as}
use Rattle.orphan_tasks.proofs.StartedBackend.{starts-queue_as, starts-scanned_as, starts-whole_as}
use Rattle.orphan_tasks.proofs.StartedLarge.{starts-freed_own, starts-get_as, starts-held, starts-keep_as}
use Rattle.orphan_tasks.proofs.StartedLarge.{starts-locate_learn, starts-swept_as, starts-tick_at, starts-undo_as}
use Rattle.orphan_tasks.proofs.StartedResets.{starts-cleared_as, starts-evicting, starts-sought_as, starts-uniting}
use Rattle.orphan_tasks.proofs.StartedResets.{starts-unqueuing}
use Rattle.orphan_tasks.proofs.StartedSmall.{starts-fetched, starts-got, starts-lost_end, starts-newest_given}
use Rattle.orphan_tasks.proofs.StartedSmall.{starts-slab_cached}

look_turn : (l : Local) (next : LookNext) → NoOrphans l.call.stage → IsStarted l (looked_as l next)
look_turn l (LookNext.Goes at) free = (free, refl)
look_turn l (LookNext.Held unit mark kind base) free =
    let l' : Local = record l {
      call = record l.call { old = record l.call.old { unit = unit; mark = mark; kind = kind } };
    } in
    starts-held l' base
look_turn l LookNext.Differs free = (tt, refl)
look_turn l (LookNext.NotHeld found) free = (tt, refl)

end_turn : (l : Local) (next : EndNext) → NoOrphans l.call.stage → IsMoved l (end_as l next)
end_turn l (EndNext.Goes at) free = (free, refl)
end_turn l EndNext.Own free = starts-freed_own l free
end_turn l EndNext.Other free = (free, refl)
end_turn l EndNext.Large free = (free, refl)
end_turn l (EndNext.NotHeld found) free = moves l l (lost_end l found) refl (starts-lost_end l found)

post_turn : (l : Local) (next : PostNext) → NoOrphans l.call.stage → IsStarted l (post_as l next)
post_turn l (PostNext.Goes at) free = (free, refl)
post_turn l PostNext.Listed free = (tt, refl)
post_turn l PostNext.Owed free = (free, refl)

mail_turn : (l : Local) (next : MailNext) → NoOrphans l.call.stage → IsStarted l (mail_as l next)
mail_turn l (MailNext.Goes at) free = (free, refl)
mail_turn l MailNext.Mailed free = (tt, refl)

-- a mailbox goes on to the slab behind
box_came : (l : Local) (slab : ℕ) (rest : Option ℕ) → NoOrphans l.call.stage → IsStarted l (slab_came l slab rest)
box_came l slab (Some next) free = (free, refl)
box_came l slab None free =
    let l' : Local = record l { fetch = record l.fetch { came = l.fetch.came || eqb slab l.fetch.awaited } } in
    starts-fetched l' (none_behind l.call.stage free)

box_turn : (l : Local) (next : BoxNext) → NoOrphans l.call.stage → IsMoved l (boxed_as l next)
box_turn l (BoxNext.Goes at) free = (free, refl)
box_turn l BoxNext.Empty free = moves l l (fetched l) refl (starts-fetched l (none_behind l.call.stage free))
box_turn l (BoxNext.Unchanged slab rest) free = moves l l (slab_came l slab rest) refl (box_came l slab rest free)
box_turn l (BoxNext.Joined slab first count rest) free =
    let l' : Local = with_joined l slab first count in
    moves l' l (slab_came l' slab rest) refl (box_came l' slab rest free)

large_turn : (l : Local) (at : LargeAt) (f : ℕ) → NoOrphans l.call.stage → IsStarted l (large_learn l at f)
large_turn l LargeAt.Tick f free =
    let l' : Local = record l { call = record l.call { time = (f + 1) % 2 ^ 64 } } in
    starts-tick_at l' l.call.stage free
large_turn l (LargeAt.Kind unit) f free = (free, refl)
large_turn l (LargeAt.Grant unit) f free = starts-got l unit

small_turn : (l : Local) (at : SmallAt) (f : ℕ) → SmallFits at l.call.stage
    → OrphanMoves (small_learn l at f).0 (small_left l at) l.heap.spares
small_turn l (SmallAt.Uncache slab) f fits = record { goes_on = fits; fits = fits; spares' = refl }
small_turn l (SmallAt.Next slab) f fits = record { goes_on = fits; fits = fits; spares' = refl }
small_turn l (SmallAt.Public slab) f fits = record { goes_on = fits; fits = fits; spares' = refl }
small_turn l (SmallAt.Own slab) f fits = record { goes_on = refl; fits = fits; spares' = refl }
small_turn l (SmallAt.Kind slab) f fits = record { goes_on = fits; fits = fits; spares' = refl }
small_turn l (SmallAt.Behind slab head) f fits = record { goes_on = fits; fits = fits; spares' = refl }
small_turn l (SmallAt.Private slab head below) f fits =
    let l' : Local = with_taken l slab below in
    done l (got l' head) (moves l' l (got l' head) refl (starts-got l' head))
small_turn l (SmallAt.Rest slab unit) f fits =
    let l' : Local = with_taken l slab None in
    done l (got l' unit) (moves l' l (got l' unit) refl (starts-got l' unit))
small_turn l (SmallAt.Empty slab) f fits =
    emptied_turn (with_slabs l (after_remove l.heap.slabs slab)) slab l.call.stage refl
small_turn l (SmallAt.Cache slab) f fits = done l (slab_cached l slab) (starts-slab_cached l slab fits)
small_turn l (SmallAt.Oldest slab) f fits = record { goes_on = fits; fits = fits; spares' = refl }
small_turn l (SmallAt.Newest slab) f fits =
    let l' : Local = record l { heap = record l.heap { cached = without_newest l.heap.cached } } in
    done l (newest_given l' slab l.call.stage)
    (moves l' l (newest_given l' slab l.call.stage) refl (starts-newest_given l' slab l.call.stage fits fits))

reset_turn : (l : Local) (at : ResetAt) (f : ℕ) → ResetFits at l.call.stage
    → OrphanMoves (reset_learn_of l at f).0 (reset_left l at f) l.heap.spares
reset_turn l (ResetAt.Strip slab at) f fits = strip_turn l slab (strip_learn (strip_call l slab) at f)
reset_turn l (ResetAt.Bin at) f fits = bin_turn l at (bin_learn (binning_call l) at f)
reset_turn l (ResetAt.Seek at) f fits =
    ends l (sought_as l at.seek (seek_learn at f)) (starts-sought_as l at.seek (seek_learn at f) fits)
reset_turn l (ResetAt.Evict region at) f fits =
    ends l (evicting l region (evict_learn (evict_call l region) at f))
    (starts-evicting l region (evict_learn (evict_call l region) at f) fits)
reset_turn l (ResetAt.Clear granules at) f fits =
    ends l (cleared_as l granules at (clear_learn at f)) (starts-cleared_as l granules at (clear_learn at f) fits)
reset_turn l (ResetAt.Unqueue at) f fits =
    ends l (unqueuing l (unqueue_learn at f)) (starts-unqueuing l (unqueue_learn at f) fits)
reset_turn l (ResetAt.Unite region at) f fits =
    ends l (uniting l region at (unite_learn (unite_call l region) at f))
    (starts-uniting l region at (unite_learn (unite_call l region) at f) fits)

turn_at : (l : Local) (at : At) (s : Seen) → l.at ≡ at → OrphanFitsAt at l.call.stage
    → OrphanMoves (learn_at l at s).0 (orphan_left_at l at (word_seen s)) (spares_left_at l at (word_seen s))
turn_at l At.Idle s here fits = record {
  goes_on = subst (λ at. OrphanStartsAt at l.call.stage) (sym here) fits;
  fits = subst (λ at. OrphanFitsAt at l.call.stage) (sym here) fits;
  spares' = refl;
}
turn_at l (At.Ready answer) s here fits = record { goes_on = tt; fits = tt; spares' = refl }
turn_at l (At.Look at) s here fits =
    let next : LookNext = look_learn (look_call l) at (word_seen s) in
    ends l (looked_as l next) (look_turn l next fits)
turn_at l (At.End at) s here fits =
    let next : EndNext = end_learn (end_call l) at (word_seen s) in done l (end_as l next) (end_turn l next fits)
turn_at l (At.Post at) s here fits =
    let next : PostNext = post_learn at (word_seen s) in ends l (post_as l next) (post_turn l next fits)
turn_at l (At.Mail at) s here fits =
    let next : MailNext = mail_learn at (word_seen s) in ends l (mail_as l next) (mail_turn l next fits)
turn_at l (At.Mailbox at) s here fits =
    let next : BoxNext = box_learn at (word_seen s) in done l (boxed_as l next) (box_turn l next fits)
turn_at l (At.Adopt at) s here fits = adopt_turn l at (word_seen s) fits
turn_at l (At.Join slab rest at) s here fits = join_turn l slab rest at (word_seen s)
turn_at l (At.Spare at) s here fits = spare_turn l (leave_learn at (word_seen s)) fits
turn_at l (At.Leave slab at) s here fits = leave_turn l slab (leave_learn at (word_seen s)) fits
turn_at l (At.Locate at) s here fits =
    ends l (locate_learn l at (word_seen s)) (starts-locate_learn l at (word_seen s) fits)
turn_at l (At.Small at) s here fits = small_turn l at (word_seen s) fits
turn_at l (At.Large at) s here fits = ends l (large_learn l at (word_seen s)) (large_turn l at (word_seen s) fits)
turn_at l (At.Get at) s here fits =
    ends l (get_as l at (get_learn at (word_seen s))) (starts-get_as l at (get_learn at (word_seen s)) fits)
turn_at l (At.Undo cause at) s here fits =
    ends l (undo_as l cause at (undo_learn at (word_seen s)))
    (starts-undo_as l cause at (undo_learn at (word_seen s)) fits)
turn_at l (At.Keep at) s here fits =
    ends l (keep_as l at (keep_learn at (word_seen s))) (starts-keep_as l at (keep_learn at (word_seen s)) fits)
turn_at l (At.Sweep at) s here fits =
    ends l (swept_as l at (sweep_learn (sweep_call l) at (word_seen s)))
    (starts-swept_as l at (sweep_learn (sweep_call l) at (word_seen s)) fits)
turn_at l (At.Scan at) s here fits =
    ends l (scanned_as l at (scan_learn (scan_call l) at (word_seen s)))
    (starts-scanned_as l at (scan_learn (scan_call l) at (word_seen s)) fits)
turn_at l (At.Cut at) s here fits =
    ends l (cut_as l (At.Cut at) (cut_learn (cut_call l) at (word_seen s)))
    (starts-cut_as l at (cut_learn (cut_call l) at (word_seen s)) fits)
turn_at l At.Queue s here fits =
    ends l (queue_as l (link_of (word_seen s))) (starts-queue_as l (link_of (word_seen s)) fits)
turn_at l (At.Whole at) s here fits =
    ends l (whole_as l at (bin_learn (whole_call l) at (word_seen s)))
    (starts-whole_as l at (bin_learn (whole_call l) at (word_seen s)) fits)
turn_at l (At.Drain at) s here fits =
    ends l (drained_as l (At.Drain at) (drain_learn (drain_call l) at (word_seen s)))
    (starts-drained_as l at (drain_learn (drain_call l) at (word_seen s)) fits)
turn_at l (At.Put at) s here fits =
    ends l (put_as l at (put_learn (put_call l) at (word_seen s)))
    (starts-put_as l at (put_learn (put_call l) at (word_seen s)) fits)
turn_at l (At.Office job at) s here fits =
    ends l (office_as l job at (office_learn (office_call l job) at s))
    (starts-office_as l job at (office_learn (office_call l job) at s) fits)
turn_at l (At.Reset at) s here fits = reset_turn l at (word_seen s) fits

pub turns_move_orphan_tasks : TurnsMoveOrphanTasks
turns_move_orphan_tasks l s fits = turn_at l l.at s refl fits
