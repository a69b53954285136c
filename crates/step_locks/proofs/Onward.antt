-- What a turn makes of the seat's lock, position by position.
use Rattle.std.proofs.Common.{◌≡◌, ℕ, refl, ap}
use Rattle.pool_words.specs.declared.actions.Seen.{Seen}
use Rattle.pool_words.specs.Actions.{word_seen}
use Rattle.word_codes.specs.Links.{link_of}
use Rattle.region_steps.specs.Office.{office_learn}
use Rattle.region_steps.specs.declared.office.OfficeAt.{OfficeAt}
use Rattle.region_steps.specs.declared.office.OfficeNext.{OfficeNext}
use Rattle.reset_steps.specs.Evict.{evict_learn}
use Rattle.reset_steps.specs.Seek.{seek_learn}
use Rattle.reset_steps.specs.Strip.{strip_learn}
use Rattle.reset_steps.specs.Unqueue.{unqueue_learn}
use Rattle.step_local.specs.declared.frames.At.{At}
use Rattle.step_local.specs.declared.frames.Local.{Local}
use Rattle.step_local.specs.declared.frames.OfficeFor.{OfficeFor}
use Rattle.step_local.specs.declared.frames.ResetAt.{ResetAt}
use Rattle.step_local.specs.Backend.{cut_as, cut_call, drain_call, drained_as, office_as}
use Rattle.step_local.specs.Backend.{office_call, put_as, scanned_as}
use Rattle.step_local.specs.Backend.{whole_as, whole_call}
use Rattle.step_local.specs.Leaving.{put_call, scan_call}
use Rattle.step_local.specs.Learn.{learn_at}
use Rattle.step_local.specs.Resetting.{binned_as, binning_call, evict_call, reset_learn_of, strip_call, unite_call}
use Rattle.step_local.specs.Resetting.{uniting}
use Rattle.step_locks.specs.Holdings.{after_change}
use Rattle.step_locks.specs.Laws.{TurnsChangeLocks, BeginsKeepLocks}
use Rattle.step_locks.specs.Positions.{change_at, holding_at, holding_of, reset_change, reset_holds}
use Rattle.step_locks.proofs.Begun.{begun_holds, reset_begun_holds}
use Rattle.step_locks.proofs.Free.{IsFree}
use Rattle.step_locks.proofs.FreeBackend.{free-asked, free-cutting, free-in_vain, free-office_left, free-put_done}
use Rattle.step_locks.proofs.FreeBackend.{free-queue_as}
use Rattle.step_locks.proofs.FreeLarge.{free-end_learn_of, free-large_learn, free-locate_learn, free-look_learn_of}
use Rattle.step_locks.proofs.FreeLarge.{free-mail_learn_of, free-post_learn_of}
use Rattle.step_locks.proofs.FreeResets.{free-binned_at, free-evicting, free-sought_as, free-stripped_as, free-united}
use Rattle.step_locks.proofs.FreeResets.{free-unqueuing}
use Rattle.step_locks.proofs.FreeSmall.{free-adopt_learn_of, free-box_learn_of, free-join_learn_of}
use Rattle.step_locks.proofs.FreeSmall.{free-leave_learn_of, free-small_learn, free-spare_learn_of}
use Rattle.step_locks.proofs.OnBins.{bin_onward, cut_onward, scan_onward, unite_onward}
use Rattle.step_locks.proofs.OnCaches.{clear_turn, get_turn, keep_turn, sweep_turn, undo_turn}
use Rattle.step_locks.proofs.OnPuts.{drain_onward, put_onward}

reset_turn : (l : Local) (at : ResetAt) (f : ℕ)
    → holding_of (reset_learn_of l at f).0 ≡ after_change (reset_change l at) f (reset_holds l at)
reset_turn l (ResetAt.Strip slab at) f = free-stripped_as l slab (strip_learn (strip_call l slab) at f)
reset_turn l (ResetAt.Seek at) f = free-sought_as l at.seek (seek_learn at f)
reset_turn l (ResetAt.Evict region at) f = free-evicting l region (evict_learn (evict_call l region) at f)
reset_turn l (ResetAt.Clear granules at) f = clear_turn l granules at f
reset_turn l (ResetAt.Unqueue at) f = free-unqueuing l (unqueue_learn at f)
reset_turn l (ResetAt.Unite region at) f =
    unite_onward (λ next. (uniting l region at next).0) (unite_call l region) (λ next. refl)
    (λ b. free-united l region at b) at f (λ bin. refl)
reset_turn l (ResetAt.Bin at) f =
    bin_onward (λ next. (binned_as l at next).0) (binning_call l) (λ next. refl) (free-binned_at l l.call.stage) at f
    refl

office_free : (l : Local) (job : OfficeFor) (at : OfficeAt) (next : OfficeNext) → IsFree (office_as l job at next)
office_free l job at (OfficeNext.Goes next) = refl
office_free l job at OfficeNext.Waits = refl
office_free l job at (OfficeNext.Left end) = free-office_left l job end

turn_at : (l : Local) (at : At) (s : Seen) → l.at ≡ at
    → holding_of (learn_at l at s).0 ≡ after_change (change_at l at) (word_seen s) (holding_at l at)
turn_at l At.Idle s here = ap (holding_at l) here
turn_at l (At.Ready answer) s here = refl
turn_at l (At.Look at) s here = free-look_learn_of l at (word_seen s)
turn_at l (At.End at) s here = free-end_learn_of l at (word_seen s)
turn_at l (At.Post at) s here = free-post_learn_of l at (word_seen s)
turn_at l (At.Mail at) s here = free-mail_learn_of l at (word_seen s)
turn_at l (At.Mailbox at) s here = free-box_learn_of l at (word_seen s)
turn_at l (At.Adopt at) s here = free-adopt_learn_of l at (word_seen s)
turn_at l (At.Join slab rest at) s here = free-join_learn_of l slab rest at (word_seen s)
turn_at l (At.Spare at) s here = free-spare_learn_of l at (word_seen s)
turn_at l (At.Leave slab at) s here = free-leave_learn_of l slab at (word_seen s)
turn_at l (At.Locate at) s here = free-locate_learn l at (word_seen s)
turn_at l (At.Small at) s here = free-small_learn l at (word_seen s)
turn_at l (At.Large at) s here = free-large_learn l at (word_seen s)
turn_at l (At.Get at) s here = get_turn l at (word_seen s)
turn_at l (At.Undo cause at) s here = undo_turn l cause at (word_seen s)
turn_at l (At.Keep at) s here = keep_turn l at (word_seen s)
turn_at l (At.Sweep at) s here = sweep_turn l at (word_seen s)
turn_at l (At.Scan at) s here =
    scan_onward (λ next. (scanned_as l at next).0) (scan_call l) (λ next. refl) (λ bin next. refl)
    (λ b. free-cutting l b) (λ seen. free-in_vain l seen l.ask.tries) at at.step (word_seen s) refl
turn_at l (At.Cut at) s here =
    cut_onward (λ next. (cut_as l (At.Cut at) next).0) (cut_call l) (λ next. refl) (free-asked l) at (word_seen s)
    (λ bin. refl)
turn_at l At.Queue s here = free-queue_as l (link_of (word_seen s))
turn_at l (At.Whole at) s here =
    bin_onward (λ next. (whole_as l at next).0) (whole_call l) (λ next. refl) refl at (word_seen s) refl
turn_at l (At.Drain at) s here =
    drain_onward (λ next. (drained_as l (At.Drain at) next).0) (drain_call l) (λ next. refl) refl (λ b rest. refl) at
    (word_seen s) (λ bin. refl)
turn_at l (At.Put at) s here =
    put_onward (λ next. (put_as l at next).0) (put_call l) (λ next. refl) (free-put_done l) (λ b. refl) at at.step
    (word_seen s) (λ bin. refl)
turn_at l (At.Office job at) s here = office_free l job at (office_learn (office_call l job) at s)
turn_at l (At.Reset at) s here = reset_turn l at (word_seen s)

pub turns_change_locks : TurnsChangeLocks
turns_change_locks l s = turn_at l l.at s refl

pub begins_keep_locks : BeginsKeepLocks
begins_keep_locks l = record { begins = begun_holds l; resets = reset_begun_holds l }
