-- What the next step of a seat writes is what its position says.
use Rattle.std.proofs.Common.{◌≡◌, refl}
use Rattle.step_local.specs.Answers.{end_call}
use Rattle.step_local.specs.Backend.{cut_call, drain_call, office_call, whole_call}
use Rattle.step_local.specs.Course.{large_course, locate_course, small_course}
use Rattle.step_local.specs.Large.{cache_call, keep_call, sweep_call}
use Rattle.step_local.specs.Leaving.{leave_call, put_call, scan_call}
use Rattle.step_local.specs.Objects.{look_call, mail_call, post_call}
use Rattle.step_local.specs.Resetting.{binning_call, clear_call, evict_call, reset_course, strip_call, unite_call}
use Rattle.step_local.specs.Slabs.{adopt_call, box_call, join_call, spare_call}
use Rattle.step_local.specs.declared.frames.At.{At}
use Rattle.step_local.specs.declared.frames.LargeAt.{LargeAt}
use Rattle.step_local.specs.declared.frames.Local.{Local}
use Rattle.step_local.specs.declared.frames.LocateAt.{LocateAt}
use Rattle.step_local.specs.declared.frames.ResetAt.{ResetAt}
use Rattle.step_local.specs.declared.frames.SmallAt.{SmallAt}
use Rattle.step_writes.specs.Laws.{EachStepWritesItsKind}
use Rattle.step_writes.specs.Positions.{small_writes, large_writes, reset_writes}
use Rattle.step_writes.specs.Writings.{writing_of, loads}
use Rattle.step_writes.proofs.Jobs.{look_job, end_job, post_job, join_job, box_job, mail_job, adopt_job, leave_job}
use Rattle.step_writes.proofs.Jobs.{bin_job, cut_job, scan_job, put_job, drain_job, office_job, get_job, undo_job}
use Rattle.step_writes.proofs.Jobs.{keep_job, sweep_job, strip_job, evict_job, clear_job, unqueue_job, unite_job}

locate_step : (at : LocateAt) → writing_of (locate_course at) ≡ loads
locate_step (LocateAt.Region slot) = refl
locate_step (LocateAt.Base slot region) = refl

small_step : (l : Local) (at : SmallAt) → writing_of (small_course l at) ≡ small_writes at
small_step l (SmallAt.Uncache slab) = refl
small_step l _ = refl

large_step : (l : Local) (at : LargeAt) → writing_of (large_course l at) ≡ large_writes at
large_step l LargeAt.Tick = refl
large_step l _ = refl

reset_step : (l : Local) (at : ResetAt) → writing_of (reset_course l at) ≡ reset_writes at
reset_step l (ResetAt.Strip slab at) = strip_job (strip_call l slab) at
reset_step l (ResetAt.Seek at) = refl
reset_step l (ResetAt.Evict region at) = evict_job (evict_call l region) at
reset_step l (ResetAt.Clear granules at) = clear_job (clear_call l granules) at
reset_step l (ResetAt.Unqueue at) = unqueue_job at
reset_step l (ResetAt.Unite region at) = unite_job (unite_call l region) at
reset_step l (ResetAt.Bin at) = bin_job (binning_call l) at

pub each_step_writes_its_kind : EachStepWritesItsKind
each_step_writes_its_kind l At.Idle = refl
each_step_writes_its_kind l (At.Ready answer) = refl
each_step_writes_its_kind l (At.Look at) = look_job (look_call l) at
each_step_writes_its_kind l (At.End at) = end_job (end_call l) at
each_step_writes_its_kind l (At.Post at) = post_job (post_call l) at
each_step_writes_its_kind l (At.Mail at) = mail_job (mail_call l) at
each_step_writes_its_kind l (At.Mailbox at) = box_job (box_call l at) at
each_step_writes_its_kind l (At.Adopt at) = adopt_job (adopt_call l) at
each_step_writes_its_kind l (At.Join slab rest at) = join_job (join_call l slab) at
each_step_writes_its_kind l (At.Spare at) = leave_job (spare_call l) at
each_step_writes_its_kind l (At.Leave slab at) = leave_job (leave_call l slab) at
each_step_writes_its_kind l (At.Locate at) = locate_step at
each_step_writes_its_kind l (At.Small at) = small_step l at
each_step_writes_its_kind l (At.Large at) = large_step l at
each_step_writes_its_kind l (At.Get at) = get_job (cache_call l) at
each_step_writes_its_kind l (At.Undo cause at) = undo_job (cache_call l) at
each_step_writes_its_kind l (At.Keep at) = keep_job (keep_call l) at
each_step_writes_its_kind l (At.Sweep at) = sweep_job (sweep_call l) at
each_step_writes_its_kind l (At.Scan at) = scan_job (scan_call l) at at.step
each_step_writes_its_kind l (At.Cut at) = cut_job (cut_call l) at
each_step_writes_its_kind l At.Queue = refl
each_step_writes_its_kind l (At.Whole at) = bin_job (whole_call l) at
each_step_writes_its_kind l (At.Drain at) = drain_job (drain_call l) at
each_step_writes_its_kind l (At.Put at) = put_job (put_call l) at at.step
each_step_writes_its_kind l (At.Office job at) = office_job (office_call l job) at
each_step_writes_its_kind l (At.Reset at) = reset_step l at
