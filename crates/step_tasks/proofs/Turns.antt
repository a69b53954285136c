-- A turn that leaves no job of objects or mail undone goes on where a job begins.
use Rattle.std.proofs.Common.{◌≡◌, Bool, true, false}
use Rattle.pool_words.specs.declared.actions.Seen.{Seen}
use Rattle.pool_words.specs.Actions.{word_seen}
use Rattle.word_codes.specs.Links.{link_of}
use Rattle.backend_bins.specs.Bin.{bin_learn}
use Rattle.backend_bins.specs.Cut.{cut_learn}
use Rattle.backend_bins.specs.Scan.{scan_learn}
use Rattle.coalescer.specs.Drain.{drain_learn}
use Rattle.coalescer.specs.Put.{put_learn}
use Rattle.large_cache.specs.Get.{get_learn}
use Rattle.large_cache.specs.Keep.{keep_learn}
use Rattle.large_cache.specs.Sweep.{sweep_learn}
use Rattle.large_cache.specs.Undo.{undo_learn}
use Rattle.region_steps.specs.Office.{office_learn}
use Rattle.step_local.specs.declared.frames.At.{At}
use Rattle.step_local.specs.declared.frames.Local.{Local}
use Rattle.step_local.specs.Backend.{cut_call, drain_call, office_call, whole_call}
use Rattle.step_local.specs.Large.{sweep_call}
use Rattle.step_local.specs.Learn.{learn_at}
use Rattle.step_local.specs.Leaving.{put_call, scan_call}
use Rattle.step_tasks.specs.Lands.{Lands}
use Rattle.step_tasks.proofs.StartedBackend.{starts-cut_as, starts-drained_as, starts-office_as, starts-put_as}
use Rattle.step_tasks.proofs.StartedBackend.{starts-queue_as, starts-scanned_as, starts-whole_as}
use Rattle.step_tasks.proofs.StartedLarge.{starts-get_as, starts-keep_as, starts-locate_learn, starts-swept_as}
use Rattle.step_tasks.proofs.StartedLarge.{starts-undo_as}
use Rattle.step_tasks.proofs.StartedResets.{starts-reset_learn_of}
use Rattle.step_tasks.proofs.StartedSmall.{starts-adopt_learn_of, starts-leave_learn_of, starts-spare_learn_of}

-- the positions at which nothing of a job of objects or mail is done
abbrev pub is_other : At → Bool
is_other At.Idle = false
is_other (At.Look at) = false
is_other (At.End at) = false
is_other (At.Post at) = false
is_other (At.Mail at) = false
is_other (At.Mailbox at) = false
is_other (At.Join slab rest at) = false
is_other (At.Small at) = false
is_other (At.Large at) = false
is_other _ = true

pub job_turn : (l : Local) (at : At) (s : Seen) → is_other at ≡ true → Lands (learn_at l at s).0
job_turn l (At.Ready answer) s is = tt
job_turn l (At.Adopt at) s is = starts-adopt_learn_of l at (word_seen s)
job_turn l (At.Spare at) s is = starts-spare_learn_of l at (word_seen s)
job_turn l (At.Leave slab at) s is = starts-leave_learn_of l slab at (word_seen s)
job_turn l (At.Locate at) s is = starts-locate_learn l at (word_seen s)
job_turn l (At.Get at) s is = starts-get_as l at (get_learn at (word_seen s))
job_turn l (At.Undo cause at) s is = starts-undo_as l cause at (undo_learn at (word_seen s))
job_turn l (At.Keep at) s is = starts-keep_as l at (keep_learn at (word_seen s))
job_turn l (At.Sweep at) s is = starts-swept_as l at (sweep_learn (sweep_call l) at (word_seen s))
job_turn l (At.Scan at) s is = starts-scanned_as l at (scan_learn (scan_call l) at (word_seen s))
job_turn l (At.Cut at) s is = starts-cut_as l at (cut_learn (cut_call l) at (word_seen s))
job_turn l At.Queue s is = starts-queue_as l (link_of (word_seen s))
job_turn l (At.Whole at) s is = starts-whole_as l at (bin_learn (whole_call l) at (word_seen s))
job_turn l (At.Drain at) s is = starts-drained_as l at (drain_learn (drain_call l) at (word_seen s))
job_turn l (At.Put at) s is = starts-put_as l at (put_learn (put_call l) at (word_seen s))
job_turn l (At.Office job at) s is = starts-office_as l job at (office_learn (office_call l job) at s)
job_turn l (At.Reset at) s is = starts-reset_learn_of l at (word_seen s)
job_turn l _ s is = absurd (cc)
