-- A turn that is none of a job of the cache goes on where one may begin.
use Rattle.std.proofs.Common.{◌≡◌, ◌+◌, ℕ, eqb, refl, sym, subst}
use Rattle.std.specs.Prelude.{None, Option, Some, ◌%◌, ◌^◌, ◌||◌, ⊤}
use Rattle.pool_words.specs.declared.actions.Seen.{Seen}
use Rattle.pool_words.specs.Actions.{word_seen}
use Rattle.word_codes.specs.Links.{link_of}
use Rattle.backend_bins.specs.Bin.{bin_learn}
use Rattle.backend_bins.specs.Cut.{cut_learn}
use Rattle.backend_bins.specs.Scan.{scan_learn}
use Rattle.coalescer.specs.Drain.{drain_learn}
use Rattle.coalescer.specs.Put.{put_learn}
use Rattle.heap_slabs.specs.Rolls.{without_newest}
use Rattle.mailbox.specs.Boxes.{box_learn}
use Rattle.mailbox.specs.Mailing.{mail_learn}
use Rattle.mailbox.specs.declared.boxes.BoxNext.{BoxNext}
use Rattle.mailbox.specs.declared.mailing.MailNext.{MailNext}
use Rattle.public_list.specs.declared.ending.EndNext.{EndNext}
use Rattle.public_list.specs.declared.joining.JoinNext.{JoinNext}
use Rattle.public_list.specs.declared.looking.LookNext.{LookNext}
use Rattle.public_list.specs.declared.posting.PostNext.{PostNext}
use Rattle.public_list.specs.Ending.{end_learn}
use Rattle.public_list.specs.Joining.{join_learn}
use Rattle.public_list.specs.Looking.{look_learn}
use Rattle.public_list.specs.Posting.{post_learn}
use Rattle.region_steps.specs.Office.{office_learn}
use Rattle.step_local.specs.declared.frames.At.{At}
use Rattle.step_local.specs.declared.frames.LargeAt.{LargeAt}
use Rattle.step_local.specs.declared.frames.Local.{Local}
use Rattle.step_local.specs.declared.frames.SmallAt.{SmallAt}
use Rattle.step_local.specs.Answers.{end_call}
use Rattle.step_local.specs.Backend.{cut_call, drain_call, office_call, whole_call}
use Rattle.step_local.specs.Large.{large_learn}
use Rattle.step_local.specs.Learn.{learn_at}
use Rattle.step_local.specs.Leaving.{put_call, scan_call}
use Rattle.step_local.specs.Objects.{end_as, look_call, looked_as, mail_as, post_as}
use Rattle.step_local.specs.Slabs.{boxed_as, joined_as, slab_came}
use Rattle.step_local.specs.Slabs.{small_learn, with_joined, with_taken}
use Rattle.cache_tasks.specs.Cache.{CacheStartsAt}
use Rattle.cache_tasks.proofs.Started.{IsStarted, same}
use Rattle.cache_tasks.proofs.StartedBackend.{starts-cut_as, starts-drained_as, starts-office_as, starts-put_as}
use Rattle.cache_tasks.proofs.StartedBackend.{starts-queue_as, starts-scanned_as, starts-whole_as}
use Rattle.cache_tasks.proofs.StartedLarge.{starts-freed_own, starts-held, starts-locate_learn, starts-tick_at}
use Rattle.cache_tasks.proofs.StartedResets.{ClearsNone, starts-reset_learn_of}
use Rattle.cache_tasks.proofs.StartedSmall.{starts-adopt_learn_of, starts-fetched, starts-got, starts-leave_learn_of}
use Rattle.cache_tasks.proofs.StartedSmall.{starts-lost_end, starts-newest_given, starts-slab_adopted}
use Rattle.cache_tasks.proofs.StartedSmall.{starts-slab_cached, starts-slab_emptied, starts-spare_learn_of}

look_turn : (l : Local) (next : LookNext) → IsStarted l (looked_as l next)
look_turn l (LookNext.Goes at) = (tt, same l.released)
look_turn l (LookNext.Held unit mark kind base) = starts-held (record l {
  call = record l.call { old = record l.call.old { unit = unit; mark = mark; kind = kind } };
}) base
look_turn l LookNext.Differs = (tt, same l.released)
look_turn l (LookNext.NotHeld found) = (tt, same l.released)

end_turn : (l : Local) (next : EndNext) → IsStarted l (end_as l next)
end_turn l (EndNext.Goes at) = (tt, same l.released)
end_turn l EndNext.Own = starts-freed_own l
end_turn l EndNext.Other = (tt, same l.released)
end_turn l EndNext.Large = (tt, same l.released)
end_turn l (EndNext.NotHeld found) = starts-lost_end l found

post_turn : (l : Local) (next : PostNext) → IsStarted l (post_as l next)
post_turn l (PostNext.Goes at) = (tt, same l.released)
post_turn l PostNext.Listed = (tt, same l.released)
post_turn l PostNext.Owed = (tt, same l.released)

mail_turn : (l : Local) (next : MailNext) → IsStarted l (mail_as l next)
mail_turn l (MailNext.Goes at) = (tt, same l.released)
mail_turn l MailNext.Mailed = (tt, same l.released)

box_came : (l : Local) (slab : ℕ) (rest : Option ℕ) → IsStarted l (slab_came l slab rest)
box_came l slab (Some next) = (tt, same l.released)
box_came l slab None =
    starts-fetched (record l { fetch = record l.fetch { came = l.fetch.came || eqb slab l.fetch.awaited } })

box_turn : (l : Local) (next : BoxNext) → IsStarted l (boxed_as l next)
box_turn l (BoxNext.Goes at) = (tt, same l.released)
box_turn l BoxNext.Empty = starts-fetched l
box_turn l (BoxNext.Unchanged slab rest) = box_came l slab rest
box_turn l (BoxNext.Joined slab first count rest) = box_came (with_joined l slab first count) slab rest

join_turn : (l : Local) (slab : ℕ) (rest : Option ℕ) (next : JoinNext) → IsStarted l (joined_as l slab rest next)
join_turn l slab rest (JoinNext.Goes at) = (tt, same l.released)
join_turn l slab rest JoinNext.Nothing = starts-slab_adopted l slab rest
join_turn l slab rest (JoinNext.Joined first count) =
    starts-slab_adopted (with_joined l slab first count) slab rest

small_turn : (l : Local) (at : SmallAt) (f : ℕ) → IsStarted l (small_learn l at f)
small_turn l (SmallAt.Uncache slab) f = (tt, same l.released)
small_turn l (SmallAt.Next slab) f = (tt, same l.released)
small_turn l (SmallAt.Public slab) f = (tt, same l.released)
small_turn l (SmallAt.Own slab) f = (tt, same l.released)
small_turn l (SmallAt.Kind slab) f = (tt, same l.released)
small_turn l (SmallAt.Behind slab head) f = (tt, same l.released)
small_turn l (SmallAt.Private slab head below) f = starts-got (with_taken l slab below) head
small_turn l (SmallAt.Rest slab unit) f = starts-got (with_taken l slab None) unit
small_turn l (SmallAt.Empty slab) f = starts-slab_emptied l slab
small_turn l (SmallAt.Cache slab) f = starts-slab_cached l slab
small_turn l (SmallAt.Oldest slab) f = (tt, same l.released)
small_turn l (SmallAt.Newest slab) f =
    starts-newest_given (record l { heap = record l.heap { cached = without_newest l.heap.cached } }) slab l.call.stage

large_turn : (l : Local) (at : LargeAt) (f : ℕ) → IsStarted l (large_learn l at f)
large_turn l LargeAt.Tick f =
    starts-tick_at (record l { call = record l.call { time = (f + 1) % 2 ^ 64 } }) l.call.stage refl
large_turn l (LargeAt.Kind unit) f = (tt, same l.released)
large_turn l (LargeAt.Grant unit) f = starts-got l unit

-- the positions of no job of the cache, and of no clearing of its bins
abbrev pub IsOther : At → Type 0
IsOther (At.Get at) = ⊥
IsOther (At.Undo cause at) = ⊥
IsOther (At.Keep at) = ⊥
IsOther (At.Sweep at) = ⊥
IsOther (At.Reset at) = ClearsNone at
IsOther _ = ⊤

pub job_turn : (l : Local) (at : At) (s : Seen) → l.at ≡ at → IsOther at → IsStarted l (learn_at l at s)
job_turn l At.Idle s here other = (subst (CacheStartsAt l) (sym here) tt, same l.released)
job_turn l (At.Ready answer) s here other = (tt, same l.released)
job_turn l (At.Look at) s here other = look_turn l (look_learn (look_call l) at (word_seen s))
job_turn l (At.End at) s here other = end_turn l (end_learn (end_call l) at (word_seen s))
job_turn l (At.Post at) s here other = post_turn l (post_learn at (word_seen s))
job_turn l (At.Mail at) s here other = mail_turn l (mail_learn at (word_seen s))
job_turn l (At.Mailbox at) s here other = box_turn l (box_learn at (word_seen s))
job_turn l (At.Adopt at) s here other = starts-adopt_learn_of l at (word_seen s)
job_turn l (At.Join slab rest at) s here other = join_turn l slab rest (join_learn at (word_seen s))
job_turn l (At.Spare at) s here other = starts-spare_learn_of l at (word_seen s)
job_turn l (At.Leave slab at) s here other = starts-leave_learn_of l slab at (word_seen s)
job_turn l (At.Locate at) s here other = starts-locate_learn l at (word_seen s)
job_turn l (At.Small at) s here other = small_turn l at (word_seen s)
job_turn l (At.Large at) s here other = large_turn l at (word_seen s)
job_turn l (At.Scan at) s here other = starts-scanned_as l at (scan_learn (scan_call l) at (word_seen s))
job_turn l (At.Cut at) s here other = starts-cut_as l at (cut_learn (cut_call l) at (word_seen s))
job_turn l At.Queue s here other = starts-queue_as l (link_of (word_seen s))
job_turn l (At.Whole at) s here other = starts-whole_as l at (bin_learn (whole_call l) at (word_seen s))
job_turn l (At.Drain at) s here other = starts-drained_as l at (drain_learn (drain_call l) at (word_seen s))
job_turn l (At.Put at) s here other = starts-put_as l at (put_learn (put_call l) at (word_seen s))
job_turn l (At.Office job at) s here other = starts-office_as l job at (office_learn (office_call l job) at s)
job_turn l (At.Reset at) s here other = starts-reset_learn_of l at (word_seen s) other
job_turn l (At.Get at) s here other = absurd other
job_turn l (At.Undo cause at) s here other = absurd other
job_turn l (At.Keep at) s here other = absurd other
job_turn l (At.Sweep at) s here other = absurd other
