-- A turn of any other job leaves nothing of guards, of bins and of the queue under way.
use Rattle.std.proofs.Common.{◌≡◌, ◌+◌, ℕ, Bool, true, false, eqb}
use Rattle.std.specs.Prelude.{Option, Some, None, ◌%◌, ◌^◌, ◌||◌}
use Rattle.pool_words.specs.declared.actions.Seen.{Seen}
use Rattle.pool_words.specs.Actions.{word_seen}
use Rattle.word_codes.specs.Links.{link_of}
use Rattle.heap_slabs.specs.Rolls.{without_newest}
use Rattle.public_list.specs.declared.ending.EndNext.{EndNext}
use Rattle.public_list.specs.declared.joining.JoinNext.{JoinNext}
use Rattle.public_list.specs.declared.looking.LookNext.{LookNext}
use Rattle.public_list.specs.declared.posting.PostNext.{PostNext}
use Rattle.public_list.specs.Ending.{end_learn}
use Rattle.public_list.specs.Joining.{join_learn}
use Rattle.public_list.specs.Looking.{look_learn}
use Rattle.public_list.specs.Posting.{post_learn}
use Rattle.mailbox.specs.declared.boxes.BoxNext.{BoxNext}
use Rattle.mailbox.specs.declared.mailing.MailNext.{MailNext}
use Rattle.mailbox.specs.Boxes.{box_learn}
use Rattle.mailbox.specs.Mailing.{mail_learn}
use Rattle.large_cache.specs.Get.{get_learn}
use Rattle.large_cache.specs.Keep.{keep_learn}
use Rattle.large_cache.specs.Sweep.{sweep_learn}
use Rattle.large_cache.specs.Undo.{undo_learn}
use Rattle.step_local.specs.declared.frames.At.{At}
use Rattle.step_local.specs.declared.frames.LargeAt.{LargeAt}
use Rattle.step_local.specs.declared.frames.Local.{Local}
use Rattle.step_local.specs.declared.frames.SmallAt.{SmallAt}
use Rattle.step_local.specs.Answers.{end_call}
use Rattle.step_local.specs.Large.{large_learn, sweep_call}
use Rattle.step_local.specs.Learn.{learn_at}
use Rattle.step_local.specs.Objects.{end_as, look_call, looked_as, mail_as, post_as}
use Rattle.step_local.specs.Slabs.{boxed_as, joined_as, slab_came}
use Rattle.step_local.specs.Slabs.{small_learn, with_joined, with_taken}
use Rattle.backend_tasks.proofs.Bare.{IsBare}
use Rattle.backend_tasks.proofs.BareBackend.{bare-queue_as}
use Rattle.backend_tasks.proofs.BareLarge.{bare-freed_own, bare-get_as, bare-held, bare-keep_as, bare-locate_learn}
use Rattle.backend_tasks.proofs.BareLarge.{bare-swept_as, bare-tick_at, bare-undo_as}
use Rattle.backend_tasks.proofs.BareResets.{bare-reset_learn_of, is_apart}
use Rattle.backend_tasks.proofs.BareSmall.{bare-adopt_learn_of, bare-fetched, bare-got, bare-leave_learn_of}
use Rattle.backend_tasks.proofs.BareSmall.{bare-lost_end, bare-newest_given, bare-slab_adopted, bare-slab_cached}
use Rattle.backend_tasks.proofs.BareSmall.{bare-slab_emptied, bare-spare_learn_of}

look_turn : (l : Local) (next : LookNext) → IsBare (looked_as l next)
look_turn l (LookNext.Goes at) = tt
look_turn l (LookNext.Held unit mark kind base) =
    bare-held (record l {
      call = record l.call { old = record l.call.old { unit = unit; mark = mark; kind = kind } };
    }) base
look_turn l LookNext.Differs = tt
look_turn l (LookNext.NotHeld found) = tt

end_turn : (l : Local) (next : EndNext) → IsBare (end_as l next)
end_turn l (EndNext.Goes at) = tt
end_turn l EndNext.Own = bare-freed_own l
end_turn l EndNext.Other = tt
end_turn l EndNext.Large = tt
end_turn l (EndNext.NotHeld found) = bare-lost_end l found

post_turn : (l : Local) (next : PostNext) → IsBare (post_as l next)
post_turn l (PostNext.Goes at) = tt
post_turn l PostNext.Listed = tt
post_turn l PostNext.Owed = tt

mail_turn : (l : Local) (next : MailNext) → IsBare (mail_as l next)
mail_turn l (MailNext.Goes at) = tt
mail_turn l MailNext.Mailed = tt

box_came : (l : Local) (slab : ℕ) (rest : Option ℕ) → IsBare (slab_came l slab rest)
box_came l slab (Some next) = tt
box_came l slab None =
    bare-fetched (record l { fetch = record l.fetch { came = l.fetch.came || eqb slab l.fetch.awaited } })

box_turn : (l : Local) (next : BoxNext) → IsBare (boxed_as l next)
box_turn l (BoxNext.Goes at) = tt
box_turn l BoxNext.Empty = bare-fetched l
box_turn l (BoxNext.Unchanged slab rest) = box_came l slab rest
box_turn l (BoxNext.Joined slab first count rest) = box_came (with_joined l slab first count) slab rest

join_turn : (l : Local) (slab : ℕ) (rest : Option ℕ) (next : JoinNext) → IsBare (joined_as l slab rest next)
join_turn l slab rest (JoinNext.Goes at) = tt
join_turn l slab rest JoinNext.Nothing = bare-slab_adopted l slab rest
join_turn l slab rest (JoinNext.Joined first count) =
    bare-slab_adopted (with_joined l slab first count) slab rest

small_turn : (l : Local) (at : SmallAt) (f : ℕ) → IsBare (small_learn l at f)
small_turn l (SmallAt.Uncache slab) f = tt
small_turn l (SmallAt.Next slab) f = tt
small_turn l (SmallAt.Public slab) f = tt
small_turn l (SmallAt.Own slab) f = tt
small_turn l (SmallAt.Kind slab) f = tt
small_turn l (SmallAt.Behind slab head) f = tt
small_turn l (SmallAt.Private slab head below) f = bare-got (with_taken l slab below) head
small_turn l (SmallAt.Rest slab unit) f = bare-got (with_taken l slab None) unit
small_turn l (SmallAt.Empty slab) f = bare-slab_emptied l slab
small_turn l (SmallAt.Cache slab) f = bare-slab_cached l slab
small_turn l (SmallAt.Oldest slab) f = tt
small_turn l (SmallAt.Newest slab) f =
    bare-newest_given (record l { heap = record l.heap { cached = without_newest l.heap.cached } }) slab l.call.stage

large_turn : (l : Local) (at : LargeAt) (f : ℕ) → IsBare (large_learn l at f)
large_turn l LargeAt.Tick f =
    bare-tick_at (record l { call = record l.call { time = (f + 1) % 2 ^ 64 } }) l.call.stage
large_turn l (LargeAt.Kind unit) f = tt
large_turn l (LargeAt.Grant unit) f = bare-got l unit

-- the positions of these jobs
abbrev pub is_other : At → Bool
is_other At.Idle = false
is_other (At.Scan at) = false
is_other (At.Cut at) = false
is_other (At.Whole at) = false
is_other (At.Drain at) = false
is_other (At.Put at) = false
is_other (At.Office job at) = false
is_other (At.Reset at) = is_apart at
is_other _ = true

pub other_turn : (l : Local) (at : At) (s : Seen) → is_other at ≡ true → IsBare (learn_at l at s)
other_turn l (At.Ready answer) s is = tt
other_turn l (At.Look at) s is = look_turn l (look_learn (look_call l) at (word_seen s))
other_turn l (At.End at) s is = end_turn l (end_learn (end_call l) at (word_seen s))
other_turn l (At.Post at) s is = post_turn l (post_learn at (word_seen s))
other_turn l (At.Mail at) s is = mail_turn l (mail_learn at (word_seen s))
other_turn l (At.Mailbox at) s is = box_turn l (box_learn at (word_seen s))
other_turn l (At.Adopt at) s is = bare-adopt_learn_of l at (word_seen s)
other_turn l (At.Join slab rest at) s is = join_turn l slab rest (join_learn at (word_seen s))
other_turn l (At.Spare at) s is = bare-spare_learn_of l at (word_seen s)
other_turn l (At.Leave slab at) s is = bare-leave_learn_of l slab at (word_seen s)
other_turn l (At.Locate at) s is = bare-locate_learn l at (word_seen s)
other_turn l (At.Small at) s is = small_turn l at (word_seen s)
other_turn l (At.Large at) s is = large_turn l at (word_seen s)
other_turn l (At.Get at) s is = bare-get_as l at (get_learn at (word_seen s))
other_turn l (At.Undo cause at) s is = bare-undo_as l cause at (undo_learn at (word_seen s))
other_turn l (At.Keep at) s is = bare-keep_as l at (keep_learn at (word_seen s))
other_turn l (At.Sweep at) s is = bare-swept_as l at (sweep_learn (sweep_call l) at (word_seen s))
other_turn l At.Queue s is = bare-queue_as l (link_of (word_seen s))
other_turn l (At.Reset at) s is = bare-reset_learn_of l at (word_seen s) is
other_turn l _ s is = absurd (cc)
