-- What a turn makes of the heap of its seat, and of the number of its last grant, position by position.
use Rattle.std.proofs.Common.{◌+◌, ℕ, eqb, refl}
use Rattle.std.specs.Prelude.{None, Option, Some, ◌%◌, ◌^◌, ◌||◌}
use Rattle.pool_types.specs.Sums.{capped}
use Rattle.pool_words.specs.declared.actions.Seen.{Seen}
use Rattle.pool_words.specs.Actions.{word_seen}
use Rattle.backend_bins.specs.Bin.{bin_learn}
use Rattle.backend_bins.specs.Cut.{cut_learn}
use Rattle.backend_bins.specs.Scan.{scan_learn}
use Rattle.coalescer.specs.Drain.{drain_learn}
use Rattle.coalescer.specs.Put.{put_learn}
use Rattle.heap_slabs.specs.Cached.{surplus_of}
use Rattle.heap_slabs.specs.Rolls.{after_push, without_newest}
use Rattle.heap_slabs.specs.Slabs.{after_remove}
use Rattle.large_cache.specs.Get.{get_learn}
use Rattle.large_cache.specs.Keep.{keep_learn}
use Rattle.large_cache.specs.Sweep.{sweep_learn}
use Rattle.large_cache.specs.Undo.{undo_learn}
use Rattle.mailbox.specs.Boxes.{box_joined, box_taken}
use Rattle.mailbox.specs.Mailing.{mail_learn}
use Rattle.mailbox.specs.declared.boxes.BoxAt.{BoxAt}
use Rattle.mailbox.specs.declared.mailing.MailNext.{MailNext}
use Rattle.orphans.specs.Adopting.{adopt_learn}
use Rattle.orphans.specs.Leaving.{leave_learn}
use Rattle.orphans.specs.declared.adopting.AdoptNext.{AdoptNext}
use Rattle.orphans.specs.declared.leaving.LeaveNext.{LeaveNext}
use Rattle.public_list.specs.Ending.{end_learn}
use Rattle.public_list.specs.Joining.{join_learn}
use Rattle.public_list.specs.Looking.{look_learn}
use Rattle.public_list.specs.Posting.{post_learn}
use Rattle.public_list.specs.declared.ending.EndNext.{EndNext}
use Rattle.public_list.specs.declared.joining.JoinNext.{JoinNext}
use Rattle.public_list.specs.declared.looking.LookNext.{LookNext}
use Rattle.public_list.specs.declared.posting.PostNext.{PostNext}
use Rattle.region_steps.specs.Office.{office_learn}
use Rattle.word_codes.specs.Links.{link_of}
use Rattle.step_local.specs.declared.frames.At.{At}
use Rattle.step_local.specs.declared.frames.LargeAt.{LargeAt}
use Rattle.step_local.specs.declared.frames.Local.{Local}
use Rattle.step_local.specs.declared.frames.SmallAt.{SmallAt}
use Rattle.step_local.specs.Answers.{end_call, got, object_got}
use Rattle.step_local.specs.Backend.{cut_call, drain_call, office_call, whole_call}
use Rattle.step_local.specs.Large.{large_learn, sweep_call}
use Rattle.step_local.specs.Learn.{learn_at}
use Rattle.step_local.specs.Leaving.{left_as, put_call, scan_call, with_slabs}
use Rattle.step_local.specs.Objects.{end_as, look_call, looked_as, mail_as, post_as}
use Rattle.step_local.specs.Slabs.{adopted_as, box_learn_of, boxed_as, joined_as, slab_came}
use Rattle.step_local.specs.Slabs.{small_learn, with_joined, with_taken}
use Rattle.heap_tasks.specs.Heaps.{HeapIs, cached_left_at, cached_of, cached_small, kept_adopted, kept_boxed}
use Rattle.heap_tasks.specs.Heaps.{kept_ended, kept_joined, kept_left_at, kept_of, kept_parted, kept_small, last_large}
use Rattle.heap_tasks.specs.Heaps.{last_left_at, last_of, last_small}
use Rattle.heap_tasks.specs.Laws.{TurnsChangeHeaps}
use Rattle.heap_tasks.proofs.Kept.{Keeps}
use Rattle.heap_tasks.proofs.KeptBackend.{keeps-cut_as, keeps-drained_as, keeps-office_as, keeps-put_as}
use Rattle.heap_tasks.proofs.KeptBackend.{keeps-queue_as, keeps-scanned_as, keeps-whole_as}
use Rattle.heap_tasks.proofs.KeptLarge.{freed_own_turn, keeps-get_as, keeps-held, keeps-keep_as, keeps-locate_learn}
use Rattle.heap_tasks.proofs.KeptLarge.{keeps-swept_as, keeps-tick_at, keeps-undo_as}
use Rattle.heap_tasks.proofs.KeptResets.{reset_turn}
use Rattle.heap_tasks.proofs.KeptSmall.{keeps-emptied_at, keeps-fetched, keeps-got_after, keeps-leaving}
use Rattle.heap_tasks.proofs.KeptSmall.{keeps-lost_end, keeps-newest_given, keeps-slab_adopted, keeps-spare_learn_of}
use Rattle.heap_tasks.proofs.KeptSmall.{keeps-spared_on, keeps-surplus_left}

look_turn : (l : Local) (next : LookNext) → Keeps l (looked_as l next)
look_turn l (LookNext.Goes at) = (refl, refl, refl)
look_turn l (LookNext.Held unit mark kind base) =
    keeps-held (record l {
      call = record l.call { old = record l.call.old { unit = unit; mark = mark; kind = kind } };
    }) base
look_turn l LookNext.Differs = (refl, refl, refl)
look_turn l (LookNext.NotHeld found) = (refl, refl, refl)

end_turn : (l : Local) (next : EndNext) → HeapIs (end_as l next).0 (kept_ended l next) (cached_of l) (last_of l)
end_turn l (EndNext.Goes at) = (refl, refl, refl)
end_turn l EndNext.Own = freed_own_turn l
end_turn l EndNext.Other = (refl, refl, refl)
end_turn l EndNext.Large = (refl, refl, refl)
end_turn l (EndNext.NotHeld found) = keeps-lost_end l found

post_turn : (l : Local) (next : PostNext) → Keeps l (post_as l next)
post_turn l (PostNext.Goes at) = (refl, refl, refl)
post_turn l PostNext.Listed = (refl, refl, refl)
post_turn l PostNext.Owed = (refl, refl, refl)

mail_turn : (l : Local) (next : MailNext) → Keeps l (mail_as l next)
mail_turn l (MailNext.Goes at) = (refl, refl, refl)
mail_turn l MailNext.Mailed = (refl, refl, refl)

-- what comes by mail, and of orphans
came_turn : (l : Local) (slab : ℕ) (rest : Option ℕ) → Keeps l (slab_came l slab rest)
came_turn l slab (Some next) = (refl, refl, refl)
came_turn l slab None =
    keeps-fetched (record l { fetch = record l.fetch { came = l.fetch.came || eqb slab l.fetch.awaited } })

taken_turn : (l : Local) (one : Option ℕ) → Keeps l (boxed_as l (box_taken one))
taken_turn l (Some slab) = (refl, refl, refl)
taken_turn l None = keeps-fetched l

box_join_turn : (l : Local) (slab : ℕ) (rest : Option ℕ) (next : JoinNext)
    → HeapIs (boxed_as l (box_joined slab rest next)).0 (kept_joined l slab next) (cached_of l) (last_of l)
box_join_turn l slab rest (JoinNext.Goes at) = (refl, refl, refl)
box_join_turn l slab rest JoinNext.Nothing = came_turn l slab rest
box_join_turn l slab rest (JoinNext.Joined first count) = came_turn (with_joined l slab first count) slab rest

box_turn : (l : Local) (at : BoxAt) (f : ℕ)
    → HeapIs (box_learn_of l at f).0 (kept_boxed l at f) (cached_of l) (last_of l)
box_turn l BoxAt.Take f = taken_turn l (link_of f)
box_turn l (BoxAt.Next slab) f = (refl, refl, refl)
box_turn l (BoxAt.Settle slab rest) f = (refl, refl, refl)
box_turn l (BoxAt.Join slab rest at) f = box_join_turn l slab rest (join_learn at f)

join_turn : (l : Local) (slab : ℕ) (rest : Option ℕ) (next : JoinNext)
    → HeapIs (joined_as l slab rest next).0 (kept_joined l slab next) (cached_of l) (last_of l)
join_turn l slab rest (JoinNext.Goes at) = (refl, refl, refl)
join_turn l slab rest JoinNext.Nothing = keeps-slab_adopted l slab rest
join_turn l slab rest (JoinNext.Joined first count) = keeps-slab_adopted (with_joined l slab first count) slab rest

adopt_turn : (l : Local) (next : AdoptNext)
    → HeapIs (adopted_as l next).0 (kept_adopted l next) (cached_of l) (last_of l)
adopt_turn l (AdoptNext.Goes at) = (refl, refl, refl)
adopt_turn l AdoptNext.Empty = keeps-fetched l
adopt_turn l (AdoptNext.Adopted slab header rest) = (refl, refl, refl)
adopt_turn l (AdoptNext.Spared slab rest) =
    keeps-spared_on (record l { heap = record l.heap { spares = after_push l.heap.spares slab } }) rest

leave_turn : (l : Local) (slab : ℕ) (next : LeaveNext)
    → HeapIs (left_as l slab next).0 (kept_parted l slab next) (cached_of l) (last_of l)
leave_turn l slab (LeaveNext.Goes at) = (refl, refl, refl)
leave_turn l slab LeaveNext.Filled = (refl, refl, refl)
leave_turn l slab LeaveNext.Left =
    keeps-leaving (record l { heap = record l.heap { slabs = after_remove l.heap.slabs slab } })

-- the seat's next grant
got_turn : (l : Local) (unit : ℕ) → HeapIs (got l unit).0 (kept_of l) (cached_of l) (capped (last_of l + 1))
got_turn l unit = keeps-got_after (record l { last = capped (l.last + 1) }) (object_got l unit)

small_turn : (l : Local) (at : SmallAt) (f : ℕ)
    → HeapIs (small_learn l at f).0 (kept_small l at) (cached_small l at) (last_small l at)
small_turn l (SmallAt.Uncache slab) f = (refl, refl, refl)
small_turn l (SmallAt.Next slab) f = (refl, refl, refl)
small_turn l (SmallAt.Public slab) f = (refl, refl, refl)
small_turn l (SmallAt.Own slab) f = (refl, refl, refl)
small_turn l (SmallAt.Kind slab) f = (refl, refl, refl)
small_turn l (SmallAt.Behind slab head) f = (refl, refl, refl)
small_turn l (SmallAt.Private slab head below) f = got_turn (with_taken l slab below) head
small_turn l (SmallAt.Rest slab unit) f = got_turn (with_taken l slab None) unit
small_turn l (SmallAt.Empty slab) f =
    keeps-emptied_at (with_slabs l (after_remove l.heap.slabs slab)) slab l.call.stage
small_turn l (SmallAt.Cache slab) f = keeps-surplus_left (record l {
  heap = record l.heap { cached = after_push l.heap.cached slab };
  call = record l.call { surplus = surplus_of (after_push l.heap.cached slab) };
})
small_turn l (SmallAt.Oldest slab) f = (refl, refl, refl)
small_turn l (SmallAt.Newest slab) f =
    keeps-newest_given (record l { heap = record l.heap { cached = without_newest l.heap.cached } }) slab l.call.stage

large_turn : (l : Local) (at : LargeAt) (f : ℕ)
    → HeapIs (large_learn l at f).0 (kept_of l) (cached_of l) (last_large l at)
large_turn l LargeAt.Tick f =
    keeps-tick_at (record l { call = record l.call { time = (f + 1) % 2 ^ 64 } }) l.call.stage
large_turn l (LargeAt.Kind unit) f = (refl, refl, refl)
large_turn l (LargeAt.Grant unit) f = got_turn l unit

turn_at : (l : Local) (at : At) (s : Seen)
    → HeapIs (learn_at l at s).0 (kept_left_at l at (word_seen s)) (cached_left_at l at) (last_left_at l at)
turn_at l At.Idle s = (refl, refl, refl)
turn_at l (At.Ready answer) s = (refl, refl, refl)
turn_at l (At.Look at) s = look_turn l (look_learn (look_call l) at (word_seen s))
turn_at l (At.End at) s = end_turn l (end_learn (end_call l) at (word_seen s))
turn_at l (At.Post at) s = post_turn l (post_learn at (word_seen s))
turn_at l (At.Mail at) s = mail_turn l (mail_learn at (word_seen s))
turn_at l (At.Mailbox at) s = box_turn l at (word_seen s)
turn_at l (At.Adopt at) s = adopt_turn l (adopt_learn at (word_seen s))
turn_at l (At.Join slab rest at) s = join_turn l slab rest (join_learn at (word_seen s))
turn_at l (At.Spare at) s = keeps-spare_learn_of l at (word_seen s)
turn_at l (At.Leave slab at) s = leave_turn l slab (leave_learn at (word_seen s))
turn_at l (At.Locate at) s = keeps-locate_learn l at (word_seen s)
turn_at l (At.Small at) s = small_turn l at (word_seen s)
turn_at l (At.Large at) s = large_turn l at (word_seen s)
turn_at l (At.Get at) s = keeps-get_as l at (get_learn at (word_seen s))
turn_at l (At.Undo cause at) s = keeps-undo_as l cause at (undo_learn at (word_seen s))
turn_at l (At.Keep at) s = keeps-keep_as l at (keep_learn at (word_seen s))
turn_at l (At.Sweep at) s = keeps-swept_as l at (sweep_learn (sweep_call l) at (word_seen s))
turn_at l (At.Scan at) s = keeps-scanned_as l at (scan_learn (scan_call l) at (word_seen s))
turn_at l (At.Cut at) s = keeps-cut_as l at (cut_learn (cut_call l) at (word_seen s))
turn_at l At.Queue s = keeps-queue_as l (link_of (word_seen s))
turn_at l (At.Whole at) s = keeps-whole_as l at (bin_learn (whole_call l) at (word_seen s))
turn_at l (At.Drain at) s = keeps-drained_as l at (drain_learn (drain_call l) at (word_seen s))
turn_at l (At.Put at) s = keeps-put_as l at (put_learn (put_call l) at (word_seen s))
turn_at l (At.Office job at) s = keeps-office_as l job at (office_learn (office_call l job) at s)
turn_at l (At.Reset at) s = reset_turn l at (word_seen s)

pub turns_change_heaps : TurnsChangeHeaps
turns_change_heaps l s = turn_at l l.at s
