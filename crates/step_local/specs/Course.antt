-- The step that comes next.
use Rattle.std.specs.Prelude.{ℕ, Option, Some, None}
use Rattle.pool_words.specs.declared.words.Word.{Word}
use Rattle.pool_words.specs.declared.actions.Action.{Action}
use Rattle.pool_words.specs.declared.actions.Action.TheVariants.{Load, Store, Swap, Add, Nothing}
use Rattle.word_codes.specs.declared.kinds.Kind.{Kind}
use Rattle.word_codes.specs.declared.nexts.Next.{Next}
use Rattle.word_codes.specs.declared.owns.Own.{Own}
use Rattle.word_codes.specs.declared.publics.Public.{Public}
use Rattle.word_codes.specs.Kinds.{kind_word}
use Rattle.word_codes.specs.Nexts.{next_word}
use Rattle.word_codes.specs.Owns.{own_word}
use Rattle.word_codes.specs.Places.{granule_of}
use Rattle.word_codes.specs.Publics.{public_word}
use Rattle.backend_bins.specs.Bin.{bin_course}
use Rattle.backend_bins.specs.Cut.{cut_course}
use Rattle.backend_bins.specs.Scan.{scan_course}
use Rattle.coalescer.specs.Drain.{drain_course}
use Rattle.coalescer.specs.Put.{put_course}
use Rattle.large_cache.specs.Get.{get_course}
use Rattle.large_cache.specs.Keep.{keep_course}
use Rattle.large_cache.specs.Sweep.{sweep_course}
use Rattle.large_cache.specs.Undo.{undo_course}
use Rattle.mailbox.specs.Boxes.{box_course}
use Rattle.mailbox.specs.Mailing.{mail_course}
use Rattle.orphans.specs.Adopting.{adopt_course}
use Rattle.orphans.specs.Leaving.{leave_course}
use Rattle.public_list.specs.Ending.{end_course}
use Rattle.public_list.specs.Joining.{join_course}
use Rattle.public_list.specs.Looking.{look_course}
use Rattle.public_list.specs.Posting.{post_course}
use Rattle.region_steps.specs.Office.{office_course}
use Rattle.step_local.specs.declared.frames.At.{At}
use Rattle.step_local.specs.declared.frames.LargeAt.{LargeAt}
use Rattle.step_local.specs.declared.frames.Local.{Local}
use Rattle.step_local.specs.declared.frames.LocateAt.{LocateAt}
use Rattle.step_local.specs.declared.frames.SmallAt.{SmallAt}
use Rattle.step_local.specs.Answers.{end_call, next_mark, kind_got}
use Rattle.step_local.specs.Backend.{cut_call, whole_call, drain_call, office_call}
use Rattle.step_local.specs.Large.{cache_call, keep_call, sweep_call}
use Rattle.step_local.specs.Leaving.{leave_call, put_call, scan_call}
use Rattle.step_local.specs.Objects.{look_call, post_call, mail_call}
use Rattle.step_local.specs.Resetting.{reset_course}
use Rattle.step_local.specs.Slabs.{class_of_served, box_call, adopt_call, join_call, spare_call}

abbrev pub locate_course : LocateAt → Action
locate_course (LocateAt.Region slot) = Load (Word.Region slot)
locate_course (LocateAt.Base slot region) = Load (Word.Base slot)

abbrev pub small_course : Local → SmallAt → Action
small_course l (SmallAt.Uncache slab) = Store (Word.Kind slab) (kind_word Kind.Nothing)
small_course l (SmallAt.Next slab) =
    Store (Word.Next slab) (next_word (Next.Mailbox (record { seat = l.seat; class = class_of_served l.call.served })))
small_course l (SmallAt.Public slab) = Swap (Word.Public slab) (public_word Public.Null)
small_course l (SmallAt.Own slab) = Store (Word.Own slab) (own_word (Own.Kept l.seat))
small_course l (SmallAt.Kind slab) = Store (Word.Kind slab) (kind_word (Kind.Slab (class_of_served l.call.served)))
small_course l (SmallAt.Behind slab head) = Load (Word.Mark head)
small_course l (SmallAt.Private slab head below) = Store (Word.Mark head) (next_mark l)
small_course l (SmallAt.Rest slab unit) = Store (Word.Mark unit) (next_mark l)
small_course l (SmallAt.Empty slab) = Store (Word.Kind slab) (kind_word Kind.Nothing)
small_course l (SmallAt.Cache slab) = Store (Word.Kind slab) (kind_word Kind.CachedSlab)
small_course l (SmallAt.Oldest slab) = Store (Word.Kind slab) (kind_word Kind.Nothing)
small_course l (SmallAt.Newest slab) = Store (Word.Kind slab) (kind_word Kind.Nothing)

abbrev pub large_course : Local → LargeAt → Action
large_course l LargeAt.Tick = Add Word.Clock 1
large_course l (LargeAt.Kind unit) = Store (Word.Kind (granule_of unit)) (kind_word (kind_got l.call l.call.served))
large_course l (LargeAt.Grant unit) = Store (Word.Mark unit) (next_mark l)

abbrev pub course_at : Local → At → Action
course_at l At.Idle = Nothing
course_at l (At.Ready answer) = Nothing
course_at l (At.Look at) = look_course (look_call l) at
course_at l (At.End at) = end_course (end_call l) at
course_at l (At.Post at) = post_course (post_call l) at
course_at l (At.Mail at) = mail_course (mail_call l) at
course_at l (At.Mailbox at) = box_course (box_call l at) at
course_at l (At.Adopt at) = adopt_course (adopt_call l) at
course_at l (At.Join slab rest at) = join_course (join_call l slab) at
course_at l (At.Spare at) = leave_course (spare_call l) at
course_at l (At.Leave slab at) = leave_course (leave_call l slab) at
course_at l (At.Locate at) = locate_course at
course_at l (At.Small at) = small_course l at
course_at l (At.Large at) = large_course l at
course_at l (At.Get at) = get_course (cache_call l) at
course_at l (At.Undo cause at) = undo_course (cache_call l) at
course_at l (At.Keep at) = keep_course (keep_call l) at
course_at l (At.Sweep at) = sweep_course (sweep_call l) at
course_at l (At.Scan at) = scan_course (scan_call l) at
course_at l (At.Cut at) = cut_course (cut_call l) at
course_at l At.Queue = Load Word.Queue
course_at l (At.Whole at) = bin_course (whole_call l) at
course_at l (At.Drain at) = drain_course (drain_call l) at
course_at l (At.Put at) = put_course (put_call l) at
course_at l (At.Office job at) = office_course (office_call l job) at
course_at l (At.Reset at) = reset_course l at

-- the next action of a seat
abbrev pub course : Local → Action
course l = course_at l l.at
