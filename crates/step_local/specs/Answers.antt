-- The turns of a local, its objects, and how the ending of a grant begins and ends.
use Rattle.std.specs.Prelude.{ℕ, ◌+◌, ◌-◌, ◌*◌, ◌%◌, ◌^◌, cond, eqb, Option, Some, None, true, false, Bool}
use Rattle.pool_types.specs.Geometry.{unit_bytes}
use Rattle.pool_types.specs.Limits.{region_numbers}
use Rattle.pool_types.specs.declared.values.Answer.{Answer}
use Rattle.pool_types.specs.declared.values.Awaited.{Awaited}
use Rattle.pool_types.specs.declared.values.Found.{Found}
use Rattle.pool_types.specs.declared.values.Grant.{Grant}
use Rattle.pool_types.specs.declared.values.NullCause.{NullCause}
use Rattle.pool_types.specs.declared.values.Place.{Place}
use Rattle.pool_types.specs.declared.values.Request.{Request}
use Rattle.pool_types.specs.declared.values.Turn.{Turn}
use Rattle.size_classes.specs.Classes.{class_size}
use Rattle.word_codes.specs.declared.kinds.Kind.{Kind}
use Rattle.word_codes.specs.declared.marks.Mark.{Mark}
use Rattle.word_codes.specs.Marks.{mark_of, mark_word}
use Rattle.word_codes.specs.Places.{granule_of, slab_granule, granule_units}
use Rattle.word_codes.specs.RegionWords.{region_of, offset_of}
use Rattle.pool_types.specs.Sums.{capped}
use Rattle.heap_slabs.specs.declared.records.HeapSlab.{HeapSlab}
use Rattle.heap_slabs.specs.Slabs.{record_at}
use Rattle.public_list.specs.declared.ending.EndAt.{EndAt}
use Rattle.public_list.specs.declared.ending.EndCall.{EndCall}
use Rattle.step_local.specs.declared.frames.At.{At}
use Rattle.step_local.specs.declared.frames.Call.{Call}
use Rattle.step_local.specs.declared.frames.Local.{Local}
use Rattle.step_local.specs.declared.frames.Object.{Object}
use Rattle.step_local.specs.declared.frames.Served.{Served}
use Rattle.step_local.specs.declared.frames.Stage.{Stage}

-- the call goes on here
abbrev pub gone : Local → At → Local × Turn
gone l at = (record l { at = at }, Turn.Stepped)

-- the call waits, and this step is next
abbrev pub waiting : Local → At → Awaited → Local × Turn
waiting l at awaited = (record l { at = at }, Turn.Waits awaited)

-- another has this bin's lock
abbrev pub bin_waits : Local → At → ℕ → Local × Turn
bin_waits l at bin = waiting l at (Awaited.BinLock (bin % 2 ^ 16))

-- the call has its answer
abbrev pub answered : Local → Answer → Local × Turn
answered l answer = (record l { call = record l.call { stage = Stage.Idle }; at = At.Idle }, Turn.Done answer)

-- offsets in an answer are below this
abbrev pub offsets_end : ℕ
offsets_end = 2 ^ 27

-- the usable bytes of an object that begins at a unit: those of its class, or those up to its block's end
abbrev pub usable_of : Kind → ℕ → ℕ
usable_of (Kind.Slab class) unit = class_size class
usable_of (Kind.Large first granules) unit =
    capped ((capped (capped (first + granules) * granule_units) - unit) * unit_bytes)
usable_of Kind.Nothing unit = 0
usable_of Kind.CachedSlab unit = 0

abbrev pub grant_of : Mark → Grant
grant_of (Mark.Granted grant) = grant
grant_of Mark.Unmarked = record { seat = 0; number = 0 }
grant_of (Mark.Hand seat) = record { seat = 0; number = 0 }
grant_of (Mark.Link unit) = record { seat = 0; number = 0 }
grant_of Mark.End = record { seat = 0; number = 0 }
grant_of Mark.EndUnusable = record { seat = 0; number = 0 }

abbrev pub place_of : Local → Object → Place
place_of l object = record {
  pool = l.key.pool;
  region = object.number % region_numbers;
  offset = object.offset % offsets_end;
}

abbrev pub got_of : Local → Object → Answer
got_of l object =
    Answer.Got (place_of l object) (usable_of object.kind object.unit) (grant_of (mark_of object.mark))

-- what is answered where no object is held at the place
abbrev pub not_held_as : Request → Found → Answer
not_held_as (Request.Identify place) found = Answer.NoPool
not_held_as (Request.Malloc size) found = Answer.NotHeld found
not_held_as (Request.Aligned size alignment) found = Answer.NotHeld found
not_held_as (Request.Realloc place size) found = Answer.NotHeld found
not_held_as (Request.AlignedRealloc place size alignment) found = Answer.NotHeld found
not_held_as (Request.Free place) found = Answer.NotHeld found
not_held_as (Request.Msize place) found = Answer.NotHeld found
not_held_as Request.Exit found = Answer.NotHeld found

-- the first granule of the slab that a unit may be in
abbrev pub slab_of : ℕ → ℕ
slab_of unit = slab_granule (granule_of unit)

-- the object whose grant is ended
abbrev pub ended_at : Call → Stage → Object
ended_at c Stage.Undoing = c.new
ended_at c Stage.Idle = c.old
ended_at c Stage.Looking = c.old
ended_at c Stage.Getting = c.old
ended_at c Stage.Ending = c.old
ended_at c Stage.Replacing = c.old
ended_at c Stage.Leaving = c.old
ended_at c (Stage.Resetting stage) = c.old

abbrev pub ended_object : Local → Object
ended_object l = ended_at l.call l.call.stage

abbrev pub head_of : Option HeapSlab → Option ℕ
head_of (Some kept) = kept.head
head_of None = None

-- the newest private object of a slab that the heap keeps
abbrev pub head_at : Local → ℕ → Option ℕ
head_at l slab = head_of (record_at l.heap.slabs.records slab)

abbrev pub end_call_of : Local → Object → EndCall
end_call_of l object = record {
  unit = object.unit;
  mark = object.mark;
  number = object.number;
  seat = l.seat;
  head = head_at l (slab_of object.unit);
}

abbrev pub end_call : Local → EndCall
end_call l = end_call_of l (ended_object l)

-- an object in a slab is its heap's own, or another's
abbrev pub end_in : Option HeapSlab → EndAt
end_in (Some kept) = EndAt.Own
end_in None = EndAt.Other

abbrev pub end_by : Local → ℕ → Kind → EndAt
end_by l unit (Kind.Slab class) = end_in (record_at l.heap.slabs.records (slab_of unit))
end_by l unit (Kind.Large first granules) = EndAt.Large
end_by l unit Kind.Nothing = EndAt.Other
end_by l unit Kind.CachedSlab = EndAt.Other

abbrev pub ending_of : Local → Object → Local × Turn
ending_of l object = gone l (At.End (end_by l object.unit object.kind))

-- a grant is to be ended, at this stage of the call
abbrev pub ending : Local → Stage → Local × Turn
ending l stage =
    let l' : Local = record l { call = record l.call { stage = stage } } in ending_of l' (ended_object l')

-- the answer once the grant that the call asked to end is ended
abbrev pub freed_as : Request → Answer
freed_as (Request.Free place) = Answer.Freed
freed_as (Request.Malloc size) = Answer.Freed
freed_as (Request.Aligned size alignment) = Answer.Freed
freed_as (Request.Realloc place size) = Answer.Null NullCause.FreedByRealloc
freed_as (Request.AlignedRealloc place size alignment) = Answer.Null NullCause.FreedByRealloc
freed_as (Request.Msize place) = Answer.Freed
freed_as (Request.Identify place) = Answer.Freed
freed_as Request.Exit = Answer.Freed

abbrev pub ended_as : Local → Stage → Answer
ended_as l Stage.Replacing = got_of l l.call.new
ended_as l Stage.Undoing = Answer.NotHeld l.call.lost
ended_as l Stage.Ending = freed_as l.call.request
ended_as l Stage.Idle = Answer.Freed
ended_as l Stage.Looking = Answer.Freed
ended_as l Stage.Getting = Answer.Freed
ended_as l Stage.Leaving = Answer.Freed
ended_as l (Stage.Resetting stage) = Answer.Freed

-- a grant is ended, with all that follows
abbrev pub ended : Local → Local × Turn
ended l = answered l (ended_as l l.call.stage)

-- a grant could not be ended: where another object was got in its place, that one is given up
abbrev pub lost_at : Local → Found → Stage → Local × Turn
lost_at l found Stage.Replacing = ending (record l { call = record l.call { lost = found } }) Stage.Undoing
lost_at l found Stage.Undoing = answered l (Answer.NotHeld l.call.lost)
lost_at l found Stage.Ending = answered l (Answer.NotHeld found)
lost_at l found Stage.Idle = answered l (Answer.NotHeld found)
lost_at l found Stage.Looking = answered l (Answer.NotHeld found)
lost_at l found Stage.Getting = answered l (Answer.NotHeld found)
lost_at l found Stage.Leaving = answered l (Answer.NotHeld found)
lost_at l found (Stage.Resetting stage) = answered l (Answer.NotHeld found)

abbrev pub lost_end : Local → Found → Local × Turn
lost_end l found = lost_at l found l.call.stage

-- the mark of the seat's next grant
abbrev pub next_mark : Local → ℕ
next_mark l = mark_word (Mark.Granted (record { seat = l.seat; number = capped (l.last + 1) }))

-- what the object that is granted lies in
abbrev pub kind_got : Call → Served → Kind
kind_got c (Served.Small class) = Kind.Slab class
kind_got c (Served.Large granules alignment) = Kind.Large c.block.first c.block.granules

abbrev pub object_got : Local → ℕ → Object
object_got l unit = record {
  number = (region_of l.call.region).number;
  offset = offset_of (region_of l.call.region) unit;
  unit = unit;
  mark = next_mark l;
  kind = kind_got l.call l.call.served;
}

-- whether the request replaces an object
abbrev pub replaces : Request → Bool
replaces (Request.Realloc (Some place) size) = true
replaces (Request.Realloc None size) = false
replaces (Request.AlignedRealloc (Some place) size alignment) = true
replaces (Request.AlignedRealloc None size alignment) = false
replaces (Request.Malloc size) = false
replaces (Request.Aligned size alignment) = false
replaces (Request.Free place) = false
replaces (Request.Msize place) = false
replaces (Request.Identify place) = false
replaces Request.Exit = false

-- an object was granted: it is the answer, or takes another's place
abbrev pub got_after : Local → Object → Local × Turn
got_after l object = cond (replaces l.call.request)
    (ending (record l { call = record l.call { new = object } }) Stage.Replacing)
    (answered l (got_of l object))

abbrev pub got : Local → ℕ → Local × Turn
got l unit = got_after (record l { last = capped (l.last + 1) }) (object_got l unit)
