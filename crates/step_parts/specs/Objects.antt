-- Objects that are granted, given up, or given back.
use Rattle.std.specs.Prelude.{ℕ, ◌+◌}
use Rattle.pool_types.specs.Sums.{capped}
use Rattle.pool_types.specs.declared.values.Grant.{Grant}
use Rattle.size_classes.specs.Classes.{class_size}
use Rattle.part_model.specs.declared.holders.Holder.{Holder}
use Rattle.word_codes.specs.declared.kinds.Kind.{Kind}
use Rattle.word_codes.specs.declared.marks.Mark.{Mark}
use Rattle.word_codes.specs.Marks.{mark_of}
use Rattle.chain_words.specs.declared.pushing.PushAt.{PushAt}
use Rattle.public_list.specs.declared.ending.EndAt.{EndAt}
use Rattle.public_list.specs.declared.posting.PostAt.{PostAt}
use Rattle.backend_bins.specs.Blocks.{block}
use Rattle.step_local.specs.declared.frames.Local.{Local}
use Rattle.step_local.specs.declared.frames.Object.{Object}
use Rattle.step_local.specs.declared.frames.Served.{Served}
use Rattle.step_local.specs.Answers.{ended_object}
use Rattle.word_parts.specs.declared.shifts.Moved.{Moved}
use Rattle.word_parts.specs.Shifts.{shift}

-- the bytes of an object of a slab
abbrev pub small_bytes : Kind → ℕ
small_bytes (Kind.Slab class) = class_size class
small_bytes Kind.Nothing = 0
small_bytes Kind.CachedSlab = 0
small_bytes (Kind.Large first granules) = 0

-- the seat's next grant
abbrev pub next_grant : Local → Grant
next_grant l = record { seat = l.seat; number = capped (l.last + 1) }

-- a small object goes from the grant of its mark to this holder
abbrev pub given_as : Object → Holder → Mark → Moved
given_as object to (Mark.Granted grant) =
    Moved.One (shift object.unit (small_bytes object.kind) (Holder.Object grant) to)
given_as object to Mark.Unmarked = Moved.Nothing
given_as object to (Mark.Hand seat) = Moved.Nothing
given_as object to (Mark.Link unit) = Moved.Nothing
given_as object to Mark.End = Moved.Nothing
given_as object to Mark.EndUnusable = Moved.Nothing

abbrev pub given_up : Object → Holder → Moved
given_up object to = given_as object to (mark_of object.mark)

abbrev pub large_ended_by : ℕ → Kind → Grant → Moved
large_ended_by unit (Kind.Large first granules) grant = Moved.Ended (block first granules) unit grant
large_ended_by unit Kind.Nothing grant = Moved.Nothing
large_ended_by unit (Kind.Slab class) grant = Moved.Nothing
large_ended_by unit Kind.CachedSlab grant = Moved.Nothing

-- a large object comes into the hand with its block
abbrev pub large_ended_as : Object → Mark → Moved
large_ended_as object (Mark.Granted grant) = large_ended_by object.unit object.kind grant
large_ended_as object Mark.Unmarked = Moved.Nothing
large_ended_as object (Mark.Hand seat) = Moved.Nothing
large_ended_as object (Mark.Link unit) = Moved.Nothing
large_ended_as object Mark.End = Moved.Nothing
large_ended_as object Mark.EndUnusable = Moved.Nothing

abbrev pub large_ended : Object → Moved
large_ended object = large_ended_as object (mark_of object.mark)

-- the grant of an object is ended
abbrev pub end_moved : Local → EndAt → Moved
end_moved l EndAt.Own = given_up (ended_object l) Holder.Private
end_moved l EndAt.Other = given_up (ended_object l) (Holder.Hand l.seat)
end_moved l EndAt.Large = large_ended (ended_object l)
end_moved l (EndAt.Lost mark) = Moved.Nothing

abbrev pub posted : Local → Object → PushAt → Moved
posted l object PushAt.Look = Moved.Nothing
posted l object (PushAt.Link found) = Moved.Nothing
posted l object (PushAt.Exchange found) =
    Moved.One (shift object.unit (small_bytes object.kind) (Holder.Hand l.seat) Holder.Public)

-- an object in hand is given back to a slab that another keeps
abbrev pub post_moved : Local → PostAt → Moved
post_moved l (PostAt.Push at) = posted l (ended_object l) at

-- a small object is granted, which was there until now
abbrev pub small_granted : Local → ℕ → Holder → Served → Moved
small_granted l unit from (Served.Small class) =
    Moved.One (shift unit (class_size class) from (Holder.Object (next_grant l)))
small_granted l unit from (Served.Large granules alignment) = Moved.Nothing

-- the large object of the block in hand is granted
abbrev pub large_granted : Local → ℕ → Moved
large_granted l unit = Moved.Granted l.call.block unit (next_grant l)
