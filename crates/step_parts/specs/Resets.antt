-- What a reset moves.
use Rattle.std.specs.Prelude.{ℕ, Option, Some, None}
use Rattle.part_model.specs.declared.holders.Holder.{Holder}
use Rattle.word_codes.specs.declared.kinds.Kind.{Kind}
use Rattle.word_codes.specs.Links.{link_of}
use Rattle.heap_slabs.specs.Records.{unit_of}
use Rattle.heap_slabs.specs.Slabs.{record_at}
use Rattle.heap_slabs.specs.declared.records.HeapSlab.{HeapSlab}
use Rattle.reset_steps.specs.Evict.{unit_at}
use Rattle.reset_steps.specs.declared.clear.ClearAt.{ClearAt}
use Rattle.reset_steps.specs.declared.evict.EvictAt.{EvictAt}
use Rattle.reset_steps.specs.declared.strip.StripAt.{StripAt}
use Rattle.reset_steps.specs.declared.unite.UniteAt.{UniteAt}
use Rattle.reset_steps.specs.declared.unqueue.UnqueueAt.{UnqueueAt}
use Rattle.step_local.specs.declared.frames.Local.{Local}
use Rattle.step_local.specs.declared.frames.Object.{Object}
use Rattle.step_local.specs.declared.frames.ResetAt.{ResetAt}
use Rattle.word_parts.specs.declared.chains.Chain.{Chain}
use Rattle.word_parts.specs.declared.shifts.Moved.{Moved}
use Rattle.step_parts.specs.Backend.{bin_moved, win_moved}
use Rattle.step_parts.specs.Objects.{given_up, large_ended}

-- the object of a mark that begins in this unit and lies in this kind; where it is in its region is not asked
abbrev pub object_at : ℕ → ℕ → Kind → Object
object_at unit mark kind = record { number = 0; offset = 0; unit = unit; mark = mark; kind = kind }

-- an object of a slab that the heap keeps becomes private
abbrev pub freed_in : ℕ → ℕ → ℕ → Option HeapSlab → Moved
freed_in slab object mark (Some kept) =
    given_up (object_at (unit_of kept.slab kept.class object) mark (Kind.Slab kept.class)) Holder.Private
freed_in slab object mark None = Moved.Nothing

abbrev pub strip_moved : Local → ℕ → StripAt → Moved
strip_moved l slab (StripAt.Mark object) = Moved.Nothing
strip_moved l slab (StripAt.End object mark) = freed_in slab object mark (record_at l.heap.slabs.records slab)

-- a large object that is held comes into the hand with its block
abbrev pub evict_moved : EvictAt → Moved
evict_moved (EvictAt.Kind granule) = Moved.Nothing
evict_moved (EvictAt.Mark granule b line) = Moved.Nothing
evict_moved (EvictAt.End granule b line mark) =
    large_ended (object_at (unit_at granule line) mark (Kind.Large b.first b.granules))

-- all blocks of a cache bin come into the hand
abbrev pub clear_moved : ℕ → ClearAt → Moved
clear_moved granules (ClearAt.Peek number) = Moved.Nothing
clear_moved granules ClearAt.Lock = Moved.Nothing
clear_moved granules ClearAt.Head = Moved.Nothing
clear_moved granules (ClearAt.Link block) = Moved.Nothing
clear_moved granules ClearAt.Cut = Moved.Cut granules None
clear_moved granules (ClearAt.Zero number) = Moved.Nothing
clear_moved granules ClearAt.Unlock = Moved.Nothing

-- all blocks of the queue come into the hand
abbrev pub unqueue_moved : UnqueueAt → ℕ → Moved
unqueue_moved UnqueueAt.Take f = Moved.Taken Chain.Queued (link_of f)
unqueue_moved (UnqueueAt.Link first) f = Moved.Nothing

-- a block of a region comes out of its bin
abbrev pub unite_moved : ℕ → UniteAt → Moved
unite_moved seat (UniteAt.Size first) = Moved.Nothing
unite_moved seat (UniteAt.Win b at) = win_moved b seat at
unite_moved seat (UniteAt.Unlink b at) = Moved.Nothing

-- any step of a reset that calls do not make
abbrev pub reset_moved : Local → ResetAt → ℕ → Moved
reset_moved l (ResetAt.Strip slab at) f = strip_moved l slab at
reset_moved l (ResetAt.Seek at) f = Moved.Nothing
reset_moved l (ResetAt.Evict region at) f = evict_moved at
reset_moved l (ResetAt.Clear granules at) f = clear_moved granules at
reset_moved l (ResetAt.Unqueue at) f = unqueue_moved at f
reset_moved l (ResetAt.Unite region at) f = unite_moved l.seat at
reset_moved l (ResetAt.Bin at) f = bin_moved l.call.block l.seat at
