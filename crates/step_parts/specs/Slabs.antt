-- Slabs that begin and end, that go from keeper to keeper, and what was given back to them.
use Rattle.std.specs.Prelude.{ℕ, Option, Some, None}
use Rattle.pool_types.specs.declared.rows.Keeper.{Keeper}
use Rattle.size_classes.specs.Classes.{class_size}
use Rattle.part_model.specs.declared.holders.Holder.{Holder}
use Rattle.word_codes.specs.Links.{link_of}
use Rattle.word_codes.specs.Publics.{public_of}
use Rattle.word_codes.specs.declared.publics.Public.{Public}
use Rattle.chain_words.specs.declared.pushing.PushAt.{PushAt}
use Rattle.heap_slabs.specs.declared.records.HeapSlab.{HeapSlab}
use Rattle.heap_slabs.specs.Slabs.{record_at}
use Rattle.mailbox.specs.declared.boxes.BoxAt.{BoxAt}
use Rattle.orphans.specs.declared.adopting.AdoptAt.{AdoptAt}
use Rattle.orphans.specs.declared.leaving.LeaveAt.{LeaveAt}
use Rattle.public_list.specs.declared.joining.JoinAt.{JoinAt}
use Rattle.step_local.specs.declared.frames.Local.{Local}
use Rattle.step_local.specs.declared.frames.Served.{Served}
use Rattle.step_local.specs.declared.frames.SmallAt.{SmallAt}
use Rattle.word_parts.specs.declared.chains.Chain.{Chain}
use Rattle.word_parts.specs.declared.shifts.Moved.{Moved}
use Rattle.word_parts.specs.Shifts.{block_moved}
use Rattle.step_local.specs.Leaving.{slab_block}
use Rattle.step_parts.specs.Objects.{small_granted}

-- the block of a slab goes from one holder to another
abbrev pub slab_moved : ℕ → Holder → Holder → Moved
slab_moved slab from to = block_moved (slab_block slab) from to

-- a slab of the class that is served is begun
abbrev pub begun_as : ℕ → Served → Moved
begun_as slab (Served.Small class) = Moved.SlabBegun slab class
begun_as slab (Served.Large granules alignment) = Moved.Nothing

-- a slab that the heap keeps ends
abbrev pub ended_as : ℕ → Option HeapSlab → Moved
ended_as slab (Some kept) = Moved.SlabEnded slab kept.class kept.handed
ended_as slab None = Moved.Nothing

-- slabs that are begun, their objects that are granted, and slabs that end
abbrev pub small_moved : Local → SmallAt → Moved
small_moved l (SmallAt.Uncache slab) = slab_moved slab (Holder.SlabCache l.seat) (Holder.Hand l.seat)
small_moved l (SmallAt.Next slab) = Moved.Nothing
small_moved l (SmallAt.Public slab) = Moved.Nothing
small_moved l (SmallAt.Own slab) = Moved.Nothing
small_moved l (SmallAt.Kind slab) = begun_as slab l.call.served
small_moved l (SmallAt.Behind slab head) = Moved.Nothing
small_moved l (SmallAt.Private slab head below) = small_granted l head Holder.Private l.call.served
small_moved l (SmallAt.Rest slab unit) = small_granted l unit Holder.Rest l.call.served
small_moved l (SmallAt.Empty slab) = ended_as slab (record_at l.heap.slabs.records slab)
small_moved l (SmallAt.Cache slab) = slab_moved slab (Holder.Hand l.seat) (Holder.SlabCache l.seat)
small_moved l (SmallAt.Oldest slab) = slab_moved slab (Holder.SlabCache l.seat) (Holder.Hand l.seat)
small_moved l (SmallAt.Newest slab) = slab_moved slab (Holder.SlabCache l.seat) (Holder.Hand l.seat)

-- all that was given back to a slab of this class is taken
abbrev pub listed_as : ℕ → Public → Moved
listed_as class Public.Null = Moved.Nothing
listed_as class Public.Unusable = Moved.Nothing
listed_as class (Public.Filled unit) = Moved.Taken (Chain.Listed (class_size class)) (Some unit)

-- what was given back to a slab is joined
abbrev pub join_moved : Local → JoinAt → ℕ → Moved
join_moved l JoinAt.Take f = listed_as l.fetch.class (public_of f)
join_moved l (JoinAt.Walk first at count) f = Moved.Nothing
join_moved l (JoinAt.Tie first last count) f = Moved.Nothing

-- a mailbox is taken
abbrev pub box_moved : Local → BoxAt → ℕ → Moved
box_moved l BoxAt.Take f = Moved.Nothing
box_moved l (BoxAt.Next slab) f = Moved.Nothing
box_moved l (BoxAt.Settle slab rest) f = Moved.Nothing
box_moved l (BoxAt.Join slab rest at) f = join_moved l at f

-- orphans are taken, and adopted
abbrev pub adopt_moved : Local → AdoptAt → ℕ → Moved
adopt_moved l AdoptAt.Take f = Moved.Taken Chain.Orphans (link_of f)
adopt_moved l (AdoptAt.Header slab) f = Moved.Nothing
adopt_moved l (AdoptAt.Next slab header) f = Moved.Nothing
adopt_moved l (AdoptAt.Settle slab header rest) f = Moved.Nothing
adopt_moved l (AdoptAt.Own slab header rest) f = Moved.Kept slab (Keeper.Hand l.seat) (Keeper.Seat l.seat)
adopt_moved l (AdoptAt.Spare slab) f = Moved.Nothing

abbrev pub orphaned : ℕ → Keeper → PushAt → Moved
orphaned slab keeper PushAt.Look = Moved.Nothing
orphaned slab keeper (PushAt.Link found) = Moved.Nothing
orphaned slab keeper (PushAt.Exchange found) = Moved.Kept slab keeper Keeper.Orphan

-- a slab is left, or pushed back, by this keeper
abbrev pub leave_moved : ℕ → Keeper → LeaveAt → Moved
leave_moved slab keeper LeaveAt.Close = Moved.Nothing
leave_moved slab keeper LeaveAt.Header = Moved.Nothing
leave_moved slab keeper LeaveAt.Disown = Moved.Nothing
leave_moved slab keeper (LeaveAt.Push at) = orphaned slab keeper at
