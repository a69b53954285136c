-- How a heap gives up what it keeps, and what asks the backend and puts blocks begin with.
use Rattle.std.specs.Prelude.{ℕ, ◌*◌, false, true, Option, Some, None, not, ◌&&◌, Bool}
use Rattle.pool_types.specs.Geometry.{slab_granules}
use Rattle.pool_types.specs.declared.values.Answer.{Answer}
use Rattle.pool_types.specs.declared.values.Turn.{Turn}
use Rattle.pool_words.specs.declared.words.Key.{Key}
use Rattle.backend_bins.specs.declared.blocks.Block.{Block}
use Rattle.backend_bins.specs.declared.blocks.Want.{Want}
use Rattle.backend_bins.specs.declared.scan.ScanCall.{ScanCall}
use Rattle.backend_bins.specs.Scan.{scan_begins}
use Rattle.coalescer.specs.Put.{put_begins}
use Rattle.coalescer.specs.declared.put.PutCall.{PutCall}
use Rattle.heap_slabs.specs.declared.records.HeapSlab.{HeapSlab}
use Rattle.heap_slabs.specs.declared.heap.Leaving.{Leaving}
use Rattle.heap_slabs.specs.Heaps.{next_to_leave}
use Rattle.heap_slabs.specs.Records.{to_header}
use Rattle.heap_slabs.specs.Slabs.{Kept, record_at, after_remove}
use Rattle.mailbox.specs.declared.boxes.BoxAt.{BoxAt}
use Rattle.orphans.specs.declared.leaving.LeaveAt.{LeaveAt}
use Rattle.orphans.specs.declared.leaving.LeaveCall.{LeaveCall}
use Rattle.orphans.specs.declared.leaving.LeaveNext.{LeaveNext}
use Rattle.orphans.specs.Leaving.{leave_learn}
use Rattle.step_local.specs.declared.frames.At.{At}
use Rattle.step_local.specs.declared.frames.Local.{Local}
use Rattle.step_local.specs.declared.frames.PutFor.{PutFor}
use Rattle.step_local.specs.declared.frames.SmallAt.{SmallAt}
use Rattle.step_local.specs.declared.frames.Tries.{Tries}
use Rattle.step_local.specs.Frames.{no_block}
use Rattle.step_local.specs.Answers.{gone, answered}

-- the local with other slabs
abbrev pub with_slabs : Local → Kept → Local
with_slabs l slabs = record l { heap = record l.heap { slabs = slabs } }

-- the block of a slab
abbrev pub slab_block : ℕ → Block
slab_block slab = record { first = slab; granules = slab_granules }

-- a block in hand is to be put
abbrev pub putting : Local → PutFor → Block → Local × Turn
putting l why block = gone (record l { put = why }) (At.Put (put_begins block))

-- whether the pool gives regions back before its end
abbrev pub gives_back : Key → Bool
gives_back k = not k.fixed && not k.keep

abbrev pub put_call : Local → PutCall
put_call l = record { seat = l.seat; drained = false; gives = gives_back l.key }

abbrev pub scan_call : Local → ScanCall
scan_call l = record { seat = l.seat; want = l.ask.want }

-- all bins are looked at, from the first that can have the piece
abbrev pub scanning : Local → Local × Turn
scanning l = gone l (At.Scan (scan_begins (scan_call l)))

-- the backend is asked for a piece
abbrev pub asking : Local → Want → Local × Turn
asking l want = scanning (record l {
  ask = record { want = want; tries = Tries.First; block = no_block; refused = None };
})

-- the heap gives up one more thing, or has left
abbrev pub leaving_as : Local → Leaving → Local × Turn
leaving_as l (Leaving.Cached slab) = gone l (At.Small (SmallAt.Newest slab))
leaving_as l (Leaving.Unused kept) = gone l (At.Small (SmallAt.Empty kept.slab))
leaving_as l (Leaving.Held kept) = gone l (At.Leave kept.slab LeaveAt.Close)
leaving_as l Leaving.Nothing = answered l Answer.Exited

abbrev pub leaving : Local → Local × Turn
leaving l = leaving_as l (next_to_leave l.heap)

abbrev pub leave_call_of : ℕ → Option HeapSlab → LeaveCall
leave_call_of slab (Some kept) = record { slab = slab; class = kept.class; header = to_header kept }
leave_call_of slab None = record { slab = slab; class = 0; header = 0 }

-- what the leaving of a slab is about
abbrev pub leave_call : Local → ℕ → LeaveCall
leave_call l slab = leave_call_of slab (record_at l.heap.slabs.records slab)

abbrev pub class_in : Option HeapSlab → ℕ
class_in (Some kept) = kept.class
class_in None = 0

abbrev pub class_at : Local → ℕ → ℕ
class_at l slab = class_in (record_at l.heap.slabs.records slab)

-- the slab is mailed, or is to be: it is awaited in its class's mailbox
abbrev pub awaiting : Local → ℕ → ℕ → Local × Turn
awaiting l slab class =
    gone (record l { fetch = record l.fetch { class = class; awaited = slab; came = false } }) (At.Mailbox BoxAt.Take)

abbrev pub left_as : Local → ℕ → LeaveNext → Local × Turn
left_as l slab (LeaveNext.Goes at) = gone l (At.Leave slab at)
left_as l slab LeaveNext.Filled = awaiting l slab (class_at l slab)
left_as l slab LeaveNext.Left = leaving (record l {
  heap = record l.heap { slabs = after_remove l.heap.slabs slab };
})

abbrev pub leave_learn_of : Local → ℕ → LeaveAt → ℕ → Local × Turn
leave_learn_of l slab at f = left_as l slab (leave_learn at f)
