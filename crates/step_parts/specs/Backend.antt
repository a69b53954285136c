-- Blocks that go into bins and the queue, and out of them.
use Rattle.std.specs.Prelude.{ℕ}
use Rattle.part_model.specs.declared.holders.Holder.{Holder}
use Rattle.word_codes.specs.Links.{link_of}
use Rattle.backend_bins.specs.declared.bin.BinAt.{BinAt}
use Rattle.backend_bins.specs.declared.blocks.Block.{Block}
use Rattle.backend_bins.specs.declared.cut.CutAt.{CutAt}
use Rattle.backend_bins.specs.declared.scan.ScanStep.{ScanStep}
use Rattle.backend_bins.specs.Cut.{front_of, back_of}
use Rattle.chain_words.specs.declared.pushing.PushAt.{PushAt}
use Rattle.coalescer.specs.declared.drain.DrainAt.{DrainAt}
use Rattle.coalescer.specs.declared.put.PutAt.{PutAt}
use Rattle.coalescer.specs.declared.put.PutStep.{PutStep}
use Rattle.coalescer.specs.Put.{left_neighbour, right_neighbour}
use Rattle.guards.specs.declared.win.WinAt.{WinAt}
use Rattle.step_local.specs.declared.frames.Local.{Local}
use Rattle.step_local.specs.Backend.{cut_call}
use Rattle.word_parts.specs.declared.chains.Chain.{Chain}
use Rattle.word_parts.specs.declared.shifts.Moved.{Moved}
use Rattle.word_parts.specs.Shifts.{block_moved}

-- a block in hand is the bin's from the second of its guards on
abbrev pub bin_moved : Block → ℕ → BinAt → Moved
bin_moved b seat BinAt.Lock = Moved.Nothing
bin_moved b seat BinAt.Size = Moved.Nothing
bin_moved b seat BinAt.Left = block_moved b (Holder.Hand seat) Holder.Bin
bin_moved b seat (BinAt.Insert at) = Moved.Nothing
bin_moved b seat (BinAt.Out at) = Moved.Nothing
bin_moved b seat BinAt.Unlock = Moved.Nothing

-- a block of a bin is in the hand of who has won both its guards
abbrev pub win_moved : Block → ℕ → WinAt → Moved
win_moved b seat WinAt.First = Moved.Nothing
win_moved b seat WinAt.Second = block_moved b Holder.Bin (Holder.Hand seat)
win_moved b seat WinAt.Back = Moved.Nothing

-- a scan takes a block
abbrev pub scan_moved : Local → ScanStep → Moved
scan_moved l ScanStep.Peek = Moved.Nothing
scan_moved l ScanStep.Lock = Moved.Nothing
scan_moved l ScanStep.Head = Moved.Nothing
scan_moved l (ScanStep.Length first) = Moved.Nothing
scan_moved l (ScanStep.Win b at) = win_moved b l.seat at
scan_moved l (ScanStep.Next first) = Moved.Nothing
scan_moved l (ScanStep.Out b at) = Moved.Nothing
scan_moved l (ScanStep.Unlock took) = Moved.Nothing

-- the rests of a block go into their bins
abbrev pub cut_moved : Local → CutAt → Moved
cut_moved l CutAt.FrontLeft = Moved.Nothing
cut_moved l CutAt.FrontSize = Moved.Nothing
cut_moved l CutAt.BackLeft = Moved.Nothing
cut_moved l CutAt.BackSize = Moved.Nothing
cut_moved l (CutAt.Front at) = bin_moved (front_of (cut_call l)) l.seat at
cut_moved l (CutAt.Back at) = bin_moved (back_of (cut_call l)) l.seat at

-- a block in hand is pushed onto the queue
abbrev pub queue_moved : Block → ℕ → PushAt → Moved
queue_moved b seat PushAt.Look = Moved.Nothing
queue_moved b seat (PushAt.Link found) = Moved.Nothing
queue_moved b seat (PushAt.Exchange found) = block_moved b (Holder.Hand seat) Holder.Queue

-- a block is put, and takes its neighbours with it
abbrev pub put_moved : Local → PutAt → PutStep → Moved
put_moved l p PutStep.Size = Moved.Nothing
put_moved l p PutStep.Left = Moved.Nothing
put_moved l p PutStep.LeftWord = Moved.Nothing
put_moved l p (PutStep.WinLeft granules at) = win_moved (left_neighbour p granules) l.seat at
put_moved l p (PutStep.UnlinkLeft neighbour at) = Moved.Nothing
put_moved l p PutStep.RightWord = Moved.Nothing
put_moved l p (PutStep.WinRight granules at) = win_moved (right_neighbour p granules) l.seat at
put_moved l p (PutStep.UnlinkRight neighbour at) = Moved.Nothing
put_moved l p PutStep.FarLeft = Moved.Nothing
put_moved l p PutStep.FarRight = Moved.Nothing
put_moved l p (PutStep.Queue at) = queue_moved p.block l.seat at
put_moved l p (PutStep.Bin at) = bin_moved p.block l.seat at

-- the queue is taken, and its blocks are put
abbrev pub drain_moved : Local → DrainAt → ℕ → Moved
drain_moved l DrainAt.Swap f = Moved.Taken Chain.Queued (link_of f)
drain_moved l (DrainAt.Link first) f = Moved.Nothing
drain_moved l (DrainAt.Put rest at) f = put_moved l at at.step
