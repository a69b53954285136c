-- What a seat in the middle of a call has begun and not ended.
use Rattle.std.specs.Prelude.{ℕ}
use Rattle.backend_bins.specs.declared.bin.BinAt.{BinAt}
use Rattle.backend_bins.specs.declared.blocks.Block.{Block}
use Rattle.backend_bins.specs.declared.cut.CutAt.{CutAt}
use Rattle.backend_bins.specs.declared.cut.CutCall.{CutCall}
use Rattle.backend_bins.specs.declared.scan.ScanStep.{ScanStep}
use Rattle.backend_bins.specs.Cut.{front_of, back_of}
use Rattle.coalescer.specs.declared.drain.DrainAt.{DrainAt}
use Rattle.coalescer.specs.declared.put.PutAt.{PutAt}
use Rattle.coalescer.specs.declared.put.PutStep.{PutStep}
use Rattle.coalescer.specs.Put.{right_neighbour}
use Rattle.guards.specs.declared.win.WinAt.{WinAt}
use Rattle.locked_chain.specs.declared.remove.RemoveAt.{RemoveAt}
use Rattle.mailbox.specs.declared.boxes.BoxAt.{BoxAt}
use Rattle.public_list.specs.declared.joining.JoinAt.{JoinAt}
use Rattle.reset_steps.specs.declared.unite.UniteAt.{UniteAt}
use Rattle.step_local.specs.declared.frames.At.{At}
use Rattle.step_local.specs.declared.frames.Local.{Local}
use Rattle.step_local.specs.declared.frames.ResetAt.{ResetAt}
use Rattle.step_local.specs.Backend.{cut_call, whole_call}
use Rattle.word_totals.specs.declared.middle.Amid.{Amid}
use Rattle.word_totals.specs.declared.middle.Amid.TheVariants.{Nothing, Offers, Wins, Unlinks, Joins}

-- what was given back and taken, until it is tied to the private objects
abbrev pub joining : ℕ → JoinAt → Amid
joining slab JoinAt.Take = Nothing
joining slab (JoinAt.Walk first at count) = Joins slab first
joining slab (JoinAt.Tie first last count) = Joins slab first

abbrev pub boxing : BoxAt → Amid
boxing (BoxAt.Join slab rest join) = joining slab join
boxing other = Nothing

-- until what is before it leads past it, a block is in its list
abbrev pub removing : Block → RemoveAt → Amid
removing block RemoveAt.Forward = Unlinks block
removing block (RemoveAt.Backward forward) = Unlinks block
removing block (RemoveAt.Skip forward backward) = Unlinks block
removing block (RemoveAt.SkipBack behind backward) = Nothing

-- a block is free from the store of its second guard on, and in the list from the store of the head on
abbrev pub inserting : Block → BinAt → Amid
inserting block (BinAt.Insert at) = Offers block
inserting block other = Nothing

abbrev pub unlinking : Block → BinAt → Amid
unlinking block BinAt.Lock = Unlinks block
unlinking block (BinAt.Out at) = removing block at
unlinking block other = Nothing

-- a win whose first guard is the one at the block's begin
abbrev pub winning : Block → WinAt → Amid
winning block WinAt.First = Nothing
winning block WinAt.Second = Wins block
winning block WinAt.Back = Wins block

abbrev pub scanning : ScanStep → Amid
scanning (ScanStep.Win block at) = winning block at
scanning (ScanStep.Out block at) = removing block at
scanning other = Nothing

abbrev pub cutting : CutCall → CutAt → Amid
cutting call (CutAt.Front at) = inserting (front_of call) at
cutting call (CutAt.Back at) = inserting (back_of call) at
cutting call other = Nothing

abbrev pub putting_at : PutAt → PutStep → Amid
putting_at put (PutStep.UnlinkLeft neighbour at) = unlinking neighbour at
putting_at put (PutStep.WinRight granules at) = winning (right_neighbour put granules) at
putting_at put (PutStep.UnlinkRight neighbour at) = unlinking neighbour at
putting_at put (PutStep.Bin at) = inserting put.block at
putting_at put other = Nothing

-- a put wins the guard between both blocks first, which is at the begin of the right one alone
abbrev pub putting : PutAt → Amid
putting put = putting_at put put.step

abbrev pub draining : DrainAt → Amid
draining (DrainAt.Put rest at) = putting at
draining other = Nothing

abbrev pub uniting : UniteAt → Amid
uniting (UniteAt.Win block at) = winning block at
uniting (UniteAt.Unlink block at) = unlinking block at
uniting other = Nothing

-- a reset that has this block in hand
abbrev pub resetting : Block → ResetAt → Amid
resetting block (ResetAt.Unite region at) = uniting at
resetting block (ResetAt.Bin at) = inserting block at
resetting block other = Nothing

abbrev pub amid_at : Local → At → Amid
amid_at local (At.Mailbox at) = boxing at
amid_at local (At.Join slab rest at) = joining slab at
amid_at local (At.Scan at) = scanning at.step
amid_at local (At.Cut at) = cutting (cut_call local) at
amid_at local (At.Whole at) = inserting (whole_call local).block at
amid_at local (At.Drain at) = draining at
amid_at local (At.Put at) = putting at
amid_at local (At.Reset at) = resetting local.call.block at
amid_at local other = Nothing

unfoldable pub amid : Local → Amid
amid local = amid_at local local.at
