-- What a put has in hand at each of its positions, and what each of its steps leaves of that.
use Rattle.std.specs.Prelude.{◌≡◌, ℕ, ◌+◌, ◌-◌, ◌≤◌, true, false, ⊤}
use Rattle.guards.specs.declared.win.Side.{Side}
use Rattle.guards.specs.declared.win.Taking.{Taking}
use Rattle.guards.specs.Win.{win_learn}
use Rattle.chain_words.specs.Pushing.{push_learn}
use Rattle.backend_bins.specs.declared.blocks.Block.{Block}
use Rattle.backend_bins.specs.declared.bin.BinAt.{BinAt}
use Rattle.backend_bins.specs.declared.bin.BinNext.{BinNext}
use Rattle.backend_bins.specs.Bin.{bin_learn}
use Rattle.coalescer.specs.declared.put.PutAt.{PutAt}
use Rattle.coalescer.specs.declared.put.PutCall.{PutCall}
use Rattle.coalescer.specs.declared.put.PutNext.{PutNext}
use Rattle.coalescer.specs.declared.put.PutStep.{PutStep}
use Rattle.coalescer.specs.Put.{left_win, right_win, unlink_call}
use Rattle.guard_laws.specs.Blocks as blocks
use Rattle.guard_laws.specs.Blocks.{Use, Place, Standing, CallFits}
use Rattle.guard_laws.specs.Steps.{with_use, with_edge, shadow_won, shadow_merged}
use Rattle.queue_laws.specs.Steps.{shadow_queued}

-- a block in a seat's hand, to be joined
abbrev pub HasBlock : blocks.Shadow → ℕ → ℕ → ℕ → Type 0
HasBlock g seat first granules = g.place first ≡ Place.Block first granules (Use.Held seat Taking.ToJoin)

-- the put's block is two in hand yet, since the neighbour that was won is in its bin's list still
pub record HasBoth (g : blocks.Shadow) (seat : ℕ) (whole : Block) (left right : ℕ) : Type 0 where
  pub left_hand : HasBlock g seat whole.first left
  pub right_hand : HasBlock g seat (whole.first + left) right
  pub sum : left + right ≡ whole.granules

-- the steps of a job on a bin by which a block leaves it
abbrev pub TakesOut : BinAt → Type 0
TakesOut BinAt.Lock = ⊤
TakesOut BinAt.Size = ⊥
TakesOut BinAt.Left = ⊥
TakesOut (BinAt.Insert at) = ⊥
TakesOut (BinAt.Out at) = ⊤
TakesOut BinAt.Unlock = ⊤

-- until both guards say that the block is free, it is in hand
abbrev pub BinFits : blocks.Shadow → ℕ → Block → BinAt → Type 0
BinFits g seat b BinAt.Lock = HasBlock g seat b.first b.granules
BinFits g seat b BinAt.Size = HasBlock g seat b.first b.granules
BinFits g seat b BinAt.Left = HasBlock g seat b.first b.granules
BinFits g seat b (BinAt.Insert at) = ⊤
BinFits g seat b (BinAt.Out at) = ⊥
BinFits g seat b BinAt.Unlock = ⊤

-- what came from the queue does not go back to it
abbrev pub PutFits : PutCall → blocks.Shadow → PutAt → PutStep → Type 0
PutFits c g p PutStep.Size = HasBlock g c.seat p.block.first p.block.granules
PutFits c g p PutStep.Left = HasBlock g c.seat p.block.first p.block.granules
PutFits c g p PutStep.LeftWord = HasBlock g c.seat p.block.first p.block.granules
PutFits c g p (PutStep.WinLeft granules at) =
    HasBlock g c.seat p.block.first p.block.granules × CallFits (left_win p granules)
PutFits c g p (PutStep.UnlinkLeft neighbour at) =
    HasBoth g c.seat p.block neighbour.granules (p.block.granules - neighbour.granules) × TakesOut at
    × (neighbour.first ≡ p.block.first)
PutFits c g p PutStep.RightWord = HasBlock g c.seat p.block.first p.block.granules
PutFits c g p (PutStep.WinRight granules at) =
    HasBlock g c.seat p.block.first p.block.granules × CallFits (right_win p granules)
PutFits c g p (PutStep.UnlinkRight neighbour at) =
    HasBoth g c.seat p.block (p.block.granules - neighbour.granules) neighbour.granules × TakesOut at
    × (neighbour.first ≡ p.block.first + (p.block.granules - neighbour.granules))
PutFits c g p PutStep.FarLeft = HasBlock g c.seat p.block.first p.block.granules × (c.gives ≡ true)
PutFits c g p PutStep.FarRight = HasBlock g c.seat p.block.first p.block.granules × (c.gives ≡ true)
PutFits c g p (PutStep.Queue at) = HasBlock g c.seat p.block.first p.block.granules × (c.drained ≡ false)
PutFits c g p (PutStep.Bin at) = BinFits g c.seat p.block at

-- where a put is to win a neighbour, the seat's task on guards is that win
abbrev pub IsJoining : blocks.Task → PutAt → PutStep → Type 0
IsJoining task p PutStep.Size = ⊤
IsJoining task p PutStep.Left = ⊤
IsJoining task p PutStep.LeftWord = ⊤
IsJoining task p (PutStep.WinLeft granules at) = task ≡ blocks.Task.Wins (left_win p granules) at
IsJoining task p (PutStep.UnlinkLeft neighbour at) = ⊤
IsJoining task p PutStep.RightWord = ⊤
IsJoining task p (PutStep.WinRight granules at) = task ≡ blocks.Task.Wins (right_win p granules) at
IsJoining task p (PutStep.UnlinkRight neighbour at) = ⊤
IsJoining task p PutStep.FarLeft = ⊤
IsJoining task p PutStep.FarRight = ⊤
IsJoining task p (PutStep.Queue at) = ⊤
IsJoining task p (PutStep.Bin at) = ⊤

-- a neighbour that is out of its list and the put's block are one
abbrev pub shadow_joined : ℕ → ℕ → ℕ → ℕ → BinNext → blocks.Shadow → blocks.Shadow
shadow_joined seat first left right (BinNext.Goes at) g = g
shadow_joined seat first left right BinNext.Waits g = g
shadow_joined seat first left right BinNext.Done g = shadow_merged seat first left right g

-- the block is offered at its begin, and then at its end, and is in a bin from then on
abbrev pub shadow_binned : Block → BinAt → blocks.Shadow → blocks.Shadow
shadow_binned b BinAt.Lock g = g
shadow_binned b BinAt.Size g = with_edge Side.Begin b.first (Standing.Open b.granules) g
shadow_binned b BinAt.Left g =
    with_use b.first b.granules Use.Bin (with_edge Side.End (b.first + b.granules) (Standing.Open b.granules) g)
shadow_binned b (BinAt.Insert at) g = g
shadow_binned b (BinAt.Out at) g = g
shadow_binned b BinAt.Unlock g = g

-- what a put's step makes of the blocks
abbrev pub shadow_put : PutCall → PutAt → PutStep → ℕ → blocks.Shadow → blocks.Shadow
shadow_put c p PutStep.Size found g = g
shadow_put c p PutStep.Left found g = g
shadow_put c p PutStep.LeftWord found g = g
shadow_put c p (PutStep.WinLeft granules at) found g =
    shadow_won c.seat (left_win p granules) (win_learn (left_win p granules) at found) g
shadow_put c p (PutStep.UnlinkLeft neighbour at) found g =
    shadow_joined c.seat p.block.first neighbour.granules (p.block.granules - neighbour.granules)
    (bin_learn (unlink_call c neighbour) at found) g
shadow_put c p PutStep.RightWord found g = g
shadow_put c p (PutStep.WinRight granules at) found g =
    shadow_won c.seat (right_win p granules) (win_learn (right_win p granules) at found) g
shadow_put c p (PutStep.UnlinkRight neighbour at) found g =
    shadow_joined c.seat p.block.first (p.block.granules - neighbour.granules) neighbour.granules
    (bin_learn (unlink_call c neighbour) at found) g
shadow_put c p PutStep.FarLeft found g = g
shadow_put c p PutStep.FarRight found g = g
shadow_put c p (PutStep.Queue at) found g = shadow_queued p.block.first p.block.granules (push_learn at found) g
shadow_put c p (PutStep.Bin at) found g = shadow_binned p.block at g

-- a block has all granules of another
pub record Covers (b part : Block) : Type 0 where
  pub from : b.first ≤ part.first
  pub to : part.first + part.granules ≤ b.first + b.granules

-- a put ends where the block is queued, or where its bin's lock is freed, behind the step that put it into the bin
abbrev pub PutDone : blocks.Shadow → Block → PutStep → Type 0
PutDone h b PutStep.Size = ⊥
PutDone h b PutStep.Left = ⊥
PutDone h b PutStep.LeftWord = ⊥
PutDone h b (PutStep.WinLeft granules at) = ⊥
PutDone h b (PutStep.UnlinkLeft neighbour at) = ⊥
PutDone h b PutStep.RightWord = ⊥
PutDone h b (PutStep.WinRight granules at) = ⊥
PutDone h b (PutStep.UnlinkRight neighbour at) = ⊥
PutDone h b PutStep.FarLeft = ⊥
PutDone h b PutStep.FarRight = ⊥
PutDone h b (PutStep.Queue at) = h.place b.first ≡ Place.Block b.first b.granules Use.Queued
PutDone h b (PutStep.Bin at) = at ≡ BinAt.Unlock

-- the put goes on with its block in hand, or with a longer one that has it; or waits, and nothing changed; or ends; or
-- gives the whole block, in hand
abbrev pub AfterPut : PutCall → blocks.Shadow → blocks.Shadow → PutAt → PutStep → PutNext → Type 0
AfterPut c g h p step (PutNext.Goes q) = PutFits c h q q.step × Covers q.block p.block
AfterPut c g h p step (PutNext.Waits bin) = h ≡ g
AfterPut c g h p step PutNext.Done = PutDone h p.block step
AfterPut c g h p step (PutNext.Gives b) =
    (b ≡ p.block) × HasBlock h c.seat b.first b.granules × (c.gives ≡ true)

-- the positions at guards, and what the seat's task on guards is there
abbrev pub AtBinGuards : blocks.Task → Block → BinAt → Type 0
AtBinGuards task b BinAt.Lock = ⊥
AtBinGuards task b BinAt.Size = task ≡ blocks.Task.Away
AtBinGuards task b BinAt.Left = task ≡ blocks.Task.Offers b.first b.granules
AtBinGuards task b (BinAt.Insert at) = ⊥
AtBinGuards task b (BinAt.Out at) = ⊥
AtBinGuards task b BinAt.Unlock = ⊥

abbrev pub AtGuards : blocks.Task → PutAt → PutStep → Type 0
AtGuards task p PutStep.Size = task ≡ blocks.Task.Away
AtGuards task p PutStep.Left = task ≡ blocks.Task.Away
AtGuards task p PutStep.LeftWord = ⊤
AtGuards task p (PutStep.WinLeft granules at) = task ≡ blocks.Task.Wins (left_win p granules) at
AtGuards task p (PutStep.UnlinkLeft neighbour at) = ⊥
AtGuards task p PutStep.RightWord = ⊤
AtGuards task p (PutStep.WinRight granules at) = task ≡ blocks.Task.Wins (right_win p granules) at
AtGuards task p (PutStep.UnlinkRight neighbour at) = ⊥
AtGuards task p PutStep.FarLeft = ⊤
AtGuards task p PutStep.FarRight = ⊤
AtGuards task p (PutStep.Queue at) = ⊥
AtGuards task p (PutStep.Bin at) = AtBinGuards task p.block at
