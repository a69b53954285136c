-- What a put knows of the blocks beside its own while no other seat is at a guard: of neighbours in bins.
use Rattle.std.specs.Prelude.{◌≡◌, ◌≢◌, ◌⊎◌, ℕ, ◌+◌, ⊤}
use Rattle.guards.specs.declared.win.Taking.{Taking}
use Rattle.guards.specs.declared.win.WinAt.{WinAt}
use Rattle.backend_bins.specs.declared.blocks.Block.{Block}
use Rattle.backend_bins.specs.declared.bin.BinAt.{BinAt}
use Rattle.coalescer.specs.declared.put.PutNext.{PutNext}
use Rattle.coalescer.specs.declared.put.PutStep.{PutStep}
use Rattle.guard_laws.specs.Blocks.{Use, Place, Task}

-- no two blocks in bins are beside each other
abbrev pub NoTwo : (ℕ → Place) → Type 0
NoTwo place =
    (x n m : ℕ) → place x ≡ Place.Block x n Use.Bin → place (x + n) ≡ Place.Block (x + n) m Use.Bin → ⊥

-- no block in a bin ends there, or begins there
abbrev pub NoLeft : (ℕ → Place) → ℕ → Type 0
NoLeft place i = (x n : ℕ) → x + n ≡ i → place x ≡ Place.Block x n Use.Bin → ⊥

abbrev pub NoRight : (ℕ → Place) → ℕ → Type 0
NoRight place i = (n : ℕ) → place i ≡ Place.Block i n Use.Bin → ⊥

abbrev pub NoBeside : (ℕ → Place) → Block → Type 0
NoBeside place b = NoLeft place b.first × NoRight place (b.first + b.granules)

abbrev pub BinSides : (ℕ → Place) → Block → BinAt → Type 0
BinSides place b BinAt.Lock = NoBeside place b
BinSides place b BinAt.Size = NoBeside place b
BinSides place b BinAt.Left = NoBeside place b
BinSides place b (BinAt.Insert at) = ⊤
BinSides place b (BinAt.Out at) = ⊤
BinSides place b BinAt.Unlock = ⊤

-- the sides that a put has judged
abbrev pub SidesFit : (ℕ → Place) → Block → PutStep → Type 0
SidesFit place b PutStep.Size = ⊤
SidesFit place b PutStep.Left = ⊤
SidesFit place b PutStep.LeftWord = ⊤
SidesFit place b (PutStep.WinLeft granules at) = ⊤
SidesFit place b (PutStep.UnlinkLeft neighbour at) = NoLeft place b.first
SidesFit place b PutStep.RightWord = NoLeft place b.first
SidesFit place b (PutStep.WinRight granules at) = NoLeft place b.first
SidesFit place b (PutStep.UnlinkRight neighbour at) = NoBeside place b
SidesFit place b PutStep.FarLeft = NoBeside place b
SidesFit place b PutStep.FarRight = NoBeside place b
SidesFit place b (PutStep.Queue at) = ⊤
SidesFit place b (PutStep.Bin at) = BinSides place b at

abbrev pub SidesAfter : (ℕ → Place) → PutNext → Type 0
SidesAfter place (PutNext.Goes q) = SidesFit place q.block q.step
SidesAfter place (PutNext.Waits bin) = ⊤
SidesAfter place PutNext.Done = ⊤
SidesAfter place (PutNext.Gives b) = ⊤

-- no other seat wins or offers a block
abbrev pub IsAlone : (ℕ → Task) → ℕ → Type 0
IsAlone tasks seat = (other : ℕ) → other ≢ seat → tasks other ≡ Task.Away

-- where the put looks at a side, its seat has won no guard alone
abbrev pub IsLooking : Task → PutStep → Type 0
IsLooking task PutStep.Size = ⊤
IsLooking task PutStep.Left = ⊤
IsLooking task PutStep.LeftWord = task ≡ Task.Away
IsLooking task (PutStep.WinLeft granules at) = ⊤
IsLooking task (PutStep.UnlinkLeft neighbour at) = ⊤
IsLooking task PutStep.RightWord = task ≡ Task.Away
IsLooking task (PutStep.WinRight granules at) = ⊤
IsLooking task (PutStep.UnlinkRight neighbour at) = ⊤
IsLooking task PutStep.FarLeft = ⊤
IsLooking task PutStep.FarRight = ⊤
IsLooking task (PutStep.Queue at) = ⊤
IsLooking task (PutStep.Bin at) = ⊤

-- nothing is queued, and no other block than this one is in hand to be joined
pub record IsCalm (place : ℕ → Place) (first : ℕ) : Type 0 where
  pub queue : (x n : ℕ) → place x ≡ Place.Block x n Use.Queued → ⊥
  pub alone : (x n seat : ℕ) → place x ≡ Place.Block x n (Use.Held seat Taking.ToJoin) → x ≡ first

-- a put that neither queues its block nor gives a guard back
abbrev pub WinsOn : WinAt → Type 0
WinsOn WinAt.First = ⊤
WinsOn WinAt.Second = ⊤
WinsOn WinAt.Back = ⊥

abbrev pub JoinsOn : PutStep → Type 0
JoinsOn PutStep.Size = ⊤
JoinsOn PutStep.Left = ⊤
JoinsOn PutStep.LeftWord = ⊤
JoinsOn (PutStep.WinLeft granules at) = WinsOn at
JoinsOn (PutStep.UnlinkLeft neighbour at) = ⊤
JoinsOn PutStep.RightWord = ⊤
JoinsOn (PutStep.WinRight granules at) = WinsOn at
JoinsOn (PutStep.UnlinkRight neighbour at) = ⊤
JoinsOn PutStep.FarLeft = ⊤
JoinsOn PutStep.FarRight = ⊤
JoinsOn (PutStep.Queue at) = ⊥
JoinsOn (PutStep.Bin at) = ⊤

abbrev pub JoinsNext : PutNext → Type 0
JoinsNext (PutNext.Goes q) = JoinsOn q.step
JoinsNext (PutNext.Waits bin) = ⊤
JoinsNext PutNext.Done = ⊤
JoinsNext (PutNext.Gives b) = ⊤

-- where a put looks at a side, or tries the first guard there, its block alone is in hand to be joined
abbrev pub CalmFits : (ℕ → Place) → ℕ → PutStep → Type 0
CalmFits place first PutStep.Size = ⊤
CalmFits place first PutStep.Left = ⊤
CalmFits place first PutStep.LeftWord = IsCalm place first
CalmFits place first (PutStep.WinLeft granules at) = IsCalm place first
CalmFits place first (PutStep.UnlinkLeft neighbour at) = ⊤
CalmFits place first PutStep.RightWord = IsCalm place first
CalmFits place first (PutStep.WinRight granules at) = IsCalm place first
CalmFits place first (PutStep.UnlinkRight neighbour at) = ⊤
CalmFits place first PutStep.FarLeft = ⊤
CalmFits place first PutStep.FarRight = ⊤
CalmFits place first (PutStep.Queue at) = ⊤
CalmFits place first (PutStep.Bin at) = ⊤

-- nothing is queued, and no other blocks than these two are in hand to be joined
pub record IsCalmOfTwo (place : ℕ → Place) (one two : ℕ) : Type 0 where
  pub queue : (x n : ℕ) → place x ≡ Place.Block x n Use.Queued → ⊥
  pub alone : (x n seat : ℕ) → place x ≡ Place.Block x n (Use.Held seat Taking.ToJoin) → (x ≡ one) ⊎ (x ≡ two)

-- nothing is queued, and no block is in hand to be joined
pub record IsAtRest (place : ℕ → Place) : Type 0 where
  pub queue : (x n : ℕ) → place x ≡ Place.Block x n Use.Queued → ⊥
  pub hands : (x n seat : ℕ) → place x ≡ Place.Block x n (Use.Held seat Taking.ToJoin) → ⊥

abbrev pub CalmBin : (ℕ → Place) → ℕ → BinAt → Type 0
CalmBin place first BinAt.Lock = IsCalm place first
CalmBin place first BinAt.Size = IsCalm place first
CalmBin place first BinAt.Left = IsCalm place first
CalmBin place first (BinAt.Insert at) = IsAtRest place
CalmBin place first (BinAt.Out at) = IsAtRest place
CalmBin place first BinAt.Unlock = IsAtRest place

-- what is in hand to be joined at each position of a put that is alone: its block, and a neighbour that it has won
-- until that is out of its list; nothing once the block is in its bin
abbrev pub CalmAt : (ℕ → Place) → Block → PutStep → Type 0
CalmAt place b PutStep.Size = IsCalm place b.first
CalmAt place b PutStep.Left = IsCalm place b.first
CalmAt place b PutStep.LeftWord = IsCalm place b.first
CalmAt place b (PutStep.WinLeft granules at) = IsCalm place b.first
CalmAt place b (PutStep.UnlinkLeft neighbour at) = IsCalmOfTwo place b.first (b.first + neighbour.granules)
CalmAt place b PutStep.RightWord = IsCalm place b.first
CalmAt place b (PutStep.WinRight granules at) = IsCalm place b.first
CalmAt place b (PutStep.UnlinkRight neighbour at) = IsCalmOfTwo place b.first neighbour.first
CalmAt place b PutStep.FarLeft = IsCalm place b.first
CalmAt place b PutStep.FarRight = IsCalm place b.first
CalmAt place b (PutStep.Queue at) = IsCalm place b.first
CalmAt place b (PutStep.Bin at) = CalmBin place b.first at

-- a put that waits is where it was; one that has ended leaves nothing; a block that is given is in hand yet
abbrev pub CalmAfter : (ℕ → Place) → Block → PutStep → PutNext → Type 0
CalmAfter place b step (PutNext.Goes q) = CalmAt place q.block q.step
CalmAfter place b step (PutNext.Waits bin) = CalmAt place b step
CalmAfter place b step PutNext.Done = IsAtRest place
CalmAfter place b step (PutNext.Gives c) = IsCalm place c.first
