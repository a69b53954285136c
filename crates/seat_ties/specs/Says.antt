-- What the words and the regions say to a seat that has a block in hand, by its position: what the seat stored or saw
-- there, and what nobody else changes.
use Rattle.std.specs.Prelude.{◌≡◌, ℕ, ◌+◌, ◌<◌, List, Some, ⊤}
use Rattle.pool_types.specs.declared.policy.RegionRec.{RegionRec}
use Rattle.word_codes.specs.declared.guards.Guard.{Guard}
use Rattle.guards.specs.declared.win.Side.{Side}
use Rattle.guards.specs.declared.win.Taking.{Taking}
use Rattle.backend_bins.specs.declared.cut.CutAt.{CutAt}
use Rattle.backend_bins.specs.declared.cut.CutCall.{CutCall}
use Rattle.backend_bins.specs.declared.scan.ScanStep.{ScanStep}
use Rattle.backend_bins.specs.Blocks.{block_end}
use Rattle.coalescer.specs.declared.drain.DrainAt.{DrainAt}
use Rattle.coalescer.specs.declared.put.Beside.{Beside}
use Rattle.coalescer.specs.declared.put.PutAt.{PutAt}
use Rattle.coalescer.specs.declared.put.PutStep.{PutStep}
use Rattle.region_steps.specs.declared.office.OfficeAt.{OfficeAt}
use Rattle.word_laws.specs.Memory.{Mem}
use Rattle.chain_laws.specs.Chains.{tally}
use Rattle.guard_laws.specs.Blocks.{Place, Use}
use Rattle.guard_laws.specs.Steps.{guard_in}
use Rattle.office_laws.specs.Laws.{HasGranule}
use Rattle.step_local.specs.declared.frames.At.{At}
use Rattle.step_local.specs.declared.frames.Local.{Local}
use Rattle.step_local.specs.declared.frames.OfficeFor.{OfficeFor}
use Rattle.step_local.specs.Backend.{cut_call}
use Rattle.pool_laws.specs.Wholes.{Whole}

-- a block that begins there is the first one of its region, and one of so many granules the last one
abbrev pub BeginsRegion : Whole → ℕ → Type 0
BeginsRegion w first = (s : ℕ) (one : RegionRec) → w.settled s ≡ Some one → HasGranule one first → one.first ≡ first

abbrev pub EndsRegion : Whole → ℕ → ℕ → Type 0
EndsRegion w first n = (s : ℕ) (one : RegionRec) → w.settled s ≡ Some one → HasGranule one first
    → one.first + one.granules ≡ first + n

-- the block that begins there is all of its region, in the seat's hand
abbrev pub IsAllOfRegion : Whole → ℕ → ℕ → Type 0
IsAllOfRegion w seat first = (s : ℕ) (one : RegionRec) → w.settled s ≡ Some one → HasGranule one first
    → (one.first ≡ first) × (w.pool.blocks.place first ≡ Place.Block first one.granules (Use.Held seat Taking.ToJoin))

-- both guards of the block that is put say that it is being joined
pub record AreMarked (m : Mem) (first n : ℕ) : Type 0 where
  pub begin : guard_in m Side.Begin first ≡ Guard.Coalescing
  pub end : guard_in m Side.End (first + n) ≡ Guard.Coalescing

-- what was seen at its begin, once it was looked at; and at its end
abbrev pub LeftSays : Whole → ℕ → Beside → Type 0
LeftSays w first Beside.Unknown = ⊥
LeftSays w first Beside.InUse = ⊤
LeftSays w first Beside.Wall = BeginsRegion w first
LeftSays w first Beside.Joined = ⊤

abbrev pub RightSays : Whole → ℕ → ℕ → Beside → Type 0
RightSays w first n Beside.Unknown = ⊥
RightSays w first n Beside.InUse = ⊥
RightSays w first n Beside.Wall = EndsRegion w first n
RightSays w first n Beside.Joined = ⊤

pub record IsMarked (w : Whole) (p : PutAt) : Type 0 where
  pub marked : AreMarked w.pool.mem p.block.first p.block.granules

pub record IsMarkedBehind (w : Whole) (p : PutAt) : Type 0 where
  pub marked : AreMarked w.pool.mem p.block.first p.block.granules
  pub left : LeftSays w p.block.first p.left

pub record IsWalledBefore (w : Whole) (p : PutAt) : Type 0 where
  pub marked : AreMarked w.pool.mem p.block.first p.block.granules
  pub right : RightSays w p.block.first p.block.granules p.right

pub record IsWalledBehind (w : Whole) (p : PutAt) : Type 0 where
  pub marked : AreMarked w.pool.mem p.block.first p.block.granules
  pub left : BeginsRegion w p.block.first

abbrev pub PutSays : Whole → PutAt → PutStep → Type 0
PutSays w p PutStep.Size = ⊤
PutSays w p PutStep.Left = guard_in w.pool.mem Side.Begin p.block.first ≡ Guard.Coalescing
PutSays w p PutStep.LeftWord = IsMarked w p
PutSays w p (PutStep.WinLeft granules at) = IsMarked w p
PutSays w p (PutStep.UnlinkLeft neighbour at) = IsMarkedBehind w p
PutSays w p PutStep.RightWord = IsMarkedBehind w p
PutSays w p (PutStep.WinRight granules at) = IsMarkedBehind w p
PutSays w p (PutStep.UnlinkRight neighbour at) = IsMarkedBehind w p
PutSays w p PutStep.FarLeft = IsWalledBefore w p
PutSays w p PutStep.FarRight = IsWalledBehind w p
PutSays w p (PutStep.Queue at) = IsMarked w p
PutSays w p (PutStep.Bin at) = ⊤

abbrev pub DrainSays : Whole → DrainAt → Type 0
DrainSays w DrainAt.Swap = ⊤
DrainSays w (DrainAt.Link first) = ⊤
DrainSays w (DrainAt.Put rest at) = PutSays w at at.step

-- of the two guards within a block that is cut the one before the cut was stored
abbrev pub CutSays : Whole → CutCall → CutAt → Type 0
CutSays w c CutAt.FrontSize = guard_in w.pool.mem Side.End c.piece.first ≡ Guard.Used
CutSays w c CutAt.BackSize = guard_in w.pool.mem Side.End (block_end c.piece) ≡ Guard.Used
CutSays w c _ = ⊤

-- a region's first guard was stored before its last one
abbrev pub ObtainSays : Whole → OfficeAt → Type 0
ObtainSays w (OfficeAt.LastLeft one) = guard_in w.pool.mem Side.Begin one.first ≡ Guard.Used
ObtainSays w _ = ⊤

-- a block that is given back is all of its region
abbrev pub GiveSays : Whole → ℕ → ℕ → OfficeAt → Type 0
GiveSays w seat first (OfficeAt.Back end) = ⊤
GiveSays w seat first (OfficeAt.Unlock end) = ⊤
GiveSays w seat first _ = IsAllOfRegion w seat first

abbrev pub OfficeSays : Whole → ℕ → OfficeFor → OfficeAt → Type 0
OfficeSays w seat OfficeFor.Ask at = ObtainSays w at
OfficeSays w seat (OfficeFor.Put first) at = GiveSays w seat first at
OfficeSays w seat (OfficeFor.Drain first rest) at = GiveSays w seat first at

-- a block that a scan looks at is in the list of the bin whose lock it has
abbrev pub ScanSays : (ℕ → List ℕ) → ℕ → ScanStep → Type 0
ScanSays items bin (ScanStep.Length first) = 0 < tally first (items bin)
ScanSays items bin (ScanStep.Win b at) = 0 < tally b.first (items bin)
ScanSays items bin (ScanStep.Next first) = 0 < tally first (items bin)
ScanSays items bin _ = ⊤

abbrev pub SaysAt : Whole → ℕ → Local → At → Type 0
SaysAt w seat l (At.Scan at) = ScanSays w.items at.bin at.step
SaysAt w seat l (At.Cut at) = CutSays w (cut_call l) at
SaysAt w seat l (At.Drain at) = DrainSays w at
SaysAt w seat l (At.Put at) = PutSays w at at.step
SaysAt w seat l (At.Office job at) = OfficeSays w seat job at
SaysAt w seat l _ = ⊤

abbrev pub WordsSay : Whole → ℕ → Local → Type 0
WordsSay w seat l = SaysAt w seat l l.at

-- the positions of jobs that neither get nor put blocks: the words say nothing where these lead to
abbrev pub IsElsewhere : At → Type 0
IsElsewhere At.Idle = ⊥
IsElsewhere (At.Scan at) = ⊥
IsElsewhere (At.Cut at) = ⊥
IsElsewhere (At.Whole at) = ⊥
IsElsewhere (At.Drain at) = ⊥
IsElsewhere (At.Put at) = ⊥
IsElsewhere (At.Office job at) = ⊥
IsElsewhere (At.Reset at) = ⊥
IsElsewhere _ = ⊤
