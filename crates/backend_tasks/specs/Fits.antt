-- What a local says of blocks at work by itself, beside what its steps find.
use Rattle.std.specs.Prelude.{◌≡◌, ◌<◌, ℕ, false, ⊤, Option, Some, None}
use Rattle.pool_types.specs.Geometry.{bin_count}
use Rattle.word_codes.specs.declared.guards.Guard.{Guard}
use Rattle.word_codes.specs.Guards.{guard_of}
use Rattle.backend_bins.specs.declared.bin.BinAt.{BinAt}
use Rattle.backend_bins.specs.declared.blocks.Block.{Block}
use Rattle.backend_bins.specs.declared.cut.CutAt.{CutAt}
use Rattle.backend_bins.specs.declared.scan.ScanAt.{ScanAt}
use Rattle.backend_bins.specs.declared.scan.ScanStep.{ScanStep}
use Rattle.backend_bins.specs.Blocks.{bin_of}
use Rattle.coalescer.specs.declared.drain.DrainAt.{DrainAt}
use Rattle.coalescer.specs.declared.drain.DrainCall.{DrainCall}
use Rattle.coalescer.specs.declared.put.PutCall.{PutCall}
use Rattle.coalescer.specs.declared.put.PutStep.{PutStep}
use Rattle.coalescer.specs.Drain.{put_call as drained_put}
use Rattle.reset_steps.specs.declared.unite.UniteAt.{UniteAt}
use Rattle.queue_laws.specs.Puts.{TakesOut}
use Rattle.step_local.specs.declared.frames.At.{At}
use Rattle.step_local.specs.declared.frames.Local.{Local}
use Rattle.step_local.specs.declared.frames.ResetAt.{ResetAt}
use Rattle.step_local.specs.Backend.{drain_call}
use Rattle.step_local.specs.Leaving.{put_call}

-- the steps of a job on a bin by which a block comes into it
abbrev pub PutsIn : BinAt → Type 0
PutsIn BinAt.Lock = ⊤
PutsIn BinAt.Size = ⊤
PutsIn BinAt.Left = ⊤
PutsIn (BinAt.Insert at) = ⊤
PutsIn (BinAt.Out at) = ⊥
PutsIn BinAt.Unlock = ⊤

-- a block that a scan wins or takes out is of the bin whose lock it has
abbrev pub TookFits : ScanAt → Option Block → Type 0
TookFits s (Some b) = s.bin ≡ bin_of b.granules
TookFits s None = ⊤

-- a bin that a scan looks at, and whose lock it is to take, is one of the pool's
abbrev pub ScanFits : ScanAt → ScanStep → Type 0
ScanFits s ScanStep.Peek = s.bin < bin_count
ScanFits s ScanStep.Lock = s.bin < bin_count
ScanFits s (ScanStep.Win b at) = s.bin ≡ bin_of b.granules
ScanFits s (ScanStep.Out b at) = s.bin ≡ bin_of b.granules
ScanFits s (ScanStep.Unlock took) = TookFits s took
ScanFits s _ = ⊤

abbrev pub CutFits : CutAt → Type 0
CutFits (CutAt.Front at) = PutsIn at
CutFits (CutAt.Back at) = PutsIn at
CutFits _ = ⊤

-- a neighbour is taken out of its bin, the block itself is put into one, and none that came from the queue goes back
abbrev pub PutFits : PutCall → PutStep → Type 0
PutFits c (PutStep.UnlinkLeft neighbour at) = TakesOut at
PutFits c (PutStep.UnlinkRight neighbour at) = TakesOut at
PutFits c (PutStep.Queue at) = c.drained ≡ false
PutFits c (PutStep.Bin at) = PutsIn at
PutFits c _ = ⊤

abbrev pub DrainFits : DrainCall → DrainAt → Type 0
DrainFits c DrainAt.Swap = ⊤
DrainFits c (DrainAt.Link first) = ⊤
DrainFits c (DrainAt.Put rest at) = PutFits (drained_put c) at.step

abbrev pub UniteFits : UniteAt → Type 0
UniteFits (UniteAt.Size first) = ⊤
UniteFits (UniteAt.Win b at) = ⊤
UniteFits (UniteAt.Unlink b at) = TakesOut at

abbrev pub ResetFits : ResetAt → Type 0
ResetFits (ResetAt.Unite region at) = UniteFits at
ResetFits (ResetAt.Bin at) = PutsIn at
ResetFits _ = ⊤

abbrev pub FitsAt : Local → At → Type 0
FitsAt l (At.Scan at) = ScanFits at at.step
FitsAt l (At.Cut at) = CutFits at
FitsAt l (At.Whole at) = PutsIn at
FitsAt l (At.Drain at) = DrainFits (drain_call l) at
FitsAt l (At.Put at) = PutFits (put_call l) at.step
FitsAt l (At.Reset at) = ResetFits at
FitsAt l _ = ⊤

abbrev pub BackendFits : Local → Type 0
BackendFits l = FitsAt l l.at

-- in the last bin a guard tells a block's length: one of blocks that are in that bin
abbrev pub LengthFits : ℕ → Guard → Type 0
LengthFits bin (Guard.Free granules) = bin ≡ bin_of granules
LengthFits bin _ = ⊤

abbrev pub ScanFinds : ScanAt → ScanStep → ℕ → Type 0
ScanFinds s (ScanStep.Length first) found = LengthFits s.bin (guard_of found)
ScanFinds s _ found = ⊤

abbrev pub FindsAt : At → ℕ → Type 0
FindsAt (At.Scan at) found = ScanFinds at at.step found
FindsAt _ found = ⊤

-- what the next step finds is of the bin that it is found in
abbrev pub FindsFit : Local → ℕ → Type 0
FindsFit l found = FindsAt l.at found
