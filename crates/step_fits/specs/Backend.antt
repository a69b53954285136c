-- What a local says where a block is put, cut or got of the backend.
use Rattle.std.specs.Prelude.{◌≡◌, ⊤, true, Option, Some, None}
use Rattle.backend_bins.specs.declared.blocks.Block.{Block}
use Rattle.backend_bins.specs.declared.blocks.Want.{Want}
use Rattle.backend_bins.specs.declared.scan.ScanStep.{ScanStep}
use Rattle.backend_bins.specs.Blocks.{fits}
use Rattle.step_local.specs.declared.frames.Local.{Local}
use Rattle.step_local.specs.declared.frames.OfficeFor.{OfficeFor}
use Rattle.step_local.specs.declared.frames.PutFor.{PutFor}
use Rattle.step_local.specs.declared.frames.Stage.{Stage}
use Rattle.step_fits.specs.Asked.{Asks}
use Rattle.step_fits.specs.Small.{CleansHard, IsEnding, LeavesLow}
use Rattle.step_fits.specs.Large.{SweepFits}

-- why a block is put
abbrev pub PutFits : Local → PutFor → Type 0
PutFits l PutFor.Surplus = IsEnding l.call.stage × LeavesLow l
PutFits l PutFor.Released = IsEnding l.call.stage
PutFits l PutFor.Swept = SweepFits l
PutFits l PutFor.Emptied = CleansHard l
PutFits l PutFor.Left = l.call.stage ≡ Stage.Leaving

abbrev pub OfficeFits : Local → OfficeFor → Type 0
OfficeFits l OfficeFor.Ask = Asks l
OfficeFits l (OfficeFor.Put first) = PutFits l l.put
OfficeFits l (OfficeFor.Drain first rest) = Asks l

-- a block that a scan takes has the piece that is wanted
abbrev pub TookFits : Want → Option Block → Type 0
TookFits want (Some b) = fits want b ≡ true
TookFits want None = ⊤

abbrev pub ScanFits : Want → ScanStep → Type 0
ScanFits want (ScanStep.Win b at) = fits want b ≡ true
ScanFits want (ScanStep.Out b at) = fits want b ≡ true
ScanFits want (ScanStep.Unlock took) = TookFits want took
ScanFits want _ = ⊤

-- and so has the block that the piece is cut from
abbrev pub CutFits : Local → Type 0
CutFits l = Asks l × (fits l.ask.want l.ask.block ≡ true)
