-- What a scan has of the block that it wins and takes out of its bin: the block fits what is wanted, and once it is won
-- it is in the seat's hand.
use Rattle.std.specs.Prelude.{◌≡◌, ℕ, ◌+◌, ◌%◌, ◌≤◌, true, Some, None, ⊤}
use Rattle.guards.specs.declared.win.Taking.{Taking}
use Rattle.guards.specs.declared.win.WinNext.{WinNext}
use Rattle.guards.specs.Win.{win_learn}
use Rattle.backend_bins.specs.declared.blocks.Block.{Block}
use Rattle.backend_bins.specs.declared.blocks.Want.{Want}
use Rattle.backend_bins.specs.declared.scan.ScanNext.{ScanNext}
use Rattle.backend_bins.specs.declared.scan.ScanStep.{ScanStep}
use Rattle.backend_bins.specs.Blocks.{bin_of, fits, piece_of}
use Rattle.backend_bins.specs.Scan.{win_of}
use Rattle.guard_laws.specs.Blocks as blocks
use Rattle.guard_laws.specs.Blocks.{Use, Place, CallFits}
use Rattle.guard_laws.specs.Steps.{shadow_won}

-- the block is to be won: it fits, and its guards are where its length says
pub record IsToWin (want : Want) (b : Block) : Type 0 where
  pub fit : fits want b ≡ true
  pub call : CallFits (win_of b)

-- the block is won
pub record HasFit (g : blocks.Shadow) (seat : ℕ) (want : Want) (b : Block) : Type 0 where
  pub fit : fits want b ≡ true
  pub hand : g.place b.first ≡ Place.Block b.first b.granules (Use.Held seat Taking.ForUse)

-- the wanted piece lies in the block, and that for a slab begins at an even granule
pub record HasPiece (want : Want) (b : Block) : Type 0 where
  pub granules : (piece_of want b).granules ≡ want.granules
  pub from : b.first ≤ (piece_of want b).first
  pub to : (piece_of want b).first + want.granules ≤ b.first + b.granules
  pub even : want.slab ≡ true → (piece_of want b).first % 2 ≡ 0

abbrev pub TakeFits : blocks.Shadow → ℕ → Want → ScanStep → Type 0
TakeFits g seat want ScanStep.Peek = ⊤
TakeFits g seat want ScanStep.Lock = ⊤
TakeFits g seat want ScanStep.Head = ⊤
TakeFits g seat want (ScanStep.Length first) = ⊤
TakeFits g seat want (ScanStep.Win b at) = IsToWin want b
TakeFits g seat want (ScanStep.Next first) = ⊤
TakeFits g seat want (ScanStep.Out b at) = HasFit g seat want b
TakeFits g seat want (ScanStep.Unlock (Some b)) = HasFit g seat want b
TakeFits g seat want (ScanStep.Unlock None) = ⊤

abbrev pub AfterTake : blocks.Shadow → ℕ → Want → ScanNext → Type 0
AfterTake g seat want (ScanNext.Goes s) = TakeFits g seat want s.step
AfterTake g seat want ScanNext.WaitsLock = ⊤
AfterTake g seat want (ScanNext.WaitsHalf bin s) = TakeFits g seat want s.step
AfterTake g seat want (ScanNext.Took b) = HasFit g seat want b × HasPiece want b
AfterTake g seat want (ScanNext.Nothing seen) = ⊤

-- a scan's step leaves blocks as they are, but for one that it wins
abbrev pub shadow_scanned : ℕ → ScanStep → ℕ → blocks.Shadow → blocks.Shadow
shadow_scanned seat ScanStep.Peek found g = g
shadow_scanned seat ScanStep.Lock found g = g
shadow_scanned seat ScanStep.Head found g = g
shadow_scanned seat (ScanStep.Length first) found g = g
shadow_scanned seat (ScanStep.Win b at) found g = shadow_won seat (win_of b) (win_learn (win_of b) at found) g
shadow_scanned seat (ScanStep.Next first) found g = g
shadow_scanned seat (ScanStep.Out b at) found g = g
shadow_scanned seat (ScanStep.Unlock took) found g = g

-- where a scan is to win a block, the seat's task on guards is that win
abbrev pub IsWinning : blocks.Task → ScanStep → Type 0
IsWinning task ScanStep.Peek = ⊤
IsWinning task ScanStep.Lock = ⊤
IsWinning task ScanStep.Head = ⊤
IsWinning task (ScanStep.Length first) = ⊤
IsWinning task (ScanStep.Win b at) = task ≡ blocks.Task.Wins (win_of b) at
IsWinning task (ScanStep.Next first) = ⊤
IsWinning task (ScanStep.Out b at) = ⊤
IsWinning task (ScanStep.Unlock took) = ⊤
