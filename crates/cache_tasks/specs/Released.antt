-- The blocks that a local has taken out of a bin of the cache and not begun to put, by its position.
use Rattle.std.specs.Prelude.{◌≡◌, ◌<◌, ℕ, List, [], length, ⊤}
use Rattle.large_cache.specs.declared.sweep.SweepAt.{SweepAt}
use Rattle.reset_steps.specs.declared.clear.ClearAt.{ClearAt}
use Rattle.step_local.specs.declared.frames.At.{At}
use Rattle.step_local.specs.declared.frames.Local.{Local}
use Rattle.step_local.specs.declared.frames.OfficeFor.{OfficeFor}
use Rattle.step_local.specs.declared.frames.PutFor.{PutFor}
use Rattle.step_local.specs.declared.frames.ResetAt.{ResetAt}
use Rattle.step_local.specs.declared.frames.ResetStage.{ResetStage}
use Rattle.step_local.specs.declared.frames.Stage.{Stage}
use Rattle.step_local.specs.Frames.{most_released}

abbrev pub NoneReleased : Local → Type 0
NoneReleased l = l.released.items ≡ []

-- a sweep has released some once it walks the blocks of its bin
abbrev pub SweepFits : List ℕ → SweepAt → Type 0
SweepFits released (SweepAt.Age walk) = ⊤
SweepFits released (SweepAt.Link walk) = ⊤
SweepFits released (SweepAt.Cut walk) = ⊤
SweepFits released (SweepAt.SetItems walk) = ⊤
SweepFits released (SweepAt.SetCleaned walk) = ⊤
SweepFits released SweepAt.Unlock = ⊤
SweepFits released _ = released ≡ []

-- while a block that a sweep released is put, the others of its bin wait
abbrev pub PutFits : List ℕ → PutFor → Type 0
PutFits released PutFor.Swept = ⊤
PutFits released _ = released ≡ []

abbrev pub OfficeFits : List ℕ → PutFor → OfficeFor → Type 0
OfficeFits released why (OfficeFor.Put first) = PutFits released why
OfficeFits released why _ = released ≡ []

-- a reset empties a bin, and puts its blocks one by one
abbrev pub ClearFits : List ℕ → ClearAt → Type 0
ClearFits released (ClearAt.Peek number) = released ≡ []
ClearFits released ClearAt.Lock = released ≡ []
ClearFits released ClearAt.Head = released ≡ []
ClearFits released _ = ⊤

abbrev pub BinFits : List ℕ → Stage → Type 0
BinFits released (Stage.Resetting (ResetStage.Cache granules)) = ⊤
BinFits released _ = released ≡ []

abbrev pub ResetFits : List ℕ → Stage → ResetAt → Type 0
ResetFits released stage (ResetAt.Clear granules at) = ClearFits released at
ResetFits released stage (ResetAt.Bin at) = BinFits released stage
ResetFits released stage _ = released ≡ []

abbrev pub FitsAt : Local → At → Type 0
FitsAt l (At.Sweep at) = SweepFits l.released.items at
FitsAt l (At.Put at) = PutFits l.released.items l.put
FitsAt l (At.Office job at) = OfficeFits l.released.items l.put job
FitsAt l (At.Reset at) = ResetFits l.released.items l.call.stage at
FitsAt l _ = NoneReleased l

-- there is room for the blocks of a bin, and none is released but while one is swept, or cleared, or they are put
pub record ReleasedFits (l : Local) : Type 0 where
  pub room : l.released.room ≡ most_released
  pub fits : FitsAt l l.at

-- a sweep that takes the lock has released none, and one that judges a block has room for it
abbrev pub HasRoomAt : Local → At → Type 0
HasRoomAt l (At.Sweep SweepAt.Lock) = NoneReleased l
HasRoomAt l (At.Sweep (SweepAt.Age walk)) = length l.released.items < l.released.room
HasRoomAt l _ = ⊤

abbrev pub HasRoom : Local → Type 0
HasRoom l = HasRoomAt l l.at
