-- What a local says in a reset.
use Rattle.std.specs.Prelude.{◌≡◌, ℕ, ◌≤◌, ⊤}
use Rattle.pool_types.specs.Geometry.{slab_granules}
use Rattle.step_local.specs.declared.frames.Local.{Local}
use Rattle.step_local.specs.declared.frames.ResetAt.{ResetAt}
use Rattle.step_local.specs.declared.frames.ResetStage.{ResetStage}
use Rattle.step_local.specs.declared.frames.Stage.{Stage}
use Rattle.step_local.specs.Frames.{last_cache_bin}
use Rattle.step_fits.specs.Small.{ResetEnds}

-- all but the heap is reset
abbrev pub IsPoolReset : ResetStage → Type 0
IsPoolReset (ResetStage.Heap class) = ⊥
IsPoolReset (ResetStage.Orphans rest) = ⊤
IsPoolReset (ResetStage.Large region granule) = ⊤
IsPoolReset (ResetStage.Cache granules) = ⊤
IsPoolReset (ResetStage.Queue rest) = ⊤
IsPoolReset (ResetStage.Regions below) = ⊤

abbrev pub ResetsPool : Stage → Type 0
ResetsPool (Stage.Resetting stage) = IsPoolReset stage
ResetsPool Stage.Idle = ⊥
ResetsPool Stage.Looking = ⊥
ResetsPool Stage.Getting = ⊥
ResetsPool Stage.Ending = ⊥
ResetsPool Stage.Replacing = ⊥
ResetsPool Stage.Undoing = ⊥
ResetsPool Stage.Leaving = ⊥

abbrev pub Strips : Local → ℕ → Stage → Type 0
Strips l slab (Stage.Resetting stage) = ResetEnds l slab stage
Strips l slab Stage.Idle = ⊥
Strips l slab Stage.Looking = ⊥
Strips l slab Stage.Getting = ⊥
Strips l slab Stage.Ending = ⊥
Strips l slab Stage.Replacing = ⊥
Strips l slab Stage.Undoing = ⊥
Strips l slab Stage.Leaving = ⊥

-- a bin of the cache
pub record IsCacheBin (granules : ℕ) : Type 0 where
  pub least : 1 ≤ granules
  pub most : granules ≤ last_cache_bin

-- the block in hand is a slab's, or one of the cache bin that is emptied
abbrev pub StageBins : Local → ResetStage → Type 0
StageBins l (ResetStage.Heap class) = l.call.block.granules ≡ slab_granules
StageBins l (ResetStage.Orphans rest) = l.call.block.granules ≡ slab_granules
StageBins l (ResetStage.Large region granule) = ⊤
StageBins l (ResetStage.Cache granules) = IsCacheBin granules × (l.call.block.granules ≡ granules)
StageBins l (ResetStage.Queue rest) = ⊤
StageBins l (ResetStage.Regions below) = ⊤

abbrev pub Bins : Local → Stage → Type 0
Bins l (Stage.Resetting stage) = StageBins l stage
Bins l Stage.Idle = ⊥
Bins l Stage.Looking = ⊥
Bins l Stage.Getting = ⊥
Bins l Stage.Ending = ⊥
Bins l Stage.Replacing = ⊥
Bins l Stage.Undoing = ⊥
Bins l Stage.Leaving = ⊥

abbrev pub ResetFits : Local → ResetAt → Type 0
ResetFits l (ResetAt.Strip slab at) = Strips l slab l.call.stage
ResetFits l (ResetAt.Seek at) = ResetsPool l.call.stage
ResetFits l (ResetAt.Evict region at) = ResetsPool l.call.stage
ResetFits l (ResetAt.Clear granules at) = ResetsPool l.call.stage × IsCacheBin granules
ResetFits l (ResetAt.Unqueue at) = ResetsPool l.call.stage
ResetFits l (ResetAt.Unite region at) = ResetsPool l.call.stage
ResetFits l (ResetAt.Bin at) = Bins l l.call.stage
