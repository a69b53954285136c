-- A turn after which a slab that is to begin is even, and a large object is to begin in its block; where the granule at
-- which it does is one of a pool.
use Rattle.std.proofs.Common.{Bool, true, false, cond, ◌+◌, ◌<◌, ◌^◌}
use Rattle.std.specs.Prelude.{⊤}
use Rattle.pool_types.specs.declared.values.Turn.{Turn}
use Rattle.backend_bins.specs.declared.blocks.Block.{Block}
use Rattle.step_local.specs.declared.frames.At.{At}
use Rattle.step_local.specs.declared.frames.LargeAt.{LargeAt}
use Rattle.step_local.specs.declared.frames.Local.{Local}
use Rattle.step_local.specs.declared.frames.SmallAt.{SmallAt}
use Rattle.slab_moves.specs.Says.{PlaceSays}

abbrev pub IsLow : Block → At → Type 0
IsLow b (At.Small (SmallAt.Next slab)) = slab < 2 ^ 32
IsLow b (At.Large (LargeAt.Kind unit)) = b.first + b.granules < 2 ^ 32
IsLow b _ = ⊤

abbrev pub IsPlaced : Local × Turn → Type 0
IsPlaced turn = IsLow turn.0.call.block turn.0.at → PlaceSays turn.0.call.block turn.0.at

pub either : (b : Bool) (x y : Local × Turn) → IsPlaced x → IsPlaced y → IsPlaced (cond b x y)
either true x y one other = one
either false x y one other = other
