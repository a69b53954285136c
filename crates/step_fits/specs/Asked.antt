-- What a local says where the backend is asked for a piece.
use Rattle.std.specs.Prelude.{◌≡◌, ⊤, true, false}
use Rattle.pool_types.specs.Geometry.{slab_granules}
use Rattle.backend_bins.specs.declared.blocks.Want.{Want}
use Rattle.step_local.specs.declared.frames.Call.{Call}
use Rattle.step_local.specs.declared.frames.Local.{Local}
use Rattle.step_local.specs.declared.frames.Served.{Served}
use Rattle.step_local.specs.declared.frames.Stage.{Stage}

-- a slab for small objects, a block for a large one
abbrev pub want_of : Served → Want
want_of (Served.Small class) = record { granules = slab_granules; slab = true }
want_of (Served.Large granules alignment) = record { granules = granules; slab = false }

-- a large block is asked for where the cache has none
abbrev pub HasMissed : Call → Served → Type 0
HasMissed c (Served.Small class) = ⊤
HasMissed c (Served.Large granules alignment) = c.missed ≡ true

-- what is asked is what is served
abbrev pub Asks : Local → Type 0
Asks l = (l.call.stage ≡ Stage.Getting) × (l.ask.want ≡ want_of l.call.served) × HasMissed l.call l.call.served
