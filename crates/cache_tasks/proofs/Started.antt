-- A turn after which a job of the cache may begin, and that releases no block.
use Rattle.std.proofs.Common.{◌≡◌, Bool, true, false, cond, refl, ap, ℕ}
use Rattle.std.specs.Prelude.{◌-◌, [], length, take}
use Rattle.pool_types.specs.declared.values.Turn.{Turn}
use Rattle.heap_slabs.specs.Rolls.{Rolled, without_newest}
use Rattle.step_local.specs.declared.frames.Local.{Local}
use Rattle.cache_tasks.specs.Cache.{CacheStarts}

-- as much room, and none released where none was
abbrev pub Kept : Rolled ℕ → Rolled ℕ → Type 0
Kept before after = (after.room ≡ before.room) × (before.items ≡ [] → after.items ≡ [])

pub same : (r : Rolled ℕ) → Kept r r
same r = (refl, λ none. none)

pub kept_oldest : (r : Rolled ℕ) → Kept r (without_newest r)
kept_oldest r = (refl, λ none. ap (λ items. take (length items - 1) items) none)

abbrev pub IsStarted : Local → Local × Turn → Type 0
IsStarted l turn = CacheStarts turn.0 × Kept l.released turn.0.released

pub either : (l : Local) (b : Bool) (x y : Local × Turn) → IsStarted l x → IsStarted l y → IsStarted l (cond b x y)
either l true x y one other = one
either l false x y one other = other
