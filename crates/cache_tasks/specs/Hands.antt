-- What leaves a bin of the cache with a step is in the local's hand after it: in its call, in a put, or released.
use Rattle.std.specs.Prelude.{◌≡◌, ◌⊎◌, ℕ, true, false, None, List, [], ◌∷◌, ◌++◌, ⊤}
use Rattle.backend_bins.specs.Blocks.{block}
use Rattle.coalescer.specs.Put.{put_begins}
use Rattle.large_cache.specs.declared.get.GetAt.{GetAt}
use Rattle.large_cache.specs.declared.sweep.SweepAt.{SweepAt}
use Rattle.shelf_laws.specs.Steps.{left_by_get, left_by_keep, left_by_sweep}
use Rattle.step_local.specs.declared.frames.At.{At}
use Rattle.step_local.specs.declared.frames.Local.{Local}
use Rattle.step_local.specs.declared.frames.OfficeFor.{OfficeFor}
use Rattle.step_local.specs.declared.frames.PutFor.{PutFor}
use Rattle.step_local.specs.Large.{granules_of_served}
use Rattle.cache_tasks.specs.Cache.{gone_at}

-- the one block that a get took is the call's
abbrev pub GotFrom : Local → Local → List ℕ → Type 0
GotFrom l next [] = ⊤
GotFrom l next (x ∷ xs) = (xs ≡ []) × (next.call.block ≡ block x (granules_of_served l.call.served))
    × (next.call.missed ≡ false)

-- a get that took none has missed
abbrev pub MissedFrom : Local → GetAt → Type 0
MissedFrom next (GetAt.Unlock None) = next.call.missed ≡ true
MissedFrom next _ = ⊤

-- the one block that a put released is put
abbrev pub KeptFrom : Local → Local → List ℕ → Type 0
KeptFrom l next [] = ⊤
KeptFrom l next (x ∷ xs) = (xs ≡ []) × (next.at ≡ At.Put (put_begins (block x l.call.block.granules)))
    × (next.put ≡ PutFor.Released)

-- of these blocks of a bin the oldest is put, and the others are released still
pub record PutsOldest (l next : Local) (blocks : List ℕ) : Type 0 where
  pub oldest : ℕ
  pub others : List ℕ
  pub is : blocks ≡ others ++ (oldest ∷ [])
  pub begins : next.at ≡ At.Put (put_begins (block oldest l.sweep.granules))
  pub why : next.put ≡ PutFor.Swept
  pub rest : next.released.items ≡ others
  pub sweep' : next.sweep ≡ l.sweep

abbrev pub PutsFrom : Local → Local → List ℕ → Type 0
PutsFrom l next blocks = PutsOldest l next blocks ⊎ ((blocks ≡ []) × (next.released.items ≡ []))

-- what a sweep released is what leaves the bin as its lock is freed, and no block leaves it before
abbrev pub SweptFrom : Local → Local → SweepAt → Type 0
SweptFrom l next SweepAt.Unlock =
    (left_by_sweep (gone_at l.released.items SweepAt.Unlock) SweepAt.Unlock ≡ l.released.items)
    × PutsFrom l next l.released.items
SweptFrom l next at = left_by_sweep (gone_at l.released.items at) at ≡ []

abbrev pub ComesIntoHand : Local → Local → At → Type 0
ComesIntoHand l next (At.Get at) = GotFrom l next (left_by_get at) × MissedFrom next at
ComesIntoHand l next (At.Keep at) = KeptFrom l next (left_by_keep at)
ComesIntoHand l next (At.Sweep at) = SweptFrom l next at
ComesIntoHand l next _ = ⊤

-- a block is put, or the region that it is is given back
abbrev pub IsPutting : At → Type 0
IsPutting (At.Put at) = ⊤
IsPutting (At.Office (OfficeFor.Put first) at) = ⊤
IsPutting _ = ⊥

pub record GoesOnPutting (l next : Local) : Type 0 where
  pub puts : IsPutting next.at
  pub why : next.put ≡ l.put
  pub rest : next.released ≡ l.released
  pub sweep' : next.sweep ≡ l.sweep

-- where the put of a swept block is done, the oldest of the others is put
abbrev pub PutsOn : Local → Local → Type 0
PutsOn l next = GoesOnPutting l next ⊎ PutsFrom l next l.released.items
