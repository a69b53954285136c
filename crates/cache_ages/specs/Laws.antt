-- What every step of a cache bin keeps, said of the ages before it and after it.
use Rattle.std.specs.Prelude.{◌≡◌, ◌≤◌, ℕ, ◌-◌, Bool, true, false, List, [], ◌∷◌, ◌++◌, length, take}
use Rattle.cache_ages.specs.CacheSteps.{cache_step}
use Rattle.cache_ages.specs.declared.CacheNumbers.{CacheNumbers}
use Rattle.cache_ages.specs.declared.CacheOp.{CacheOp}
use Rattle.cache_ages.specs.declared.CacheOp.TheVariants.{Get, Put, Undo, Regular, Soft, Hard}

-- the item that an operation puts into the bin
abbrev pub put_by : CacheOp → ℕ → List ℕ
put_by Get time = []
put_by Put time = time ∷ []
put_by Undo time = []
put_by Regular time = []
put_by Soft time = []
put_by Hard time = []

-- the oldest `released` are gone, and the others stay in their order behind what was put
pub record LeavesAllButOldest (old new put : List ℕ) (released : ℕ) : Type 0 where
  pub within : released ≤ length old
  pub others : new ≡ put ++ take (length old - released) old

-- the newest is gone, and the others stay in their order
pub record LeavesAllButNewest (old new : List ℕ) (released : ℕ) : Type 0 where
  pub newest : ℕ
  pub others : old ≡ newest ∷ new
  pub none_released : released ≡ 0

-- an item leaves as the newest by being taken, or as one of the oldest by being released
abbrev pub LeavesInOrder : Bool → List ℕ → List ℕ → List ℕ → ℕ → Type 0
LeavesInOrder true old new put released = LeavesAllButNewest old new released
LeavesInOrder false old new put released = LeavesAllButOldest old new put released

-- a Get right after a Put takes the item that was put, and leaves the items from before the Put, without
-- the oldest where the bin was full
pub record IsTakenAgain (numbers : CacheNumbers) (put get : ℕ) : Type 0 where
  pub taken : (cache_step (cache_step numbers Put put).numbers Get get).taken ≡ true
  pub item : (cache_step numbers Put put).numbers.ages.items ≡ put ∷ take 63 numbers.ages.items
  pub rest : (cache_step (cache_step numbers Put put).numbers Get get).numbers.ages.items ≡ take 63 numbers.ages.items

-- so it is with every bin, at all times
abbrev pub GetTakesWhatWasPut : Type 0
GetTakesWhatWasPut =
    (numbers : CacheNumbers) (put get : ℕ) → length numbers.ages.items ≤ 64 → IsTakenAgain numbers put get

-- an Undo gives back what a Get that missed counted as used, and leaves the rest of what that Get did
abbrev pub UndoRestoresUsed : Type 0
UndoRestoresUsed =
    (numbers : CacheNumbers) (time later : ℕ)
    → (cache_step numbers Get time).taken ≡ false
    → cache_step (cache_step numbers Get time).numbers Undo later
    ≡ record {
      numbers = record (cache_step numbers Get time).numbers { used = numbers.used };
      taken = false;
      released = 0;
    }
