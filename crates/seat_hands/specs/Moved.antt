-- How blocks move under a seat's hand.
use Rattle.std.specs.Prelude.{◌≡◌, ◌≢◌, ◌⊎◌, ℕ, ◌+◌, ◌<◌, ◌≤◌, List, ⊤}
use Rattle.guards.specs.declared.win.Taking.{Taking}
use Rattle.chain_laws.specs.Chains.{tally}
use Rattle.guard_laws.specs.Blocks.{Use, Place}

-- nothing changes but between these granules
abbrev pub SameBut : (ℕ → Place) → (ℕ → Place) → ℕ → ℕ → Type 0
SameBut later place first n = (z : ℕ) → (z < first) ⊎ (first + n ≤ z) → later z ≡ place z

-- the block is not in this seat's hand
abbrev pub IsNotOf : ℕ → Use → Type 0
IsNotOf seat Use.Bin = ⊤
IsNotOf seat (Use.Held other taking) = other ≢ seat
IsNotOf seat Use.Queued = ⊤
IsNotOf seat Use.Elsewhere = ⊤

-- no block that the seat has in hand begins between these granules
abbrev pub HasNone : (ℕ → Place) → ℕ → ℕ → ℕ → Type 0
HasNone place seat first n = (y m : ℕ) (taking : Taking) → first ≤ y → y < first + n
    → place y ≢ Place.Block y m (Use.Held seat taking)

-- what the seat took of the queue lies in its hand
abbrev pub DrainedLie : (ℕ → Place) → List ℕ → ℕ → Type 0
DrainedLie place drained seat = (x : ℕ) → 0 < tally x drained
    → (n : ℕ) × (place x ≡ Place.Block x n (Use.Held seat Taking.ToJoin))

-- blocks in the seat's hand stay where they are
abbrev pub HandsStand : (ℕ → Place) → (ℕ → Place) → ℕ → Type 0
HandsStand later place seat = (y m : ℕ) (taking : Taking) → place y ≡ Place.Block y m (Use.Held seat taking)
    → later y ≡ place y
