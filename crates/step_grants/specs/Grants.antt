-- Grants by their marks: where they are, which were made, in which order, and which were ended.
use Rattle.std.specs.Prelude.{◌≡◌, ◌⊎◌, ℕ, zero, suc, ◌+◌, ◌-◌, ◌<◌, ◌≤◌, List, [], ◌∷◌, length, Option, Some, None}
use Rattle.pool_types.specs.declared.values.Grant.{Grant}
use Rattle.word_codes.specs.declared.marks.Mark.{Mark}
use Rattle.word_codes.specs.Marks.{mark_of}
use Rattle.step_local.specs.declared.frames.Object.{Object}
use Rattle.step_local.specs.Getting.{last_grant}
use Rattle.step_runs.specs.declared.entry.Entry.{Entry}
use Rattle.step_runs.specs.Runs.{Callback, Silent}
use Rattle.step_local.specs.declared.frames.Local.{Local}
use Rattle.step_numbers.specs.Positions.{granting}

-- the unit's mark names the grant
abbrev pub IsAt : (ℕ → ℕ) → Grant → ℕ → Type 0
IsAt marks grant unit = mark_of (marks unit) ≡ Mark.Granted grant

-- the number of each seat's last grant
abbrev pub lasts_of : {D : Type 0} → (ℕ → Entry D) → ℕ → ℕ
lasts_of entries seat = (entries seat).local.last

-- the grant is of a seat of the pool that has come to its number
pub record IsMade (seats : ℕ) (lasts : ℕ → ℕ) (grant : Grant) : Type 0 where
  pub seat : grant.seat < seats
  pub first : 1 ≤ grant.number
  pub last : grant.number ≤ lasts grant.seat

-- marks name grants that were made, and no two units' marks name one grant
pub record AreApart (seats : ℕ) (marks lasts : ℕ → ℕ) : Type 0 where
  pub made : (u : ℕ) (grant : Grant) → IsAt marks grant u → IsMade seats lasts grant
  pub one : (u v : ℕ) (grant : Grant) → IsAt marks grant u → IsAt marks grant v → u ≡ v

-- between these words and later ones no grant returns, and none goes from unit to unit
pub record NeverReturn (marks lasts marks' lasts' : ℕ → ℕ) : Type 0 where
  pub rise : (seat : ℕ) → lasts seat ≤ lasts' seat
  -- a grant that a unit's mark names was named there before, or was not made yet
  pub came : (u : ℕ) (grant : Grant) → IsAt marks' grant u → IsAt marks grant u ⊎ (lasts grant.seat < grant.number)
  -- a grant that was made, and that no mark names, is named by none any more
  pub gone : (grant : Grant) → grant.number ≤ lasts grant.seat → ((u : ℕ) → IsAt marks grant u → ⊥)
      → (u : ℕ) → IsAt marks' grant u → ⊥

-- a seat's numbers stay at most the last one, and one is left where its next step grants
pub record StayBelow {D : Type 0} (c : Callback D) (entry : Entry D) : Type 0 where
  pub below : entry.local.last ≤ last_grant
  pub left : (l : Local) (desk : Option D) (unit : ℕ) → Silent c entry.local entry.desk l desk
      → granting l.at ≡ Some unit → l.last < last_grant

abbrev pub marked : Mark → Option Grant
marked (Mark.Granted grant) = Some grant
marked Mark.Unmarked = None
marked (Mark.Hand seat) = None
marked (Mark.Link unit) = None
marked Mark.End = None
marked Mark.EndUnusable = None

-- the grant of the object at this place of a list
abbrev pub grant_in : List Object → ℕ → Option Grant
grant_in [] i = None
grant_in (x ∷ xs) zero = marked (mark_of x.mark)
grant_in (x ∷ xs) (suc i) = grant_in xs i

-- the seat's grants have the numbers from 1 on, in order
pub record InOrder (seat last : ℕ) (grants : List Object) : Type 0 where
  pub count : length grants ≡ last
  pub each : (i : ℕ) → i < last → grant_in grants i ≡ Some (record { seat = seat; number = i + 1 })

-- what each seat has ended
abbrev pub frees_of : {D : Type 0} → (ℕ → Entry D) → ℕ → List Object
frees_of entries seat = (entries seat).frees

-- what was ended: each was a grant that was made before, no mark names it any more, and it was ended once
pub record EndOnce (seats : ℕ) (marks lasts : ℕ → ℕ) (frees : ℕ → List Object) : Type 0 where
  pub all : (seat i : ℕ) → i < length (frees seat) → (grant : Grant) × (grant_in (frees seat) i ≡ Some grant)
  pub made : (seat i : ℕ) (grant : Grant) → grant_in (frees seat) i ≡ Some grant → IsMade seats lasts grant
  pub gone : (seat i : ℕ) (grant : Grant) → grant_in (frees seat) i ≡ Some grant → (u : ℕ) → IsAt marks grant u → ⊥
  pub once : (seat i other j : ℕ) (grant : Grant) → grant_in (frees seat) i ≡ Some grant
      → grant_in (frees other) j ≡ Some grant → (seat ≡ other) × (i ≡ j)

-- the grant is one of its seat's, and no seat has ended it
pub record IsNotEnded {D : Type 0} (entries : ℕ → Entry D) (grant : Grant) : Type 0 where
  pub granted : grant_in (entries grant.seat).grants (grant.number - 1) ≡ Some grant
  pub kept : (seat i : ℕ) → grant_in (entries seat).frees i ≡ Some grant → ⊥
