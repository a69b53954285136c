-- The laws of what seats have in hand, as blocks move.
use Rattle.std.specs.Prelude.{◌≡◌, ℕ, ◌+◌, ◌^◌, ◌<◌, ◌≤◌, List, ◌∷◌, ◌++◌}
use Rattle.guards.specs.declared.win.Taking.{Taking}
use Rattle.chain_laws.specs.Chains.{tally}
use Rattle.guard_laws.specs.Blocks.{Use, Place, BlocksWhole}
use Rattle.hand_blocks.specs.Changes.{Alters, Change}
use Rattle.hand_blocks.specs.Fits.{AllLie}
use Rattle.hand_blocks.specs.Hands.{Hand, hand}
use Rattle.seat_ties.specs.Ties.{AreInHand, HandsTied, LiesFor}
use Rattle.seat_hands.specs.Moved.{DrainedLie, HandsStand, HasNone, IsNotOf, SameBut}

-- what is in hand has some granules, below the end of all indices
abbrev pub HandsLie : Type 0
HandsLie = (place : ℕ → Place) (span seat : ℕ) (hands : List Hand) → BlocksWhole place → span < 2 ^ 32
    → ((x n : ℕ) (u : Use) → place x ≡ Place.Block x n u → x + n ≤ span) → AreInHand place seat hands → AllLie hands

-- each of the blocks in hand lies there, and is left of no chain
pub record IsOfHands (place : ℕ → Place) (drained : List ℕ) (seat : ℕ) (one : Hand) : Type 0 where
  pub lies : LiesFor place seat one.first one.granules one.taking
  pub apart : tally one.first drained ≡ 0

abbrev pub EachIsOfHands : Type 0
EachIsOfHands = (place : ℕ → Place) (drained : List ℕ) (seat : ℕ) (above below : List Hand) (one : Hand)
    → HandsTied place drained seat (above ++ (one ∷ below)) → IsOfHands place drained seat one

-- a block that is not the seat's is none of these, and so it is with granules outside of all blocks
abbrev pub OthersAreNone : Type 0
OthersAreNone = (place : ℕ → Place) (seat first n : ℕ) (u : Use) → BlocksWhole place
    → place first ≡ Place.Block first n u → IsNotOf seat u → HasNone place seat first n

abbrev pub OutsideIsNone : Type 0
OutsideIsNone = (place : ℕ → Place) (seat first n : ℕ)
    → ((z : ℕ) → first ≤ z → z < first + n → place z ≡ Place.Outside) → HasNone place seat first n

-- where blocks in hand stay where they are, the hands do
abbrev pub HandsStay : Type 0
HandsStay = (place later : ℕ → Place) (drained : List ℕ) (seat : ℕ) (hands : List Hand)
    → HandsTied place drained seat hands → HandsStand later place seat → HandsTied later drained seat hands

-- blocks in hand stay where they are, if only granules of none of them change
abbrev pub HandsStandElsewhere : Type 0
HandsStandElsewhere = (place later : ℕ → Place) (seat first n : ℕ) → HasNone place seat first n
    → SameBut later place first n → HandsStand later place seat

abbrev pub HandsCome : Type 0
HandsCome = (place later : ℕ → Place) (drained : List ℕ) (seat first n : ℕ) (taking : Taking)
    (before after : List Hand) → HandsTied place drained seat before → HasNone place seat first n
    → 0 < n → tally first drained ≡ 0 → SameBut later place first n
    → later first ≡ Place.Block first n (Use.Held seat taking)
    → Alters (Change.Comes (hand first n taking)) before after → HandsTied later drained seat after

abbrev pub HandsLeave : Type 0
HandsLeave = (place later : ℕ → Place) (drained : List ℕ) (seat n : ℕ) (one : Hand) (before after : List Hand)
    → HandsTied place drained seat before → BlocksWhole place
    → place one.first ≡ Place.Block one.first n (Use.Held seat one.taking) → SameBut later place one.first n
    → Alters (Change.Leaves one) before after → HandsTied later drained seat after

abbrev pub HandsSplit : Type 0
HandsSplit = (place later : ℕ → Place) (drained : List ℕ) (seat first a b : ℕ) (before after : List Hand)
    → HandsTied place drained seat before → BlocksWhole place → DrainedLie place drained seat
    → SameBut later place first (a + b)
    → later first ≡ Place.Block first a (Use.Held seat Taking.ForUse)
    → later (first + a) ≡ Place.Block (first + a) b (Use.Held seat Taking.ForUse)
    → Alters (Change.Splits first a b) before after → HandsTied later drained seat after

abbrev pub HandsMerge : Type 0
HandsMerge = (place later : ℕ → Place) (drained : List ℕ) (seat first a b : ℕ) (before after : List Hand)
    → HandsTied place drained seat before → BlocksWhole place → SameBut later place first (a + b)
    → later first ≡ Place.Block first (a + b) (Use.Held seat Taking.ToJoin)
    → Alters (Change.Merges first a b) before after → HandsTied later drained seat after

abbrev pub HandsForget : Type 0
HandsForget = (place : ℕ → Place) (drained : List ℕ) (seat first n : ℕ) (before after : List Hand)
    → HandsTied place drained seat before → Alters (Change.Forgets first n) before after
    → HandsTied place drained seat after

-- the first block of what the seat took of the queue is in its hand by itself once its link is read
abbrev pub HandsAreRead : Type 0
HandsAreRead = (place : ℕ → Place) (rest : List ℕ) (seat first n : ℕ) (before after : List Hand)
    → HandsTied place (first ∷ rest) seat before → tally first rest ≡ 0
    → place first ≡ Place.Block first n (Use.Held seat Taking.ToJoin)
    → Alters (Change.Comes (hand first n Taking.ToJoin)) before after → HandsTied place rest seat after
