-- The links in the arrays, and when they make these lists.
use Rattle.std.specs.Prelude.{◌≡◌, ℕ, zero, suc, ◌<◌, ◌^◌, List, [], ◌∷◌, Option, Some, None, slice_index_or, slice_set, length, map}
use Rattle.index_lists.specs.Lists.{Lists, members, AreApart}

-- by its index, the member that each member leads to
abbrev pub Links : Type 0
Links = List (Option ℕ)

-- the link at an index
abbrev pub link : Links → ℕ → Option ℕ
link links index = slice_index_or links index None

-- the link at an index, if there is one, is now `to`
abbrev pub after_set_link : Links → Option ℕ → Option ℕ → Links
after_set_link links None to = links
after_set_link links (Some index) to = slice_set links index to

-- what the links go through from here on, in at most so many steps
unfoldable pub walk : Links → ℕ → Option ℕ → List ℕ
walk after zero next = []
walk after (suc steps) None = []
walk after (suc steps) (Some index) = index ∷ walk after steps (link after index)

-- the lists that the links go through from the heads on; none has more members than there are indices
abbrev pub walked : Links → Links → Lists
walked heads after = record { lists = map (walk after (length after)) heads; indices = length after }

-- the links go through these members from here on, and end behind them
abbrev pub IsForward : Links → Option ℕ → List ℕ → Type 0
IsForward after next [] = next ≡ None
IsForward after next (index ∷ rest) = (next ≡ Some index) × IsForward after (link after index) rest

-- the link back at each of these members leads to the one before it
abbrev pub IsBackward : Links → Option ℕ → List ℕ → Type 0
IsBackward before previous [] = Unit {0}
IsBackward before previous (index ∷ rest) = (link before index ≡ previous) × IsBackward before (Some index) rest

-- the arrays link these lists both ways
pub record AreLinked (heads after before : Links) (all : Lists) : Type 0 where
  pub heads_long : length heads ≡ length all.lists
  pub after_long : length after ≡ all.indices
  pub before_long : length before ≡ all.indices
  pub few : all.indices < 2 ^ 32
  pub forward : (list : ℕ) → IsForward after (link heads list) (members all list)
  pub backward : (list : ℕ) → IsBackward before None (members all list)
  pub apart : AreApart all
