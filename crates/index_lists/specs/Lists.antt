-- Several lists of indices, and how a call changes them.
use Rattle.std.specs.Prelude.{◌≡◌, ℕ, ◌+◌, ◌<◌, ◌≤◌, ◌==◌, not, cond, List, [], ◌∷◌, ◌++◌, Option, Some, None, slice_index_or, slice_set, replicate}
use Rattle.std.specs.List.{filter, sum_by}

pub record Lists : Type 0 where
  -- the members of each list, from its first on
  pub lists : List (List ℕ)
  -- the indices are the numbers below this
  pub indices : ℕ

-- so many lists, all empty
abbrev pub empty_lists : ℕ → ℕ → Lists
empty_lists lists indices = record { lists = replicate lists []; indices = indices }

-- the members of one list
abbrev pub members : Lists → ℕ → List ℕ
members all list = slice_index_or all.lists list []

abbrev pub first_of : List ℕ → Option ℕ
first_of [] = None
first_of (index ∷ rest) = Some index

-- how often an index stands in a list
abbrev pub times : ℕ → List ℕ → ℕ
times index [] = 0
times index (other ∷ rest) = cond (index == other) 1 0 + times index rest

-- how often an index stands in the lists together
abbrev pub times_listed : ℕ → List (List ℕ) → ℕ
times_listed index lists = sum_by (times index) lists

-- the index stands in this list
abbrev pub IsIn : Lists → ℕ → ℕ → Type 0
IsIn all list index = 0 < times index (members all list)

-- the index stands in some list
abbrev pub IsInSome : Lists → ℕ → Type 0
IsInSome all index = 0 < times_listed index all.lists

-- the index stands in no list
abbrev pub IsInNone : Lists → ℕ → Type 0
IsInNone all index = times_listed index all.lists ≡ 0

-- an index stands in one place of one list at most, and what stands in a list is an index
pub record AreApart (all : Lists) : Type 0 where
  pub once : (index : ℕ) → times_listed index all.lists ≤ 1
  pub below : (index : ℕ) → IsInSome all index → index < all.indices

-- the index becomes the first of the list
abbrev pub with_first : Lists → ℕ → ℕ → Lists
with_first all list index = record all { lists = slice_set all.lists list (index ∷ members all list) }

-- a list without the index, the others in their order
abbrev pub list_without : ℕ → List ℕ → List ℕ
list_without index xs = filter (λ other. not (other == index)) xs

-- the index leaves the list
abbrev pub without : Lists → ℕ → ℕ → Lists
without all list index = record all { lists = slice_set all.lists list (list_without index (members all list)) }

-- what stands right behind the index, in the list that it is in
abbrev pub IsFollowing : Lists → ℕ → Option ℕ → Type 0
IsFollowing all index next =
    (list : ℕ) (earlier rest : List ℕ) → members all list ≡ earlier ++ index ∷ rest → next ≡ first_of rest
