-- What is in hand after a change, if what it leaves there stays where it is.
use Rattle.std.proofs.Common.{◌≡◌, ◌⊎◌, ℕ, ◌+◌, ◌<◌, ◌≤◌, List, ◌++◌, inl, inr, sym, subst, ap, arith, ◌∙◌}
use Rattle.std.proofs.lemmas.Bool.{cases_eq}
use Rattle.guards.specs.declared.win.Taking.{Taking}
use Rattle.chain_laws.specs.Chains.{tally}
use Rattle.guard_laws.specs.Blocks.{Use, Place}
use Rattle.hand_blocks.specs.Changes.{Alters, Change, gained, lost}
use Rattle.hand_blocks.specs.Hands.{Hand, firsts}
use Rattle.hand_blocks.proofs.CallerLemmas.{changes_count_blocks, count_of}
use Rattle.seat_ties.specs.Ties.{AreInHand, HandsTied}
use Rattle.seat_hands.proofs.Lists.{all_above, all_below, all_join, all_stand, apart_from, apart_is, once_from, once_is}

-- how many of these blocks begin there
abbrev pub begin_at : ℕ → List Hand → ℕ
begin_at x hands = tally x (firsts hands)

-- the change leaves blocks in hand that begin there
abbrev pub Remains : Change → List Hand → ℕ → Type 0
Remains change before x = begin_at x (lost change) < begin_at x before

-- what comes into the hand was not there, and is left of no chain
pub record IsNew (drained : List ℕ) (change : Change) (before : List Hand) (x : ℕ) : Type 0 where
  pub once : begin_at x before + begin_at x (gained change) ≤ 1 + begin_at x (lost change)
  pub apart : tally x drained ≡ 0

pub three : (x : ℕ) (above middle below : List Hand)
    → begin_at x (above ++ (middle ++ below)) ≡ begin_at x above + (begin_at x middle + begin_at x below)
three x above middle below =
    let one = count_of x above (middle ++ below) in let other = count_of x middle below in omega arith

-- what a change replaces was in hand
pub lost_was : (change : Change) (before after : List Hand) (x : ℕ) → Alters change before after
    → begin_at x (lost change) ≤ begin_at x before
lost_was change before after x is =
    let parts = ap (begin_at x) is.was ∙ three x is.above (lost change) is.below in omega arith

all_lie : (place later : ℕ → Place) (seat : ℕ) (change : Change) (before after : List Hand)
    → AreInHand place seat before → Alters change before after → AreInHand later seat (gained change)
    → ((y m : ℕ) (taking : Taking) → Remains change before y → place y ≡ Place.Block y m (Use.Held seat taking)
    → later y ≡ place y)
    → AreInHand later seat after
all_lie place later seat change before after are is come same =
    let was = subst (AreInHand place seat) is.was are in
    let parts = λ (y : ℕ). ap (begin_at y) is.was ∙ three y is.above (lost change) is.below in
    let up = all_stand place later seat is.above (all_above place seat is.above (lost change ++ is.below) was)
    (λ y m taking some. same y m taking (let p = parts y in omega arith)) in
    let down = all_stand place later seat is.below
    (all_below place seat (lost change) is.below (all_below place seat is.above (lost change ++ is.below) was))
    (λ y m taking some. same y m taking (let p = parts y in omega arith)) in
    subst (AreInHand later seat) (sym is.now)
    (all_join later seat is.above (gained change ++ is.below) up
    (all_join later seat (gained change) is.below come down))

-- what is in hand after the change was there, or comes with it
was_or_comes : (x before after lost' gained' : ℕ) → after + lost' ≡ before + gained' → 0 < after
    → (0 < gained') ⊎ ((0 < before) × (gained' ≡ 0))
was_or_comes x before after lost' gained' e some = grind arith

few_after : (drained : List ℕ) (change : Change) (before after : List Hand) (x : ℕ) → Alters change before after
    → begin_at x before ≤ 1 → (0 < begin_at x (gained change) → IsNew drained change before x) → begin_at x after ≤ 1
few_after drained change before after x is few new =
    let count = changes_count_blocks change before after is x in
    elim (cases_eq (begin_at x (gained change)) 0) [
      | inl none ↦ omega arith
      | inr some ↦ let n = (new (omega arith)).once in omega arith
    ]

pub altered : (place later : ℕ → Place) (drained : List ℕ) (seat : ℕ) (change : Change) (before after : List Hand)
    → HandsTied place drained seat before → Alters change before after → AreInHand later seat (gained change)
    → ((y m : ℕ) (taking : Taking) → Remains change before y → place y ≡ Place.Block y m (Use.Held seat taking)
    → later y ≡ place y)
    → ((x : ℕ) → 0 < begin_at x (gained change) → IsNew drained change before x) → HandsTied later drained seat after
altered place later drained seat change before after tied is come same new = record {
  lie = all_lie place later seat change before after tied.lie is come same;
  once = once_from (firsts after)
      (λ x. few_after drained change before after x is (once_is (firsts before) tied.once x) (new x));
  apart = apart_from drained (firsts after) (λ x some.
      let count = changes_count_blocks change before after is x in
      elim (was_or_comes x (begin_at x before) (begin_at x after) (begin_at x (lost change))
      (begin_at x (gained change)) count some) [
        | inl comes ↦ (new x comes).apart
        | inr was ↦ apart_is drained (firsts before) tied.apart x was.0
      ]);
}
