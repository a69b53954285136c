-- The search for the least free base: each base that it passes over overlaps a region.
use Rattle.std.proofs.Common.{◌≡◌, true≢false, ℕ, ◌+◌, ◌-◌, ◌*◌, ◌^◌, ◌<◌, ◌≤◌, Bool, true, false, arith, ap, ◌∙◌, sym, ◌⊎◌, inl, inr, refl, List, [], ◌∷◌, cond}
use Rattle.std.proofs.Math.Bool.{or-true}
use Rattle.std.proofs.lemmas.Bool.{cases_lt}
use Rattle.std.proofs.lemmas.Bool.Decides.{nat_tests}
use Rattle.std.specs.Prelude.{Option, Some, None, ◌||◌, IfSome, IfNone, length}
use Rattle.std.specs.List.{find, list_any}
use Rattle.pool_types.specs.declared.values.Region.{Region}
use Rattle.pool_types.specs.Regions.{overlaps, overlaps_any}
use Rattle.pool_types.specs.Script.{IsByRule, IsAnswer}

-- so many bytes from the base
abbrev pub at_base : ℕ → ℕ → Region
at_base bytes base = record { base = base; bytes = bytes }

-- the base is a multiple, and each multiple before it overlaps a region
pub record IsTried (out : List Region) (bytes base : ℕ) : Type 0 where
  pub steps : ℕ
  pub multiple : base ≡ 1048576 * (steps + 1)
  pub tried : (k : ℕ) → k < steps → overlaps_any out (at_base bytes (1048576 * (k + 1))) ≡ true

-- what is found passes the test
pub find-passes : {X : Type 0} (p : X → Bool) (xs : List X) (x : X) → find p xs ≡ Some x → p x ≡ true
find-passes p [] x found = cc
find-passes p (y ∷ ys) x found = at_head p y ys x (p y) refl found (find-passes p ys x)
  where
    at_head : {X : Type 0} (p : X → Bool) (y : X) (ys : List X) (x : X) (b : Bool) → p y ≡ b → cond b (Some y) (find p ys) ≡ Some x → (find p ys ≡ Some x → p x ≡ true) → p x ≡ true
    at_head p y ys x true is found rest = let same : y ≡ x = cc in ap p (sym same) ∙ is
    at_head p y ys x false is found rest = rest found

-- where the one that is found passes another test too, some element does
pub find-any : {X : Type 0} (p q : X → Bool) (xs : List X) (x : X) → find p xs ≡ Some x → q x ≡ true → list_any q xs ≡ true
find-any p q [] x found passes = cc
find-any p q (y ∷ ys) x found passes = at_head p q y ys x (p y) found passes (λ more. find-any p q ys x more passes)
  where
    at_head : {X : Type 0} (p q : X → Bool) (y : X) (ys : List X) (x : X) (b : Bool) → cond b (Some y) (find p ys) ≡ Some x → q x ≡ true → (find p ys ≡ Some x → list_any q ys ≡ true) → (q y || list_any q ys) ≡ true
    at_head p q y ys x true found passes rest = let same : y ≡ x = cc in rw (ap q same ∙ passes) refl
    at_head p q y ys x false found passes rest = rw (rest found) (or-true (q y))

-- where none is found, none passes
pub find-none : {X : Type 0} (p : X → Bool) (xs : List X) → find p xs ≡ None → list_any p xs ≡ false
find-none p [] found = refl
find-none p (y ∷ ys) found = at_head p y ys (p y) refl found (find-none p ys)
  where
    at_head : {X : Type 0} (p : X → Bool) (y : X) (ys : List X) (b : Bool) → p y ≡ b → cond b (Some y) (find p ys) ≡ None → (find p ys ≡ None → list_any p ys ≡ false) → (p y || list_any p ys) ≡ false
    at_head p y ys true is found rest = cc
    at_head p y ys false is found rest = rw is (rest found)

-- where some is found, some passes
pub find-some : {X : Type 0} (p : X → Bool) (xs : List X) (x : X) → find p xs ≡ Some x → list_any p xs ≡ true
find-some p xs x found = find-any p p xs x found (find-passes p xs x found)

-- a region that is met from a base is met from each base after it, before the region's end
pub overlaps-on : (met : Region) (bytes base later : ℕ) → overlaps met (at_base bytes base) ≡ true → base ≤ later → later < met.base + met.bytes → overlaps met (at_base bytes later) ≡ true
overlaps-on met bytes base later there after before = grind (arith, nat_tests)

-- a region that is met from a base ends behind it
pub overlaps-behind : (met : Region) (bytes base : ℕ) → overlaps met (at_base bytes base) ≡ true → base < met.base + met.bytes
overlaps-behind met bytes base there = grind (arith, nat_tests)

-- the base that the rule gives is free
free_at : (out : List Region) (bytes : ℕ) (region : Region) (rule : IsByRule out bytes region) → overlaps_any out (at_base bytes (1048576 * (rule.least.steps + 1))) ≡ false
free_at out bytes region rule = ap (λ b. overlaps_any out (at_base bytes b)) (sym rule.least.multiple) ∙ rule.least.free

-- the multiples up to the end of the region that is met are tried too
pub tried-past : (out : List Region) (bytes base next steps : ℕ) (met : Region) → IsTried out bytes base → find (λ one. overlaps one (at_base bytes base)) out ≡ Some met →
    next ≡ 1048576 * steps → met.base + met.bytes ≤ next → next < met.base + met.bytes + 1048576 → IsTried out bytes next
tried-past out bytes base next steps met before found multiple past near =
    let there : overlaps met (at_base bytes base) ≡ true = find-passes (λ one. overlaps one (at_base bytes base)) out met found in
    let grows : base < met.base + met.bytes = overlaps-behind met bytes base there in
    record {
      steps = steps - 1;
      multiple = omega (arith, before.multiple);
      tried = λ k below. tried_at out bytes base next steps met before found there multiple past near k (cases_lt k before.steps) below;
    }
  where
    tried_at : (out : List Region) (bytes base next steps : ℕ) (met : Region) (before : IsTried out bytes base) → find (λ one. overlaps one (at_base bytes base)) out ≡ Some met → overlaps met (at_base bytes base) ≡ true →
        next ≡ 1048576 * steps → met.base + met.bytes ≤ next → next < met.base + met.bytes + 1048576 →
        (k : ℕ) → (k < before.steps) ⊎ (before.steps ≤ k) → k < steps - 1 → overlaps_any out (at_base bytes (1048576 * (k + 1))) ≡ true
    tried_at out bytes base next steps met before found there multiple past near k (inl less) below = before.tried k less
    tried_at out bytes base next steps met before found there multiple past near k (inr more) below =
        find-any (λ one. overlaps one (at_base bytes base)) (λ one. overlaps one (at_base bytes (1048576 * (k + 1)))) out met found
        (overlaps-on met bytes base (1048576 * (k + 1)) there (omega (arith, before.multiple)) (omega arith))

-- nor where the region that is met ends so high that no multiple follows
pub none-behind : (out : List Region) (bytes base : ℕ) (region met : Region) → 1 ≤ bytes → IsTried out bytes base → find (λ one. overlaps one (at_base bytes base)) out ≡ Some met →
    2 ^ 64 - 1048576 < met.base + met.bytes → IsByRule out bytes region → ⊥
none-behind out bytes base region met some before found high rule = none_behind_at out bytes base region met some before found high rule (cases_lt rule.least.steps before.steps)
  where
    none_behind_at : (out : List Region) (bytes base : ℕ) (region met : Region) → 1 ≤ bytes → (before : IsTried out bytes base) → find (λ one. overlaps one (at_base bytes base)) out ≡ Some met →
        2 ^ 64 - 1048576 < met.base + met.bytes → (rule : IsByRule out bytes region) → (rule.least.steps < before.steps) ⊎ (before.steps ≤ rule.least.steps) → ⊥
    none_behind_at out bytes base region met some before found high rule (inl less) = true≢false (sym (before.tried rule.least.steps less) ∙ free_at out bytes region rule)
    none_behind_at out bytes base region met some before found high rule (inr more) =
        true≢false (sym (find-any (λ one. overlaps one (at_base bytes base)) (λ one. overlaps one (at_base bytes (1048576 * (rule.least.steps + 1)))) out met found
        (overlaps-on met bytes base (1048576 * (rule.least.steps + 1)) (find-passes (λ one. overlaps one (at_base bytes base)) out met found)
        (omega (arith, before.multiple)) (omega (arith, rule.least.multiple, rule.ends)))) ∙ free_at out bytes region rule)

-- what the rule gives is the answer of a get past the script's end
pub by_rule : (out : List Region) (bytes : ℕ) (result : Option Region) → length out < 64 → IfSome result (IsByRule out bytes) → IfNone result ((region : Region) → IsByRule out bytes region → ⊥) → IsAnswer None out bytes result
by_rule out bytes (Some region) room some none = (room, some)
by_rule out bytes None room some none = λ _. none
