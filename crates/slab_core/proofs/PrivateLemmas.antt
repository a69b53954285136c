-- What taking and freeing make of a slab's private list.
use Rattle.std.proofs.Common.{◌≡◌, ◌≢◌, ℕ, ◌+◌, ◌<◌, ◌≤◌, List, [], ◌∷◌, length, suc, Option, Some, None, arith, refl, sym, ap, subst, ◌∙◌, eqb-true, Contains}
use Rattle.std.specs.Prelude.{slice_get, All, AllPairs}
use Rattle.std.proofs.lemmas.Bool.Decides.{Decides-eqb}
use Rattle.std.proofs.lemmas.List.{get_or_default}
use Rattle.std.proofs.lemmas.List.Elements.{All-nil, All-cons, All-head, All-tail, All-contains}
use Rattle.std.proofs.lemmas.List.Kept.{AllPairs-cons}
use Rattle.std.proofs.lemmas.Map.Made.{IsDistinct-from_AllPairs}
use Rattle.std.proofs.lemmas.Map.Steps.{length-le_from_distinct_below}
use Rattle.std.proofs.lemmas.Map.Views.{Contains-from_any}
use Rattle.slab_core.specs.declared.SlabRec.{SlabRec}
use Rattle.slab_core.specs.Slabs.{IsNewest}
use Rattle.slab_core.specs.PrivateLists.{Keeps, Takes, TakesNewest, TakesOfRest, TakesFromPrivateList, FreesToPrivateList}

-- the first of a private list is what the record may have as its head
pub newest_of : (private : List ℕ) (count handed : ℕ) → All (λ object. object < handed) private → count + length private ≡ handed → IsNewest (slice_get private 0) count handed
newest_of [] count handed below sum = omega arith
newest_of (newest ∷ older) count handed below sum = (All-head (λ object. object < handed) newest older below, omega arith)

-- without its first one a list has no repeats either
pub once-tail : (newest : ℕ) (older : List ℕ) → AllPairs (λ one other. one ≢ other) (newest ∷ older) → AllPairs (λ one other. one ≢ other) older
once-tail newest older once i j d before within = once (suc i) (suc j) d (omega arith) (omega arith)

-- an object that isn't in a list differs from each in it
pub not_in : (private : List ℕ) (object : ℕ) → ¬ Contains private object → All (λ other. object ≢ other) private
not_in private object other k d within is = other (k, within, get_or_default private k object d within ∙ sym is)

-- different numbers below a bound are at most so many
pub no_more_than : (private : List ℕ) (handed : ℕ) → All (λ object. object < handed) private → AllPairs (λ one other. one ≢ other) private → length private ≤ handed
no_more_than private handed below once =
    length-le_from_distinct_below private handed (IsDistinct-from_AllPairs Decides-eqb private once)
    (λ object found. All-contains (λ other. other < handed) private object below (Contains-from_any eqb-true object private found))

-- taking from a slab whose head is the newest private object
takes_newest : (slab : SlabRec) (newest : ℕ) (older : List ℕ) → Keeps (record slab { head = Some newest }) (newest ∷ older) → TakesNewest (record slab { head = Some newest }) newest older
takes_newest slab newest older keeps =
    let below : All (λ object. object < slab.handed) older = All-tail (λ object. object < slab.handed) newest older keeps.handed in
    let sum : slab.count + 1 + length older ≡ slab.handed = omega arith in
    record {
      allowed = newest_of older (slab.count + 1) slab.handed below sum;
      left = λ used_up. let no : Some newest ≡ None = used_up.private in cc;
      object = refl;
      keeps = record { handed = below; once = once-tail newest older keeps.once; head = refl; count = sum };
      rest = refl;
      count = refl;
    }

-- taking from a slab without a private object
takes_of_rest : (slab : SlabRec) → Keeps (record slab { head = None }) [] → (below : Option ℕ) → TakesOfRest (record slab { head = None }) below
takes_of_rest slab keeps below = record {
  allowed = tt;
  left = ((λ used_up. used_up.rest), (λ rest. record { private = refl; rest = rest }));
  object = refl;
  keeps = record {
    handed = All-nil (λ object. object < slab.handed + 1);
    once = keeps.once;
    head = refl;
    count = omega arith;
  };
  rest = refl;
  count = refl;
}

-- a slab with another head in its place
with_head : SlabRec → Option ℕ → SlabRec
with_head slab head = record slab { head = head }

pub takes_from_private_list : TakesFromPrivateList
unfolding with_head
takes_from_private_list slab [] keeps =
    let is : slab ≡ with_head slab None = ap (with_head slab) keeps.head in
    subst (λ s. Takes s []) (sym is) (takes_of_rest slab (subst (λ s. Keeps s []) is keeps))
takes_from_private_list slab (newest ∷ older) keeps =
    let is : slab ≡ with_head slab (Some newest) = ap (with_head slab) keeps.head in
    subst (λ s. Takes s (newest ∷ older)) (sym is) (takes_newest slab newest older (subst (λ s. Keeps s (newest ∷ older)) is keeps))

pub frees_to_private_list : FreesToPrivateList
frees_to_private_list slab private object keeps handed other =
    let below : All (λ one. one < slab.handed) (object ∷ private) = All-cons (λ one. one < slab.handed) object private handed keeps.handed in
    let once : AllPairs (λ one two. one ≢ two) (object ∷ private) = AllPairs-cons (λ one two. one ≢ two) object private (not_in private object other) keeps.once in
    let room : length (object ∷ private) ≤ slab.handed = no_more_than (object ∷ private) slab.handed below once in
    let held : 1 ≤ slab.count = omega arith in
    record {
      held = held;
      keeps = record { handed = below; once = once; head = refl; count = omega arith };
      rest = refl;
      count = omega arith;
    }
