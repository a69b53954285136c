-- One slab by its lists.
use Rattle.std.proofs.Common.{◌≡◌, ℕ, ◌+◌, ◌^◌, ◌<◌, ◌≤◌, Some, None, List, [], ◌∷◌, ◌++◌, length}
use Rattle.std.proofs.Common.{length-append, refl, sym, ap, subst, arith, ◌∙◌}
use Rattle.std.proofs.lemmas.Bool.Decides.{nat_tests}
use Rattle.size_classes.specs.Classes.{class_objects}
use Rattle.size_classes.proofs.CallerLemmas.{class_objects-most}
use Rattle.index_lists.specs.Lists.{first_of}
use Rattle.heap_slabs.specs.declared.records.HeapSlab.{HeapSlab}
use Rattle.heap_slabs.specs.Records.{unit_of, next_by, rest_unit, after_take, after_free, after_join}
use Rattle.word_laws.proofs.CallerLemmas.{equal_or, less_or}
use Rattle.chain_laws.specs.Chains.{tally, IsOnce}
use Rattle.chain_laws.proofs.CallerLemmas.{tally-else, tally-more, tally-append, lists_among_are_short}
use Rattle.slab_laws.specs.OneSlab.{IsHanded, IsSlabOf, TakesPrivate, TakesRest, TakesNone, Takes}
use Rattle.slab_laws.specs.Laws.{OneSlabByItsLists}
use Rattle.slab_laws.proofs.Records.{private_taken, rest_taken, after_take-private, after_take-rest, after_take-none}
use Rattle.slab_laws.proofs.Records.{record-of-slab, header_tells}

counted : (r : HeapSlab) (privates : List ℕ) → IsSlabOf r privates → r.count < 2 ^ 32
counted r privates is = let n = is.count in let h = is.handed in let all = class_objects-most r.class in omega arith

-- what was handed out before is handed out after one more
handed-more : (r : HeapSlab) (u count : ℕ) → IsHanded r u → IsHanded (rest_taken r (r.handed + 1) count) u
handed-more r u count (i, below, at) = (i, omega arith, at)

takes_private : (r : HeapSlab) (u : ℕ) (privates : List ℕ) → IsSlabOf r (u ∷ privates) → TakesPrivate r u privates
takes_private r u privates is = record {
  object = ap (next_by r) is.head;
  left = subst (λ x. IsSlabOf x privates) (sym left) (record {
    few = is.few;
    handed = is.handed;
    among = λ v some. is.among v (let m = tally-more v u privates in omega arith);
    once = λ v. let m = tally-more v u privates in let o = is.once v in omega arith;
    head = refl;
    count = let n = is.count in omega arith;
  });
  rest = ap (λ (x : HeapSlab). x.handed) left;
}
  where
    left : after_take r (first_of privates) ≡ private_taken r (first_of privates) (r.count + 1)
    left = after_take-private r u (first_of privates) is.head (counted r (u ∷ privates) is)

takes_rest : (r : HeapSlab) → IsSlabOf r [] → r.handed < class_objects r.class → TakesRest r
takes_rest r is below = record {
  object = ap (next_by r) is.head ∙ found;
  left = subst (λ x. IsSlabOf x []) (sym left) (record {
    few = is.few;
    handed = omega arith;
    among = λ v some. handed-more r v (r.count + 1) (is.among v some);
    once = is.once;
    head = is.head;
    count = let n = is.count in omega arith;
  });
  rest = ap (λ (x : HeapSlab). x.handed) left;
}
  where
    found : rest_unit r ≡ Some (unit_of r.slab r.class r.handed)
    found = grind (arith, nat_tests)

    left : after_take r None ≡ rest_taken r (r.handed + 1) (r.count + 1)
    left = after_take-rest r None is.head (counted r [] is) below

takes_none : (r : HeapSlab) → IsSlabOf r [] → class_objects r.class ≤ r.handed → TakesNone r
takes_none r is past = record {
  object = ap (next_by r) is.head ∙ found;
  left = after_take-none r None is.head past;
}
  where
    found : rest_unit r ≡ None
    found = grind (arith, nat_tests)

pub takes : (r : HeapSlab) (privates : List ℕ) → IsSlabOf r privates → Takes r privates
takes r [] is = (takes_rest r is, takes_none r is)
takes r (u ∷ privates) is = takes_private r u privates is

pub both_once : (r : HeapSlab) (us privates : List ℕ) → IsSlabOf r privates → IsOnce us
    → ((v : ℕ) → 0 < tally v us → tally v privates ≡ 0) → IsOnce (us ++ privates)
both_once r us privates is once apart v =
    let a = tally-append v us privates in
    let o = once v in
    let p = is.once v in
    less_or 0 (tally v us) (λ here. let n = apart v here in omega arith) (λ none. omega arith)

-- different objects that were handed out are no more than all
few : (r : HeapSlab) (us privates : List ℕ) → IsSlabOf r privates → IsOnce us
    → ((v : ℕ) → 0 < tally v us → IsHanded r v) → ((v : ℕ) → 0 < tally v us → tally v privates ≡ 0)
    → length us + length privates ≤ r.handed
few r us privates is once among apart =
    let most = lists_among_are_short (unit_of r.slab r.class) r.handed (us ++ privates)
    (both_once r us privates is once apart)
    (λ v some. less_or 0 (tally v us) (λ here. among v here)
    (λ none. is.among v (let a = tally-append v us privates in omega arith))) in
    let parts = length-append us privates in
    omega arith

pub joins : (r : HeapSlab) (privates : List ℕ) (u : ℕ) (us : List ℕ) → IsSlabOf r privates → IsOnce (u ∷ us)
    → ((v : ℕ) → 0 < tally v (u ∷ us) → IsHanded r v) → ((v : ℕ) → 0 < tally v (u ∷ us) → tally v privates ≡ 0)
    → (length (u ∷ us) ≤ r.count) × IsSlabOf (after_join r u (length (u ∷ us))) ((u ∷ us) ++ privates)
joins r privates u us is once among apart =
    let most = few r (u ∷ us) privates is once among apart in
    let n = is.count in
    let parts = length-append (u ∷ us) privates in (
      omega arith,
      record {
        few = is.few;
        handed = is.handed;
        among = λ v some. less_or 0 (tally v (u ∷ us)) (λ here. among v here)
            (λ none. is.among v (let a = tally-append v (u ∷ us) privates in omega arith));
        once = both_once r (u ∷ us) privates is once apart;
        head = refl;
        count = omega arith;
      },
    )

single_once : (u : ℕ) → IsOnce (u ∷ [])
single_once u v = grind (arith, nat_tests)

single : (u v : ℕ) → 0 < tally v (u ∷ []) → v ≡ u
single u v some = equal_or v u (λ e. e) (λ ne. absurd (let t = tally-else v u [] ne in omega arith))

pub frees : (r : HeapSlab) (privates : List ℕ) (u : ℕ) → IsSlabOf r privates → IsHanded r u → tally u privates ≡ 0
    → (0 < r.count) × IsSlabOf (after_free r u) (u ∷ privates)
frees r privates u is handed none = joins r privates u [] is (single_once u)
    (λ v some. subst (IsHanded r) (sym (single u v some)) handed)
    (λ v some. ap (λ x. tally x privates) (single u v some) ∙ none)

pub one_slab_by_its_lists : OneSlabByItsLists
one_slab_by_its_lists r privates is = record {
  takes = takes r privates is;
  frees = λ u handed none. frees r privates u is handed none;
  joins = λ u us once among apart. joins r privates u us is once among apart;
  unused = λ zero u handed. less_or 0 (tally u privates) (λ some. some)
      (λ none. absurd (let f = (frees r privates u is handed (omega arith)).0 in omega arith));
  header = header_tells r (record-of-slab r privates is);
}
