-- Records, and what taking makes of them.
use Rattle.std.proofs.Common.{◌≡◌, ℕ, ◌+◌, ◌^◌, ◌<◌, ◌≤◌, Option, Some, None, List, [], ◌∷◌, refl, sym, ap, subst, arith, ◌∙◌}
use Rattle.std.proofs.lemmas.Bool.Decides.{nat_tests}
use Rattle.pool_types.specs.Sums.{capped}
use Rattle.size_classes.specs.Classes.{class_objects}
use Rattle.size_classes.proofs.CallerLemmas.{class_objects-most}
use Rattle.index_lists.specs.Lists.{first_of}
use Rattle.slab_core.specs.declared.SlabRec.{SlabRec}
use Rattle.slab_core.specs.Slabs.{IsNewest}
use Rattle.heap_slabs.specs.declared.records.HeapSlab.{HeapSlab}
use Rattle.heap_slabs.specs.Records.{after_take, after_take_by, to_header, of_header}
use Rattle.heap_slabs.specs.Laws.{heap_slab}
use Rattle.heap_slabs.proofs.Agreement.{headers_are_slabs}
use Rattle.chain_laws.proofs.CallerLemmas.{tally-here}
use Rattle.slab_laws.specs.OneSlab.{HeadFits, IsRecord, IsSlabOf}

pub capped-is : (n : ℕ) → n < 2 ^ 64 → capped n ≡ n
capped-is n l = omega arith

-- numbers of a record are small
pub handed-few : (r : HeapSlab) → r.handed ≤ class_objects r.class → r.handed ≤ 2032
handed-few r most = let all = class_objects-most r.class in omega arith

abbrev pub private_taken : HeapSlab → Option ℕ → ℕ → HeapSlab
private_taken r below count = record r { head = below; count = count }

abbrev pub rest_taken : HeapSlab → ℕ → ℕ → HeapSlab
rest_taken r handed count = record r { handed = handed; count = count }

pub after_take-private : (r : HeapSlab) (u : ℕ) (below : Option ℕ) → r.head ≡ Some u → r.count < 2 ^ 32
    → after_take r below ≡ private_taken r below (r.count + 1)
after_take-private r u below head few = ap (after_take_by r (capped (r.count + 1)) below) head
    ∙ ap (private_taken r below) (capped-is (r.count + 1) (omega arith))

pub after_take-rest : (r : HeapSlab) (below : Option ℕ) → r.head ≡ None → r.count < 2 ^ 32
    → r.handed < class_objects r.class → after_take r below ≡ rest_taken r (r.handed + 1) (r.count + 1)
after_take-rest r below head few left =
    let most = class_objects-most r.class in
    let count : capped (r.count + 1) ≡ r.count + 1 = capped-is (r.count + 1) (omega arith) in
    let handed : capped (r.handed + 1) ≡ r.handed + 1 = capped-is (r.handed + 1) (omega arith) in
    let by : after_take_by r (capped (r.count + 1)) below None
    ≡ rest_taken r (capped (r.handed + 1)) (capped (r.count + 1)) = grind (arith, nat_tests) in
    ap (after_take_by r (capped (r.count + 1)) below) head ∙ by
    ∙ ap (λ n. rest_taken r n (capped (r.count + 1))) handed ∙ ap (rest_taken r (r.handed + 1)) count

pub after_take-none : (r : HeapSlab) (below : Option ℕ) → r.head ≡ None → class_objects r.class ≤ r.handed
    → after_take r below ≡ r
after_take-none r below head past =
    let by : after_take_by r (capped (r.count + 1)) below None ≡ r = grind (arith, nat_tests) in
    ap (after_take_by r (capped (r.count + 1)) below) head ∙ by

head_fits : (r : HeapSlab) (privates : List ℕ) → IsSlabOf r privates → HeadFits r (first_of privates)
head_fits r [] is = let n = is.count in omega arith
head_fits r (u ∷ privates) is =
    (is.among u (let t = tally-here u privates in omega arith), let n = is.count in omega arith)

pub record-of-slab : (r : HeapSlab) (privates : List ℕ) → IsSlabOf r privates → IsRecord r
record-of-slab r privates is = record {
  few = is.few;
  handed = is.handed;
  count = let n = is.count in omega arith;
  head = subst (HeadFits r) (sym is.head) (head_fits r privates is);
}

-- a record's header tells it
abbrev slab_rec : HeapSlab → Option ℕ → SlabRec
slab_rec r head = record { class = r.class; index = r.slab; handed = r.handed; head = head; count = r.count }

abbrev headed : HeapSlab → Option ℕ → HeapSlab
headed r head = record r { head = head }

pub header_tells : (r : HeapSlab) → IsRecord r → of_header r.slab r.class (to_header r) ≡ r
header_tells r is = by r.head refl is.head
  where
    told : (object head : Option ℕ) → heap_slab (slab_rec r object) ≡ headed r head → headed r head ≡ r
        → of_header r.slab r.class (to_header (heap_slab (slab_rec r object)))
        ≡ heap_slab (slab_rec r object) → of_header r.slab r.class (to_header r) ≡ r
    told object head same all back =
        subst (λ (x : HeapSlab). of_header r.slab r.class (to_header x) ≡ x) (same ∙ all) back

    back : (object : Option ℕ) → IsNewest object r.count r.handed → of_header r.slab r.class (to_header (heap_slab (slab_rec r object)))
        ≡ heap_slab (slab_rec r object)
    back object fits =
        let h = headers_are_slabs (slab_rec r object)
        (record { valid = record { count = is.count; handed = is.handed; head = fits }; few = is.few }) in
        ap (of_header r.slab r.class) h.header ∙ h.back

    by : (head : Option ℕ) → r.head ≡ head → HeadFits r head → of_header r.slab r.class (to_header r) ≡ r
    by None e fits = told None None refl (ap (headed r) (sym e)) (back None fits)
    by (Some u) e ((i, below, at), fewer) = told (Some i) (Some u)
        (ap (λ v. headed r (Some v)) (sym at)) (ap (headed r) (sym e)) (back (Some i) (below, fewer))
