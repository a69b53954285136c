-- Slabs stay kept when one is added, gets another record, or is taken out.
use Rattle.std.proofs.Common.{◌≡◌, ℕ, ◌<◌, ◌^◌, ◌==◌, cond, inl, inr, List, [], ◌∷◌, length, get_or, set, replicate}
use Rattle.std.proofs.Common.{Option, Some, None, sym, ap, subst, arith, ◌∙◌}
use Rattle.std.proofs.lemmas.Bool.Decides.{nat_tests}
use Rattle.std.proofs.lemmas.Bool.{cases_eq, cases_lt}
use Rattle.std.proofs.lemmas.Option.{same_Some}
use Rattle.std.proofs.lemmas.List.{get_or-set_same, get_or-set_other, get_or-replicate, get_or_past, length-set}
use Rattle.std.proofs.lemmas.List.{length-replicate}
use Rattle.index_lists.specs.Lists.{Lists, AreApart, IsIn, IsInNone, members, times, times_listed, empty_lists}
use Rattle.index_lists.specs.Lists.{list_without, with_first, without}
use Rattle.index_lists.proofs.CallerLemmas.{times-list_without}
use Rattle.index_lists.proofs.CallerLemmas.{in_some, in_one, one_list, members-with_first, members-without}
use Rattle.index_lists.proofs.CallerLemmas.{AreApart-with_first, AreApart-without, IsIn-with_first, none_from_each}
use Rattle.pool_types.specs.Geometry.{class_count}
use Rattle.heap_slabs.specs.declared.records.HeapSlab.{HeapSlab}
use Rattle.heap_slabs.specs.Slabs.{SlabRecords, AreKept, record_at}

-- a record stands at a granule
pub within : (records : SlabRecords) (slab : ℕ) (kept : HeapSlab) → record_at records slab ≡ Some kept
    → slab < length records
within records slab kept is = elim (cases_lt slab (length records)) [
  | inl l ↦ l
  | inr h ↦ absurd (let none = get_or_past records slab None h in cc)
]

-- the record at a granule after one was written
pub written_here : (records : SlabRecords) (slab : ℕ) (x : Option HeapSlab) → slab < length records
    → record_at (set records slab x) slab ≡ x
written_here records slab x l = get_or-set_same records slab x None l

pub written_else : (records : SlabRecords) (slab other : ℕ) (x : Option HeapSlab) → (other ≡ slab → ⊥)
    → record_at (set records slab x) other ≡ record_at records other
written_else records slab other x ne = get_or-set_other records slab other x None ne

-- what is not kept stands in no list
pub free : (classes : Lists) (records : SlabRecords) (slab : ℕ) → AreKept classes records
    → record_at records slab ≡ None → IsInNone classes slab
free classes records slab kept none = elim (cases_lt 0 (times_listed slab classes.lists)) [
  | inl l ↦ absurd (let m = in_one classes slab l in let r = kept.recorded m.0 slab m.1 in let some = r.1 in cc)
  | inr h ↦ omega arith
]

-- no slab is kept at first
in_empty : (lists list slab : ℕ) → times slab (get_or (replicate lists []) list []) ≡ 0
in_empty lists list slab = elim (cases_lt list lists) [
  | inl l ↦ ap (times slab) (get_or-replicate lists list [] [] l)
  | inr h ↦ ap (times slab) (get_or_past (replicate lists []) list [] (let long =
      length-replicate {A = List ℕ} lists [] in omega arith))
]

pub kept_none : (granules : ℕ) → granules < 2 ^ 32 → AreKept (empty_lists class_count granules) (replicate granules
    None)
kept_none granules few = record {
  long = length-replicate granules None;
  few = few;
  apart = record {
    once = λ slab. let none = in_none slab in omega arith;
    below = λ slab l. absurd (let none = in_none slab in omega arith);
  };
  listed = λ slab kept is. absurd (let none = nothing slab in cc);
  recorded = λ list slab l. absurd (let none = in_empty class_count list slab in omega arith);
}
  where
    in_none : (slab : ℕ) → times_listed slab (replicate class_count []) ≡ 0
    in_none slab = none_from_each (empty_lists class_count granules) slab (λ list l. in_empty class_count list slab)

    nothing : (slab : ℕ) → record_at (replicate granules None) slab ≡ None
    nothing slab = elim (cases_lt slab granules) [
      | inl l ↦ get_or-replicate granules slab None None l
      | inr h ↦ get_or_past (replicate granules None) slab None (let long =
          length-replicate {A = Option HeapSlab} granules None in omega arith)
    ]

-- a slab that is not there is added
in_before : (classes : Lists) (list slab k u : ℕ) → list < length classes.lists
    → IsIn (with_first classes list slab) k u → (u ≡ slab → ⊥) → IsIn classes k u
in_before classes list slab k u l h ne = elim (cases_eq k list) [
  | inl e ↦ at e (members-with_first classes list slab k l)
  | inr other ↦ else other (members-with_first classes list slab k l)
]
  where
    at : k ≡ list → members (with_first classes list slab) k ≡ cond (k == list) (slab ∷ members classes list) (members
        classes k) → IsIn classes k u
    at e m =
        let now : members (with_first classes list slab) k ≡ slab ∷ members classes list = grind (arith, nat_tests) in
        let count : times u (members (with_first classes list slab) k) ≡ times u (slab ∷ members classes list) =
        ap (times u) now in
        let fewer : times u (slab ∷ members classes list) ≡ times u (members classes list) =
        grind (arith, nat_tests) in
        let there : times u (members classes k) ≡ times u (members classes list) =
        ap (λ n. times u (members classes n)) e in
        omega arith

    else : (k ≡ list → ⊥) → members (with_first classes list slab) k ≡ cond (k == list) (slab ∷ members classes list)
        (members classes k) → IsIn classes k u
    else other m =
        let same : members (with_first classes list slab) k ≡ members classes k = grind (arith, nat_tests) in
        let count : times u (members (with_first classes list slab) k) ≡ times u (members classes k) =
        ap (times u) same in
        omega arith

in_after : (classes : Lists) (list slab k u : ℕ) → list < length classes.lists → IsIn classes k u
    → IsIn (with_first classes list slab) k u
in_after classes list slab k u l h = elim (cases_eq k list) [
  | inl e ↦ at e (members-with_first classes list slab k l)
  | inr other ↦ else other (members-with_first classes list slab k l)
]
  where
    at : k ≡ list → members (with_first classes list slab) k ≡ cond (k == list) (slab ∷ members classes list) (members
        classes k) → IsIn (with_first classes list slab) k u
    at e m =
        let now : members (with_first classes list slab) k ≡ slab ∷ members classes list = grind (arith, nat_tests) in
        let count : times u (members (with_first classes list slab) k) ≡ times u (slab ∷ members classes list) =
        ap (times u) now in
        let there : times u (members classes k) ≡ times u (members classes list) =
        ap (λ n. times u (members classes n)) e in
        omega arith

    else : (k ≡ list → ⊥) → members (with_first classes list slab) k ≡ cond (k == list) (slab ∷ members classes list)
        (members classes k) → IsIn (with_first classes list slab) k u
    else other m =
        let same : members (with_first classes list slab) k ≡ members classes k = grind (arith, nat_tests) in
        let count : times u (members (with_first classes list slab) k) ≡ times u (members classes k) =
        ap (times u) same in
        omega arith

-- the added slab stands in the list of its class alone
in_its_list : (classes : Lists) (list slab k : ℕ) → list < length classes.lists → IsInNone classes slab
    → IsIn (with_first classes list slab) k slab → k ≡ list
in_its_list classes list slab k l none h = elim (cases_eq k list) [
  | inl e ↦ e
  | inr other ↦ absurd (else other (members-with_first classes list slab k l))
]
  where
    else : (k ≡ list → ⊥) → members (with_first classes list slab) k ≡ cond (k == list) (slab ∷ members classes list)
        (members classes k) → ⊥
    else other m =
        let same : members (with_first classes list slab) k ≡ members classes k = grind (arith, nat_tests) in
        let count : times slab (members (with_first classes list slab) k) ≡ times slab (members classes k) =
        ap (times slab) same in
        let some : 0 < times_listed slab classes.lists =
        in_some classes k slab (let there : 0 < times slab (members classes k) = omega arith in there) in
        absurd (omega arith)

pub kept_add : (classes : Lists) (records : SlabRecords) (added : HeapSlab) → AreKept classes records
    → added.class < length classes.lists
    → added.slab < classes.indices → record_at records added.slab ≡ None
    → AreKept (with_first classes added.class added.slab) (set records added.slab (Some added))
kept_add classes records added kept l below none = record {
  long = length-set records added.slab (Some added) ∙ kept.long;
  few = kept.few;
  apart =
      AreApart-with_first classes added.class added.slab kept.apart l below (free classes records added.slab kept
      none);
  listed = listed;
  recorded = recorded;
}
  where
    room : added.slab < length records
    room = let long = kept.long in omega arith

    listed : (slab : ℕ) (r : HeapSlab) → record_at (set records added.slab (Some added)) slab ≡ Some r
        → (r.slab ≡ slab) × IsIn (with_first classes added.class added.slab) r.class slab
    listed slab r is = elim (cases_eq slab added.slab) [
      | inl e ↦
          let same : added ≡ r = same_Some added r (sym (written_here records added.slab (Some added) room)
          ∙ ap (record_at (set records added.slab (Some added))) (sym e) ∙ is) in (
            ap (λ (x : HeapSlab). x.slab) (sym same) ∙ sym e,
            subst (λ (x : HeapSlab). IsIn (with_first classes added.class added.slab) x.class slab) same
                (subst (IsIn (with_first classes added.class added.slab) added.class) (sym e) (IsIn-with_first classes
                added.class added.slab l)),
          )
      | inr ne ↦
          let before = kept.listed slab r (sym (written_else records added.slab slab (Some added) ne) ∙ is) in
          (before.0, in_after classes added.class added.slab r.class slab l before.1)
    ]

    recorded : (list slab : ℕ) → IsIn (with_first classes added.class added.slab) list slab → (r : HeapSlab)
        × (record_at (set records added.slab (Some added)) slab ≡ Some r) × (r.class ≡ list)
    recorded list slab h = elim (cases_eq slab added.slab) [
      | inl e ↦ (
        added,
        ap (record_at (set records added.slab (Some added))) e ∙ written_here records added.slab (Some added) room,
        sym (in_its_list classes added.class added.slab list l (free classes records added.slab kept none) (subst
            (IsIn (with_first classes added.class added.slab) list) e h)),
      )
      | inr ne ↦
          let before = kept.recorded list slab (in_before classes added.class added.slab list slab l h ne) in
          (before.0, written_else records added.slab slab (Some added) ne ∙ before.1, before.2)
    ]

-- a slab gets another record of its class
pub kept_replace : (classes : Lists) (records : SlabRecords) (next there : HeapSlab) → AreKept classes records
    → record_at records next.slab ≡ Some there
    → there.class ≡ next.class → AreKept classes (set records next.slab (Some next))
kept_replace classes records next there kept is class = record {
  long = length-set records next.slab (Some next) ∙ kept.long;
  few = kept.few;
  apart = kept.apart;
  listed = listed;
  recorded = recorded;
}
  where
    room : next.slab < length records
    room = within records next.slab there is

    here : record_at (set records next.slab (Some next)) next.slab ≡ Some next
    here = written_here records next.slab (Some next) room

    listed : (slab : ℕ) (r : HeapSlab) → record_at (set records next.slab (Some next)) slab ≡ Some r
        → (r.slab ≡ slab) × IsIn classes r.class slab
    listed slab r found = elim (cases_eq slab next.slab) [
      | inl e ↦
          let same : next ≡ r =
          same_Some next r (sym here ∙ ap (record_at (set records next.slab (Some next))) (sym e) ∙ found) in
          let before = kept.listed next.slab there is in (
            ap (λ (x : HeapSlab). x.slab) (sym same) ∙ sym e,
            subst (λ (x : HeapSlab). IsIn classes x.class slab) same (subst (λ n. IsIn classes n slab) class (subst
                (IsIn classes there.class) (sym e) before.1)),
          )
      | inr ne ↦ kept.listed slab r (sym (written_else records next.slab slab (Some next) ne) ∙ found)
    ]

    recorded : (list slab : ℕ) → IsIn classes list slab → (r : HeapSlab)
        × (record_at (set records next.slab (Some next)) slab ≡ Some r) × (r.class ≡ list)
    recorded list slab h = elim (cases_eq slab next.slab) [
      | inl e ↦
          let before = kept.recorded list slab h in
          let same : there ≡ before.0 = same_Some there before.0 (sym is ∙ ap (record_at records) (sym e)
          ∙ before.1) in (
            next,
            ap (record_at (set records next.slab (Some next))) e ∙ here,
            sym class
                ∙ ap (λ (x : HeapSlab). x.class) same ∙ before.2,
          )
      | inr ne ↦ let before =
          kept.recorded list slab h in (
            before.0,
            written_else records next.slab slab (Some next) ne
                ∙ before.1,
            before.2,
          )
    ]

-- a slab is taken out
left_in : (classes : Lists) (list slab k u : ℕ) → AreApart classes → IsIn classes list slab
    → IsIn (without classes list slab) k u → IsIn classes k u × (u ≡ slab → ⊥)
left_in classes list slab k u apart at h = elim (cases_eq k list) [
  | inl e ↦ here e (members-without classes list slab k at)
  | inr other ↦ else other (members-without classes list slab k at)
]
  where
    here : k ≡ list → members (without classes list slab) k ≡ cond (k == list) (list_without slab (members classes
        list))
        (members classes k) → IsIn classes k u × (u ≡ slab → ⊥)
    here e m =
        let now : members (without classes list slab) k ≡ list_without slab (members classes list) =
        grind (arith, nat_tests) in
        let count : times u (members (without classes list slab) k) ≡ times u (list_without slab (members classes
        list)) =
        ap (times u) now in
        let fewer = times-list_without u slab (members classes list) in
        let there : times u (members classes k) ≡ times u (members classes list) =
        ap (λ n. times u (members classes n)) e in
        let ne : u ≡ slab → ⊥ =
        λ (same : u ≡ slab). (let gone : times u (list_without slab (members classes list)) ≡ 0 = grind (
          arith,
          nat_tests,
        ) in absurd (omega arith)) in
        let kept : times u (list_without slab (members classes list)) ≡ times u (members classes list) =
        grind (arith, nat_tests) in
        (omega arith, ne)

    else : (k ≡ list → ⊥) → members (without classes list slab) k ≡ cond (k == list) (list_without slab (members
        classes
        list)) (members classes k) → IsIn classes k u × (u ≡ slab → ⊥)
    else other m =
        let same : members (without classes list slab) k ≡ members classes k = grind (arith, nat_tests) in
        let count : times u (members (without classes list slab) k) ≡ times u (members classes k) =
        ap (times u) same in
        let there : IsIn classes k u = (let l : 0 < times u (members classes k) = omega arith in l) in
        (there, λ (e : u ≡ slab). other (one_list classes apart list k slab at (subst (IsIn classes k) e there)))

still_in : (classes : Lists) (list slab k u : ℕ) → IsIn classes list slab → IsIn classes k u → (u ≡ slab → ⊥)
    → IsIn (without classes list slab) k u
still_in classes list slab k u at h ne = elim (cases_eq k list) [
  | inl e ↦ here e (members-without classes list slab k at)
  | inr other ↦ else other (members-without classes list slab k at)
]
  where
    here : k ≡ list → members (without classes list slab) k ≡ cond (k == list) (list_without slab (members classes
        list))
        (members classes k) → IsIn (without classes list slab) k u
    here e m =
        let now : members (without classes list slab) k ≡ list_without slab (members classes list) =
        grind (arith, nat_tests) in
        let count : times u (members (without classes list slab) k) ≡ times u (list_without slab (members classes
        list)) =
        ap (times u) now in
        let fewer = times-list_without u slab (members classes list) in
        let kept : times u (list_without slab (members classes list)) ≡ times u (members classes list) =
        grind (arith, nat_tests) in
        let there : times u (members classes k) ≡ times u (members classes list) =
        ap (λ n. times u (members classes n)) e in
        omega arith

    else : (k ≡ list → ⊥) → members (without classes list slab) k ≡ cond (k == list) (list_without slab (members
        classes
        list)) (members classes k) → IsIn (without classes list slab) k u
    else other m =
        let same : members (without classes list slab) k ≡ members classes k = grind (arith, nat_tests) in
        let count : times u (members (without classes list slab) k) ≡ times u (members classes k) =
        ap (times u) same in
        omega arith

pub kept_remove : (classes : Lists) (records : SlabRecords) (slab : ℕ) (there : HeapSlab) → AreKept classes records
    → record_at records slab ≡ Some there
    → AreKept (without classes there.class slab) (set records slab None)
kept_remove classes records slab there kept is = record {
  long = length-set records slab None ∙ kept.long;
  few = kept.few;
  apart = AreApart-without classes there.class slab kept.apart at;
  listed = listed;
  recorded = recorded;
}
  where
    at : IsIn classes there.class slab
    at = (kept.listed slab there is).1

    gone : record_at (set records slab None) slab ≡ None
    gone = written_here records slab None (within records slab there is)

    listed : (other : ℕ) (r : HeapSlab) → record_at (set records slab None) other ≡ Some r → (r.slab ≡ other)
        × IsIn (without classes there.class slab) r.class other
    listed other r found = elim (cases_eq other slab) [
      | inl e ↦ absurd (let here : None ≡ Some r = sym gone ∙ ap (record_at (set records slab None)) (sym e)
          ∙ found in cc)
      | inr ne ↦
          let before = kept.listed other r (sym (written_else records slab other None ne) ∙ found) in
          (before.0, still_in classes there.class slab r.class other at before.1 ne)
    ]

    recorded : (list other : ℕ) → IsIn (without classes there.class slab) list other → (r : HeapSlab)
        × (record_at (set records slab None) other ≡ Some r) × (r.class ≡ list)
    recorded list other h =
        let before = left_in classes there.class slab list other kept.apart at h in
        let r = kept.recorded list other before.0 in
        (r.0, written_else records slab other None before.1 ∙ r.1, r.2)

-- a slab that is kept is a granule
pub below : (classes : Lists) (records : SlabRecords) (slab : ℕ) (there : HeapSlab) → AreKept classes records
    → record_at records slab ≡ Some there → slab < 2 ^ 32
below classes records slab there kept is =
    let l = within records slab there is in let long = kept.long in let few = kept.few in omega arith
