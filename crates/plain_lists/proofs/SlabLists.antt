-- Slabs of a list: one in place of another, and all but one.
use Rattle.std.proofs.Common.{◌≡◌, ◌≢◌, ℕ, ◌+◌, ◌<◌, ◌≤◌, Bool, true, false, not, ◌==◌, ◌⊎◌, inl, inr, List, [], ◌∷◌, length, Some, None, refl, sym, ap, ◌∙◌, subst, arith}
use Rattle.std.specs.Prelude.{Contains, filter, find, if◌then◌else◌}
use Rattle.std.specs.declared.option.Option.{Option}
use Rattle.std.proofs.lemmas.Bool.{eq-eqb, ne_eqb, eqb-true, eqb-false, not-true, true≢false}
use Rattle.plain_lists.specs.Lists.{OwnSlab, lies_on, changed, without}
use Rattle.plain_lists.specs.Good.{slabs_on}
use Rattle.list_laws.proofs.Members.{Contains-first, Contains-other, Contains-map, Contains-map_from, Contains-filter}
use Rattle.list_laws.proofs.Finds.{find-Some, find-None}
use Rattle.list_laws.proofs.Counts.{one_if, count_in, count-same, count-map, count-split, count-found, count-more, count-some}
use Rattle.plain_lists.proofs.Granules.{lies_on-true}

-- a slab of a list in which one was changed is that one, or another one
pub Contains-changed : (slab : OwnSlab) (slabs : List OwnSlab) (one : OwnSlab) → Contains (changed slab slabs) one →
    (slab ≡ one) ⊎ (Contains slabs one × (one.index ≢ slab.index))
Contains-changed slab slabs one inside =
    let (old, was, is) = Contains-map (λ other. if other.index == slab.index then slab else other) slabs one inside in
    go old was is (old.index == slab.index) refl
  where
    go : (old : OwnSlab) → Contains slabs old → (if old.index == slab.index then slab else old) ≡ one → (b : Bool) → (old.index == slab.index) ≡ b →
        (slab ≡ one) ⊎ (Contains slabs one × (one.index ≢ slab.index))
    go old was is true same = inl (ap (λ (b : Bool). if b then slab else old) (sym same) ∙ is)
    go old was is false other =
        let this : old ≡ one = ap (λ (b : Bool). if b then slab else old) (sym other) ∙ is in
        inr (subst (Contains slabs) this was, λ e. eqb-false old.index slab.index other (ap (λ (s : OwnSlab). s.index) this ∙ e))

-- each other slab stays, and the one that was changed is in the list where one of its index was
pub changed-other : (slab : OwnSlab) (slabs : List OwnSlab) (one : OwnSlab) → Contains slabs one → one.index ≢ slab.index → Contains (changed slab slabs) one
changed-other slab slabs one inside other =
    subst (Contains (changed slab slabs)) (ap (λ (b : Bool). if b then slab else one) (ne_eqb one.index slab.index other))
    (Contains-map_from (λ other. if other.index == slab.index then slab else other) slabs one inside)

pub changed-itself : (slab : OwnSlab) (slabs : List OwnSlab) (old : OwnSlab) → Contains slabs old → old.index ≡ slab.index → Contains (changed slab slabs) slab
changed-itself slab slabs old inside same =
    subst (Contains (changed slab slabs)) (ap (λ (b : Bool). if b then slab else old) (eq-eqb old.index slab.index same))
    (Contains-map_from (λ other. if other.index == slab.index then slab else other) slabs old inside)

-- where no slab has the index, none is changed
pub changed-none : (slab : OwnSlab) (slabs : List OwnSlab) → ((one : OwnSlab) → Contains slabs one → one.index ≢ slab.index) → changed slab slabs ≡ slabs
changed-none slab [] none = refl
changed-none slab (one ∷ slabs) none =
    ap (λ (b : Bool). (if b then slab else one) ∷ changed slab slabs) (ne_eqb one.index slab.index (none one (Contains-first one slabs)))
    ∙ ap (λ ss. one ∷ ss) (changed-none slab slabs (λ other inside. none other (Contains-other one slabs other inside)))

-- a slab that begins gives its first object: only that slab is changed
pub changed-first : (slab old : OwnSlab) (slabs : List OwnSlab) → old.index ≡ slab.index → ((one : OwnSlab) → Contains slabs one → one.index ≢ slab.index) →
    changed slab (old ∷ slabs) ≡ slab ∷ slabs
changed-first slab old slabs same none =
    ap (λ (b : Bool). (if b then slab else old) ∷ changed slab slabs) (eq-eqb old.index slab.index same) ∙ ap (λ ss. slab ∷ ss) (changed-none slab slabs none)

-- as many slabs have a granule
pub slabs_on-changed : (slab : OwnSlab) (slabs : List OwnSlab) (granule : ℕ) → slabs_on granule (changed slab slabs) ≡ slabs_on granule slabs
slabs_on-changed slab slabs granule =
    count-map (λ other. if other.index == slab.index then slab else other) (λ other. lies_on other.index 2 granule) slabs
    ∙ count-same (λ other. lies_on (if other.index == slab.index then slab else other).index 2 granule) (λ other. lies_on other.index 2 granule) slabs
    (λ other inside. go other (other.index == slab.index) refl)
  where
    go : (other : OwnSlab) (b : Bool) → (other.index == slab.index) ≡ b → lies_on (if b then slab else other).index 2 granule ≡ lies_on other.index 2 granule
    go other true same = ap (λ index. lies_on index 2 granule) (sym (eqb-true other.index slab.index same))
    go other false apart = refl

-- the slabs without one of an index
pub Contains-without : (index : ℕ) (slabs : List OwnSlab) (one : OwnSlab) → Contains (without index slabs) one → Contains slabs one × (one.index ≢ index)
Contains-without index slabs one inside =
    let (was, other) = Contains-filter (λ slab. not (slab.index == index)) slabs one inside in
    (was, eqb-false one.index index (not-true (one.index == index) other))

-- a slab has its first granule
pub slabs_on-first : (slabs : List OwnSlab) (slab : OwnSlab) → Contains slabs slab → 0 < slabs_on slab.index slabs
slabs_on-first slabs slab inside = count-some (λ other. lies_on other.index 2 slab.index) slabs slab inside (lies_on-true slab.index 2 slab.index (omega arith) (omega arith))

-- where one slab at most has the first granule of a slab, the others have all but its granules
pub slabs_on-without : (slabs : List OwnSlab) (slab : OwnSlab) → Contains slabs slab → slabs_on slab.index slabs ≤ 1 → (granule : ℕ) →
    one_if (lies_on slab.index 2 granule) + slabs_on granule (without slab.index slabs) ≡ slabs_on granule slabs
slabs_on-without slabs slab inside few granule =
    let split = count-split here of_index slabs in
    let found = count-found here of_index slabs alone in
    let first = first_is (find of_index slabs) refl in
    omega (arith, split, found, first)
  where
    here : OwnSlab → Bool
    here other = lies_on other.index 2 granule

    of_index : OwnSlab → Bool
    of_index other = other.index == slab.index

    alone : length (filter of_index slabs) ≤ 1
    alone =
        let less = count-more of_index (λ other. lies_on other.index 2 slab.index) slabs
        (λ other inside same. let is = eqb-true other.index slab.index same in lies_on-true other.index 2 slab.index (omega (arith, is)) (omega (arith, is))) in
        omega (arith, less, few)

    first_is : (found : Option OwnSlab) → find of_index slabs ≡ found → count_in here found ≡ one_if (lies_on slab.index 2 granule)
    first_is (Some other) found = ap (λ index. one_if (lies_on index 2 granule)) (eqb-true other.index slab.index (find-Some of_index slabs other found).1)
    first_is None found = absurd (true≢false (sym (eq-eqb slab.index slab.index refl) ∙ find-None of_index slabs found slab inside))
