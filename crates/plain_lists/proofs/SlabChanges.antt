-- The lists after a slab was changed, after one began, and after one left.
use Rattle.std.proofs.Common.{◌≡◌, ◌≢◌, ℕ, ◌%◌, ◌<◌, ◌≤◌, ◌⊎◌, inl, inr, List, ◌∷◌, sym, ap, ◌∙◌, subst, arith}
use Rattle.std.specs.Prelude.{Contains}
use Rattle.plain_lists.specs.Lists.{OwnSlab, Lists, lies_on, changed, without}
use Rattle.plain_lists.specs.Good.{IsGoodSlab, slabs_on, IsHeld}
use Rattle.list_laws.proofs.Members.{Contains-other, Contains-cons}
use Rattle.list_laws.proofs.Counts.{one_if, count-cons}
use Rattle.plain_lists.proofs.Granules.{lies_on-true}
use Rattle.plain_lists.proofs.SlabLists.{Contains-changed, slabs_on-changed, Contains-without, slabs_on-without, slabs_on-first}
use Rattle.plain_lists.proofs.Beside.{AreGoodBeside, at_most_once}

-- one slab at most has the first granule of a slab of the lists
pub same_slab : (rooms : List ℕ) (lists : Lists) → AreGoodBeside rooms lists → (slab : OwnSlab) → Contains lists.slabs slab → slabs_on slab.index lists.slabs ≤ 1
same_slab rooms lists good slab inside = let once = at_most_once rooms lists good slab.index in omega (arith, once)

-- What a slab may become: it stays at its index and good. What it holds it held before, but one object under a number that was not given
-- yet.
pub record IsChange (lists : Lists) (old new : OwnSlab) (fresh granted : ℕ) : Type 0 where
  pub listed : Contains lists.slabs old
  pub index_is : new.index ≡ old.index
  pub good : IsGoodSlab new
  pub rises : lists.granted ≤ granted
  pub held : (object number : ℕ) → IsHeld new object number → IsHeld old object number ⊎ ((object ≡ fresh) × (lists.granted < number) × (number ≤ granted))

-- the lists after a slab was changed so
pub slab_changed : (rooms : List ℕ) (lists : Lists) (old new : OwnSlab) (fresh granted : ℕ) → AreGoodBeside rooms lists → IsChange lists old new fresh granted →
    AreGoodBeside rooms (record lists { slabs = changed new lists.slabs; granted = granted })
slab_changed rooms lists old new fresh granted good change = record {
  region_is = good.region_is;
  slabs_are = λ slab inside. elim (Contains-changed new lists.slabs slab inside) [
    | inl is ↦ subst IsGoodSlab is change.good
    | inr (was, apart) ↦ good.slabs_are slab was
  ];
  stored_are = good.stored_are;
  blocks_are = good.blocks_are;
  rooms_are = good.rooms_are;
  once = λ granule. let once = good.once granule in let same = slabs_on-changed new lists.slabs granule in omega (arith, once, same);
  parted = good.parted;
  numbers = λ slab object number inside held. elim (Contains-changed new lists.slabs slab inside) [
    | inl is ↦ new_number object number (subst (λ s. IsHeld s object number) (sym is) held)
    | inr (was, apart) ↦ let old_number = good.numbers slab object number was held in let rises = change.rises in omega (arith, old_number, rises)
  ];
  apart = λ one other i j number in_one in_other held_one held_other.
      both one other i j number (Contains-changed new lists.slabs one in_one) (Contains-changed new lists.slabs other in_other) held_one held_other;
}
  where
    new_number : (object number : ℕ) → IsHeld new object number → (0 < number) × (number ≤ granted)
    new_number object number held = elim (change.held object number held) [
      | inl was ↦ let old_number = good.numbers old object number change.listed was in let rises = change.rises in omega (arith, old_number, rises)
      | inr (is, above, most) ↦ omega (arith, above, most)
    ]

    -- a number that the changed slab holds is held by no other slab
    foreign : (slab : OwnSlab) (i j number : ℕ) → IsHeld new i number → Contains lists.slabs slab → slab.index ≢ new.index → IsHeld slab j number → ⊥
    foreign slab i j number held inside apart held_there = elim (change.held i number held) [
      | inl was ↦ apart (sym (ap (λ (s : OwnSlab). s.index) (good.apart old slab i j number change.listed inside was held_there).0) ∙ sym change.index_is)
      | inr (is, above, most) ↦ let old_number = good.numbers slab j number inside held_there in omega (arith, old_number, above)
    ]

    new_apart : (i j number : ℕ) → IsHeld new i number → IsHeld new j number → i ≡ j
    new_apart i j number held_i held_j = pair (change.held i number held_i) (change.held j number held_j)
      where
        pair : IsHeld old i number ⊎ ((i ≡ fresh) × (lists.granted < number) × (number ≤ granted)) → IsHeld old j number ⊎ ((j ≡ fresh) × (lists.granted < number) × (number ≤ granted)) → i ≡ j
        pair (inl was_i) (inl was_j) = (good.apart old old i j number change.listed change.listed was_i was_j).1
        pair (inl was_i) (inr (is, above, most)) = absurd (let old_number = good.numbers old i number change.listed was_i in omega (arith, old_number, above))
        pair (inr (is, above, most)) (inl was_j) = absurd (let old_number = good.numbers old j number change.listed was_j in omega (arith, old_number, above))
        pair (inr (is_i, above, most)) (inr (is_j, above_j, most_j)) = is_i ∙ sym is_j

    both : (one other : OwnSlab) (i j number : ℕ) → (new ≡ one) ⊎ (Contains lists.slabs one × (one.index ≢ new.index)) → (new ≡ other) ⊎ (Contains lists.slabs other × (other.index ≢ new.index)) →
        IsHeld one i number → IsHeld other j number → (one ≡ other) × (i ≡ j)
    both one other i j number (inl is_one) (inl is_other) held_one held_other =
        (sym is_one ∙ is_other, new_apart i j number (subst (λ s. IsHeld s i number) (sym is_one) held_one) (subst (λ s. IsHeld s j number) (sym is_other) held_other))
    both one other i j number (inl is_one) (inr (was, apart)) held_one held_other =
        absurd (foreign other i j number (subst (λ s. IsHeld s i number) (sym is_one) held_one) was apart held_other)
    both one other i j number (inr (was, apart)) (inl is_other) held_one held_other =
        absurd (foreign one j i number (subst (λ s. IsHeld s j number) (sym is_other) held_other) was apart held_one)
    both one other i j number (inr (was_one, apart_one)) (inr (was_other, apart_other)) held_one held_other = good.apart one other i j number was_one was_other held_one held_other

-- the lists after a slab began in room that was in hand, and gave one object under a number that was not given yet
pub slab_begun : (index : ℕ) (rooms : List ℕ) (lists : Lists) (slab : OwnSlab) (fresh granted : ℕ) → AreGoodBeside (index ∷ rooms) lists → slab.index ≡ index → IsGoodSlab slab →
    lists.granted ≤ granted → ((object number : ℕ) → IsHeld slab object number → (object ≡ fresh) × (lists.granted < number) × (number ≤ granted)) →
    AreGoodBeside rooms (record lists { slabs = slab ∷ lists.slabs; granted = granted })
slab_begun index rooms lists slab fresh granted good index_is slab_good rises held = record {
  region_is = good.region_is;
  slabs_are = λ one inside. elim (Contains-cons slab lists.slabs one inside) [ inl is ↦ subst IsGoodSlab is slab_good | inr was ↦ good.slabs_are one was ];
  stored_are = good.stored_are;
  blocks_are = good.blocks_are;
  rooms_are = λ other inside. good.rooms_are other (Contains-other index rooms other inside);
  once = λ granule.
      let once = good.once granule in
      let room = count-cons (λ other. lies_on other 2 granule) index rooms in
      let first = count-cons (λ (other : OwnSlab). lies_on other.index 2 granule) slab lists.slabs in
      let same = ap (λ at_index. one_if (lies_on at_index 2 granule)) index_is in
      omega (arith, once, room, first, same);
  parted = good.parted;
  numbers = λ one object number inside is_held. elim (Contains-cons slab lists.slabs one inside) [
    | inl is ↦ let new = held object number (subst (λ s. IsHeld s object number) (sym is) is_held) in omega (arith, new.1, new.2)
    | inr was ↦ let old = good.numbers one object number was is_held in omega (arith, old, rises)
  ];
  apart = λ one other i j number in_one in_other held_one held_other.
      both one other i j number (Contains-cons slab lists.slabs one in_one) (Contains-cons slab lists.slabs other in_other) held_one held_other;
}
  where
    both : (one other : OwnSlab) (i j number : ℕ) → (slab ≡ one) ⊎ Contains lists.slabs one → (slab ≡ other) ⊎ Contains lists.slabs other → IsHeld one i number → IsHeld other j number → (one ≡ other) × (i ≡ j)
    both one other i j number (inl is_one) (inl is_other) held_one held_other =
        (sym is_one ∙ is_other, (held i number (subst (λ s. IsHeld s i number) (sym is_one) held_one)).0 ∙ sym (held j number (subst (λ s. IsHeld s j number) (sym is_other) held_other)).0)
    both one other i j number (inl is_one) (inr was) held_one held_other =
        absurd (let new = held i number (subst (λ s. IsHeld s i number) (sym is_one) held_one) in let old = good.numbers other j number was held_other in omega (arith, new.1, old))
    both one other i j number (inr was) (inl is_other) held_one held_other =
        absurd (let new = held j number (subst (λ s. IsHeld s j number) (sym is_other) held_other) in let old = good.numbers one i number was held_one in omega (arith, new.1, old))
    both one other i j number (inr was_one) (inr was_other) held_one held_other = good.apart one other i j number was_one was_other held_one held_other

-- no slab is where room is in hand
pub no_slab_in_room : (index : ℕ) (rooms : List ℕ) (lists : Lists) → AreGoodBeside (index ∷ rooms) lists → (slab : OwnSlab) → Contains lists.slabs slab → slab.index ≢ index
no_slab_in_room index rooms lists good slab inside same =
    let once = at_most_once (index ∷ rooms) lists good index in
    let room = count-cons (λ other. lies_on other 2 index) index rooms in
    let here = ap one_if (lies_on-true index 2 index (omega arith) (omega arith)) in
    let some = subst (λ at_index. 0 < slabs_on at_index lists.slabs) same (slabs_on-first lists.slabs slab inside) in
    omega (arith, once, room, here, some)

-- the lists after a slab left: its room is in hand
pub slab_left : (rooms : List ℕ) (lists : Lists) (slab : OwnSlab) → AreGoodBeside rooms lists → Contains lists.slabs slab →
    AreGoodBeside (slab.index ∷ rooms) (record lists { slabs = without slab.index lists.slabs })
slab_left rooms lists slab good inside = record {
  region_is = good.region_is;
  slabs_are = λ one left. good.slabs_are one (Contains-without slab.index lists.slabs one left).0;
  stored_are = good.stored_are;
  blocks_are = good.blocks_are;
  rooms_are = λ other room. elim (Contains-cons slab.index rooms other room) [
    | inl is ↦ subst (λ index. index % 2 ≡ 0) is (good.slabs_are slab inside).even
    | inr was ↦ good.rooms_are other was
  ];
  once = λ granule.
      let once = good.once granule in
      let room = count-cons (λ other. lies_on other 2 granule) slab.index rooms in
      let less = slabs_on-without lists.slabs slab inside (same_slab rooms lists good slab inside) granule in
      omega (arith, once, room, less);
  parted = good.parted;
  numbers = λ one object number left held. good.numbers one object number (Contains-without slab.index lists.slabs one left).0 held;
  apart = λ one other i j number left_one left_other held_one held_other.
      good.apart one other i j number (Contains-without slab.index lists.slabs one left_one).0 (Contains-without slab.index lists.slabs other left_other).0 held_one held_other;
}
