-- The lists after a slab came to the slab cache, after one left it, and after it was trimmed.
use Prim.Native.Nat.{zero, suc}
use Rattle.std.proofs.Common.{◌≡◌, ℕ, ◌-◌, ◌%◌, ◌≤◌, Bool, true, false, inl, inr, List, [], ◌∷◌, ◌++◌, length, take, drop, Some, refl, sym, ap, ◌∙◌, subst, arith, nat_le, drop-cons, length-drop}
use Rattle.std.specs.Prelude.{Contains, slice_get, if◌then◌else◌}
use Rattle.std.proofs.lemmas.Bool.{leb-false}
use Rattle.std.proofs.lemmas.List.{length-append}
use Rattle.std.proofs.lemmas.Option.{get_or_from_slice_get, slice_get_within}
use Rattle.plain_lists.specs.Lists.{Block, Lists, lies_on}
use Rattle.plain_lists.specs.Backend.{after_put, after_puts, slab_block}
use Rattle.plain_lists.specs.Whole.{trimmed}
use Rattle.plain_lists.specs.Good.{AreGood, stored_on}
use Rattle.list_laws.proofs.Members.{Contains-first, Contains-other, Contains-cons, Contains-single, Contains-take, Contains-drop}
use Rattle.std.proofs.lemmas.List.Elements.{Contains-append_cases}
use Rattle.list_laws.proofs.Counts.{count-cons, count-append, count-cut}
use Rattle.plain_lists.proofs.Beside.{AreGoodBeside, good_from}
use Rattle.plain_lists.proofs.BlockChanges.{block_put}

-- a slab whose room is in hand comes to the slab cache, as the newest
pub stored_put : (index : ℕ) (rooms : List ℕ) (lists : Lists) → AreGoodBeside (index ∷ rooms) lists → AreGoodBeside rooms (record lists { stored = lists.stored ++ index ∷ [] })
stored_put index rooms lists good = record {
  region_is = good.region_is;
  slabs_are = good.slabs_are;
  stored_are = λ other inside. elim (Contains-append_cases lists.stored (index ∷ []) other inside) [
    | inl was ↦ good.stored_are other was
    | inr last ↦ subst (λ at_index. at_index % 2 ≡ 0) (Contains-single index other last) (good.rooms_are index (Contains-first index rooms))
  ];
  blocks_are = good.blocks_are;
  rooms_are = λ other inside. good.rooms_are other (Contains-other index rooms other inside);
  once = λ granule.
      let once = good.once granule in
      let room = count-cons (λ other. lies_on other 2 granule) index rooms in
      let more = count-append (λ other. lies_on other 2 granule) lists.stored (index ∷ []) in
      let last = count-cons (λ other. lies_on other 2 granule) index [] in
      omega (arith, once, room, more, last);
  parted = good.parted;
  numbers = good.numbers;
  apart = good.apart;
}

-- the list without its newest member
pub newest_last : (stored : List ℕ) (index : ℕ) → slice_get stored (length stored - 1) ≡ Some index → drop (length stored - 1) stored ≡ index ∷ []
newest_last stored index is =
    drop-cons stored (length stored - 1) index (slice_get_within stored (length stored - 1) index is)
    ∙ ap (λ last. last ∷ drop (suc (length stored - 1)) stored) (get_or_from_slice_get stored (length stored - 1) index index is)
    ∙ ap (λ rest. index ∷ rest) (none (drop (suc (length stored - 1)) stored) (let long = length-drop (suc (length stored - 1)) stored in omega (arith, long)))
  where
    none : (rest : List ℕ) → length rest ≡ 0 → rest ≡ []
    none [] long = refl
    none (other ∷ rest) long = absurd (omega arith)

-- the newest slab leaves the slab cache: its room is in hand
pub stored_newest : (index : ℕ) (rooms : List ℕ) (lists : Lists) → AreGoodBeside rooms lists → slice_get lists.stored (length lists.stored - 1) ≡ Some index →
    AreGoodBeside (index ∷ rooms) (record lists { stored = take (length lists.stored - 1) lists.stored })
stored_newest index rooms lists good is = record {
  region_is = good.region_is;
  slabs_are = good.slabs_are;
  stored_are = λ other inside. good.stored_are other (Contains-take (length lists.stored - 1) lists.stored other inside);
  blocks_are = good.blocks_are;
  rooms_are = λ other room. elim (Contains-cons index rooms other room) [
    | inl same ↦ subst (λ at_index. at_index % 2 ≡ 0) same (good.stored_are index (Contains-drop (length lists.stored - 1) lists.stored index (subst (λ xs. Contains xs index) (sym last) (Contains-first index []))))
    | inr was ↦ good.rooms_are other was
  ];
  once = λ granule.
      let once = good.once granule in
      let room = count-cons (λ other. lies_on other 2 granule) index rooms in
      let cut = count-cut (λ other. lies_on other 2 granule) (length lists.stored - 1) lists.stored in
      let behind = ap (stored_on granule) last in
      let one = count-cons (λ other. lies_on other 2 granule) index [] in
      omega (arith, once, room, cut, behind, one);
  parted = good.parted;
  numbers = good.numbers;
  apart = good.apart;
}
  where
    last : drop (length lists.stored - 1) lists.stored ≡ index ∷ []
    last = newest_last lists.stored index is

-- the oldest slab leaves the slab cache: its room is in hand
pub stored_oldest : (index : ℕ) (more rooms : List ℕ) (lists : Lists) → AreGoodBeside rooms (record lists { stored = index ∷ more }) → AreGoodBeside (index ∷ rooms) (record lists { stored = more })
stored_oldest index more rooms lists good = record {
  region_is = good.region_is;
  slabs_are = good.slabs_are;
  stored_are = λ other inside. good.stored_are other (Contains-other index more other inside);
  blocks_are = good.blocks_are;
  rooms_are = λ other room. elim (Contains-cons index rooms other room) [
    | inl is ↦ subst (λ at_index. at_index % 2 ≡ 0) is (good.stored_are index (Contains-first index more))
    | inr was ↦ good.rooms_are other was
  ];
  once = λ granule.
      let once = good.once granule in
      let room = count-cons (λ other. lies_on other 2 granule) index rooms in
      let first = count-cons (λ other. lies_on other 2 granule) index more in
      omega (arith, once, room, first);
  parted = good.parted;
  numbers = good.numbers;
  apart = good.apart;
}

-- the oldest slab of the slab cache is put
pub oldest_put : (index : ℕ) (more rooms : List ℕ) (lists : Lists) → AreGoodBeside rooms (record lists { stored = index ∷ more }) →
    AreGoodBeside rooms (record lists { stored = more; blocks = after_put (slab_block index) lists.blocks })
oldest_put index more rooms lists good = block_put index rooms (record lists { stored = more }) (stored_oldest index more rooms lists good)

-- and so are several
pub oldest_puts : (count : ℕ) (stored rooms : List ℕ) (lists : Lists) (blocks : List Block) → AreGoodBeside rooms (record lists { stored = stored; blocks = blocks }) →
    AreGoodBeside rooms (record lists { stored = drop count stored; blocks = after_puts (take count stored) blocks })
oldest_puts zero stored rooms lists blocks good = good
oldest_puts (suc count) [] rooms lists blocks good = good
oldest_puts (suc count) (index ∷ more) rooms lists blocks good =
    oldest_puts count more rooms lists (after_put (slab_block index) blocks) (oldest_put index more rooms (record lists { blocks = blocks }) good)

-- the lists after the slab cache was trimmed, where it had one too many at most
pub trimmed_good : (lists : Lists) → AreGoodBeside [] lists → length lists.stored ≤ 33 → AreGood (trimmed lists)
trimmed_good lists good few = go (nat_le 33 (length lists.stored)) refl
  where
    go : (b : Bool) → nat_le 33 (length lists.stored) ≡ b →
        AreGood (if b then record lists { stored = drop 25 lists.stored; blocks = after_puts (take 25 lists.stored) lists.blocks } else lists)
    go true full =
        good_from (record lists { stored = drop 25 lists.stored; blocks = after_puts (take 25 lists.stored) lists.blocks })
        (oldest_puts 25 lists.stored [] lists lists.blocks good) (let long = length-drop 25 lists.stored in omega (arith, long, few))
    go false room = good_from lists good (let less = leb-false 33 (length lists.stored) room in omega (arith, less))

-- a slab's room goes to the slab cache, which is trimmed if it is full
pub shelved_good : (index : ℕ) (lists : Lists) → AreGoodBeside (index ∷ []) lists → length lists.stored ≤ 32 → AreGood (trimmed (record lists { stored = lists.stored ++ index ∷ [] }))
shelved_good index lists good few =
    trimmed_good (record lists { stored = lists.stored ++ index ∷ [] }) (stored_put index [] lists good)
    (let long = length-append lists.stored (index ∷ []) in omega (arith, long, few))
