-- What a lawful move does to objects and to the book.
use Rattle.std.proofs.Common.{◌≡◌, ℕ, ◌<◌, inl, inr, List, [], ◌∷◌, Some, None, Bool, true, false, refl, sym, ◌∙◌, ap, subst, map}
use Rattle.std.specs.Prelude.{Contains, if◌then◌else◌}
use Rattle.std.specs.declared.option.Option.{Option}
use Rattle.std.proofs.lemmas.Bool.{cases_Bool, or_parts, or_from}
use Rattle.list_laws.proofs.Members.{Contains-none, Contains-cons, Contains-first, Contains-other, Contains-map}
use Rattle.pool_types.specs.declared.policy.RegionRec.{RegionRec}
use Rattle.pool_types.specs.declared.rows.KeeperChange.{KeeperChange}
use Rattle.pool_types.specs.declared.values.Grant.{Grant}
use Rattle.pool_types.specs.declared.values.Place.{Place}
use Rattle.part_model.specs.declared.holders.Holder.{Holder}
use Rattle.part_model.specs.declared.holders.Holder.TheVariants.{Waste, Head, Rest, Private, Public, Object, LargeHead, SlabCache, Cached, Bin, Queue, Hand}
use Rattle.part_model.specs.declared.moves.Part.{Part}
use Rattle.part_model.specs.declared.moves.Range.{Range}
use Rattle.part_model.specs.Holding.{Holding, lies_in, after_part, after_parts, IsApartFromAll, AreApart, CanMoveAll}
use Rattle.part_model.proofs.CallerLemmas.{lies_in_any, after_part-inside, after_part-outside, can_move-after_part}
use Rattle.size_classes.specs.Classes.{class_objects}
use Rattle.machine.specs.States.{Terms, State, Slab}
use Rattle.machine.specs.Ranges.{Each, part_of, object_range, head_range, objects_range, same_place, IsSlabRoom}
use Rattle.machine.specs.Regions.{front_range, granules_range, back_range}
use Rattle.machine.specs.Journal.{BookChange, Enters, Leaves, Passes, is_object, slab_after, book_after}
use Rattle.machine.specs.Lawful.{IsLawful, next_grant, new_slab, is_of_slab, pass, IsCut, IsAllOf, TakesOfSlab, TakesSlab, large_head_range, large_object_range}
use Rattle.machine.specs.Lawful.{nothing_moves, region_comes, region_leaves, blocks_put, blocks_queued, blocks_cached, bins_taken, queue_taken, cache_taken, slab_stored, slab_fetched, slab_begins, slab_ends, rest_granted, private_granted, object_freed, object_taken, object_listed, public_taken, block_granted, block_freed, slab_orphaned, orphans_taken, slab_adopted, slab_returned}
use Rattle.machine.proofs.Shapes.{each-map, each-parts_of, each-three}

-- the part is of no object
pub record NoObject (part : Part) : Type 0 where
  pub from : is_object part.from ≡ false
  pub to : is_object part.to ≡ false

-- two slabs lie at one place and are of one class
abbrev pub IsSameSlab : Slab → Slab → Type 0
IsSameSlab one other = (one.place ≡ other.place) × (one.class ≡ other.class)

-- what a move does to the book: its slabs stay where they are, one enters, or one leaves
pub data BookMove (terms : Terms) (state : State) (seat : ℕ) (parts : List Part) (book : List BookChange) : Type 0 where
  slabs_stay : ((slab : Slab) → Contains (book_after state.book book) slab → (old : Slab) × Contains state.book old × IsSameSlab old slab) →
      ((slab : Slab) → Contains state.book slab → (new : Slab) × Contains (book_after state.book book) new × IsSameSlab slab new) →
      BookMove terms state seat parts book
  slab_enters : (place : Place) (class : ℕ) → class < 26 → IsSlabRoom terms.limits state place →
      parts ≡ part_of (head_range place class) (Some (Hand seat)) (Some Head) ∷ part_of (objects_range place class) (Some (Hand seat)) (Some Rest) ∷ [] →
      book ≡ Enters (new_slab place class seat) ∷ [] → BookMove terms state seat parts book
  slab_goes : (slab : Slab) → TakesSlab slab seat parts → book ≡ Leaves slab.place ∷ [] → BookMove terms state seat parts book

-- what a move does to objects: none is made or ended, one is made, or one is ended
pub data ObjectMove (terms : Terms) (state : State) (seat : ℕ) (parts : List Part) (book : List BookChange) : Type 0 where
  none_moves : Each NoObject parts → BookMove terms state seat parts book → ObjectMove terms state seat parts book
  small_made : (slab : Slab) (object : ℕ) (from : Option Holder) → Contains state.book slab → object < class_objects slab.class → is_object from ≡ false →
      parts ≡ part_of (object_range slab object) from (Some (Object (next_grant state seat))) ∷ [] → book ≡ [] → ObjectMove terms state seat parts book
  large_made : (block : Range) (alignment head : ℕ) → IsCut terms.limits state block alignment head →
      parts ≡ part_of (large_head_range block head) (Some (Hand seat)) (Some (LargeHead (next_grant state seat)))
      ∷ part_of (large_object_range block head) (Some (Hand seat)) (Some (Object (next_grant state seat))) ∷ [] →
      book ≡ [] → ObjectMove terms state seat parts book
  small_ended : (slab : Slab) (object : ℕ) (grant : Grant) (to : Option Holder) → Contains state.book slab → object < class_objects slab.class → is_object to ≡ false →
      parts ≡ part_of (object_range slab object) (Some (Object grant)) to ∷ [] → book ≡ [] → ObjectMove terms state seat parts book
  large_ended : (block : Range) (head : ℕ) (grant : Grant) → head < block.bytes → IsAllOf state block grant →
      parts ≡ part_of (large_head_range block head) (Some (LargeHead grant)) (Some (Hand seat))
      ∷ part_of (large_object_range block head) (Some (Object grant)) (Some (Hand seat)) ∷ [] →
      book ≡ [] → ObjectMove terms state seat parts book

-- slabs that go from one keeper to another stay where they are
passed : (change : KeeperChange) (slab : Slab) → IsSameSlab slab (slab_after change slab)
passed change slab = by_test (same_place slab.place change.slab)
  where
    by_test : (b : Bool) → IsSameSlab slab (if b then record { place = slab.place; class = slab.class; keeper = change.to } else slab)
    by_test true = (refl, refl)
    by_test false = (refl, refl)

-- a member of a list that a function went over
mapped : {X Y : Type 0} → (f : X → Y) (xs : List X) (x : X) → Contains xs x → Contains (map f xs) (f x)
mapped f [] x member = absurd (Contains-none x member)
mapped f (y ∷ xs) x member = elim (Contains-cons y xs x member) [
  | inl is ↦ subst (λ z. Contains (f y ∷ map f xs) (f z)) is (Contains-first (f y) (map f xs))
  | inr later ↦ Contains-other (f y) (map f xs) (f x) (mapped f xs x later)
]

-- only slabs that pass
abbrev pub ArePasses : List BookChange → Type 0
ArePasses [] = Unit {0}
ArePasses (Passes change ∷ changes) = ArePasses changes
ArePasses (Enters slab ∷ changes) = ⊥
ArePasses (Leaves place ∷ changes) = ⊥

passes_back : (book : List Slab) (changes : List BookChange) → ArePasses changes → (slab : Slab) → Contains (book_after book changes) slab → (old : Slab) × Contains book old × IsSameSlab old slab
passes_back book [] passes slab member = (slab, member, (refl, refl))
passes_back book (Passes change ∷ changes) passes slab member =
    let later = passes_back (map (slab_after change) book) changes passes slab member in
    let first = Contains-map (slab_after change) book later.0 later.1 in
    let same = passed change first.0 in
    (first.0, first.1, (same.0 ∙ ap (λ (s : Slab). s.place) first.2 ∙ later.2.0, same.1 ∙ ap (λ (s : Slab). s.class) first.2 ∙ later.2.1))
passes_back book (Enters s ∷ changes) passes slab member = absurd passes
passes_back book (Leaves place ∷ changes) passes slab member = absurd passes

passes_on : (book : List Slab) (changes : List BookChange) → ArePasses changes → (slab : Slab) → Contains book slab → (new : Slab) × Contains (book_after book changes) new × IsSameSlab slab new
passes_on book [] passes slab member = (slab, member, (refl, refl))
passes_on book (Passes change ∷ changes) passes slab member =
    let later = passes_on (map (slab_after change) book) changes passes (slab_after change slab) (mapped (slab_after change) book slab member) in
    let same = passed change slab in
    (later.0, later.1, (same.0 ∙ later.2.0, same.1 ∙ later.2.1))
passes_on book (Enters s ∷ changes) passes slab member = absurd passes
passes_on book (Leaves place ∷ changes) passes slab member = absurd passes

passing : (terms : Terms) (state : State) (seat : ℕ) (parts : List Part) (changes : List BookChange) → ArePasses changes → BookMove terms state seat parts changes
passing terms state seat parts changes passes = slabs_stay (passes_back state.book changes passes) (passes_on state.book changes passes)

all_pass : (from to : _) (slabs : List Slab) → ArePasses (map (pass from to) slabs)
all_pass from to [] = tt
all_pass from to (slab ∷ slabs) = all_pass from to slabs

-- what of a slab goes to a hand is no object
of_slab_no_object : (holder : Option Holder) → is_of_slab holder ≡ true → is_object holder ≡ false
of_slab_no_object (Some Head) is = refl
of_slab_no_object (Some Rest) is = refl
of_slab_no_object (Some Private) is = refl
of_slab_no_object (Some (Object grant)) is = absurd (let clash = is in cc)
of_slab_no_object None is = refl
of_slab_no_object (Some Waste) is = refl
of_slab_no_object (Some Public) is = refl
of_slab_no_object (Some (LargeHead grant)) is = refl
of_slab_no_object (Some (SlabCache seat)) is = refl
of_slab_no_object (Some (Cached granules)) is = refl
of_slab_no_object (Some Bin) is = refl
of_slab_no_object (Some Queue) is = refl
of_slab_no_object (Some (Hand seat)) is = refl

-- a lawful move is one of these
pub object_move : (terms : Terms) (state : State) (seat : ℕ) (parts : List Part) (book : List BookChange) (region : Option RegionRec) →
    IsLawful terms state seat parts book region → ObjectMove terms state seat parts book
object_move terms state seat parts book region nothing_moves = none_moves tt (passing terms state seat [] [] tt)
object_move terms state seat parts book region (region_comes r new) =
    none_moves (each-three NoObject (front_range terms.limits.pool r) (granules_range terms.limits.pool r) (back_range terms.limits.pool r) None (Some Waste) None (Some (Hand seat))
    (record { from = refl; to = refl }) (record { from = refl; to = refl }) (record { from = refl; to = refl })) (passing terms state seat _ [] tt)
object_move terms state seat parts book region (region_leaves r live) =
    none_moves (each-three NoObject (front_range terms.limits.pool r) (granules_range terms.limits.pool r) (back_range terms.limits.pool r) (Some Waste) None (Some (Hand seat)) None
    (record { from = refl; to = refl }) (record { from = refl; to = refl }) (record { from = refl; to = refl })) (passing terms state seat _ [] tt)
object_move terms state seat parts book region (blocks_put blocks each) =
    none_moves (each-parts_of NoObject (Some (Hand seat)) (Some Bin) (λ range. record { from = refl; to = refl }) blocks) (passing terms state seat _ [] tt)
object_move terms state seat parts book region (blocks_queued blocks each) =
    none_moves (each-parts_of NoObject (Some (Hand seat)) (Some Queue) (λ range. record { from = refl; to = refl }) blocks) (passing terms state seat _ [] tt)
object_move terms state seat parts book region (blocks_cached n blocks each) =
    none_moves (each-parts_of NoObject (Some (Hand seat)) (Some (Cached n)) (λ range. record { from = refl; to = refl }) blocks) (passing terms state seat _ [] tt)
object_move terms state seat parts book region (bins_taken ranges each) =
    none_moves (each-parts_of NoObject (Some Bin) (Some (Hand seat)) (λ range. record { from = refl; to = refl }) ranges) (passing terms state seat _ [] tt)
object_move terms state seat parts book region (queue_taken ranges each) =
    none_moves (each-parts_of NoObject (Some Queue) (Some (Hand seat)) (λ range. record { from = refl; to = refl }) ranges) (passing terms state seat _ [] tt)
object_move terms state seat parts book region (cache_taken n ranges each) =
    none_moves (each-parts_of NoObject (Some (Cached n)) (Some (Hand seat)) (λ range. record { from = refl; to = refl }) ranges) (passing terms state seat _ [] tt)
object_move terms state seat parts book region (slab_stored place room) = none_moves (record { from = refl; to = refl }, tt) (passing terms state seat _ [] tt)
object_move terms state seat parts book region (slab_fetched place room) = none_moves (record { from = refl; to = refl }, tt) (passing terms state seat _ [] tt)
object_move terms state seat parts book region (slab_begins place class exists room) =
    none_moves (record { from = refl; to = refl }, (record { from = refl; to = refl }, tt)) (slab_enters place class exists room refl refl)
object_move terms state seat parts book region (slab_ends slab ps kept takes) =
    none_moves (each-map (TakesOfSlab slab seat) NoObject (λ part of. record { from = of_slab_no_object part.from of.of_slab; to = ap is_object of.to_hand }) ps takes.each) (slab_goes slab takes refl)
object_move terms state seat parts book region (rest_granted slab object kept exists highest) = small_made slab object (Some Rest) kept.0 exists refl refl refl
object_move terms state seat parts book region (private_granted slab object kept exists) = small_made slab object (Some Private) kept.0 exists refl refl refl
object_move terms state seat parts book region (object_freed slab object grant kept exists) = small_ended slab object grant (Some Private) kept.0 exists refl refl refl
object_move terms state seat parts book region (object_taken slab object grant of other) = small_ended slab object grant (Some (Hand seat)) of.booked of.exists refl refl refl
object_move terms state seat parts book region (object_listed slab object of) = none_moves (record { from = refl; to = refl }, tt) (passing terms state seat _ [] tt)
object_move terms state seat parts book region (public_taken slab objects kept each all) =
    none_moves (each-parts_of NoObject (Some Public) (Some Private) (λ range. record { from = refl; to = refl }) (map (object_range slab) objects)) (passing terms state seat _ [] tt)
object_move terms state seat parts book region (block_granted block alignment head cut) = large_made block alignment head cut refl refl
object_move terms state seat parts book region (block_freed block granules head grant whole some below all) = large_ended block head grant below all refl refl
object_move terms state seat parts book region (slab_orphaned slab kept) = none_moves tt (passing terms state seat [] _ tt)
object_move terms state seat parts book region (orphans_taken class slabs each all) = none_moves tt (passing terms state seat [] _ (all_pass _ _ slabs))
object_move terms state seat parts book region (slab_adopted slab kept) = none_moves tt (passing terms state seat [] _ tt)
object_move terms state seat parts book region (slab_returned slab kept) = none_moves tt (passing terms state seat [] _ tt)

-- what a move does at a byte: nothing, or what the part does that has it
pub data AtByte (held : Holding) (parts : List Part) (byte : Place) : Type 0 where
  untouched : lies_in_any byte parts ≡ false → after_parts held parts byte ≡ held byte → AtByte held parts byte
  moved : (part : Part) → Contains parts part → lies_in byte part.range ≡ true → held byte ≡ part.from → after_parts held parts byte ≡ part.to → AtByte held parts byte

-- a byte of no part stays; a byte of a range lies in no part that is apart from it
parts_outside : (held : Holding) (parts : List Part) (byte : Place) → lies_in_any byte parts ≡ false → after_parts held parts byte ≡ held byte
parts_outside held [] byte outside = refl
parts_outside held (part ∷ parts) byte outside =
    let both = or_parts (lies_in byte part.range) (lies_in_any byte parts) outside in
    parts_outside (after_part held part) parts byte both.1 ∙ after_part-outside held part byte both.0

in_no_other : (range : Range) (parts : List Part) (byte : Place) → IsApartFromAll range parts → lies_in byte range ≡ true → lies_in_any byte parts ≡ false
in_no_other range [] byte apart inside = refl
in_no_other range (part ∷ parts) byte (first, rest) inside =
    or_from (lies_in byte part.range) (lies_in_any byte parts) (first byte inside) (in_no_other range parts byte rest inside)

pub at_byte : (seat : ℕ) (held : Holding) (parts : List Part) (byte : Place) → AreApart parts → CanMoveAll seat held parts → AtByte held parts byte
at_byte seat held [] byte apart can = untouched refl refl
at_byte seat held (part ∷ parts) byte (first, rest) (can, can_rest) = elim (cases_Bool (lies_in byte part.range)) [
  | inl inside ↦ moved part (Contains-first part parts) inside (can.there byte inside)
      (parts_outside (after_part held part) parts byte (in_no_other part.range parts byte first inside) ∙ after_part-inside held part byte inside)
  | inr outside ↦ by_rest outside (at_byte seat (after_part held part) parts byte rest (can_move-after_part seat held part parts first can_rest))
]
  where
    by_rest : lies_in byte part.range ≡ false → AtByte (after_part held part) parts byte → AtByte held (part ∷ parts) byte
    by_rest outside (untouched none same) = untouched (or_from (lies_in byte part.range) (lies_in_any byte parts) outside none) (same ∙ after_part-outside held part byte outside)
    by_rest outside (moved other member inside was is) =
        moved other (Contains-other part parts other member) inside (sym (after_part-outside held part byte outside) ∙ was) is
