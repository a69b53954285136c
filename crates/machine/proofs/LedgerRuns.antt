-- Each lawful move keeps the ledger of objects.
use Rattle.std.proofs.Common.{◌≡◌, ◌≢◌, ℕ, ◌+◌, ◌-◌, ◌<◌, inl, inr, List, [], ◌∷◌, ◌++◌, Some, Bool, true, false, ◌&&◌, ◌||◌, refl, sym, ◌∙◌, ap, arith, subst, append_assoc, append-nil}
use Rattle.std.specs.Prelude.{Contains, if◌then◌else◌, ◌==◌, not, filter}
use Rattle.std.specs.List.{list_any, flat_map}
use Rattle.std.specs.declared.option.Option.{Option}
use Rattle.std.proofs.lemmas.Bool.{cases_Bool, cases_lt, and_parts, eqb-true, eq-eqb, false_from_ne_true, not_from_false}
use Rattle.std.proofs.lemmas.List.Elements.{Contains-append_left, Contains-push_cases}
use Rattle.list_laws.proofs.Members.{Contains-none, Contains-filter, Contains-filter_from}
use Rattle.pool_types.specs.declared.values.Grant.{Grant}
use Rattle.pool_types.specs.declared.values.Leak.{Leak}
use Rattle.pool_types.specs.declared.values.Place.{Place}
use Rattle.part_model.specs.declared.holders.Holder.{Holder}
use Rattle.part_model.specs.declared.holders.Holder.TheVariants.{Head, Rest, Object, LargeHead, Hand}
use Rattle.part_model.specs.declared.moves.Part.{Part}
use Rattle.part_model.specs.Holding.{Holding, same_region, lies_in, after_part, after_parts, AreApart, CanMoveAll, IsApart}
use Rattle.part_model.proofs.CallerLemmas.{lies_in_any, after_part-inside, after_part-outside, lies_in-parts, lies_in-is, lies_in-not, same_region-parts}
use Rattle.size_classes.specs.Classes.{class_size, class_objects}
use Rattle.size_classes.specs.Layout.{head_bytes}
use Rattle.size_classes.proofs.CallerLemmas.{class_size-least, class_objects-fit}
use Rattle.machine.specs.States.{Terms, State, Slab, nothing_yet}
use Rattle.machine.specs.Ranges.{Each, part_of, lies_in_parts, object_range, slab_range, head_range, objects_range, same_place}
use Rattle.machine.specs.Journal.{BookChange, is_object, last_after, book_after}
use Rattle.machine.specs.Lawful.{next_grant, new_slab, is_of_slab, TakesOfSlab, TakesSlab, large_head_range, large_object_range}
use Rattle.machine.specs.Answers.{IsObject}
use Rattle.machine.specs.Events.{Event, Begins, Makes, Reset_begins, Reset_ends, Ends, Serving, Resetting, Ended, Progress, no_progress, after_event, after_events}
use Rattle.machine.specs.Runs.{IsRunFrom}
use Rattle.machine.specs.Leaks.{leak_range}
use Rattle.machine.specs.Ledger.{granted_by, freed_by, granted_in, freed_in, HeldAreGrantedLessFreed}
use Rattle.machine.proofs.Shapes.{each-contains}
use Rattle.machine.proofs.ObjectMoves.{NoObject, BookMove, slabs_stay, slab_enters, slab_goes, ObjectMove, none_moves, small_made, large_made, small_ended, large_ended, object_move, AtByte, untouched, moved, at_byte}
use Rattle.machine.proofs.Ledger.{IsLaid, in_slab, off_book, IsBook, IsLedger, first_inside, same_range, same_leak, no_object_at, none_granted, none_freed, object_clash, last_grows, ledger_same, ledger_granted, ledger_freed, same_object_range, object_in_slab, nested_objects}

-- which bytes are objects after a move that moves none
object_back : (seat : ℕ) (held : Holding) (parts : List Part) → AreApart parts → CanMoveAll seat held parts → Each NoObject parts →
    (byte : Place) (grant : Grant) → after_parts held parts byte ≡ Some (Object grant) → held byte ≡ Some (Object grant)
object_back seat held parts apart can none byte grant is = by_byte (at_byte seat held parts byte apart can)
  where
    by_byte : AtByte held parts byte → held byte ≡ Some (Object grant)
    by_byte (untouched outside same) = sym same ∙ is
    by_byte (moved part member inside was now) = absurd (object_clash part.to grant (each-contains NoObject parts none part member).to (sym now ∙ is))

object_on : (seat : ℕ) (held : Holding) (parts : List Part) → AreApart parts → CanMoveAll seat held parts → Each NoObject parts →
    (byte : Place) (grant : Grant) → held byte ≡ Some (Object grant) → after_parts held parts byte ≡ Some (Object grant)
object_on seat held parts apart can none byte grant is = by_byte (at_byte seat held parts byte apart can)
  where
    by_byte : AtByte held parts byte → after_parts held parts byte ≡ Some (Object grant)
    by_byte (untouched outside same) = same ∙ is
    by_byte (moved part member inside was now) = absurd (object_clash part.from grant (each-contains NoObject parts none part member).from (sym was ∙ is))

-- the book after a move that moves no object, and where objects lie then
record Booked (book next : List Slab) (granted freed : List Leak) : Type 0 where
  booked : IsBook next
  laid : (leak : Leak) → Contains granted leak → (Contains freed leak → ⊥) → IsLaid book leak → IsLaid next leak

-- whether a byte lies in one of the parts, said in two ways
any_same : (byte : Place) (parts : List Part) → lies_in_parts byte parts ≡ lies_in_any byte parts
any_same byte [] = refl
any_same byte (part ∷ parts) = ap (λ b. lies_in byte part.range || b) (any_same byte parts)

-- an object that is held lies in no slab that goes
not_taken : (seat : ℕ) (held : Holding) (parts : List Part) (slab : Slab) → AreApart parts → CanMoveAll seat held parts → TakesSlab slab seat parts →
    (byte : Place) (grant : Grant) → lies_in byte (slab_range slab.place) ≡ true → held byte ≡ Some (Object grant) → ⊥
not_taken seat held parts slab apart can takes byte grant inside is = by_byte (at_byte seat held parts byte apart can)
  where
    by_byte : AtByte held parts byte → ⊥
    by_byte (untouched outside same) = let clash : true ≡ false = sym (takes.whole byte inside) ∙ any_same byte parts ∙ outside in cc
    by_byte (moved part member within was now) =
        let of : is_of_slab part.from ≡ true = (each-contains (TakesOfSlab slab seat) parts takes.each part member).of_slab in
        let clash : true ≡ false = sym of ∙ ap is_of_slab (sym was ∙ is) in cc

-- places that are the same
same_place-is : (one other : Place) → same_place one other ≡ true → one ≡ other
same_place-is one other is =
    let both = and_parts (same_region one other) (one.offset == other.offset) is in
    let region = same_region-parts one other both.0 in
    ap (λ p. record { pool = p; region = one.region; offset = one.offset }) region.0
    ∙ ap (λ r. record { pool = other.pool; region = r; offset = one.offset }) region.1
    ∙ ap (λ o. record { pool = other.pool; region = other.region; offset = o }) (eqb-true one.offset other.offset both.1)

-- a byte of a slab that begins is in the hand
in_new_slab : (seat : ℕ) (held : Holding) (place : Place) (class : ℕ) → class < 26 →
    CanMoveAll seat held (part_of (head_range place class) (Some (Hand seat)) (Some Head) ∷ part_of (objects_range place class) (Some (Hand seat)) (Some Rest) ∷ []) →
    (byte : Place) → lies_in byte (slab_range place) ≡ true → held byte ≡ Some (Hand seat)
in_new_slab seat held place class exists can byte inside =
    let lies = lies_in-parts byte (slab_range place) inside in
    let low = lies.from in
    let high = lies.below in
    let fit = class_objects-fit class in
    elim (cases_lt byte.offset (place.offset + head_bytes class)) [
      | inl before ↦ can.0.there byte (lies_in-is byte (head_range place class) lies.region low before)
      | inr behind ↦ can.1.0.there byte (lies_in-is byte (objects_range place class) lies.region behind (omega (arith, high, fit)))
    ]

book_moved : (terms : Terms) (state : State) (seat : ℕ) (parts : List Part) (book : List BookChange) (granted freed : List Leak) → BookMove terms state seat parts book →
    AreApart parts → CanMoveAll seat state.held parts → IsLedger state.held state.book state.last granted freed → Booked state.book (book_after state.book book) granted freed
book_moved terms state seat parts book granted freed (slabs_stay back on) apart can ledger = record {
  booked = record {
    classes = λ slab member. let old = back slab member in subst (λ c. c < 26) old.2.1 (ledger.booked.classes old.0 old.1);
    apart = λ one other member member_other byte inside inside_other.
        let old = back one member in
        let old' = back other member_other in
        let same = ledger.booked.apart old.0 old'.0 old.1 old'.1 byte (subst (λ p. lies_in byte (slab_range p) ≡ true) (sym old.2.0) inside) (subst (λ p. lies_in byte (slab_range p) ≡ true) (sym old'.2.0) inside_other) in
        (sym old.2.0 ∙ same.0 ∙ old'.2.0, sym old.2.1 ∙ same.1 ∙ old'.2.1);
  };
  laid = λ leak member still is. stays leak is;
}
  where
    stays : (leak : Leak) → IsLaid state.book leak → IsLaid (book_after state.book book) leak
    stays leak (in_slab slab object member exists range) =
        let new = on slab member in
        in_slab new.0 object new.1 (subst (λ c. object < class_objects c) new.2.1 exists) (range ∙ same_object_range slab new.0 object new.2)
    stays leak (off_book apart_from) = off_book (λ slab member. let old = back slab member in subst (λ p. IsApart (leak_range leak) (slab_range p)) old.2.0 (apart_from old.0 old.1))
book_moved terms state seat parts book granted freed (slab_enters place class exists room parts_are book_are) apart can ledger =
    subst (λ b. Booked state.book (book_after state.book b) granted freed) (sym book_are) (record {
      booked = record {
        classes = λ slab member. elim (Contains-push_cases state.book (new_slab place class seat) slab member) [
          | inl old ↦ ledger.booked.classes slab old
          | inr is ↦ subst (λ (s : Slab). s.class < 26) is exists
        ];
        apart = λ one other member member_other byte inside inside_other. elim (Contains-push_cases state.book (new_slab place class seat) one member) [
          | inl old ↦ elim (Contains-push_cases state.book (new_slab place class seat) other member_other) [
            | inl old' ↦ ledger.booked.apart one other old old' byte inside inside_other
            | inr is ↦ absurd (not_there one old byte inside (subst (λ (s : Slab). lies_in byte (slab_range s.place) ≡ true) (sym is) inside_other))
          ]
          | inr is ↦ elim (Contains-push_cases state.book (new_slab place class seat) other member_other) [
            | inl old' ↦ absurd (not_there other old' byte inside_other (subst (λ (s : Slab). lies_in byte (slab_range s.place) ≡ true) (sym is) inside))
            | inr is' ↦ (ap (λ (s : Slab). s.place) (sym is ∙ is'), ap (λ (s : Slab). s.class) (sym is ∙ is'))
          ]
        ];
      };
      laid = λ leak member still is. enters leak member still is;
    })
  where
    not_there : (slab : Slab) → Contains state.book slab → (byte : Place) → lies_in byte (slab_range slab.place) ≡ true → lies_in byte (slab_range place) ≡ true → ⊥
    not_there slab member byte inside here = let clash : true ≡ false = sym inside ∙ room.block.free slab member byte here in cc

    enters : (leak : Leak) → Contains granted leak → (Contains freed leak → ⊥) → IsLaid state.book leak → IsLaid (state.book ++ new_slab place class seat ∷ []) leak
    enters leak member still (in_slab slab object booked exists' range) = in_slab slab object (Contains-append_left state.book (new_slab place class seat ∷ []) slab booked) exists' range
    enters leak member still (off_book apart_from) = off_book (λ slab booked. elim (Contains-push_cases state.book (new_slab place class seat) slab booked) [
      | inl old ↦ apart_from slab old
      | inr is ↦ subst (λ (s : Slab). IsApart (leak_range leak) (slab_range s.place)) is (λ byte inside. lies_in-not byte (slab_range place) (λ here.
          object_clash (state.held byte) leak.grant (ap is_object (in_new_slab seat state.held place class exists (subst (CanMoveAll seat state.held) parts_are can) byte here)) (ledger.kept leak member still byte inside)))
    ])
book_moved terms state seat parts book granted freed (slab_goes gone takes book_are) apart can ledger =
    subst (λ b. Booked state.book (book_after state.book b) granted freed) (sym book_are) (record {
      booked = record {
        classes = λ slab member. ledger.booked.classes slab (was slab member);
        apart = λ one other member member_other byte inside inside_other. ledger.booked.apart one other (was one member) (was other member_other) byte inside inside_other;
      };
      laid = λ leak member still is. goes leak member still is;
    })
  where
    was : (slab : Slab) → Contains (filter (λ slab. not (same_place slab.place gone.place)) state.book) slab → Contains state.book slab
    was slab member = (Contains-filter (λ (slab : Slab). not (same_place slab.place gone.place)) state.book slab member).0

    goes : (leak : Leak) → Contains granted leak → (Contains freed leak → ⊥) → IsLaid state.book leak → IsLaid (filter (λ slab. not (same_place slab.place gone.place)) state.book) leak
    goes leak member still (in_slab slab object booked exists range) =
        in_slab slab object (Contains-filter_from (λ (slab : Slab). not (same_place slab.place gone.place)) state.book slab booked (not_from_false (same_place slab.place gone.place) (false_from_ne_true (same_place slab.place gone.place) (λ same.
        let place : slab.place ≡ gone.place = same_place-is slab.place gone.place same in
        let here = first_inside leak (ledger.below leak member).1 in
        let inside : lies_in leak.place (slab_range gone.place) ≡ true = subst (λ p. lies_in leak.place (slab_range p) ≡ true) place
        (object_in_slab slab object leak.place exists (subst (λ r. lies_in leak.place r ≡ true) range here)) in
        not_taken seat state.held parts gone apart can takes leak.place leak.grant inside (ledger.kept leak member still leak.place here))))) exists range
    goes leak member still (off_book apart_from) = off_book (λ slab booked. apart_from slab (was slab booked))

-- the next number is drawn
last_next : (last : ℕ → ℕ) (seat : ℕ) (parts : List Part) → list_any (λ part. is_object part.to) parts ≡ true → last_after last seat parts seat ≡ last seat + 1
last_next last seat parts some = ap (λ (b : Bool). if b && (seat == seat) then last seat + 1 else last seat) some ∙ ap (λ (b : Bool). if b then last seat + 1 else last seat) (eq-eqb seat seat refl)

-- the object that has a byte is the one that is freed, where each of its bytes is
found_once : (held : Holding) (book : List Slab) (last : ℕ → ℕ) (granted freed : List Leak) → IsLedger held book last granted freed → (leak : Leak) → 0 < leak.usable →
    ((byte : Place) → lies_in byte (leak_range leak) ≡ true → held byte ≡ Some (Object leak.grant)) →
    ((one : Leak) → Contains granted one → (Contains freed one → ⊥) → one.grant ≡ leak.grant → lies_in leak.place (leak_range one) ≡ true →
    ((byte : Place) → lies_in byte (leak_range leak) ≡ true → lies_in byte (leak_range one) ≡ true) → leak_range one ≡ leak_range leak) →
    Contains granted leak
found_once held book last granted freed ledger leak some was same =
    let here = first_inside leak some in
    let one = ledger.found leak.place leak.grant (was leak.place here) in
    let still : Contains freed one.0 → ⊥ = λ gone. (ledger.gone one.0 gone).1 leak.place (was leak.place here ∙ ap (λ g. Some (Object g)) (sym one.2)) in
    let within : (byte : Place) → lies_in byte (leak_range leak) ≡ true → lies_in byte (leak_range one.0) ≡ true = λ byte inside.
    let other = ledger.found byte leak.grant (was byte inside) in
    subst (λ (l : Leak). lies_in byte (leak_range l) ≡ true) (ledger.once other.0 one.0 other.1 one.1 (other.2 ∙ sym one.2)) other.3 in
    subst (Contains granted) (same_leak one.0 leak (same one.0 one.1 still one.2 one.3 within) one.2) one.1

-- a lawful move keeps the ledger
pub ledger_moved : (terms : Terms) (state : State) (seat : ℕ) (parts : List Part) (book : List BookChange) (granted freed : List Leak) → ObjectMove terms state seat parts book →
    AreApart parts → CanMoveAll seat state.held parts → IsLedger state.held state.book state.last granted freed →
    IsLedger (after_parts state.held parts) (book_after state.book book) (last_after state.last seat parts) (granted ++ flat_map granted_by parts) (freed ++ flat_map freed_by parts)
ledger_moved terms state seat parts book granted freed (none_moves none books) apart can ledger =
    let booked = book_moved terms state seat parts book granted freed books apart can ledger in
    subst (λ ls. IsLedger (after_parts state.held parts) (book_after state.book book) (last_after state.last seat parts) ls (freed ++ flat_map freed_by parts))
    (sym (ap (λ ls. granted ++ ls) (none_granted parts none) ∙ append-nil granted))
    (subst (λ ls. IsLedger (after_parts state.held parts) (book_after state.book book) (last_after state.last seat parts) granted ls)
    (sym (ap (λ ls. freed ++ ls) (none_freed parts none) ∙ append-nil freed))
    (ledger_same state.held (after_parts state.held parts) state.book (book_after state.book book) state.last (last_after state.last seat parts) granted freed ledger
    (object_back seat state.held parts apart can none) (object_on seat state.held parts apart can none) booked.booked booked.laid (last_grows state.last seat parts)))
ledger_moved terms state seat parts book granted freed (small_made slab object from member exists no_from parts_are book_are) apart can ledger =
    subst (λ ps. IsLedger (after_parts state.held ps) (book_after state.book book) (last_after state.last seat ps) (granted ++ flat_map granted_by ps) (freed ++ flat_map freed_by ps)) (sym parts_are)
    (subst (λ b. IsLedger (after_parts state.held (part ∷ [])) (book_after state.book b) (last_after state.last seat (part ∷ [])) (granted ++ leak ∷ []) (freed ++ flat_map freed_by (part ∷ []))) (sym book_are)
    (subst (λ ls. IsLedger (after_parts state.held (part ∷ [])) state.book (last_after state.last seat (part ∷ [])) (granted ++ leak ∷ []) ls)
    (sym (ap (λ (ls : List Leak). freed ++ (ls ++ [])) (no_object_at part.range from no_from) ∙ append-nil freed))
    (ledger_granted state.held (after_parts state.held (part ∷ [])) state.book state.last (last_after state.last seat (part ∷ [])) granted freed leak ledger
    (λ byte inside. after_part-inside state.held part byte inside)
    (λ byte inside. ap is_object (can_one.0.there byte inside) ∙ no_from)
    (λ byte grant outside is. sym (after_part-outside state.held part byte outside) ∙ is)
    (λ byte grant outside is. after_part-outside state.held part byte outside ∙ is)
    (omega arith)
    (let next = last_next state.last seat (part ∷ []) refl in omega (arith, next))
    (last_grows state.last seat (part ∷ []))
    (let least = class_size-least slab.class (ledger.booked.classes slab member) in omega (arith, least))
    (in_slab slab object member exists refl))))
  where
    part : Part
    part = part_of (object_range slab object) from (Some (Object (next_grant state seat)))

    leak : Leak
    leak = record { place = (object_range slab object).place; usable = class_size slab.class; grant = next_grant state seat }

    can_one : CanMoveAll seat state.held (part ∷ [])
    can_one = subst (CanMoveAll seat state.held) parts_are can
ledger_moved terms state seat parts book granted freed (large_made block alignment head cut parts_are book_are) apart can ledger =
    subst (λ ps. IsLedger (after_parts state.held ps) (book_after state.book book) (last_after state.last seat ps) (granted ++ flat_map granted_by ps) (freed ++ flat_map freed_by ps)) (sym parts_are)
    (subst (λ b. IsLedger (after_parts state.held (front ∷ part ∷ [])) (book_after state.book b) (last_after state.last seat (front ∷ part ∷ [])) (granted ++ leak ∷ []) (freed ++ [])) (sym book_are)
    (subst (λ ls. IsLedger (after_parts state.held (front ∷ part ∷ [])) state.book (last_after state.last seat (front ∷ part ∷ [])) (granted ++ leak ∷ []) ls) (sym (append-nil freed))
    (ledger_granted state.held (after_parts state.held (front ∷ part ∷ [])) state.book state.last (last_after state.last seat (front ∷ part ∷ [])) granted freed leak ledger
    (λ byte inside. after_part-inside (after_part state.held front) part byte inside)
    (λ byte inside. ap is_object (can_both.1.0.there byte inside))
    (λ byte grant outside is. elim (cases_Bool (lies_in byte front.range)) [
      | inl before ↦ absurd (let clash : ◌≡◌ {A = Option Holder} (Some (LargeHead (next_grant state seat))) (Some (Object grant)) =
          sym (after_part-outside (after_part state.held front) part byte outside ∙ after_part-inside state.held front byte before) ∙ is in cc)
      | inr elsewhere ↦ sym (after_part-outside (after_part state.held front) part byte outside ∙ after_part-outside state.held front byte elsewhere) ∙ is
    ])
    (λ byte grant outside is. elim (cases_Bool (lies_in byte front.range)) [
      | inl before ↦ absurd (let clash : ◌≡◌ {A = Option Holder} (Some (Hand seat)) (Some (Object grant)) = sym (can_both.0.there byte before) ∙ is in cc)
      | inr elsewhere ↦ after_part-outside (after_part state.held front) part byte outside ∙ after_part-outside state.held front byte elsewhere ∙ is
    ])
    (omega arith)
    (let next = last_next state.last seat (front ∷ part ∷ []) refl in omega (arith, next))
    (last_grows state.last seat (front ∷ part ∷ []))
    (let some = cut.some in omega (arith, some))
    (off_book (λ slab booked byte inside. cut.whole.free slab booked byte (in_block byte inside))))))
  where
    front : Part
    front = part_of (large_head_range block head) (Some (Hand seat)) (Some (LargeHead (next_grant state seat)))

    part : Part
    part = part_of (large_object_range block head) (Some (Hand seat)) (Some (Object (next_grant state seat)))

    leak : Leak
    leak = record { place = (large_object_range block head).place; usable = (large_object_range block head).bytes; grant = next_grant state seat }

    can_both : CanMoveAll seat state.held (front ∷ part ∷ [])
    can_both = subst (CanMoveAll seat state.held) parts_are can

    in_block : (byte : Place) → lies_in byte (large_object_range block head) ≡ true → lies_in byte block ≡ true
    in_block byte inside =
        let lies = lies_in-parts byte (large_object_range block head) inside in
        let low = lies.from in
        let high = lies.below in
        let some = cut.some in
        lies_in-is byte block lies.region (omega (arith, low)) (omega (arith, high, some))
ledger_moved terms state seat parts book granted freed (small_ended slab object grant to member exists no_to parts_are book_are) apart can ledger =
    subst (λ ps. IsLedger (after_parts state.held ps) (book_after state.book book) (last_after state.last seat ps) (granted ++ flat_map granted_by ps) (freed ++ flat_map freed_by ps)) (sym parts_are)
    (subst (λ b. IsLedger (after_parts state.held (part ∷ [])) (book_after state.book b) (last_after state.last seat (part ∷ [])) (granted ++ flat_map granted_by (part ∷ [])) (freed ++ leak ∷ [])) (sym book_are)
    (subst (λ ls. IsLedger (after_parts state.held (part ∷ [])) state.book (last_after state.last seat (part ∷ [])) ls (freed ++ leak ∷ []))
    (sym (ap (λ (ls : List Leak). granted ++ (ls ++ [])) (no_object_at part.range to no_to) ∙ append-nil granted))
    (ledger_freed state.held (after_parts state.held (part ∷ [])) state.book state.last (last_after state.last seat (part ∷ [])) granted freed leak ledger
    (found_once state.held state.book state.last granted freed ledger leak some can_one.0.there (λ one booked still same here within. by_laid one here within (ledger.laid one booked still)))
    can_one.0.there
    (λ byte inside. ap is_object (after_part-inside state.held part byte inside) ∙ no_to)
    (λ byte g outside is. sym (after_part-outside state.held part byte outside) ∙ is)
    (λ byte g outside is. after_part-outside state.held part byte outside ∙ is)
    (last_grows state.last seat (part ∷ [])))))
  where
    part : Part
    part = part_of (object_range slab object) (Some (Object grant)) to

    leak : Leak
    leak = record { place = (object_range slab object).place; usable = class_size slab.class; grant = grant }

    can_one : CanMoveAll seat state.held (part ∷ [])
    can_one = subst (CanMoveAll seat state.held) parts_are can

    some : 0 < class_size slab.class
    some = let least = class_size-least slab.class (ledger.booked.classes slab member) in omega (arith, least)

    by_laid : (one : Leak) → lies_in leak.place (leak_range one) ≡ true → ((byte : Place) → lies_in byte (leak_range leak) ≡ true → lies_in byte (leak_range one) ≡ true) → IsLaid state.book one → leak_range one ≡ leak_range leak
    by_laid one here within (in_slab other object' booked exists' range) =
        let mine : lies_in leak.place (slab_range slab.place) ≡ true = object_in_slab slab object leak.place exists (first_inside leak some) in
        let theirs : lies_in leak.place (slab_range other.place) ≡ true = object_in_slab other object' leak.place exists' (subst (λ r. lies_in leak.place r ≡ true) range here) in
        let same = ledger.booked.apart other slab booked member leak.place theirs mine in
        let alike : object_range other object' ≡ object_range slab object' = same_object_range other slab object' same in
        range ∙ alike ∙ sym (nested_objects slab object object' (ledger.booked.classes slab member) exists (subst (λ c. object' < class_objects c) same.1 exists')
        (λ byte inside. subst (λ r. lies_in byte r ≡ true) (range ∙ alike) (within byte inside)))
    by_laid one here within (off_book apart_from) =
        absurd (let mine : lies_in leak.place (slab_range slab.place) ≡ true = object_in_slab slab object leak.place exists (first_inside leak some) in
        let clash : true ≡ false = sym mine ∙ apart_from slab member leak.place here in cc)
ledger_moved terms state seat parts book granted freed (large_ended block head grant below all parts_are book_are) apart can ledger =
    subst (λ ps. IsLedger (after_parts state.held ps) (book_after state.book book) (last_after state.last seat ps) (granted ++ flat_map granted_by ps) (freed ++ flat_map freed_by ps)) (sym parts_are)
    (subst (λ b. IsLedger (after_parts state.held (front ∷ part ∷ [])) (book_after state.book b) (last_after state.last seat (front ∷ part ∷ [])) (granted ++ []) (freed ++ leak ∷ [])) (sym book_are)
    (subst (λ ls. IsLedger (after_parts state.held (front ∷ part ∷ [])) state.book (last_after state.last seat (front ∷ part ∷ [])) ls (freed ++ leak ∷ [])) (sym (append-nil granted))
    (ledger_freed state.held (after_parts state.held (front ∷ part ∷ [])) state.book state.last (last_after state.last seat (front ∷ part ∷ [])) granted freed leak ledger
    (found_once state.held state.book state.last granted freed ledger leak some can_both.1.0.there (λ one booked still same here within. whole one booked still same within))
    can_both.1.0.there
    (λ byte inside. ap is_object (after_part-inside (after_part state.held front) part byte inside))
    (λ byte g outside is. elim (cases_Bool (lies_in byte front.range)) [
      | inl before ↦ absurd (let clash : ◌≡◌ {A = Option Holder} (Some (Hand seat)) (Some (Object g)) =
          sym (after_part-outside (after_part state.held front) part byte outside ∙ after_part-inside state.held front byte before) ∙ is in cc)
      | inr elsewhere ↦ sym (after_part-outside (after_part state.held front) part byte outside ∙ after_part-outside state.held front byte elsewhere) ∙ is
    ])
    (λ byte g outside is. elim (cases_Bool (lies_in byte front.range)) [
      | inl before ↦ absurd (let clash : ◌≡◌ {A = Option Holder} (Some (LargeHead grant)) (Some (Object g)) = sym (can_both.0.there byte before) ∙ is in cc)
      | inr elsewhere ↦ after_part-outside (after_part state.held front) part byte outside ∙ after_part-outside state.held front byte elsewhere ∙ is
    ])
    (last_grows state.last seat (front ∷ part ∷ [])))))
  where
    front : Part
    front = part_of (large_head_range block head) (Some (LargeHead grant)) (Some (Hand seat))

    part : Part
    part = part_of (large_object_range block head) (Some (Object grant)) (Some (Hand seat))

    leak : Leak
    leak = record { place = (large_object_range block head).place; usable = (large_object_range block head).bytes; grant = grant }

    can_both : CanMoveAll seat state.held (front ∷ part ∷ [])
    can_both = subst (CanMoveAll seat state.held) parts_are can

    some : 0 < block.bytes - head
    some = omega (arith, below)

    in_object : (byte : Place) → state.held byte ≡ Some (Object grant) → lies_in byte (large_object_range block head) ≡ true
    in_object byte is =
        let lies = lies_in-parts byte block (all byte (inl is)) in
        let low = lies.from in
        let high = lies.below in
        elim (cases_lt byte.offset (block.place.offset + head)) [
          | inl before ↦ absurd (let was = can_both.0.there byte (lies_in-is byte (large_head_range block head) lies.region low before) in
              let clash : ◌≡◌ {A = Option Holder} (Some (LargeHead grant)) (Some (Object grant)) = sym was ∙ is in cc)
          | inr behind ↦ lies_in-is byte (large_object_range block head) lies.region behind (omega (arith, high, below))
        ]

    whole : (one : Leak) → Contains granted one → (Contains freed one → ⊥) → one.grant ≡ grant → ((byte : Place) → lies_in byte (leak_range leak) ≡ true → lies_in byte (leak_range one) ≡ true) → leak_range one ≡ leak_range leak
    whole one booked still same within =
        same_range (leak_range one) (leak_range leak) (ledger.below one booked).1 some
        (λ byte inside. in_object byte (ledger.kept one booked still byte inside ∙ ap (λ g. Some (Object g)) same)) within

-- nothing was granted
pub ledger_nothing : IsLedger nothing_yet.held nothing_yet.book nothing_yet.last [] []
ledger_nothing = record {
  booked = record { classes = λ slab member. absurd (Contains-none slab member); apart = λ one other member. absurd (Contains-none one member) };
  found = λ byte grant is. absurd (let clash = is in cc);
  kept = λ leak member. absurd (Contains-none leak member);
  gone = λ leak member. absurd (Contains-none leak member);
  once = λ one other member. absurd (Contains-none one member);
  below = λ leak member. absurd (Contains-none leak member);
  laid = λ leak member. absurd (Contains-none leak member);
}

-- a run keeps it, as long as the pool has not ended
ledger_run : (terms : Terms) (progress : Progress) (events : List Event) (granted freed : List Leak) → IsRunFrom terms progress events →
    (progress.phase ≢ Ended → IsLedger progress.state.held progress.state.book progress.state.last granted freed) → (after_events progress events).phase ≢ Ended →
    IsLedger (after_events progress events).state.held (after_events progress events).state.book (after_events progress events).state.last (granted ++ granted_in events) (freed ++ freed_in events)
ledger_run terms progress [] granted freed run ledger going =
    subst (λ ls. IsLedger progress.state.held progress.state.book progress.state.last ls (freed ++ [])) (sym (append-nil granted))
    (subst (λ ls. IsLedger progress.state.held progress.state.book progress.state.last granted ls) (sym (append-nil freed)) (ledger going))
ledger_run terms progress (Begins seat request ∷ events) granted freed (may, run) ledger going =
    ledger_run terms (after_event progress (Begins seat request)) events granted freed run ledger going
ledger_run terms progress (Makes turn ∷ events) granted freed (may, run) ledger going =
    subst (λ ls. IsLedger (after_events progress (Makes turn ∷ events)).state.held (after_events progress (Makes turn ∷ events)).state.book (after_events progress (Makes turn ∷ events)).state.last ls (freed ++ (flat_map freed_by turn.parts ++ freed_in events)))
    (append_assoc granted (flat_map granted_by turn.parts) (granted_in events))
    (subst (λ ls. IsLedger (after_events progress (Makes turn ∷ events)).state.held (after_events progress (Makes turn ∷ events)).state.book (after_events progress (Makes turn ∷ events)).state.last ((granted ++ flat_map granted_by turn.parts) ++ granted_in events) ls)
    (append_assoc freed (flat_map freed_by turn.parts) (freed_in events))
    (ledger_run terms (after_event progress (Makes turn)) events (granted ++ flat_map granted_by turn.parts) (freed ++ flat_map freed_by turn.parts) run
    (λ open_yet. ledger_moved terms progress.state turn.seat turn.parts turn.book granted freed
    (object_move terms progress.state turn.seat turn.parts turn.book turn.region may.lawful) may.apart may.there (ledger open_yet)) going))
ledger_run terms progress (Reset_begins ∷ events) granted freed (may, run) ledger going =
    ledger_run terms (after_event progress Reset_begins) events granted freed run (λ open_yet. ledger (λ ended. let clash : Serving ≡ Ended = sym may.1 ∙ ended in cc)) going
ledger_run terms progress (Reset_ends ∷ events) granted freed (may, run) ledger going =
    ledger_run terms (after_event progress Reset_ends) events granted freed run (λ open_yet. ledger (λ ended. let clash : Resetting ≡ Ended = sym may.0 ∙ ended in cc)) going
ledger_run terms progress (Ends farewells ∷ events) granted freed (may, run) ledger going =
    ledger_run terms (after_event progress (Ends farewells)) events granted freed run (λ open_yet. absurd (open_yet refl)) going

-- the objects that are held are those of the ledger
pub held_are_granted_less_freed : HeldAreGrantedLessFreed
held_are_granted_less_freed terms events run going leak = (to, from)
  where
    ledger : IsLedger (after_events no_progress events).state.held (after_events no_progress events).state.book (after_events no_progress events).state.last (granted_in events) (freed_in events)
    ledger = ledger_run terms no_progress events [] [] run.1 (λ open_yet. ledger_nothing) going

    to : IsObject (after_events no_progress events).state leak.place leak.usable leak.grant → Contains (granted_in events) leak × (Contains (freed_in events) leak → ⊥)
    to object =
        let one = ledger.found leak.place leak.grant object.begins.held in
        let still : Contains (freed_in events) one.0 → ⊥ = λ gone. (ledger.gone one.0 gone).1 leak.place (object.begins.held ∙ ap (λ g. Some (Object g)) (sym one.2)) in
        let here = object.whole leak.place object.begins.held in
        let lies = lies_in-parts leak.place (leak_range leak) here in
        let high : leak.place.offset < leak.place.offset + leak.usable = lies.below in
        let range : leak_range one.0 ≡ leak_range leak =
        same_range (leak_range one.0) (leak_range leak) (ledger.below one.0 one.1).1 (omega (arith, high))
        (λ byte inside. object.whole byte (ledger.kept one.0 one.1 still byte inside ∙ ap (λ g. Some (Object g)) one.2))
        (λ byte inside.
        let other = ledger.found byte leak.grant (object.held byte inside) in
        subst (λ (l : Leak). lies_in byte (leak_range l) ≡ true) (ledger.once other.0 one.0 other.1 one.1 (other.2 ∙ sym one.2)) other.3) in
        let same : one.0 ≡ leak = same_leak one.0 leak range one.2 in
        (subst (Contains (granted_in events)) same one.1, λ gone. still (subst (Contains (freed_in events)) (sym same) gone))

    from : Contains (granted_in events) leak × (Contains (freed_in events) leak → ⊥) → IsObject (after_events no_progress events).state leak.place leak.usable leak.grant
    from both =
        let within : (byte : Place) → (after_events no_progress events).state.held byte ≡ Some (Object leak.grant) → lies_in byte (leak_range leak) ≡ true = λ byte is.
        let one = ledger.found byte leak.grant is in
        subst (λ (l : Leak). lies_in byte (leak_range l) ≡ true) (ledger.once one.0 leak one.1 both.0 one.2) one.3 in
        record {
          begins = record {
            held = ledger.kept leak both.0 both.1 leak.place (first_inside leak (ledger.below leak both.0).1);
            first = λ byte region before is. let lies = lies_in-parts byte (leak_range leak) (within byte is) in let low = lies.from in omega (arith, low, before);
          };
          held = ledger.kept leak both.0 both.1;
          whole = within;
        }
