-- What a move changes and what it leaves, byte by byte.
use Rattle.std.proofs.Common.{◌≡◌, ◌⊎◌, ℕ, inl, inr, List, [], ◌∷◌, Some, None, Bool, true, false, ◌&&◌, ◌||◌, not, refl, sym, ◌∙◌, ap, arith}
use Rattle.std.specs.Prelude.{if◌then◌else◌, count_by}
use Rattle.std.specs.declared.option.Option.{Option}
use Rattle.std.proofs.lemmas.Bool.{cases_Bool, or_parts, or_from, or_left, or_right}
use Rattle.pool_types.specs.declared.values.Place.{Place}
use Rattle.part_model.specs.declared.holders.Holder.{Holder}
use Rattle.part_model.specs.declared.holders.Holder.TheVariants.{Waste, Head, Rest, Private, Public, Object, LargeHead, SlabCache, Cached, Bin, Queue, Hand}
use Rattle.part_model.specs.declared.moves.Range.{Range}
use Rattle.part_model.specs.declared.moves.Part.{Part}
use Rattle.part_model.specs.Lawful.{is_lawful_pair}
use Rattle.part_model.specs.Holding.{Holding, lies_in, after_part, after_parts, IsApartFromAll, AreApart, CanMoveAll}
use Rattle.part_model.specs.Totals.{is_at, has_holder}
use Rattle.part_model.specs.Laws.{holder_kinds, holders_of, brings, takes, MovesKeepOneHolder, AreApartFrom, ApartMovesCommute}

-- one part, inside and outside of its range
pub after_part-inside : (held : Holding) (part : Part) (byte : Place) → lies_in byte part.range ≡ true → after_part held part byte ≡ part.to
after_part-inside held part byte inside = ap (λ (b : Bool). if b then part.to else held byte) inside

pub after_part-outside : (held : Holding) (part : Part) (byte : Place) → lies_in byte part.range ≡ false → after_part held part byte ≡ held byte
after_part-outside held part byte outside = ap (λ (b : Bool). if b then part.to else held byte) outside

-- whether a byte lies in one of the parts
abbrev pub lies_in_any : Place → List Part → Bool
lies_in_any byte [] = false
lies_in_any byte (part ∷ parts) = lies_in byte part.range || lies_in_any byte parts

-- the parts change a byte by what it is alone
pub after_parts-at : (one other : Holding) (parts : List Part) (byte : Place) → one byte ≡ other byte → after_parts one parts byte ≡ after_parts other parts byte
after_parts-at one other [] byte same = same
after_parts-at one other (part ∷ parts) byte same =
    after_parts-at (after_part one part) (after_part other part) parts byte (ap (λ (h : Option Holder). if lies_in byte part.range then part.to else h) same)

-- a byte of no part stays
pub after_parts-outside : (held : Holding) (parts : List Part) (byte : Place) → lies_in_any byte parts ≡ false → after_parts held parts byte ≡ held byte
after_parts-outside held [] byte outside = refl
after_parts-outside held (part ∷ parts) byte outside =
    let both = or_parts (lies_in byte part.range) (lies_in_any byte parts) outside in
    after_parts-outside (after_part held part) parts byte both.1 ∙ after_part-outside held part byte both.0

-- a byte of a range lies in no part that is apart from it, and the other way round
pub apart_outside : (range : Range) (parts : List Part) (byte : Place) → IsApartFromAll range parts → lies_in byte range ≡ true → lies_in_any byte parts ≡ false
apart_outside range [] byte apart inside = refl
apart_outside range (part ∷ parts) byte (first, rest) inside =
    or_from (lies_in byte part.range) (lies_in_any byte parts) (first byte inside) (apart_outside range parts byte rest inside)

pub outside_apart : (range : Range) (parts : List Part) (byte : Place) → IsApartFromAll range parts → lies_in_any byte parts ≡ true → lies_in byte range ≡ false
outside_apart range parts byte apart inside =
    elim (cases_Bool (lies_in byte range)) [
      | inl within ↦ absurd (let none = apart_outside range parts byte apart within in cc)
      | inr outside ↦ outside
    ]

-- parts can be moved in two holdings that agree on their bytes
pub can_move-same : (seat : ℕ) (one other : Holding) (parts : List Part) → ((byte : Place) → lies_in_any byte parts ≡ true → other byte ≡ one byte) →
    CanMoveAll seat one parts → CanMoveAll seat other parts
can_move-same seat one other [] same can = tt
can_move-same seat one other (part ∷ parts) same (first, rest) = (
  record { lawful = first.lawful; there = λ byte inside. same byte (or_left (lies_in byte part.range) (lies_in_any byte parts) inside) ∙ first.there byte inside },
  can_move-same seat one other parts (λ byte inside. same byte (or_right (lies_in byte part.range) (lies_in_any byte parts) inside)) rest,
)

-- after a part, those that are apart from it can be moved as before
pub can_move-after_part : (seat : ℕ) (held : Holding) (part : Part) (parts : List Part) → IsApartFromAll part.range parts → CanMoveAll seat held parts → CanMoveAll seat (after_part held part) parts
can_move-after_part seat held part parts apart can =
    can_move-same seat held (after_part held part) parts (λ byte inside. after_part-outside held part byte (outside_apart part.range parts byte apart inside)) can

-- a byte of the one move is in no part of the other
pub apart_from_outside : (one other : List Part) (byte : Place) → AreApartFrom one other → lies_in_any byte other ≡ true → lies_in_any byte one ≡ false
apart_from_outside [] other byte apart inside = refl
apart_from_outside (part ∷ parts) other byte (first, rest) inside =
    or_from (lies_in byte part.range) (lies_in_any byte parts) (outside_apart part.range other byte first inside) (apart_from_outside parts other byte rest inside)

pub apart_from_inside : (one other : List Part) (byte : Place) → AreApartFrom one other → lies_in_any byte one ≡ true → lies_in_any byte other ≡ false
apart_from_inside one other byte apart inside =
    elim (cases_Bool (lies_in_any byte other)) [
      | inl within ↦ absurd (let none = apart_from_outside one other byte apart within in cc)
      | inr outside ↦ outside
    ]

-- two moves over ranges that are apart
pub apart_moves_commute : ApartMovesCommute
apart_moves_commute held one other apart = record {
  first = λ seat. (
    can_move-same seat held (after_parts held other) one (λ byte inside. after_parts-outside held other byte (apart_from_inside one other byte apart inside)),
    can_move-same seat (after_parts held other) held one (λ byte inside. sym (after_parts-outside held other byte (apart_from_inside one other byte apart inside))),
  );
  second = λ seat. (
    can_move-same seat held (after_parts held one) other (λ byte inside. after_parts-outside held one byte (apart_from_outside one other byte apart inside)),
    can_move-same seat (after_parts held one) held other (λ byte inside. sym (after_parts-outside held one byte (apart_from_outside one other byte apart inside))),
  );
  same = λ byte. elim (cases_Bool (lies_in_any byte other)) [
    | inl inside ↦
        after_parts-at (after_parts held one) held other byte (after_parts-outside held one byte (apart_from_outside one other byte apart inside))
        ∙ sym (after_parts-outside (after_parts held other) one byte (apart_from_outside one other byte apart inside))
    | inr outside ↦
        after_parts-outside (after_parts held one) other byte outside
        ∙ sym (after_parts-at (after_parts held other) held one byte (after_parts-outside held other byte outside))
  ];
}

-- a part of the move has the byte: what the move does with it
pub record AtPart (seat : ℕ) (held : Holding) (parts : List Part) (byte : Place) : Type 0 where
  pub part : Part
  pub lawful : is_lawful_pair seat part.from part.to ≡ true
  pub was : held byte ≡ part.from
  pub is : after_parts held parts byte ≡ part.to
  pub brought : brings parts byte ≡ not (has_holder part.from)
  pub taken : takes parts byte ≡ not (has_holder part.to)

-- a byte of no part is neither brought in nor taken out
pub brings-outside : (parts : List Part) (byte : Place) → lies_in_any byte parts ≡ false → brings parts byte ≡ false
brings-outside [] byte outside = refl
brings-outside (part ∷ parts) byte outside = neither (lies_in byte part.range) (lies_in_any byte parts) outside (brings-outside parts byte)
  where
    neither : (x y : Bool) → (x || y) ≡ false → (y ≡ false → brings parts byte ≡ false) → ((x && not (has_holder part.from)) || brings parts byte) ≡ false
    neither false y none rest = rest none
    neither true y none rest = absurd (let e = none in cc)

pub takes-outside : (parts : List Part) (byte : Place) → lies_in_any byte parts ≡ false → takes parts byte ≡ false
takes-outside [] byte outside = refl
takes-outside (part ∷ parts) byte outside = neither (lies_in byte part.range) (lies_in_any byte parts) outside (takes-outside parts byte)
  where
    neither : (x y : Bool) → (x || y) ≡ false → (y ≡ false → takes parts byte ≡ false) → ((x && not (has_holder part.to)) || takes parts byte) ≡ false
    neither false y none rest = rest none
    neither true y none rest = absurd (let e = none in cc)

-- a byte lies in no part, or in one alone
pub at_part : (seat : ℕ) (held : Holding) (parts : List Part) (byte : Place) → AreApart parts → CanMoveAll seat held parts →
    (lies_in_any byte parts ≡ false) ⊎ AtPart seat held parts byte
at_part seat held [] byte apart can = inl refl
at_part seat held (part ∷ parts) byte (first, rest) (can, can_rest) =
    elim (cases_Bool (lies_in byte part.range)) [
      | inl inside ↦
          let outside = apart_outside part.range parts byte first inside in
          inr (record {
            part = part;
            lawful = can.lawful;
            was = can.there byte inside;
            is = after_parts-outside (after_part held part) parts byte outside ∙ after_part-inside held part byte inside;
            brought = one (lies_in byte part.range) (not (has_holder part.from)) (brings parts byte) inside (brings-outside parts byte outside);
            taken = one (lies_in byte part.range) (not (has_holder part.to)) (takes parts byte) inside (takes-outside parts byte outside);
          })
      | inr outside ↦
          elim (at_part seat (after_part held part) parts byte rest (can_move-after_part seat held part parts first can_rest)) [
            | inl none ↦ inl (or_from (lies_in byte part.range) (lies_in_any byte parts) outside none)
            | inr later ↦ inr (record {
              part = later.part;
              lawful = later.lawful;
              was = sym (after_part-outside held part byte outside) ∙ later.was;
              is = later.is;
              brought = other (lies_in byte part.range) (not (has_holder part.from)) (brings parts byte) outside ∙ later.brought;
              taken = other (lies_in byte part.range) (not (has_holder part.to)) (takes parts byte) outside ∙ later.taken;
            })
          ]
    ]
  where
    one : (x y z : Bool) → x ≡ true → z ≡ false → ((x && y) || z) ≡ y
    one true true z e f = refl
    one true false z e f = f
    one false y z e f = absurd (let e' = e in cc)

    other : (x y z : Bool) → x ≡ false → ((x && y) || z) ≡ z
    other false y z e = refl
    other true y z e = absurd (let e' = e in cc)

-- a holder is of one kind, and nobody of none
pub holder_kinds-one : (holder : Option Holder) → count_by (λ kind. is_at kind holder) holder_kinds ≡ (if has_holder holder then 1 else 0)
holder_kinds-one None = refl
holder_kinds-one (Some Waste) = refl
holder_kinds-one (Some Head) = refl
holder_kinds-one (Some Rest) = refl
holder_kinds-one (Some Private) = refl
holder_kinds-one (Some Public) = refl
holder_kinds-one (Some (Object grant)) = refl
holder_kinds-one (Some (LargeHead grant)) = refl
holder_kinds-one (Some (SlabCache seat)) = refl
holder_kinds-one (Some (Cached granules)) = refl
holder_kinds-one (Some Bin) = refl
holder_kinds-one (Some Queue) = refl
holder_kinds-one (Some (Hand seat)) = refl

-- whether the byte has a holder, as a number
pub holders_of-is : (held : Holding) (byte : Place) (holder : Option Holder) → held byte ≡ holder → holders_of held byte ≡ (if has_holder holder then 1 else 0)
holders_of-is held byte holder is = holder_kinds-one (held byte) ∙ ap (λ h. if has_holder h then 1 else 0) is

-- nobody's bytes that stay nobody's make no move
pub pair_is_held : (seat : ℕ) (from to : Option Holder) → is_lawful_pair seat from to ≡ true → (has_holder from || has_holder to) ≡ true
pair_is_held seat None None lawful = absurd (let e = lawful in cc)
pair_is_held seat None (Some to) lawful = refl
pair_is_held seat (Some from) to lawful = refl

-- each byte after a lawful move
pub moves_keep_one_holder : MovesKeepOneHolder
moves_keep_one_holder seat held parts apart can byte =
    elim (at_part seat held parts byte apart can) [
      | inl outside ↦
          let same = ap (λ h. count_by (λ kind. is_at kind h) holder_kinds) (after_parts-outside held parts byte outside) in
          let not_brought = brings-outside parts byte outside in
          let not_taken = takes-outside parts byte outside in
          record {
            stays = λ was kept. same ∙ was;
            goes = λ taken. absurd (let t = taken in cc);
            comes = λ brought. absurd (let b = brought in cc);
            none = λ was kept. same ∙ was;
          }
      | inr at ↦
          let old = holders_of-is held byte at.part.from at.was in
          let new = holders_of-is (after_parts held parts) byte at.part.to at.is in
          let held_once = pair_is_held seat at.part.from at.part.to at.lawful in
          let parts_of = by_tests (has_holder at.part.from) (has_holder at.part.to) held_once in
          record {
            stays = λ was kept. new ∙ parts_of.0 (sym at.taken ∙ kept);
            goes = λ taken. (old ∙ (parts_of.1 (sym at.taken ∙ taken)).0, new ∙ (parts_of.1 (sym at.taken ∙ taken)).1);
            comes = λ brought. (old ∙ (parts_of.2 (sym at.brought ∙ brought)).0, new ∙ (parts_of.2 (sym at.brought ∙ brought)).1);
            none = λ was kept. absurd (held_by (has_holder at.part.from) (sym old ∙ was) (sym at.brought ∙ kept));
          }
    ]
  where
    by_tests : (from to : Bool) → (from || to) ≡ true →
        (not to ≡ false → ◌≡◌ {A = ℕ} (if to then 1 else 0) 1)
        × (not to ≡ true → (◌≡◌ {A = ℕ} (if from then 1 else 0) 1) × (◌≡◌ {A = ℕ} (if to then 1 else 0) 0))
        × (not from ≡ true → (◌≡◌ {A = ℕ} (if from then 1 else 0) 0) × (◌≡◌ {A = ℕ} (if to then 1 else 0) 1))
    by_tests true true held = (λ e. refl, λ e. absurd (let e' = e in cc), λ e. absurd (let e' = e in cc))
    by_tests true false held = (λ e. absurd (let e' = e in cc), λ e. (refl, refl), λ e. absurd (let e' = e in cc))
    by_tests false true held = (λ e. refl, λ e. absurd (let e' = e in cc), λ e. (refl, refl))
    by_tests false false held = absurd (let e = held in cc)

    held_by : (from : Bool) → ◌≡◌ {A = ℕ} (if from then 1 else 0) 0 → not from ≡ false → ⊥
    held_by true none e = omega arith
    held_by false none e = let e' = e in cc
