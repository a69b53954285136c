-- Lists of stretches: what they say of a byte, as pieces are added and taken out.
use Rattle.std.proofs.Common.{◌≡◌, ℕ, ◌+◌, ◌<◌, List, [], ◌∷◌, ◌++◌, Some, None, Bool, true, false, ◌&&◌, not, refl, sym, ◌∙◌, ap, arith, take, drop, get_or, length, nat_le, nat_lt}
use Rattle.std.specs.Prelude.{if◌then◌else◌}
use Rattle.std.proofs.lemmas.List.{take_more, drop_more}
use Rattle.std.specs.declared.option.Option.{Option}
use Rattle.pool_types.specs.declared.values.Place.{Place}
use Rattle.part_model.specs.declared.holders.Holder.{Holder}
use Rattle.part_model.specs.declared.moves.Range.{Range}
use Rattle.part_model.specs.declared.moves.Part.{Part}
use Rattle.part_model.specs.declared.stretches.Stretch.{Stretch}
use Rattle.part_model.specs.Holding.{Holding, lies_in, same_region, after_part, after_parts}
use Rattle.part_model.specs.Stretches.{holder_at, at_piece, first_of, count_of, cover, is_before, is_behind, IsOnce}

-- the holders of two lists joined
pub holder_at-append : (xs ys : List Stretch) (byte : Place) → holder_at (xs ++ ys) byte ≡ first_of (holder_at xs byte) (holder_at ys byte)
holder_at-append [] ys byte = refl
holder_at-append (x ∷ xs) ys byte =
    elim (lies_in byte x.range) as (λ b. (if b then Some x.holder else holder_at (xs ++ ys) byte) ≡ first_of (if b then Some x.holder else holder_at xs byte) (holder_at ys byte))
    [ true ↦ refl | false ↦ holder_at-append xs ys byte ]

-- how many stretches of two lists joined have a byte
pub cover-append : (xs ys : List Stretch) (byte : Place) → cover (xs ++ ys) byte ≡ cover xs byte + cover ys byte
cover-append [] ys byte = omega arith
cover-append (x ∷ xs) ys byte = let rest = cover-append xs ys byte in omega arith

pub cover-one : (stretch : Stretch) (byte : Place) → cover (stretch ∷ []) byte ≡ count_of (at_piece (Some stretch) byte)
cover-one stretch byte = by_test (lies_in byte stretch.range)
  where
    by_test : (b : Bool) → (if b then 1 else 0) + 0 ≡ count_of (if b then Some stretch.holder else None)
    by_test true = refl
    by_test false = refl

-- one stretch more, which has both bytes or neither
pub alike_more : (stretches : List Stretch) (i : ℕ) (d : Stretch) (byte other : Place) → i < length stretches →
    holder_at (take i stretches) other ≡ holder_at (take i stretches) byte → lies_in other (get_or stretches i d).range ≡ lies_in byte (get_or stretches i d).range →
    holder_at (take (i + 1) stretches) other ≡ holder_at (take (i + 1) stretches) byte
alike_more stretches i d byte other below so_far now =
    let more = take_more stretches i d below in
    ap (λ xs. holder_at xs other) more ∙ holder_at-append (take i stretches) (get_or stretches i d ∷ []) other
    ∙ ap (λ h. first_of h (holder_at (get_or stretches i d ∷ []) other)) so_far
    ∙ ap (λ (b : Bool). first_of (holder_at (take i stretches) byte) (if b then Some (get_or stretches i d).holder else None)) now
    ∙ sym (holder_at-append (take i stretches) (get_or stretches i d ∷ []) byte) ∙ ap (λ xs. holder_at xs byte) (sym more)

-- what of a stretch lies outside of a range is what lies before it and what lies behind it
pub pieces_join : (old : Option Holder) (stretch : Stretch) (range : Range) (byte : Place) →
    first_of (first_of old (if lies_in byte stretch.range && is_before byte range then Some stretch.holder else None)) (if lies_in byte stretch.range && is_behind byte range then Some stretch.holder else None)
    ≡ first_of old (if lies_in byte range then None else at_piece (Some stretch) byte)
pieces_join old stretch range byte =
    by_test old (lies_in byte stretch.range) (same_region byte range.place && nat_le range.place.offset byte.offset) (nat_lt byte.offset (range.place.offset + range.bytes))
  where
    by_test : (old : Option Holder) (c x y : Bool) → first_of (first_of old (if c && not x then Some stretch.holder else None)) (if c && (x && not y) then Some stretch.holder else None) ≡ first_of old (if x && y then None else (if c then Some stretch.holder else None))
    by_test (Some holder) c x y = refl
    by_test None true true true = refl
    by_test None true true false = refl
    by_test None true false y = refl
    by_test None false true true = refl
    by_test None false true false = refl
    by_test None false false y = refl

pub covers_join : (stretch : Stretch) (range : Range) (byte : Place) →
    count_of (if lies_in byte stretch.range && is_before byte range then Some stretch.holder else None) + count_of (if lies_in byte stretch.range && is_behind byte range then Some stretch.holder else None)
    ≡ count_of (if lies_in byte range then None else at_piece (Some stretch) byte)
covers_join stretch range byte =
    by_test (lies_in byte stretch.range) (same_region byte range.place && nat_le range.place.offset byte.offset) (nat_lt byte.offset (range.place.offset + range.bytes))
  where
    by_test : (c x y : Bool) → count_of (if c && not x then Some stretch.holder else None) + count_of (if c && (x && not y) then Some stretch.holder else None) ≡ count_of (if x && y then None else (if c then Some stretch.holder else None))
    by_test true true true = refl
    by_test true true false = refl
    by_test true false y = refl
    by_test false true true = refl
    by_test false true false = refl
    by_test false false y = refl

-- one stretch more, without what lies in a range
pub outside_more : (stretches kept next : List Stretch) (i : ℕ) (d : Stretch) (range : Range) (byte : Place) → i < length stretches →
    holder_at kept byte ≡ (if lies_in byte range then None else holder_at (take i stretches) byte) →
    holder_at next byte ≡ first_of (holder_at kept byte) (if lies_in byte range then None else at_piece (Some (get_or stretches i d)) byte) →
    holder_at next byte ≡ (if lies_in byte range then None else holder_at (take (i + 1) stretches) byte)
outside_more stretches kept next i d range byte below before now =
    now ∙ ap (λ h. first_of h (if lies_in byte range then None else at_piece (Some (get_or stretches i d)) byte)) before
    ∙ by_test (lies_in byte range) (holder_at (take i stretches) byte) (at_piece (Some (get_or stretches i d)) byte)
    ∙ ap (λ (h : Option Holder). if lies_in byte range then None else h) (sym (ap (λ xs. holder_at xs byte) (take_more stretches i d below) ∙ holder_at-append (take i stretches) (get_or stretches i d ∷ []) byte))
  where
    by_test : (b : Bool) (one other : Option Holder) → first_of (if b then None else one) (if b then None else other) ≡ (if b then None else first_of one other)
    by_test true one other = refl
    by_test false one other = refl

pub cover_more : (stretches kept next : List Stretch) (i : ℕ) (d : Stretch) (range : Range) (byte : Place) → i < length stretches →
    cover kept byte ≡ (if lies_in byte range then 0 else cover (take i stretches) byte) →
    cover next byte ≡ cover kept byte + count_of (if lies_in byte range then None else at_piece (Some (get_or stretches i d)) byte) →
    cover next byte ≡ (if lies_in byte range then 0 else cover (take (i + 1) stretches) byte)
cover_more stretches kept next i d range byte below before now =
    let more = ap (λ xs. cover xs byte) (take_more stretches i d below) ∙ cover-append (take i stretches) (get_or stretches i d ∷ []) byte in
    let one = cover-one (get_or stretches i d) byte in
    now ∙ by_test (lies_in byte range) before more one
  where
    by_test : (b : Bool) → cover kept byte ≡ (if b then 0 else cover (take i stretches) byte) → cover (take (i + 1) stretches) byte ≡ cover (take i stretches) byte + cover (get_or stretches i d ∷ []) byte →
        cover (get_or stretches i d ∷ []) byte ≡ count_of (at_piece (Some (get_or stretches i d)) byte) →
        cover kept byte + count_of (if b then None else at_piece (Some (get_or stretches i d)) byte) ≡ (if b then 0 else cover (take (i + 1) stretches) byte)
    by_test true before more one = omega arith
    by_test false before more one = omega arith

-- parts of two holdings that agree
pub after_parts-same : (one other : Holding) (parts : List Part) → ((byte : Place) → one byte ≡ other byte) → (byte : Place) → after_parts one parts byte ≡ after_parts other parts byte
after_parts-same one other [] same byte = same byte
after_parts-same one other (part ∷ parts) same byte =
    after_parts-same (after_part one part) (after_part other part) parts
    (λ b. ap (λ (h : Option Holder). if lies_in b part.range then part.to else h) (same b)) byte

-- one more part of a move
pub moves_on : (parts : List Part) (i : ℕ) (d : Part) (one other : Holding) → i < length parts →
    ((byte : Place) → other byte ≡ after_part one (get_or parts i d) byte) → (byte : Place) →
    after_parts other (drop (i + 1) parts) byte ≡ after_parts one (drop i parts) byte
moves_on parts i d one other below now byte =
    let front : drop i parts ≡ get_or parts i d ∷ drop (i + 1) parts = drop_more parts i d below in
    after_parts-same other (after_part one (get_or parts i d)) (drop (i + 1) parts) now byte ∙ ap (λ ps. after_parts one ps byte) (sym front)
