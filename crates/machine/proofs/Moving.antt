-- Ranges that are whole and apart, and parts that can be moved.
use Rattle.std.proofs.Common.{◌≡◌, ◌∙◌, ℕ, ◌+◌, ◌≤◌, List, [], ◌∷◌, true, All, arith}
use Rattle.std.specs.declared.option.Option.{Option}
use Rattle.std.proofs.lemmas.List.Elements.{All-nil, All-cons}
use Rattle.pool_types.specs.declared.values.Place.{Place}
use Rattle.part_model.specs.declared.holders.Holder.{Holder}
use Rattle.part_model.specs.declared.moves.Range.{Range}
use Rattle.part_model.specs.declared.moves.Part.{Part}
use Rattle.part_model.specs.Lawful.{is_lawful_pair}
use Rattle.part_model.specs.Holding.{Holding, lies_in, AreApart, IsWhole, AreWhole, CanMoveAll}
use Rattle.part_model.proofs.CallerLemmas.{lies_in-parts, lies_in-is, same_region-parts, same_region-is, apart_before}
use Rattle.machine.specs.Ranges.{Each, part_of}

-- a fact of each member, by index
pub each-all : {X : Type 0} → (P : X → Type 0) → (xs : List X) → Each P xs → All P xs
each-all P [] all = All-nil P
each-all P (x ∷ xs) (first, rest) = All-cons P x xs first (each-all P xs rest)

-- no part, one part, or two that stand one before the other, are apart
pub none_apart : AreApart []
none_apart = tt

pub one_apart : (part : Part) → AreApart (part ∷ [])
one_apart part = (tt, tt)

pub two_apart : (one other : Part) → one.range.place.offset + one.range.bytes ≤ other.range.place.offset → AreApart (one ∷ other ∷ [])
two_apart one other before = ((apart_before one.range other.range before, tt), (tt, tt))

-- no part, one part, and two parts with whole ranges
pub none_whole : AreWhole []
none_whole = All-nil (λ (part : Part). IsWhole part.range)

pub one_whole : (part : Part) → IsWhole part.range → AreWhole (part ∷ [])
one_whole part whole = each-all (λ (p : Part). IsWhole p.range) (part ∷ []) (whole, tt)

pub two_whole : (one other : Part) → IsWhole one.range → IsWhole other.range → AreWhole (one ∷ other ∷ [])
two_whole one other whole whole_other = each-all (λ (p : Part). IsWhole p.range) (one ∷ other ∷ []) (whole, (whole_other, tt))

-- one part, or two, can be moved
pub one_moves : (seat : ℕ) (held : Holding) (range : Range) (from to : Option Holder) → is_lawful_pair seat from to ≡ true →
    ((byte : Place) → lies_in byte range ≡ true → held byte ≡ from) → CanMoveAll seat held (part_of range from to ∷ [])
one_moves seat held range from to lawful there = (record { lawful = lawful; there = there }, tt)

pub two_move : (seat : ℕ) (held : Holding) (one other : Range) (from to from' to' : Option Holder) → is_lawful_pair seat from to ≡ true → is_lawful_pair seat from' to' ≡ true →
    ((byte : Place) → lies_in byte one ≡ true → held byte ≡ from) → ((byte : Place) → lies_in byte other ≡ true → held byte ≡ from') →
    CanMoveAll seat held (part_of one from to ∷ part_of other from' to' ∷ [])
two_move seat held one other from to from' to' lawful lawful' there there' = (record { lawful = lawful; there = there }, (record { lawful = lawful'; there = there' }, tt))

-- a range within another
pub lies_within : (one other : Range) (byte : Place) → one.place.pool ≡ other.place.pool → one.place.region ≡ other.place.region →
    other.place.offset ≤ one.place.offset → one.place.offset + one.bytes ≤ other.place.offset + other.bytes →
    lies_in byte one ≡ true → lies_in byte other ≡ true
lies_within one other byte pool region from ends inside =
    let lies = lies_in-parts byte one inside in
    let same = same_region-parts byte one.place lies.region in
    let above = lies.from in
    let below = lies.below in
    lies_in-is byte other (same_region-is byte other.place (same.0 ∙ pool) (same.1 ∙ region)) (omega arith) (omega arith)

-- no byte lies in a range of no bytes
pub none_inside : (range : Range) (byte : Place) → range.bytes ≡ 0 → lies_in byte range ≡ true → ⊥
none_inside range byte none inside =
    let lies = lies_in-parts byte range inside in
    let above = lies.from in
    let below = lies.below in
    omega arith
