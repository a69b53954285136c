-- Moves of whole granules, and what they leave of the layout.
use Rattle.std.proofs.Common.{◌≡◌, ℕ, ◌+◌, ◌*◌, ◌/◌, Bool, true, false, ◌&&◌, ◌||◌, not, List, [], ◌∷◌, None, refl, sym, ◌∙◌, ap, arith, inl, inr, nat_lt, nat_le, filter}
use Rattle.std.specs.Prelude.{if◌then◌else◌, ◌==◌}
use Rattle.std.specs.List.{list_any}
use Rattle.std.specs.declared.option.Option.{Option}
use Rattle.std.proofs.lemmas.Bool.{cases_Bool, and_from, le-leb, lt-ltb, false_from_ne_true}
use Rattle.std.proofs.lemmas.Bool.Decides.{nat_tests}
use Rattle.pool_types.specs.declared.values.Place.{Place}
use Rattle.pool_types.specs.declared.values.Region.{Region}
use Rattle.pool_types.specs.declared.values.Answer.{Answer}
use Rattle.pool_types.specs.declared.policy.RegionRec.{RegionRec}
use Rattle.part_model.specs.declared.holders.Holder.{Holder}
use Rattle.part_model.specs.declared.moves.Range.{Range}
use Rattle.part_model.specs.declared.moves.Part.{Part}
use Rattle.part_model.specs.Holding.{same_region, lies_in, after_part, after_parts, AreWhole, AreApart, CanMoveAll}
use Rattle.part_model.specs.Totals.{has_holder}
use Rattle.part_model.proofs.CallerLemmas.{after_parts-at, lies_in-parts}
use Rattle.machine.specs.States.{State, fixed_terms}
use Rattle.machine.specs.Ranges.{Each, part_of, range_at}
use Rattle.machine.specs.Journal.{Sight, BookChange, is_object, after_turn, goes}
use Rattle.machine.specs.Cleaning.{is_large}
use Rattle.machine.specs.Lawful.{IsLawful}
use Rattle.plain_lists.specs.Lists.{OwnSlab, lies_on}
use Rattle.plain_runs.specs.Steps.{at_offset, step_of}
use Rattle.plain_runs.proofs.Layouts.{Use, Away, InBin, InHand, InCache, OfSlab, Layout, holder_in, held_by, laid, Knows}

-- a range of whole granules
abbrev pub granules_range : ℕ → ℕ → Range
granules_range first granules = range_at (at_offset 0) (8192 * first) (8192 * granules)

-- an offset lies in it where its granule does
pub in_granules : (first granules offset : ℕ) → (nat_le (8192 * first) offset && nat_lt offset (8192 * first + 8192 * granules)) ≡ lies_on first granules (offset / 8192)
in_granules first granules offset = grind (arith, nat_tests)

-- whole granules go to a use
pub moved_laid : (layout : Layout) (first granules : ℕ) (from to : Option Holder) (use' : Use) → ((offset : ℕ) → holder_in use' offset ≡ to) → (byte : Place) →
    after_part (held_by layout) (part_of (granules_range first granules) from to) byte ≡ held_by (laid layout first granules use') byte
moved_laid layout first granules from to use' is byte =
    by_test (same_region byte (at_offset 0)) (nat_le (8192 * first) byte.offset) (nat_lt byte.offset (8192 * first + 8192 * granules)) (lies_on first granules (byte.offset / 8192))
    (in_granules first granules byte.offset)
  where
    by_laid : (l : Bool) → (if l then to else holder_in (layout (byte.offset / 8192)) byte.offset) ≡ holder_in (if l then use' else layout (byte.offset / 8192)) byte.offset
    by_laid true = sym (is byte.offset)
    by_laid false = refl

    by_test : (s a b l : Bool) → (a && b) ≡ l →
        (if s && a && b then to else (if s then holder_in (layout (byte.offset / 8192)) byte.offset else None)) ≡ (if s then holder_in (if l then use' else layout (byte.offset / 8192)) byte.offset else None)
    by_test false a b l same = refl
    by_test true a b l same = ap (λ (x : Bool). if x then to else holder_in (layout (byte.offset / 8192)) byte.offset) same ∙ by_laid l

-- the granules and the uses of a layout
pub laid-inside : (layout : Layout) (first granules : ℕ) (use' : Use) (granule : ℕ) → lies_on first granules granule ≡ true → laid layout first granules use' granule ≡ use'
laid-inside layout first granules use' granule inside = ap (λ (b : Bool). if b then use' else layout granule) inside

pub laid-outside : (layout : Layout) (first granules : ℕ) (use' : Use) (granule : ℕ) → lies_on first granules granule ≡ false → laid layout first granules use' granule ≡ layout granule
laid-outside layout first granules use' granule outside = ap (λ (b : Bool). if b then use' else layout granule) outside

-- a granule of another use lies outside
pub other_outside : (layout : Layout) (first granules : ℕ) (old use' : Use) (granule : ℕ) → ((g : ℕ) → lies_on first granules g ≡ true → layout g ≡ old) → layout granule ≡ use' → (old ≡ use' → ⊥) →
    lies_on first granules granule ≡ false
other_outside layout first granules old use' granule all is other = false_from_ne_true (lies_on first granules granule) (λ inside. other (sym (all granule inside) ∙ is))

-- so it keeps its use
pub laid-other : (layout : Layout) (first granules : ℕ) (old next use' : Use) (granule : ℕ) → ((g : ℕ) → lies_on first granules g ≡ true → layout g ≡ old) → layout granule ≡ use' → (old ≡ use' → ⊥) →
    laid layout first granules next granule ≡ use'
laid-other layout first granules old next use' granule all is other =
    laid-outside layout first granules next granule (other_outside layout first granules old use' granule all is other) ∙ is

-- the use is no slab
abbrev pub is_plain : Use → Bool
is_plain Away = true
is_plain InBin = true
is_plain InHand = true
is_plain InCache = true
is_plain (OfSlab slab) = false

pub plain_no_slab : (use' : Use) (slab : OwnSlab) → is_plain use' ≡ true → use' ≡ OfSlab slab → ⊥
plain_no_slab use' slab plain is = let clash : false ≡ true = sym (ap is_plain is) ∙ plain in cc

-- both layouts have the same slabs
pub record SameSlabs (layout next : Layout) : Type 0 where
  pub kept : (granule : ℕ) (slab : OwnSlab) → layout granule ≡ OfSlab slab → next granule ≡ OfSlab slab
  pub was : (granule : ℕ) (slab : OwnSlab) → next granule ≡ OfSlab slab → layout granule ≡ OfSlab slab

pub same_laid : (layout : Layout) (first granules : ℕ) (next : Use) → is_plain next ≡ true → ((g : ℕ) → lies_on first granules g ≡ true → is_plain (layout g) ≡ true) →
    SameSlabs layout (laid layout first granules next)
same_laid layout first granules next plain_next all = record {
  kept = λ granule slab is. elim (cases_Bool (lies_on first granules granule)) [
    | inl inside ↦ absurd (plain_no_slab (layout granule) slab (all granule inside) is)
    | inr outside ↦ laid-outside layout first granules next granule outside ∙ is
  ];
  was = λ granule slab is. elim (cases_Bool (lies_on first granules granule)) [
    | inl inside ↦ absurd (plain_no_slab next slab plain_next (sym (laid-inside layout first granules next granule inside) ∙ is))
    | inr outside ↦ sym (laid-outside layout first granules next granule outside) ∙ is
  ];
}

pub laid_plain : (layout : Layout) (first granules : ℕ) (next : Use) (granule : ℕ) → is_plain next ≡ true → is_plain (layout granule) ≡ true → is_plain (laid layout first granules next granule) ≡ true
laid_plain layout first granules next granule plain_next plain = by_test (lies_on first granules granule)
  where
    by_test : (b : Bool) → is_plain (if b then next else layout granule) ≡ true
    by_test true = plain_next
    by_test false = plain

-- a part that moves no object and stays in the pool
pub record IsQuiet (part : Part) : Type 0 where
  pub from : is_object part.from ≡ false
  pub to : is_object part.to ≡ false
  pub stays : has_holder part.to ≡ true
  pub small : is_large part ≡ false

-- a test that no member passes
pub none_any : {X : Type 0} → (test : X → Bool) (xs : List X) → Each (λ x. test x ≡ false) xs → list_any test xs ≡ false
none_any test [] all = refl
none_any test (x ∷ xs) (first, rest) = both (test x) (list_any test xs) first (none_any test xs rest)
  where
    both : (a b : Bool) → a ≡ false → b ≡ false → (a || b) ≡ false
    both true b e f = absurd (let clash = e in cc)
    both false b e f = f

-- what is known after a move that keeps the slabs
pub knows_moved : (state : State) (layout next : Layout) (region : Option Region) (granted : ℕ) (parts : List Part) (seen : Sight) (answer : Option Answer) →
    list_any (λ (part : Part). is_object part.to) parts ≡ false → list_any (λ (part : Part). not (has_holder part.to)) parts ≡ false →
    ((byte : Place) → after_parts (held_by layout) parts byte ≡ held_by next byte) → SameSlabs layout next →
    Knows state layout region granted → Knows (after_turn state (step_of parts [] None seen answer)) next region granted
knows_moved state layout next region granted parts seen answer no_object none_leaves moved same knows = record {
  held_is = λ byte. after_parts-at state.held (held_by layout) parts byte (knows.held_is byte) ∙ moved byte;
  regions_are = ap (λ (b : Bool). if b then filter (λ r. not (goes parts r)) state.regions else state.regions) none_leaves ∙ knows.regions_are;
  next_is = knows.next_is;
  last_is = ap (λ (b : Bool). if b && (0 == 0) then state.last 0 + 1 else state.last 0) no_object ∙ knows.last_is;
  in_book = λ slab member.
      let old = knows.in_book slab member in
      record { own = old.own; laid_is = same.kept old.own.index old.own old.laid_is; is = old.is };
  booked = λ granule slab is. knows.booked granule slab (same.was granule slab is);
  slabs_are = λ granule slab is.
      let old = knows.slabs_are granule slab (same.was granule slab is) in (
        record { class_is = old.0.class_is; few = old.0.few; even = old.0.even; inside = old.0.inside; whole = λ g on. same.kept g slab (old.0.whole g on) },
        old.1,
      );
}

-- the bytes of whole granules of one use
pub granules_there : (state : State) (layout : Layout) (first granules : ℕ) (use' : Use) (from : Option Holder) → ((offset : ℕ) → holder_in use' offset ≡ from) →
    ((byte : Place) → state.held byte ≡ held_by layout byte) → ((g : ℕ) → lies_on first granules g ≡ true → layout g ≡ use') → (byte : Place) → lies_in byte (granules_range first granules) ≡ true → state.held byte ≡ from
granules_there state layout first granules use' from is held all byte inside =
    let parts = lies_in-parts byte (granules_range first granules) inside in
    let region : same_region byte (at_offset 0) ≡ true = parts.region in
    let on : lies_on first granules (byte.offset / 8192) ≡ true = sym (in_granules first granules byte.offset) ∙ and_from _ _ (le-leb _ _ parts.from) (lt-ltb _ _ parts.below) in
    held byte ∙ ap (λ (b : Bool). if b then holder_in (layout (byte.offset / 8192)) byte.offset else None) region
    ∙ ap (λ (u : Use). holder_in u byte.offset) (all (byte.offset / 8192) on) ∙ is byte.offset

-- a step of the one seat may be made, but for what a call asks of it
pub record IsMade (state : State) (parts : List Part) (book : List BookChange) (region : Option RegionRec) : Type 0 where
  pub whole : AreWhole parts
  pub apart : AreApart parts
  pub there : CanMoveAll 0 state.held parts
  pub lawful : IsLawful fixed_terms state 0 parts book region
