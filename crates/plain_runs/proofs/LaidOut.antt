-- What the lists say of the layout.
use Rattle.std.proofs.Common.{◌≡◌, ℕ, ◌+◌, ◌<◌, Bool, true, false, List, ◌∷◌, refl, sym, ◌∙◌, ap, arith, inl, inr, nat_lt}
use Rattle.std.specs.Prelude.{if◌then◌else◌, Contains, ◌==◌, is_some}
use Rattle.std.specs.declared.option.Option.{Option}
use Rattle.std.proofs.lemmas.Bool.{cases_Bool, cases_lt, and_parts, ltb-true, eq-eqb}
use Rattle.list_laws.proofs.Counts.{count-exists}
use Rattle.machine.specs.States.{State}
use Rattle.plain_lists.specs.Lists.{OwnSlab, Block, Lists, lies_on, begun, changed}
use Rattle.plain_lists.specs.Good.{AreGood, has_granule, slabs_on, stored_on, blocks_on}
use Rattle.list_laws.proofs.Members.{Contains-cons, Contains-map}
use Rattle.plain_runs.proofs.Bins.{BlocksIn}
use Rattle.plain_runs.proofs.Layouts.{Use, Away, InBin, InHand, InCache, OfSlab, Layout, laid, Knows}
use Rattle.plain_runs.proofs.Moves.{laid-inside, laid-other, plain_no_slab}
use Rattle.plain_runs.proofs.ObjectSteps.{same_slab, with_objects}

-- each member of the lists has its granules, and no granule outside of the region is used
pub record Lays (lists : Lists) (layout : Layout) : Type 0 where
  pub slabs_are : (slab : OwnSlab) → Contains lists.slabs slab → (g : ℕ) → lies_on slab.index 2 g ≡ true → layout g ≡ OfSlab slab
  pub stored_are : (index : ℕ) → Contains lists.stored index → (g : ℕ) → lies_on index 2 g ≡ true → layout g ≡ InCache
  pub blocks_are : (block : Block) → Contains lists.blocks block → (g : ℕ) → lies_on block.first block.granules g ≡ true → layout g ≡ InBin
  pub away : (g : ℕ) → has_granule lists.region g ≡ false → layout g ≡ Away

-- what holds of the machine's state between two calls
pub record Holds (state : State) (lists : Lists) : Type 0 where
  pub layout : Layout
  pub knows : Knows state layout lists.region lists.granted
  pub lays : Lays lists layout
  pub good : AreGood lists
  pub blocks : BlocksIn state lists.blocks

-- what a granule is used for
pub data UseOf (lists : Lists) (layout : Layout) (g : ℕ) : Type 0 where
  none_has : layout g ≡ Away → UseOf lists layout g
  slab_has : (slab : OwnSlab) → Contains lists.slabs slab → lies_on slab.index 2 g ≡ true → layout g ≡ OfSlab slab → UseOf lists layout g
  stored_has : (index : ℕ) → Contains lists.stored index → lies_on index 2 g ≡ true → layout g ≡ InCache → UseOf lists layout g
  block_has : (block : Block) → Contains lists.blocks block → lies_on block.first block.granules g ≡ true → layout g ≡ InBin → UseOf lists layout g

pub use_of : (lists : Lists) (layout : Layout) → AreGood lists → Lays lists layout → (g : ℕ) → UseOf lists layout g
use_of lists layout good lays g = elim (cases_Bool (has_granule lists.region g)) [
  | inr off ↦ none_has (lays.away g off)
  | inl on ↦
      let one : slabs_on g lists.slabs + (stored_on g lists.stored + blocks_on g lists.blocks) ≡ 1 = good.once g ∙ ap (λ (b : Bool). if b then 1 else 0) on in
      elim (cases_lt 0 (slabs_on g lists.slabs)) [
        | inl some ↦ let m = count-exists (λ slab. lies_on slab.index 2 g) lists.slabs some in slab_has m.0 m.1 m.2 (lays.slabs_are m.0 m.1 g m.2)
        | inr none ↦ elim (cases_lt 0 (stored_on g lists.stored)) [
          | inl some ↦ let m = count-exists (λ index. lies_on index 2 g) lists.stored some in stored_has m.0 m.1 m.2 (lays.stored_are m.0 m.1 g m.2)
          | inr none' ↦ let m = count-exists (λ block. lies_on block.first block.granules g) lists.blocks (omega arith) in block_has m.0 m.1 m.2 (lays.blocks_are m.0 m.1 g m.2)
        ]
      ]
]

-- a granule that is used lies in the region
pub used_inside : (lists : Lists) (layout : Layout) (g : ℕ) (use' : Use) → Lays lists layout → layout g ≡ use' → (Away ≡ use' → ⊥) → has_granule lists.region g ≡ true
used_inside lists layout g use' lays is other = elim (cases_Bool (has_granule lists.region g)) [
  | inl on ↦ on
  | inr off ↦ absurd (other (sym (lays.away g off) ∙ is))
]

pub used_below : (lists : Lists) (layout : Layout) (g : ℕ) (use' : Use) → Lays lists layout → layout g ≡ use' → (Away ≡ use' → ⊥) → g < 128
used_below lists layout g use' lays is other = ltb-true g 128 (and_parts (is_some lists.region) (nat_lt g 128) (used_inside lists layout g use' lays is other)).1

-- a slab keeps its granules, and its objects change
pub lays_changed : (lists : Lists) (layout : Layout) (slab : OwnSlab) (objects : List (Option ℕ)) (private : List ℕ) (granted : ℕ) → Lays lists layout →
    ((g : ℕ) → lies_on slab.index 2 g ≡ true → layout g ≡ OfSlab slab) →
    Lays (record { region = lists.region; slabs = changed (with_objects slab objects private) lists.slabs; stored = lists.stored; blocks = lists.blocks; granted = granted })
    (laid layout slab.index 2 (OfSlab (with_objects slab objects private)))
lays_changed lists layout slab objects private granted lays whole = record {
  slabs_are = λ s member g on.
      let was = Contains-map (λ other. if other.index == slab.index then next else other) lists.slabs s member in
      by_index s was.0 was.1 (was.0.index == slab.index) refl was.2 g on;
  stored_are = λ index member g on. laid-other layout slab.index 2 (OfSlab slab) (OfSlab next) InCache g whole (lays.stored_are index member g on) (λ same. plain_no_slab InCache slab refl (sym same));
  blocks_are = λ block member g on. laid-other layout slab.index 2 (OfSlab slab) (OfSlab next) InBin g whole (lays.blocks_are block member g on) (λ same. plain_no_slab InBin slab refl (sym same));
  away = λ g off. laid-other layout slab.index 2 (OfSlab slab) (OfSlab next) Away g whole (lays.away g off) (λ same. plain_no_slab Away slab refl (sym same));
}
  where
    next : OwnSlab
    next = with_objects slab objects private

    by_index : (s x : OwnSlab) → Contains lists.slabs x → (b : Bool) → (x.index == slab.index) ≡ b → (if b then next else x) ≡ s → (g : ℕ) → lies_on s.index 2 g ≡ true →
        laid layout slab.index 2 (OfSlab next) g ≡ OfSlab s
    by_index s x member true here is g on = laid-inside layout slab.index 2 (OfSlab next) g (ap (λ (o : OwnSlab). lies_on o.index 2 g) is ∙ on) ∙ ap OfSlab is
    by_index s x member false other is g on =
        laid-other layout slab.index 2 (OfSlab slab) (OfSlab next) (OfSlab x) g whole (lays.slabs_are x member g (ap (λ (o : OwnSlab). lies_on o.index 2 g) is ∙ on))
        (λ same. let clash : true ≡ false = sym (eq-eqb x.index slab.index (ap (λ (o : OwnSlab). o.index) (sym (same_slab slab x same)))) ∙ other in cc)
        ∙ ap OfSlab is

-- a slab begins with what is in hand
pub lays_begun : (lists : Lists) (layout : Layout) (index class : ℕ) → Lays lists layout → ((g : ℕ) → lies_on index 2 g ≡ true → layout g ≡ InHand) →
    Lays (record { region = lists.region; slabs = begun index class ∷ lists.slabs; stored = lists.stored; blocks = lists.blocks; granted = lists.granted }) (laid layout index 2 (OfSlab (begun index class)))
lays_begun lists layout index class lays whole = record {
  slabs_are = λ s member g on. elim (Contains-cons (begun index class) lists.slabs s member) [
    | inl is ↦ laid-inside layout index 2 (OfSlab (begun index class)) g (ap (λ (o : OwnSlab). lies_on o.index 2 g) is ∙ on) ∙ ap OfSlab is
    | inr old ↦ laid-other layout index 2 InHand (OfSlab (begun index class)) (OfSlab s) g whole (lays.slabs_are s old g on) (plain_no_slab InHand s refl)
  ];
  stored_are = λ i member g on. laid-other layout index 2 InHand (OfSlab (begun index class)) InCache g whole (lays.stored_are i member g on) (λ same. let e = same in cc);
  blocks_are = λ block member g on. laid-other layout index 2 InHand (OfSlab (begun index class)) InBin g whole (lays.blocks_are block member g on) (λ same. let e = same in cc);
  away = λ g off. laid-other layout index 2 InHand (OfSlab (begun index class)) Away g whole (lays.away g off) (λ same. let e = same in cc);
}
