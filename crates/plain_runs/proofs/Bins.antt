-- The blocks in bins, as the machine has them: each is a block of the lists.
use Rattle.std.proofs.Common.{◌≡◌, ◌≢◌, ◌⊎◌, ℕ, ◌+◌, ◌-◌, ◌*◌, ◌<◌, ◌≤◌, Bool, true, false, not, List, [], ◌∷◌, ◌++◌, Some, None, refl, sym, ◌∙◌, ap, arith, inl, inr, subst, map}
use Rattle.std.specs.Prelude.{Contains, if◌then◌else◌, nat_lt, ◌==◌, filter}
use Rattle.std.specs.List.{flat_map}
use Rattle.std.specs.declared.option.Option.{Option}
use Rattle.std.proofs.lemmas.Bool.{cases_lt, and_parts, and_from, ltb-true, lt-ltb, eqb-true, eqb-false, not_from_false, false_from_ne_true, or_cases}
use Rattle.std.proofs.lemmas.List.Elements.{Contains-append_cases, Contains-append_left, Contains-append_right}
use Rattle.part_model.specs.declared.holders.Holder.TheVariants.{Bin, Hand}
use Rattle.part_model.specs.declared.holders.HolderKind.TheVariants.{Bin as OfBin}
use Rattle.part_model.specs.declared.moves.Part.{Part}
use Rattle.part_model.specs.declared.moves.Range.{Range}
use Rattle.part_model.specs.Totals.{is_at}
use Rattle.machine.specs.States.{State}
use Rattle.machine.specs.Ranges.{Each, overlaps, parts_of, range_at}
use Rattle.machine.specs.Journal.{Turn, some_range, block_left, blocks_after_part, blocks_after, after_turn}
use Rattle.list_laws.proofs.Finds.{find-Some, find-None}
use Rattle.list_laws.proofs.Members.{Contains-none, Contains-cons, Contains-first, Contains-single, Contains-filter_from}
use Rattle.plain_lists.specs.Lists.{Block, lies_on}
use Rattle.plain_lists.specs.Backend.{meets, touches, joined, block_before, block_behind, after_put, after_cut, rests, is_same, slab_block}
use Rattle.plain_lists.proofs.Blocks.{AreBlocks, has_first, has_last, only_block, rests-even, two_at_least}
use Rattle.plain_lists.proofs.Granules.{lies_on-true, lies_on-parts}
use Rattle.plain_runs.specs.Steps.{at_offset, block_range, blocks_step, listed}

-- each block that the machine has in bins is one of these
abbrev pub BlocksIn : State → List Block → Type 0
BlocksIn state blocks = (range : Range) → Contains state.blocks range → (block : Block) × Contains blocks block × (range ≡ block_range block)

-- a part that is neither out of bins nor into them
pub record IsOffBins (part : Part) : Type 0 where
  pub from : is_at OfBin part.from ≡ false
  pub to : is_at OfBin part.to ≡ false

-- such parts leave the blocks
blocks_left : (blocks : List Range) (parts : List Part) → Each IsOffBins parts → (range : Range) → Contains (blocks_after blocks parts) range → Contains blocks range
blocks_left blocks [] all range member = member
blocks_left blocks (part ∷ parts) (off, all) range member =
    by_tests (is_at OfBin part.from) (is_at OfBin part.to) off.from off.to (blocks_left (blocks_after_part blocks part) parts all range member)
  where
    by_tests : (f t : Bool) → f ≡ false → t ≡ false → Contains ((if f then flat_map (block_left part.range) blocks else blocks) ++ (if t then part.range ∷ [] else [])) range → Contains blocks range
    by_tests false false from to here = elim (Contains-append_cases blocks [] range here) [
      | inl old ↦ old
      | inr none ↦ absurd (Contains-none range none)
    ]
    by_tests true t from to here = absurd (let clash = from in cc)
    by_tests false true from to here = absurd (let clash = to in cc)

pub blocks_stay : (state : State) (turn : Turn) (blocks : List Block) → Each IsOffBins turn.parts → BlocksIn state blocks → BlocksIn (after_turn state turn) blocks
blocks_stay state turn blocks off are range member = are range (blocks_left state.blocks turn.parts off range member)

-- a member of what a function makes lists of
in_flat_map : {X Y : Type 0} → (f : X → List Y) (xs : List X) (y : Y) → Contains (flat_map f xs) y → (x : X) × Contains xs x × Contains (f x) y
in_flat_map f [] y member = absurd (Contains-none y member)
in_flat_map {X} {Y} f (x ∷ xs) y member = elim (Contains-append_cases (f x) (flat_map f xs) y member) [
  | inl here ↦ (x, Contains-first x xs, here)
  | inr later ↦ let found = in_flat_map f xs y later in (found.0, Contains-append_right (x ∷ []) xs found.0 found.1, found.2)
]

-- what is left of a block where another one is taken out: all of it where they have no byte in common
pub data IsLeft (taken block : Block) (range : Range) : Type 0 where
  all_left : overlaps (block_range taken) (block_range block) ≡ false → range ≡ block_range block → IsLeft taken block range
  some_left : overlaps (block_range taken) (block_range block) ≡ true →
      Contains (some_range (range_at (at_offset 0) (8192 * block.first) (8192 * taken.first - 8192 * block.first))
      ++ some_range (range_at (at_offset 0) (8192 * taken.first + 8192 * taken.granules) (8192 * block.first + 8192 * block.granules - (8192 * taken.first + 8192 * taken.granules)))) range →
      IsLeft taken block range

is_left : (taken block : Block) (range : Range) → Contains (block_left (block_range taken) (block_range block)) range → IsLeft taken block range
is_left taken block range member = by_test (overlaps (block_range taken) (block_range block)) refl member
  where
    by_test : (b : Bool) → overlaps (block_range taken) (block_range block) ≡ b →
        Contains (if b then some_range (range_at (at_offset 0) (8192 * block.first) (8192 * taken.first - 8192 * block.first))
        ++ some_range (range_at (at_offset 0) (8192 * taken.first + 8192 * taken.granules) (8192 * block.first + 8192 * block.granules - (8192 * taken.first + 8192 * taken.granules)))
        else block_range block ∷ []) range → IsLeft taken block range
    by_test true is here = some_left is here
    by_test false is here = all_left is (sym (Contains-single (block_range block) range here))

-- a range that has a byte
in_some_range : (one range : Range) → Contains (some_range one) range → (range ≡ one) × (one.bytes ≢ 0)
in_some_range one range member = by_test (one.bytes == 0) refl member
  where
    by_test : (b : Bool) → (one.bytes == 0) ≡ b → Contains (if b then [] else one ∷ []) range → (range ≡ one) × (one.bytes ≢ 0)
    by_test true is here = absurd (Contains-none range here)
    by_test false is here = (sym (Contains-single one range here), eqb-false one.bytes 0 is)

-- blocks that have a byte in common have a granule in common
common_granule : (one other : Block) → 0 < one.granules → 0 < other.granules → overlaps (block_range one) (block_range other) ≡ true →
    (g : ℕ) × (lies_on one.first one.granules g ≡ true) × (lies_on other.first other.granules g ≡ true)
common_granule one other some some_other is =
    let both = and_parts (nat_lt (8192 * one.first) (8192 * other.first + 8192 * other.granules)) (nat_lt (8192 * other.first) (8192 * one.first + 8192 * one.granules)) is in
    let low = ltb-true (8192 * one.first) (8192 * other.first + 8192 * other.granules) both.0 in
    let high = ltb-true (8192 * other.first) (8192 * one.first + 8192 * one.granules) both.1 in
    elim (cases_lt one.first other.first) [
      | inl before ↦ (other.first, lies_on-true one.first one.granules other.first (omega arith) (omega arith), lies_on-true other.first other.granules other.first (omega arith) (omega arith))
      | inr behind ↦ (one.first, lies_on-true one.first one.granules one.first (omega arith) (omega arith), lies_on-true other.first other.granules one.first (omega arith) (omega arith))
    ]

-- and the other way round, where the one begins at the other
same_first : (one other : Block) → 0 < one.granules → 0 < other.granules → other.first ≡ one.first → overlaps (block_range one) (block_range other) ≡ true
same_first one other some some_other is =
    and_from (nat_lt (8192 * one.first) (8192 * other.first + 8192 * other.granules)) (nat_lt (8192 * other.first) (8192 * one.first + 8192 * one.granules))
    (lt-ltb (8192 * one.first) (8192 * other.first + 8192 * other.granules) (omega arith)) (lt-ltb (8192 * other.first) (8192 * one.first + 8192 * one.granules) (omega arith))

-- the blocks after blocks of the list came out of their bins: the others
pub blocks_taken : (ranges : List Range) (blocks taken : List Block) (Also : Block → Type 0) → AreBlocks blocks → ((block : Block) → Contains taken block → Contains blocks block) →
    ((range : Range) → Contains ranges range → (block : Block) × Contains blocks block × (range ≡ block_range block) × Also block) →
    (range : Range) → Contains (blocks_after ranges (parts_of (map block_range taken) (Some Bin) (Some (Hand 0)))) range →
    (block : Block) × Contains blocks block × (range ≡ block_range block) × Also block × (Contains taken block → ⊥)
blocks_taken ranges blocks [] Also good inside are range member =
    let found = are range member in (found.0, found.1, found.2, found.3, λ none. Contains-none found.0 none)
blocks_taken ranges blocks (one ∷ taken) Also good inside are range member =
    let later = blocks_taken (flat_map (block_left (block_range one)) ranges ++ []) blocks taken (λ block. Also block × (one ≡ block → ⊥)) good
    (λ block listed. inside block (Contains-append_right (one ∷ []) taken block listed)) others range member in (
      later.0,
      later.1,
      later.2,
      later.3.0,
      λ listed. elim (Contains-cons one taken later.0 listed) [
        | inl is ↦ later.3.1 is
        | inr more ↦ later.4 more
      ],
    )
  where
    here : Contains blocks one
    here = inside one (Contains-first one taken)

    by_left : (r : Range) (block : Block) → Contains blocks block → Also block → IsLeft one block r → (b : Block) × Contains blocks b × (r ≡ block_range b) × (Also b × (one ≡ b → ⊥))
    by_left r block listed also (all_left apart is) = (
      block,
      listed,
      is,
      (
        also,
        λ same.
            let some = (good.good one here).some in
            let meet = same_first one block some (good.good block listed).some (ap (λ (b : Block). b.first) (sym same)) in
            let clash : false ≡ true = sym apart ∙ meet in cc,
      ),
    )
    by_left r block listed also (some_left meet parts) =
        let common = common_granule one block (good.good one here).some (good.good block listed).some meet in
        let same : one ≡ block = only_block blocks good one block common.0 here listed common.1 common.2 in
        let first : one.first ≡ block.first = ap (λ (b : Block). b.first) same in
        let granules : one.granules ≡ block.granules = ap (λ (b : Block). b.granules) same in
        absurd (elim (Contains-append_cases (some_range (range_at (at_offset 0) (8192 * block.first) (8192 * one.first - 8192 * block.first)))
        (some_range (range_at (at_offset 0) (8192 * one.first + 8192 * one.granules) (8192 * block.first + 8192 * block.granules - (8192 * one.first + 8192 * one.granules)))) r parts) [
          | inl front ↦ (in_some_range (range_at (at_offset 0) (8192 * block.first) (8192 * one.first - 8192 * block.first)) r front).1 (omega (arith, first))
          | inr back ↦ (in_some_range (range_at (at_offset 0) (8192 * one.first + 8192 * one.granules) (8192 * block.first + 8192 * block.granules - (8192 * one.first + 8192 * one.granules))) r back).1 (omega (arith, first, granules))
        ])

    others : (r : Range) → Contains (flat_map (block_left (block_range one)) ranges ++ []) r → (b : Block) × Contains blocks b × (r ≡ block_range b) × (Also b × (one ≡ b → ⊥))
    others r member = elim (Contains-append_cases (flat_map (block_left (block_range one)) ranges) [] r member) [
      | inl found ↦
          let at = in_flat_map (block_left (block_range one)) ranges r found in
          let was = are at.0 at.1 in
          by_left r was.0 was.1 was.3 (is_left one was.0 r (subst (λ x. Contains (block_left (block_range one) x) r) was.2 at.2))
      | inr none ↦ absurd (Contains-none r none)
    ]

-- what lies behind the slab that is cut out of the begin of a block
abbrev pub behind : Block → Block
behind block = record { first = block.first + 2; granules = block.granules - 2 }

-- the blocks after a slab was cut out of the begin of one
pub blocks_cut : (state : State) (blocks : List Block) (block : Block) → AreBlocks blocks → Contains blocks block → BlocksIn state blocks →
    BlocksIn (after_turn state (blocks_step (slab_block block.first ∷ []) Bin (Hand 0))) (after_cut block blocks)
blocks_cut state blocks block good inside are range member = elim (Contains-append_cases (flat_map (block_left (block_range (slab_block block.first))) state.blocks) [] range member) [
  | inl found ↦
      let at = in_flat_map (block_left (block_range (slab_block block.first))) state.blocks range found in
      let was = are at.0 at.1 in
      by_left was.0 was.1 (is_left (slab_block block.first) was.0 range (subst (λ x. Contains (block_left (block_range (slab_block block.first)) x) range) was.2 at.2))
  | inr none ↦ absurd (Contains-none range none)
]
  where
    two : 2 ≤ block.granules
    two = two_at_least block (good.good block inside)

    in_left : block.granules - 2 ≢ 0 → Contains (rests block) (behind block)
    in_left some = subst (λ bs. Contains bs (behind block)) (sym (rests-even block (good.good block inside).even)) (by_test (block.granules - 2 == 0) refl)
      where
        by_test : (b : Bool) → (block.granules - 2 == 0) ≡ b → Contains (if b then [] else behind block ∷ []) (behind block)
        by_test true is = absurd (some (eqb-true (block.granules - 2) 0 is))
        by_test false is = Contains-first (behind block) []

    by_left : (one : Block) → Contains blocks one → IsLeft (slab_block block.first) one range → (b : Block) × Contains (after_cut block blocks) b × (range ≡ block_range b)
    by_left one listed (all_left apart is) = (
      one,
      Contains-append_right (rests block) (filter (λ other. not (is_same block other)) blocks) one
          (Contains-filter_from (λ other. not (is_same block other)) blocks one listed (not_from_false (is_same block one) (false_from_ne_true (is_same block one) (λ same.
          let meet = same_first (slab_block block.first) one (omega arith) (good.good one listed).some (sym (eqb-true block.first one.first same)) in
          let clash : false ≡ true = sym apart ∙ meet in cc)))),
      is,
    )
    by_left one listed (some_left meet parts) =
        let some = (good.good one listed).some in
        let common = common_granule (slab_block block.first) one (omega arith) some meet in
        let bounds = lies_on-parts block.first 2 common.0 common.1 in
        let same : block ≡ one = only_block blocks good block one common.0 inside listed (lies_on-true block.first block.granules common.0 bounds.0 (omega (arith, bounds, two))) common.2 in
        let first : block.first ≡ one.first = ap (λ (b : Block). b.first) same in
        let granules : block.granules ≡ one.granules = ap (λ (b : Block). b.granules) same in
        elim (Contains-append_cases (some_range (range_at (at_offset 0) (8192 * one.first) (8192 * block.first - 8192 * one.first)))
        (some_range (range_at (at_offset 0) (8192 * block.first + 8192 * 2) (8192 * one.first + 8192 * one.granules - (8192 * block.first + 8192 * 2)))) range parts) [
          | inl front ↦ absurd ((in_some_range (range_at (at_offset 0) (8192 * one.first) (8192 * block.first - 8192 * one.first)) range front).1 (omega (arith, first)))
          | inr back ↦
              let is = in_some_range (range_at (at_offset 0) (8192 * block.first + 8192 * 2) (8192 * one.first + 8192 * one.granules - (8192 * block.first + 8192 * 2))) range back in
              let more = is.1 in (
                behind block,
                Contains-append_left (rests block) (filter (λ other. not (is_same block other)) blocks) (behind block) (in_left (λ none. more (omega (arith, none, first, granules)))),
                is.0 ∙ same_range (8192 * block.first + 8192 * 2) (8192 * (block.first + 2)) (8192 * one.first + 8192 * one.granules - (8192 * block.first + 8192 * 2)) (8192 * (block.granules - 2)) (omega arith) (omega (arith, first, granules)),
              )
        ]
      where
        same_range : (from from' bytes bytes' : ℕ) → from ≡ from' → bytes ≡ bytes' → range_at (at_offset 0) from bytes ≡ range_at (at_offset 0) from' bytes'
        same_range from from' bytes bytes' is is' = ap (λ f. range_at (at_offset 0) f bytes) is ∙ ap (λ b. range_at (at_offset 0) from' b) is'

-- the blocks after a slab was put: its free neighbours came out of their bins, and the joined block went into its own
pub blocks_put : (state : State) (blocks : List Block) (index : ℕ) → AreBlocks blocks → BlocksIn state blocks →
    BlocksIn (after_turn (after_turn state (blocks_step (listed (block_before (slab_block index) blocks) ++ listed (block_behind (slab_block index) blocks)) Bin (Hand 0)))
    (blocks_step (joined (slab_block index) blocks ∷ []) (Hand 0) Bin)) (after_put (slab_block index) blocks)
blocks_put state blocks index good are range member = elim (Contains-append_cases (after_turn state (blocks_step near Bin (Hand 0))).blocks (block_range (joined (slab_block index) blocks) ∷ []) range member) [
  | inl old ↦
      let was = blocks_taken state.blocks blocks near (λ block. Unit {0}) good members (λ r m. let at = are r m in (at.0, at.1, at.2, tt)) range old in (
        was.0,
        Contains-append_right (joined (slab_block index) blocks ∷ []) (filter (λ other. not (touches (slab_block index) other)) blocks) was.0
            (Contains-filter_from (λ other. not (touches (slab_block index) other)) blocks was.0 was.1 (not_from_false (touches (slab_block index) was.0) (false_from_ne_true (touches (slab_block index) was.0) (λ touch.
            was.4 (is_near was.0 was.1 (or_cases (meets (slab_block index) was.0) (meets was.0 (slab_block index)) touch)))))),
        was.2,
      )
  | inr new ↦ (joined (slab_block index) blocks, Contains-first (joined (slab_block index) blocks) _, sym (Contains-single (block_range (joined (slab_block index) blocks)) range new))
]
  where
    near : List Block
    near = listed (block_before (slab_block index) blocks) ++ listed (block_behind (slab_block index) blocks)

    listed_member : (block : Option Block) (one : Block) → Contains (listed block) one → block ≡ Some one
    listed_member (Some block) one member = ap Some (Contains-single block one member)
    listed_member None one member = absurd (Contains-none one member)

    members : (block : Block) → Contains near block → Contains blocks block
    members block member = elim (Contains-append_cases (listed (block_before (slab_block index) blocks)) (listed (block_behind (slab_block index) blocks)) block member) [
      | inl before ↦ (find-Some (λ other. meets other (slab_block index)) blocks block (listed_member (block_before (slab_block index) blocks) block before)).0
      | inr behind ↦ (find-Some (λ other. meets (slab_block index) other) blocks block (listed_member (block_behind (slab_block index) blocks) block behind)).0
    ]

    -- of the blocks that end where the slab begins, or begin where it ends, there is one
    found_before : (one : Block) → Contains blocks one → meets one (slab_block index) ≡ true → (found : Option Block) → block_before (slab_block index) blocks ≡ found → found ≡ Some one
    found_before one member meet None is = absurd (let clash : true ≡ false = sym meet ∙ find-None (λ other. meets other (slab_block index)) blocks is one member in cc)
    found_before one member meet (Some other) is =
        let both = find-Some (λ other. meets other (slab_block index)) blocks other is in
        let ends = eqb-true (one.first + one.granules) index meet in
        let ends_other = eqb-true (other.first + other.granules) index both.1 in
        let some = (good.good one member).some in
        ap Some (sym (only_block blocks good one other (index - 1) member both.0
        (has_last one (index - 1) (good.good one member) (omega (arith, ends, some))) (has_last other (index - 1) (good.good other both.0) (omega (arith, ends, ends_other, some)))))

    found_behind : (one : Block) → Contains blocks one → meets (slab_block index) one ≡ true → (found : Option Block) → block_behind (slab_block index) blocks ≡ found → found ≡ Some one
    found_behind one member meet None is = absurd (let clash : true ≡ false = sym meet ∙ find-None (λ other. meets (slab_block index) other) blocks is one member in cc)
    found_behind one member meet (Some other) is =
        let both = find-Some (λ other. meets (slab_block index) other) blocks other is in
        let begins : index + 2 ≡ one.first = eqb-true (index + 2) one.first meet in
        let begins_other : index + 2 ≡ other.first = eqb-true (index + 2) other.first both.1 in
        ap Some (sym (only_block blocks good one other one.first member both.0
        (has_first one (good.good one member)) (subst (λ g. lies_on other.first other.granules g ≡ true) (sym begins_other ∙ begins) (has_first other (good.good other both.0)))))

    is_near : (one : Block) → Contains blocks one → (meets (slab_block index) one ≡ true) ⊎ (meets one (slab_block index) ≡ true) → Contains near one
    is_near one member (inl behind) = Contains-append_right (listed (block_before (slab_block index) blocks)) (listed (block_behind (slab_block index) blocks)) one
        (subst (λ b. Contains (listed b) one) (sym (found_behind one member behind (block_behind (slab_block index) blocks) refl)) (Contains-first one []))
    is_near one member (inr before) = Contains-append_left (listed (block_before (slab_block index) blocks)) (listed (block_behind (slab_block index) blocks)) one
        (subst (λ b. Contains (listed b) one) (sym (found_before one member before (block_before (slab_block index) blocks) refl)) (Contains-first one []))
