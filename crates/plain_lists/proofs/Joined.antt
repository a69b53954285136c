-- A block that is put among blocks: it is joined with its free neighbours.
use Rattle.std.proofs.Common.{◌≡◌, ◌≢◌, ℕ, ◌+◌, ◌-◌, ◌%◌, ◌≤◌, Bool, true, not, ◌⊎◌, inl, inr, List, length, Some, None, refl, sym, ap, ◌∙◌, subst, arith}
use Rattle.std.specs.Prelude.{Contains, filter}
use Rattle.std.specs.declared.option.Option.{Option}
use Rattle.std.proofs.lemmas.Bool.{eq-eqb, eqb-true, not-true, or_parts, true≢false}
use Rattle.plain_lists.specs.Lists.{Block, lies_on}
use Rattle.plain_lists.specs.Backend.{meets, touches, granules_in, joined_first, block_before, block_behind, joined, after_put}
use Rattle.plain_lists.specs.Good.{IsGoodBlock, blocks_on}
use Rattle.list_laws.proofs.Members.{Contains-cons, Contains-filter}
use Rattle.list_laws.proofs.Finds.{find-Some}
use Rattle.list_laws.proofs.Counts.{one_if, count_in, count-cons, count-split, count-either, count-found}
use Rattle.plain_lists.proofs.Granules.{lies_on-true, lies_on-joined, lies_on-none}
use Rattle.plain_lists.proofs.Blocks.{AreBlocks, has, alone_at}

-- A block that is none of the list and has no granule of one of its blocks.
pub record IsBeside (block : Block) (blocks : List Block) : Type 0 where
  pub good : IsGoodBlock block
  pub blocks_are : AreBlocks blocks
  pub once : (granule : ℕ) → one_if (has granule block) + blocks_on granule blocks ≤ 1

-- the neighbour before a block ends where it begins, and begins where the joined block does
pub before_meets : (block : Block) (blocks : List Block) (before : Option Block) → block_before block blocks ≡ before → joined_first block before + granules_in before ≡ block.first
before_meets block blocks (Some other) found = eqb-true (other.first + other.granules) block.first (find-Some (λ other. meets other block) blocks other found).1
before_meets block blocks None none = omega arith

-- the neighbour behind a block begins where it ends
pub behind_meets : (block : Block) (blocks : List Block) (other : Block) → block_behind block blocks ≡ Some other → block.first + block.granules ≡ other.first
behind_meets block blocks other found = eqb-true (block.first + block.granules) other.first (find-Some (λ other. meets block other) blocks other found).1

-- the joined block has the granules of the block and of its neighbours
pub joined-on : (block : Block) (blocks : List Block) (granule : ℕ) →
    one_if (has granule (joined block blocks)) ≡ count_in (has granule) (block_before block blocks) + (one_if (has granule block) + count_in (has granule) (block_behind block blocks))
joined-on block blocks granule =
    let begins = before_meets block blocks (block_before block blocks) refl in
    let front = lies_on-joined first before (block.granules + behind) granule in
    let same = ap (λ at_first. one_if (lies_on at_first (block.granules + behind) granule)) begins in
    let back = lies_on-joined block.first block.granules behind granule in
    let lower = in_front (block_before block blocks) in
    let upper = in_back (block_behind block blocks) refl in
    omega (arith, front, same, back, lower, upper)
  where
    first : ℕ
    first = joined_first block (block_before block blocks)

    before : ℕ
    before = granules_in (block_before block blocks)

    behind : ℕ
    behind = granules_in (block_behind block blocks)

    in_front : (other : Option Block) → count_in (has granule) other ≡ one_if (lies_on (joined_first block other) (granules_in other) granule)
    in_front (Some other) = refl
    in_front None = sym (lies_on-none block.first granule)

    in_back : (other : Option Block) → block_behind block blocks ≡ other → count_in (has granule) other ≡ one_if (lies_on (block.first + block.granules) (granules_in other) granule)
    in_back (Some other) found = ap (λ at_first. one_if (lies_on at_first other.granules granule)) (sym (behind_meets block blocks other found))
    in_back None none = sym (lies_on-none (block.first + block.granules) granule)

-- the granules that the neighbours of a block have
pub neighbours-on : (block : Block) (blocks : List Block) → IsGoodBlock block → AreBlocks blocks → (granule : ℕ) →
    blocks_on granule (filter (touches block) blocks) ≡ count_in (has granule) (block_behind block blocks) + count_in (has granule) (block_before block blocks)
neighbours-on block blocks good are granule =
    let either = count-either (has granule) behind before blocks (λ other inside is_behind is_before. apart other is_behind is_before) in
    let one = count-found (has granule) behind blocks one_behind in
    let other = count-found (has granule) before blocks one_before in
    omega (arith, either, one, other)
  where
    behind : Block → Bool
    behind other = meets block other

    before : Block → Bool
    before other = meets other block

    apart : (other : Block) → behind other ≡ true → before other ≡ true → ⊥
    apart other is_behind is_before =
        let ends = eqb-true (block.first + block.granules) other.first is_behind in
        let begins = eqb-true (other.first + other.granules) block.first is_before in
        let some = good.some in omega (arith, ends, begins, some)

    one_behind : length (filter behind blocks) ≤ 1
    one_behind = alone_at blocks behind (block.first + block.granules) (are.once (block.first + block.granules))
        (λ other inside is. let begins = eqb-true (block.first + block.granules) other.first is in let some = (are.good other inside).some in
        lies_on-true other.first other.granules (block.first + block.granules) (omega (arith, begins)) (omega (arith, begins, some)))

    one_before : length (filter before blocks) ≤ 1
    one_before = alone_at blocks before (block.first - 1) (are.once (block.first - 1))
        (λ other inside is. let ends = eqb-true (other.first + other.granules) block.first is in let some = (are.good other inside).some in
        lies_on-true other.first other.granules (block.first - 1) (omega (arith, ends, some)) (omega (arith, ends, some)))

-- a block after one was put is the joined one, or one of the list that does not touch it
pub Contains-after_put : (block : Block) (blocks : List Block) (one : Block) → Contains (after_put block blocks) one →
    (joined block blocks ≡ one) ⊎ (Contains blocks one × (block.first + block.granules ≢ one.first) × (one.first + one.granules ≢ block.first))
Contains-after_put block blocks one inside =
    elim (Contains-cons (joined block blocks) (filter (λ other. not (touches block other)) blocks) one inside) [
      | inl is ↦ inl is
      | inr later ↦
          let (was, other) = Contains-filter (λ other. not (touches block other)) blocks one later in
          let neither = or_parts (meets block one) (meets one block) (not-true (touches block one) other) in
          inr (was, λ e. true≢false (sym (eq-eqb (block.first + block.granules) one.first e) ∙ neither.0), λ e. true≢false (sym (eq-eqb (one.first + one.granules) block.first e) ∙ neither.1))
    ]

-- the granules that blocks have after one was put: those that they had, and its own
pub blocks_on-after_put : (block : Block) (blocks : List Block) → IsGoodBlock block → AreBlocks blocks → (granule : ℕ) →
    blocks_on granule (after_put block blocks) ≡ one_if (has granule block) + blocks_on granule blocks
blocks_on-after_put block blocks good are granule =
    let first = count-cons (has granule) (joined block blocks) (filter (λ other. not (touches block other)) blocks) in
    let split = count-split (has granule) (touches block) blocks in
    let both = neighbours-on block blocks good are granule in
    let whole = joined-on block blocks granule in
    omega (arith, first, split, both, whole)

-- the joined block is good
pub joined_good : (block : Block) (blocks : List Block) → IsGoodBlock block → AreBlocks blocks → IsGoodBlock (joined block blocks)
joined_good block blocks good are = record {
  even = first_even (block_before block blocks) refl;
  pairs = let own = good.pairs in let lower = pairs_before (block_before block blocks) refl in let upper = pairs_behind (block_behind block blocks) refl in omega (arith, own, lower, upper);
  some = let some = good.some in omega (arith, some);
}
  where
    first_even : (before : Option Block) → block_before block blocks ≡ before → joined_first block before % 2 ≡ 0
    first_even (Some other) found = (are.good other (find-Some (λ other. meets other block) blocks other found).0).even
    first_even None none = good.even

    pairs_before : (before : Option Block) → block_before block blocks ≡ before → granules_in before % 2 ≡ 0
    pairs_before (Some other) found = (are.good other (find-Some (λ other. meets other block) blocks other found).0).pairs
    pairs_before None none = refl

    pairs_behind : (behind : Option Block) → block_behind block blocks ≡ behind → granules_in behind % 2 ≡ 0
    pairs_behind (Some other) found = (are.good other (find-Some (λ other. meets block other) blocks other found).0).pairs
    pairs_behind None none = refl

-- blocks are good, once and parted after one was put that has no granule of them
pub after_put_good : (block : Block) (blocks : List Block) → IsBeside block blocks → AreBlocks (after_put block blocks)
after_put_good block blocks beside = record {
  good = λ one inside. elim (Contains-after_put block blocks one inside) [
    | inl is ↦ subst IsGoodBlock is whole_good
    | inr (was, ends, begins) ↦ are.good one was
  ];
  once = λ granule. let on = blocks_on-after_put block blocks beside.good are granule in let once = beside.once granule in omega (arith, on, once);
  parted = λ one other in_one in_other. both one other (Contains-after_put block blocks one in_one) (Contains-after_put block blocks other in_other);
}
  where
    are : AreBlocks blocks
    are = beside.blocks_are

    whole : Block
    whole = joined block blocks

    whole_good : IsGoodBlock whole
    whole_good = joined_good block blocks beside.good are

    -- the joined block ends where no other one begins
    ends_apart : (other : Block) → Contains blocks other → block.first + block.granules ≢ other.first → whole.first + whole.granules ≢ other.first
    ends_apart other inside apart meet = at_behind (block_behind block blocks) refl
      where
        begins : joined_first block (block_before block blocks) + granules_in (block_before block blocks) ≡ block.first
        begins = before_meets block blocks (block_before block blocks) refl

        at_behind : (behind : Option Block) → block_behind block blocks ≡ behind → ⊥
        at_behind (Some next) found =
            let there = behind_meets block blocks next found in let same = ap granules_in found in
            are.parted next other (find-Some (λ other. meets block other) blocks next found).0 inside (omega (arith, there, same, begins, meet))
        at_behind None none = let same = ap granules_in none in apart (omega (arith, same, begins, meet))

    -- and begins where no other one ends
    begins_apart : (other : Block) → Contains blocks other → other.first + other.granules ≢ block.first → other.first + other.granules ≢ whole.first
    begins_apart other inside apart meet = at_before (block_before block blocks) refl
      where
        at_before : (before : Option Block) → block_before block blocks ≡ before → ⊥
        at_before (Some last) found =
            are.parted other last inside (find-Some (λ other. meets other block) blocks last found).0 (meet ∙ ap (joined_first block) found)
        at_before None none = apart (meet ∙ ap (joined_first block) none)

    both : (one other : Block) →
        (whole ≡ one) ⊎ (Contains blocks one × (block.first + block.granules ≢ one.first) × (one.first + one.granules ≢ block.first)) →
        (whole ≡ other) ⊎ (Contains blocks other × (block.first + block.granules ≢ other.first) × (other.first + other.granules ≢ block.first)) →
        one.first + one.granules ≢ other.first
    both one other (inl is_one) (inl is_other) = subst (λ (b : Block). b.first + b.granules ≢ other.first) is_one (subst (λ (b : Block). whole.first + whole.granules ≢ b.first) is_other (let some = whole_good.some in omega (arith, some)))
    both one other (inl is_one) (inr (was, ends, begins)) = subst (λ (b : Block). b.first + b.granules ≢ other.first) is_one (ends_apart other was ends)
    both one other (inr (was, ends, begins)) (inl is_other) = subst (λ (b : Block). one.first + one.granules ≢ b.first) is_other (begins_apart one was begins)
    both one other (inr (was_one, ends_one, begins_one)) (inr (was_other, ends_other, begins_other)) = are.parted one other was_one was_other
