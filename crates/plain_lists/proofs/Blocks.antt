-- Blocks of a list: one that a slab is cut out of, and one that is joined with its neighbours.
use Rattle.std.proofs.Common.{◌≡◌, ◌≢◌, ℕ, ◌+◌, ◌-◌, ◌%◌, ◌<◌, ◌≤◌, Bool, true, false, not, ◌==◌, ◌⊎◌, inl, inr, List, [], ◌∷◌, ◌++◌, length, Some, None, refl, sym, ap, ◌∙◌, subst, arith}
use Rattle.std.specs.Prelude.{Contains, filter, find, if◌then◌else◌}
use Rattle.std.specs.declared.option.Option.{Option}
use Rattle.std.proofs.lemmas.Bool.{eq-eqb, eqb-true, eqb-false, not-true, true≢false}
use Rattle.std.proofs.lemmas.List.{append-nil}
use Rattle.plain_lists.specs.Lists.{Block, lies_on}
use Rattle.plain_lists.specs.Backend.{even_from, is_same, some_block, rests, after_cut}
use Rattle.plain_lists.specs.Good.{IsGoodBlock, blocks_on}
use Rattle.list_laws.proofs.Members.{Contains-none, Contains-single, Contains-filter}
use Rattle.std.proofs.lemmas.List.Elements.{Contains-append_cases}
use Rattle.list_laws.proofs.Finds.{find-Some, find-None}
use Rattle.list_laws.proofs.Counts.{one_if, count_in, count-cons, count-append, count-split, count-found, count-more, count-some, count-only}
use Rattle.plain_lists.proofs.Granules.{lies_on-true, lies_on-joined, lies_on-none}

-- A list of blocks that are good, of which no granule is in two, and none ends where another begins.
pub record AreBlocks (blocks : List Block) : Type 0 where
  pub good : (block : Block) → Contains blocks block → IsGoodBlock block
  pub once : (granule : ℕ) → blocks_on granule blocks ≤ 1
  pub parted : (one other : Block) → Contains blocks one → Contains blocks other → one.first + one.granules ≢ other.first

-- the test whether a block has a granule
abbrev pub has : ℕ → Block → Bool
has granule block = lies_on block.first block.granules granule

-- a block has its first granule and its last
pub has_first : (block : Block) → IsGoodBlock block → has block.first block ≡ true
has_first block good = lies_on-true block.first block.granules block.first (omega arith) (let some = good.some in omega (arith, some))

pub has_last : (block : Block) (granule : ℕ) → IsGoodBlock block → granule + 1 ≡ block.first + block.granules → has granule block ≡ true
has_last block granule good last = let some = good.some in lies_on-true block.first block.granules granule (omega (arith, some, last)) (omega (arith, last))

-- blocks have the granule of a block among them
pub blocks_on-first : (blocks : List Block) (block : Block) → Contains blocks block → IsGoodBlock block → 0 < blocks_on block.first blocks
blocks_on-first blocks block inside good = count-some (has block.first) blocks block inside (has_first block good)

-- where one block at most has a granule, one at most passes a test that only blocks with that granule pass
pub alone_at : (blocks : List Block) (test : Block → Bool) (granule : ℕ) → blocks_on granule blocks ≤ 1 → ((block : Block) → Contains blocks block → test block ≡ true → has granule block ≡ true) →
    length (filter test blocks) ≤ 1
alone_at blocks test granule few all = let less = count-more test (has granule) blocks all in omega (arith, less, few)

-- a block without its granules, and the others
pub blocks_on-without : (blocks : List Block) (block : Block) → AreBlocks blocks → Contains blocks block → (granule : ℕ) →
    one_if (has granule block) + blocks_on granule (filter (λ other. not (is_same block other)) blocks) ≡ blocks_on granule blocks
blocks_on-without blocks block are inside granule =
    let split = count-split (has granule) (is_same block) blocks in
    let found = count-found (has granule) (is_same block) blocks alone in
    let first = first_is (find (is_same block) blocks) refl in
    omega (arith, split, found, first)
  where
    alone : length (filter (is_same block) blocks) ≤ 1
    alone = alone_at blocks (is_same block) block.first (are.once block.first)
        (λ other among same. let is = eqb-true block.first other.first same in let some = (are.good other among).some in lies_on-true other.first other.granules block.first (omega (arith, is)) (omega (arith, is, some)))

    -- two blocks of the list that begin at one index are one: of the blocks that begin there one is found
    first_is : (found : Option Block) → find (is_same block) blocks ≡ found → count_in (has granule) found ≡ one_if (has granule block)
    first_is None none = absurd (true≢false (sym (eq-eqb block.first block.first refl) ∙ find-None (is_same block) blocks none block inside))
    first_is (Some other) found =
        let (among, same) = find-Some (is_same block) blocks other found in
        ap (λ b. one_if (has granule b)) (count-only (is_same block) blocks other block alone among inside same (eq-eqb block.first block.first refl))

-- two blocks of the list that have one granule are one
pub only_block : (blocks : List Block) → AreBlocks blocks → (one other : Block) (granule : ℕ) → Contains blocks one → Contains blocks other →
    has granule one ≡ true → has granule other ≡ true → one ≡ other
only_block blocks are one other granule in_one in_other has_one has_other = count-only (has granule) blocks one other (are.once granule) in_one in_other has_one has_other

-- what is left of a block that begins at an even index lies behind the slab that is cut out of it
pub rests-even : (block : Block) → block.first % 2 ≡ 0 → rests block ≡ some_block (block.first + 2) (block.granules - 2)
rests-even block even =
    ap (λ index. some_block (index + 2) (block.first + block.granules - (index + 2)) ++ some_block block.first (index - block.first)) same
    ∙ ap (λ left. some_block (block.first + 2) left ++ some_block block.first (block.first - block.first)) (omega arith)
    ∙ ap (λ front. some_block (block.first + 2) (block.granules - 2) ++ some_block block.first front) (let none : block.first - block.first ≡ 0 = omega arith in none)
    ∙ append-nil (some_block (block.first + 2) (block.granules - 2))
  where
    same : even_from block.first ≡ block.first
    same = omega (arith, even)

-- a block of good blocks has two granules at least
pub two_at_least : (block : Block) → IsGoodBlock block → 2 ≤ block.granules
two_at_least block good = let some = good.some in let pairs = good.pairs in omega (arith, some, pairs)

-- the granules that a block has, where it is one
pub some_block-on : (first granules granule : ℕ) → blocks_on granule (some_block first granules) ≡ one_if (lies_on first granules granule)
some_block-on first granules granule = go (granules == 0) refl
  where
    go : (b : Bool) → (granules == 0) ≡ b → blocks_on granule (if b then [] else record { first = first; granules = granules } ∷ []) ≡ one_if (lies_on first granules granule)
    go true none = sym (ap (λ n. one_if (lies_on first n granule)) (eqb-true granules 0 none) ∙ lies_on-none first granule)
    go false some = let cons = count-cons (has granule) (record { first = first; granules = granules }) [] in omega (arith, cons)

pub Contains-some_block : (first granules : ℕ) (block : Block) → Contains (some_block first granules) block → (block.first ≡ first) × (block.granules ≡ granules) × (0 < granules)
Contains-some_block first granules block inside = go (granules == 0) refl inside
  where
    go : (b : Bool) → (granules == 0) ≡ b → Contains (if b then [] else record { first = first; granules = granules } ∷ []) block → (block.first ≡ first) × (block.granules ≡ granules) × (0 < granules)
    go true none inside = absurd (Contains-none block inside)
    go false some inside =
        let is = Contains-single (record { first = first; granules = granules }) block inside in
        let more = eqb-false granules 0 some in
        (ap (λ (b : Block). b.first) (sym is), ap (λ (b : Block). b.granules) (sym is), omega (arith, more))

-- a block after a slab was cut out of another one: what is left of that one, or another one of the list
pub Contains-after_cut : (block : Block) (blocks : List Block) (one : Block) → block.first % 2 ≡ 0 → Contains (after_cut block blocks) one →
    ((one.first ≡ block.first + 2) × (one.granules ≡ block.granules - 2) × (0 < block.granules - 2)) ⊎ (Contains blocks one × (one.first ≢ block.first))
Contains-after_cut block blocks one even inside =
    elim (Contains-append_cases (rests block) (filter (λ other. not (is_same block other)) blocks) one inside) [
      | inl left ↦ inl (Contains-some_block (block.first + 2) (block.granules - 2) one (subst (λ bs. Contains bs one) (rests-even block even) left))
      | inr among ↦
          let (was, other) = Contains-filter (λ other. not (is_same block other)) blocks one among in
          inr (was, λ e. eqb-false block.first one.first (not-true (is_same block one) other) (sym e))
    ]

-- the granules that blocks have after a slab was cut out of one of them: all but the slab's
pub blocks_on-after_cut : (blocks : List Block) (block : Block) → AreBlocks blocks → Contains blocks block → (granule : ℕ) →
    one_if (lies_on block.first 2 granule) + blocks_on granule (after_cut block blocks) ≡ blocks_on granule blocks
blocks_on-after_cut blocks block are inside granule =
    let good = are.good block inside in
    let two = two_at_least block good in
    let both = count-append (has granule) (rests block) (filter (λ other. not (is_same block other)) blocks) in
    let left = ap (blocks_on granule) (rests-even block good.even) ∙ some_block-on (block.first + 2) (block.granules - 2) granule in
    let others = blocks_on-without blocks block are inside granule in
    let parts = lies_on-joined block.first 2 (block.granules - 2) granule in
    let whole = ap (λ n. one_if (lies_on block.first n granule)) (let e : 2 + (block.granules - 2) ≡ block.granules = omega (arith, two) in e) in
    omega (arith, both, left, others, parts, whole)

-- blocks are good, once and parted after a slab was cut out of one of them
pub after_cut_good : (blocks : List Block) (block : Block) → AreBlocks blocks → Contains blocks block → AreBlocks (after_cut block blocks)
after_cut_good blocks block are inside = record {
  good = λ one among. elim (Contains-after_cut block blocks one even among) [
    | inl (first, granules, some) ↦ record {
      even = omega (arith, first, even);
      pairs = let pairs = block_good.pairs in let two = two_at_least block block_good in omega (arith, granules, pairs, two);
      some = omega (arith, granules, some);
    }
    | inr (was, apart) ↦ are.good one was
  ];
  once = λ granule. let less = blocks_on-after_cut blocks block are inside granule in let once = are.once granule in omega (arith, less, once);
  parted = λ one other in_one in_other. both one other (Contains-after_cut block blocks one even in_one) (Contains-after_cut block blocks other even in_other);
}
  where
    block_good : IsGoodBlock block
    block_good = are.good block inside

    even : block.first % 2 ≡ 0
    even = block_good.even

    both : (one other : Block) →
        ((one.first ≡ block.first + 2) × (one.granules ≡ block.granules - 2) × (0 < block.granules - 2)) ⊎ (Contains blocks one × (one.first ≢ block.first)) →
        ((other.first ≡ block.first + 2) × (other.granules ≡ block.granules - 2) × (0 < block.granules - 2)) ⊎ (Contains blocks other × (other.first ≢ block.first)) →
        one.first + one.granules ≢ other.first
    both one other (inl (first, granules, some)) (inl (other_first, other_granules, other_some)) = omega (arith, first, granules, some, other_first)
    both one other (inl (first, granules, some)) (inr (was, apart)) =
        let away = are.parted block other inside was in omega (arith, first, granules, some, away)
    both one other (inr (was, apart)) (inl (first, granules, some)) =
        λ meet. apart (ap (λ (b : Block). b.first) (only_block blocks are one block (block.first + 1) was inside
        (has_last one (block.first + 1) (are.good one was) (omega (arith, meet, first)))
        (lies_on-true block.first block.granules (block.first + 1) (omega arith) (omega (arith, some)))))
    both one other (inr (was_one, apart_one)) (inr (was_other, apart_other)) = are.parted one other was_one was_other
