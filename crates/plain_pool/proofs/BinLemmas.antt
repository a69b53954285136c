-- What entering and leaving a bin make of the arrays.
use Prim.Native.Nat.{zero, suc}
use Rattle.std.proofs.Common.{◌≡◌, ℕ, ◌+◌, ◌-◌, ◌%◌, ◌<◌, ◌≤◌, Bool, true, false, cond, not, ◌&&◌, ◌||◌, ◌==◌, ◌⊎◌, inl, inr, min, List, [], ◌∷◌, ◌++◌, map, length, get_or, set, Some, None, refl, sym, ap, ◌∙◌, subst, arith, length-set, replicate}
use Rattle.std.specs.Prelude.{Contains, filter, find, slice_index_or}
use Rattle.std.specs.declared.option.Option.{Option}
use Rattle.std.proofs.lemmas.Bool.Decides.{nat_tests}
use Rattle.std.proofs.lemmas.Bool.{cases_eq, cases_lt, true≢false}
use Rattle.std.proofs.lemmas.List.{get_or-set_same, get_or-set_other, get_or-replicate, get_or_past, length-replicate}
use Rattle.index_lists.specs.Lists.{Lists, members, with_first, without, list_without, empty_lists, times, times_listed, first_of}
use Rattle.plain_lists.specs.Lists.{Block}
use Rattle.plain_lists.specs.Backend.{first_fit, fits, even_from, fit_from, some_block, after_cut, bin_of, granules_in, joined, after_put, slab_block, touches, joined_first}
use Rattle.list_laws.proofs.Members.{Contains-first, Contains-none, Contains-other, Contains-cons, Contains-filter, Contains-filter_from}
use Rattle.list_laws.proofs.Finds.{find-Some, find-None, filter-same, filter-each, find-left, find-gone, filter-twice, filter-map}
use Rattle.plain_pool.proofs.Times.{times_map, times_made}
use Rattle.std.proofs.lemmas.Bool.{eq-eqb, ne_eqb, eqb-true}
use Rattle.plain_pool.specs.declared.bins.Bins.{Bins}
use Rattle.plain_pool.specs.Bins.{AreBins, IsCut, first_granule, block_at, firsts_in, begins_at, ends_at, granules_from, granules_to, without_from, without_to, IsBlock, IsApart, AreBlocks, BinsFit, IsNew, IsClear}
use Rattle.index_lists.proofs.CallerLemmas.{in_one, list_of}

-- blocks that begin or end at one place are one
pub one_first : (blocks : List Block) → AreBlocks blocks → (one other : Block) → Contains blocks one → Contains blocks other → one.first ≡ other.first → one ≡ other
one_first blocks are one other in_one in_other same = elim (are.apart one other in_one in_other) [
  | inl is ↦ is
  | inr (inl before) ↦ absurd (omega (arith, (are.each one in_one).some, same, before))
  | inr (inr behind) ↦ absurd (omega (arith, (are.each other in_other).some, same, behind))
]

pub one_end : (blocks : List Block) → AreBlocks blocks → (one other : Block) → Contains blocks one → Contains blocks other → one.first + one.granules ≡ other.first + other.granules → one ≡ other
one_end blocks are one other in_one in_other same = elim (are.apart one other in_one in_other) [
  | inl is ↦ is
  | inr (inl before) ↦ absurd (omega (arith, (are.each other in_other).some, same, before))
  | inr (inr behind) ↦ absurd (omega (arith, (are.each one in_one).some, same, behind))
]

-- the members of the lists, one of which changed
pub member_here : (all : Lists) (list : ℕ) (xs : List ℕ) → list < length all.lists → get_or (set all.lists list xs) list [] ≡ xs
member_here all list xs below = get_or-set_same all.lists list xs [] below

pub member_there : (all : Lists) (list other : ℕ) (xs : List ℕ) → (other ≡ list → ⊥) → get_or (set all.lists list xs) other [] ≡ members all other
member_there all list other xs differ = get_or-set_other all.lists list other xs [] differ

-- the first granules in a bin with one block more
pub firsts-here : (bin : ℕ) (block : Block) (blocks : List Block) → bin_of block ≡ bin → firsts_in bin (block ∷ blocks) ≡ block.first ∷ firsts_in bin blocks
firsts-here bin block blocks is = ap (λ b. map (λ other. other.first) (cond b (block ∷ filter (λ other. bin_of other == bin) blocks) (filter (λ other. bin_of other == bin) blocks))) (eq-eqb (bin_of block) bin is)

pub firsts-there : (bin : ℕ) (block : Block) (blocks : List Block) → (bin_of block ≡ bin → ⊥) → firsts_in bin (block ∷ blocks) ≡ firsts_in bin blocks
firsts-there bin block blocks differ = ap (λ b. map (λ other. other.first) (cond b (block ∷ filter (λ other. bin_of other == bin) blocks) (filter (λ other. bin_of other == bin) blocks))) (ne_eqb (bin_of block) bin differ)

-- blocks with one more
pub are-cons : (block : Block) (blocks : List Block) → AreBlocks blocks → IsNew blocks block → AreBlocks (block ∷ blocks)
are-cons block blocks are fresh = record {
  each = λ other inside. elim (Contains-cons block blocks other inside) [
    | inl is ↦ subst IsBlock is fresh.is
    | inr later ↦ are.each other later
  ];
  apart = λ one other in_one in_other. two one other (Contains-cons block blocks one in_one) (Contains-cons block blocks other in_other);
}
  where
    turned : (one other : Block) → IsApart one other → IsApart other one
    turned one other (inl before) = inr before
    turned one other (inr behind) = inl behind

    two : (one other : Block) → (block ≡ one) ⊎ Contains blocks one → (block ≡ other) ⊎ Contains blocks other → (one ≡ other) ⊎ IsApart one other
    two one other (inl a) (inl b) = inl (sym a ∙ b)
    two one other (inl a) (inr b) = inr (subst (λ x. IsApart x other) a (turned other block (fresh.apart other b)))
    two one other (inr a) (inl b) = inr (subst (λ x. IsApart one x) b (fresh.apart one a))
    two one other (inr a) (inr b) = are.apart one other a b

-- and without some
pub are-left : (p : Block → Bool) (blocks : List Block) → AreBlocks blocks → AreBlocks (filter p blocks)
are-left p blocks are = record {
  each = λ block inside. are.each block (Contains-filter p blocks block inside).0;
  apart = λ one other in_one in_other. are.apart one other (Contains-filter p blocks one in_one).0 (Contains-filter p blocks other in_other).0;
}

-- a block enters its bin
pub fit_entered : (lists : Lists) (begins ends : List ℕ) (blocks : List Block) (first granules : ℕ) → BinsFit lists begins ends blocks → IsNew blocks (block_at first granules) →
    BinsFit (with_first lists (min granules 512 - 1) first) (set begins first granules) (set ends (first + granules) granules) (block_at first granules ∷ blocks)
fit_entered lists begins ends blocks first granules fit fresh = record {
  bins = length-set lists.lists (min granules 512 - 1) (first ∷ members lists (min granules 512 - 1)) ∙ fit.bins;
  places = fit.places;
  begins_long = length-set begins first granules ∙ fit.begins_long;
  ends_long = length-set ends (first + granules) granules ∙ fit.ends_long;
  listed = λ k below. listed k below (cases_eq k (min granules 512 - 1));
  begins_are = λ place. begun place (cases_eq place first);
  ends_are = λ place. ended place (cases_eq place (first + granules));
  blocks_are = are-cons (block_at first granules) blocks fit.blocks_are fresh;
}
  where
    listed : (k : ℕ) → k < 512 → (k ≡ (min granules 512 - 1)) ⊎ (k ≡ (min granules 512 - 1) → ⊥) → members (with_first lists (min granules 512 - 1) first) k ≡ firsts_in k (block_at first granules ∷ blocks)
    listed k below (inl same) = subst (λ n. members (with_first lists (min granules 512 - 1) first) n ≡ firsts_in n (block_at first granules ∷ blocks)) (sym same)
        (member_here lists (min granules 512 - 1) (first ∷ members lists (min granules 512 - 1)) (omega (arith, fit.bins, same, below)) ∙ ap (λ xs. first ∷ xs) (fit.listed (min granules 512 - 1) (omega (arith, same, below))) ∙ sym (firsts-here (min granules 512 - 1) (block_at first granules) blocks refl))
    listed k below (inr differ) = member_there lists (min granules 512 - 1) k (first ∷ members lists (min granules 512 - 1)) differ ∙ fit.listed k below ∙ sym (firsts-there k (block_at first granules) blocks (λ same. differ (sym same)))

    begun : (place : ℕ) → (place ≡ first) ⊎ (place ≡ first → ⊥) → slice_index_or (set begins first granules) place 0 ≡ granules_from place (block_at first granules ∷ blocks)
    begun place (inl same) = subst (λ n. slice_index_or (set begins first granules) n 0 ≡ granules_from n (block_at first granules ∷ blocks)) (sym same)
        (get_or-set_same begins first granules 0 (omega (arith, fit.begins_long, fresh.is.inside))
        ∙ sym (ap (λ b. granules_in (cond b (Some (block_at first granules)) (find (begins_at first) blocks))) (eq-eqb first first refl)))
    begun place (inr differ) = get_or-set_other begins first place granules 0 differ ∙ fit.begins_are place
        ∙ sym (ap (λ b. granules_in (cond b (Some (block_at first granules)) (find (begins_at place) blocks))) (ne_eqb place first differ))

    ended : (place : ℕ) → (place ≡ first + granules) ⊎ (place ≡ first + granules → ⊥) → slice_index_or (set ends (first + granules) granules) place 0 ≡ granules_to place (block_at first granules ∷ blocks)
    ended place (inl same) = subst (λ n. slice_index_or (set ends (first + granules) granules) n 0 ≡ granules_to n (block_at first granules ∷ blocks)) (sym same)
        (get_or-set_same ends (first + granules) granules 0 (omega (arith, fit.ends_long, fresh.is.inside))
        ∙ sym (ap (λ b. granules_in (cond b (Some (block_at first granules)) (find (ends_at (first + granules)) blocks))) (eq-eqb (first + granules) (first + granules) refl)))
    ended place (inr differ) = get_or-set_other ends (first + granules) place granules 0 differ ∙ fit.ends_are place
        ∙ sym (ap (λ b. granules_in (cond b (Some (block_at first granules)) (find (ends_at place) blocks))) (ne_eqb (first + granules) place (λ same. differ (sym same))))

-- a block leaves its bin
pub fit_left : (lists : Lists) (begins ends : List ℕ) (blocks : List Block) (first granules : ℕ) → BinsFit lists begins ends blocks → Contains blocks (block_at first granules) →
    BinsFit (without lists (min granules 512 - 1) first) (set begins first 0) (set ends (first + granules) 0) (without_from first blocks)
fit_left lists begins ends blocks first granules fit inside = record {
  bins = length-set lists.lists (min granules 512 - 1) (list_without first (members lists (min granules 512 - 1))) ∙ fit.bins;
  places = fit.places;
  begins_long = length-set begins first 0 ∙ fit.begins_long;
  ends_long = length-set ends (first + granules) 0 ∙ fit.ends_long;
  listed = λ k below. listed k below (cases_eq k (min granules 512 - 1));
  begins_are = λ place. begun place (cases_eq place first);
  ends_are = λ place. ended place (cases_eq place (first + granules));
  blocks_are = are-left (λ block. not (begins_at first block)) blocks fit.blocks_are;
}
  where
    is : IsBlock (block_at first granules)
    is = fit.blocks_are.each (block_at first granules) inside

    -- a block that begins where the one does that leaves is this one
    same_first : (other : Block) → Contains blocks other → first ≡ other.first → block_at first granules ≡ other
    same_first other within same = one_first blocks fit.blocks_are (block_at first granules) other inside within same

    same_end : (other : Block) → Contains blocks other → first + granules ≡ other.first + other.granules → block_at first granules ≡ other
    same_end other within same = one_end blocks fit.blocks_are (block_at first granules) other inside within same

    swapped : (p : Block → Bool) (other : Block) → (p other && not (other.first == first)) ≡ (not (first == other.first) && p other)
    swapped p other = go (p other) (other.first == first) (first == other.first) (turned (cases_eq other.first first))
      where
        turned : (other.first ≡ first) ⊎ (other.first ≡ first → ⊥) → (other.first == first) ≡ (first == other.first)
        turned (inl same) = eq-eqb other.first first same ∙ sym (eq-eqb first other.first (sym same))
        turned (inr differ) = ne_eqb other.first first differ ∙ sym (ne_eqb first other.first (λ e. differ (sym e)))

        go : (a b c : Bool) → b ≡ c → (a && not b) ≡ (not c && a)
        go true true true e = refl
        go true false false e = refl
        go false true true e = refl
        go false false false e = refl
        go a true false e = absurd (true≢false e)
        go a false true e = absurd (true≢false (sym e))

    kept : (k : ℕ) → (k ≡ min granules 512 - 1 → ⊥) → (other : Block) → Contains blocks other → (not (begins_at first other) && (bin_of other == k)) ≡ (bin_of other == k)
    kept k differ other within = go (cases_eq first other.first)
      where
        two : (a b : Bool) → a ≡ false → (not a && b) ≡ b
        two false b e = refl
        two true b e = absurd (true≢false e)

        both : (a b : Bool) → b ≡ false → (not a && b) ≡ b
        both a true e = absurd (true≢false e)
        both true false e = refl
        both false false e = refl

        go : (first ≡ other.first) ⊎ (first ≡ other.first → ⊥) → (not (begins_at first other) && (bin_of other == k)) ≡ (bin_of other == k)
        go (inl same) = both (begins_at first other) (bin_of other == k) (ne_eqb (bin_of other) k (λ e. differ (sym e ∙ sym (ap bin_of (same_first other within same)))))
        go (inr apart) = two (begins_at first other) (bin_of other == k) (ne_eqb first other.first apart)

    listed : (k : ℕ) → k < 512 → (k ≡ min granules 512 - 1) ⊎ (k ≡ min granules 512 - 1 → ⊥) → members (without lists (min granules 512 - 1) first) k ≡ firsts_in k (without_from first blocks)
    listed k below (inl same) = subst (λ n. members (without lists n first) k ≡ firsts_in k (without_from first blocks)) same
        (member_here lists k (list_without first (members lists k)) (omega (arith, fit.bins, below))
        ∙ ap (list_without first) (fit.listed k below)
        ∙ filter-map (λ block. block.first) (λ other. not (other == first)) (filter (λ block. bin_of block == k) blocks)
        ∙ ap (map (λ block. block.first)) (filter-twice (λ block. not (block.first == first)) (λ block. bin_of block == k) blocks
        ∙ filter-same (λ block. (bin_of block == k) && not (block.first == first)) (λ block. not (begins_at first block) && (bin_of block == k)) blocks (λ other within. swapped (λ block. bin_of block == k) other)
        ∙ sym (filter-twice (λ block. bin_of block == k) (λ block. not (begins_at first block)) blocks)))
    listed k below (inr differ) = member_there lists (min granules 512 - 1) k (list_without first (members lists (min granules 512 - 1))) differ ∙ fit.listed k below
        ∙ ap (map (λ block. block.first)) (sym (filter-twice (λ block. bin_of block == k) (λ block. not (begins_at first block)) blocks
        ∙ filter-same (λ block. not (begins_at first block) && (bin_of block == k)) (λ block. bin_of block == k) blocks (kept k differ)))

    begun : (place : ℕ) → (place ≡ first) ⊎ (place ≡ first → ⊥) → slice_index_or (set begins first 0) place 0 ≡ granules_from place (without_from first blocks)
    begun place (inl same) = subst (λ n. slice_index_or (set begins first 0) n 0 ≡ granules_from n (without_from first blocks)) (sym same)
        (get_or-set_same begins first 0 0 (omega (arith, fit.begins_long, is.inside))
        ∙ sym (ap granules_in (find-gone (begins_at first) (λ block. not (begins_at first block)) blocks (λ other within passes. ap not passes))))
    begun place (inr differ) = get_or-set_other begins first place 0 0 differ ∙ fit.begins_are place
        ∙ sym (ap granules_in (find-left (begins_at place) (λ block. not (begins_at first block)) blocks
        (λ other within passes. ap not (ne_eqb first other.first (λ same. differ (eqb-true place other.first passes ∙ sym same))))))

    ended : (place : ℕ) → (place ≡ first + granules) ⊎ (place ≡ first + granules → ⊥) → slice_index_or (set ends (first + granules) 0) place 0 ≡ granules_to place (without_from first blocks)
    ended place (inl same) = subst (λ n. slice_index_or (set ends (first + granules) 0) n 0 ≡ granules_to n (without_from first blocks)) (sym same)
        (get_or-set_same ends (first + granules) 0 0 (omega (arith, fit.ends_long, is.inside))
        ∙ sym (ap granules_in (find-gone (ends_at (first + granules)) (λ block. not (begins_at first block)) blocks
        (λ other within passes. ap not (eq-eqb first other.first (ap (λ (block : Block). block.first) (same_end other within (sym (eqb-true (other.first + other.granules) (first + granules) passes)))))))))
    ended place (inr differ) = get_or-set_other ends (first + granules) place 0 0 differ ∙ fit.ends_are place
        ∙ sym (ap granules_in (find-left (ends_at place) (λ block. not (begins_at first block)) blocks
        (λ other within passes. ap not (ne_eqb first other.first (λ same. differ (sym (eqb-true (other.first + other.granules) place passes) ∙ ap (λ (block : Block). block.first + block.granules) (sym (same_first other within same))))))))

-- the block that an array names
pub from_found : (place granules : ℕ) (blocks : List Block) → granules_from place blocks ≡ granules → 0 < granules → Contains blocks (block_at place granules)
from_found place granules blocks is some = go (find (begins_at place) blocks) refl is
  where
    go : (o : Option Block) → find (begins_at place) blocks ≡ o → granules_in o ≡ granules → Contains blocks (block_at place granules)
    go None e g = absurd (omega (arith, g, some))
    go (Some block) e g =
        let at = find-Some (begins_at place) blocks block e in
        let here : block ≡ block_at place granules = ap (λ n. block_at n block.granules) (sym (eqb-true place block.first at.1)) ∙ ap (λ n. block_at place n) g in
        subst (Contains blocks) here at.0

pub to_found : (place granules : ℕ) (blocks : List Block) → granules_to place blocks ≡ granules → 0 < granules → (granules ≤ place) × Contains blocks (block_at (place - granules) granules)
to_found place granules blocks is some = go (find (ends_at place) blocks) refl is
  where
    go : (o : Option Block) → find (ends_at place) blocks ≡ o → granules_in o ≡ granules → (granules ≤ place) × Contains blocks (block_at (place - granules) granules)
    go None e g = absurd (omega (arith, g, some))
    go (Some block) e g =
        let at = find-Some (ends_at place) blocks block e in
        let ends : block.first + block.granules ≡ place = eqb-true (block.first + block.granules) place at.1 in
        let first : block.first ≡ place - granules = omega (arith, ends, g) in
        let here : block ≡ block_at (place - granules) granules = ap (λ n. block_at n block.granules) first ∙ ap (λ n. block_at (place - granules) n) g in
        (omega (arith, ends, g), subst (Contains blocks) here at.0)

-- a block that ends somewhere is the only one there, and the only one that begins where it does
pub without_one : (blocks : List Block) (block : Block) → AreBlocks blocks → Contains blocks block → without_from block.first blocks ≡ without_to (block.first + block.granules) blocks
without_one blocks block are inside = filter-same (λ other. not (begins_at block.first other)) (λ other. not (ends_at (block.first + block.granules) other)) blocks
    (λ other within. ap not (go other within (cases_eq block.first other.first)))
  where
    go : (other : Block) → Contains blocks other → (block.first ≡ other.first) ⊎ (block.first ≡ other.first → ⊥) → begins_at block.first other ≡ ends_at (block.first + block.granules) other
    go other within (inl same) = eq-eqb block.first other.first same ∙ sym (eq-eqb (other.first + other.granules) (block.first + block.granules) (ap (λ (b : Block). b.first + b.granules) (sym (one_first blocks are block other inside within same))))
    go other within (inr differ) = ne_eqb block.first other.first differ ∙ sym (ne_eqb (other.first + other.granules) (block.first + block.granules) (λ same. differ (ap (λ (b : Block). b.first) (one_end blocks are block other inside within (sym same)))))

-- where no block begins or ends none is left out
pub none_from : (place : ℕ) (blocks : List Block) → AreBlocks blocks → granules_from place blocks ≡ 0 → without_from place blocks ≡ blocks
none_from place blocks are is = go (find (begins_at place) blocks) refl is
  where
    go : (o : Option Block) → find (begins_at place) blocks ≡ o → granules_in o ≡ 0 → without_from place blocks ≡ blocks
    go None e g = filter-each (λ block. not (begins_at place block)) blocks (λ block inside. ap not (find-None (begins_at place) blocks e block inside))
    go (Some block) e g = absurd (omega (arith, g, (are.each block (find-Some (begins_at place) blocks block e).0).some))

pub none_to : (place : ℕ) (blocks : List Block) → AreBlocks blocks → granules_to place blocks ≡ 0 → without_to place blocks ≡ blocks
none_to place blocks are is = go (find (ends_at place) blocks) refl is
  where
    go : (o : Option Block) → find (ends_at place) blocks ≡ o → granules_in o ≡ 0 → without_to place blocks ≡ blocks
    go None e g = filter-each (λ block. not (ends_at place block)) blocks (λ block inside. ap not (find-None (ends_at place) blocks e block inside))
    go (Some block) e g = absurd (omega (arith, g, (are.each block (find-Some (ends_at place) blocks block e).0).some))

-- a block that is in no bin's list
pub entered_is_free : (lists : Lists) (begins ends : List ℕ) (blocks : List Block) (block : Block) → BinsFit lists begins ends blocks → IsNew blocks block → times_listed block.first lists.lists ≡ 0
entered_is_free lists begins ends blocks block fit fresh = go (cases_lt 0 (times_listed block.first lists.lists))
  where
    clash : (other : Block) → Contains blocks other → other.first ≡ block.first → IsApart other block → ⊥
    clash other inside same (inl before) = omega (arith, same, before, (fit.blocks_are.each other inside).some)
    clash other inside same (inr behind) = omega (arith, same, behind, fresh.is.some)

    go : (0 < times_listed block.first lists.lists) ⊎ (times_listed block.first lists.lists ≤ 0) → times_listed block.first lists.lists ≡ 0
    go (inr none) = omega (arith, none)
    go (inl some) =
        let (bin, inside) = in_one lists block.first some in
        let below : bin < 512 = let l = list_of lists bin block.first inside in omega (arith, l, fit.bins) in
        let (other, within, same) = times_map block.first (λ (b : Block). b.first) (filter (λ b. bin_of b == bin) blocks) (subst (λ xs. 0 < times block.first xs) (fit.listed bin below) inside) in
        absurd (clash other (Contains-filter (λ b. bin_of b == bin) blocks other within).0 same (fresh.apart other (Contains-filter (λ b. bin_of b == bin) blocks other within).0))

-- a block is in its bin's list
pub left_is_in : (lists : Lists) (begins ends : List ℕ) (blocks : List Block) (block : Block) → BinsFit lists begins ends blocks → Contains blocks block → 0 < times block.first (members lists (bin_of block))
left_is_in lists begins ends blocks block fit inside =
    subst (λ xs. 0 < times block.first xs) (sym (fit.listed (bin_of block) (omega arith)))
    (times_made (λ (b : Block). b.first) (filter (λ b. bin_of b == bin_of block) blocks) block (Contains-filter_from (λ b. bin_of b == bin_of block) blocks block inside (eq-eqb (bin_of block) (bin_of block) refl)))

-- what a put makes of the blocks
pub behind_is : (index : ℕ) (blocks : List Block) → AreBlocks blocks → granules_from (index + 2) (without_to index blocks) ≡ granules_from (index + 2) blocks
behind_is index blocks are = ap granules_in (find-left (begins_at (index + 2)) (λ block. not (ends_at index block)) blocks
    (λ block inside passes. ap not (ne_eqb (block.first + block.granules) index (λ same. absurd (let f = eqb-true (index + 2) block.first passes in omega (arith, f, same))))))

pub put_is : (index : ℕ) (blocks : List Block) → AreBlocks blocks →
    block_at (index - granules_to index blocks) (granules_to index blocks + (2 + granules_from (index + 2) (without_to index blocks))) ∷ without_from (index + 2) (without_to index blocks) ≡ after_put (slab_block index) blocks
put_is index blocks are =
    ap (λ n. block_at (index - granules_to index blocks) (granules_to index blocks + (2 + n)) ∷ without_from (index + 2) (without_to index blocks)) (behind_is index blocks are)
    ∙ ap (λ n. block_at n (granules_to index blocks + (2 + granules_from (index + 2) blocks)) ∷ without_from (index + 2) (without_to index blocks)) (first_is (find (ends_at index) blocks) refl)
    ∙ ap (λ bs. joined (slab_block index) blocks ∷ bs) (filter-twice (λ block. not (begins_at (index + 2) block)) (λ block. not (ends_at index block)) blocks
    ∙ filter-same (λ block. not (ends_at index block) && not (begins_at (index + 2) block)) (λ block. not (touches (slab_block index) block)) blocks (λ block inside. both (ends_at index block) (begins_at (index + 2) block)))
  where
    both : (a b : Bool) → (not a && not b) ≡ not (b || a)
    both true true = refl
    both true false = refl
    both false true = refl
    both false false = refl

    first_is : (o : Option Block) → find (ends_at index) blocks ≡ o → index - granules_in o ≡ joined_first (slab_block index) o
    first_is None e = omega arith
    first_is (Some block) e = let ends = eqb-true (block.first + block.granules) index (find-Some (ends_at index) blocks block e).1 in omega (arith, ends)

-- the joined block is a new one
pub put_is_new : (index : ℕ) (blocks : List Block) → AreBlocks blocks → IsClear index blocks →
    IsNew (without_from (index + 2) (without_to index blocks)) (block_at (index - granules_to index blocks) (granules_to index blocks + (2 + granules_from (index + 2) (without_to index blocks))))
put_is_new index blocks are clear = subst (λ n. IsNew (without_from (index + 2) (without_to index blocks)) (block_at (index - granules_to index blocks) (granules_to index blocks + (2 + n)))) (sym (behind_is index blocks are))
    (record {
      is = is (find (ends_at index) blocks) (find (begins_at (index + 2)) blocks) refl refl;
      apart = λ other inside.
          let at = Contains-filter (λ block. not (begins_at (index + 2) block)) (without_to index blocks) other inside in
          let to = Contains-filter (λ block. not (ends_at index block)) blocks other at.0 in
          apart other to.0 to.1 at.1 (find (ends_at index) blocks) (find (begins_at (index + 2)) blocks) refl refl;
    })
  where
    even_sum : (a b : ℕ) → a % 2 ≡ 0 → b % 2 ≡ 0 → (a + b) % 2 ≡ 0
    even_sum a b ea eb = omega (arith, ea, eb)

    is : (before behind : Option Block) → find (ends_at index) blocks ≡ before → find (begins_at (index + 2)) blocks ≡ behind → IsBlock (block_at (index - granules_in before) (granules_in before + (2 + granules_in behind)))
    is None None e f = record { even = omega (arith, clear.even); pairs = refl; some = omega arith; inside = omega (arith, clear.inside) }
    is (Some one) None e f =
        let at = find-Some (ends_at index) blocks one e in
        let good = are.each one at.0 in
        let ends = eqb-true (one.first + one.granules) index at.1 in
        record { even = omega (arith, good.even, ends); pairs = omega (arith, good.pairs); some = omega arith; inside = omega (arith, ends, clear.inside) }
    is None (Some two) e f =
        let at = find-Some (begins_at (index + 2)) blocks two f in
        let good = are.each two at.0 in
        let begins = eqb-true (index + 2) two.first at.1 in
        record { even = omega (arith, clear.even); pairs = omega (arith, good.pairs); some = omega arith; inside = omega (arith, begins, good.inside) }
    is (Some one) (Some two) e f =
        let at1 = find-Some (ends_at index) blocks one e in
        let good1 = are.each one at1.0 in
        let ends = eqb-true (one.first + one.granules) index at1.1 in
        let at2 = find-Some (begins_at (index + 2)) blocks two f in
        let good2 = are.each two at2.0 in
        let begins = eqb-true (index + 2) two.first at2.1 in
        record { even = omega (arith, good1.even, ends); pairs = omega (arith, good1.pairs, good2.pairs); some = omega arith; inside = omega (arith, ends, begins, good2.inside) }

    -- another block lies before the neighbour before, or behind the slab
    left_of : (other : Block) → Contains blocks other → not (ends_at index other) ≡ true → (before : Option Block) → find (ends_at index) blocks ≡ before → other.first + other.granules ≤ index → other.first + other.granules ≤ index - granules_in before
    left_of other inside left None e below = omega (arith, below)
    left_of other inside left (Some one) e below =
        let at = find-Some (ends_at index) blocks one e in
        let ends = eqb-true (one.first + one.granules) index at.1 in
        elim (are.apart one other at.0 inside) [
          | inl same ↦ absurd (true≢false (sym left ∙ ap not (subst (λ b. ends_at index b ≡ true) same at.1)))
          | inr (inl before) ↦ absurd (omega (arith, ends, before, below, (are.each other inside).some))
          | inr (inr behind) ↦ omega (arith, ends, behind)
        ]

    right_of : (other : Block) → Contains blocks other → not (begins_at (index + 2) other) ≡ true → (behind : Option Block) → find (begins_at (index + 2)) blocks ≡ behind → index + 2 ≤ other.first → index + (2 + granules_in behind) ≤ other.first
    right_of other inside left None e above = omega (arith, above)
    right_of other inside left (Some two) e above =
        let at = find-Some (begins_at (index + 2)) blocks two e in
        let begins = eqb-true (index + 2) two.first at.1 in
        elim (are.apart two other at.0 inside) [
          | inl same ↦ absurd (true≢false (sym left ∙ ap not (subst (λ b. begins_at (index + 2) b ≡ true) same at.1)))
          | inr (inl before) ↦ omega (arith, begins, before)
          | inr (inr behind) ↦ absurd (omega (arith, begins, behind, above, (are.each other inside).some))
        ]

    begins_before : (before : Option Block) → find (ends_at index) blocks ≡ before → granules_in before ≤ index
    begins_before None e = omega arith
    begins_before (Some one) e = let ends = eqb-true (one.first + one.granules) index (find-Some (ends_at index) blocks one e).1 in omega (arith, ends)

    apart : (other : Block) → Contains blocks other → not (ends_at index other) ≡ true → not (begins_at (index + 2) other) ≡ true → (before behind : Option Block) → find (ends_at index) blocks ≡ before → find (begins_at (index + 2)) blocks ≡ behind
        → IsApart other (block_at (index - granules_in before) (granules_in before + (2 + granules_in behind)))
    apart other inside left1 left2 before behind e f = elim (clear.apart other inside) [
      | inl below ↦ inl (left_of other inside left1 before e below)
      | inr above ↦ inr (let r = right_of other inside left2 behind f above in let b = begins_before before e in omega (arith, r, b))
    ]

-- how large the joined block is
pub put_fits : (index : ℕ) (blocks : List Block) → AreBlocks blocks → IsClear index blocks →
    (granules_to index blocks ≤ index) × (index + 2 + granules_from (index + 2) (without_to index blocks) ≤ 128)
put_fits index blocks are clear =
    let fresh = put_is_new index blocks are clear in
    let inside = fresh.is.inside in
    let begins = begins_before (find (ends_at index) blocks) refl in (begins, omega (arith, inside, begins))
  where
    begins_before : (before : Option Block) → find (ends_at index) blocks ≡ before → granules_in before ≤ index
    begins_before None e = omega arith
    begins_before (Some one) e = let ends = eqb-true (one.first + one.granules) index (find-Some (ends_at index) blocks one e).1 in omega (arith, ends)

-- each block is found where a slab is looked for
pub each_fits : (block : Block) → IsBlock block → fits block ≡ true
each_fits block is = let e : even_from block.first ≡ block.first = omega (arith, is.even) in grind (arith, nat_tests, is.even, is.pairs, is.some)

-- the first of a bin's list is the first block of the bin that fits
pub first_in_bin : (blocks : List Block) (bin : ℕ) → AreBlocks blocks → first_of (firsts_in bin blocks) ≡ first_granule (find (λ block. (bin_of block == bin) && fits block) blocks)
first_in_bin [] bin are = refl
first_in_bin (block ∷ blocks) bin are = go (bin_of block == bin) (fits block) (each_fits block (are.each block (Contains-first block blocks)))
    (first_in_bin blocks bin (record {
      each = λ other inside. are.each other (Contains-other block blocks other inside);
      apart = λ one other in_one in_other. are.apart one other (Contains-other block blocks one in_one) (Contains-other block blocks other in_other);
    }))
  where
    go : (a b : Bool) → b ≡ true → first_of (firsts_in bin blocks) ≡ first_granule (find (λ other. (bin_of other == bin) && fits other) blocks) →
        first_of (map (λ other. other.first) (cond a (block ∷ filter (λ other. bin_of other == bin) blocks) (filter (λ other. bin_of other == bin) blocks)))
        ≡ first_granule (cond (a && b) (Some block) (find (λ other. (bin_of other == bin) && fits other) blocks))
    go true true e rest = refl
    go false b e rest = rest
    go true false e rest = absurd (true≢false (sym e))

-- a scan that finds a block in this bin, and one that finds none
pub scan_here : (more bin : ℕ) (blocks : List Block) (block : Block) → find (λ other. (bin_of other == bin) && fits other) blocks ≡ Some block → fit_from (suc more) bin blocks ≡ Some block
unfolding fit_from
scan_here more bin blocks block e = rw e refl

pub scan_later : (more bin : ℕ) (blocks : List Block) → find (λ other. (bin_of other == bin) && fits other) blocks ≡ None → fit_from (suc more) bin blocks ≡ fit_from more (bin + 1) blocks
unfolding fit_from
scan_later more bin blocks e = rw e refl

pub scan_ends : (bin : ℕ) (blocks : List Block) → fit_from 0 bin blocks ≡ None
unfolding fit_from
scan_ends bin blocks = refl

-- the scan so far found none, and the list of this bin is empty or not
pub scan_found : (blocks : List Block) (bin first : ℕ) → AreBlocks blocks → bin < 512 → Some first ≡ first_of (firsts_in bin blocks) → Some first ≡ first_granule (fit_from (512 - bin) bin blocks)
scan_found blocks bin first are below is = go (find (λ other. (bin_of other == bin) && fits other) blocks) refl (is ∙ first_in_bin blocks bin are)
  where
    go : (o : Option Block) → find (λ other. (bin_of other == bin) && fits other) blocks ≡ o → Some first ≡ first_granule o → Some first ≡ first_granule (fit_from (512 - bin) bin blocks)
    go None e f = absurd (let no = f in cc)
    go (Some block) e f = let n : 512 - bin ≡ suc (511 - bin) = omega (arith, below) in f ∙ sym (ap first_granule (ap (λ m. fit_from m bin blocks) n ∙ scan_here (511 - bin) bin blocks block e))

pub scan_goes_on : (blocks : List Block) (bin : ℕ) → AreBlocks blocks → bin < 512 → None ≡ first_of (firsts_in bin blocks) → fit_from (512 - bin) bin blocks ≡ fit_from (512 - (bin + 1)) (bin + 1) blocks
scan_goes_on blocks bin are below is = go (find (λ other. (bin_of other == bin) && fits other) blocks) refl (is ∙ first_in_bin blocks bin are)
  where
    go : (o : Option Block) → find (λ other. (bin_of other == bin) && fits other) blocks ≡ o → None ≡ first_granule o → fit_from (512 - bin) bin blocks ≡ fit_from (512 - (bin + 1)) (bin + 1) blocks
    go (Some block) e f = absurd (let no = f in cc)
    go None e f = let n : 512 - bin ≡ suc (511 - bin) = omega (arith, below) in let m : 511 - bin ≡ 512 - (bin + 1) = omega arith in
        ap (λ k. fit_from k bin blocks) n ∙ scan_later (511 - bin) bin blocks e ∙ ap (λ k. fit_from k (bin + 1) blocks) m

-- what a scan takes is one of the blocks
pub fit_is_block : (more bin : ℕ) (blocks : List Block) (block : Block) → fit_from more bin blocks ≡ Some block → Contains blocks block
unfolding fit_from
fit_is_block zero bin blocks block e = absurd (let no = e in cc)
fit_is_block (suc more) bin blocks block e = go (find (λ other. (bin_of other == bin) && fits other) blocks) refl (λ later. fit_is_block more (bin + 1) blocks block later)
  where
    go : (o : Option Block) → find (λ other. (bin_of other == bin) && fits other) blocks ≡ o → (fit_from more (bin + 1) blocks ≡ Some block → Contains blocks block) → Contains blocks block
    go None f step = step (sym (scan_later more bin blocks f) ∙ e)
    go (Some other) f step = let same : other ≡ block = let s : Some other ≡ Some block = sym (scan_here more bin blocks other f) ∙ e in cc in
        subst (Contains blocks) same (find-Some (λ b. (bin_of b == bin) && fits b) blocks other f).0

-- the granules from where a block begins are its own
pub own_granules : (blocks : List Block) (block : Block) → AreBlocks blocks → Contains blocks block → granules_from block.first blocks ≡ block.granules
own_granules blocks block are inside = go (find (begins_at block.first) blocks) refl
  where
    go : (o : Option Block) → find (begins_at block.first) blocks ≡ o → granules_in (find (begins_at block.first) blocks) ≡ block.granules
    go None e = absurd (true≢false (sym (eq-eqb block.first block.first refl) ∙ find-None (begins_at block.first) blocks e block inside))
    go (Some other) e = let at = find-Some (begins_at block.first) blocks other e in
        ap granules_in e ∙ ap (λ (b : Block). b.granules) (sym (one_first blocks are block other inside at.0 (eqb-true block.first other.first at.1)))

-- what is left of a block of which a slab was cut is a new one
pub rest_is_new : (blocks : List Block) (block : Block) → AreBlocks blocks → Contains blocks block → 0 < block.granules - 2 → IsNew (without_from block.first blocks) (block_at (block.first + 2) (block.granules - 2))
rest_is_new blocks block are inside some = record {
  is = record { even = omega (arith, good.even); pairs = omega (arith, good.pairs); some = some; inside = omega (arith, good.inside, some) };
  apart = λ other within. let at = Contains-filter (λ b. not (begins_at block.first b)) blocks other within in elim (are.apart block other inside at.0) [
    | inl same ↦ absurd (true≢false (sym at.1 ∙ ap not (eq-eqb block.first other.first (ap (λ (b : Block). b.first) same))))
    | inr (inl before) ↦ inr (omega (arith, before, some))
    | inr (inr behind) ↦ inl (omega (arith, behind))
  ];
}
  where
    good : IsBlock block
    good = are.each block inside

-- the blocks after a slab was cut out
pub cut_is : (blocks : List Block) (block : Block) → IsBlock block → some_block (block.first + 2) (block.granules - 2) ++ without_from block.first blocks ≡ after_cut block blocks
cut_is blocks block is =
    let even : even_from block.first ≡ block.first = omega (arith, is.even) in
    let all : block.first + block.granules - (even_from block.first + 2) ≡ block.granules - 2 = omega (arith, is.even) in
    let none : even_from block.first - block.first ≡ 0 = omega (arith, is.even) in
    sym (ap (λ bs. bs ++ without_from block.first blocks)
    (ap (λ n. some_block (even_from block.first + 2) (block.first + block.granules - (even_from block.first + 2)) ++ some_block block.first n) none
    ∙ append-nil (some_block (even_from block.first + 2) (block.first + block.granules - (even_from block.first + 2)))
    ∙ ap (λ n. some_block (even_from block.first + 2) n) all ∙ ap (λ n. some_block (n + 2) (block.granules - 2)) even))
  where
    append-nil : (xs : List Block) → xs ++ [] ≡ xs
    append-nil [] = refl
    append-nil (x ∷ xs) = ap (λ ys. x ∷ ys) (append-nil xs)

-- what a cut begins with
pub record Cut (blocks : List Block) (first : ℕ) : Type 0 where
  pub block : Block
  pub taken : first_fit blocks ≡ Some block
  pub begins : first ≡ block.first
  pub inside : Contains blocks block
  pub good : IsBlock block
  pub below : first + 2 ≤ 128
  pub most : 2 ≤ granules_from first blocks

pub cut_at : (blocks : List Block) (first : ℕ) → AreBlocks blocks → Some first ≡ first_granule (first_fit blocks) → Cut blocks first
cut_at blocks first are is = go (first_fit blocks) refl is
  where
    go : (o : Option Block) → first_fit blocks ≡ o → Some first ≡ first_granule o → Cut blocks first
    go None e f = absurd (let no = f in cc)
    go (Some block) e f =
        let same : first ≡ block.first = cc in
        let inside = fit_is_block 511 1 blocks block e in
        let good = are.each block inside in
        let own = own_granules blocks block are inside in
        record {
          block = block;
          taken = e;
          begins = same;
          inside = inside;
          good = good;
          below = omega (arith, same, good.some, good.pairs, good.inside);
          most = subst (λ n. 2 ≤ granules_from n blocks) (sym same) (omega (arith, own, good.some, good.pairs));
        }

pub cut_rest : (blocks : List Block) (first granules : ℕ) → AreBlocks blocks → Some first ≡ first_granule (first_fit blocks) → granules ≡ granules_from first blocks → 0 < granules - 2 → IsNew (without_from first blocks) (block_at (first + 2) (granules - 2))
cut_rest blocks first granules are is own some =
    let at = cut_at blocks first are is in
    let g : granules ≡ at.block.granules = own ∙ ap (λ n. granules_from n blocks) at.begins ∙ own_granules blocks at.block are at.inside in
    subst (λ n. IsNew (without_from n blocks) (block_at (n + 2) (granules - 2))) (sym at.begins)
    (subst (λ n. IsNew (without_from at.block.first blocks) (block_at (at.block.first + 2) (n - 2))) (sym g) (rest_is_new blocks at.block are at.inside (omega (arith, some, g))))

pub cut_done : (bins : Bins) (blocks : List Block) (first granules : ℕ) → AreBlocks blocks → Some first ≡ first_granule (first_fit blocks) → granules ≡ granules_from first blocks →
    AreBins bins (some_block (first + 2) (granules - 2) ++ without_from first blocks) → IsCut bins blocks (first_fit blocks) (Some first)
cut_done bins blocks first granules are is own fit =
    let at = cut_at blocks first are is in
    let g : granules ≡ at.block.granules = own ∙ ap (λ n. granules_from n blocks) at.begins ∙ own_granules blocks at.block are at.inside in
    subst (λ o. IsCut bins blocks o (Some first)) (sym at.taken) (
      ap Some at.begins,
      subst (AreBins bins)
          (ap (λ n. some_block (n + 2) (granules - 2) ++ without_from n blocks) at.begins ∙ ap (λ n. some_block (at.block.first + 2) (n - 2) ++ without_from at.block.first blocks) g ∙ cut_is blocks at.block at.good) fit,
    )

-- the arrays of no block
pub fit_empty : (count places : ℕ) (lists : Lists) (begins ends : List ℕ) → count ≡ 512 → places ≡ 129 → lists ≡ empty_lists count places → begins ≡ replicate {A = ℕ} places 0 → ends ≡ replicate {A = ℕ} places 0 → BinsFit lists begins ends []
fit_empty count places lists begins ends e f is b d = record {
  bins = ap (λ (all : Lists). length all.lists) is ∙ length-replicate {A = List ℕ} count [] ∙ e;
  places = ap (λ (all : Lists). all.indices) is ∙ f;
  begins_long = ap length b ∙ length-replicate {A = ℕ} places 0 ∙ f;
  ends_long = ap length d ∙ length-replicate {A = ℕ} places 0 ∙ f;
  listed = λ k below. ap (λ (all : Lists). members all k) is ∙ get_or-replicate count k [] [] (omega (arith, below, e));
  begins_are = λ place. ap (λ xs. slice_index_or xs place 0) b ∙ zeros places place 0 (cases_lt place places);
  ends_are = λ place. ap (λ xs. slice_index_or xs place 0) d ∙ zeros places place 0 (cases_lt place places);
  blocks_are = record { each = λ block inside. absurd (Contains-none block inside); apart = λ one other inside _. absurd (Contains-none one inside) };
}
  where
    zeros : (n k z : ℕ) → (k < n) ⊎ (n ≤ k) → slice_index_or (replicate n z) k z ≡ z
    zeros n k z (inl below) = get_or-replicate n k z z below
    zeros n k z (inr above) = get_or_past (replicate n z) k z (let l = length-replicate n z in omega (arith, l, above))
