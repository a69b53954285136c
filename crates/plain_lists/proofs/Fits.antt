-- Which block a scan for a slab takes.
use Prim.Native.Nat.{zero, suc}
use Rattle.std.proofs.Common.{◌≡◌, ℕ, ◌+◌, ◌<◌, ◌≤◌, Bool, true, false, ◌==◌, ◌&&◌, inl, inr, List, [], ◌∷◌, Some, None, refl, sym, ap, ◌∙◌, subst, arith}
use Rattle.std.specs.Prelude.{Contains, find}
use Rattle.std.specs.declared.option.Option.{Option}
use Rattle.std.proofs.lemmas.Bool.{and_parts, and_cases, eqb-true, eq-eqb, le-leb, true≢false, cases_eq}
use Rattle.plain_lists.specs.Lists.{Block}
use Rattle.plain_lists.specs.Backend.{bin_of, even_from, fits, fit_from, first_fit}
use Rattle.plain_lists.specs.Good.{IsGoodBlock}
use Rattle.list_laws.proofs.Members.{Contains-first}
use Rattle.list_laws.proofs.Finds.{find-Some, find-None}
use Rattle.plain_lists.proofs.Blocks.{two_at_least}

-- the block is in the bin, and a slab fits
abbrev pub fits_in : ℕ → Block → Bool
fits_in bin block = (bin_of block == bin) && fits block

-- a bin that has a block which fits, and one that has none
pub fit_from-found : (more bin : ℕ) (blocks : List Block) (block : Block) → find (fits_in bin) blocks ≡ Some block → fit_from (suc more) bin blocks ≡ Some block
unfolding fit_from
fit_from-found more bin blocks block found = rw found refl

pub fit_from-later : (more bin : ℕ) (blocks : List Block) → find (fits_in bin) blocks ≡ None → fit_from (suc more) bin blocks ≡ fit_from more (bin + 1) blocks
unfolding fit_from
fit_from-later more bin blocks none = rw none refl

pub fit_from-none : (bin : ℕ) (blocks : List Block) → fit_from 0 bin blocks ≡ None
unfolding fit_from
fit_from-none bin blocks = refl

-- The block that was found is one of the list, a slab fits into it, and no block of a bin before its own fits.
pub record IsFit (bins bin : ℕ) (blocks : List Block) (block : Block) : Type 0 where
  pub inside : Contains blocks block
  pub fits_it : fits block ≡ true
  pub from : bin ≤ bin_of block
  pub below : bin_of block < bin + bins
  pub before : (other : Block) → Contains blocks other → bin ≤ bin_of other → bin_of other < bin_of block → fits other ≡ false
  pub newest : find (fits_in (bin_of block)) blocks ≡ Some block

-- no block of a bin fits
pub none_fits : (bin : ℕ) (blocks : List Block) → find (fits_in bin) blocks ≡ None → (other : Block) → Contains blocks other → bin_of other ≡ bin → fits other ≡ false
none_fits bin blocks none other inside same =
    elim (and_cases (bin_of other == bin) (fits other) (find-None (fits_in bin) blocks none other inside)) [
      | inl apart ↦ absurd (true≢false (sym (eq-eqb (bin_of other) bin same) ∙ apart))
      | inr little ↦ little
    ]

pub fit_from-Some : (bins bin : ℕ) (blocks : List Block) (block : Block) → fit_from bins bin blocks ≡ Some block → IsFit bins bin blocks block
fit_from-Some zero bin blocks block found = absurd (let none : None ≡ Some block = sym (fit_from-none bin blocks) ∙ found in cc)
fit_from-Some (suc bins) bin blocks block found = go (find (fits_in bin) blocks) refl (λ later. fit_from-Some bins (bin + 1) blocks block later)
  where
    go : (first : Option Block) → find (fits_in bin) blocks ≡ first → (fit_from bins (bin + 1) blocks ≡ Some block → IsFit bins (bin + 1) blocks block) → IsFit (suc bins) bin blocks block
    go None none rest =
        let later : IsFit bins (bin + 1) blocks block = rest (sym (fit_from-later bins bin blocks none) ∙ found) in
        record {
          inside = later.inside;
          fits_it = later.fits_it;
          from = let from = later.from in omega (arith, from);
          below = let below = later.below in omega (arith, below);
          before = λ other inside from below. elim (cases_eq (bin_of other) bin) [
            | inl same ↦ none_fits bin blocks none other inside same
            | inr apart ↦ later.before other inside (omega (arith, from, apart)) below
          ];
          newest = later.newest;
        }
    go (Some first) is rest =
        let both : Some first ≡ Some block = sym (fit_from-found bins bin blocks first is) ∙ found in
        let same : first ≡ block = cc in
        let here = find-Some (fits_in bin) blocks first is in
        let parts = and_parts (bin_of first == bin) (fits first) here.1 in
        let of_bin : bin_of block ≡ bin = ap bin_of (sym same) ∙ eqb-true (bin_of first) bin parts.0 in
        record {
          inside = subst (Contains blocks) same here.0;
          fits_it = ap fits (sym same) ∙ parts.1;
          from = omega (arith, of_bin);
          below = omega (arith, of_bin);
          before = λ other inside from below. absurd (omega (arith, from, below, of_bin));
          newest = ap (λ b. find (fits_in b) blocks) of_bin ∙ is ∙ ap Some same;
        }

-- where none was found no block of those bins fits
pub fit_from-None : (bins bin : ℕ) (blocks : List Block) → fit_from bins bin blocks ≡ None → (block : Block) → Contains blocks block → bin ≤ bin_of block → bin_of block < bin + bins → fits block ≡ false
fit_from-None zero bin blocks none block inside from below = absurd (omega (arith, from, below))
fit_from-None (suc bins) bin blocks none block inside from below = go (find (fits_in bin) blocks) refl (λ later above. fit_from-None bins (bin + 1) blocks later block inside above (omega (arith, below)))
  where
    go : (first : Option Block) → find (fits_in bin) blocks ≡ first → (fit_from bins (bin + 1) blocks ≡ None → bin + 1 ≤ bin_of block → fits block ≡ false) → fits block ≡ false
    go (Some first) is rest = absurd (let both : Some first ≡ None = sym (fit_from-found bins bin blocks first is) ∙ none in cc)
    go None is rest = elim (cases_eq (bin_of block) bin) [
      | inl same ↦ none_fits bin blocks is block inside same
      | inr apart ↦ rest (sym (fit_from-later bins bin blocks is) ∙ none) (omega (arith, from, apart))
    ]

-- the block that a scan takes
pub first_fit-Some : (blocks : List Block) (block : Block) → first_fit blocks ≡ Some block → IsFit 511 1 blocks block
first_fit-Some blocks block found = fit_from-Some 511 1 blocks block found

-- a slab fits into each good block
pub good_fits : (block : Block) → IsGoodBlock block → fits block ≡ true
good_fits block good = let two = two_at_least block good in let even = good.even in le-leb (even_from block.first + 2) (block.first + block.granules) (omega (arith, two, even))

-- a scan of good blocks that finds none had none to look at
pub first_fit-None : (blocks : List Block) → ((block : Block) → Contains blocks block → IsGoodBlock block) → first_fit blocks ≡ None → blocks ≡ []
first_fit-None [] good none = refl
first_fit-None (block ∷ blocks) good none =
    let inside = Contains-first block blocks in
    let two = two_at_least block (good block inside) in
    absurd (true≢false (sym (good_fits block (good block inside)) ∙ fit_from-None 511 1 (block ∷ blocks) none block inside (omega (arith, two)) (omega (arith, two))))

-- the slab that is cut out of a good block begins where the block does
pub even_from-good : (block : Block) → IsGoodBlock block → even_from block.first ≡ block.first
even_from-good block good = let even = good.even in omega (arith, even)
