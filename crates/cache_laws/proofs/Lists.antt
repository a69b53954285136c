-- Lists of blocks: what is behind one, the last of them, and where a list is cut.
use Rattle.std.proofs.Common.{◌≡◌, ℕ, zero, suc, ◌+◌, ◌^◌, ◌<◌, ◌≤◌, Option, Some, None, List, [], ◌∷◌, ◌++◌}
use Rattle.std.proofs.Common.{length, refl, sym, ap, arith, ◌∙◌}
use Rattle.std.specs.Prelude.{take}
use Rattle.pool_words.specs.declared.words.Key.{Key}
use Rattle.word_codes.specs.Links.{link_of}
use Rattle.word_codes.proofs.CallerLemmas.{links_read_back}
use Rattle.word_laws.specs.Memory.{put}
use Rattle.word_laws.proofs.CallerLemmas.{put-same, put-other}
use Rattle.chain_laws.specs.Chains.{tally}
use Rattle.chain_laws.proofs.CallerLemmas.{tally-here, tally-first, tally-rest}
use Rattle.cache_laws.specs.Good.{BinFits}
use Rattle.cache_laws.specs.Bins.{Item, Bin, blocks_of, ages_of, word_of, last_block, Lists}

pub tally-blocks : (x : ℕ) (xs ys : List Item)
    → tally x (blocks_of (xs ++ ys)) ≡ tally x (blocks_of xs) + tally x (blocks_of ys)
tally-blocks x [] ys = omega arith
tally-blocks x (z ∷ xs) ys = let rest = tally-blocks x xs ys in omega arith

pub take-within : (n : ℕ) (xs : List Item) (x : ℕ) → tally x (blocks_of (take n xs)) ≤ tally x (blocks_of xs)
take-within zero xs x = omega arith
take-within (suc n) [] x = omega arith
take-within (suc n) (y ∷ ys) x = let rest = take-within n ys x in omega arith

pub take-ages : (n : ℕ) (xs : List Item) → ages_of (take n xs) ≡ take n (ages_of xs)
take-ages zero xs = refl
take-ages (suc n) [] = refl
take-ages (suc n) (y ∷ ys) = ap (λ l. y.age ∷ l) (take-ages n ys)

pub length-ages : (xs : List Item) → length (ages_of xs) ≡ length xs
length-ages [] = refl
length-ages (x ∷ xs) = let rest = length-ages xs in omega arith

-- what a block's words say
pub lists-at : (links ages : ℕ → ℕ) (front : List Item) (item : Item) (back : List Item)
    → Lists links ages (front ++ (item ∷ back)) → (links item.block ≡ word_of back) × (ages item.block ≡ item.age)
lists-at links ages [] item back lists = (lists.0, lists.1)
lists-at links ages (x ∷ front) item back lists = lists-at links ages front item back lists.2

-- a list that is cut behind a block
pub word-front : (front : List Item) (z : Item) (rest : List Item)
    → word_of (front ++ (z ∷ rest)) ≡ word_of (front ++ (z ∷ []))
word-front [] z rest = refl
word-front (x ∷ front) z rest = refl

pub lists-cut : (links ages : ℕ → ℕ) (front : List Item) (z : Item) (rest : List Item)
    → tally z.block (blocks_of front) ≡ 0 → Lists links ages (front ++ (z ∷ rest))
    → Lists (put links z.block 0) ages (front ++ (z ∷ []))
lists-cut links ages [] z rest none lists = (put-same links z.block 0, lists.1, tt)
lists-cut links ages (x ∷ front) z rest none lists = (
  put-other links z.block 0 x.block (λ e. tally-first z.block x.block (blocks_of front) none (sym e))
      ∙ lists.0 ∙ word-front front z rest,
  lists.1,
  lists-cut links ages front z rest (tally-rest z.block x.block (blocks_of front) none) lists.2,
)

-- the last of some blocks
pub last-end : (before : Option ℕ) (front : List Item) (z : Item)
    → last_block before (front ++ (z ∷ [])) ≡ Some z.block
last-end before [] z = refl
last-end before (x ∷ front) z = last-end (Some x.block) front z

pub last-split : (x : Item) (xs : List Item) → (front : List Item) × (z : Item) × (x ∷ xs ≡ front ++ (z ∷ []))
last-split x [] = ([], x, refl)
last-split x (y ∷ ys) = let rest = last-split y ys in (x ∷ rest.0, rest.1, ap (λ l. x ∷ l) rest.2)

-- what a link reads as
pub link-end : link_of 0 ≡ None
unfolding link_of
link-end = refl

pub link-item : (span : ℕ) (x : Item) (xs : List Item) → span < 2 ^ 32 → x.block < span
    → link_of (word_of (x ∷ xs)) ≡ Some x.block
link-item span x xs few low = links_read_back (Some x.block) (omega arith)

-- a block of a bin is a granule of the pool, and stands there once
pub is_inside : (bin : Bin) (front : List Item) (z : Item) (rest : List Item) → bin.items ≡ front ++ (z ∷ rest)
    → 0 < tally z.block (blocks_of bin.items)
is_inside bin front z rest is =
    let a = tally-blocks z.block front (z ∷ rest) in
    let h = tally-here z.block (blocks_of rest) in
    let e = ap (λ l. tally z.block (blocks_of l)) is in omega arith

pub block_inside : (k : Key) (bin : Bin) (front : List Item) (z : Item) (rest : List Item)
    → bin.items ≡ front ++ (z ∷ rest) → BinFits k bin → z.block < k.span
block_inside k bin front z rest is fits = fits.inside z.block (is_inside bin front z rest is)

pub none_before : (k : Key) (bin : Bin) (front : List Item) (z : Item) (rest : List Item)
    → bin.items ≡ front ++ (z ∷ rest) → BinFits k bin → tally z.block (blocks_of front) ≡ 0
none_before k bin front z rest is fits =
    let a = tally-blocks z.block front (z ∷ rest) in
    let h = tally-here z.block (blocks_of rest) in
    let e = ap (λ l. tally z.block (blocks_of l)) is in let o = fits.once z.block in omega arith
