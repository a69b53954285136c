-- Which blocks leave a bin with the last step of a job, and that no others do.
use Rattle.std.proofs.Common.{◌≡◌, ℕ, zero, suc, ◌+◌, ◌-◌, ◌≤◌, Bool, true, false, Option, Some, None, List}
use Rattle.std.proofs.Common.{[], ◌∷◌, length, refl, sym, ap, subst, arith, ◌∙◌}
use Rattle.std.specs.Prelude.{take, drop}
use Rattle.std.proofs.lemmas.Bool.Decides.{nat_tests}
use Rattle.cache_ages.specs.Times.{most_items}
use Rattle.pool_words.specs.declared.words.Key.{Key}
use Rattle.large_cache.specs.declared.sweep.Cleanup.{Cleanup}
use Rattle.word_laws.specs.Memory.{put}
use Rattle.word_laws.proofs.CallerLemmas.{equal_or, put-same, put-other}
use Rattle.chain_laws.specs.Chains.{tally}
use Rattle.cache_laws.specs.Bins.{Bin, Item, blocks_of, last_block}
use Rattle.cache_laws.specs.Gets.{got, get_done, taken_of}
use Rattle.cache_laws.specs.Puts.{cut_at, is_full, released_at, released_of, keep_done}
use Rattle.cache_laws.specs.Sweeps.{count_gone, swept, sweep_done, gone_of}
use Rattle.cache_laws.specs.Good.{BinFits}
use Rattle.cache_laws.specs.Gets.{undo_done}
use Rattle.shelf_laws.specs.Shelves.{stock_of}
use Rattle.shelf_laws.specs.Steps.{list_of}
use Rattle.shelf_laws.proofs.Taking.{at_bin, Leaves, in_here, in_else, in_none}

-- a bin is another: these come, and those leave
pub bin_put : (bins : ℕ → Bin) (b : ℕ) (v : Bin) (ys xs : List ℕ)
    → ((x : ℕ) → tally x (blocks_of (bins b).items) + tally x ys ≡ tally x (blocks_of v.items) + tally x xs)
    → (c x : ℕ) → stock_of bins c x + at_bin b c (tally x ys)
    ≡ stock_of (put bins b v) c x + at_bin b c (tally x xs)
bin_put bins b v ys xs parts c x = equal_or c b
    (λ e. subst (λ z. stock_of bins z x + at_bin b z (tally x ys)
    ≡ stock_of (put bins b v) z x + at_bin b z (tally x xs)) (sym e)
    (let p = parts x in let i = in_here b (tally x ys) in let j = in_here b (tally x xs) in
    let q : stock_of (put bins b v) b x ≡ tally x (blocks_of v.items) =
    ap (λ (w : Bin). tally x (blocks_of w.items)) (put-same bins b v) in omega arith))
    (λ ne. let i = in_else b c (tally x ys) (λ e. ne (sym e)) in let j = in_else b c (tally x xs) (λ e. ne (sym e)) in
    let q : stock_of (put bins b v) c x ≡ stock_of bins c x =
    ap (λ (w : Bin). tally x (blocks_of w.items)) (put-other bins b v c ne) in omega arith)

bin_left : (bins : ℕ → Bin) (b : ℕ) (v : Bin) (xs : List ℕ)
    → ((x : ℕ) → tally x (blocks_of (bins b).items) ≡ tally x (blocks_of v.items) + tally x xs)
    → Leaves (stock_of bins) (stock_of (put bins b v)) b xs
bin_left bins b v xs parts c x =
    let p = bin_put bins b v [] xs (λ y. let q = parts y in omega arith) c x in let z = in_none b c in omega arith

-- a get
got_count : (time : ℕ) (bin : Bin) (items : List Item) (x : ℕ) → bin.items ≡ items
    → tally x (blocks_of bin.items)
    ≡ tally x (blocks_of (got time bin items).items) + tally x (list_of (taken_of items))
got_count time bin [] x is = omega arith
got_count time bin (y ∷ ys) x is =
    let q : tally x (blocks_of bin.items) ≡ tally x (y.block ∷ blocks_of ys) = ap (λ l. tally x (blocks_of l)) is in
    omega arith

pub got_leaves : (bins : ℕ → Bin) (b time : ℕ) (block : Option ℕ) → block ≡ taken_of (bins b).items
    → Leaves (stock_of bins) (stock_of (put bins b (get_done time (bins b)))) b (list_of block)
got_leaves bins b time block is = subst (λ o. Leaves (stock_of bins) (stock_of (put bins b (get_done time (bins b)))) b
    (list_of o)) (sym is)
    (bin_left bins b (get_done time (bins b)) (list_of (taken_of (bins b).items))
    (λ x. got_count time (bins b) (bins b).items x refl))

-- an undo
pub undone_leaves : (bins : ℕ → Bin) (b : ℕ)
    → Leaves (stock_of bins) (stock_of (put bins b (undo_done (bins b)))) b []
undone_leaves bins b = bin_left bins b (undo_done (bins b)) [] (λ x. omega arith)

-- a put
last_count : (items : List Item) (n x : ℕ) (before : Option ℕ) → length items ≡ suc n
    → tally x (blocks_of items)
    ≡ tally x (blocks_of (take n items)) + tally x (list_of (last_block before items))
last_count [] n x before long = absurd (omega (arith, long))
last_count (y ∷ []) zero x before long = omega arith
last_count (y ∷ []) (suc n) x before long = absurd (omega (arith, long))
last_count (y ∷ z ∷ zs) zero x before long = absurd (omega (arith, long))
last_count (y ∷ z ∷ zs) (suc n) x before long =
    let rest = last_count (z ∷ zs) n x (Some y.block) (omega (arith, long)) in omega arith

cut_count : (full : Bool) (bin : Bin) (x : ℕ) → (full ≡ true → length bin.items ≡ most_items)
    → tally x (blocks_of bin.items)
    ≡ tally x (blocks_of (cut_at full bin).items) + tally x (list_of (released_at full bin.items))
cut_count true bin x long = last_count bin.items (most_items - 1) x None (long refl)
cut_count false bin x long = omega arith

full_long : (k : Key) (bin : Bin) → BinFits k bin → is_full bin ≡ true → length bin.items ≡ most_items
full_long k bin fits full =
    let most : most_items ≤ bin.count = grind (arith, nat_tests) in
    let few = fits.few in let count = fits.counted in omega arith

pub kept_leaves : (k : Key) (bins : ℕ → Bin) (b time block : ℕ) (released : Option ℕ) → BinFits k (bins b)
    → released ≡ released_of (bins b)
    → Leaves (λ c x. stock_of bins c x + at_bin b c (tally x (block ∷ [])))
    (stock_of (put bins b (keep_done time block (bins b)))) b (list_of released)
kept_leaves k bins b time block released fits is =
    subst (λ o. Leaves (λ c x. stock_of bins c x + at_bin b c (tally x (block ∷ [])))
    (stock_of (put bins b (keep_done time block (bins b)))) b (list_of o)) (sym is)
    (bin_put bins b (keep_done time block (bins b)) (block ∷ []) (list_of (released_of (bins b)))
    (λ x. let c = cut_count (is_full (bins b)) (bins b) x (full_long k (bins b) fits) in omega arith))

-- a sweep
split_count : (n : ℕ) (items : List Item) (x : ℕ)
    → tally x (blocks_of items) ≡ tally x (blocks_of (take n items)) + tally x (blocks_of (drop n items))
split_count zero items x = omega arith
split_count (suc n) [] x = omega arith
split_count (suc n) (y ∷ ys) x = let rest = split_count n ys x in omega arith

dropped_none : (n : ℕ) → ◌≡◌ {A = List Item} (drop n []) []
dropped_none zero = refl
dropped_none (suc n) = refl

swept_count : (cleanup : Cleanup) (time : ℕ) (bin : Bin) (items : List Item) (x : ℕ) → bin.items ≡ items
    → tally x (blocks_of bin.items)
    ≡ tally x (blocks_of (swept cleanup time bin items).items) + tally x (gone_of cleanup time bin)
swept_count cleanup time bin [] x is =
    let n = length bin.items - count_gone cleanup time bin in
    let none : tally x (gone_of cleanup time bin) ≡ 0 =
    ap (λ l. tally x (blocks_of (drop n l))) is ∙ ap (λ l. tally x (blocks_of l)) (dropped_none n) in
    omega arith
swept_count cleanup time bin (y ∷ ys) x is = split_count (length bin.items - count_gone cleanup time bin) bin.items x

pub swept_leaves : (bins : ℕ → Bin) (b time : ℕ) (cleanup : Cleanup) (gone : List ℕ)
    → gone ≡ gone_of cleanup time (bins b)
    → Leaves (stock_of bins) (stock_of (put bins b (sweep_done cleanup time (bins b)))) b gone
swept_leaves bins b time cleanup gone is =
    subst (λ l. Leaves (stock_of bins) (stock_of (put bins b (sweep_done cleanup time (bins b)))) b l) (sym is)
    (bin_left bins b (sweep_done cleanup time (bins b)) (gone_of cleanup time (bins b))
    (λ x. swept_count cleanup time (bins b) (bins b).items x refl))
