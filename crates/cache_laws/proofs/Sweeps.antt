-- Which blocks a sweep releases, and what its bin is once all were judged.
use Rattle.std.proofs.Common.{◌≡◌, inl, inr, ℕ, zero, suc, ◌+◌, ◌-◌, ◌<◌, Bool, true, false, cond, List}
use Rattle.std.proofs.Common.{[], ◌∷◌, ◌++◌, length, refl, sym, ap, arith, ◌∙◌}
use Rattle.std.specs.Prelude.{◌⊎◌, ◌==◌, take, drop, reverse, slice_index}
use Rattle.std.specs.List.{prefix_len, suffix_len}
use Rattle.std.proofs.lemmas.Bool.Decides.{nat_tests}
use Rattle.std.proofs.lemmas.List.{append_assoc, append-nil, length-append, length-take-le, reverse-append}
use Rattle.std.proofs.Math.Seq.{take-append_seam, drop-append_seam, take-length}
use Rattle.cache_ages.specs.CacheSteps.{cache_step, copied, after_cleanup}
use Rattle.cache_ages.specs.Times.{is_stale, regular_threshold, soft_threshold}
use Rattle.pool_words.specs.declared.words.Key.{Key}
use Rattle.large_cache.specs.declared.sweep.Cleanup.{Cleanup}
use Rattle.large_cache.specs.declared.sweep.Walk.{Walk}
use Rattle.large_cache.specs.declared.sweep.SweepAt.{SweepAt}
use Rattle.chain_laws.specs.Chains.{tally}
use Rattle.cache_laws.specs.Bins.{Item, Bin, blocks_of, ages_of, numbers_of}
use Rattle.cache_laws.specs.Gets.{IsEmpty, HasItems}
use Rattle.cache_laws.specs.Sweeps.{usage_in, goes_at, count_gone, without_oldest, cut_bin, swept}
use Rattle.cache_laws.specs.Sweeps.{gone_of, sweep_stage, AllGo, LastStays, WalkFits}
use Rattle.cache_laws.specs.Laws.{op_of}
use Rattle.cache_laws.specs.Good.{BinFits}
use Rattle.cache_laws.proofs.Lists.{take-within, take-ages, length-ages}

ages-append : (xs ys : List Item) → ages_of (xs ++ ys) ≡ ages_of xs ++ ages_of ys
ages-append [] ys = refl
ages-append (x ∷ xs) ys = ap (λ l. x.age ∷ l) (ages-append xs ys)

-- from the end back blocks go up to the first that stays
all-go : (goes : ℕ → Bool) (items : List Item) (ys : List ℕ) → AllGo goes items
    → prefix_len goes (reverse (ages_of items) ++ ys) ≡ length items + prefix_len goes ys
all-go goes [] ys all = omega arith
all-go goes (x ∷ xs) ys all =
    let rest = all-go goes xs (x.age ∷ ys) all.1 in
    let first : prefix_len goes (x.age ∷ ys) ≡ 1 + prefix_len goes ys
    = ap (λ b. cond b (1 + prefix_len goes ys) 0) all.0 in
    ap (λ l. prefix_len goes (l ++ ys)) (reverse-append (x.age ∷ []) (ages_of xs))
    ∙ ap (prefix_len goes) (append_assoc (reverse (ages_of xs)) (x.age ∷ []) ys) ∙ rest ∙ omega (arith, first)

stops : (goes : ℕ → Bool) (front : List Item) → (front ≡ []) ⊎ LastStays goes front
    → prefix_len goes (reverse (ages_of front)) ≡ 0
stops goes front (inl none) = ap (λ l. prefix_len goes (reverse (ages_of l))) none
stops goes front (inr last) =
    ap (λ l. prefix_len goes (reverse l)) (ap ages_of last.is ∙ ages-append last.front (last.last ∷ []))
    ∙ ap (prefix_len goes) (reverse-append (ages_of last.front) (last.last.age ∷ []))
    ∙ ap (λ b. cond b (1 + prefix_len goes (reverse (ages_of last.front))) 0) last.stays

pub suffix-split : (goes : ℕ → Bool) (front stale : List Item) → (front ≡ []) ⊎ LastStays goes front
    → AllGo goes stale → suffix_len goes (ages_of (front ++ stale)) ≡ length stale
suffix-split goes front stale ends all =
    let zero' = stops goes front ends in
    ap (λ l. prefix_len goes (reverse l)) (ages-append front stale)
    ∙ ap (prefix_len goes) (reverse-append (ages_of front) (ages_of stale))
    ∙ all-go goes stale (reverse (ages_of front)) all ∙ omega (arith, zero')

pub go-more : (goes : ℕ → Bool) (xs : List Item) (x : Item) → AllGo goes xs → goes x.age ≡ true
    → AllGo goes (xs ++ (x ∷ []))
go-more goes [] x all last = (last, tt)
go-more goes (y ∷ ys) x all last = (all.0, go-more goes ys x all.1 last)

-- all were judged
pub record Judged (cleanup : Cleanup) (time : ℕ) (bin : Bin) (front stale : List Item) : Type 0 where
  pub whole : bin.items ≡ front ++ stale
  pub number : count_gone cleanup time bin ≡ length stale
  pub left : length bin.items - count_gone cleanup time bin ≡ length front
  pub taken : take (length bin.items - count_gone cleanup time bin) bin.items ≡ front
  pub dropped : drop (length bin.items - count_gone cleanup time bin) bin.items ≡ stale

pub all_judged : (cleanup : Cleanup) (time : ℕ) (bin : Bin) (gone : List ℕ) (walk : Walk)
    → (fits : WalkFits cleanup time bin gone walk []) → Judged cleanup time bin fits.front fits.stale'
all_judged cleanup time bin gone walk fits =
    let whole : bin.items ≡ fits.front ++ fits.stale' = fits.is ∙ ap (λ l. fits.front ++ l) (append-nil fits.stale') in
    let number : count_gone cleanup time bin ≡ length fits.stale'
    = ap (λ l. suffix_len (goes_at cleanup time bin) (ages_of l)) whole
    ∙ suffix-split (goes_at cleanup time bin) fits.front fits.stale' fits.ends fits.all in
    let long = length-append fits.front fits.stale' in
    let same = ap (λ (l : List Item). length l) whole in
    let left : length bin.items - count_gone cleanup time bin ≡ length fits.front
    = omega (arith, number, long, same) in
    record {
      whole = whole;
      number = number;
      left = left;
      taken = ap (λ n. take n bin.items) left ∙ ap (take (length fits.front)) whole
          ∙ take-append_seam fits.front fits.stale';
      dropped = ap (λ n. drop n bin.items) left ∙ ap (drop (length fits.front)) whole
          ∙ drop-append_seam fits.front fits.stale';
    }

pub age_at : (front : List Item) (y : Item) (ys : List Item)
    → slice_index (ages_of (front ++ (y ∷ ys))) (length front) ≡ y.age
age_at [] y ys = refl
age_at (x ∷ front) y ys = age_at front y ys

-- a bin from which none goes
pub none_gone : (n : ℕ) (bin : Bin) → n ≡ 0 → without_oldest n bin ≡ bin
none_gone n bin is = ap (λ c. without_oldest c bin) is ∙ here
  where
    count : bin.count - 0 ≡ bin.count
    count = omega arith

    items : take (length bin.items - 0) bin.items ≡ bin.items
    items = ap (λ c. take c bin.items) (let h : length bin.items - 0 ≡ length bin.items = omega arith in h)
        ∙ take-length bin.items

    here : without_oldest 0 bin ≡ bin
    here = λ i. record bin { count = count i; items = items i }

pub swept_some : (cleanup : Cleanup) (time : ℕ) (bin : Bin) (l : List Item) → HasItems l
    → swept cleanup time bin l ≡ cut_bin cleanup time bin
swept_some cleanup time bin [] some = absurd some
swept_some cleanup time bin (x ∷ xs) some = refl

pub swept_none : (cleanup : Cleanup) (time : ℕ) (bin : Bin) (l : List Item) → IsEmpty l
    → swept cleanup time bin l ≡ bin
swept_none cleanup time bin [] none = refl
swept_none cleanup time bin (x ∷ xs) none = absurd none

drop-nil : (n : ℕ) → drop {A = Item} n [] ≡ []
drop-nil zero = refl
drop-nil (suc n) = refl

pub none_of : (cleanup : Cleanup) (time : ℕ) (bin : Bin) (l : List Item) → bin.items ≡ l → IsEmpty l
    → gone_of cleanup time bin ≡ []
none_of cleanup time bin [] is none =
    ap (λ l. blocks_of (drop (length bin.items - count_gone cleanup time bin) l)) is
    ∙ ap blocks_of (drop-nil (length bin.items - count_gone cleanup time bin))
none_of cleanup time bin (x ∷ xs) is none = absurd none

-- the blocks of each stage are the bin's
pub swept_within : (cleanup : Cleanup) (time : ℕ) (bin : Bin) (l : List Item) (x : ℕ)
    → 0 < tally x (blocks_of (swept cleanup time bin l).items) → 0 < tally x (blocks_of bin.items)
swept_within cleanup time bin [] x some = some
swept_within cleanup time bin (y ∷ ys) x some =
    let h = take-within (length bin.items - count_gone cleanup time bin) bin.items x in omega arith

pub sweep_within : (cleanup : Cleanup) (time : ℕ) (bin : Bin) (at : SweepAt) (x : ℕ)
    → 0 < tally x (blocks_of (sweep_stage cleanup time bin at).items) → 0 < tally x (blocks_of bin.items)
sweep_within cleanup time bin SweepAt.Clock x some = some
sweep_within cleanup time bin SweepAt.Peek x some = some
sweep_within cleanup time bin SweepAt.Lock x some = some
sweep_within cleanup time bin SweepAt.Items x some = some
sweep_within cleanup time bin (SweepAt.Judge at) x some = some
sweep_within cleanup time bin (SweepAt.SetThreshold count threshold) x some = some
sweep_within cleanup time bin (SweepAt.Head count threshold) x some = some
sweep_within cleanup time bin (SweepAt.Age walk) x some = some
sweep_within cleanup time bin (SweepAt.Link walk) x some = some
sweep_within cleanup time bin (SweepAt.Cut walk) x some = some
sweep_within cleanup time bin (SweepAt.SetItems walk) x some =
    let h = take-within (length bin.items - count_gone cleanup time bin) bin.items x in omega arith
sweep_within cleanup time bin (SweepAt.SetCleaned walk) x some =
    let h = take-within (length bin.items - count_gone cleanup time bin) bin.items x in omega arith
sweep_within cleanup time bin SweepAt.Unlock x some = swept_within cleanup time bin bin.items x some

-- the bin after a sweep is one
pub swept_fits : (k : Key) (cleanup : Cleanup) (time : ℕ) (bin : Bin) (l : List Item) → BinFits k bin
    → BinFits k (swept cleanup time bin l)
swept_fits k cleanup time bin [] fits = fits
swept_fits k cleanup time bin (y ∷ ys) fits =
    let n = length bin.items - count_gone cleanup time bin in
    let long = length-take-le n bin.items (omega arith) in record {
      counted = let c = fits.counted in omega (arith, long, c);
      few = let f = fits.few in omega (arith, long, f);
      inside = λ x some. fits.inside x (let h = take-within n bin.items x in omega arith);
      once = λ x. let h = take-within n bin.items x in let o = fits.once x in omega arith;
    }

-- a sweep is one step of the rules
cleaned_up : (bin : Bin) (x : Item) (xs : List Item) (threshold time : ℕ)
    → numbers_of (without_oldest (suffix_len (λ age. is_stale threshold time age) (ages_of (x ∷ xs)))
    (record bin { threshold = threshold; items = x ∷ xs }))
    ≡ (after_cleanup (numbers_of (record bin { items = x ∷ xs })) threshold time (ages_of (x ∷ xs))).numbers
cleaned_up bin x xs threshold time =
    ap (λ l. record (numbers_of (without_oldest n (record bin { threshold = threshold; items = x ∷ xs })))
    { ages = copied l }) (take-ages (length (x ∷ xs) - n) (x ∷ xs))
    ∙ ap (λ c. record (numbers_of (record bin { threshold = threshold })) {
      cleaned = cond (n == 0) bin.cleaned (slice_index (ages_of (x ∷ xs)) (c - n));
      ages = copied (take (c - n) (ages_of (x ∷ xs)));
    }) (sym (length-ages (x ∷ xs)))
  where
    n : ℕ
    n = suffix_len (λ age. is_stale threshold time age) (ages_of (x ∷ xs))

hard_all : (threshold time : ℕ) (items : List Item) → AllGo (λ age. true) items
hard_all threshold time [] = tt
hard_all threshold time (x ∷ xs) = (refl, hard_all threshold time xs)

hard_up : (bin : Bin) (x : Item) (xs : List Item) (n : ℕ) → n ≡ length (x ∷ xs)
    → numbers_of (without_oldest n (record bin { items = x ∷ xs }))
    ≡ record (numbers_of bin) { cleaned = x.age; ages = copied [] }
hard_up bin x xs n is =
    ap (λ c. numbers_of (without_oldest c (record bin { items = x ∷ xs }))) is
    ∙ ap (λ c. record (numbers_of bin) {
      cleaned = cond (length (x ∷ xs) == 0) bin.cleaned (slice_index (ages_of (x ∷ xs)) c);
      ages = copied (ages_of (take c (x ∷ xs)));
    }) none ∙ ap (λ z. record (numbers_of bin) { cleaned = cond z bin.cleaned x.age; ages = copied [] }) some
  where
    none : length (x ∷ xs) - length (x ∷ xs) ≡ 0
    none = omega arith

    some : (length (x ∷ xs) == 0) ≡ false
    some = grind (arith, nat_tests)

pub swept_is : (k : Key) (cleanup : Cleanup) (time : ℕ) (bin : Bin) (l : List Item)
    → BinFits k (record bin { items = l })
    → numbers_of (swept cleanup time (record bin { items = l }) l)
    ≡ (cache_step (numbers_of (record bin { items = l })) (op_of cleanup) time).numbers
swept_is k Cleanup.Regular time bin [] fits = refl
swept_is k Cleanup.Soft time bin [] fits = refl
swept_is k Cleanup.Hard time bin [] fits = refl
swept_is k Cleanup.Regular time bin (x ∷ xs) fits =
    cleaned_up bin x xs (regular_threshold (usage_in bin) time) time
    ∙ ap (λ c. (after_cleanup (numbers_of (record bin { items = x ∷ xs }))
    (regular_threshold (record (usage_in bin) { count = c }) time) time (ages_of (x ∷ xs))).numbers)
    (fits.counted ∙ sym (length-ages (x ∷ xs)))
swept_is k Cleanup.Soft time bin (x ∷ xs) fits =
    cleaned_up bin x xs (soft_threshold bin.threshold bin.mean) time
swept_is k Cleanup.Hard time bin (x ∷ xs) fits =
    hard_up bin x xs (suffix_len (λ age. true) (ages_of (x ∷ xs)))
    (suffix-split (λ age. true) [] (x ∷ xs) (inl refl) (hard_all bin.threshold time (x ∷ xs)))
