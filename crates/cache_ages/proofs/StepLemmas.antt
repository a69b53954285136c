-- How the steps of a cache bin change its ages.
use Rattle.std.proofs.Common.{◌≡◌, ◌≤◌, ℕ, Bool, true, false, List, [], ◌∷◌, length, take, ◌==◌, if◌then◌else◌, ap, sym, refl, arith}
use Rattle.std.proofs.lemmas.List.Sums.{suffix_len-le-length}
use Rattle.std.proofs.lemmas.List.{take_all}
use Rattle.std.proofs.lemmas.Bool.Decides.{nat_tests}
use Rattle.cache_ages.specs.Times.{is_stale, regular_threshold, soft_threshold}
use Rattle.cache_ages.specs.CacheSteps.{usage_of, count_stale, after_cleanup, after_regular, after_soft, cache_step, after_get, after_put, after_put_in, after_put_over}
use Rattle.cache_ages.specs.Laws.{LeavesAllButOldest, LeavesInOrder, GetTakesWhatWasPut}
use Rattle.cache_ages.specs.declared.CacheNumbers.{CacheNumbers}
use Rattle.cache_ages.specs.declared.CacheOp.TheVariants.{Put}

-- a cleanup releases no more than there is
pub count_stale-le-length : (threshold time : ℕ) (ages : List ℕ) → count_stale threshold time ages ≤ length ages
count_stale-le-length threshold time ages =
    suffix_len-le-length (λ age. is_stale threshold time age) ages

-- a cleanup releases the oldest
pub cleanup_order : (numbers : CacheNumbers) (threshold time : ℕ) (ages : List ℕ)
    → let step = after_cleanup numbers threshold time ages in
    LeavesAllButOldest ages step.numbers.ages.items [] step.released
cleanup_order numbers threshold time ages = record {
  within = count_stale-le-length threshold time ages;
  others = refl;
}

-- so does a regular one
pub regular_order : (numbers : CacheNumbers) (time : ℕ) (ages : List ℕ) → numbers.ages.items ≡ ages
    → let step = after_regular numbers time ages in
    LeavesInOrder step.taken ages step.numbers.ages.items [] step.released
regular_order numbers time [] h = record { within = omega arith; others = h }
regular_order numbers time (newest ∷ older) h =
    cleanup_order numbers (regular_threshold (usage_of numbers (newest ∷ older)) time) time (newest ∷ older)

-- so does a soft one
pub soft_order : (numbers : CacheNumbers) (time : ℕ) (ages : List ℕ) → numbers.ages.items ≡ ages
    → let step = after_soft numbers time ages in
    LeavesInOrder step.taken ages step.numbers.ages.items [] step.released
soft_order numbers time [] h = record { within = omega arith; others = h }
soft_order numbers time (newest ∷ older) h =
    cleanup_order numbers (soft_threshold numbers.threshold numbers.mean) time (newest ∷ older)

-- a Put of which it is known whether the bin is full
choice_ages : (full : Bool) (numbers : CacheNumbers) (time : ℕ) (ages : List ℕ)
    → (full ≡ false → take 63 ages ≡ ages)
    → let step = if full then after_put_over numbers time ages else after_put_in numbers time ages in
    step.numbers.ages.items ≡ time ∷ take 63 ages
choice_ages true numbers time ages h = refl
choice_ages false numbers time ages h = ap (λ xs. time ∷ xs) (sym (h refl))

-- a bin that is not full has room
below_full : (n : ℕ) → n ≤ 64 → (n == 64) ≡ false → n ≤ 63
below_full n room not_full = grind (arith, nat_tests)

-- what a Put leaves of a bin
pub put_ages : (numbers : CacheNumbers) (time : ℕ) (ages : List ℕ) → length ages ≤ 64
    → (after_put numbers time ages).numbers.ages.items ≡ time ∷ take 63 ages
put_ages numbers time ages room =
    choice_ages (length ages == 64) numbers time ages
    (λ not_full. take_all 63 ages (below_full (length ages) room not_full))

-- what a Get makes of a bin with items
pub get_taken : (numbers : CacheNumbers) (time newest : ℕ) (older ages : List ℕ) → ages ≡ newest ∷ older
    → ((after_get numbers time ages).taken ≡ true) × ((after_get numbers time ages).numbers.ages.items ≡ older)
get_taken numbers time newest older ages h = rw h (refl, refl)

-- a Get after a Put takes what was put
pub get_takes_what_was_put : GetTakesWhatWasPut
get_takes_what_was_put numbers put get room =
    let there = put_ages numbers put numbers.ages.items room in
    let taken = get_taken (cache_step numbers Put put).numbers get put (take 63 numbers.ages.items)
    (cache_step numbers Put put).numbers.ages.items there in
    record { taken = taken.0; item = there; rest = taken.1 }
