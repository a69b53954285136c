-- Each position of a get and of an undo keeps what holds of bins.
use Rattle.std.proofs.Common.{◌≡◌, ◌≢◌, inl, ℕ, ◌+◌, ◌-◌, ◌<◌, Bool, true, false, Option}
use Rattle.std.proofs.Common.{Some, None, List, [], ◌∷◌, length, refl, sym, ap, subst, arith, ◌∙◌}
use Rattle.std.specs.Prelude.{◌==◌}
use Rattle.std.proofs.lemmas.Bool.Decides.{nat_tests}
use Rattle.cache_ages.specs.Times.{span_between, mean_after_hit, threshold_after_miss}
use Rattle.pool_types.specs.Sums.{capped}
use Rattle.pool_words.specs.declared.words.Key.{Key}
use Rattle.pool_words.specs.declared.words.Word.{Word}
use Rattle.pool_words.specs.Words.{cache_counts}
use Rattle.large_cache.specs.declared.get.Newest.{Newest}
use Rattle.large_cache.specs.declared.get.HitAt.{HitAt}
use Rattle.large_cache.specs.declared.get.GetAt.{GetAt}
use Rattle.large_cache.specs.Get.{get_course}
use Rattle.word_laws.specs.Memory.{Mem, put, stored, after}
use Rattle.chain_laws.specs.Chains.{tally}
use Rattle.chain_laws.proofs.CallerLemmas.{tally-more}
use Rattle.cache_laws.specs.Bins.{Item, Bin, blocks_of, Lists, Says}
use Rattle.cache_laws.specs.Gets.{got, taken_of, hit_stage, get_stage, IsEmpty, HasItems, HitNoted}
use Rattle.cache_laws.specs.Gets.{GetNoted}
use Rattle.cache_laws.specs.Good.{Task, get_holds, IsOwn, BinFits, CacheGood}
use Rattle.cache_laws.specs.Steps.{call_of}
use Rattle.cache_laws.proofs.Words.{Leaves, count_said, used_said, mean_said, threshold_said}
use Rattle.cache_laws.proofs.Words.{get_said, cleaned_said, head_said}
use Rattle.cache_laws.proofs.Seats.{at_call, goes}

abbrev over : Bin → List Item → Bin
over bin l = record bin { items = l }

pub is_zero : (n : ℕ) → (n == 0) ≡ true → n ≡ 0
is_zero n is = grind (arith, nat_tests)

pub not_zero : (n : ℕ) → (n == 0) ≡ false → n ≢ 0
not_zero n is = grind (arith, nat_tests)

pub empty_of : (l : List Item) → length l ≡ 0 → IsEmpty l
empty_of [] is = tt
empty_of (x ∷ xs) is = absurd (omega arith)

pub some_of : (l : List Item) → length l ≢ 0 → HasItems l
some_of [] is = absurd (is refl)
some_of (x ∷ xs) is = tt

-- a get leaves the blocks but the newest
pub got_within : (time : ℕ) (bin : Bin) (l : List Item) (x : ℕ)
    → 0 < tally x (blocks_of (got time (over bin l) l).items)
    → 0 < tally x (blocks_of l)
got_within time bin [] x some = some
got_within time bin (y ∷ ys) x some = let h = tally-more x y.block (blocks_of ys) in omega arith

pub hit_within : (time : ℕ) (bin : Bin) (at : HitAt) (x : ℕ) → 0 < tally x (blocks_of (hit_stage time bin at).items)
    → 0 < tally x (blocks_of bin.items)
hit_within time bin (HitAt.Link items block) x some = some
hit_within time bin (HitAt.Age items block link) x some = some
hit_within time bin (HitAt.Mean items block link age) x some = some
hit_within time bin (HitAt.Pop newest) x some = some
hit_within time bin (HitAt.SetItems newest) x some = got_within time bin bin.items x some
hit_within time bin (HitAt.SetMean newest) x some = got_within time bin bin.items x some

pub get_within : (time : ℕ) (bin : Bin) (at : GetAt) (x : ℕ) → 0 < tally x (blocks_of (get_stage time bin at).items)
    → 0 < tally x (blocks_of bin.items)
get_within time bin GetAt.Lock x some = some
get_within time bin GetAt.Items x some = some
get_within time bin (GetAt.Head items) x some = some
get_within time bin (GetAt.Hit at) x some = hit_within time bin at x some
get_within time bin GetAt.Cleaned x some = some
get_within time bin (GetAt.SetThreshold cleaned) x some = some
get_within time bin GetAt.ClearCleaned x some = some
get_within time bin (GetAt.SetTime block) x some = got_within time bin bin.items x some
get_within time bin (GetAt.Used block) x some = got_within time bin bin.items x some
get_within time bin (GetAt.SetUsed block used) x some = got_within time bin bin.items x some
get_within time bin (GetAt.Unlock block) x some = got_within time bin bin.items x some

-- a get goes on
pub got_on : (k : Key) (g : ℕ → Bin) (m m' : Mem) (tasks : ℕ → Task) (t b time : ℕ) (at next : GetAt)
    → CacheGood k g m tasks → tasks t ≡ Task.Getting b time at → get_holds at ≡ true → get_holds next ≡ true
    → Leaves m m' b (IsOwn g (Task.Getting b time at)) → Says m' b (get_stage time (g b) next) → GetNoted (g b) next
    → CacheGood k g m' (put tasks t (Task.Getting b time next))
got_on k g m m' tasks t b time at next good is has has' leaves says noted =
    goes k g m m' tasks t b (Task.Getting b time at) (Task.Getting b time next) good is has refl has' refl refl
    (at_call k g m tasks t (Task.Getting b time at) is good) leaves
    (record { says = says; noted = noted; in_hand = tt; own = λ x some. inl (get_within time (g b) next x some) })

-- what is noted of the newest block
pub link_noted : (links ages : ℕ → ℕ) (bin : Bin) (l : List Item) (items block : ℕ) → Lists links ages l
    → HitNoted bin l (HitAt.Link items block) → HitNoted bin l (HitAt.Age items block (links block))
link_noted links ages bin [] items block lists noted = absurd noted
link_noted links ages bin (x ∷ xs) items block lists noted =
    (noted.0, noted.1, ap links noted.1 ∙ lists.0)

pub age_noted : (links ages : ℕ → ℕ) (bin : Bin) (l : List Item) (items block link : ℕ) → Lists links ages l
    → HitNoted bin l (HitAt.Age items block link) → HitNoted bin l (HitAt.Mean items block link (ages block))
age_noted links ages bin [] items block link lists noted = absurd noted
age_noted links ages bin (x ∷ xs) items block link lists noted =
    (noted.0, noted.1, noted.2, ap ages noted.1 ∙ lists.1)

pub mean_noted : (bin : Bin) (l : List Item) (items block link age mean : ℕ) → mean ≡ bin.mean
    → HitNoted bin l (HitAt.Mean items block link age)
    → HitNoted bin l (HitAt.Pop (record { items = items; block = block; link = link; age = age; mean = mean }))
mean_noted bin [] items block link age mean is noted = absurd noted
mean_noted bin (x ∷ xs) items block link age mean is noted =
    λ i. record { items = noted.0 i; block = noted.1 i; link = noted.2 i; age = noted.3 i; mean = is i }

-- the stores of a get that takes a block
pub popped : (k : Key) (m : Mem) (b time : ℕ) (bin : Bin) (l : List Item) (n : Newest) → b < cache_counts
    → Says m b (over bin l) → HitNoted (over bin l) l (HitAt.Pop n)
    → Says (stored k m (Word.CacheHead b) n.link) b (hit_stage time (over bin l) (HitAt.SetItems n))
popped k m b time bin [] n low says noted = absurd noted
popped k m b time bin (x ∷ xs) n low says noted =
    head_said k m b n.link (over bin (x ∷ xs)) xs low (ap (λ (z : Newest). z.link) noted) says.listed.2 says

pub items_set : (k : Key) (m : Mem) (b time : ℕ) (bin : Bin) (l : List Item) (n : Newest) → b < cache_counts
    → Says m b (hit_stage time (over bin l) (HitAt.SetItems n)) → HitNoted (over bin l) l (HitAt.SetItems n)
    → Says (stored k m (Word.CacheItems b) (n.items - 1)) b (hit_stage time (over bin l) (HitAt.SetMean n))
items_set k m b time bin [] n low says noted = absurd noted
items_set k m b time bin (x ∷ xs) n low says noted =
    subst (λ c. Says (stored k m (Word.CacheItems b) (n.items - 1)) b (record bin { count = c - 1; items = xs }))
    (ap (λ (z : Newest). z.items) noted) (count_said k m b (n.items - 1) (over bin xs) low says)

pub mean_set : (k : Key) (m : Mem) (b time : ℕ) (bin : Bin) (l : List Item) (n : Newest) → b < cache_counts
    → Says m b (hit_stage time (over bin l) (HitAt.SetMean n)) → HitNoted (over bin l) l (HitAt.SetMean n)
    → Says (after k m (get_course (call_of 0 b time) (GetAt.Hit (HitAt.SetMean n)))) b
    (get_stage time (over bin l) (GetAt.SetTime (Some n.block)))
mean_set k m b time bin [] n low says noted = absurd noted
mean_set k m b time bin (x ∷ xs) n low says noted =
    let old = record bin { count = bin.count - 1; items = xs } in
    let mean = λ (z : Newest). mean_after_hit z.mean (span_between z.age time) in
    subst (λ v. Says (stored k m (Word.CacheMean b) (mean n)) b (record old { mean = v })) (ap mean noted)
    (mean_said k m b (mean n) old low says)

pub pop_noted : (bin : Bin) (l : List Item) (n : Newest) → HitNoted bin l (HitAt.Pop n)
    → HitNoted bin l (HitAt.SetItems n)
pop_noted bin [] n noted = noted
pop_noted bin (x ∷ xs) n noted = noted

pub items_noted : (bin : Bin) (l : List Item) (n : Newest) → HitNoted bin l (HitAt.SetItems n)
    → HitNoted bin l (HitAt.SetMean n)
items_noted bin [] n noted = noted
items_noted bin (x ∷ xs) n noted = noted

pub block_noted : (bin : Bin) (l : List Item) (n : Newest) → HitNoted bin l (HitAt.SetMean n)
    → Some n.block ≡ taken_of l
block_noted bin [] n noted = absurd noted
block_noted bin (x ∷ xs) n noted = ap (λ (z : Newest). Some z.block) noted

-- the stores of a get that misses
pub missed : (t c time : ℕ) → c ≢ 0 → threshold_after_miss 0 c time ≡ threshold_after_miss t c time
missed t c time some = by (c == 0) refl
  where
    by : (b : Bool) → (c == 0) ≡ b → threshold_after_miss 0 c time ≡ threshold_after_miss t c time
    by true is = absurd (some (is_zero c is))
    by false is = grind (arith, is)

pub uncleaned : (m : Mem) (b time : ℕ) (bin : Bin) (l : List Item) → IsEmpty l → bin.cleaned ≡ 0 → Says m b (over bin l)
    → Says m b (get_stage time (over bin l) (GetAt.SetTime None))
uncleaned m b time bin (x ∷ xs) none clean says = absurd none
uncleaned m b time bin [] none clean says = record {
  head = says.head;
  count' = says.count';
  used' = says.used';
  mean' = says.mean';
  threshold' = says.threshold' ∙ ap (λ c. threshold_after_miss bin.threshold c time) (sym clean);
  get' = says.get';
  cleaned' = says.cleaned' ∙ clean;
  listed = says.listed;
}

pub threshold_set : (k : Key) (m : Mem) (b time : ℕ) (bin : Bin) (l : List Item) (c : ℕ) → b < cache_counts → IsEmpty l
    → c ≡ bin.cleaned → c ≢ 0 → Says m b (over bin l)
    → Says (stored k m (Word.CacheThreshold b) (threshold_after_miss 0 c time)) b
    (get_stage time (over bin l) GetAt.ClearCleaned)
threshold_set k m b time bin (x ∷ xs) c low none is some says = absurd none
threshold_set k m b time bin [] c low none is some says =
    subst (λ v. Says (stored k m (Word.CacheThreshold b) (threshold_after_miss 0 c time)) b
    (record bin { threshold = v; items = [] }))
    (missed bin.threshold c time some ∙ ap (λ z. threshold_after_miss bin.threshold z time) is)
    (threshold_said k m b (threshold_after_miss 0 c time) (over bin []) low says)

pub cleaned_clear : (k : Key) (m : Mem) (b time : ℕ) (bin : Bin) (l : List Item) → b < cache_counts → IsEmpty l
    → Says m b (get_stage time (over bin l) GetAt.ClearCleaned)
    → Says (stored k m (Word.CacheCleaned b) 0) b (get_stage time (over bin l) (GetAt.SetTime None))
cleaned_clear k m b time bin (x ∷ xs) low none says = absurd none
cleaned_clear k m b time bin [] low none says =
    cleaned_said k m b 0 (get_stage time (over bin []) GetAt.ClearCleaned) low says

pub none_taken : (l : List Item) → IsEmpty l → None ≡ taken_of l
none_taken [] none = refl
none_taken (x ∷ xs) none = absurd none

-- and those of both
pub time_set : (k : Key) (m : Mem) (b time : ℕ) (bin : Bin) (l : List Item) (block : Option ℕ) → b < cache_counts
    → Says m b (get_stage time (over bin l) (GetAt.SetTime block))
    → Says (stored k m (Word.CacheGet b) time) b (get_stage time (over bin l) (GetAt.Used block))
time_set k m b time bin [] block low says =
    get_said k m b time (get_stage time (over bin []) (GetAt.SetTime block)) low says
time_set k m b time bin (x ∷ xs) block low says =
    get_said k m b time (get_stage time (over bin (x ∷ xs)) (GetAt.SetTime block)) low says

pub used_set : (k : Key) (m : Mem) (b time : ℕ) (bin : Bin) (l : List Item) (block : Option ℕ) → b < cache_counts
    → Says m b (get_stage time (over bin l) (GetAt.SetUsed block bin.used))
    → Says (stored k m (Word.CacheUsed b) (capped (bin.used + 1))) b (get_stage time (over bin l) (GetAt.Unlock block))
used_set k m b time bin [] block low says =
    used_said k m b (capped (bin.used + 1)) (get_stage time (over bin []) (GetAt.Used block)) low says
used_set k m b time bin (x ∷ xs) block low says =
    used_said k m b (capped (bin.used + 1)) (get_stage time (over bin (x ∷ xs)) (GetAt.Used block)) low says

-- the bin after a get is one
pub got_fits : (k : Key) (time : ℕ) (bin : Bin) (l : List Item) → BinFits k (over bin l)
    → BinFits k (got time (over bin l) l)
got_fits k time bin [] fits = record {
  counted = fits.counted;
  few = fits.few;
  inside = fits.inside;
  once = fits.once;
}
got_fits k time bin (y ∷ ys) fits = record {
  counted = let c = fits.counted in omega arith;
  few = let f = fits.few in omega arith;
  inside = λ x some. fits.inside x (let h = tally-more x y.block (blocks_of ys) in omega arith);
  once = λ x. let h = tally-more x y.block (blocks_of ys) in let o = fits.once x in omega arith;
}
