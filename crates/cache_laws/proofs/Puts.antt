-- What holds of a put's bin at each position.
use Rattle.std.proofs.Common.{◌≡◌, inl, inr, ℕ, ◌-◌, ◌<◌, ◌≤◌, Bool, true, false, Some, None, List}
use Rattle.std.proofs.Common.{[], ◌∷◌, ◌++◌, length, refl, sym, ap, subst, arith, ◌∙◌}
use Rattle.std.specs.Prelude.{◌⊎◌, nat_le, take}
use Rattle.std.proofs.lemmas.Bool.Decides.{nat_tests}
use Rattle.std.proofs.lemmas.List.{length-append}
use Rattle.std.proofs.Math.Seq.{take-append_seam}
use Rattle.cache_ages.specs.Times.{most_items}
use Rattle.pool_words.specs.declared.words.Key.{Key}
use Rattle.pool_words.specs.declared.words.Word.{Word}
use Rattle.pool_words.specs.Words.{cache_links, cache_ages}
use Rattle.large_cache.specs.declared.keep.KeepAt.{KeepAt}
use Rattle.word_laws.specs.Memory.{Mem, put, stored}
use Rattle.word_laws.proofs.CallerLemmas.{equal_or, put-other}
use Rattle.chain_laws.specs.Chains.{tally}
use Rattle.chain_laws.proofs.CallerLemmas.{tally-else}
use Rattle.cache_laws.specs.Bins.{Item, Bin, blocks_of, word_of, Says}
use Rattle.cache_laws.specs.Puts.{cut_at, is_full, cut_of, released_at, item_of, keep_stage}
use Rattle.cache_laws.specs.Puts.{KeepNoted, HandFits}
use Rattle.cache_laws.specs.Good.{Task, keep_holds, IsOwn, CacheGood}
use Rattle.cache_laws.proofs.Words.{Leaves, to_stored, lists-same}
use Rattle.cache_laws.proofs.Seats.{at_call, goes}
use Rattle.cache_laws.proofs.Lists.{take-within, word-front, lists-cut}

-- the blocks of each stage are the bin's, and the one that is put
pub cut_within : (full : Bool) (bin : Bin) (x : ℕ) → tally x (blocks_of (cut_at full bin).items) ≤ tally x
    (blocks_of bin.items)
cut_within true bin x = take-within (most_items - 1) bin.items x
cut_within false bin x = omega arith

pub cut_inside : (bin : Bin) (x : ℕ) → 0 < tally x (blocks_of (cut_of bin).items) → 0 < tally x (blocks_of bin.items)
cut_inside bin x some = let h = cut_within (is_full bin) bin x in omega arith

abbrev Among : Bin → ℕ → ℕ → Type 0
Among bin block x = (0 < tally x (blocks_of bin.items)) ⊎ (Some block ≡ Some x)

pub put_within : (time block : ℕ) (bin : Bin) (x : ℕ)
    → 0 < tally x (blocks_of (item_of time block ∷ (cut_of bin).items)) → Among bin block x
put_within time block bin x some = equal_or block x
    (λ e. inr (ap Some e))
    (λ ne. inl (cut_inside bin x
    (let h = tally-else x block (blocks_of (cut_of bin).items) (λ e. ne (sym e)) in omega arith)))

pub keep_within : (time block : ℕ) (bin : Bin) (at : KeepAt) (x : ℕ)
    → 0 < tally x (blocks_of (keep_stage time block bin at).items) → Among bin block x
keep_within time block bin KeepAt.Lock x some = inl some
keep_within time block bin KeepAt.Items x some = inl some
keep_within time block bin (KeepAt.Head items) x some = inl some
keep_within time block bin (KeepAt.Walk tail) x some = inl some
keep_within time block bin (KeepAt.OldAge tail) x some = inl some
keep_within time block bin (KeepAt.Cut tail age) x some = inl some
keep_within time block bin (KeepAt.SetCleaned tail age) x some =
    inl (let h = take-within (most_items - 1) bin.items x in omega arith)
keep_within time block bin (KeepAt.SetLink items head released) x some = inl (cut_inside bin x some)
keep_within time block bin (KeepAt.SetAge items released) x some = inl (cut_inside bin x some)
keep_within time block bin (KeepAt.SetHead items released) x some = inl (cut_inside bin x some)
keep_within time block bin (KeepAt.SetItems items released) x some = put_within time block bin x some
keep_within time block bin (KeepAt.Used released) x some = put_within time block bin x some
keep_within time block bin (KeepAt.SetUsed released used) x some = put_within time block bin x some
keep_within time block bin (KeepAt.Unlock released) x some = put_within time block bin x some

-- a put goes on
pub kept_on : (k : Key) (g : ℕ → Bin) (m m' : Mem) (tasks : ℕ → Task) (t b time block : ℕ) (at next : KeepAt)
    → CacheGood k g m tasks → tasks t ≡ Task.Keeping b time block at → keep_holds at ≡ true → keep_holds next ≡ true
    → Leaves m m' b (IsOwn g (Task.Keeping b time block at)) → Says m' b (keep_stage time block (g b) next)
    → KeepNoted (g b) next → HandFits (m' cache_links) (m' cache_ages) time block (g b) next
    → CacheGood k g m' (put tasks t (Task.Keeping b time block next))
kept_on k g m m' tasks t b time block at next good is has has' leaves says noted fits =
    goes k g m m' tasks t b (Task.Keeping b time block at) (Task.Keeping b time block next) good is has refl has' refl
    refl (at_call k g m tasks t (Task.Keeping b time block at) is good) leaves (record {
      says = says;
      noted = noted;
      in_hand = fits;
      own = λ x some. keep_within time block (g b) next x some;
    })

-- a store on the words of a block that is in no list of the bin
pub link_said : (k : Key) (m : Mem) (b block v : ℕ) (bin : Bin) → block < k.span
    → tally block (blocks_of bin.items) ≡ 0 → Says m b bin → Says (stored k m (Word.CacheLink block) v) b bin
link_said k m b block v bin low none says =
    to_stored (λ x. Says x b bin) k m (Word.CacheLink block) v low (record {
      head = says.head;
      count' = says.count';
      used' = says.used';
      mean' = says.mean';
      threshold' = says.threshold';
      get' = says.get';
      cleaned' = says.cleaned';
      listed = lists-same (m cache_links) (m cache_ages) (put (m cache_links) block v) (m cache_ages) bin.items
          (λ x some. put-other (m cache_links) block v x
          (λ e. let h = ap (λ y. tally y (blocks_of bin.items)) e in omega arith)) (λ x some. refl) says.listed;
    })

pub age_said : (k : Key) (m : Mem) (b block v : ℕ) (bin : Bin) → block < k.span
    → tally block (blocks_of bin.items) ≡ 0 → Says m b bin → Says (stored k m (Word.CacheAge block) v) b bin
age_said k m b block v bin low none says =
    to_stored (λ x. Says x b bin) k m (Word.CacheAge block) v low (record {
      head = says.head;
      count' = says.count';
      used' = says.used';
      mean' = says.mean';
      threshold' = says.threshold';
      get' = says.get';
      cleaned' = says.cleaned';
      listed = lists-same (m cache_links) (m cache_ages) (m cache_links) (put (m cache_ages) block v) bin.items
          (λ x some. refl) (λ x some. put-other (m cache_ages) block v x
          (λ e. let h = ap (λ y. tally y (blocks_of bin.items)) e in omega arith)) says.listed;
    })

-- the list is cut behind a block
pub cut_said : (k : Key) (m : Mem) (b : ℕ) (bin : Bin) (front : List Item) (z : Item) (rest : List Item)
    → z.block < k.span → tally z.block (blocks_of front) ≡ 0 → Says m b (record bin { items = front ++ (z ∷ rest) })
    → Says (stored k m (Word.CacheLink z.block) 0) b (record bin { items = front ++ (z ∷ []) })
cut_said k m b bin front z rest low none says =
    to_stored (λ x. Says x b (record bin { items = front ++ (z ∷ []) })) k m (Word.CacheLink z.block) 0 low (record {
      head = says.head ∙ word-front front z rest;
      count' = says.count';
      used' = says.used';
      mean' = says.mean';
      threshold' = says.threshold';
      get' = says.get';
      cleaned' = says.cleaned';
      listed = lists-cut (m cache_links) (m cache_ages) front z rest none says.listed;
    })

-- a bin that is not full is put into as it is
pub linked : (m : Mem) (b time block : ℕ) (bin : Bin) (items head : ℕ) → is_full bin ≡ false → Says m b bin
    → Says m b (keep_stage time block bin (KeepAt.SetLink items head None))
linked m b time block bin items head room says =
    subst (λ full. Says m b (record (cut_at full bin) { count = bin.count })) (sym room) says

pub linked_noted : (bin : Bin) (items head : ℕ) → is_full bin ≡ false → items ≡ bin.count → head ≡ word_of bin.items
    → KeepNoted bin (KeepAt.SetLink items head None)
linked_noted bin items head room is at =
    subst (λ full. (items ≡ (cut_at full bin).count) × (head ≡ word_of (cut_at full bin).items)
    × (None ≡ released_at full bin.items)) (sym room) (is, at, refl)

-- one that is full: the blocks before the oldest
pub front_length : (bin : Bin) (front : List Item) (item : Item) → bin.count ≡ length bin.items
    → length bin.items ≤ most_items → is_full bin ≡ true → bin.items ≡ front ++ (item ∷ [])
    → length front ≡ most_items - 1
front_length bin front item counted few full is =
    let n = length-append front (item ∷ []) in
    let e = ap (λ (l : List Item). length l) is in
    let h : most_items ≤ bin.count = many full in omega arith
  where
    many : nat_le most_items bin.count ≡ true → most_items ≤ bin.count
    many h = grind (arith, nat_tests)

pub front_taken : (front : List Item) (item : Item) (items : List Item) (n : ℕ) → items ≡ front ++ (item ∷ [])
    → length front ≡ n → take n items ≡ front
front_taken front item items n is long =
    ap (take n) is ∙ ap (λ c. take c (front ++ (item ∷ []))) (sym long) ∙ take-append_seam front (item ∷ [])
