-- Each step of a put.
use Rattle.std.proofs.Common.{◌≡◌, inl, inr, ℕ, ◌+◌, ◌-◌, ◌<◌, ◌≤◌, Bool, true, false, cond, Some, None, List}
use Rattle.std.proofs.Common.{[], ◌∷◌, ◌++◌, length, refl, sym, ap, subst, arith, ◌∙◌}
use Rattle.std.specs.Prelude.{nat_le, take, slice_index}
use Rattle.std.proofs.lemmas.Bool.Decides.{nat_tests}
use Rattle.std.proofs.lemmas.List.{append_assoc, length-take-le}
use Rattle.cache_ages.specs.Times.{most_items}
use Rattle.pool_types.specs.Sums.{capped}
use Rattle.pool_words.specs.declared.words.Key.{Key}
use Rattle.pool_words.specs.declared.words.Word.{Word}
use Rattle.pool_words.specs.Words.{cache_heads, cache_items, cache_used, cache_links, cache_ages}
use Rattle.word_codes.specs.Links.{link_of, link_word}
use Rattle.large_cache.specs.declared.keep.Tail.{Tail}
use Rattle.large_cache.specs.declared.keep.KeepAt.{KeepAt}
use Rattle.large_cache.specs.declared.keep.KeepNext.{KeepNext}
use Rattle.large_cache.specs.Keep.{keep_course, keep_learn, keep_headed, keep_walked, keep_released}
use Rattle.large_cache.specs.List.{cut_behind}
use Rattle.word_laws.specs.Memory.{Mem, put, stored, after, found}
use Rattle.word_laws.proofs.CallerLemmas.{equal_or, less_or, put-same}
use Rattle.chain_laws.specs.Chains.{tally}
use Rattle.chain_laws.proofs.CallerLemmas.{tally-here, tally-else}
use Rattle.cache_laws.specs.Bins.{Item, Bin, blocks_of, ages_of, word_of, last_block, Lists, Says}
use Rattle.cache_laws.specs.Puts.{cut_at, is_full, cut_of, released_at, item_of, keep_done}
use Rattle.cache_laws.specs.Puts.{TailFits, OldFits}
use Rattle.cache_laws.specs.Good.{Task, hand, IsOwn, BinFits, CacheGood}
use Rattle.cache_laws.specs.Steps.{keep_of, task_kept, bins_kept}
use Rattle.cache_laws.proofs.Words.{leaves_all, leaves_number, leaves_block, count_said, used_said, cleaned_said}
use Rattle.cache_laws.proofs.Words.{head_said, to_stored}
use Rattle.cache_laws.proofs.Seats.{at_held, at_call}
use Rattle.cache_laws.proofs.Locks.{locks-as, frees}
use Rattle.cache_laws.proofs.Lists.{is_inside, block_inside, none_before}
use Rattle.cache_laws.proofs.Lists.{lists-at, word-front, last-end, last-split, link-end, link-item}
use Rattle.cache_laws.proofs.Puts.{cut_within, cut_inside, put_within, kept_on, link_said, age_said, cut_said}
use Rattle.cache_laws.proofs.Puts.{linked, linked_noted}
use Rattle.cache_laws.proofs.Puts.{front_length, front_taken}

-- the block that is put is in no stage before it is the newest
absent : (k : Key) (g : ℕ → Bin) (m : Mem) (tasks : ℕ → Task) (t b time block : ℕ) (at : KeepAt)
    → tasks t ≡ Task.Keeping b time block at → CacheGood k g m tasks → tally block (blocks_of (cut_of (g b)).items) ≡ 0
absent k g m tasks t b time block at is good =
    let none = good.hands t block b (ap hand is) in
    less_or 0 (tally block (blocks_of (cut_of (g b)).items))
    (λ some. absurd (let h = cut_inside (g b) block some in omega arith)) (λ le. omega arith)

-- the newest block is found, or there is none
unfull : (k : Key) (g : ℕ → Bin) (m : Mem) (tasks : ℕ → Task) (t b time block items : ℕ) → CacheGood k g m tasks
    → tasks t ≡ Task.Keeping b time block (KeepAt.Head items) → is_full (g b) ≡ false
    → CacheGood k g m (put tasks t (Task.Keeping b time block (KeepAt.SetLink items (m cache_heads b) None)))
unfull k g m tasks t b time block items good is room =
    let here = Task.Keeping b time block (KeepAt.Head items) in
    let h = at_held k g m tasks t here is refl good in
    kept_on k g m m tasks t b time block (KeepAt.Head items) (KeepAt.SetLink items (m cache_heads b) None) good is refl
    refl (leaves_all m b (IsOwn g here)) (linked m b time block (g b) items (m cache_heads b) room h.says)
    (linked_noted (g b) items (m cache_heads b) room h.noted h.says.head) tt

headed : (k : Key) (g : ℕ → Bin) (m : Mem) (tasks : ℕ → Task) (t b time block items : ℕ) → CacheGood k g m tasks
    → tasks t ≡ Task.Keeping b time block (KeepAt.Head items) → (l : List Item) → (g b).items ≡ l
    → CacheGood k g m
    (put tasks t (Task.Keeping b time block (keep_headed items (m cache_heads b) (link_of (m cache_heads b)))))
headed k g m tasks t b time block items good is [] at =
    let here = Task.Keeping b time block (KeepAt.Head items) in
    let h = at_held k g m tasks t here is refl good in
    subst (λ q. CacheGood k g m (put tasks t (Task.Keeping b time block (keep_headed items (m cache_heads b) q))))
    (sym (ap link_of (h.says.head ∙ ap word_of at) ∙ link-end))
    (unfull k g m tasks t b time block items good is
    (ap (nat_le most_items) ((good.bins b).counted ∙ ap (λ (l : List Item). length l) at)))
headed k g m tasks t b time block items good is (x ∷ xs) at =
    let here = Task.Keeping b time block (KeepAt.Head items) in
    let h = at_held k g m tasks t here is refl good in
    subst (λ q. CacheGood k g m (put tasks t (Task.Keeping b time block (keep_headed items (m cache_heads b) q))))
    (sym (ap link_of (h.says.head ∙ ap word_of at) ∙ link-item k.span x xs good.span
    (block_inside k (g b) [] x xs at (good.bins b))))
    (by x xs at (nat_le most_items items) refl)
  where
    by : (x : Item) (xs : List Item) → (g b).items ≡ x ∷ xs → (full : Bool) → nat_le most_items items ≡ full
        → CacheGood k g m (put tasks t (Task.Keeping b time block (cond full
        (KeepAt.Walk (record { head = m cache_heads b; before = None; block = x.block }))
        (KeepAt.SetLink items (m cache_heads b) None))))
    by x xs at true full =
        let h = at_held k g m tasks t (Task.Keeping b time block (KeepAt.Head items)) is refl good in
        kept_on k g m m tasks t b time block (KeepAt.Head items)
        (KeepAt.Walk (record { head = m cache_heads b; before = None; block = x.block })) good is refl refl
        (leaves_all m b (IsOwn g (Task.Keeping b time block (KeepAt.Head items)))) h.says (
          xs,
          record {
            full = ap (nat_le most_items) (sym h.noted) ∙ full;
            head' = h.says.head;
            front = [];
            item = x;
            is = at;
            block' = refl;
            before' = refl;
          },
        ) tt
    by x xs at false full =
        let h = at_held k g m tasks t (Task.Keeping b time block (KeepAt.Head items)) is refl good in
        unfull k g m tasks t b time block items good is (ap (nat_le most_items) (sym h.noted) ∙ full)

-- the walk to the oldest
walked : (k : Key) (g : ℕ → Bin) (m : Mem) (tasks : ℕ → Task) (t b time block : ℕ) (tail : Tail) → CacheGood k g m tasks
    → tasks t ≡ Task.Keeping b time block (KeepAt.Walk tail) → (back : List Item) → TailFits (g b) tail back
    → CacheGood k g m
    (put tasks t (Task.Keeping b time block (keep_walked tail (link_of (m cache_links tail.block)))))
walked k g m tasks t b time block tail good is back fits = by back fits
  where
    says : Says m b (g b)
    says = (at_held k g m tasks t (Task.Keeping b time block (KeepAt.Walk tail)) is refl good).says

    read : (back : List Item) (fits : TailFits (g b) tail back) → m cache_links tail.block ≡ word_of back
    read back fits = ap (m cache_links) fits.block' ∙ (lists-at (m cache_links) (m cache_ages) fits.front fits.item back
        (subst (Lists (m cache_links) (m cache_ages)) fits.is says.listed)).0

    further : (ys : List Item) (y : Item) (fits : TailFits (g b) tail (y ∷ ys))
        → (g b).items ≡ (fits.front ++ (fits.item ∷ [])) ++ (y ∷ ys)
    further ys y fits = fits.is ∙ sym (append_assoc fits.front (fits.item ∷ []) (y ∷ ys))

    by : (back : List Item) (fits : TailFits (g b) tail back) → CacheGood k g m
        (put tasks t (Task.Keeping b time block (keep_walked tail (link_of (m cache_links tail.block)))))
    by [] fits =
        subst (λ q. CacheGood k g m (put tasks t (Task.Keeping b time block (keep_walked tail q))))
        (sym (ap link_of (read [] fits) ∙ link-end))
        (kept_on k g m m tasks t b time block (KeepAt.Walk tail) (KeepAt.OldAge tail) good is refl refl
        (leaves_all m b (IsOwn g (Task.Keeping b time block (KeepAt.Walk tail)))) says fits tt)
    by (y ∷ ys) fits =
        subst (λ q. CacheGood k g m (put tasks t (Task.Keeping b time block (keep_walked tail q))))
        (sym (ap link_of (read (y ∷ ys) fits) ∙ link-item k.span y ys good.span
        (block_inside k (g b) (fits.front ++ (fits.item ∷ [])) y ys (further ys y fits) (good.bins b))))
        (kept_on k g m m tasks t b time block (KeepAt.Walk tail)
        (KeepAt.Walk (record tail { before = Some tail.block; block = y.block })) good is refl refl
        (leaves_all m b (IsOwn g (Task.Keeping b time block (KeepAt.Walk tail)))) says (
          ys,
          record {
            full = fits.full;
            head' = fits.head';
            front = fits.front ++ (fits.item ∷ []);
            item = y;
            is = further ys y fits;
            block' = refl;
            before' = ap Some fits.block' ∙ sym (last-end None fits.front fits.item);
          },
        ) tt)

-- the oldest is cut off
cuts : (k : Key) (g : ℕ → Bin) (m : Mem) (tasks : ℕ → Task) (t b time block : ℕ) (tail : Tail) (age : ℕ)
    → CacheGood k g m tasks → tasks t ≡ Task.Keeping b time block (KeepAt.Cut tail age) → (front : List Item)
    → (fits : OldFits (g b) tail age) → fits.tail'.front ≡ front → length front ≡ most_items - 1
    → CacheGood k g (after k m (cut_behind b tail.before))
    (put tasks t (Task.Keeping b time block (KeepAt.SetCleaned tail age)))
cuts k g m tasks t b time block tail age good is [] fits at long = absurd (omega arith)
cuts k g m tasks t b time block tail age good is (x ∷ xs) fits at long =
    let s = last-split x xs in
    let front = s.0 in let z = s.1 in
    let whole : (g b).items ≡ front ++ (z ∷ (fits.tail'.item ∷ []))
    = fits.tail'.is ∙ ap (λ l. l ++ (fits.tail'.item ∷ [])) (at ∙ s.2)
    ∙ append_assoc front (z ∷ []) (fits.tail'.item ∷ []) in
    let taken : take (most_items - 1) (g b).items ≡ front ++ (z ∷ [])
    = front_taken (x ∷ xs) fits.tail'.item (g b).items (most_items - 1)
    (fits.tail'.is ∙ ap (λ l. l ++ (fits.tail'.item ∷ [])) at) long ∙ s.2 in
    let before : tail.before ≡ Some z.block
    = fits.tail'.before' ∙ ap (last_block None) (at ∙ s.2) ∙ last-end None front z in
    let here = Task.Keeping b time block (KeepAt.Cut tail age) in
    let says = (at_held k g m tasks t here is refl good).says in
    subst (λ q. CacheGood k g (after k m (cut_behind b q))
    (put tasks t (Task.Keeping b time block (KeepAt.SetCleaned tail age)))) (sym before)
    (kept_on k g m (stored k m (Word.CacheLink z.block) 0) tasks t b time block (KeepAt.Cut tail age)
    (KeepAt.SetCleaned tail age) good is refl refl
    (leaves_block k m (Word.CacheLink z.block) 0 b (IsOwn g here)
    (inl (is_inside (g b) front z (fits.tail'.item ∷ []) whole)) (omega arith))
    (subst (λ l. Says (stored k m (Word.CacheLink z.block) 0) b (record (g b) { items = l })) (sym taken)
    (cut_said k m b (g b) front z (fits.tail'.item ∷ [])
    (block_inside k (g b) front z (fits.tail'.item ∷ []) whole (good.bins b))
    (none_before k (g b) front z (fits.tail'.item ∷ []) whole (good.bins b))
    (subst (λ l. Says m b (record (g b) { items = l })) whole says))) fits tt)

old_is : (front : List Item) (item : Item) (n : ℕ) → length front ≡ n
    → item.age ≡ slice_index (ages_of (front ++ (item ∷ []))) n
old_is [] item n long = ap (slice_index (ages_of (item ∷ []))) long
old_is (x ∷ front) item n long =
    old_is front item (length front) refl ∙ step ∙ ap (slice_index (ages_of (x ∷ (front ++ (item ∷ []))))) long
  where
    step : slice_index (ages_of (front ++ (item ∷ []))) (length front)
        ≡ slice_index (ages_of (x ∷ (front ++ (item ∷ [])))) (length (x ∷ front))
    step = refl

-- when it came is noted
cleans : (k : Key) (g : ℕ → Bin) (m : Mem) (tasks : ℕ → Task) (t b time block : ℕ) (tail : Tail) (age : ℕ)
    → CacheGood k g m tasks → tasks t ≡ Task.Keeping b time block (KeepAt.SetCleaned tail age) → (front : List Item)
    → (fits : OldFits (g b) tail age) → fits.tail'.front ≡ front → length front ≡ most_items - 1
    → CacheGood k g (stored k m (Word.CacheCleaned b) age)
    (put tasks t (Task.Keeping b time block (keep_released tail tail.before)))
cleans k g m tasks t b time block tail age good is [] fits at long = absurd (omega arith)
cleans k g m tasks t b time block tail age good is (x ∷ xs) fits at long =
    let s = last-split x xs in
    let front = s.0 in let z = s.1 in
    let item = fits.tail'.item in
    let full : is_full (g b) ≡ true = fits.tail'.full in
    let is' : (g b).items ≡ (x ∷ xs) ++ (item ∷ []) = fits.tail'.is ∙ ap (λ l. l ++ (item ∷ [])) at in
    let whole : (g b).items ≡ front ++ (z ∷ (item ∷ []))
    = is' ∙ ap (λ l. l ++ (item ∷ [])) s.2 ∙ append_assoc front (z ∷ []) (item ∷ []) in
    let taken : take (most_items - 1) (g b).items ≡ front ++ (z ∷ [])
    = front_taken (x ∷ xs) item (g b).items (most_items - 1) is' long ∙ s.2 in
    let before : tail.before ≡ Some z.block
    = fits.tail'.before' ∙ ap (last_block None) (at ∙ s.2) ∙ last-end None front z in
    let cleaned : age ≡ slice_index (ages_of (g b).items) (most_items - 1)
    = fits.age' ∙ old_is (x ∷ xs) item (most_items - 1) long
    ∙ ap (λ l. slice_index (ages_of l) (most_items - 1)) (sym is') in
    let head : tail.head ≡ word_of (take (most_items - 1) (g b).items)
    = fits.tail'.head' ∙ ap word_of whole ∙ word-front front z (item ∷ []) ∙ ap word_of (sym taken) in
    let released : Some tail.block ≡ last_block None (g b).items
    = ap Some fits.tail'.block' ∙ sym (ap (last_block None) is' ∙ last-end None (x ∷ xs) item) in
    let here = Task.Keeping b time block (KeepAt.SetCleaned tail age) in
    let low = (at_call k g m tasks t here is good).0 in
    let says = (at_held k g m tasks t here is refl good).says in
    subst (λ q. CacheGood k g (stored k m (Word.CacheCleaned b) age)
    (put tasks t (Task.Keeping b time block (keep_released tail q)))) (sym before)
    (kept_on k g m (stored k m (Word.CacheCleaned b) age) tasks t b time block (KeepAt.SetCleaned tail age)
    (KeepAt.SetLink (most_items - 1) tail.head (Some tail.block)) good is refl refl
    (leaves_number k m (Word.CacheCleaned b) age b (IsOwn g here) refl (omega arith) (omega arith))
    (subst (λ z. Says (stored k m (Word.CacheCleaned b) age) b (record (cut_at z (g b)) { count = (g b).count }))
    (sym full)
    (subst (λ c. Says (stored k m (Word.CacheCleaned b) age) b
    (record (g b) { cleaned = c; items = take (most_items - 1) (g b).items })) cleaned
    (cleaned_said k m b age (record (g b) { items = take (most_items - 1) (g b).items }) low says)))
    (subst (λ z. (most_items - 1 ≡ (cut_at z (g b)).count) × (tail.head ≡ word_of (cut_at z (g b)).items)
    × (Some tail.block ≡ released_at z (g b).items)) (sym full) (refl, head, released)) tt)

-- the bin after a put is one
cut_count : (k : Key) (bin : Bin) → BinFits k bin → (full : Bool) → is_full bin ≡ full
    → ((cut_at full bin).count ≡ length (cut_at full bin).items) × ((cut_at full bin).count < most_items)
cut_count k bin fits true full = (
  sym (length-take-le (most_items - 1) bin.items
      (let c = fits.counted in let h = many (nat_le most_items bin.count) full refl in omega arith)),
  omega arith,
)
  where
    many : (z : Bool) → z ≡ true → nat_le most_items bin.count ≡ z → most_items ≤ bin.count
    many z is at = let e = at ∙ is in grind (arith, nat_tests)
cut_count k bin fits false full = (fits.counted, few full)
  where
    few : nat_le most_items bin.count ≡ false → bin.count < most_items
    few h = grind (arith, nat_tests)

keep_fits : (k : Key) (time block : ℕ) (bin : Bin) → BinFits k bin → block < k.span
    → tally block (blocks_of bin.items) ≡ 0 → BinFits k (keep_done time block bin)
keep_fits k time block bin fits low none =
    let c = cut_count k bin fits (is_full bin) refl in
    let n = c.0 in let few = c.1 in record {
      counted = omega arith;
      few = omega arith;
      inside = λ x some. elim (put_within time block bin x some) [
        | inl old ↦ fits.inside x old
        | inr same ↦ let e : block ≡ x = cc in omega arith
      ];
      once = λ x. by x;
    }
  where
    cut_le : (x : ℕ) → tally x (blocks_of (cut_of bin).items) ≤ tally x (blocks_of bin.items)
    cut_le x = cut_within (is_full bin) bin x

    by : (x : ℕ) → tally x (blocks_of (item_of time block ∷ (cut_of bin).items)) ≤ 1
    by x = equal_or x block
        (λ e. subst (λ y. tally y (blocks_of (item_of time block ∷ (cut_of bin).items)) ≤ 1) (sym e)
        (let t = tally-here block (blocks_of (cut_of bin).items) in let h = cut_le block in omega arith))
        (λ ne. let h = cut_le x in let o = fits.once x in
        let e = tally-else x block (blocks_of (cut_of bin).items) ne in omega arith)

cut_used : (full : Bool) (bin : Bin) → (cut_at full bin).used ≡ bin.used
cut_used true bin = refl
cut_used false bin = refl

pub keeps-as : (k : Key) (g : ℕ → Bin) (m : Mem) (tasks : ℕ → Task) (t b time block : ℕ) (at : KeepAt)
    → tasks t ≡ Task.Keeping b time block at → CacheGood k g m tasks
    → CacheGood k (bins_kept b time block at g) (after k m (keep_course (keep_of t b time block) at))
    (put tasks t (task_kept b time block (keep_learn at (found m (keep_course (keep_of t b time block) at)))))
keeps-as k g m tasks t b time block KeepAt.Lock is good =
    let call = at_call k g m tasks t (Task.Keeping b time block KeepAt.Lock) is good in
    locks-as k g m tasks t b (Task.Keeping b time block KeepAt.Lock)
    (λ won. task_kept b time block (cond won (KeepNext.Goes KeepAt.Items) KeepNext.Waits)) good is refl call.0 refl refl
    refl refl call (λ bin. refl) tt (λ links ages bin. tt)
keeps-as k g m tasks t b time block KeepAt.Items is good =
    let here = Task.Keeping b time block KeepAt.Items in
    let h = at_held k g m tasks t here is refl good in
    kept_on k g m m tasks t b time block KeepAt.Items (KeepAt.Head (m cache_items b)) good is refl refl
    (leaves_all m b (IsOwn g here)) h.says h.says.count' tt
keeps-as k g m tasks t b time block (KeepAt.Head items) is good =
    headed k g m tasks t b time block items good is (g b).items refl
keeps-as k g m tasks t b time block (KeepAt.Walk tail) is good =
    let h = at_held k g m tasks t (Task.Keeping b time block (KeepAt.Walk tail)) is refl good in
    walked k g m tasks t b time block tail good is h.noted.0 h.noted.1
keeps-as k g m tasks t b time block (KeepAt.OldAge tail) is good =
    let here = Task.Keeping b time block (KeepAt.OldAge tail) in
    let h = at_held k g m tasks t here is refl good in
    kept_on k g m m tasks t b time block (KeepAt.OldAge tail) (KeepAt.Cut tail (m cache_ages tail.block)) good is refl
    refl (leaves_all m b (IsOwn g here)) h.says (record {
      tail' = h.noted;
      age' = ap (m cache_ages) h.noted.block'
          ∙ (lists-at (m cache_links) (m cache_ages) h.noted.front h.noted.item []
          (subst (Lists (m cache_links) (m cache_ages)) h.noted.is h.says.listed)).1;
    }) tt
keeps-as k g m tasks t b time block (KeepAt.Cut tail age) is good =
    let h = at_held k g m tasks t (Task.Keeping b time block (KeepAt.Cut tail age)) is refl good in
    let old = h.noted.tail' in
    cuts k g m tasks t b time block tail age good is old.front h.noted refl
    (front_length (g b) old.front old.item (good.bins b).counted (good.bins b).few old.full old.is)
keeps-as k g m tasks t b time block (KeepAt.SetCleaned tail age) is good =
    let h = at_held k g m tasks t (Task.Keeping b time block (KeepAt.SetCleaned tail age)) is refl good in
    let old = h.noted.tail' in
    cleans k g m tasks t b time block tail age good is old.front h.noted refl
    (front_length (g b) old.front old.item (good.bins b).counted (good.bins b).few old.full old.is)
keeps-as k g m tasks t b time block (KeepAt.SetLink items head released) is good =
    let here = Task.Keeping b time block (KeepAt.SetLink items head released) in
    let h = at_held k g m tasks t here is refl good in
    let low = (at_call k g m tasks t here is good).1 in
    kept_on k g m (stored k m (Word.CacheLink block) head) tasks t b time block (KeepAt.SetLink items head released)
    (KeepAt.SetAge items released) good is refl refl
    (leaves_block k m (Word.CacheLink block) head b (IsOwn g here) (inr refl) (omega arith))
    (link_said k m b block head (record (cut_of (g b)) { count = (g b).count }) low
    (absent k g m tasks t b time block (KeepAt.SetLink items head released) is good) h.says)
    (h.noted.0, h.noted.2)
    (to_stored (λ x. x cache_links block ≡ word_of (cut_of (g b)).items) k m (Word.CacheLink block) head low
    (put-same (m cache_links) block head ∙ h.noted.1))
keeps-as k g m tasks t b time block (KeepAt.SetAge items released) is good =
    let here = Task.Keeping b time block (KeepAt.SetAge items released) in
    let h = at_held k g m tasks t here is refl good in
    let low = (at_call k g m tasks t here is good).1 in
    kept_on k g m (stored k m (Word.CacheAge block) time) tasks t b time block (KeepAt.SetAge items released)
    (KeepAt.SetHead items released) good is refl refl
    (leaves_block k m (Word.CacheAge block) time b (IsOwn g here) (inr refl) (omega arith))
    (age_said k m b block time (record (cut_of (g b)) { count = (g b).count }) low
    (absent k g m tasks t b time block (KeepAt.SetAge items released) is good) h.says) h.noted
    (to_stored (λ x. (x cache_links block ≡ word_of (cut_of (g b)).items) × (x cache_ages block ≡ time)) k m
    (Word.CacheAge block) time low (h.in_hand, put-same (m cache_ages) block time))
keeps-as k g m tasks t b time block (KeepAt.SetHead items released) is good =
    let here = Task.Keeping b time block (KeepAt.SetHead items released) in
    let h = at_held k g m tasks t here is refl good in
    let low = (at_call k g m tasks t here is good).0 in
    kept_on k g m (stored k m (Word.CacheHead b) (link_word (Some block))) tasks t b time block
    (KeepAt.SetHead items released) (KeepAt.SetItems items released) good is refl refl
    (leaves_number k m (Word.CacheHead b) (link_word (Some block)) b (IsOwn g here) refl (omega arith) (omega arith))
    (head_said k m b (link_word (Some block)) (record (cut_of (g b)) { count = (g b).count })
    (item_of time block ∷ (cut_of (g b)).items) low refl (h.in_hand.0, h.in_hand.1, h.says.listed) h.says) h.noted tt
keeps-as k g m tasks t b time block (KeepAt.SetItems items released) is good =
    let here = Task.Keeping b time block (KeepAt.SetItems items released) in
    let h = at_held k g m tasks t here is refl good in
    let low = (at_call k g m tasks t here is good).0 in
    kept_on k g m (stored k m (Word.CacheItems b) (capped (items + 1))) tasks t b time block
    (KeepAt.SetItems items released) (KeepAt.Used released) good is refl refl
    (leaves_number k m (Word.CacheItems b) (capped (items + 1)) b (IsOwn g here) refl (omega arith) (omega arith))
    (subst (λ n. Says (stored k m (Word.CacheItems b) (capped (n + 1))) b
    (record (keep_done time block (g b)) { used = (cut_of (g b)).used })) (sym h.noted.0)
    (count_said k m b (capped ((cut_of (g b)).count + 1))
    (record (cut_of (g b)) { count = (g b).count; items = (keep_done time block (g b)).items }) low h.says))
    h.noted.1 tt
keeps-as k g m tasks t b time block (KeepAt.Used released) is good =
    let here = Task.Keeping b time block (KeepAt.Used released) in
    let h = at_held k g m tasks t here is refl good in
    kept_on k g m m tasks t b time block (KeepAt.Used released) (KeepAt.SetUsed released (m cache_used b)) good is refl
    refl (leaves_all m b (IsOwn g here)) h.says (h.noted, h.says.used' ∙ cut_used (is_full (g b)) (g b)) tt
keeps-as k g m tasks t b time block (KeepAt.SetUsed released used) is good =
    let here = Task.Keeping b time block (KeepAt.SetUsed released used) in
    let h = at_held k g m tasks t here is refl good in
    let low = (at_call k g m tasks t here is good).0 in
    kept_on k g m (stored k m (Word.CacheUsed b) (used - 1)) tasks t b time block (KeepAt.SetUsed released used)
    (KeepAt.Unlock released) good is refl refl
    (leaves_number k m (Word.CacheUsed b) (used - 1) b (IsOwn g here) refl (omega arith) (omega arith))
    (subst (λ u. Says (stored k m (Word.CacheUsed b) (u - 1)) b (keep_done time block (g b))) (sym h.noted.1)
    (used_said k m b ((g b).used - 1) (record (keep_done time block (g b)) { used = (cut_of (g b)).used }) low h.says))
    h.noted.0 tt
keeps-as k g m tasks t b time block (KeepAt.Unlock released) is good =
    let here = Task.Keeping b time block (KeepAt.Unlock released) in
    let h = at_held k g m tasks t here is refl good in
    let call = at_call k g m tasks t here is good in
    frees k g m tasks t b here (keep_done time block (g b)) good is refl refl call.0 h.says
    (keep_fits k time block (g b) (good.bins b) call.1 (good.hands t block b (ap hand is))) h.own
