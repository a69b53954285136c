-- Each step of a sweep.
use Rattle.std.proofs.Common.{◌≡◌, inl, inr, ℕ, ◌-◌, ◌≤◌, Bool, true, false, cond, Some, None, List}
use Rattle.std.proofs.Common.{[], ◌∷◌, ◌++◌, length, refl, sym, ap, subst, arith, ◌∙◌}
use Rattle.std.specs.Prelude.{◌⊎◌, ◌==◌, slice_index}
use Rattle.std.proofs.lemmas.Bool.Decides.{nat_tests}
use Rattle.std.proofs.lemmas.List.{append_assoc, length-append}
use Rattle.cache_ages.specs.declared.times.Usage.{Usage}
use Rattle.cache_ages.specs.Times.{most_items, regular_threshold, soft_threshold}
use Rattle.pool_words.specs.declared.words.Key.{Key}
use Rattle.pool_words.specs.declared.words.Word.{Word}
use Rattle.pool_words.specs.Words.{cache_heads, cache_items, cache_used, cache_means, cache_thresholds}
use Rattle.pool_words.specs.Words.{cache_gets, cache_links, cache_ages}
use Rattle.word_codes.specs.Links.{link_of}
use Rattle.large_cache.specs.declared.sweep.Cleanup.{Cleanup}
use Rattle.large_cache.specs.declared.sweep.Walk.{Walk}
use Rattle.large_cache.specs.declared.sweep.JudgeAt.{JudgeAt}
use Rattle.large_cache.specs.declared.sweep.SweepAt.{SweepAt}
use Rattle.large_cache.specs.declared.sweep.SweepNext.{SweepNext}
use Rattle.large_cache.specs.Sweep.{judge_course, judge_learn, sweep_course, sweep_learn, sweep_begun}
use Rattle.large_cache.specs.Sweep.{sweep_headed, sweep_is_stale, with_stale, with_kept, sweep_walked}
use Rattle.large_cache.specs.List.{cut_behind}
use Rattle.word_laws.specs.Memory.{Mem, put, stored, after, found}
use Rattle.cache_laws.specs.Bins.{Item, Bin, blocks_of, ages_of, word_of, last_block, Lists, Says}
use Rattle.cache_laws.specs.Gets.{HasItems}
use Rattle.cache_laws.specs.Sweeps.{threshold_at, judged, goes_at, count_gone, cut_bin}
use Rattle.cache_laws.specs.Sweeps.{sweep_done, sweep_stage, JudgeNoted, AgeFits, LastStays}
use Rattle.cache_laws.specs.Sweeps.{WalkFits, AgeNoted, CutNoted, SweepNoted}
use Rattle.cache_laws.specs.Good.{Task, sweep_holds, IsOwn, BinFits, CacheGood}
use Rattle.cache_laws.specs.Steps.{sweep_of, task_swept, bins_swept}
use Rattle.cache_laws.proofs.Words.{Leaves, leaves_all, leaves_number, leaves_block, count_said, threshold_said}
use Rattle.cache_laws.proofs.Words.{cleaned_said, head_said}
use Rattle.cache_laws.proofs.Seats.{at_held, at_call, goes, waits}
use Rattle.cache_laws.proofs.Locks.{locks-as, frees}
use Rattle.cache_laws.proofs.Lists.{is_inside, block_inside, none_before}
use Rattle.cache_laws.proofs.Lists.{lists-at, last-end, link-end, link-item}
use Rattle.cache_laws.proofs.Gets.{is_zero, not_zero, empty_of, some_of}
use Rattle.cache_laws.proofs.Puts.{cut_said}
use Rattle.cache_laws.proofs.Sweeps.{go-more, all_judged, age_at, none_gone, swept_some, swept_none, none_of}
use Rattle.cache_laws.proofs.Sweeps.{sweep_within, swept_fits}

-- a sweep goes on
swept_on : (k : Key) (g : ℕ → Bin) (m m' : Mem) (tasks : ℕ → Task) (t b time : ℕ) (cleanup : Cleanup)
    (gone gone' : List ℕ) (at next : SweepAt) → CacheGood k g m tasks
    → tasks t ≡ Task.Sweeping b time cleanup gone at → sweep_holds at ≡ true → sweep_holds next ≡ true
    → Leaves m m' b (IsOwn g (Task.Sweeping b time cleanup gone at)) → Says m' b (sweep_stage cleanup time (g b) next)
    → SweepNoted cleanup time (g b) gone' next
    → CacheGood k g m' (put tasks t (Task.Sweeping b time cleanup gone' next))
swept_on k g m m' tasks t b time cleanup gone gone' at next good is has has' leaves says noted =
    goes k g m m' tasks t b (Task.Sweeping b time cleanup gone at) (Task.Sweeping b time cleanup gone' next) good is has
    refl has' refl refl (
      (at_call k g m tasks t (Task.Sweeping b time cleanup gone at) is good).0,
      λ z. absurd (let q : true ≡ false = sym has' ∙ z in cc),
    ) leaves (record {
      says = says;
      noted = noted;
      in_hand = tt;
      own = λ x some. inl (sweep_within cleanup time (g b) next x some);
    })

-- a seat without the lock goes on
unlocked : (k : Key) (g : ℕ → Bin) (m : Mem) (tasks : ℕ → Task) (t b time : ℕ) (cleanup : Cleanup) (gone : List ℕ)
    (at next : SweepAt) → CacheGood k g m tasks → tasks t ≡ Task.Sweeping b time cleanup gone at
    → sweep_holds at ≡ false → sweep_holds next ≡ false
    → CacheGood k g m (put tasks t (Task.Sweeping b time cleanup gone next))
unlocked k g m tasks t b time cleanup gone at next good is none none' =
    let call = at_call k g m tasks t (Task.Sweeping b time cleanup gone at) is good in
    waits k g m tasks t (Task.Sweeping b time cleanup gone at) (Task.Sweeping b time cleanup gone next) good is none
    none'
    (call.0, λ _. call.1 none) (λ x c z. let q : None ≡ Some x = z in absurd (cc))
    (λ o x ne z. let q : None ≡ Some x = z in absurd (cc))

ends : (k : Key) (g : ℕ → Bin) (m : Mem) (tasks : ℕ → Task) (t b time : ℕ) (cleanup : Cleanup) (gone : List ℕ)
    (at : SweepAt) → CacheGood k g m tasks → tasks t ≡ Task.Sweeping b time cleanup gone at → sweep_holds at ≡ false
    → CacheGood k g m (put tasks t Task.Away)
ends k g m tasks t b time cleanup gone at good is none =
    waits k g m tasks t (Task.Sweeping b time cleanup gone at) Task.Away good is none refl tt
    (λ x c z. let q : None ≡ Some x = z in absurd (cc)) (λ o x ne z. let q : None ≡ Some x = z in absurd (cc))

peeked : (k : Key) (g : ℕ → Bin) (m : Mem) (tasks : ℕ → Task) (t b time : ℕ) (cleanup : Cleanup) (gone : List ℕ)
    → CacheGood k g m tasks → tasks t ≡ Task.Sweeping b time cleanup gone SweepAt.Peek → (none : Bool)
    → CacheGood k g m
    (put tasks t (task_swept b time cleanup gone (cond none SweepNext.Passed (SweepNext.Goes SweepAt.Lock))))
peeked k g m tasks t b time cleanup gone good is true = ends k g m tasks t b time cleanup gone SweepAt.Peek good is refl
peeked k g m tasks t b time cleanup gone good is false =
    unlocked k g m tasks t b time cleanup gone SweepAt.Peek SweepAt.Lock good is refl refl

-- the bin was counted
begun : (k : Key) (g : ℕ → Bin) (m : Mem) (tasks : ℕ → Task) (t b time : ℕ) (cleanup : Cleanup) (gone : List ℕ)
    → CacheGood k g m tasks → tasks t ≡ Task.Sweeping b time cleanup gone SweepAt.Items → HasItems (g b).items
    → CacheGood k g m
    (put tasks t (Task.Sweeping b time cleanup gone (sweep_begun cleanup (m cache_items b))))
begun k g m tasks t b time Cleanup.Regular gone good is some =
    let here = Task.Sweeping b time Cleanup.Regular gone SweepAt.Items in
    let h = at_held k g m tasks t here is refl good in
    swept_on k g m m tasks t b time Cleanup.Regular gone gone SweepAt.Items
    (SweepAt.Judge (JudgeAt.Threshold (m cache_items b))) good is refl refl (leaves_all m b (IsOwn g here)) h.says
    (h.noted, some, (tt, h.says.count'))
begun k g m tasks t b time Cleanup.Soft gone good is some =
    let here = Task.Sweeping b time Cleanup.Soft gone SweepAt.Items in
    let h = at_held k g m tasks t here is refl good in
    swept_on k g m m tasks t b time Cleanup.Soft gone gone SweepAt.Items
    (SweepAt.Judge (JudgeAt.Threshold (m cache_items b))) good is refl refl (leaves_all m b (IsOwn g here)) h.says
    (h.noted, some, (tt, h.says.count'))
begun k g m tasks t b time Cleanup.Hard gone good is some =
    let here = Task.Sweeping b time Cleanup.Hard gone SweepAt.Items in
    let h = at_held k g m tasks t here is refl good in
    swept_on k g m m tasks t b time Cleanup.Hard gone gone SweepAt.Items (SweepAt.Head (m cache_items b) 0) good is refl
    refl (leaves_all m b (IsOwn g here)) h.says (h.noted, some, h.says.count', (λ age. refl))

counted : (k : Key) (g : ℕ → Bin) (m : Mem) (tasks : ℕ → Task) (t b time : ℕ) (cleanup : Cleanup) (gone : List ℕ)
    → CacheGood k g m tasks → tasks t ≡ Task.Sweeping b time cleanup gone SweepAt.Items → (none : Bool)
    → (m cache_items b == 0) ≡ none
    → CacheGood k g m (put tasks t (Task.Sweeping b time cleanup gone
    (cond none SweepAt.Unlock (sweep_begun cleanup (m cache_items b)))))
counted k g m tasks t b time cleanup gone good is true test =
    let here = Task.Sweeping b time cleanup gone SweepAt.Items in
    let h = at_held k g m tasks t here is refl good in
    let none = empty_of (g b).items
    (sym (good.bins b).counted ∙ sym h.says.count' ∙ is_zero (m cache_items b) test) in
    swept_on k g m m tasks t b time cleanup gone gone SweepAt.Items SweepAt.Unlock good is refl refl
    (leaves_all m b (IsOwn g here))
    (subst (Says m b) (sym (swept_none cleanup time (g b) (g b).items none)) h.says)
    (h.noted ∙ sym (none_of cleanup time (g b) (g b).items refl none))
counted k g m tasks t b time cleanup gone good is false test =
    let h = at_held k g m tasks t (Task.Sweeping b time cleanup gone SweepAt.Items) is refl good in
    begun k g m tasks t b time cleanup gone good is (some_of (g b).items
    (λ none. not_zero (m cache_items b) test (h.says.count' ∙ (good.bins b).counted ∙ none)))

-- the threshold is known
same_number : (a b : ℕ) → (a == b) ≡ true → a ≡ b
same_number a b is = grind (arith, nat_tests)

sets : (k : Key) (g : ℕ → Bin) (m : Mem) (tasks : ℕ → Task) (t b time : ℕ) (cleanup : Cleanup) (gone : List ℕ)
    (at : JudgeAt) (count old new : ℕ) → CacheGood k g m tasks
    → tasks t ≡ Task.Sweeping b time cleanup gone (SweepAt.Judge at) → count ≡ (g b).count → old ≡ (g b).threshold
    → new ≡ threshold_at cleanup time (g b) → (same : Bool) → (new == old) ≡ same
    → CacheGood k g m (put tasks t (Task.Sweeping b time cleanup gone
    (cond same (SweepAt.Head count new) (SweepAt.SetThreshold count new))))
sets k g m tasks t b time cleanup gone at count old new good is counts was now true test =
    let here = Task.Sweeping b time cleanup gone (SweepAt.Judge at) in
    let h = at_held k g m tasks t here is refl good in
    swept_on k g m m tasks t b time cleanup gone gone (SweepAt.Judge at) (SweepAt.Head count new) good is refl refl
    (leaves_all m b (IsOwn g here))
    (subst (λ v. Says m b (record (g b) { threshold = v })) (sym was ∙ sym (same_number new old test) ∙ now) h.says)
    (h.noted.0, h.noted.1, counts, (λ age. ap (λ v. sweep_is_stale cleanup time v age) now))
sets k g m tasks t b time cleanup gone at count old new good is counts was now false test =
    let here = Task.Sweeping b time cleanup gone (SweepAt.Judge at) in
    let h = at_held k g m tasks t here is refl good in
    swept_on k g m m tasks t b time cleanup gone gone (SweepAt.Judge at) (SweepAt.SetThreshold count new) good is refl
    refl (leaves_all m b (IsOwn g here)) h.says (h.noted.0, h.noted.1, counts, now)

judges : (k : Key) (g : ℕ → Bin) (m : Mem) (tasks : ℕ → Task) (t b time : ℕ) (cleanup : Cleanup) (gone : List ℕ)
    (at : JudgeAt) → CacheGood k g m tasks → tasks t ≡ Task.Sweeping b time cleanup gone (SweepAt.Judge at)
    → JudgeNoted cleanup (g b) at
    → CacheGood k g (after k m (judge_course b at)) (put tasks t (Task.Sweeping b time cleanup gone
    (judge_learn (sweep_of t b time cleanup) at (found m (judge_course b at)))))
judges k g m tasks t b time cleanup gone (JudgeAt.Threshold count) good is noted =
    let here = Task.Sweeping b time cleanup gone (SweepAt.Judge (JudgeAt.Threshold count)) in
    let h = at_held k g m tasks t here is refl good in
    swept_on k g m m tasks t b time cleanup gone gone (SweepAt.Judge (JudgeAt.Threshold count))
    (SweepAt.Judge (JudgeAt.Mean count (m cache_thresholds b))) good is refl refl (leaves_all m b (IsOwn g here)) h.says
    (h.noted.0, h.noted.1, (noted.0, noted.1, h.says.threshold'))
judges k g m tasks t b time Cleanup.Regular gone (JudgeAt.Mean count threshold) good is noted =
    let here = Task.Sweeping b time Cleanup.Regular gone (SweepAt.Judge (JudgeAt.Mean count threshold)) in
    let h = at_held k g m tasks t here is refl good in
    swept_on k g m m tasks t b time Cleanup.Regular gone gone (SweepAt.Judge (JudgeAt.Mean count threshold))
    (SweepAt.Judge (JudgeAt.Get count threshold (m cache_means b))) good is refl refl (leaves_all m b (IsOwn g here))
    h.says (h.noted.0, h.noted.1, (tt, noted.1, noted.2, h.says.mean'))
judges k g m tasks t b time Cleanup.Soft gone (JudgeAt.Mean count threshold) good is noted =
    let here = Task.Sweeping b time Cleanup.Soft gone (SweepAt.Judge (JudgeAt.Mean count threshold)) in
    let h = at_held k g m tasks t here is refl good in
    sets k g m tasks t b time Cleanup.Soft gone (JudgeAt.Mean count threshold) count threshold
    (soft_threshold threshold (m cache_means b)) good is noted.1 noted.2
    (ap (λ v. soft_threshold v (m cache_means b)) noted.2 ∙ ap (soft_threshold (g b).threshold) h.says.mean')
    (soft_threshold threshold (m cache_means b) == threshold) refl
judges k g m tasks t b time Cleanup.Hard gone (JudgeAt.Mean count threshold) good is noted = absurd noted.0
judges k g m tasks t b time cleanup gone (JudgeAt.Get count threshold mean) good is noted =
    let here = Task.Sweeping b time cleanup gone (SweepAt.Judge (JudgeAt.Get count threshold mean)) in
    let h = at_held k g m tasks t here is refl good in
    swept_on k g m m tasks t b time cleanup gone gone (SweepAt.Judge (JudgeAt.Get count threshold mean))
    (SweepAt.Judge (JudgeAt.Used count threshold mean (m cache_gets b))) good is refl refl
    (leaves_all m b (IsOwn g here)) h.says
    (h.noted.0, h.noted.1, (noted.0, noted.1, noted.2, noted.3, h.says.get'))
judges k g m tasks t b time Cleanup.Regular gone (JudgeAt.Used count threshold mean get) good is noted =
    let here = Task.Sweeping b time Cleanup.Regular gone (SweepAt.Judge (JudgeAt.Used count threshold mean get)) in
    let h = at_held k g m tasks t here is refl good in
    let used = h.says.used' in
    let usage : Usage = record {
      count = count;
      used = m cache_used b;
      mean = mean;
      threshold = threshold;
      get = get;
    } in
    sets k g m tasks t b time Cleanup.Regular gone (JudgeAt.Used count threshold mean get) count threshold
    (regular_threshold usage time) good is noted.1 noted.2
    (λ i. regular_threshold (record {
      count = noted.1 i;
      used = used i;
      mean = noted.3 i;
      threshold = noted.2 i;
      get = noted.4 i;
    }) time) (regular_threshold usage time == threshold) refl
judges k g m tasks t b time Cleanup.Soft gone (JudgeAt.Used count threshold mean get) good is noted = absurd noted.0
judges k g m tasks t b time Cleanup.Hard gone (JudgeAt.Used count threshold mean get) good is noted = absurd noted.0

-- the walk begins
headed : (k : Key) (g : ℕ → Bin) (m : Mem) (tasks : ℕ → Task) (t b time : ℕ) (cleanup : Cleanup) (gone : List ℕ)
    (count threshold : ℕ) → CacheGood k g m tasks
    → tasks t ≡ Task.Sweeping b time cleanup gone (SweepAt.Head count threshold) → (l : List Item) → (g b).items ≡ l
    → CacheGood k g m (put tasks t (Task.Sweeping b time cleanup gone
    (sweep_headed count threshold (link_of (m cache_heads b)))))
headed k g m tasks t b time cleanup gone count threshold good is [] at =
    let here = Task.Sweeping b time cleanup gone (SweepAt.Head count threshold) in
    let h = at_held k g m tasks t here is refl good in
    absurd (subst HasItems at h.noted.1)
headed k g m tasks t b time cleanup gone count threshold good is (x ∷ xs) at =
    let here = Task.Sweeping b time cleanup gone (SweepAt.Head count threshold) in
    let h = at_held k g m tasks t here is refl good in
    let walk : Walk
    = record { count = count; threshold = threshold; block = x.block; kept = None; stale = 0; newest = 0 } in
    subst (λ q. CacheGood k g m (put tasks t (Task.Sweeping b time cleanup gone (sweep_headed count threshold q))))
    (sym (ap link_of (h.says.head ∙ ap word_of at) ∙ link-item k.span x xs good.span
    (block_inside k (g b) [] x xs at (good.bins b))))
    (swept_on k g m m tasks t b time cleanup gone gone (SweepAt.Head count threshold) (SweepAt.Age walk) good is
    refl refl
    (leaves_all m b (IsOwn g here)) h.says (record {
      item = x;
      rest = xs;
      here = refl;
      fits = record {
        some = h.noted.1;
        counted = h.noted.2;
        judges = h.noted.3;
        front = [];
        stale' = [];
        is = at;
        kept' = refl;
        many = refl;
        newest' = tt;
        gone' = h.noted.0;
        all = tt;
        ends = inl refl;
      };
    }))

-- a block was judged
newest_more : (newest age count : ℕ) (stale : List Item) (item : Item) → count ≡ length stale → AgeFits newest stale
    → age ≡ item.age → AgeFits (cond (count == 0) age newest) (stale ++ (item ∷ []))
newest_more newest age count [] item many fits is =
    ap (λ c. cond (c == 0) age newest) many ∙ is
newest_more newest age count (y ∷ ys) item many fits is =
    ap (λ z. cond z age newest) (some count many) ∙ fits
  where
    some : (c : ℕ) → c ≡ length (y ∷ ys) → (c == 0) ≡ false
    some c is = grind (arith, nat_tests)

blocks-more : (xs : List Item) (x : Item) → blocks_of xs ++ (x.block ∷ []) ≡ blocks_of (xs ++ (x ∷ []))
blocks-more [] x = refl
blocks-more (y ∷ ys) x = ap (λ l. y.block ∷ l) (blocks-more ys x)

short : (k : Key) (bin : Bin) (front stale rest : List Item) → BinFits k bin → bin.items ≡ front ++ (stale ++ rest)
    → length stale ≤ most_items
short k bin front stale rest fits is =
    let a = length-append front (stale ++ rest) in let c = length-append stale rest in
    let e = ap (λ (l : List Item). length l) is in let f = fits.few in omega arith

aged : (k : Key) (g : ℕ → Bin) (m : Mem) (tasks : ℕ → Task) (t b time : ℕ) (cleanup : Cleanup) (gone : List ℕ)
    (walk : Walk) (age : ℕ) → CacheGood k g m tasks
    → tasks t ≡ Task.Sweeping b time cleanup gone (SweepAt.Age walk)
    → (noted : AgeNoted cleanup time (g b) gone walk) → age ≡ noted.item.age → (goes : Bool)
    → sweep_is_stale cleanup time walk.threshold age ≡ goes
    → CacheGood k g m (put tasks t (task_swept b time cleanup gone (cond goes
    (SweepNext.Stale walk.block (SweepAt.Link (with_stale walk age)))
    (SweepNext.Stays (SweepAt.Link (with_kept walk))))))
aged k g m tasks t b time cleanup gone walk age good is noted came true test =
    let here = Task.Sweeping b time cleanup gone (SweepAt.Age walk) in
    let h = at_held k g m tasks t here is refl good in
    let fits = noted.fits in
    let few = short k (g b) fits.front fits.stale' (noted.item ∷ noted.rest) (good.bins b) fits.is in
    let long = length-append fits.stale' (noted.item ∷ []) in
    let many = fits.many in
    swept_on k g m m tasks t b time cleanup gone (gone ++ (walk.block ∷ [])) (SweepAt.Age walk)
    (SweepAt.Link (with_stale walk age)) good is refl refl (leaves_all m b (IsOwn g here)) h.says (record {
      before = fits.front ++ fits.stale';
      item = noted.item;
      rest = noted.rest;
      here = noted.here;
      fits = record {
        some = fits.some;
        counted = fits.counted;
        judges = fits.judges;
        front = fits.front;
        stale' = fits.stale' ++ (noted.item ∷ []);
        is = fits.is
            ∙ ap (λ l. fits.front ++ l) (sym (append_assoc fits.stale' (noted.item ∷ []) noted.rest));
        kept' = fits.kept';
        many = omega (arith, few, long, many);
        newest' = newest_more walk.newest age walk.stale fits.stale' noted.item fits.many fits.newest' came;
        gone' = ap (λ l. l ++ (walk.block ∷ [])) fits.gone'
            ∙ ap (λ x. blocks_of fits.stale' ++ (x ∷ [])) noted.here ∙ blocks-more fits.stale' noted.item;
        all = go-more (goes_at cleanup time (g b)) fits.stale' noted.item fits.all
            (ap (goes_at cleanup time (g b)) (sym came) ∙ sym (fits.judges age) ∙ test);
        ends = fits.ends;
      };
      is = fits.is ∙ sym (append_assoc fits.front fits.stale' (noted.item ∷ noted.rest));
    })
aged k g m tasks t b time cleanup gone walk age good is noted came false test =
    let here = Task.Sweeping b time cleanup gone (SweepAt.Age walk) in
    let h = at_held k g m tasks t here is refl good in
    let fits = noted.fits in
    let before = fits.front ++ fits.stale' in
    let whole = fits.is ∙ sym (append_assoc fits.front fits.stale' (noted.item ∷ noted.rest)) in
    swept_on k g m m tasks t b time cleanup gone [] (SweepAt.Age walk) (SweepAt.Link (with_kept walk)) good is refl refl
    (leaves_all m b (IsOwn g here)) h.says (record {
      before = before;
      item = noted.item;
      rest = noted.rest;
      here = noted.here;
      fits = record {
        some = fits.some;
        counted = fits.counted;
        judges = fits.judges;
        front = before ++ (noted.item ∷ []);
        stale' = [];
        is = whole ∙ sym (append_assoc before (noted.item ∷ []) noted.rest);
        kept' = ap Some noted.here ∙ sym (last-end None before noted.item);
        many = refl;
        newest' = tt;
        gone' = refl;
        all = tt;
        ends = inr (record {
          front = before;
          last = noted.item;
          is = refl;
          stays = ap (goes_at cleanup time (g b)) (sym came) ∙ sym (fits.judges age) ∙ test;
        });
      };
      is = whole;
    })

-- the walk goes on, or all were judged
none_stale : (walk : Walk) (stale : List Item) → walk.stale ≡ length stale → (walk.stale == 0) ≡ true → stale ≡ []
none_stale walk [] many test = refl
none_stale walk (y ∷ ys) many test = absurd (let z = is_zero walk.stale test in omega (arith, many, z))

linked : (k : Key) (g : ℕ → Bin) (m : Mem) (tasks : ℕ → Task) (t b time : ℕ) (cleanup : Cleanup) (gone : List ℕ)
    (walk : Walk) → CacheGood k g m tasks → tasks t ≡ Task.Sweeping b time cleanup gone (SweepAt.Link walk)
    → WalkFits cleanup time (g b) gone walk [] → (none : Bool) → (walk.stale == 0) ≡ none
    → CacheGood k g m (put tasks t (Task.Sweeping b time cleanup gone
    (cond none SweepAt.Unlock (SweepAt.Cut walk))))
linked k g m tasks t b time cleanup gone walk good is fits true test =
    let here = Task.Sweeping b time cleanup gone (SweepAt.Link walk) in
    let h = at_held k g m tasks t here is refl good in
    let all = all_judged cleanup time (g b) gone walk fits in
    let empty = none_stale walk fits.stale' fits.many test in
    let zero' : count_gone cleanup time (g b) ≡ 0 = all.number ∙ ap (λ (l : List Item). length l) empty in
    swept_on k g m m tasks t b time cleanup gone gone (SweepAt.Link walk) SweepAt.Unlock good is refl refl
    (leaves_all m b (IsOwn g here))
    (subst (Says m b) (sym (swept_some cleanup time (g b) (g b).items fits.some
    ∙ none_gone (count_gone cleanup time (g b)) (judged cleanup time (g b)) zero')) h.says)
    (fits.gone' ∙ ap blocks_of (sym all.dropped))
linked k g m tasks t b time cleanup gone walk good is fits false test =
    let here = Task.Sweeping b time cleanup gone (SweepAt.Link walk) in
    let h = at_held k g m tasks t here is refl good in
    swept_on k g m m tasks t b time cleanup gone gone (SweepAt.Link walk) (SweepAt.Cut walk) good is refl refl
    (leaves_all m b (IsOwn g here)) h.says (record {
      fits = fits;
      stale = some_of fits.stale' (λ none. not_zero walk.stale test (fits.many ∙ none));
    })

walked : (k : Key) (g : ℕ → Bin) (m : Mem) (tasks : ℕ → Task) (t b time : ℕ) (cleanup : Cleanup) (gone : List ℕ)
    (walk : Walk) → CacheGood k g m tasks → tasks t ≡ Task.Sweeping b time cleanup gone (SweepAt.Link walk)
    → (rest : List Item) → WalkFits cleanup time (g b) gone walk rest → (before : List Item) (item : Item)
    → walk.block ≡ item.block → (g b).items ≡ before ++ (item ∷ rest)
    → CacheGood k g m (put tasks t (Task.Sweeping b time cleanup gone
    (sweep_walked walk (link_of (m cache_links walk.block)))))
walked k g m tasks t b time cleanup gone walk good is rest fits before item here whole = by rest fits read
  where
    says : Says m b (judged cleanup time (g b))
    says = (at_held k g m tasks t (Task.Sweeping b time cleanup gone (SweepAt.Link walk)) is refl good).says

    read : m cache_links walk.block ≡ word_of rest
    read = ap (m cache_links) here ∙ (lists-at (m cache_links) (m cache_ages) before item rest
        (subst (Lists (m cache_links) (m cache_ages)) whole says.listed)).0

    by : (rest : List Item) → WalkFits cleanup time (g b) gone walk rest → m cache_links walk.block ≡ word_of rest
        → CacheGood k g m (put tasks t (Task.Sweeping b time cleanup gone
        (sweep_walked walk (link_of (m cache_links walk.block)))))
    by [] fits read =
        subst (λ q. CacheGood k g m (put tasks t (Task.Sweeping b time cleanup gone (sweep_walked walk q))))
        (sym (ap link_of read ∙ link-end))
        (linked k g m tasks t b time cleanup gone walk good is fits (walk.stale == 0) refl)
    by (y ∷ ys) fits read =
        subst (λ q. CacheGood k g m (put tasks t (Task.Sweeping b time cleanup gone (sweep_walked walk q))))
        (sym (ap link_of read ∙ link-item k.span y ys good.span
        (block_inside k (g b) (fits.front ++ fits.stale') y ys
        (fits.is ∙ sym (append_assoc fits.front fits.stale' (y ∷ ys))) (good.bins b))))
        (swept_on k g m m tasks t b time cleanup gone gone (SweepAt.Link walk)
        (SweepAt.Age (record walk { block = y.block })) good is refl refl
        (leaves_all m b (IsOwn g (Task.Sweeping b time cleanup gone (SweepAt.Link walk)))) says (record {
          item = y;
          rest = ys;
          here = refl;
          fits = record {
            some = fits.some;
            counted = fits.counted;
            judges = fits.judges;
            front = fits.front;
            stale' = fits.stale';
            is = fits.is;
            kept' = fits.kept';
            many = fits.many;
            newest' = fits.newest';
            gone' = fits.gone';
            all = fits.all;
            ends = fits.ends;
          };
        }))

-- the list is cut behind the last block that stays
cuts : (k : Key) (g : ℕ → Bin) (m : Mem) (tasks : ℕ → Task) (t b time : ℕ) (cleanup : Cleanup) (gone : List ℕ)
    (walk : Walk) → CacheGood k g m tasks → tasks t ≡ Task.Sweeping b time cleanup gone (SweepAt.Cut walk)
    → (noted : CutNoted cleanup time (g b) gone walk)
    → (noted.fits.front ≡ []) ⊎ LastStays (goes_at cleanup time (g b)) noted.fits.front
    → CacheGood k g (after k m (cut_behind b walk.kept))
    (put tasks t (Task.Sweeping b time cleanup gone (SweepAt.SetItems walk)))
cuts k g m tasks t b time cleanup gone walk good is noted (inl none) =
    let here = Task.Sweeping b time cleanup gone (SweepAt.Cut walk) in
    let says = (at_held k g m tasks t here is refl good).says in
    let low = (at_call k g m tasks t here is good).0 in
    let all = all_judged cleanup time (g b) gone walk noted.fits in
    subst (λ q. CacheGood k g (after k m (cut_behind b q))
    (put tasks t (Task.Sweeping b time cleanup gone (SweepAt.SetItems walk))))
    (sym (noted.fits.kept' ∙ ap (last_block None) none))
    (swept_on k g m (stored k m (Word.CacheHead b) 0) tasks t b time cleanup gone gone (SweepAt.Cut walk)
    (SweepAt.SetItems walk) good is refl refl
    (leaves_number k m (Word.CacheHead b) 0 b (IsOwn g here) refl (omega arith) (omega arith))
    (subst (λ l. Says (stored k m (Word.CacheHead b) 0) b (record (judged cleanup time (g b)) { items = l }))
    (sym (all.taken ∙ none))
    (head_said k m b 0 (judged cleanup time (g b)) [] low refl tt says)) noted)
cuts k g m tasks t b time cleanup gone walk good is noted (inr last) =
    let here = Task.Sweeping b time cleanup gone (SweepAt.Cut walk) in
    let says = (at_held k g m tasks t here is refl good).says in
    let all = all_judged cleanup time (g b) gone walk noted.fits in
    let z = last.last in
    let whole : (g b).items ≡ last.front ++ (z ∷ noted.fits.stale')
    = all.whole ∙ ap (λ l. l ++ noted.fits.stale') last.is ∙ append_assoc last.front (z ∷ []) noted.fits.stale' in
    subst (λ q. CacheGood k g (after k m (cut_behind b q))
    (put tasks t (Task.Sweeping b time cleanup gone (SweepAt.SetItems walk))))
    (sym (noted.fits.kept' ∙ ap (last_block None) last.is ∙ last-end None last.front z))
    (swept_on k g m (stored k m (Word.CacheLink z.block) 0) tasks t b time cleanup gone gone (SweepAt.Cut walk)
    (SweepAt.SetItems walk) good is refl refl
    (leaves_block k m (Word.CacheLink z.block) 0 b (IsOwn g here)
    (inl (is_inside (g b) last.front z noted.fits.stale' whole)) (omega arith))
    (subst (λ l. Says (stored k m (Word.CacheLink z.block) 0) b (record (judged cleanup time (g b)) { items = l }))
    (sym (all.taken ∙ last.is))
    (cut_said k m b (judged cleanup time (g b)) last.front z noted.fits.stale'
    (block_inside k (g b) last.front z noted.fits.stale' whole (good.bins b))
    (none_before k (g b) last.front z noted.fits.stale' whole (good.bins b))
    (subst (λ l. Says m b (record (judged cleanup time (g b)) { items = l })) whole says))) noted)

-- what `cleaned` becomes
cleaned_is : (bin : Bin) (n newest : ℕ) (front stale : List Item) → HasItems stale → bin.items ≡ front ++ stale
    → n ≡ length stale → length bin.items - n ≡ length front → AgeFits newest stale
    → newest ≡ cond (n == 0) bin.cleaned (slice_index (ages_of bin.items) (length bin.items - n))
cleaned_is bin n newest front [] some whole number left fits = absurd some
cleaned_is bin n newest front (y ∷ ys) some whole number left fits =
    fits ∙ sym (age_at front y ys) ∙ ap (λ l. slice_index (ages_of l) (length front)) (sym whole)
    ∙ ap (slice_index (ages_of bin.items)) (sym left)
    ∙ ap (λ z. cond z bin.cleaned (slice_index (ages_of bin.items) (length bin.items - n))) (sym (more n number))
  where
    more : (c : ℕ) → c ≡ length (y ∷ ys) → (c == 0) ≡ false
    more c is = grind (arith, nat_tests)

pub sweeps-as : (k : Key) (g : ℕ → Bin) (m : Mem) (tasks : ℕ → Task) (t b time : ℕ) (cleanup : Cleanup) (gone : List ℕ)
    (at : SweepAt) → tasks t ≡ Task.Sweeping b time cleanup gone at → CacheGood k g m tasks
    → CacheGood k (bins_swept b time cleanup at g) (after k m (sweep_course (sweep_of t b time cleanup) at))
    (put tasks t (task_swept b time cleanup gone (sweep_learn (sweep_of t b time cleanup) at
    (found m (sweep_course (sweep_of t b time cleanup) at)))))
sweeps-as k g m tasks t b time cleanup gone SweepAt.Clock is good =
    ends k g m tasks t b time cleanup gone SweepAt.Clock good is refl
sweeps-as k g m tasks t b time cleanup gone SweepAt.Peek is good =
    peeked k g m tasks t b time cleanup gone good is (m cache_items b == 0)
sweeps-as k g m tasks t b time cleanup gone SweepAt.Lock is good =
    let call = at_call k g m tasks t (Task.Sweeping b time cleanup gone SweepAt.Lock) is good in
    locks-as k g m tasks t b (Task.Sweeping b time cleanup gone SweepAt.Lock)
    (λ won. task_swept b time cleanup gone (cond won (SweepNext.Goes SweepAt.Items) SweepNext.Waits)) good is refl
    call.0
    refl refl refl refl (call.0, λ z. absurd (let q : true ≡ false = z in cc)) (λ bin. refl) (call.1 refl)
    (λ links ages bin. tt)
sweeps-as k g m tasks t b time cleanup gone SweepAt.Items is good =
    counted k g m tasks t b time cleanup gone good is (m cache_items b == 0) refl
sweeps-as k g m tasks t b time cleanup gone (SweepAt.Judge at) is good =
    judges k g m tasks t b time cleanup gone at good is
    (at_held k g m tasks t (Task.Sweeping b time cleanup gone (SweepAt.Judge at)) is refl good).noted.2
sweeps-as k g m tasks t b time cleanup gone (SweepAt.SetThreshold count threshold) is good =
    let here = Task.Sweeping b time cleanup gone (SweepAt.SetThreshold count threshold) in
    let h = at_held k g m tasks t here is refl good in
    let low = (at_call k g m tasks t here is good).0 in
    swept_on k g m (stored k m (Word.CacheThreshold b) threshold) tasks t b time cleanup gone gone
    (SweepAt.SetThreshold count threshold) (SweepAt.Head count threshold) good is refl refl
    (leaves_number k m (Word.CacheThreshold b) threshold b (IsOwn g here) refl (omega arith) (omega arith))
    (subst (λ v. Says (stored k m (Word.CacheThreshold b) threshold) b (record (g b) { threshold = v })) h.noted.3
    (threshold_said k m b threshold (g b) low h.says))
    (h.noted.0, h.noted.1, h.noted.2, (λ age. ap (λ v. sweep_is_stale cleanup time v age) h.noted.3))
sweeps-as k g m tasks t b time cleanup gone (SweepAt.Head count threshold) is good =
    headed k g m tasks t b time cleanup gone count threshold good is (g b).items refl
sweeps-as k g m tasks t b time cleanup gone (SweepAt.Age walk) is good =
    let h = at_held k g m tasks t (Task.Sweeping b time cleanup gone (SweepAt.Age walk)) is refl good in
    let fits = h.noted.fits in
    let whole = fits.is ∙ sym (append_assoc fits.front fits.stale' (h.noted.item ∷ h.noted.rest)) in
    aged k g m tasks t b time cleanup gone walk (m cache_ages walk.block) good is h.noted
    (ap (m cache_ages) h.noted.here ∙ (lists-at (m cache_links) (m cache_ages) (fits.front ++ fits.stale') h.noted.item
    h.noted.rest (subst (Lists (m cache_links) (m cache_ages)) whole h.says.listed)).1)
    (sweep_is_stale cleanup time walk.threshold (m cache_ages walk.block)) refl
sweeps-as k g m tasks t b time cleanup gone (SweepAt.Link walk) is good =
    let h = at_held k g m tasks t (Task.Sweeping b time cleanup gone (SweepAt.Link walk)) is refl good in
    walked k g m tasks t b time cleanup gone walk good is h.noted.rest h.noted.fits h.noted.before h.noted.item
    h.noted.here h.noted.is
sweeps-as k g m tasks t b time cleanup gone (SweepAt.Cut walk) is good =
    let h = at_held k g m tasks t (Task.Sweeping b time cleanup gone (SweepAt.Cut walk)) is refl good in
    cuts k g m tasks t b time cleanup gone walk good is h.noted h.noted.fits.ends
sweeps-as k g m tasks t b time cleanup gone (SweepAt.SetItems walk) is good =
    let here = Task.Sweeping b time cleanup gone (SweepAt.SetItems walk) in
    let h = at_held k g m tasks t here is refl good in
    let low = (at_call k g m tasks t here is good).0 in
    let all = all_judged cleanup time (g b) gone walk h.noted.fits in
    let left = walk.count - walk.stale in
    let same : left ≡ (g b).count - count_gone cleanup time (g b)
    = ap (λ n. n - walk.stale) h.noted.fits.counted
    ∙ ap (λ n. (g b).count - n) (h.noted.fits.many ∙ sym all.number) in
    let old = record (judged cleanup time (g b)) { items = (cut_bin cleanup time (g b)).items } in
    swept_on k g m (stored k m (Word.CacheItems b) left) tasks t b time cleanup gone gone (SweepAt.SetItems walk)
    (SweepAt.SetCleaned walk) good is refl refl
    (leaves_number k m (Word.CacheItems b) left b (IsOwn g here) refl (omega arith) (omega arith))
    (subst (λ n. Says (stored k m (Word.CacheItems b) left) b (record old { count = n })) same
    (count_said k m b left old low h.says)) h.noted
sweeps-as k g m tasks t b time cleanup gone (SweepAt.SetCleaned walk) is good =
    let here = Task.Sweeping b time cleanup gone (SweepAt.SetCleaned walk) in
    let h = at_held k g m tasks t here is refl good in
    let low = (at_call k g m tasks t here is good).0 in
    let fits = h.noted.fits in
    let all = all_judged cleanup time (g b) gone walk fits in
    let n = count_gone cleanup time (g b) in
    let old = record (judged cleanup time (g b)) {
      count = (cut_bin cleanup time (g b)).count;
      items = (cut_bin cleanup time (g b)).items;
    } in
    swept_on k g m (stored k m (Word.CacheCleaned b) walk.newest) tasks t b time cleanup gone gone
    (SweepAt.SetCleaned walk) SweepAt.Unlock good is refl refl
    (leaves_number k m (Word.CacheCleaned b) walk.newest b (IsOwn g here) refl (omega arith) (omega arith))
    (subst (Says (stored k m (Word.CacheCleaned b) walk.newest) b)
    (sym (swept_some cleanup time (g b) (g b).items fits.some))
    (subst (λ v. Says (stored k m (Word.CacheCleaned b) walk.newest) b (record old { cleaned = v }))
    (cleaned_is (g b) n walk.newest fits.front fits.stale' h.noted.stale all.whole all.number all.left fits.newest')
    (cleaned_said k m b walk.newest old low h.says)))
    (fits.gone' ∙ ap blocks_of (sym all.dropped))
sweeps-as k g m tasks t b time cleanup gone SweepAt.Unlock is good =
    let here = Task.Sweeping b time cleanup gone SweepAt.Unlock in
    let h = at_held k g m tasks t here is refl good in
    frees k g m tasks t b here (sweep_done cleanup time (g b)) good is refl refl (at_call k g m tasks t here is good).0
    h.says (swept_fits k cleanup time (g b) (g b).items (good.bins b)) h.own
