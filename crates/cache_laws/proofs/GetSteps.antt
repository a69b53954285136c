-- Each step of a get and of an undo.
use Rattle.std.proofs.Common.{◌≡◌, inl, ℕ, ◌+◌, ◌-◌, Bool, true, false, cond, Option, Some, None, List, []}
use Rattle.std.proofs.Common.{◌∷◌, refl, sym, ap, subst, arith, ◌∙◌}
use Rattle.std.specs.Prelude.{◌==◌}
use Rattle.cache_ages.specs.Times.{span_between, mean_after_hit, threshold_after_miss}
use Rattle.pool_types.specs.Sums.{capped}
use Rattle.pool_words.specs.declared.words.Key.{Key}
use Rattle.pool_words.specs.declared.words.Word.{Word}
use Rattle.pool_words.specs.Words.{cache_heads, cache_items, cache_used, cache_means, cache_cleaned}
use Rattle.pool_words.specs.Words.{cache_links, cache_ages}
use Rattle.word_codes.specs.Links.{link_of}
use Rattle.large_cache.specs.declared.get.HitAt.{HitAt}
use Rattle.large_cache.specs.declared.get.GetAt.{GetAt}
use Rattle.large_cache.specs.declared.get.GetNext.{GetNext}
use Rattle.large_cache.specs.declared.undo.UndoAt.{UndoAt}
use Rattle.large_cache.specs.declared.undo.UndoNext.{UndoNext}
use Rattle.large_cache.specs.Get.{get_course, get_learn, get_unlocked, get_headed, hit_course, hit_learn}
use Rattle.large_cache.specs.Undo.{undo_course, undo_learn}
use Rattle.word_laws.specs.Memory.{Mem, put, stored, after, found}
use Rattle.cache_laws.specs.Bins.{Item, Bin, Says, word_of}
use Rattle.cache_laws.specs.Gets.{get_done, HasItems, HitNoted, undo_done}
use Rattle.cache_laws.specs.Good.{Task, IsOwn, CacheGood}
use Rattle.cache_laws.specs.Steps.{call_of, task_got, task_undone, bins_got, bins_undone}
use Rattle.cache_laws.proofs.Words.{leaves_all, leaves_number, used_said}
use Rattle.cache_laws.proofs.Seats.{at_held, at_call, goes}
use Rattle.cache_laws.proofs.Locks.{locks-as, frees}
use Rattle.cache_laws.proofs.Lists.{link-item, block_inside}
use Rattle.cache_laws.proofs.Gets.{is_zero, not_zero, empty_of, some_of, got_on, link_noted, age_noted, mean_noted}
use Rattle.cache_laws.proofs.Gets.{popped, items_set, mean_set, pop_noted, items_noted, block_noted, uncleaned}
use Rattle.cache_laws.proofs.Gets.{threshold_set}
use Rattle.cache_laws.proofs.Gets.{cleaned_clear, none_taken, time_set, used_set, got_fits}

-- the bin was counted
counted : (k : Key) (g : ℕ → Bin) (m : Mem) (tasks : ℕ → Task) (t b time : ℕ) → CacheGood k g m tasks
    → tasks t ≡ Task.Getting b time GetAt.Items → (empty : Bool) → (m cache_items b == 0) ≡ empty
    → CacheGood k g m (put tasks t (Task.Getting b time (cond empty GetAt.Cleaned (GetAt.Head (m cache_items b)))))
counted k g m tasks t b time good is true test =
    let h = at_held k g m tasks t (Task.Getting b time GetAt.Items) is refl good in
    got_on k g m m tasks t b time GetAt.Items GetAt.Cleaned good is refl refl
    (leaves_all m b (IsOwn g (Task.Getting b time GetAt.Items))) h.says
    (empty_of (g b).items (sym (good.bins b).counted ∙ sym h.says.count' ∙ is_zero (m cache_items b) test))
counted k g m tasks t b time good is false test =
    let h = at_held k g m tasks t (Task.Getting b time GetAt.Items) is refl good in
    got_on k g m m tasks t b time GetAt.Items (GetAt.Head (m cache_items b)) good is refl refl
    (leaves_all m b (IsOwn g (Task.Getting b time GetAt.Items))) h.says (
      h.says.count',
      some_of (g b).items
          (λ none. not_zero (m cache_items b) test (h.says.count' ∙ (good.bins b).counted ∙ none)),
    )

-- the newest block
headed : (k : Key) (g : ℕ → Bin) (m : Mem) (tasks : ℕ → Task) (t b time items : ℕ) → CacheGood k g m tasks
    → tasks t ≡ Task.Getting b time (GetAt.Head items) → (l : List Item) → (g b).items ≡ l
    → CacheGood k g m (put tasks t (Task.Getting b time (get_headed items (link_of (m cache_heads b)))))
headed k g m tasks t b time items good is [] at =
    let h = at_held k g m tasks t (Task.Getting b time (GetAt.Head items)) is refl good in
    absurd (subst HasItems at h.noted.1)
headed k g m tasks t b time items good is (x ∷ xs) at =
    let h = at_held k g m tasks t (Task.Getting b time (GetAt.Head items)) is refl good in
    subst (λ q. CacheGood k g m (put tasks t (Task.Getting b time (get_headed items q))))
    (sym (ap link_of (h.says.head ∙ ap word_of at) ∙ link-item k.span x xs good.span
    (block_inside k (g b) [] x xs at (good.bins b))))
    (got_on k g m m tasks t b time (GetAt.Head items) (GetAt.Hit (HitAt.Link items x.block)) good is refl refl
    (leaves_all m b (IsOwn g (Task.Getting b time (GetAt.Head items)))) h.says
    (subst (λ l. HitNoted (g b) l (HitAt.Link items x.block)) (sym at) (h.noted.0, refl)))

-- a block is taken
hits : (k : Key) (g : ℕ → Bin) (m : Mem) (tasks : ℕ → Task) (t b time : ℕ) (at : HitAt) → CacheGood k g m tasks
    → tasks t ≡ Task.Getting b time (GetAt.Hit at)
    → CacheGood k g (after k m (hit_course (call_of t b time) at))
    (put tasks t (Task.Getting b time (hit_learn at (found m (hit_course (call_of t b time) at)))))
hits k g m tasks t b time (HitAt.Link items block) good is =
    let here = Task.Getting b time (GetAt.Hit (HitAt.Link items block)) in
    let h = at_held k g m tasks t here is refl good in
    got_on k g m m tasks t b time (GetAt.Hit (HitAt.Link items block))
    (GetAt.Hit (HitAt.Age items block (m cache_links block))) good is refl refl (leaves_all m b (IsOwn g here)) h.says
    (link_noted (m cache_links) (m cache_ages) (g b) (g b).items items block h.says.listed h.noted)
hits k g m tasks t b time (HitAt.Age items block link) good is =
    let here = Task.Getting b time (GetAt.Hit (HitAt.Age items block link)) in
    let h = at_held k g m tasks t here is refl good in
    got_on k g m m tasks t b time (GetAt.Hit (HitAt.Age items block link))
    (GetAt.Hit (HitAt.Mean items block link (m cache_ages block))) good is refl refl (leaves_all m b (IsOwn g here))
    h.says (age_noted (m cache_links) (m cache_ages) (g b) (g b).items items block link h.says.listed h.noted)
hits k g m tasks t b time (HitAt.Mean items block link age) good is =
    let here = Task.Getting b time (GetAt.Hit (HitAt.Mean items block link age)) in
    let h = at_held k g m tasks t here is refl good in
    got_on k g m m tasks t b time (GetAt.Hit (HitAt.Mean items block link age))
    (GetAt.Hit (HitAt.Pop (record { items = items; block = block; link = link; age = age; mean = m cache_means b })))
    good is refl refl (leaves_all m b (IsOwn g here)) h.says
    (mean_noted (g b) (g b).items items block link age (m cache_means b) h.says.mean' h.noted)
hits k g m tasks t b time (HitAt.Pop n) good is =
    let here = Task.Getting b time (GetAt.Hit (HitAt.Pop n)) in
    let h = at_held k g m tasks t here is refl good in
    let low = at_call k g m tasks t here is good in
    got_on k g m (stored k m (Word.CacheHead b) n.link) tasks t b time (GetAt.Hit (HitAt.Pop n))
    (GetAt.Hit (HitAt.SetItems n)) good is refl refl
    (leaves_number k m (Word.CacheHead b) n.link b (IsOwn g here) refl (omega arith) (omega arith))
    (popped k m b time (g b) (g b).items n low h.says h.noted) (pop_noted (g b) (g b).items n h.noted)
hits k g m tasks t b time (HitAt.SetItems n) good is =
    let here = Task.Getting b time (GetAt.Hit (HitAt.SetItems n)) in
    let h = at_held k g m tasks t here is refl good in
    let low = at_call k g m tasks t here is good in
    got_on k g m (stored k m (Word.CacheItems b) (n.items - 1)) tasks t b time (GetAt.Hit (HitAt.SetItems n))
    (GetAt.Hit (HitAt.SetMean n)) good is refl refl
    (leaves_number k m (Word.CacheItems b) (n.items - 1) b (IsOwn g here) refl (omega arith) (omega arith))
    (items_set k m b time (g b) (g b).items n low h.says h.noted) (items_noted (g b) (g b).items n h.noted)
hits k g m tasks t b time (HitAt.SetMean n) good is =
    let here = Task.Getting b time (GetAt.Hit (HitAt.SetMean n)) in
    let h = at_held k g m tasks t here is refl good in
    let low = at_call k g m tasks t here is good in
    let mean = mean_after_hit n.mean (span_between n.age time) in
    got_on k g m (stored k m (Word.CacheMean b) mean) tasks t b time (GetAt.Hit (HitAt.SetMean n))
    (GetAt.SetTime (Some n.block)) good is refl refl
    (leaves_number k m (Word.CacheMean b) mean b (IsOwn g here) refl (omega arith) (omega arith))
    (mean_set k m b time (g b) (g b).items n low h.says h.noted) (block_noted (g b) (g b).items n h.noted)

-- a get misses
cleaned_seen : (k : Key) (g : ℕ → Bin) (m : Mem) (tasks : ℕ → Task) (t b time : ℕ) → CacheGood k g m tasks
    → tasks t ≡ Task.Getting b time GetAt.Cleaned → (none : Bool) → (m cache_cleaned b == 0) ≡ none
    → CacheGood k g m
    (put tasks t (Task.Getting b time (cond none (GetAt.SetTime None) (GetAt.SetThreshold (m cache_cleaned b)))))
cleaned_seen k g m tasks t b time good is true test =
    let h = at_held k g m tasks t (Task.Getting b time GetAt.Cleaned) is refl good in
    got_on k g m m tasks t b time GetAt.Cleaned (GetAt.SetTime None) good is refl refl
    (leaves_all m b (IsOwn g (Task.Getting b time GetAt.Cleaned)))
    (uncleaned m b time (g b) (g b).items h.noted (sym h.says.cleaned' ∙ is_zero (m cache_cleaned b) test) h.says)
    (none_taken (g b).items h.noted)
cleaned_seen k g m tasks t b time good is false test =
    let h = at_held k g m tasks t (Task.Getting b time GetAt.Cleaned) is refl good in
    got_on k g m m tasks t b time GetAt.Cleaned (GetAt.SetThreshold (m cache_cleaned b)) good is refl refl
    (leaves_all m b (IsOwn g (Task.Getting b time GetAt.Cleaned))) h.says
    (h.noted, h.says.cleaned', not_zero (m cache_cleaned b) test)

got_end : (b time : ℕ) (block : Option ℕ) → task_got b time (get_unlocked block) ≡ Task.Away
got_end b time (Some block) = refl
got_end b time None = refl

pub gets-as : (k : Key) (g : ℕ → Bin) (m : Mem) (tasks : ℕ → Task) (t b time : ℕ) (at : GetAt)
    → tasks t ≡ Task.Getting b time at → CacheGood k g m tasks
    → CacheGood k (bins_got b time at g) (after k m (get_course (call_of t b time) at))
    (put tasks t (task_got b time (get_learn at (found m (get_course (call_of t b time) at)))))
gets-as k g m tasks t b time GetAt.Lock is good =
    let low = at_call k g m tasks t (Task.Getting b time GetAt.Lock) is good in
    locks-as k g m tasks t b (Task.Getting b time GetAt.Lock)
    (λ won. task_got b time (cond won (GetNext.Goes GetAt.Items) GetNext.Waits)) good is refl low refl refl refl
    refl low
    (λ bin. refl) tt (λ links ages bin. tt)
gets-as k g m tasks t b time GetAt.Items is good =
    counted k g m tasks t b time good is (m cache_items b == 0) refl
gets-as k g m tasks t b time (GetAt.Head items) is good =
    headed k g m tasks t b time items good is (g b).items refl
gets-as k g m tasks t b time (GetAt.Hit at) is good = hits k g m tasks t b time at good is
gets-as k g m tasks t b time GetAt.Cleaned is good =
    cleaned_seen k g m tasks t b time good is (m cache_cleaned b == 0) refl
gets-as k g m tasks t b time (GetAt.SetThreshold c) is good =
    let here = Task.Getting b time (GetAt.SetThreshold c) in
    let h = at_held k g m tasks t here is refl good in
    let low = at_call k g m tasks t here is good in
    got_on k g m (stored k m (Word.CacheThreshold b) (threshold_after_miss 0 c time)) tasks t b time
    (GetAt.SetThreshold c) GetAt.ClearCleaned good is refl refl
    (leaves_number k m (Word.CacheThreshold b) (threshold_after_miss 0 c time) b (IsOwn g here) refl (omega arith)
    (omega arith))
    (threshold_set k m b time (g b) (g b).items c low h.noted.0 h.noted.1 h.noted.2 h.says) h.noted.0
gets-as k g m tasks t b time GetAt.ClearCleaned is good =
    let here = Task.Getting b time GetAt.ClearCleaned in
    let h = at_held k g m tasks t here is refl good in
    let low = at_call k g m tasks t here is good in
    got_on k g m (stored k m (Word.CacheCleaned b) 0) tasks t b time GetAt.ClearCleaned (GetAt.SetTime None) good is
    refl refl (leaves_number k m (Word.CacheCleaned b) 0 b (IsOwn g here) refl (omega arith) (omega arith))
    (cleaned_clear k m b time (g b) (g b).items low h.noted h.says) (none_taken (g b).items h.noted)
gets-as k g m tasks t b time (GetAt.SetTime block) is good =
    let here = Task.Getting b time (GetAt.SetTime block) in
    let h = at_held k g m tasks t here is refl good in
    let low = at_call k g m tasks t here is good in
    got_on k g m (stored k m (Word.CacheGet b) time) tasks t b time (GetAt.SetTime block) (GetAt.Used block) good is
    refl refl (leaves_number k m (Word.CacheGet b) time b (IsOwn g here) refl (omega arith) (omega arith))
    (time_set k m b time (g b) (g b).items block low h.says) h.noted
gets-as k g m tasks t b time (GetAt.Used block) is good =
    let here = Task.Getting b time (GetAt.Used block) in
    let h = at_held k g m tasks t here is refl good in
    got_on k g m m tasks t b time (GetAt.Used block) (GetAt.SetUsed block (m cache_used b)) good is refl refl
    (leaves_all m b (IsOwn g here)) h.says (h.noted, h.says.used')
gets-as k g m tasks t b time (GetAt.SetUsed block used) is good =
    let here = Task.Getting b time (GetAt.SetUsed block used) in
    let h = at_held k g m tasks t here is refl good in
    let low = at_call k g m tasks t here is good in
    got_on k g m (stored k m (Word.CacheUsed b) (capped (used + 1))) tasks t b time (GetAt.SetUsed block used)
    (GetAt.Unlock block) good is refl refl
    (leaves_number k m (Word.CacheUsed b) (capped (used + 1)) b (IsOwn g here) refl (omega arith) (omega arith))
    (subst (λ u. Says (stored k m (Word.CacheUsed b) (capped (u + 1))) b (get_done time (g b))) (sym h.noted.1)
    (used_set k m b time (g b) (g b).items block low h.says)) h.noted.0
gets-as k g m tasks t b time (GetAt.Unlock block) is good =
    let here = Task.Getting b time (GetAt.Unlock block) in
    let h = at_held k g m tasks t here is refl good in
    let low = at_call k g m tasks t here is good in
    subst (λ z. CacheGood k (put g b (get_done time (g b))) (stored k m (Word.CacheLock b) 0) (put tasks t z))
    (sym (got_end b time block))
    (frees k g m tasks t b here (get_done time (g b)) good is refl refl low h.says
    (got_fits k time (g b) (g b).items (good.bins b)) h.own)

pub undoes-as : (k : Key) (g : ℕ → Bin) (m : Mem) (tasks : ℕ → Task) (t b : ℕ) (at : UndoAt)
    → tasks t ≡ Task.Undoing b at → CacheGood k g m tasks
    → CacheGood k (bins_undone b at g) (after k m (undo_course (call_of t b 0) at))
    (put tasks t (task_undone b (undo_learn at (found m (undo_course (call_of t b 0) at)))))
undoes-as k g m tasks t b UndoAt.Lock is good =
    let low = at_call k g m tasks t (Task.Undoing b UndoAt.Lock) is good in
    locks-as k g m tasks t b (Task.Undoing b UndoAt.Lock)
    (λ won. task_undone b (cond won (UndoNext.Goes UndoAt.Used) UndoNext.Waits)) good is refl low refl refl refl refl
    low (λ bin. refl) tt (λ links ages bin. tt)
undoes-as k g m tasks t b UndoAt.Used is good =
    let here = Task.Undoing b UndoAt.Used in
    let h = at_held k g m tasks t here is refl good in
    goes k g m m tasks t b here (Task.Undoing b (UndoAt.SetUsed (m cache_used b))) good is refl refl refl refl refl
    (at_call k g m tasks t here is good) (leaves_all m b (IsOwn g here))
    (record { says = h.says; noted = h.says.used'; in_hand = tt; own = λ x some. inl some })
undoes-as k g m tasks t b (UndoAt.SetUsed used) is good =
    let here = Task.Undoing b (UndoAt.SetUsed used) in
    let h = at_held k g m tasks t here is refl good in
    let low = at_call k g m tasks t here is good in
    goes k g m (stored k m (Word.CacheUsed b) (used - 1)) tasks t b here (Task.Undoing b UndoAt.Unlock) good is refl
    refl
    refl refl refl low
    (leaves_number k m (Word.CacheUsed b) (used - 1) b (IsOwn g here) refl (omega arith) (omega arith)) (record {
      says = subst (λ u. Says (stored k m (Word.CacheUsed b) (u - 1)) b (undo_done (g b))) (sym h.noted)
          (used_said k m b ((g b).used - 1) (g b) low h.says);
      noted = tt;
      in_hand = tt;
      own = λ x some. inl some;
    })
undoes-as k g m tasks t b UndoAt.Unlock is good =
    let here = Task.Undoing b UndoAt.Unlock in
    let h = at_held k g m tasks t here is refl good in
    let fits = good.bins b in
    frees k g m tasks t b here (undo_done (g b)) good is refl refl (at_call k g m tasks t here is good) h.says (record {
      counted = fits.counted;
      few = fits.few;
      inside = fits.inside;
      once = fits.once;
    }) h.own
