-- A step of a job at the cache of large blocks leaves all other seats alone.
use Rattle.std.proofs.Common.{◌≡◌, ◌≢◌, ◌⊎◌, inl, inr, ℕ, zero, suc, ◌+◌, ◌-◌, ◌<◌, ◌≤◌, Bool, true, false, Option}
use Rattle.std.proofs.Common.{Some, None}
use Rattle.std.proofs.Common.{List, [], ◌∷◌, length, refl, sym, ap, subst, arith, ◌∙◌}
use Rattle.std.proofs.lemmas.Bool.{cases_eq}
use Rattle.std.proofs.lemmas.Bool.Decides.{nat_tests}
use Rattle.std.specs.Prelude.{drop}
use Rattle.pool_words.specs.declared.words.Key.{Key}
use Rattle.guards.specs.declared.win.Taking.{Taking}
use Rattle.large_cache.specs.declared.get.CacheCall.{CacheCall}
use Rattle.large_cache.specs.declared.get.GetAt.{GetAt}
use Rattle.large_cache.specs.declared.get.HitAt.{HitAt}
use Rattle.large_cache.specs.declared.keep.KeepAt.{KeepAt}
use Rattle.large_cache.specs.declared.keep.KeepCall.{KeepCall}
use Rattle.large_cache.specs.declared.sweep.Cleanup.{Cleanup}
use Rattle.large_cache.specs.declared.sweep.JudgeAt.{JudgeAt}
use Rattle.large_cache.specs.declared.sweep.SweepAt.{SweepAt}
use Rattle.large_cache.specs.declared.sweep.SweepCall.{SweepCall}
use Rattle.large_cache.specs.declared.undo.UndoAt.{UndoAt}
use Rattle.large_cache.specs.Get.{get_course, hit_course}
use Rattle.large_cache.specs.Keep.{keep_course}
use Rattle.large_cache.specs.List.{cut_behind}
use Rattle.large_cache.specs.Sweep.{judge_course, sweep_course}
use Rattle.large_cache.specs.Undo.{undo_course}
use Rattle.word_laws.specs.Memory.{Mem, after}
use Rattle.word_laws.proofs.CallerLemmas.{less_or}
use Rattle.chain_laws.specs.Chains.{tally}
use Rattle.chain_laws.proofs.CallerLemmas.{tally-else, tally-here, tally-more}
use Rattle.guard_laws.specs.Blocks.{BlocksWhole, Place, Use, put_range}
use Rattle.cache_laws.specs.Bins.{Item, blocks_of, last_block}
use Rattle.cache_laws.specs.Gets.{taken_of}
use Rattle.cache_laws.specs.Good.{Holding, Task, holds}
use Rattle.cache_laws.specs.Puts.{is_full, released_at}
use Rattle.cache_laws.specs.Steps.{call_of, keep_of, sweep_of}
use Rattle.cache_laws.specs.Sweeps.{count_gone}
use Rattle.use_laws.specs.Pools.{Pool}
use Rattle.use_laws.specs.After.{pool_unshelved, with_mem}
use Rattle.shelf_laws.specs.Shelves as shelving
use Rattle.shelf_laws.specs.Shelves.{PutFits}
use Rattle.shelf_laws.specs.Steps.{ShelfStep, left_by_get, left_by_keep, left_by_sweep, list_of, shelved_by, taken_out}
use Rattle.pool_laws.specs.Changes.{with_shelf}
use Rattle.pool_laws.specs.Steps.{IsAtShelves}
use Rattle.pool_laws.specs.Wholes.{Whole, WholeGood, shelf_of}
use Rattle.seat_hands.specs.Moved.{HandsStand}
use Rattle.seat_laws.specs.Stays.{SeatStays}
use Rattle.seat_laws.proofs.Alone.{SameGuards, after_spared, blocks_stay, lists_stay, not_put, same_guards, spares}
use Rattle.seat_laws.proofs.Alone.{stand_same, stand_used}

-- no step of these jobs stores a guard
hit_spares : (c : CacheCall) (at : HitAt) → spares (hit_course c at) ≡ true
hit_spares c (HitAt.Pop newest) = refl
hit_spares c _ = refl

get_spares : (c : CacheCall) (at : GetAt) → spares (get_course c at) ≡ true
get_spares c (GetAt.Hit at) = hit_spares c at
get_spares c _ = refl

undo_spares : (c : CacheCall) (at : UndoAt) → spares (undo_course c at) ≡ true
undo_spares c UndoAt.Lock = refl
undo_spares c _ = refl

cut_spares : (b : ℕ) (before : Option ℕ) → spares (cut_behind b before) ≡ true
cut_spares b (Some block) = refl
cut_spares b None = refl

keep_spares : (c : KeepCall) (at : KeepAt) → spares (keep_course c at) ≡ true
keep_spares c (KeepAt.Cut tail age) = cut_spares c.granules tail.before
keep_spares c _ = refl

judge_spares : (b : ℕ) (at : JudgeAt) → spares (judge_course b at) ≡ true
judge_spares b (JudgeAt.Threshold count) = refl
judge_spares b _ = refl

sweep_spares : (c : SweepCall) (at : SweepAt) → spares (sweep_course c at) ≡ true
sweep_spares c (SweepAt.Judge at) = judge_spares c.granules at
sweep_spares c (SweepAt.Cut walk) = cut_spares c.granules walk.kept
sweep_spares c _ = refl

-- blocks that leave a bin were in it
one_in : (x y : ℕ) → 0 < tally x (y ∷ []) → x ≡ y
one_in x y some = elim (cases_eq x y) [
  | inl same ↦ same
  | inr differ ↦ absurd (let none = tally-else x y [] differ in omega arith)
]

in_list : (x : ℕ) (left : Option ℕ) → 0 < tally x (list_of left) → left ≡ Some x
in_list x (Some y) some = ap (λ z. Some z) (sym (one_in x y some))
in_list x None some = absurd (omega arith)

taken_in : (x : ℕ) (items : List Item) → Some x ≡ taken_of items → 0 < tally x (blocks_of items)
taken_in x [] is = absurd (cc)
taken_in x (one ∷ rest) is = let same : x ≡ one.block = cc in
    subst (λ y. 0 < tally x (y ∷ blocks_of rest)) same (let here = tally-here x (blocks_of rest) in omega arith)

last_in : (x : ℕ) (before : Option ℕ) (items : List Item) → Some x ≡ last_block before items
    → (before ≡ Some x) ⊎ (0 < tally x (blocks_of items))
last_in x before [] is = inl (sym is)
last_in x before (one ∷ rest) is = elim (last_in x (Some one.block) rest is) [
  | inl here ↦ inr (let same : x ≡ one.block = cc in
      subst (λ y. 0 < tally x (y ∷ blocks_of rest)) same (let here = tally-here x (blocks_of rest) in omega arith))
  | inr more ↦ inr (let less = tally-more x one.block (blocks_of rest) in omega arith)
]

released_in : (x : ℕ) (full : Bool) (items : List Item) → Some x ≡ released_at full items
    → 0 < tally x (blocks_of items)
released_in x true items is = elim (last_in x None items is) [
  | inl none ↦ absurd (cc)
  | inr some ↦ some
]
released_in x false items is = absurd (cc)

dropped_in : (n x : ℕ) (items : List Item) → tally x (blocks_of (drop n items)) ≤ tally x (blocks_of items)
dropped_in zero x items = omega arith
dropped_in (suc n) x [] = omega arith
dropped_in (suc n) x (one ∷ rest) =
    let more = dropped_in n x rest in let less = tally-more x one.block (blocks_of rest) in omega arith

-- what such blocks leave of the pool as it is
record Alike (p q : Pool) : Type 0 where
  pub mem : q.mem ≡ p.mem
  pub tasks : q.tasks ≡ p.tasks
  pub locals : q.locals ≡ p.locals
  pub kept : q.kept ≡ p.kept
  pub cached : q.cached ≡ p.cached

taken_alike : (seat : ℕ) (taking : Taking) (b : ℕ) (xs : List ℕ) (p : Pool) → Alike p (taken_out seat taking b xs p)
taken_alike seat taking b [] p = record { mem = refl; tasks = refl; locals = refl; kept = refl; cached = refl }
taken_alike seat taking b (x ∷ xs) p =
    let more = taken_alike seat taking b xs (pool_unshelved seat x b taking p) in
    record { mem = more.mem; tasks = more.tasks; locals = more.locals; kept = more.kept; cached = more.cached }

range_out : (f : ℕ → Place) (a m : ℕ) (v : Place) (z : ℕ) → (z < a) ⊎ (a + m ≤ z) → put_range f a m v z ≡ f z
range_out f a m v z out = grind (arith, nat_tests)

taken_place : (seat : ℕ) (taking : Taking) (b : ℕ) (xs : List ℕ) (p : Pool) (y : ℕ)
    → ((x : ℕ) → 0 < tally x xs → (y < x) ⊎ (x + b ≤ y))
    → (taken_out seat taking b xs p).blocks.place y ≡ p.blocks.place y
taken_place seat taking b [] p y out = refl
taken_place seat taking b (x ∷ xs) p y out =
    taken_place seat taking b xs (pool_unshelved seat x b taking p) y
    (λ z some. out z (let more = tally-more z x xs in omega arith))
    ∙ range_out p.blocks.place x b (Place.Block x b (Use.Held seat taking)) y
    (out x (let here = tally-here x xs in omega arith))

-- a block in a hand lies outside of one at rest
outside : (place : ℕ → Place) (x b y m t : ℕ) (taking : Taking) → BlocksWhole place
    → place x ≡ Place.Block x b Use.Elsewhere → place y ≡ Place.Block y m (Use.Held t taking)
    → (y < x) ⊎ (x + b ≤ y)
outside place x b y m t taking whole rests lies = less_or y x (λ low. inl low)
    (λ from. less_or y (x + b) (λ below. absurd (let here = (whole x x b Use.Elsewhere rests).all y from below in cc))
    (λ above. inr above))

-- so blocks that leave a bin leave all other hands
stand_taken : (k : Key) (seat t b : ℕ) (taking : Taking) (w : Whole) (xs : List ℕ) (p : Pool) → WholeGood k w
    → ((x : ℕ) → 0 < tally x xs → 0 < tally x (blocks_of (w.shelves b).items))
    → HandsStand p.blocks.place w.pool.blocks.place t
    → HandsStand (taken_out seat taking b xs p).blocks.place w.pool.blocks.place t
stand_taken k seat t b taking w xs p good binned stand y m own is =
    taken_place seat taking b xs p y
    (λ x some. outside w.pool.blocks.place x b y m t own good.free.pool.guards.parts.whole
    (good.shelf.shelves.binned b x (binned x some)).1 is)
    ∙ stand y m own is

-- a step of a job makes this of the whole
job_leaves : (w : Whole) (t : ℕ) (later : shelving.State) → Alike (with_mem later.pool.mem w.pool) later.pool
    → SameGuards w.pool.mem later.pool.mem → HandsStand later.pool.blocks.place w.pool.blocks.place t
    → later.jobs t ≡ w.jobs t → SeatStays w (with_shelf later w) t
job_leaves w t later alike words stand jobs = record {
  pool = record {
    guards = ap (λ f. f t) alike.tasks;
    objects = ap (λ l. l.tasks t) alike.locals;
    notes = ap (λ l. l.notes t) alike.locals;
    last = ap (λ l. l.lasts t) alike.locals;
    kept = ap (λ f. f t) alike.kept;
    cached = ap (λ f. f t) alike.cached;
  };
  tasks = record {
    bins = refl;
    queue = refl;
    drained = refl;
    mails = refl;
    orphans = refl;
    spares = refl;
    jobs = jobs;
    desks = refl;
  };
  blocks = blocks_stay w.pool later.pool t stand words;
  lists = lists_stay w (with_shelf later w) t words refl refl;
}

-- the words after a step, from which some blocks come
words_of : (k : Key) (w : Whole) (seat b : ℕ) (taking : Taking) (xs : List ℕ) (p : Pool) → SameGuards w.pool.mem p.mem
    → SameGuards w.pool.mem (taken_out seat taking b xs p).mem
words_of k w seat b taking xs p same = subst (SameGuards w.pool.mem) (sym (taken_alike seat taking b xs p).mem) same

-- from a pool that has only other words, and other blocks, than the one before
alike_of : (w : Whole) (seat b : ℕ) (taking : Taking) (xs : List ℕ) (p : Pool) → Alike (with_mem p.mem w.pool) p
    → Alike (with_mem (taken_out seat taking b xs p).mem w.pool) (taken_out seat taking b xs p)
alike_of w seat b taking xs p alike = let more = taken_alike seat taking b xs p in record {
  mem = refl;
  tasks = more.tasks ∙ alike.tasks;
  locals = more.locals ∙ alike.locals;
  kept = more.kept ∙ alike.kept;
  cached = more.cached ∙ alike.cached;
}

get_in : (k : Key) (w : Whole) (seat b time : ℕ) (at : GetAt) → WholeGood k w → w.jobs seat ≡ Task.Getting b time at
    → (x : ℕ) → 0 < tally x (left_by_get at) → 0 < tally x (blocks_of (w.shelves b).items)
get_in k w seat b time (GetAt.Unlock block) good is x some =
    let held = subst (Holding w.shelves w.pool.mem) is (good.shelf.cache.held seat
    (subst (λ task. holds task ≡ true) (sym is) refl)) in
    taken_in x (w.shelves b).items (sym (in_list x block some) ∙ held.noted)
get_in k w seat b time _ good is x some = absurd (omega arith)

keep_in : (k : Key) (w : Whole) (seat b time block : ℕ) (at : KeepAt) → WholeGood k w
    → w.jobs seat ≡ Task.Keeping b time block at
    → (x : ℕ) → 0 < tally x (left_by_keep at) → 0 < tally x (blocks_of (w.shelves b).items)
keep_in k w seat b time block (KeepAt.Unlock released) good is x some =
    let held = subst (Holding w.shelves w.pool.mem) is (good.shelf.cache.held seat
    (subst (λ task. holds task ≡ true) (sym is) refl)) in
    released_in x (is_full (w.shelves b)) (w.shelves b).items (sym (in_list x released some) ∙ held.noted)
keep_in k w seat b time block _ good is x some = absurd (omega arith)

sweep_in : (k : Key) (w : Whole) (seat b time : ℕ) (cleanup : Cleanup) (gone : List ℕ) (at : SweepAt) → WholeGood k w
    → w.jobs seat ≡ Task.Sweeping b time cleanup gone at
    → (x : ℕ) → 0 < tally x (left_by_sweep gone at) → 0 < tally x (blocks_of (w.shelves b).items)
sweep_in k w seat b time cleanup gone SweepAt.Unlock good is x some =
    let held = subst (Holding w.shelves w.pool.mem) is (good.shelf.cache.held seat
    (subst (λ task. holds task ≡ true) (sym is) refl)) in
    let n = length (w.shelves b).items - count_gone cleanup time (w.shelves b) in
    let count = ap (tally x) held.noted in
    let few = dropped_in n x (w.shelves b).items in omega arith
sweep_in k w seat b time cleanup gone _ good is x some = absurd (omega arith)

-- the block that is put was in the seat's own hand
shelved_alike : (at : KeepAt) (block b : ℕ) (p : Pool) → Alike p (shelved_by at block b p)
shelved_alike (KeepAt.Unlock released) block b p =
    record { mem = refl; tasks = refl; locals = refl; kept = refl; cached = refl }
shelved_alike _ block b p = record { mem = refl; tasks = refl; locals = refl; kept = refl; cached = refl }

shelved_stand : (at : KeepAt) (block b t : ℕ) (p : Pool) (seat : ℕ) → BlocksWhole p.blocks.place → seat ≢ t
    → p.blocks.place block ≡ Place.Block block b (Use.Held seat Taking.ForUse)
    → HandsStand (shelved_by at block b p).blocks.place p.blocks.place t
shelved_stand (KeepAt.Unlock released) block b t p seat whole ne lies =
    stand_used p.blocks.place t block b (Use.Held seat Taking.ForUse) (Place.Block block b Use.Elsewhere) whole lies ne
shelved_stand _ block b t p seat whole ne lies = stand_same p.blocks.place t

-- other words alone
alike_mem : (m : Mem) (w : Whole) → Alike (with_mem m w.pool) (with_mem m w.pool)
alike_mem m w = record { mem = refl; tasks = refl; locals = refl; kept = refl; cached = refl }

alike_same : (w : Whole) → Alike (with_mem w.pool.mem w.pool) w.pool
alike_same w = record { mem = refl; tasks = refl; locals = refl; kept = refl; cached = refl }

pub shelves_leave : (k : Key) (seat t : ℕ) (w : Whole) (later : shelving.State) → WholeGood k w → seat ≢ t
    → (step : ShelfStep k seat (shelf_of w) later) → IsAtShelves k seat w later step
    → SeatStays w (with_shelf later w) t
shelves_leave k seat t w later good ne (ShelfStep.pool p step leaves none same) at = absurd at
shelves_leave k seat t w later good ne (ShelfStep.asks b time low is) at =
    job_leaves w t _ (alike_same w) (same_guards w.pool.mem) (stand_same w.pool.blocks.place t)
    (not_put w.jobs seat t _ ne)
shelves_leave k seat t w later good ne (ShelfStep.regrets b low is) at =
    job_leaves w t _ (alike_same w) (same_guards w.pool.mem) (stand_same w.pool.blocks.place t)
    (not_put w.jobs seat t _ ne)
shelves_leave k seat t w later good ne (ShelfStep.cleans b time cleanup at' low holds' is) at =
    job_leaves w t _ (alike_same w) (same_guards w.pool.mem) (stand_same w.pool.blocks.place t)
    (not_put w.jobs seat t _ ne)
shelves_leave k seat t w later good ne (ShelfStep.gives b time block low is has) at =
    job_leaves w t _ (alike_same w) (same_guards w.pool.mem) (stand_same w.pool.blocks.place t)
    (not_put w.jobs seat t _ ne)
shelves_leave k seat t w later good ne (ShelfStep.gets b time at' taking is away) at =
    let m = after k w.pool.mem (get_course (call_of seat b time) at') in
    let same = after_spared k w.pool.mem (get_course (call_of seat b time) at') (get_spares (call_of seat b time) at')
    in
    job_leaves w t _ (alike_of w seat b taking (left_by_get at') (with_mem m w.pool) (alike_mem m w))
    (words_of k w seat b taking (left_by_get at') (with_mem m w.pool) same)
    (stand_taken k seat t b taking w (left_by_get at') (with_mem m w.pool) good (get_in k w seat b time at' good is)
    (stand_same w.pool.blocks.place t)) (not_put w.jobs seat t _ ne)
shelves_leave k seat t w later good ne (ShelfStep.undoes b at' is) at =
    let m = after k w.pool.mem (undo_course (call_of seat b 0) at') in
    job_leaves w t _ (alike_mem m w)
    (after_spared k w.pool.mem (undo_course (call_of seat b 0) at') (undo_spares (call_of seat b 0) at'))
    (stand_same w.pool.blocks.place t) (not_put w.jobs seat t _ ne)
shelves_leave k seat t w later good ne (ShelfStep.keeps b time block at' taking is away) at =
    let m = after k w.pool.mem (keep_course (keep_of seat b time block) at') in
    let p = shelved_by at' block b (with_mem m w.pool) in
    let like = shelved_alike at' block b (with_mem m w.pool) in
    let same = after_spared k w.pool.mem (keep_course (keep_of seat b time block) at') (keep_spares (keep_of seat b
    time block) at') in
    let lies = subst (PutFits w.pool.blocks.place seat) is (good.shelf.puts seat) in
    job_leaves w t _
    (alike_of w seat b taking (left_by_keep at') p (record {
      mem = refl;
      tasks = like.tasks;
      locals = like.locals;
      kept = like.kept;
      cached = like.cached;
    }))
    (words_of k w seat b taking (left_by_keep at') p (subst (SameGuards w.pool.mem) (sym like.mem) same))
    (stand_taken k seat t b taking w (left_by_keep at') p good (keep_in k w seat b time block at' good is)
    (shelved_stand at' block b t (with_mem m w.pool) seat good.free.pool.guards.parts.whole ne lies))
    (not_put w.jobs seat t _ ne)
shelves_leave k seat t w later good ne (ShelfStep.sweeps b time cleanup gone at' taking is away) at =
    let m = after k w.pool.mem (sweep_course (sweep_of seat b time cleanup) at') in
    let same = after_spared k w.pool.mem (sweep_course (sweep_of seat b time cleanup) at') (sweep_spares (sweep_of
    seat b time cleanup) at') in
    job_leaves w t _ (alike_of w seat b taking (left_by_sweep gone at') (with_mem m w.pool) (alike_mem m w))
    (words_of k w seat b taking (left_by_sweep gone at') (with_mem m w.pool) same)
    (stand_taken k seat t b taking w (left_by_sweep gone at') (with_mem m w.pool) good
    (sweep_in k w seat b time cleanup gone at' good is) (stand_same w.pool.blocks.place t))
    (not_put w.jobs seat t _ ne)
