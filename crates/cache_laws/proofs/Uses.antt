-- The number of blocks in use is that of the uses, whatever seats do.
use Rattle.std.proofs.Common.{◌≡◌, ◌≢◌, inl, inr, ℕ, zero, suc, ◌+◌, ◌-◌, ◌^◌, ◌<◌, ◌≤◌, Bool, true, false, cond, eqb}
use Rattle.std.proofs.Common.{Option, Some, None, List, [], ◌∷◌, refl, sym, ap, subst, arith, ◌∙◌}
use Rattle.std.specs.Prelude.{◌==◌}
use Rattle.list_laws.specs.Sums.{sum_below}
use Rattle.list_laws.proofs.Sums.{sum_below-same, sum_below-zero, sum_below-suc}
use Rattle.std.proofs.lemmas.Bool.{eq-eqb, ne_eqb}
use Rattle.pool_words.specs.declared.words.Key.{Key}
use Rattle.large_cache.specs.declared.get.GetAt.{GetAt}
use Rattle.large_cache.specs.declared.get.GetNext.{GetNext}
use Rattle.large_cache.specs.declared.keep.KeepAt.{KeepAt}
use Rattle.large_cache.specs.declared.keep.KeepNext.{KeepNext}
use Rattle.large_cache.specs.declared.sweep.Cleanup.{Cleanup}
use Rattle.large_cache.specs.declared.sweep.SweepAt.{SweepAt}
use Rattle.large_cache.specs.declared.sweep.SweepNext.{SweepNext}
use Rattle.large_cache.specs.declared.undo.UndoAt.{UndoAt}
use Rattle.large_cache.specs.declared.undo.UndoNext.{UndoNext}
use Rattle.large_cache.specs.Get.{get_course, get_learn}
use Rattle.large_cache.specs.Keep.{keep_course, keep_learn}
use Rattle.large_cache.specs.Sweep.{sweep_course, sweep_learn}
use Rattle.large_cache.specs.Undo.{undo_course, undo_learn}
use Rattle.word_laws.specs.Memory.{Mem, put, found}
use Rattle.word_laws.proofs.CallerLemmas.{equal_or, put-same, put-other, each, read_put}
use Rattle.chain_laws.specs.Chains.{tally}
use Rattle.cache_laws.specs.Bins.{Item, Bin, blocks_of}
use Rattle.cache_laws.specs.Gets.{got, get_done, undo_done}
use Rattle.cache_laws.specs.Puts.{keep_done}
use Rattle.cache_laws.specs.Sweeps.{swept, sweep_done}
use Rattle.cache_laws.specs.Good.{Task, hand, CacheGood}
use Rattle.cache_laws.specs.Steps.{call_of, keep_of, sweep_of, task_got, task_undone, task_kept, task_swept, bins_got}
use Rattle.cache_laws.specs.Steps.{bins_undone, bins_kept, bins_swept, IsFree, BinStep}
use Rattle.cache_laws.specs.Uses.{Uses, is_at, uses_of, UseFits, UsesGood, uses_got, uses_undone, uses_kept, uses_after}
use Rattle.cache_laws.specs.Uses.{MayBegin, UseStep}
use Rattle.cache_laws.specs.Uses.UseRun.{starts, steps}
use Rattle.cache_laws.proofs.Seats.{at_call}
use Rattle.cache_laws.proofs.Gets.{got_within}
use Rattle.cache_laws.proofs.Puts.{put_within}
use Rattle.cache_laws.proofs.Sweeps.{swept_within}
use Rattle.cache_laws.specs.Laws.{BothGood, StepsKeepUses, RunsKeepUses, UsedIsTheNumberOfUses, CanJob, JobsCanStep}
use Rattle.cache_laws.proofs.Keeps.{steps_keep_cache, words_are_those_of_the_stage}

-- a sum of which one number changes
sum-put : (f : ℕ → ℕ) (i a n : ℕ) → i < n → sum_below (put f i a) n + f i ≡ sum_below f n + a
sum-put f i a zero low = absurd (omega arith)
sum-put f i a (suc n) low =
    let new = sum_below-suc (put f i a) n in let old = sum_below-suc f n in
    equal_or i n
    (λ e. let rest : sum_below (put f i a) n ≡ sum_below f n
    = sum_below-same (put f i a) f n (λ j less. put-other f i a j (λ same. omega arith)) in
    let last : put f i a n ≡ a = ap (put f i a) (sym e) ∙ put-same f i a in
    let here : f i ≡ f n = ap f e in omega (arith, new, old, rest, last, here))
    (λ ne. let rest = sum-put f i a n (omega arith) in
    let last : put f i a n ≡ f n = put-other f i a n (λ e. ne (sym e)) in omega (arith, new, old, rest, last))

sum-moved : (f : ℕ → Option ℕ) (i : ℕ) (o : Option ℕ) (c n : ℕ) → i < n
    → sum_below (λ j. is_at c (put f i o j)) n + is_at c (f i) ≡ sum_below (λ j. is_at c (f j)) n + is_at c o
sum-moved f i o c n low =
    ap (λ s. s + is_at c (f i)) (sum_below-same (λ j. is_at c (put f i o j)) (put (λ j. is_at c (f j)) i (is_at c o)) n
    (λ j _. read_put (is_at c) f i o j))
    ∙ sum-put (λ j. is_at c (f j)) i (is_at c o) n low

sum-below : (f : ℕ → ℕ) (n : ℕ) → ((j : ℕ) → f j ≤ 1) → sum_below f n ≤ n
sum-below f zero few = let h = sum_below-zero f in omega (arith, h)
sum-below f (suc n) few =
    let h = sum_below-suc f n in let rest = sum-below f n few in let one = few n in omega (arith, h, rest, one)

one-at : (c : ℕ) (o : Option ℕ) → is_at c o ≤ 1
one-at c None = omega arith
one-at c (Some b) = by (eqb b c)
  where
    by : (z : Bool) → cond {A = ℕ} z 1 0 ≤ 1
    by true = omega arith
    by false = omega arith

at-self : (b : ℕ) → is_at b (Some b) ≡ 1
at-self b = ap (λ (z : Bool). cond z 1 0) (eq-eqb b b refl)

at-else : (b c : ℕ) → c ≢ b → is_at c (Some b) ≡ 0
at-else b c ne = ap (λ (z : Bool). cond z 1 0) (ne_eqb b c (λ e. ne (sym e)))

-- what one change of the uses makes of their number
asked-more : (k : Key) (u : Uses) (t b c : ℕ) → t < k.seats → u.asked t ≡ None
    → uses_of k (record u { asked = put u.asked t (Some b) }) c ≡ uses_of k u c + is_at c (Some b)
asked-more k u t b c low none =
    let h = sum-moved u.asked t (Some b) c k.seats low in let z = ap (is_at c) none in omega (arith, h, z)

asked-less : (k : Key) (u : Uses) (t b c : ℕ) → t < k.seats → u.asked t ≡ Some b
    → uses_of k (record u { asked = put u.asked t None }) c + is_at c (Some b) ≡ uses_of k u c
asked-less k u t b c low some =
    let h = sum-moved u.asked t None c k.seats low in let z = ap (is_at c) some in omega (arith, h, z)

users-less : (k : Key) (u : Uses) (x b c : ℕ) → x < k.span → u.users x ≡ Some b
    → uses_of k (record u { users = put u.users x None }) c + is_at c (Some b) ≡ uses_of k u c
users-less k u x b c low some =
    let h = sum-moved u.users x None c k.span low in let z = ap (is_at c) some in omega (arith, h, z)

users-more : (k : Key) (u : Uses) (x b c : ℕ) → x < k.span → u.users x ≡ None
    → uses_of k (record u { users = put u.users x (Some b) }) c ≡ uses_of k u c + is_at c (Some b)
users-more k u x b c low none =
    let h = sum-moved u.users x (Some b) c k.span low in let z = ap (is_at c) none in omega (arith, h, z)

-- uses are fewer than can be counted
pub uses_few : (k : Key) (u : Uses) (b : ℕ) → k.span < 2 ^ 32 → k.seats ≤ 256 → uses_of k u b < 2 ^ 64 - 1
uses_few k u b span seats =
    let x = sum-below (λ x. is_at b (u.users x)) k.span (λ x. one-at b (u.users x)) in
    let s = sum-below (λ t. is_at b (u.asked t)) k.seats (λ t. one-at b (u.asked t)) in omega (arith, x, s)

-- a seat goes on
uses_on : (k : Key) (g : ℕ → Bin) (tasks : ℕ → Task) (u : Uses) (t : ℕ) (next : Task) → UsesGood k g tasks u
    → UseFits k u t next → UsesGood k g (put tasks t next) u
uses_on k g tasks u t next good new = record {
  seats = good.seats;
  counted = good.counted;
  fits = each (λ o q. UseFits k u o q) tasks t next (λ o _. good.fits o) new;
  unused = good.unused;
}

-- what others rest on where one seat's get, or one block, changes
fits-asked : (k : Key) (u : Uses) (t : ℕ) (o : Option ℕ) (s : ℕ) (task : Task) → s ≢ t → UseFits k u s task
    → UseFits k (record u { asked = put u.asked t o }) s task
fits-asked k u t o s Task.Away ne fits = tt
fits-asked k u t o s (Task.Getting b time at) ne fits = (fits.0, put-other u.asked t o s ne ∙ fits.1)
fits-asked k u t o s (Task.Undoing b at) ne fits = (fits.0, put-other u.asked t o s ne ∙ fits.1)
fits-asked k u t o s (Task.Keeping b time block at) ne fits = fits
fits-asked k u t o s (Task.Sweeping b time cleanup gone at) ne fits = tt

fits-users : (k : Key) (u : Uses) (x : ℕ) (o : Option ℕ) (s : ℕ) (task : Task) → (hand task ≡ Some x → ⊥)
    → UseFits k u s task → UseFits k (record u { users = put u.users x o }) s task
fits-users k u x o s Task.Away ne fits = tt
fits-users k u x o s (Task.Getting b time at) ne fits = fits
fits-users k u x o s (Task.Undoing b at) ne fits = fits
fits-users k u x o s (Task.Keeping b time block at) ne fits =
    (fits.0, put-other u.users x o block (λ e. ne (ap Some e)) ∙ fits.1)
fits-users k u x o s (Task.Sweeping b time cleanup gone at) ne fits = tt

-- where a job goes on it is the same job
got_next : (k : Key) (u : Uses) (t b time : ℕ) (at : GetAt) (f : ℕ) → (t < k.seats) × (u.asked t ≡ None)
    → UseFits k u t (task_got b time (get_learn at f))
got_next k u t b time GetAt.Lock f fits = by (f == 0)
  where
    by : (won : Bool) → UseFits k u t (task_got b time (cond won (GetNext.Goes GetAt.Items) GetNext.Waits))
    by true = fits
    by false = fits
got_next k u t b time GetAt.Items f fits = fits
got_next k u t b time (GetAt.Head items) f fits = fits
got_next k u t b time (GetAt.Hit at) f fits = fits
got_next k u t b time GetAt.Cleaned f fits = fits
got_next k u t b time (GetAt.SetThreshold cleaned) f fits = fits
got_next k u t b time GetAt.ClearCleaned f fits = fits
got_next k u t b time (GetAt.SetTime block) f fits = fits
got_next k u t b time (GetAt.Used block) f fits = fits
got_next k u t b time (GetAt.SetUsed block used) f fits = fits
got_next k u t b time (GetAt.Unlock (Some block)) f fits = tt
got_next k u t b time (GetAt.Unlock None) f fits = tt

undone_next : (k : Key) (u : Uses) (t b : ℕ) (at : UndoAt) (f : ℕ) → (t < k.seats) × (u.asked t ≡ Some b)
    → UseFits k u t (task_undone b (undo_learn at f))
undone_next k u t b UndoAt.Lock f fits = by (f == 0)
  where
    by : (won : Bool) → UseFits k u t (task_undone b (cond won (UndoNext.Goes UndoAt.Used) UndoNext.Waits))
    by true = fits
    by false = fits
undone_next k u t b UndoAt.Used f fits = fits
undone_next k u t b (UndoAt.SetUsed used) f fits = fits
undone_next k u t b UndoAt.Unlock f fits = tt

kept_next : (k : Key) (u : Uses) (t b time block : ℕ) (at : KeepAt) (f : ℕ)
    → (t < k.seats) × (u.users block ≡ Some b) → UseFits k u t (task_kept b time block (keep_learn at f))
kept_next k u t b time block KeepAt.Lock f fits = by (f == 0)
  where
    by : (won : Bool) → UseFits k u t (task_kept b time block (cond won (KeepNext.Goes KeepAt.Items) KeepNext.Waits))
    by true = fits
    by false = fits
kept_next k u t b time block KeepAt.Items f fits = fits
kept_next k u t b time block (KeepAt.Head items) f fits = fits
kept_next k u t b time block (KeepAt.Walk tail) f fits = fits
kept_next k u t b time block (KeepAt.OldAge tail) f fits = fits
kept_next k u t b time block (KeepAt.Cut tail age) f fits = fits
kept_next k u t b time block (KeepAt.SetCleaned tail age) f fits = fits
kept_next k u t b time block (KeepAt.SetLink items head released) f fits = fits
kept_next k u t b time block (KeepAt.SetAge items released) f fits = fits
kept_next k u t b time block (KeepAt.SetHead items released) f fits = fits
kept_next k u t b time block (KeepAt.SetItems items released) f fits = fits
kept_next k u t b time block (KeepAt.Used released) f fits = fits
kept_next k u t b time block (KeepAt.SetUsed released used) f fits = fits
kept_next k u t b time block (KeepAt.Unlock released) f fits = tt

swept_next : (k : Key) (u : Uses) (t b time : ℕ) (cleanup : Cleanup) (gone : List ℕ) (next : SweepNext)
    → UseFits k u t (task_swept b time cleanup gone next)
swept_next k u t b time cleanup gone (SweepNext.Goes at) = tt
swept_next k u t b time cleanup gone (SweepNext.Stays at) = tt
swept_next k u t b time cleanup gone (SweepNext.Stale block at) = tt
swept_next k u t b time cleanup gone SweepNext.Waits = tt
swept_next k u t b time cleanup gone (SweepNext.Began time') = tt
swept_next k u t b time cleanup gone SweepNext.Passed = tt
swept_next k u t b time cleanup gone SweepNext.Swept = tt

-- a get counts a block
got_used : (time : ℕ) (bin : Bin) (l : List Item) → bin.used < 2 ^ 64 - 1
    → (got time (record bin { items = l }) l).used ≡ bin.used + 1
got_used time bin [] low = omega arith
got_used time bin (x ∷ xs) low = omega arith

got_counts : (k : Key) (g : ℕ → Bin) (m : Mem) (tasks : ℕ → Task) (u : Uses) (t b time : ℕ) → CacheGood k g m tasks
    → UsesGood k g tasks u → (t < k.seats) × (u.asked t ≡ None)
    → UsesGood k (put g b (get_done time (g b))) (put tasks t Task.Away)
    (record u { asked = put u.asked t (Some b) })
got_counts k g m tasks u t b time good uses mine = record {
  seats = uses.seats;
  counted = each (λ c (bin : Bin). bin.used ≡ uses_of k u' c) g b (get_done time (g b))
      (λ c ne. let h = asked-more k u t b c mine.0 mine.1 in let z = at-else b c ne in let o = uses.counted c in
      omega (arith, h, z, o))
      (let h = asked-more k u t b b mine.0 mine.1 in let z = at-self b in let o = uses.counted b in
      let few = uses_few k u b good.span uses.seats in
      let d = got_used time (g b) (g b).items (omega (arith, o, few)) in omega (arith, h, z, o, d));
  fits = each (λ o q. UseFits k u' o q) tasks t Task.Away
      (λ o ne. fits-asked k u t (Some b) o (tasks o) ne (uses.fits o)) tt;
  unused = λ c x. each (λ c (bin : Bin). 0 < tally x (blocks_of bin.items) → u.users x ≡ None) g b
      (get_done time (g b)) (λ c _ some. uses.unused c x some)
      (λ some. uses.unused b x (got_within time (g b) (g b).items x some)) c;
}
  where
    u' : Uses
    u' = record u { asked = put u.asked t (Some b) }

-- an undo takes one back
undone_counts : (k : Key) (g : ℕ → Bin) (tasks : ℕ → Task) (u : Uses) (t b : ℕ) → UsesGood k g tasks u
    → (t < k.seats) × (u.asked t ≡ Some b)
    → UsesGood k (put g b (undo_done (g b))) (put tasks t Task.Away) (record u { asked = put u.asked t None })
undone_counts k g tasks u t b uses mine = record {
  seats = uses.seats;
  counted = each (λ c (bin : Bin). bin.used ≡ uses_of k u' c) g b (undo_done (g b))
      (λ c ne. let h = asked-less k u t b c mine.0 mine.1 in let z = at-else b c ne in let o = uses.counted c in
      omega (arith, h, z, o))
      (let h = asked-less k u t b b mine.0 mine.1 in let z = at-self b in let o = uses.counted b in
      omega (arith, h, z, o));
  fits = each (λ o q. UseFits k u' o q) tasks t Task.Away
      (λ o ne. fits-asked k u t None o (tasks o) ne (uses.fits o)) tt;
  unused = λ c x. each (λ c (bin : Bin). 0 < tally x (blocks_of bin.items) → u.users x ≡ None) g b
      (undo_done (g b)) (λ c _ some. uses.unused c x some) (λ some. uses.unused b x some) c;
}
  where
    u' : Uses
    u' = record u { asked = put u.asked t None }

-- a put takes its block's back
kept_counts : (k : Key) (g : ℕ → Bin) (m : Mem) (tasks : ℕ → Task) (u : Uses) (t b time block : ℕ) (at : KeepAt)
    → CacheGood k g m tasks → UsesGood k g tasks u → tasks t ≡ Task.Keeping b time block at
    → UsesGood k (put g b (keep_done time block (g b))) (put tasks t Task.Away)
    (record u { users = put u.users block None })
kept_counts k g m tasks u t b time block at good uses is = record {
  seats = uses.seats;
  counted = each (λ c (bin : Bin). bin.used ≡ uses_of k u' c) g b (keep_done time block (g b))
      (λ c ne. let h = users-less k u block b c low mine.1 in let z = at-else b c ne in let o = uses.counted c in
      omega (arith, h, z, o))
      (let h = users-less k u block b b low mine.1 in let z = at-self b in let o = uses.counted b in
      omega (arith, h, z, o));
  fits = each (λ o q. UseFits k u' o q) tasks t Task.Away
      (λ o ne. fits-users k u block None o (tasks o) (λ h. good.apart o t block ne h (ap hand is)) (uses.fits o)) tt;
  unused = λ c x. each (λ c (bin : Bin). 0 < tally x (blocks_of bin.items) → put u.users block None x ≡ None) g b
      (keep_done time block (g b)) (λ c _ some. gone x (uses.unused c x some))
      (λ some. elim (put_within time block (g b) x some) [
        | inl old ↦ gone x (uses.unused b x old)
        | inr same ↦ let e : block ≡ x = cc in
            ap (put u.users block None) (sym e) ∙ put-same u.users block None
      ]) c;
}
  where
    u' : Uses
    u' = record u { users = put u.users block None }

    mine : (t < k.seats) × (u.users block ≡ Some b)
    mine = subst (UseFits k u t) is (uses.fits t)

    low : block < k.span
    low = (at_call k g m tasks t (Task.Keeping b time block at) is good).1

    gone : (x : ℕ) → u.users x ≡ None → put u.users block None x ≡ None
    gone x none = equal_or x block (λ e. ap (put u.users block None) e ∙ put-same u.users block None)
        (λ ne. put-other u.users block None x ne ∙ none)

-- a sweep leaves the number
swept_used : (cleanup : Cleanup) (time : ℕ) (bin : Bin) (l : List Item) → (swept cleanup time bin l).used ≡ bin.used
swept_used cleanup time bin [] = refl
swept_used cleanup time bin (x ∷ xs) = refl

swept_counts : (k : Key) (g : ℕ → Bin) (tasks : ℕ → Task) (u : Uses) (t b time : ℕ) (cleanup : Cleanup)
    → UsesGood k g tasks u → UsesGood k (put g b (sweep_done cleanup time (g b))) (put tasks t Task.Away) u
swept_counts k g tasks u t b time cleanup uses = record {
  seats = uses.seats;
  counted = each (λ c (bin : Bin). bin.used ≡ uses_of k u c) g b (sweep_done cleanup time (g b))
      (λ c _. uses.counted c) (swept_used cleanup time (g b) (g b).items ∙ uses.counted b);
  fits = each (λ o q. UseFits k u o q) tasks t Task.Away (λ o _. uses.fits o) tt;
  unused = λ c x. each (λ c (bin : Bin). 0 < tally x (blocks_of bin.items) → u.users x ≡ None) g b
      (sweep_done cleanup time (g b)) (λ c _ some. uses.unused c x some)
      (λ some. uses.unused b x (swept_within cleanup time (g b) (g b).items x some)) c;
}

-- the steps of each job
got_uses : (k : Key) (g : ℕ → Bin) (m : Mem) (tasks : ℕ → Task) (u : Uses) (t b time : ℕ) (at : GetAt) (f : ℕ)
    → CacheGood k g m tasks → UsesGood k g tasks u → (t < k.seats) × (u.asked t ≡ None)
    → UsesGood k (bins_got b time at g) (put tasks t (task_got b time (get_learn at f))) (uses_got t b at u)
got_uses k g m tasks u t b time GetAt.Lock f good uses mine =
    uses_on k g tasks u t (task_got b time (get_learn GetAt.Lock f)) uses (got_next k u t b time GetAt.Lock f mine)
got_uses k g m tasks u t b time GetAt.Items f good uses mine =
    uses_on k g tasks u t (task_got b time (get_learn GetAt.Items f)) uses (got_next k u t b time GetAt.Items f mine)
got_uses k g m tasks u t b time (GetAt.Head items) f good uses mine =
    uses_on k g tasks u t (task_got b time (get_learn (GetAt.Head items) f)) uses
    (got_next k u t b time (GetAt.Head items) f mine)
got_uses k g m tasks u t b time (GetAt.Hit at) f good uses mine =
    uses_on k g tasks u t (task_got b time (get_learn (GetAt.Hit at) f)) uses
    (got_next k u t b time (GetAt.Hit at) f mine)
got_uses k g m tasks u t b time GetAt.Cleaned f good uses mine =
    uses_on k g tasks u t (task_got b time (get_learn GetAt.Cleaned f)) uses
    (got_next k u t b time GetAt.Cleaned f mine)
got_uses k g m tasks u t b time (GetAt.SetThreshold cleaned) f good uses mine =
    uses_on k g tasks u t (task_got b time (get_learn (GetAt.SetThreshold cleaned) f)) uses
    (got_next k u t b time (GetAt.SetThreshold cleaned) f mine)
got_uses k g m tasks u t b time GetAt.ClearCleaned f good uses mine =
    uses_on k g tasks u t (task_got b time (get_learn GetAt.ClearCleaned f)) uses
    (got_next k u t b time GetAt.ClearCleaned f mine)
got_uses k g m tasks u t b time (GetAt.SetTime block) f good uses mine =
    uses_on k g tasks u t (task_got b time (get_learn (GetAt.SetTime block) f)) uses
    (got_next k u t b time (GetAt.SetTime block) f mine)
got_uses k g m tasks u t b time (GetAt.Used block) f good uses mine =
    uses_on k g tasks u t (task_got b time (get_learn (GetAt.Used block) f)) uses
    (got_next k u t b time (GetAt.Used block) f mine)
got_uses k g m tasks u t b time (GetAt.SetUsed block used) f good uses mine =
    uses_on k g tasks u t (task_got b time (get_learn (GetAt.SetUsed block used) f)) uses
    (got_next k u t b time (GetAt.SetUsed block used) f mine)
got_uses k g m tasks u t b time (GetAt.Unlock (Some block)) f good uses mine =
    got_counts k g m tasks u t b time good uses mine
got_uses k g m tasks u t b time (GetAt.Unlock None) f good uses mine =
    got_counts k g m tasks u t b time good uses mine

undone_uses : (k : Key) (g : ℕ → Bin) (tasks : ℕ → Task) (u : Uses) (t b : ℕ) (at : UndoAt) (f : ℕ)
    → UsesGood k g tasks u → (t < k.seats) × (u.asked t ≡ Some b)
    → UsesGood k (bins_undone b at g) (put tasks t (task_undone b (undo_learn at f))) (uses_undone t at u)
undone_uses k g tasks u t b UndoAt.Lock f uses mine =
    uses_on k g tasks u t (task_undone b (undo_learn UndoAt.Lock f)) uses (undone_next k u t b UndoAt.Lock f mine)
undone_uses k g tasks u t b UndoAt.Used f uses mine =
    uses_on k g tasks u t (task_undone b (undo_learn UndoAt.Used f)) uses (undone_next k u t b UndoAt.Used f mine)
undone_uses k g tasks u t b (UndoAt.SetUsed used) f uses mine =
    uses_on k g tasks u t (task_undone b (undo_learn (UndoAt.SetUsed used) f)) uses
    (undone_next k u t b (UndoAt.SetUsed used) f mine)
undone_uses k g tasks u t b UndoAt.Unlock f uses mine = undone_counts k g tasks u t b uses mine

kept_uses : (k : Key) (g : ℕ → Bin) (m : Mem) (tasks : ℕ → Task) (u : Uses) (t b time block : ℕ) (at : KeepAt) (f : ℕ)
    → CacheGood k g m tasks → UsesGood k g tasks u → tasks t ≡ Task.Keeping b time block at
    → UsesGood k (bins_kept b time block at g) (put tasks t (task_kept b time block (keep_learn at f)))
    (uses_kept block at u)
kept_uses k g m tasks u t b time block KeepAt.Lock f good uses is =
    uses_on k g tasks u t (task_kept b time block (keep_learn KeepAt.Lock f)) uses
    (kept_next k u t b time block KeepAt.Lock f (subst (UseFits k u t) is (uses.fits t)))
kept_uses k g m tasks u t b time block KeepAt.Items f good uses is =
    uses_on k g tasks u t (task_kept b time block (keep_learn KeepAt.Items f)) uses
    (kept_next k u t b time block KeepAt.Items f (subst (UseFits k u t) is (uses.fits t)))
kept_uses k g m tasks u t b time block (KeepAt.Head items) f good uses is =
    uses_on k g tasks u t (task_kept b time block (keep_learn (KeepAt.Head items) f)) uses
    (kept_next k u t b time block (KeepAt.Head items) f (subst (UseFits k u t) is (uses.fits t)))
kept_uses k g m tasks u t b time block (KeepAt.Walk tail) f good uses is =
    uses_on k g tasks u t (task_kept b time block (keep_learn (KeepAt.Walk tail) f)) uses
    (kept_next k u t b time block (KeepAt.Walk tail) f (subst (UseFits k u t) is (uses.fits t)))
kept_uses k g m tasks u t b time block (KeepAt.OldAge tail) f good uses is =
    uses_on k g tasks u t (task_kept b time block (keep_learn (KeepAt.OldAge tail) f)) uses
    (kept_next k u t b time block (KeepAt.OldAge tail) f (subst (UseFits k u t) is (uses.fits t)))
kept_uses k g m tasks u t b time block (KeepAt.Cut tail age) f good uses is =
    uses_on k g tasks u t (task_kept b time block (keep_learn (KeepAt.Cut tail age) f)) uses
    (kept_next k u t b time block (KeepAt.Cut tail age) f (subst (UseFits k u t) is (uses.fits t)))
kept_uses k g m tasks u t b time block (KeepAt.SetCleaned tail age) f good uses is =
    uses_on k g tasks u t (task_kept b time block (keep_learn (KeepAt.SetCleaned tail age) f)) uses
    (kept_next k u t b time block (KeepAt.SetCleaned tail age) f (subst (UseFits k u t) is (uses.fits t)))
kept_uses k g m tasks u t b time block (KeepAt.SetLink items head released) f good uses is =
    uses_on k g tasks u t (task_kept b time block (keep_learn (KeepAt.SetLink items head released) f)) uses
    (kept_next k u t b time block (KeepAt.SetLink items head released) f (subst (UseFits k u t) is (uses.fits t)))
kept_uses k g m tasks u t b time block (KeepAt.SetAge items released) f good uses is =
    uses_on k g tasks u t (task_kept b time block (keep_learn (KeepAt.SetAge items released) f)) uses
    (kept_next k u t b time block (KeepAt.SetAge items released) f (subst (UseFits k u t) is (uses.fits t)))
kept_uses k g m tasks u t b time block (KeepAt.SetHead items released) f good uses is =
    uses_on k g tasks u t (task_kept b time block (keep_learn (KeepAt.SetHead items released) f)) uses
    (kept_next k u t b time block (KeepAt.SetHead items released) f (subst (UseFits k u t) is (uses.fits t)))
kept_uses k g m tasks u t b time block (KeepAt.SetItems items released) f good uses is =
    uses_on k g tasks u t (task_kept b time block (keep_learn (KeepAt.SetItems items released) f)) uses
    (kept_next k u t b time block (KeepAt.SetItems items released) f (subst (UseFits k u t) is (uses.fits t)))
kept_uses k g m tasks u t b time block (KeepAt.Used released) f good uses is =
    uses_on k g tasks u t (task_kept b time block (keep_learn (KeepAt.Used released) f)) uses
    (kept_next k u t b time block (KeepAt.Used released) f (subst (UseFits k u t) is (uses.fits t)))
kept_uses k g m tasks u t b time block (KeepAt.SetUsed released used) f good uses is =
    uses_on k g tasks u t (task_kept b time block (keep_learn (KeepAt.SetUsed released used) f)) uses
    (kept_next k u t b time block (KeepAt.SetUsed released used) f (subst (UseFits k u t) is (uses.fits t)))
kept_uses k g m tasks u t b time block (KeepAt.Unlock released) f good uses is =
    kept_counts k g m tasks u t b time block (KeepAt.Unlock released) good uses is

swept_uses : (k : Key) (g : ℕ → Bin) (tasks : ℕ → Task) (u : Uses) (t b time : ℕ) (cleanup : Cleanup) (gone : List ℕ)
    (at : SweepAt) (f : ℕ) → UsesGood k g tasks u
    → UsesGood k (bins_swept b time cleanup at g)
    (put tasks t (task_swept b time cleanup gone (sweep_learn (sweep_of t b time cleanup) at f))) u
swept_uses k g tasks u t b time cleanup gone SweepAt.Clock f uses =
    uses_on k g tasks u t (task_swept b time cleanup gone (sweep_learn (sweep_of t b time cleanup) SweepAt.Clock f))
    uses
    (swept_next k u t b time cleanup gone (sweep_learn (sweep_of t b time cleanup) SweepAt.Clock f))
swept_uses k g tasks u t b time cleanup gone SweepAt.Peek f uses =
    uses_on k g tasks u t (task_swept b time cleanup gone (sweep_learn (sweep_of t b time cleanup) SweepAt.Peek f)) uses
    (swept_next k u t b time cleanup gone (sweep_learn (sweep_of t b time cleanup) SweepAt.Peek f))
swept_uses k g tasks u t b time cleanup gone SweepAt.Lock f uses =
    uses_on k g tasks u t (task_swept b time cleanup gone (sweep_learn (sweep_of t b time cleanup) SweepAt.Lock f)) uses
    (swept_next k u t b time cleanup gone (sweep_learn (sweep_of t b time cleanup) SweepAt.Lock f))
swept_uses k g tasks u t b time cleanup gone SweepAt.Items f uses =
    uses_on k g tasks u t (task_swept b time cleanup gone (sweep_learn (sweep_of t b time cleanup) SweepAt.Items f))
    uses
    (swept_next k u t b time cleanup gone (sweep_learn (sweep_of t b time cleanup) SweepAt.Items f))
swept_uses k g tasks u t b time cleanup gone (SweepAt.Judge at) f uses =
    uses_on k g tasks u t (task_swept b time cleanup gone
    (sweep_learn (sweep_of t b time cleanup) (SweepAt.Judge at) f)) uses
    (swept_next k u t b time cleanup gone (sweep_learn (sweep_of t b time cleanup) (SweepAt.Judge at) f))
swept_uses k g tasks u t b time cleanup gone (SweepAt.SetThreshold count threshold) f uses =
    uses_on k g tasks u t (task_swept b time cleanup gone
    (sweep_learn (sweep_of t b time cleanup) (SweepAt.SetThreshold count threshold) f)) uses
    (swept_next k u t b time cleanup gone (sweep_learn (sweep_of t b time cleanup)
    (SweepAt.SetThreshold count threshold) f))
swept_uses k g tasks u t b time cleanup gone (SweepAt.Head count threshold) f uses =
    uses_on k g tasks u t (task_swept b time cleanup gone
    (sweep_learn (sweep_of t b time cleanup) (SweepAt.Head count threshold) f)) uses
    (swept_next k u t b time cleanup gone (sweep_learn (sweep_of t b time cleanup) (SweepAt.Head count threshold) f))
swept_uses k g tasks u t b time cleanup gone (SweepAt.Age walk) f uses =
    uses_on k g tasks u t (task_swept b time cleanup gone
    (sweep_learn (sweep_of t b time cleanup) (SweepAt.Age walk) f)) uses
    (swept_next k u t b time cleanup gone (sweep_learn (sweep_of t b time cleanup) (SweepAt.Age walk) f))
swept_uses k g tasks u t b time cleanup gone (SweepAt.Link walk) f uses =
    uses_on k g tasks u t (task_swept b time cleanup gone
    (sweep_learn (sweep_of t b time cleanup) (SweepAt.Link walk) f)) uses
    (swept_next k u t b time cleanup gone (sweep_learn (sweep_of t b time cleanup) (SweepAt.Link walk) f))
swept_uses k g tasks u t b time cleanup gone (SweepAt.Cut walk) f uses =
    uses_on k g tasks u t (task_swept b time cleanup gone
    (sweep_learn (sweep_of t b time cleanup) (SweepAt.Cut walk) f)) uses
    (swept_next k u t b time cleanup gone (sweep_learn (sweep_of t b time cleanup) (SweepAt.Cut walk) f))
swept_uses k g tasks u t b time cleanup gone (SweepAt.SetItems walk) f uses =
    uses_on k g tasks u t (task_swept b time cleanup gone
    (sweep_learn (sweep_of t b time cleanup) (SweepAt.SetItems walk) f)) uses
    (swept_next k u t b time cleanup gone (sweep_learn (sweep_of t b time cleanup) (SweepAt.SetItems walk) f))
swept_uses k g tasks u t b time cleanup gone (SweepAt.SetCleaned walk) f uses =
    uses_on k g tasks u t (task_swept b time cleanup gone
    (sweep_learn (sweep_of t b time cleanup) (SweepAt.SetCleaned walk) f)) uses
    (swept_next k u t b time cleanup gone (sweep_learn (sweep_of t b time cleanup) (SweepAt.SetCleaned walk) f))
swept_uses k g tasks u t b time cleanup gone SweepAt.Unlock f uses = swept_counts k g tasks u t b time cleanup uses

pub uses_keep : (k : Key) (g : ℕ → Bin) (m : Mem) (tasks : ℕ → Task) (u : Uses) (h : ℕ → Bin) (m' : Mem)
    (tasks' : ℕ → Task) (step : BinStep k g m tasks h m' tasks') → CacheGood k g m tasks → UsesGood k g tasks u
    → MayBegin k g m tasks u h m' tasks' step → UsesGood k h tasks' (uses_after k g m tasks u h m' tasks' step)
uses_keep k g m tasks u h m' tasks' (BinStep.asks t b time low is) good uses may =
    uses_on k g tasks u t (Task.Getting b time GetAt.Lock) uses may
uses_keep k g m tasks u h m' tasks' (BinStep.regrets t b low is) good uses may =
    uses_on k g tasks u t (Task.Undoing b UndoAt.Lock) uses may
uses_keep k g m tasks u h m' tasks' (BinStep.gives t b time block low inside free is) good uses may =
    uses_on k g tasks u t (Task.Keeping b time block KeepAt.Lock) uses may
uses_keep k g m tasks u h m' tasks' (BinStep.cleans t b time cleanup at low none is) good uses may =
    uses_on k g tasks u t (Task.Sweeping b time cleanup [] at) uses tt
uses_keep k g m tasks u h m' tasks' (BinStep.gets t b time at is) good uses may =
    got_uses k g m tasks u t b time at (found m (get_course (call_of t b time) at)) good uses
    (subst (UseFits k u t) is (uses.fits t))
uses_keep k g m tasks u h m' tasks' (BinStep.undoes t b at is) good uses may =
    undone_uses k g tasks u t b at (found m (undo_course (call_of t b 0) at)) uses
    (subst (UseFits k u t) is (uses.fits t))
uses_keep k g m tasks u h m' tasks' (BinStep.keeps t b time block at is) good uses may =
    kept_uses k g m tasks u t b time block at (found m (keep_course (keep_of t b time block) at)) good uses is
uses_keep k g m tasks u h m' tasks' (BinStep.sweeps t b time cleanup gone at is) good uses may =
    swept_uses k g tasks u t b time cleanup gone at (found m (sweep_course (sweep_of t b time cleanup) at)) uses
uses_keep k g m tasks u h m' tasks' (BinStep.others action other) good uses may = uses

-- a get is granted a block
pub granted : (k : Key) (g : ℕ → Bin) (m : Mem) (tasks : ℕ → Task) (u : Uses) (t b x : ℕ) → UsesGood k g tasks u
    → t < k.seats → tasks t ≡ Task.Away → u.asked t ≡ Some b → x < k.span → IsFree g tasks x → u.users x ≡ None
    → UsesGood k g tasks (record { users = put u.users x (Some b); asked = put u.asked t None })
granted k g m tasks u t b x uses seat is asked low free none = record {
  seats = uses.seats;
  counted = λ c. let more = users-more k u x b c low none in
      let less = asked-less k (record u { users = put u.users x (Some b) }) t b c seat asked in
      let o = uses.counted c in omega (arith, more, less, o);
  fits = λ s. equal_or s t
      (λ e. subst (UseFits k u' s) (sym (ap tasks e ∙ is)) tt)
      (λ ne. fits-asked k (record u { users = put u.users x (Some b) }) t None s (tasks s) ne
      (fits-users k u x (Some b) s (tasks s) (free.hands s) (uses.fits s)));
  unused = λ c y some. put-other u.users x (Some b) y
      (λ e. let h = free.bins c in let q = ap (λ z. tally z (blocks_of (g c).items)) e in omega (arith, h, q, some))
      ∙ uses.unused c y some;
}
  where
    u' : Uses
    u' = record { users = put u.users x (Some b); asked = put u.asked t None }

pub steps_keep_uses : StepsKeepUses
steps_keep_uses k g m tasks u h m' tasks' u' good (UseStep.acts h' m'' tasks'' step may) = record {
  cache = steps_keep_cache k g m tasks h m' tasks' good.cache step;
  uses = uses_keep k g m tasks u h m' tasks' step good.cache good.uses may;
}
steps_keep_uses k g m tasks u h m' tasks' u' good (UseStep.grants t b x seat is asked low free none) = record {
  cache = good.cache;
  uses = granted k g m tasks u t b x good.uses seat is asked low free none;
}

pub runs_keep_uses : RunsKeepUses
runs_keep_uses k g m tasks u h m' tasks' u' good starts = good
runs_keep_uses k g m tasks u h m' tasks' u' good (steps {g1} {m1} {t1} {u1} run step) =
    steps_keep_uses k g1 m1 t1 u1 h m' tasks' u' (runs_keep_uses k g m tasks u g1 m1 t1 u1 good run) step

pub used_is_the_number_of_uses : UsedIsTheNumberOfUses
used_is_the_number_of_uses k g m tasks u b good free =
    ((words_are_those_of_the_stage k g m tasks b good.cache).free free).used' ∙ good.uses.counted b

-- each job at a bin may make its step
can_at : (k : Key) (g : ℕ → Bin) (m : Mem) (tasks : ℕ → Task) (u : Uses) (t : ℕ) (task : Task)
    → BothGood k g m tasks u → tasks t ≡ task → UseFits k u t task → CanJob g task
can_at k g m tasks u t Task.Away good is fits = tt
can_at k g m tasks u t (Task.Getting b time at) good is fits =
    let few = uses_few k u b good.cache.span good.uses.seats in let o = good.uses.counted b in omega (arith, few, o)
can_at k g m tasks u t (Task.Undoing b at) good is fits =
    let h = asked-less k u t b b fits.0 fits.1 in let z = at-self b in let o = good.uses.counted b in
    omega (arith, h, z, o)
can_at k g m tasks u t (Task.Keeping b time block at) good is fits =
    let low = (at_call k g m tasks t (Task.Keeping b time block at) is good.cache).1 in
    let h = users-less k u block b b low fits.1 in let z = at-self b in let o = good.uses.counted b in
    omega (arith, h, z, o)
can_at k g m tasks u t (Task.Sweeping b time cleanup gone at) good is fits = tt

pub jobs_can_step : JobsCanStep
jobs_can_step k g m tasks u t good = can_at k g m tasks u t (tasks t) good refl (good.uses.fits t)
