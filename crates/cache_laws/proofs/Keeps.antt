-- Each step, and so each run, keeps what holds of bins; what changes a bin; and what follows.
use Rattle.std.proofs.Common.{◌≡◌, inl, inr, ℕ, ◌+◌, ◌-◌, ◌^◌, ◌<◌, ◌≤◌, Bool, true, false, cond, Some, None}
use Rattle.std.proofs.Common.{List, [], ◌∷◌, refl, sym, ap, subst, arith, ◌∙◌}
use Rattle.std.specs.Prelude.{◌==◌, if◌then◌else◌, nat_le, length, ◌⊎◌}
use Rattle.cache_ages.specs.declared.CacheOp.{CacheOp}
use Rattle.cache_ages.specs.CacheSteps.{cache_step, CanStep, copied, after_put_over, after_put_in}
use Rattle.cache_ages.specs.Times.{most_items}
use Rattle.std.proofs.lemmas.Bool.Decides.{nat_tests}
use Rattle.pool_types.specs.Sums.{capped}
use Rattle.pool_words.specs.declared.words.Key.{Key}
use Rattle.large_cache.specs.declared.get.GetAt.{GetAt}
use Rattle.large_cache.specs.declared.keep.KeepAt.{KeepAt}
use Rattle.large_cache.specs.declared.sweep.Cleanup.{Cleanup}
use Rattle.large_cache.specs.declared.sweep.SweepAt.{SweepAt}
use Rattle.large_cache.specs.declared.undo.UndoAt.{UndoAt}
use Rattle.word_laws.specs.Memory.{put, after}
use Rattle.word_laws.proofs.CallerLemmas.{put-same, put-other}
use Rattle.chain_laws.specs.Chains.{tally}
use Rattle.lock_laws.specs.Locks.{locks_of}
use Rattle.lock_laws.proofs.CallerLemmas.{lock_word-taken}
use Rattle.cache_laws.specs.Bins.{Item, Bin, blocks_of, ages_of, numbers_of, Says}
use Rattle.cache_laws.specs.Gets.{got, get_done, undo_done}
use Rattle.cache_laws.specs.Puts.{cut_at, is_full, item_of, keep_done}
use Rattle.cache_laws.specs.Sweeps.{sweep_done}
use Rattle.cache_laws.specs.Good.{Task, bin_of, holds, lock_in, stage, lock_words, BinFits}
use Rattle.cache_laws.specs.Steps.{bins_got, bins_undone, bins_kept, bins_swept, BinStep}
use Rattle.cache_laws.specs.Steps.BinRun.{starts, steps}
use Rattle.cache_laws.specs.Laws.{StepsKeepCache, RunsKeepCache, OneStep, IsJob, BinChange}
use Rattle.cache_laws.specs.Laws.{EachChangeIsOneStepOfTheRules}
use Rattle.cache_laws.specs.Laws.{WordsAreThoseOfTheStage, BlocksAreOnce, GetsTakeTheNewest, PutsReleaseTheOldest}
use Rattle.cache_laws.specs.Laws.{op_of, SweepsReleaseTheOldest}
use Rattle.cache_laws.proofs.Words.{same_after}
use Rattle.cache_laws.proofs.Seats.{at_held, one_holder, waits, other_keeps}
use Rattle.cache_laws.proofs.GetSteps.{gets-as, undoes-as}
use Rattle.cache_laws.proofs.Lists.{take-ages, length-ages}
use Rattle.cache_laws.proofs.PutSteps.{keeps-as}
use Rattle.cache_laws.proofs.Sweeps.{swept_is}
use Rattle.cache_laws.proofs.SweepSteps.{sweeps-as}

pub steps_keep_cache : StepsKeepCache
steps_keep_cache k g m tasks h m' tasks' good (BinStep.asks t b time low is) =
    waits k g m tasks t Task.Away (Task.Getting b time GetAt.Lock) good is refl refl low
    (λ x c z. let q : None ≡ Some x = z in absurd (cc)) (λ o x ne z. let q : None ≡ Some x = z in absurd (cc))
steps_keep_cache k g m tasks h m' tasks' good (BinStep.regrets t b low is) =
    waits k g m tasks t Task.Away (Task.Undoing b UndoAt.Lock) good is refl refl low
    (λ x c z. let q : None ≡ Some x = z in absurd (cc)) (λ o x ne z. let q : None ≡ Some x = z in absurd (cc))
steps_keep_cache k g m tasks h m' tasks' good (BinStep.gives t b time block low inside free is) =
    waits k g m tasks t Task.Away (Task.Keeping b time block KeepAt.Lock) good is refl refl (low, inside)
    (λ x c z. let e : block ≡ x = cc in subst (λ y. tally y (blocks_of (g c).items) ≡ 0) e (free.bins c))
    (λ o x ne z w. free.hands o (w ∙ sym z))
steps_keep_cache k g m tasks h m' tasks' good (BinStep.keeps t b time block at is) =
    keeps-as k g m tasks t b time block at is good
steps_keep_cache k g m tasks h m' tasks' good (BinStep.cleans t b time cleanup at low none is) =
    waits k g m tasks t Task.Away (Task.Sweeping b time cleanup [] at) good is refl none (low, λ _. refl)
    (λ x c z. let q : None ≡ Some x = z in absurd (cc)) (λ o x ne z. let q : None ≡ Some x = z in absurd (cc))
steps_keep_cache k g m tasks h m' tasks' good (BinStep.sweeps t b time cleanup gone at is) =
    sweeps-as k g m tasks t b time cleanup gone at is good
steps_keep_cache k g m tasks h m' tasks' good (BinStep.gets t b time at is) = gets-as k g m tasks t b time at is good
steps_keep_cache k g m tasks h m' tasks' good (BinStep.undoes t b at is) = undoes-as k g m tasks t b at is good
steps_keep_cache k g m tasks h m' tasks' good (BinStep.others action other) =
    other_keeps k g m (after k m action) tasks (same_after k m action other) good

pub runs_keep_cache : RunsKeepCache
runs_keep_cache k g m tasks h m' tasks' good starts = good
runs_keep_cache k g m tasks h m' tasks' good (steps {g1} {m1} {t1} run step) =
    steps_keep_cache k g1 m1 t1 h m' tasks' (runs_keep_cache k g m tasks g1 m1 t1 good run) step

-- a get is one step
capped_more : (n : ℕ) → n < 2 ^ 64 - 1 → capped (n + 1) ≡ n + 1
capped_more n low = omega arith

got_is : (time : ℕ) (bin : Bin) (l : List Item) → CanStep CacheOp.Get bin.used
    → numbers_of (got time (record bin { items = l }) l)
    ≡ (cache_step (numbers_of (record bin { items = l })) CacheOp.Get time).numbers
got_is time bin [] can =
    ap (λ u. record (numbers_of (got time (record bin { items = [] }) [])) { used = u }) (capped_more bin.used can)
got_is time bin (x ∷ xs) can =
    ap (λ u. record (numbers_of (got time (record bin { items = x ∷ xs }) (x ∷ xs))) { used = u })
    (capped_more bin.used can)

one_got : (g : ℕ → Bin) (b time : ℕ) → OneStep g (put g b (get_done time (g b))) b CacheOp.Get time
one_got g b time = record {
  numbers = λ can. ap numbers_of (put-same g b (get_done time (g b))) ∙ got_is time (g b) (g b).items can;
  others = λ c ne. put-other g b (get_done time (g b)) c ne;
}

one_undone : (g : ℕ → Bin) (b : ℕ) → OneStep g (put g b (undo_done (g b))) b CacheOp.Undo 0
one_undone g b = record {
  numbers = λ can. ap numbers_of (put-same g b (undo_done (g b)));
  others = λ c ne. put-other g b (undo_done (g b)) c ne;
}

kept_is : (k : Key) (time block : ℕ) (bin : Bin) → BinFits k bin → (full : Bool) → is_full bin ≡ full
    → (length (ages_of bin.items) == 64) ≡ full
    → numbers_of (record (cut_at full bin) {
      count = capped ((cut_at full bin).count + 1);
      used = bin.used - 1;
      items = item_of time block ∷ (cut_at full bin).items;
    })
    ≡ (if full then after_put_over (numbers_of bin) time (ages_of bin.items)
    else after_put_in (numbers_of bin) time (ages_of bin.items)).numbers
kept_is k time block bin fits true full at =
    ap (λ l. record (after_put_over (numbers_of bin) time (ages_of bin.items)).numbers { ages = copied (time ∷ l) })
    (take-ages 63 bin.items)
kept_is k time block bin fits false full at = refl

full_is : (k : Key) (bin : Bin) → BinFits k bin → (length (ages_of bin.items) == 64) ≡ is_full bin
full_is k bin fits =
    let a = length-ages bin.items in let c = fits.counted in let f = fits.few in
    by (length (ages_of bin.items)) bin.count (omega arith) (omega arith)
  where
    by : (n c : ℕ) → n ≡ c → n ≤ 64 → (n == 64) ≡ nat_le most_items c
    by n c same few = grind (arith, nat_tests)

one_kept : (k : Key) (g : ℕ → Bin) (b time block : ℕ) → BinFits k (g b)
    → OneStep g (put g b (keep_done time block (g b))) b CacheOp.Put time
one_kept k g b time block fits = record {
  numbers = λ can. ap numbers_of (put-same g b (keep_done time block (g b)))
      ∙ kept_is k time block (g b) fits (is_full (g b)) refl (full_is k (g b) fits)
      ∙ ap (λ full. (if full then after_put_over (numbers_of (g b)) time (ages_of (g b).items)
      else after_put_in (numbers_of (g b)) time (ages_of (g b).items)).numbers) (sym (full_is k (g b) fits));
  others = λ c ne. put-other g b (keep_done time block (g b)) c ne;
}

one_swept : (k : Key) (g : ℕ → Bin) (b time : ℕ) (cleanup : Cleanup) → BinFits k (g b)
    → OneStep g (put g b (sweep_done cleanup time (g b))) b (op_of cleanup) time
one_swept k g b time cleanup fits = record {
  numbers = λ can. ap numbers_of (put-same g b (sweep_done cleanup time (g b)))
      ∙ swept_is k cleanup time (g b) (g b).items fits;
  others = λ c ne. put-other g b (sweep_done cleanup time (g b)) c ne;
}

swept_change : (k : Key) (g : ℕ → Bin) (tasks : ℕ → Task) (t b time : ℕ) (cleanup : Cleanup) (gone : List ℕ)
    (at : SweepAt) → BinFits k (g b) → tasks t ≡ Task.Sweeping b time cleanup gone at
    → (bins_swept b time cleanup at g ≡ g) ⊎ BinChange g (bins_swept b time cleanup at g) tasks
swept_change k g tasks t b time cleanup gone SweepAt.Clock fits is = inl refl
swept_change k g tasks t b time cleanup gone SweepAt.Peek fits is = inl refl
swept_change k g tasks t b time cleanup gone SweepAt.Lock fits is = inl refl
swept_change k g tasks t b time cleanup gone SweepAt.Items fits is = inl refl
swept_change k g tasks t b time cleanup gone (SweepAt.Judge at) fits is = inl refl
swept_change k g tasks t b time cleanup gone (SweepAt.SetThreshold count threshold) fits is = inl refl
swept_change k g tasks t b time cleanup gone (SweepAt.Head count threshold) fits is = inl refl
swept_change k g tasks t b time cleanup gone (SweepAt.Age walk) fits is = inl refl
swept_change k g tasks t b time cleanup gone (SweepAt.Link walk) fits is = inl refl
swept_change k g tasks t b time cleanup gone (SweepAt.Cut walk) fits is = inl refl
swept_change k g tasks t b time cleanup gone (SweepAt.SetItems walk) fits is = inl refl
swept_change k g tasks t b time cleanup gone (SweepAt.SetCleaned walk) fits is = inl refl
swept_change k g tasks t b time cleanup gone SweepAt.Unlock fits is = inr (record {
  seat = t;
  lock = ap holds is;
  change = subst (IsJob g (put g b (sweep_done cleanup time (g b)))) (sym is) (one_swept k g b time cleanup fits);
})

kept_change : (k : Key) (g : ℕ → Bin) (tasks : ℕ → Task) (t b time block : ℕ) (at : KeepAt) → BinFits k (g b)
    → tasks t ≡ Task.Keeping b time block at
    → (bins_kept b time block at g ≡ g) ⊎ BinChange g (bins_kept b time block at g) tasks
kept_change k g tasks t b time block KeepAt.Lock fits is = inl refl
kept_change k g tasks t b time block KeepAt.Items fits is = inl refl
kept_change k g tasks t b time block (KeepAt.Head items) fits is = inl refl
kept_change k g tasks t b time block (KeepAt.Walk tail) fits is = inl refl
kept_change k g tasks t b time block (KeepAt.OldAge tail) fits is = inl refl
kept_change k g tasks t b time block (KeepAt.Cut tail age) fits is = inl refl
kept_change k g tasks t b time block (KeepAt.SetCleaned tail age) fits is = inl refl
kept_change k g tasks t b time block (KeepAt.SetLink items head released) fits is = inl refl
kept_change k g tasks t b time block (KeepAt.SetAge items released) fits is = inl refl
kept_change k g tasks t b time block (KeepAt.SetHead items released) fits is = inl refl
kept_change k g tasks t b time block (KeepAt.SetItems items released) fits is = inl refl
kept_change k g tasks t b time block (KeepAt.Used released) fits is = inl refl
kept_change k g tasks t b time block (KeepAt.SetUsed released used) fits is = inl refl
kept_change k g tasks t b time block (KeepAt.Unlock released) fits is = inr (record {
  seat = t;
  lock = ap holds is;
  change = subst (IsJob g (put g b (keep_done time block (g b)))) (sym is) (one_kept k g b time block fits);
})

got_change : (g : ℕ → Bin) (tasks : ℕ → Task) (t b time : ℕ) (at : GetAt) → tasks t ≡ Task.Getting b time at
    → (bins_got b time at g ≡ g) ⊎ BinChange g (bins_got b time at g) tasks
got_change g tasks t b time GetAt.Lock is = inl refl
got_change g tasks t b time GetAt.Items is = inl refl
got_change g tasks t b time (GetAt.Head items) is = inl refl
got_change g tasks t b time (GetAt.Hit at) is = inl refl
got_change g tasks t b time GetAt.Cleaned is = inl refl
got_change g tasks t b time (GetAt.SetThreshold cleaned) is = inl refl
got_change g tasks t b time GetAt.ClearCleaned is = inl refl
got_change g tasks t b time (GetAt.SetTime block) is = inl refl
got_change g tasks t b time (GetAt.Used block) is = inl refl
got_change g tasks t b time (GetAt.SetUsed block used) is = inl refl
got_change g tasks t b time (GetAt.Unlock block) is = inr (record {
  seat = t;
  lock = ap holds is;
  change = subst (IsJob g (put g b (get_done time (g b)))) (sym is) (one_got g b time);
})

undone_change : (g : ℕ → Bin) (tasks : ℕ → Task) (t b : ℕ) (at : UndoAt) → tasks t ≡ Task.Undoing b at
    → (bins_undone b at g ≡ g) ⊎ BinChange g (bins_undone b at g) tasks
undone_change g tasks t b UndoAt.Lock is = inl refl
undone_change g tasks t b UndoAt.Used is = inl refl
undone_change g tasks t b (UndoAt.SetUsed used) is = inl refl
undone_change g tasks t b UndoAt.Unlock is = inr (record {
  seat = t;
  lock = ap holds is;
  change = subst (IsJob g (put g b (undo_done (g b)))) (sym is) (one_undone g b);
})

pub each_change_is_one_step_of_the_rules : EachChangeIsOneStepOfTheRules
each_change_is_one_step_of_the_rules k g m tasks h m' tasks' good (BinStep.asks t b time low is) = inl refl
each_change_is_one_step_of_the_rules k g m tasks h m' tasks' good (BinStep.regrets t b low is) = inl refl
each_change_is_one_step_of_the_rules k g m tasks h m' tasks' good (BinStep.gives t b time block low inside free is) =
    inl refl
each_change_is_one_step_of_the_rules k g m tasks h m' tasks' good (BinStep.keeps t b time block at is) =
    kept_change k g tasks t b time block at (good.bins b) is
each_change_is_one_step_of_the_rules k g m tasks h m' tasks' good (BinStep.cleans t b time cleanup at low none is) =
    inl refl
each_change_is_one_step_of_the_rules k g m tasks h m' tasks' good (BinStep.sweeps t b time cleanup gone at is) =
    swept_change k g tasks t b time cleanup gone at (good.bins b) is
each_change_is_one_step_of_the_rules k g m tasks h m' tasks' good (BinStep.gets t b time at is) =
    got_change g tasks t b time at is
each_change_is_one_step_of_the_rules k g m tasks h m' tasks' good (BinStep.undoes t b at is) =
    undone_change g tasks t b at is
each_change_is_one_step_of_the_rules k g m tasks h m' tasks' good (BinStep.others action other) = inl refl

-- what the words of a bin are
held_at : (task : Task) (b : ℕ) → lock_in task ≡ Some b → (holds task ≡ true) × (bin_of task ≡ b)
held_at task b is = by (holds task) refl is
  where
    by : (has : Bool) → holds task ≡ has → cond has (Some (bin_of task)) None ≡ Some b
        → (holds task ≡ true) × (bin_of task ≡ b)
    by true z w = (z, (let q : bin_of task ≡ b = cc in q))
    by false z w = absurd (cc)

pub words_are_those_of_the_stage : WordsAreThoseOfTheStage
words_are_those_of_the_stage k g m tasks b good = record {
  held = λ o z. let at = held_at (tasks o) b z in
      subst (λ c. Says m c (stage (tasks o) (g c))) at.1 (good.held o at.0).says;
  one = λ o p z w. one_holder (locks_of lock_words m) tasks o p b good.locks z w;
  free = λ free. good.rest b (λ o z. lock_word-taken o (sym (good.locks.held o b z) ∙ free));
}

pub blocks_are_once : BlocksAreOnce
blocks_are_once k g m tasks x b good some = record {
  here = let o = (good.bins b).once x in omega arith;
  else = λ c ne. good.once b c (λ e. ne (sym e)) x some;
}

pub gets_take_the_newest : GetsTakeTheNewest
gets_take_the_newest k g m tasks t b time block good is =
    (at_held k g m tasks t (Task.Getting b time (GetAt.Unlock block)) is refl good).noted

pub puts_release_the_oldest : PutsReleaseTheOldest
puts_release_the_oldest k g m tasks t b time block released good is =
    (at_held k g m tasks t (Task.Keeping b time block (KeepAt.Unlock released)) is refl good).noted

pub sweeps_release_the_oldest : SweepsReleaseTheOldest
sweeps_release_the_oldest k g m tasks t b time cleanup gone good is =
    (at_held k g m tasks t (Task.Sweeping b time cleanup gone SweepAt.Unlock) is refl good).noted
