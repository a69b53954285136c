-- The steps of each job at a bin.
use Rattle.std.proofs.Common.{◌≡◌, ◌≢◌, ℕ, ◌+◌, ◌<◌, ◌≤◌, Some, None, List, [], ◌∷◌, refl, sym, ap, subst, arith}
use Rattle.std.proofs.Common.{◌∙◌}
use Rattle.pool_words.specs.declared.words.Key.{Key}
use Rattle.guards.specs.declared.win.Taking.{Taking}
use Rattle.large_cache.specs.declared.get.GetAt.{GetAt}
use Rattle.large_cache.specs.declared.get.GetNext.{GetNext}
use Rattle.large_cache.specs.declared.keep.KeepAt.{KeepAt}
use Rattle.large_cache.specs.declared.keep.KeepNext.{KeepNext}
use Rattle.large_cache.specs.declared.sweep.Cleanup.{Cleanup}
use Rattle.large_cache.specs.declared.sweep.SweepAt.{SweepAt}
use Rattle.large_cache.specs.declared.sweep.SweepNext.{SweepNext}
use Rattle.large_cache.specs.declared.undo.UndoAt.{UndoAt}
use Rattle.large_cache.specs.declared.undo.UndoNext.{UndoNext}
use Rattle.large_cache.specs.Keep.{keep_learn}
use Rattle.word_laws.proofs.CallerLemmas.{equal_or}
use Rattle.chain_laws.specs.Chains.{tally}
use Rattle.chain_laws.proofs.CallerLemmas.{tally-here, tally-else}
use Rattle.guard_laws.specs.Blocks as guards
use Rattle.guard_laws.specs.Blocks.{Use, Place}
use Rattle.cache_laws.specs.Good.{Task, hand}
use Rattle.cache_laws.specs.Steps.{task_got, task_undone, task_kept, task_swept, bins_got, bins_undone, bins_kept}
use Rattle.cache_laws.specs.Steps.{bins_swept}
use Rattle.cache_laws.proofs.CallerLemmas.{gets_take_the_newest, puts_release_the_oldest, sweeps_release_the_oldest}
use Rattle.use_laws.specs.Pools.{Pool, PoolGood, InHand}
use Rattle.use_laws.specs.Stays.{HandStays}
use Rattle.shelf_laws.specs.Shelves.{State, stock_of, ShelvesFit, PutFits, ShelfGood}
use Rattle.shelf_laws.specs.Steps.{left_by_get, left_by_keep, left_by_sweep, shelved_by, taken_out}
use Rattle.shelf_laws.proofs.Taking.{at_bin, IsOnce, Moved, in_here, in_else, in_none, take_all, shelve_one}
use Rattle.shelf_laws.proofs.Stocks.{got_leaves, undone_leaves, kept_leaves, swept_leaves}

-- what a seat is about to put
pub put_stays : (place place' : ℕ → Place) (seat : ℕ) (task : Task) → HandStays place place' seat
    → PutFits place seat task → PutFits place' seat task
put_stays place place' t Task.Away stays fits = tt
put_stays place place' t (Task.Getting b time at) stays fits = tt
put_stays place place' t (Task.Undoing b at) stays fits = tt
put_stays place place' t (Task.Keeping b time block at) stays fits = stays block b Taking.ForUse fits
put_stays place place' t (Task.Sweeping b time cleanup gone at) stays fits = tt

pub put_none : (place : ℕ → Place) (seat : ℕ) (task : Task) → hand task ≡ None → PutFits place seat task
put_none place t Task.Away none = tt
put_none place t (Task.Getting b time at) none = tt
put_none place t (Task.Undoing b at) none = tt
put_none place t (Task.Keeping b time block at) none = absurd (let q : Some block ≡ None = none in cc)
put_none place t (Task.Sweeping b time cleanup gone at) none = tt

pub got_fits : (place : ℕ → Place) (seat b time : ℕ) (next : GetNext) → PutFits place seat (task_got b time next)
got_fits place t b time (GetNext.Goes at) = tt
got_fits place t b time GetNext.Waits = tt
got_fits place t b time (GetNext.Took block) = tt
got_fits place t b time GetNext.Missed = tt

pub undone_fits : (place : ℕ → Place) (seat b : ℕ) (next : UndoNext) → PutFits place seat (task_undone b next)
undone_fits place t b (UndoNext.Goes at) = tt
undone_fits place t b UndoNext.Waits = tt
undone_fits place t b UndoNext.Undone = tt

pub swept_fits : (place : ℕ → Place) (seat b time : ℕ) (cleanup : Cleanup) (gone : List ℕ) (next : SweepNext)
    → PutFits place seat (task_swept b time cleanup gone next)
swept_fits place t b time cleanup gone (SweepNext.Goes at) = tt
swept_fits place t b time cleanup gone (SweepNext.Stays at) = tt
swept_fits place t b time cleanup gone (SweepNext.Stale block at) = tt
swept_fits place t b time cleanup gone SweepNext.Waits = tt
swept_fits place t b time cleanup gone (SweepNext.Began time') = tt
swept_fits place t b time cleanup gone SweepNext.Passed = tt
swept_fits place t b time cleanup gone SweepNext.Swept = tt

kept_next : (place : ℕ → Place) (seat b time block : ℕ) (next : KeepNext)
    → place block ≡ Place.Block block b (Use.Held seat Taking.ForUse)
    → PutFits place seat (task_kept b time block next)
kept_next place t b time block (KeepNext.Goes at) is = is
kept_next place t b time block KeepNext.Waits is = is
kept_next place t b time block (KeepNext.Kept released) is = tt

pub kept_fits : (seat : ℕ) (taking : Taking) (b time block found : ℕ) (at : KeepAt) (p : Pool)
    → p.blocks.place block ≡ Place.Block block b (Use.Held seat Taking.ForUse)
    → PutFits (taken_out seat taking b (left_by_keep at) (shelved_by at block b p)).blocks.place seat
    (task_kept b time block (keep_learn at found))
kept_fits t taking b time block f KeepAt.Lock p is =
    kept_next p.blocks.place t b time block (keep_learn KeepAt.Lock f) is
kept_fits t taking b time block f KeepAt.Items p is = is
kept_fits t taking b time block f (KeepAt.Head items) p is = is
kept_fits t taking b time block f (KeepAt.Walk tail) p is = is
kept_fits t taking b time block f (KeepAt.OldAge tail) p is = is
kept_fits t taking b time block f (KeepAt.Cut tail age) p is = is
kept_fits t taking b time block f (KeepAt.SetCleaned tail age) p is = is
kept_fits t taking b time block f (KeepAt.SetLink items head released) p is = is
kept_fits t taking b time block f (KeepAt.SetAge items released) p is = is
kept_fits t taking b time block f (KeepAt.SetHead items released) p is = is
kept_fits t taking b time block f (KeepAt.SetItems items released) p is = is
kept_fits t taking b time block f (KeepAt.Used released) p is = is
kept_fits t taking b time block f (KeepAt.SetUsed released used) p is = is
kept_fits t taking b time block f (KeepAt.Unlock released) p is = tt

-- bins have each block once
pub once_in : (k : Key) (s : State) → ShelfGood k s → IsOnce (stock_of s.bins)
once_in k s good = record {
  one = λ b x. (good.cache.bins b).once x;
  apart = λ b c x ne some. good.cache.once b c ne x some;
}

stays : (k : Key) (seat : ℕ) (p : Pool) (stock : ℕ → ℕ → ℕ) → PoolGood k p
    → ShelvesFit stock p.blocks.place p.purpose → Moved k seat p p stock
stays k t p stock good fits = record {
  pool = good;
  shelves = fits;
  mem = refl;
  hands = λ o ne x n taking is. is;
}

-- the blocks that a step of a get moves; `p` is the pool once the step's word is written
pub got_moved : (k : Key) (seat : ℕ) (taking : Taking) (b time : ℕ) (at : GetAt) (s : State) (p : Pool)
    → s.jobs seat ≡ Task.Getting b time at → ShelfGood k s → PoolGood k p → p.tasks seat ≡ guards.Task.Away
    → ShelvesFit (stock_of s.bins) p.blocks.place p.purpose
    → Moved k seat p (taken_out seat taking b (left_by_get at) p) (stock_of (bins_got b time at s.bins))
got_moved k t taking b time GetAt.Lock s p is good pool away fits = stays k t p (stock_of s.bins) pool fits
got_moved k t taking b time GetAt.Items s p is good pool away fits = stays k t p (stock_of s.bins) pool fits
got_moved k t taking b time (GetAt.Head items) s p is good pool away fits = stays k t p (stock_of s.bins) pool fits
got_moved k t taking b time (GetAt.Hit at) s p is good pool away fits = stays k t p (stock_of s.bins) pool fits
got_moved k t taking b time GetAt.Cleaned s p is good pool away fits = stays k t p (stock_of s.bins) pool fits
got_moved k t taking b time (GetAt.SetThreshold n) s p is good pool away fits = stays k t p (stock_of s.bins) pool fits
got_moved k t taking b time GetAt.ClearCleaned s p is good pool away fits = stays k t p (stock_of s.bins) pool fits
got_moved k t taking b time (GetAt.SetTime block) s p is good pool away fits = stays k t p (stock_of s.bins) pool fits
got_moved k t taking b time (GetAt.Used block) s p is good pool away fits = stays k t p (stock_of s.bins) pool fits
got_moved k t taking b time (GetAt.SetUsed block n) s p is good pool away fits = stays k t p (stock_of s.bins) pool fits
got_moved k t taking b time (GetAt.Unlock block) s p is good pool away fits =
    take_all k t taking b (left_by_get (GetAt.Unlock block)) p (stock_of s.bins)
    (stock_of (bins_got b time (GetAt.Unlock block) s.bins)) pool away fits (once_in k s good)
    (got_leaves s.bins b time block
    (gets_take_the_newest k s.bins s.pool.mem s.jobs t b time block good.cache is))

-- an undo moves none
pub undone_moved : (k : Key) (seat b : ℕ) (at : UndoAt) (s : State) (p : Pool) → ShelfGood k s → PoolGood k p
    → ShelvesFit (stock_of s.bins) p.blocks.place p.purpose
    → Moved k seat p p (stock_of (bins_undone b at s.bins))
undone_moved k t b UndoAt.Lock s p good pool fits = stays k t p (stock_of s.bins) pool fits
undone_moved k t b UndoAt.Used s p good pool fits = stays k t p (stock_of s.bins) pool fits
undone_moved k t b (UndoAt.SetUsed used) s p good pool fits = stays k t p (stock_of s.bins) pool fits
undone_moved k t b UndoAt.Unlock s p good pool fits =
    stays k t p (stock_of (bins_undone b UndoAt.Unlock s.bins)) pool (record {
      binned = λ c x more. fits.binned c x (let l = undone_leaves s.bins b c x in let z = in_none b c in omega arith);
      shelved = λ x is. let old = fits.shelved x is in
          let l = undone_leaves s.bins b old.0 x in let z = in_none b old.0 in let more = old.1 in (old.0, omega arith);
    })

-- a put: the block that is put comes, and the oldest one may leave
pub kept_moved : (k : Key) (seat : ℕ) (taking : Taking) (b time block : ℕ) (at : KeepAt) (s : State) (p : Pool)
    → s.jobs seat ≡ Task.Keeping b time block at → ShelfGood k s → PoolGood k p
    → InHand p seat block b Taking.ForUse → ShelvesFit (stock_of s.bins) p.blocks.place p.purpose
    → Moved k seat p (taken_out seat taking b (left_by_keep at) (shelved_by at block b p))
    (stock_of (bins_kept b time block at s.bins))
kept_moved k t taking b time block KeepAt.Lock s p is good pool has fits = stays k t p (stock_of s.bins) pool fits
kept_moved k t taking b time block KeepAt.Items s p is good pool has fits = stays k t p (stock_of s.bins) pool fits
kept_moved k t taking b time block (KeepAt.Head n) s p is good pool has fits = stays k t p (stock_of s.bins) pool fits
kept_moved k t taking b time block (KeepAt.Walk n) s p is good pool has fits = stays k t p (stock_of s.bins) pool fits
kept_moved k t taking b time block (KeepAt.OldAge n) s p is good pool has fits = stays k t p (stock_of s.bins) pool fits
kept_moved k t taking b time block (KeepAt.Cut n a) s p is good pool has fits = stays k t p (stock_of s.bins) pool fits
kept_moved k t taking b time block (KeepAt.SetCleaned n a) s p is good pool has fits =
    stays k t p (stock_of s.bins) pool fits
kept_moved k t taking b time block (KeepAt.SetLink n h r) s p is good pool has fits =
    stays k t p (stock_of s.bins) pool fits
kept_moved k t taking b time block (KeepAt.SetAge n r) s p is good pool has fits =
    stays k t p (stock_of s.bins) pool fits
kept_moved k t taking b time block (KeepAt.SetHead n r) s p is good pool has fits =
    stays k t p (stock_of s.bins) pool fits
kept_moved k t taking b time block (KeepAt.SetItems n r) s p is good pool has fits =
    stays k t p (stock_of s.bins) pool fits
kept_moved k t taking b time block (KeepAt.Used r) s p is good pool has fits = stays k t p (stock_of s.bins) pool fits
kept_moved k t taking b time block (KeepAt.SetUsed r n) s p is good pool has fits =
    stays k t p (stock_of s.bins) pool fits
kept_moved k t taking b time block (KeepAt.Unlock released) s p is good pool has fits =
    let one = shelve_one k t b block p (stock_of s.bins) pool has fits none in
    let rest = take_all k t taking b (left_by_keep (KeepAt.Unlock released))
    (shelved_by (KeepAt.Unlock released) block b p) more
    (stock_of (bins_kept b time block (KeepAt.Unlock released) s.bins)) one.pool has.away one.shelves once
    (kept_leaves k s.bins b time block released (good.cache.bins b)
    (puts_release_the_oldest k s.bins s.pool.mem s.jobs t b time block released good.cache is)) in
    record {
      pool = rest.pool;
      shelves = rest.shelves;
      mem = rest.mem ∙ one.mem;
      hands = λ o ne x n taking' at. rest.hands o ne x n taking' (one.hands o ne x n taking' at);
    }
  where
    none : (c : ℕ) → stock_of s.bins c block ≡ 0
    none c = good.cache.hands t block c (ap hand is)

    more : ℕ → ℕ → ℕ
    more c x = stock_of s.bins c x + at_bin b c (tally x (block ∷ []))

    else : (c x : ℕ) → x ≢ block → more c x ≡ stock_of s.bins c x
    else c x ne = let n = tally-else x block [] ne in
        let z : at_bin b c (tally x (block ∷ [])) ≡ 0 = ap (at_bin b c) n ∙ in_none b c in omega arith

    few : (c n : ℕ) → at_bin b c n ≤ n
    few c n = equal_or b c (λ e. subst (λ z. at_bin b z n ≤ n) e (let i = in_here b n in omega arith))
        (λ ne. let i = in_else b c n ne in omega arith)

    once : IsOnce more
    once = record {
      one = λ c x. equal_or x block
          (λ e. subst (λ z. more c z ≤ 1) (sym e) (let z = none c in let h = tally-here block [] in
          let f = few c (tally block (block ∷ [])) in omega arith))
          (λ ne. let q = else c x ne in let o = (once_in k s good).one c x in omega arith);
      apart = λ c d x ne some. equal_or x block
          (λ e. subst (λ z. more d z ≡ 0) (sym e) (equal_or b d
          (λ q. absurd (let z = none c in
          let i = in_else b c (tally block (block ∷ [])) (λ r. ne (sym r ∙ q)) in
          let m : 0 < more c block = subst (λ z. 0 < more c z) e some in omega arith))
          (λ nd. let z = none d in let i = in_else b d (tally block (block ∷ [])) nd in omega arith)))
          (λ nx. let p = else c x nx in let q = else d x nx in
          let a = (once_in k s good).apart c d x ne (omega arith) in omega arith);
    }

-- a sweep: the oldest leave
pub swept_moved : (k : Key) (seat : ℕ) (taking : Taking) (b time : ℕ) (cleanup : Cleanup) (gone : List ℕ)
    (at : SweepAt) (s : State) (p : Pool) → s.jobs seat ≡ Task.Sweeping b time cleanup gone at → ShelfGood k s
    → PoolGood k p → p.tasks seat ≡ guards.Task.Away → ShelvesFit (stock_of s.bins) p.blocks.place p.purpose
    → Moved k seat p (taken_out seat taking b (left_by_sweep gone at) p)
    (stock_of (bins_swept b time cleanup at s.bins))
swept_moved k t taking b time cleanup gone SweepAt.Clock s p is good pool away fits =
    stays k t p (stock_of s.bins) pool fits
swept_moved k t taking b time cleanup gone SweepAt.Peek s p is good pool away fits =
    stays k t p (stock_of s.bins) pool fits
swept_moved k t taking b time cleanup gone SweepAt.Lock s p is good pool away fits =
    stays k t p (stock_of s.bins) pool fits
swept_moved k t taking b time cleanup gone SweepAt.Items s p is good pool away fits =
    stays k t p (stock_of s.bins) pool fits
swept_moved k t taking b time cleanup gone (SweepAt.Judge at) s p is good pool away fits =
    stays k t p (stock_of s.bins) pool fits
swept_moved k t taking b time cleanup gone (SweepAt.SetThreshold n a) s p is good pool away fits =
    stays k t p (stock_of s.bins) pool fits
swept_moved k t taking b time cleanup gone (SweepAt.Head n a) s p is good pool away fits =
    stays k t p (stock_of s.bins) pool fits
swept_moved k t taking b time cleanup gone (SweepAt.Age walk) s p is good pool away fits =
    stays k t p (stock_of s.bins) pool fits
swept_moved k t taking b time cleanup gone (SweepAt.Link walk) s p is good pool away fits =
    stays k t p (stock_of s.bins) pool fits
swept_moved k t taking b time cleanup gone (SweepAt.Cut walk) s p is good pool away fits =
    stays k t p (stock_of s.bins) pool fits
swept_moved k t taking b time cleanup gone (SweepAt.SetItems walk) s p is good pool away fits =
    stays k t p (stock_of s.bins) pool fits
swept_moved k t taking b time cleanup gone (SweepAt.SetCleaned walk) s p is good pool away fits =
    stays k t p (stock_of s.bins) pool fits
swept_moved k t taking b time cleanup gone SweepAt.Unlock s p is good pool away fits =
    take_all k t taking b gone p (stock_of s.bins)
    (stock_of (bins_swept b time cleanup SweepAt.Unlock s.bins)) pool away fits (once_in k s good)
    (swept_leaves s.bins b time cleanup gone
    (sweeps_release_the_oldest k s.bins s.pool.mem s.jobs t b time cleanup gone good.cache is))
