-- What holds of a pool's table at one moment, in whichever threads' hands the heaps are.
use Rattle.std.specs.Prelude.{◌≡◌, ◌≢◌, ℕ, ◌<◌, true, List, Option, Some}
use mathlib.Core.Option.{some}
use lib.ListN.{get_elem?}
use Rattle.pool_types.specs.declared.values.Grant.{Grant}
use Rattle.pool_words.specs.declared.words.Key.{Key}
use Rattle.pool_words.specs.Words.{marks, bin_locks, cache_locks, office_locks, regions}
use Rattle.word_codes.specs.Locks.{lock_word, holder_of}
use Rattle.word_codes.specs.RegionWords.{region_of}
use Rattle.word_laws.specs.Memory.{memory}
use Rattle.office_laws.specs.Regions.{Holds}
use Rattle.step_local.specs.declared.frames.Local.{Local}
use Rattle.step_local.specs.Course.{course}
use Rattle.step_runs.specs.declared.entry.Entry.{Entry}
use Rattle.step_runs.specs.Places.{has_word}
use Rattle.step_runs.specs.Runs.{Callback, Silent}
use Rattle.step_laws.specs.Laws.{HasIndexOf}
use Rattle.step_laws.specs.Tasks.{task_of}
use Rattle.step_grants.specs.Grants.{IsAt, grant_in}
use Rattle.step_locks.specs.Laws.{LeavesLock}
use Rattle.step_locks.specs.Positions.{bin_lock_of, cache_lock_of}
use Rattle.step_locks.specs.UnderLocks.{LeavesLocked}
use Rattle.step_ranges.specs.Locals.{LocalFits}
use Rattle.step_ranges.specs.Ranges.{Ranged, NamesOrNone}
use Rattle.atomic_driver.specs.declared.rule.View.{View}

-- a thread's place at the table has this entry of a heap
pub record HasEntry {D : Type 0} (views : List (View D)) (e : Entry D) : Type 0 where
  pub id : ℕ
  pub view : View D
  pub at : get_elem? views id ≡ some view
  pub place : ℕ
  pub there : get_elem? view.entries place ≡ some e

pub record KeepsGrants {D : Type 0} (k : Key) (words : List ℕ) (views : List (View D)) : Type 0 where
  -- no two marks name one grant
  pub one : (u v : ℕ) (grant : Grant) → IsAt (memory k words marks) grant u → IsAt (memory k words marks) grant v
      → u ≡ v
  -- no two objects that heaps were granted have one
  pub granted : (e f : Entry D) → HasEntry views e → HasEntry views f → (i j : ℕ) (grant : Grant)
      → grant_in e.grants i ≡ Some grant → grant_in f.grants j ≡ Some grant → (e.seat ≡ f.seat) × (i ≡ j)
  -- no grant was ended twice, and what was ended is at no mark
  pub ended : (e f : Entry D) → HasEntry views e → HasEntry views f → (i j : ℕ) (grant : Grant)
      → grant_in e.frees i ≡ Some grant → grant_in f.frees j ≡ Some grant → (e.seat ≡ f.seat) × (i ≡ j)
  pub gone : (e : Entry D) → HasEntry views e → (i : ℕ) (grant : Grant) → grant_in e.frees i ≡ Some grant → (u : ℕ)
      → IsAt (memory k words marks) grant u → ⊥

-- a lock's word names a heap's seat exactly where the heap's local says that it has the lock, and no two heaps have one
pub record NamesHolders {D : Type 0} (views : List (View D)) (locks : ℕ → ℕ) (mine : Local → Option ℕ)
    : Type 0 where
  pub held : (e : Entry D) → HasEntry views e → (b : ℕ) → mine e.local ≡ Some b → locks b ≡ lock_word e.seat
  pub named : (e : Entry D) → HasEntry views e → (b : ℕ) → locks b ≡ lock_word e.seat → mine e.local ≡ Some b
  pub once : (e f : Entry D) → HasEntry views e → HasEntry views f → (b : ℕ) → mine e.local ≡ Some b
      → mine f.local ≡ Some b → e.seat ≡ f.seat

pub record KeepsLocks {D : Type 0} (c : Callback D) (k : Key) (words : List ℕ) (views : List (View D))
    : Type 0 where
  pub bins : NamesHolders views (memory k words bin_locks) bin_lock_of
  pub caches : NamesHolders views (memory k words cache_locks) cache_lock_of
  -- the next step of a heap, after what it comes to without one, leaves the lock that another heap has
  pub leaves : (e f : Entry D) → HasEntry views e → HasEntry views f → f.seat ≢ e.seat → (l : Local)
      (desk : Option D) → Silent c f.local f.desk l desk → has_word (course l) ≡ true
      → LeavesLock k words (course l) e.local
  -- and the words of the bin, or of the cache bin, whose lock that is
  pub leaves_bin : (e f : Entry D) → HasEntry views e → HasEntry views f → f.seat ≢ e.seat → (l : Local)
      (desk : Option D) → Silent c f.local f.desk l desk → LeavesLocked k words (course l) e.local

pub record KeepsRegions {D : Type 0} (k : Key) (words : List ℕ) (views : List (View D)) : Type 0 where
  -- no granule and no wall is in the regions of two slots, by their words alone
  pub apart : (s other index : ℕ) → (region_of (memory k words regions s)).live ≡ true
      → (region_of (memory k words regions other)).live ≡ true
      → HasIndexOf (region_of (memory k words regions s)) index
      → HasIndexOf (region_of (memory k words regions other)) index → s ≡ other
  -- the office's word names a heap's seat exactly where the heap's local says that it is there
  pub held : (e : Entry D) → HasEntry views e → Holds (task_of e.local)
      → holder_of (memory k words office_locks 0) ≡ Some e.seat
  pub named : (e : Entry D) → HasEntry views e → holder_of (memory k words office_locks 0) ≡ Some e.seat
      → Holds (task_of e.local)

pub record KeepsRanges {D : Type 0} (c : Callback D) (k : Key) (words : List ℕ) (views : List (View D))
    : Type 0 where
  -- each word holds what its kind may hold, and each heap's local carries what it may carry
  pub ranged : Ranged k (memory k words)
  pub locals : (e : Entry D) → HasEntry views e → (e.seat < k.seats) × LocalFits k e.local
  -- the word of a heap's next step is one of the pool's, after what the heap comes to without one
  pub valid : (e : Entry D) → HasEntry views e → (l : Local) (desk : Option D) → Silent c e.local e.desk l desk
      → NamesOrNone k (course l)
