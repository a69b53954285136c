-- In each state of a run, other seats leave the words of a bin whose lock a seat has.
use Rattle.std.proofs.Common.{◌≡◌, ◌≢◌, ℕ, Bool, true, false, cond, List, refl, sym, ap, ◌∙◌, arith}
use Rattle.std.specs.Prelude.{ltb, Option, Some, None}
use Rattle.pool_types.specs.Geometry.{bin_count}
use Rattle.pool_types.specs.declared.values.Region.{Region}
use Rattle.pool_words.specs.declared.actions.Action.{Action}
use Rattle.pool_words.specs.declared.actions.Action.TheVariants.{Load, Store, Swap, Exchange, Add, TakeOffice}
use Rattle.pool_words.specs.declared.actions.Action.TheVariants.{GiveOffice, Nothing}
use Rattle.pool_words.specs.declared.words.Key.{Key}
use Rattle.pool_words.specs.declared.words.Word.{Word}
use Rattle.pool_words.specs.Words.{WordKind, number, kind_of_word, at_of, bin_heads, cache_counts}
use Rattle.word_laws.specs.Memory.{Mem, memory}
use Rattle.word_laws.proofs.CallerLemmas.{actions_act_by_kind}
use Rattle.lock_laws.proofs.CallerLemmas.{lock_word-inj}
use Rattle.step_local.specs.declared.frames.Local.{Local}
use Rattle.step_local.specs.Course.{course}
use Rattle.step_runs.specs.declared.entry.Entry.{Entry}
use Rattle.step_runs.specs.Runs.{Callback, Silent, Run}
use Rattle.step_runs.proofs.CallerLemmas.{run_stands}
use Rattle.step_writes.specs.Writings.{has_kind, IsOther, WritesOther}
use Rattle.step_writes.proofs.CallerLemmas.{has_same, other_words_stand}
use Rattle.step_locks.specs.Holdings.{Holding, no_lock, bin_lock, cache_lock, bin_held, cache_held}
use Rattle.step_locks.specs.Positions.{holding_of}
use Rattle.step_locks.specs.UnderLocks.{IsUnderLock, WritesUnderLock, cache_bin_kinds, LeavesLocked}
use Rattle.step_locks.specs.UnderLocks.{OthersLeaveLockedWords}
use Rattle.step_locks.proofs.Runs.{silence_holds, run_named}
use Rattle.step_locks.proofs.UnderLocks.{steps_write_under_locks}

-- a bin's head, and a word of a cache bin, is under that bin's lock
head_under : (had : Holding) (w : Word) → IsUnderLock had w → number (kind_of_word w) ≡ number bin_heads
    → had ≡ bin_lock (at_of w)
head_under had (Word.BinHead bin) under e = under
head_under had _ under e = absurd (omega arith)

cache_under : (had : Holding) (w : Word) → IsUnderLock had w → has_kind (kind_of_word w) cache_bin_kinds ≡ true
    → had ≡ cache_lock (at_of w)
cache_under had (Word.CacheHead granules) under e = under
cache_under had (Word.CacheItems granules) under e = under
cache_under had (Word.CacheUsed granules) under e = under
cache_under had (Word.CacheMean granules) under e = under
cache_under had (Word.CacheThreshold granules) under e = under
cache_under had (Word.CacheGet granules) under e = under
cache_under had (Word.CacheCleaned granules) under e = under
cache_under had _ under e = absurd (cc)

-- a seat that has not this lock writes no word under it
no_head : (had : Holding) (bin : ℕ) (w : Word) → IsUnderLock had w → (had ≡ bin_lock bin → ⊥) → IsOther bin_heads bin w
no_head had bin w under none = λ kind i. none (head_under had w under kind ∙ ap (λ b. bin_lock b) i)

no_cache : (had : Holding) (granules : ℕ) (which : WordKind) (w : Word) → has_kind which cache_bin_kinds ≡ true
    → IsUnderLock had w → (had ≡ cache_lock granules → ⊥) → IsOther which granules w
no_cache had granules which w is under none = λ kind i.
    none (cache_under had w under (has_same (kind_of_word w) which cache_bin_kinds kind ∙ is) ∙ ap (λ g. cache_lock g) i)

heads_else : (had : Holding) (bin : ℕ) (action : Action) → WritesUnderLock had action → (had ≡ bin_lock bin → ⊥)
    → WritesOther bin_heads bin action
heads_else had bin (Load w) under none = tt
heads_else had bin (Store w value) under none = no_head had bin w under none
heads_else had bin (Swap w value) under none = no_head had bin w under none
heads_else had bin (Exchange w from to) under none = no_head had bin w under none
heads_else had bin (Add w value) under none = no_head had bin w under none
heads_else had bin (TakeOffice job) under none = tt
heads_else had bin GiveOffice under none = tt
heads_else had bin Nothing under none = tt

caches_else : (had : Holding) (granules : ℕ) (which : WordKind) (action : Action)
    → has_kind which cache_bin_kinds ≡ true → WritesUnderLock had action → (had ≡ cache_lock granules → ⊥)
    → WritesOther which granules action
caches_else had granules which (Load w) is under none = tt
caches_else had granules which (Store w value) is under none = no_cache had granules which w is under none
caches_else had granules which (Swap w value) is under none = no_cache had granules which w is under none
caches_else had granules which (Exchange w from to) is under none = no_cache had granules which w is under none
caches_else had granules which (Add w value) is under none = no_cache had granules which w is under none
caches_else had granules which (TakeOffice job) is under none = tt
caches_else had granules which GiveOffice is under none = tt
caches_else had granules which Nothing is under none = tt

-- what a local says of a lock that there is, it has
bin_had : (had : Holding) (bin : ℕ) → bin_held had ≡ Some bin → bin_held (bin_lock bin) ≡ Some bin
bin_had no_lock bin e = absurd (cc)
bin_had (cache_lock granules) bin e = absurd (cc)
bin_had (bin_lock b) bin e = by (ltb b bin_count) refl
  where
    by : (low : Bool) → ltb b bin_count ≡ low → bin_held (bin_lock bin) ≡ Some bin
    by true is =
        let same : b ≡ bin =
        (let q : Some b ≡ Some bin = sym (ap (λ (x : Bool). cond x (Some b) None) is) ∙ e in cc) in
        ap (λ (x : Bool). cond x (Some bin) None) (ap (λ n. ltb n bin_count) (sym same) ∙ is)
    by false is = absurd (let q : None ≡ Some bin = sym (ap (λ (x : Bool). cond x (Some b) None) is) ∙ e in cc)

cache_had : (had : Holding) (granules : ℕ) → cache_held had ≡ Some granules
    → cache_held (cache_lock granules) ≡ Some granules
cache_had no_lock granules e = absurd (cc)
cache_had (bin_lock bin) granules e = absurd (cc)
cache_had (cache_lock b) granules e = by (ltb b cache_counts) refl
  where
    by : (low : Bool) → ltb b cache_counts ≡ low → cache_held (cache_lock granules) ≡ Some granules
    by true is =
        let same : b ≡ granules =
        (let q : Some b ≡ Some granules = sym (ap (λ (x : Bool). cond x (Some b) None) is) ∙ e in cc) in
        ap (λ (x : Bool). cond x (Some granules) None) (ap (λ n. ltb n cache_counts) (sym same) ∙ is)
    by false is = absurd (let q : None ≡ Some granules = sym (ap (λ (x : Bool). cond x (Some b) None) is) ∙ e in cc)

pub others_leave_words : {D : Type 0} {c : Callback D} {k : Key} {first : D} {words : List ℕ} {home : Option D}
    {entries : ℕ → Entry D} → Run c k first words home entries → (seat other : ℕ) (l : Local) (desk : Option D)
    → other ≢ seat → Silent c (entries other).local (entries other).desk l desk
    → LeavesLocked k words (course l) (entries seat).local
others_leave_words {k = k} {words = words} {entries = entries} run seat other l desk differ silent =
    let named = run_named run in
    let m = memory k words in
    let acts = actions_act_by_kind k words (course l) (run_stands run).sized in
    let under = steps_write_under_locks l in
    let same = silence_holds silent in
    record {
      head = λ bin has. ap (λ (n : Mem). n bin_heads bin) acts.leaves
          ∙ other_words_stand k m bin_heads bin (course l) (heads_else (holding_of l) bin (course l) under
          (λ holds. differ (lock_word-inj other seat
          (sym (named.bins.held other bin (ap bin_held (sym same ∙ holds)
          ∙ bin_had (holding_of (entries seat).local) bin has)) ∙ named.bins.held seat bin has))));
      cache = λ granules which has is. ap (λ (n : Mem). n which granules) acts.leaves
          ∙ other_words_stand k m which granules (course l) (caches_else (holding_of l) granules which (course l) is under
          (λ holds. differ (lock_word-inj other seat
          (sym (named.caches.held other granules (ap cache_held (sym same ∙ holds)
          ∙ cache_had (holding_of (entries seat).local) granules has)) ∙ named.caches.held seat granules has))));
    }

module _ {R : Type 0} (out : R → List Region) (faults : R → ℕ) (got : R → ℕ → Option Region → R → Type 0)
    (passed : R → Region → Bool → R → Type 0) where
  pub others_leave_locked_words : OthersLeaveLockedWords out faults got passed
  others_leave_locked_words policy limits raw words home entries seat other l desk run differ silent =
      others_leave_words run seat other l desk differ silent
