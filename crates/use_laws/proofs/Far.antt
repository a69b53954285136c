-- Words behind all those of guards, slabs and objects: a step on one of them is one on another word to each of these.
use Rattle.std.proofs.Common.{◌≡◌, ℕ, ◌+◌, ◌%◌, ◌^◌, ◌<◌, Bool, true, false, cond, eqb, refl, arith}
use Rattle.std.specs.Prelude.{⊤}
use Rattle.pool_words.specs.declared.words.Key.{Key}
use Rattle.pool_words.specs.declared.words.Word.{Word}
use Rattle.pool_words.specs.declared.actions.Action.{Action}
use Rattle.pool_words.specs.declared.actions.Action.TheVariants.{Load, Store, Swap, Exchange, Add}
use Rattle.pool_words.specs.declared.actions.Action.TheVariants.{TakeOffice, GiveOffice, Nothing}
use Rattle.pool_words.specs.Words.{number, kind_of_word, marks, publics, kinds, headers}
use Rattle.word_laws.specs.Memory.{Mem, stored, after, word_at}
use Rattle.guard_laws.specs.Steps as guards
use Rattle.guard_laws.specs.Steps.{GuardStep}
use Rattle.guard_laws.proofs.CallerLemmas.{stored-apart}
use Rattle.use_laws.specs.Pools.{Pool, PoolGood}
use Rattle.use_laws.specs.After.{with_mem}
use Rattle.use_laws.specs.Steps.{PoolStep, SameThings}
use Rattle.use_laws.proofs.Keeps.{steps_keep_pool}

-- the words of the cache, the clock, the office and regions
abbrev pub IsFarWord : Word → Type 0
IsFarWord w = 15 < number (kind_of_word w)

abbrev pub IsFar : Action → Type 0
IsFar (Load w) = ⊤
IsFar (Store w value) = IsFarWord w
IsFar (Swap w value) = IsFarWord w
IsFar (Exchange w from to) = IsFarWord w
IsFar (Add w value) = IsFarWord w
IsFar (TakeOffice job) = ⊤
IsFar GiveOffice = ⊤
IsFar Nothing = ⊤

no_guard : (w : Word) → IsFarWord w → guards.IsOtherWord w
no_guard w far = record { no_size = λ e. omega (arith, e, far); no_left = λ e. omega (arith, e, far) }

far_no_guard : (action : Action) → IsFar action → guards.IsOtherAction action
far_no_guard (Load w) far = tt
far_no_guard (Store w value) far = no_guard w far
far_no_guard (Swap w value) far = no_guard w far
far_no_guard (Exchange w from to) far = no_guard w far
far_no_guard (Add w value) far = no_guard w far
far_no_guard (TakeOffice job) far = tt
far_no_guard GiveOffice far = tt
far_no_guard Nothing far = tt

same_stored : (k : Key) (m : Mem) (w : Word) (value : ℕ) → IsFarWord w → SameThings m (stored k m w value)
same_stored k m w value far = record {
  marks' = stored-apart k m w value marks (λ e. omega (arith, e, far));
  publics' = stored-apart k m w value publics (λ e. omega (arith, e, far));
  kinds' = stored-apart k m w value kinds (λ e. omega (arith, e, far));
  headers' = stored-apart k m w value headers (λ e. omega (arith, e, far));
}

pub same_self : (m : Mem) → SameThings m m
same_self m = record { marks' = refl; publics' = refl; kinds' = refl; headers' = refl }

far_same : (k : Key) (m : Mem) (action : Action) → IsFar action → SameThings m (after k m action)
far_same k m (Load w) far = same_self m
far_same k m (Store w value) far = same_stored k m w value far
far_same k m (Swap w value) far = same_stored k m w value far
far_same k m (Exchange w from to) far = by (eqb (word_at m w) from)
  where
    by : (b : Bool) → SameThings m (cond b (stored k m w to) m)
    by true = same_stored k m w to far
    by false = same_self m
far_same k m (Add w value) far = same_stored k m w ((word_at m w + value) % 2 ^ 64) far
far_same k m (TakeOffice job) far = same_self m
far_same k m GiveOffice far = same_self m
far_same k m Nothing far = same_self m

pub mem_so : (k : Key) (seat : ℕ) (p : Pool) (action : Action) → IsFar action → PoolGood k p
    → PoolGood k (with_mem (after k p.mem action) p)
mem_so k t p action far good = steps_keep_pool k t p (with_mem (after k p.mem action) p) good
    (PoolStep.guards p.blocks (after k p.mem action) p.tasks (GuardStep.others action (far_no_guard action far)) tt
    (far_same k p.mem action far))
