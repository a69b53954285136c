-- The clock counts ticks.
use Rattle.std.proofs.Common.{◌≡◌, ◌+◌, ◌%◌, ◌^◌, Bool, true, false, cond, eqb, refl, arith, ◌∙◌}
use Rattle.pool_words.specs.declared.words.Key.{Key}
use Rattle.pool_words.specs.declared.words.Word.{Word}
use Rattle.pool_words.specs.declared.actions.Action.{Action}
use Rattle.pool_words.specs.declared.actions.Action.TheVariants.{Load, Store, Swap, Exchange, Add}
use Rattle.pool_words.specs.declared.actions.Action.TheVariants.{TakeOffice, GiveOffice, Nothing}
use Rattle.pool_words.specs.Words.{clocks}
use Rattle.word_laws.specs.Memory.{Mem, stored, after, word_at}
use Rattle.cache_laws.specs.Clock.{LeavesClock}
use Rattle.cache_laws.specs.Clock.ClockRun.{starts, ticks, others}
use Rattle.cache_laws.specs.Laws.{ClockCountsTicks, TimesAreApart}
use Rattle.cache_laws.proofs.Words.{to_stored, stored-else}

clock_left : (k : Key) (m : Mem) (action : Action) → LeavesClock action → after k m action clocks 0 ≡ m clocks 0
clock_left k m (Load w) other = refl
clock_left k m (Store w v) other = stored-else k m w v clocks 0 (λ e _. other e)
clock_left k m (Swap w v) other = stored-else k m w v clocks 0 (λ e _. other e)
clock_left k m (Exchange w from to) other = by (eqb (word_at m w) from)
  where
    by : (b : Bool) → cond b (stored k m w to) m clocks 0 ≡ m clocks 0
    by true = stored-else k m w to clocks 0 (λ e _. other e)
    by false = refl
clock_left k m (Add w v) other = stored-else k m w ((word_at m w + v) % 2 ^ 64) clocks 0 (λ e _. other e)
clock_left k m (TakeOffice job) other = refl
clock_left k m GiveOffice other = refl
clock_left k m Nothing other = refl

pub clock_counts_ticks : ClockCountsTicks
clock_counts_ticks k m0 m n low starts = omega arith
clock_counts_ticks k m0 m n low (ticks {m = m1} {n = n1} run) =
    let before = clock_counts_ticks k m0 m1 n1 low run in
    let now : stored k m1 Word.Clock ((m1 clocks 0 + 1) % 2 ^ 64) clocks 0 ≡ (m1 clocks 0 + 1) % 2 ^ 64
    = to_stored (λ x. x clocks 0 ≡ (m1 clocks 0 + 1) % 2 ^ 64) k m1 Word.Clock ((m1 clocks 0 + 1) % 2 ^ 64)
    (omega arith)
    refl in
    omega (arith, before, now)
clock_counts_ticks k m0 m n low (others {m = m1} {n = n1} run action other) =
    clock_left k m1 action other ∙ clock_counts_ticks k m0 m1 n1 low run

pub times_are_apart : TimesAreApart
times_are_apart k m0 m m' n n' low run run' less near same =
    let a = clock_counts_ticks k m0 m n low run in let b = clock_counts_ticks k m0 m' n' low run' in
    omega (arith, a, b, same)
