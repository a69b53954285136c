-- The clock, from whose ticks the times of gets, puts and cleanups come.
use Rattle.std.specs.Prelude.{◌≢◌, ℕ, ◌+◌, ⊤}
use Rattle.pool_words.specs.declared.words.Key.{Key}
use Rattle.pool_words.specs.declared.words.Word.{Word}
use Rattle.pool_words.specs.declared.actions.Action.{Action}
use Rattle.pool_words.specs.declared.actions.Action.TheVariants.{Load, Store, Swap, Exchange, Add}
use Rattle.pool_words.specs.declared.actions.Action.TheVariants.{TakeOffice, GiveOffice, Nothing}
use Rattle.pool_words.specs.Words.{kind_of_word, number, clocks}
use Rattle.word_laws.specs.Memory.{Mem, after}

-- an action by which the clock does not change
abbrev pub LeavesClock : Action → Type 0
LeavesClock (Load w) = ⊤
LeavesClock (Store w value) = number (kind_of_word w) ≢ number clocks
LeavesClock (Swap w value) = number (kind_of_word w) ≢ number clocks
LeavesClock (Exchange w from to) = number (kind_of_word w) ≢ number clocks
LeavesClock (Add w value) = number (kind_of_word w) ≢ number clocks
LeavesClock (TakeOffice job) = ⊤
LeavesClock GiveOffice = ⊤
LeavesClock Nothing = ⊤

-- the step with which a get or a put of a large block begins
abbrev pub tick : Action
tick = Add Word.Clock 1

-- any number of steps, so many of them ticks
pub data ClockRun (k : Key) (m0 : Mem) : Mem → ℕ → Type 0 where
  starts : ClockRun k m0 m0 0
  ticks : {m : Mem} {n : ℕ} → ClockRun k m0 m n → ClockRun k m0 (after k m tick) (n + 1)
  others : {m : Mem} {n : ℕ} → ClockRun k m0 m n → (action : Action) → LeavesClock action
      → ClockRun k m0 (after k m action) n
