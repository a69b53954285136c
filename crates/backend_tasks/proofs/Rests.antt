-- What follows of tasks that are left, as crates above cite it.
use Rattle.std.proofs.Common.{◌≡◌, ◌∙◌, ◌⊎◌, ℕ, false, inl, inr, refl, sym, true}
use Rattle.std.specs.Prelude.{None, Option, Some}
use Rattle.pool_words.specs.declared.actions.Action.{Action}
use Rattle.pool_words.specs.declared.actions.Action.TheVariants.{Add, Exchange, GiveOffice, Load, Nothing, Store, Swap}
use Rattle.pool_words.specs.declared.actions.Action.TheVariants.{TakeOffice}
use Rattle.pool_words.specs.declared.words.Word.{Word}
use Rattle.pool_words.specs.Words.{kind_of_word, lefts, sizes}
use Rattle.chain_words.specs.declared.pushing.PushAt.{PushAt}
use Rattle.guards.specs.declared.win.WinAt.{WinAt}
use Rattle.guards.specs.declared.win.WinCall.{WinCall}
use Rattle.guard_laws.specs.Blocks as guards
use Rattle.guard_laws.specs.Steps.{IsOtherAction, IsOtherWord}
use Rattle.queue_laws.specs.Queue as queue
use Rattle.step_writes.specs.Kinds.{guard_kinds}
use Rattle.step_writes.specs.Writings.{has_kind}
use Rattle.step_writes.proofs.CallerLemmas.{has_same}
use Rattle.backend_tasks.specs.Guards.{GuardGoesOn, GuardStarts}
use Rattle.backend_tasks.specs.Queue.{QueueGoesOn, QueueStarts, drained}
use Rattle.backend_tasks.specs.Rows.{Spares}

-- the task on guards is the one that was left; or none was left, and a win starts
abbrev pub StaysOrWins : guards.Task → guards.Task → Type 0
StaysOrWins now left =
    (now ≡ left) ⊎ ((left ≡ guards.Task.Away) × ((c : WinCall) × (now ≡ guards.Task.Wins c WinAt.First)))

win_starts : (c : WinCall) (at : WinAt) → GuardStarts (guards.Task.Wins c at)
    → StaysOrWins (guards.Task.Wins c at) guards.Task.Away
win_starts c WinAt.First starts = inr (refl, (c, refl))
win_starts c WinAt.Second starts = absurd starts
win_starts c WinAt.Back starts = absurd starts

guard_starts : (now : guards.Task) → GuardStarts now → StaysOrWins now guards.Task.Away
guard_starts guards.Task.Away starts = inl refl
guard_starts (guards.Task.Wins c at) starts = win_starts c at starts
guard_starts (guards.Task.Offers first granules) starts = absurd starts

pub guard_stays_or_wins : (now left : guards.Task) → GuardGoesOn now left → StaysOrWins now left
guard_stays_or_wins now guards.Task.Away goes = guard_starts now goes
guard_stays_or_wins now (guards.Task.Wins c at) goes = inl goes
guard_stays_or_wins now (guards.Task.Offers first granules) goes = inl goes

-- that at the queue too; or a push starts
abbrev pub StaysOrQueues : queue.Task → queue.Task → Type 0
StaysOrQueues now left =
    (now ≡ left) ⊎ ((left ≡ queue.Task.Away) × ((x n : ℕ) × (now ≡ queue.Task.Queues x n PushAt.Look)))

push_starts : (x n : ℕ) (at : PushAt) → QueueStarts (queue.Task.Queues x n at)
    → StaysOrQueues (queue.Task.Queues x n at) queue.Task.Away
push_starts x n PushAt.Look starts = inr (refl, (x, n, refl))
push_starts x n (PushAt.Link found) starts = absurd starts
push_starts x n (PushAt.Exchange found) starts = absurd starts

queue_starts : (now : queue.Task) → QueueStarts now → StaysOrQueues now queue.Task.Away
queue_starts queue.Task.Away starts = inl refl
queue_starts (queue.Task.Queues x n at) starts = push_starts x n at starts
queue_starts (queue.Task.Drains rest) starts = absurd starts

pub queue_stays_or_queues : (now left : queue.Task) → QueueGoesOn now left → StaysOrQueues now left
queue_stays_or_queues now queue.Task.Away goes = queue_starts now goes
queue_stays_or_queues now (queue.Task.Queues x n at) goes = inl goes
queue_stays_or_queues now (queue.Task.Drains rest) goes = inl goes

-- what is left of the queue, or its end
pub drained_or_ends : (rest : Option ℕ)
    → (drained rest ≡ queue.Task.Drains rest) ⊎ ((rest ≡ None) × (drained rest ≡ queue.Task.Away))
drained_or_ends (Some first) = inl refl
drained_or_ends None = inr (refl, refl)

-- an action that writes no guard
other_word : (w : Word) → has_kind (kind_of_word w) guard_kinds ≡ false → IsOtherWord w
other_word w none = record {
  no_size = λ e. let bad : true ≡ false = sym (has_same (kind_of_word w) sizes guard_kinds e) ∙ none in absurd (cc);
  no_left = λ e. let bad : true ≡ false = sym (has_same (kind_of_word w) lefts guard_kinds e) ∙ none in absurd (cc);
}

pub spares_is_other : (action : Action) → Spares guard_kinds action → IsOtherAction action
spares_is_other (Load w) spares = tt
spares_is_other (Store w value) spares = other_word w spares
spares_is_other (Swap w value) spares = other_word w spares
spares_is_other (Exchange w from to) spares = other_word w spares
spares_is_other (Add w value) spares = other_word w spares
spares_is_other (TakeOffice job) spares = tt
spares_is_other GiveOffice spares = tt
spares_is_other Nothing spares = tt
