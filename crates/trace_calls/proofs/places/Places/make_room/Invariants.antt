use Rattle.std.proofs.Common.{◌≡◌, ◌-◌, ℕ, length}
use Rattle.trace_calls.specs.Kept.{names_kept}
use Rattle.trace_calls.proofs.places.Places.make_room.Given as goal

abbrev pub invariant-loop-self : goal.invariant-loop-self
invariant-loop-self l = (name : ℕ) → names_kept l.self name ≡ names_kept l.initial.self name

abbrev pub decreases-loop-self : goal.decreases-loop-self
decreases-loop-self l = l.count - length l.self.kept.items
