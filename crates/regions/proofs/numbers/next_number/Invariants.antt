-- Each number before has a slot that is taken.
use Rattle.std.proofs.Common.{◌≡◌, ◌<◌, ◌≤◌, ℕ, true}
use Rattle.regions.specs.Numbers.{is_slot_taken}
use Rattle.regions.proofs.numbers.next_number.Given as goal

abbrev pub invariant-loop-number : goal.invariant-loop-number
invariant-loop-number l = (k : ℕ) → l.counter ≤ k → k < l.number → is_slot_taken l.records k ≡ true
