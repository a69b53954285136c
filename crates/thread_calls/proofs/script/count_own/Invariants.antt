use Rattle.std.proofs.Common.{◌≡◌, ◌+◌, ◌≤◌, drop}
use Rattle.thread_calls.specs.Script.{count_own}
use Rattle.thread_calls.proofs.script.count_own.Given as goal

-- what is counted, and what is left to count
abbrev pub invariant-loop-line : goal.invariant-loop-line
invariant-loop-line l = (l.count + count_own l.thread (drop l.line-index l.lines) ≡ count_own l.thread l.lines) × (l.count ≤ l.line-index)
