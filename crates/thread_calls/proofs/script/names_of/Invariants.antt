use Rattle.std.proofs.Common.{◌≡◌, ◌++◌, drop}
use Rattle.thread_calls.specs.Script.{owners_of}
use Rattle.thread_calls.proofs.script.names_of.Given as goal

-- what is kept, and what is left to keep
abbrev pub invariant-loop-line : goal.invariant-loop-line
invariant-loop-line l = l.owners.items ++ owners_of (drop l.line-index l.lines) ≡ owners_of l.lines
