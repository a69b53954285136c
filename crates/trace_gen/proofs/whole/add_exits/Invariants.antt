use Rattle.std.proofs.Common.{◌≡◌, ◌++◌}
use Rattle.trace_gen.specs.Generated.{exit_lines}
use Rattle.trace_gen.proofs.whole.add_exits.Given as goal

abbrev pub invariant-loop-thread : goal.invariant-loop-thread
invariant-loop-thread l = l.text.items ≡ l.fn.text.items ++ exit_lines l.thread
