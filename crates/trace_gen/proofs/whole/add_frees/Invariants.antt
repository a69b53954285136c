use Rattle.std.proofs.Common.{◌≡◌, ◌++◌}
use Rattle.trace_gen.specs.Generated.{free_lines}
use Rattle.trace_gen.proofs.whole.add_frees.Given as goal

abbrev pub invariant-loop-name : goal.invariant-loop-name
invariant-loop-name l = l.text.items ≡ l.fn.text.items ++ free_lines l.live l.name-index
