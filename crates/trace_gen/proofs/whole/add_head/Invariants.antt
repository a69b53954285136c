use Rattle.std.proofs.Common.{◌≡◌, ◌++◌, codes}
use Rattle.trace_gen.specs.Generated.{thread_words}
use Rattle.trace_gen.proofs.whole.add_head.Given as goal

abbrev pub invariant-loop-thread : goal.invariant-loop-thread
invariant-loop-thread l = l.text.items ≡ l.fn.text.items ++ (codes "threads" ++ thread_words l.thread)
