use Rattle.std.proofs.Common.{◌≡◌, ◌≤◌}
use Rattle.trace_gen.specs.Generated.{after_calls, made_of}
use Rattle.trace_gen.proofs.whole.after_calls.Given as goal

abbrev pub invariant-loop : goal.invariant-loop
invariant-loop l = record {
  made : made_of l.making ≡ after_calls l.seed l.threads l.counter;
  next : l.making.next ≤ l.counter;
}
