use Rattle.std.proofs.Common.{List, [], drop, map}
use Rattle.std.specs.Prelude.{Result}
use Rattle.trace_reader.specs.declared.acts.PoolOption.{PoolOption}
use Rattle.trace_reader.specs.declared.refusal.Refusal.{Refusal}
use Rattle.trace_reader.specs.Words.{bytes_in}
use Rattle.trace_reader.specs.Options.{ReadsOptions}
use Rattle.trace_reader.proofs.OptionLemmas.{AreApart}
use Rattle.trace_reader.proofs.options.options_from.Given as goal

abbrev pub invariant-loop-i : goal.invariant-loop-i
invariant-loop-i l = record {
  among : (result : Result (List PoolOption) Refusal) → ReadsOptions l.options.items (drop l.i (map bytes_in l.words)) result → ReadsOptions [] (drop l.at (map bytes_in l.words)) result;
  apart : AreApart l.options.items;
}
