use Rattle.std.proofs.Common.{below_more, arith, map, sym, ◌∙◌}
use Rattle.std.proofs.lemmas.Option.{same_Some, slice_get_within}
use Rattle.std.proofs.lemmas.List.{length-map}
use Rattle.trace_reader.specs.Words.{bytes_in}
use Rattle.trace_reader.proofs.OptionLemmas.{no_word}
use Rattle.trace_reader.proofs.SlotLemmas.{slice_map_at}
use Rattle.trace_reader.proofs.threads.is_among.Goals as goal

pub loop-other-preserved : goal.loop-other-preserved
loop-other-preserved c = below_more _ _ c.loop-other.invariant
    (λ found. c.is_same.ensures.no c.if-is_same.false (same_Some _ _ (sym (slice_map_at bytes_in c.args.words.now c.loop-other.other-index no_word c.loop-other-test.true) ∙ found)))

pub returns-clause-no : goal.returns-clause-no
returns-clause-no c = λ _ k is. c.loop-other.invariant k (omega (arith, slice_get_within (map bytes_in c.args.words.now) k c.args.word.now is, length-map c.args.words.now bytes_in)) is
