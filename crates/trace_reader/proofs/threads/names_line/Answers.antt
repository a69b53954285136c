use Rattle.std.proofs.Common.{rules, get_or, take, drop, map, ◌+◌}
use Rattle.std.specs.Prelude.{Err}
use Rattle.trace_reader.specs.Words.{bytes_in}
use Rattle.trace_reader.proofs.OptionLemmas.{no_word, words_from}
use Rattle.trace_reader.proofs.ThreadLemmas.{words_to, name_refused, name_more}
use Rattle.trace_reader.proofs.threads.names_line.Goals as goal

pub returns-in_err-judge_name : goal.returns-in_err-judge_name
returns-in_err-judge_name c =
    let refused = c.loop-i.invariant (Err c.in_err-judge_name.field-0.0) (name_refused c.args.more (map bytes_in (take c.loop-i.i c.args.names.now)) (drop c.loop-i.i (map bytes_in c.args.names.now)) (drop (c.loop-i.i + 1) (map bytes_in c.args.names.now)) (get_or c.args.names.now c.loop-i.i no_word).now c.in_err-judge_name.field-0.0
    (words_from c.args.names.now c.loop-i.i c.loop-i-test.true) c.in_err-judge_name.ensures) in
    search (rules, refused)

pub loop-i-preserved : goal.loop-i-preserved
loop-i-preserved c = λ result reads.
    c.loop-i.invariant result (name_more c.args.more (map bytes_in (take c.loop-i.i c.args.names.now)) (map bytes_in (take (c.loop-i.i + 1) c.args.names.now)) (drop c.loop-i.i (map bytes_in c.args.names.now)) (drop (c.loop-i.i + 1) (map bytes_in c.args.names.now)) (get_or c.args.names.now c.loop-i.i no_word).now result
    (words_from c.args.names.now c.loop-i.i c.loop-i-test.true) c.in_ok-judge_name.ensures
    (words_to c.args.names.now c.loop-i.i c.loop-i-test.true) reads)
