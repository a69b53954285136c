use Rattle.std.proofs.Common.{get_or}
use Rattle.trace_reader.specs.Words.{bytes_in}
use Rattle.trace_reader.proofs.OptionLemmas.{no_word}
use Rattle.trace_reader.proofs.SlotLemmas.{slice_map_at}
use Rattle.trace_reader.proofs.threads.thread_names.Goals as goal

pub unreachable-requires : goal.unreachable-requires
unreachable-requires c =
    c.in_default.ensures (c.requires.names c.loop-word.word-index (get_or c.args.words.now c.loop-word.word-index no_word).now
    (slice_map_at bytes_in c.args.words.now c.loop-word.word-index no_word c.loop-word-test.true))
