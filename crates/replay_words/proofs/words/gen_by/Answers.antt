use Rattle.clap.specs.Walk.{rows_of}
use Rattle.clap.specs.Words.{found_of}
use Rattle.replay_words.proofs.ClearWords.{none_in_range}
use Rattle.replay_words.proofs.words.gen_by.Goals as goal

pub returns-else-are_in_range : goal.returns-else-are_in_range
returns-else-are_in_range c =
    none_in_range (rows_of (found_of c.args.matches.now)) c.in_ok-threads.threads c.in_ok-calls.calls c.in_ok-threads.ensures c.in_ok-calls.ensures
    (c.are_in_range.ensures.no c.if-are_in_range.false)
