use Rattle.clap.specs.Walk.{rows_of}
use Rattle.clap.specs.Words.{found_of}
use Rattle.replay_words.proofs.WordLemmas.{has_none, has_text}
use Rattle.replay_words.proofs.words.has_moves.Goals as goal

pub returns-in-Some : goal.returns-in-Some
returns-in-Some c = has_text (rows_of (found_of c.args.matches.now)) c.in-Some.text.now c.is_true.result c.in-Some.ensures c.is_true.ensures.yes c.is_true.ensures.no

pub returns-in-None : goal.returns-in-None
returns-in-None c = has_none (rows_of (found_of c.args.matches.now)) c.in-None.ensures
