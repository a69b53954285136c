use Rattle.std.proofs.Common.{subst, List, ℕ, rules}
use Rattle.clap.specs.Walk.{rows_of}
use Rattle.clap.specs.Words.{found_of}
use Rattle.trace_reader.specs.Words.{IsNumberOf}
use Rattle.replay_words.proofs.WordLemmas.{number_none, number_read}
use Rattle.replay_words.proofs.words.number_of.Goals as goal

pub returns-in-Some : goal.returns-in-Some
returns-in-Some c =
    number_read c.args.id.now (rows_of (found_of c.args.matches.now)) c.in-Some.text.now c.read_number.result c.in-Some.ensures
    (subst (λ (text : List ℕ). IsNumberOf text c.read_number.result) c.as_bytes.ensures.value c.read_number.ensures)

pub returns-in-None : goal.returns-in-None
returns-in-None c = number_none c.args.id.now (rows_of (found_of c.args.matches.now)) c.in-None.ensures
