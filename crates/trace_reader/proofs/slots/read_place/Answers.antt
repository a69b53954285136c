use Rattle.std.proofs.Common.{rules, arith}
use Rattle.std.proofs.lemmas.Grind.{common_steps}
use Rattle.trace_reader.proofs.SlotLemmas.{is_written, no_pair, not_written}
use Rattle.trace_reader.proofs.slots.read_place.Goals as goal

pub returns-then-letter-ne80 : goal.returns-then-letter-ne80
returns-then-letter-ne80 c = not_written c.args.word.now (search rules)

pub returns-in_default-read_pair : goal.returns-in_default-read_pair
returns-in_default-read_pair c = not_written c.args.word.now (no_pair c.args.word.now c.in_default-read_pair.ensures)

pub returns : goal.returns
returns c = is_written c.args.word.now _ (grind (arith, common_steps)) (search rules)
