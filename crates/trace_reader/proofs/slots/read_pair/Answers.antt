use Rattle.std.proofs.Common.{arith, subst}
use Rattle.std.specs.Fmt.{decimal}
use Rattle.trace_reader.specs.Words.{HasNo}
use Rattle.trace_reader.proofs.SlotLemmas.{not_parted, pair_parts}
use Rattle.trace_reader.proofs.slots.read_pair.Goals as goal

pub returns-in_default-number_in : goal.returns-in_default-number_in
returns-in_default-number_in c = λ region offset low small is. c.in_default-number_in.ensures.0 region (omega arith) (omega arith) (pair_parts c.args.text.now c.in-Some.front.now c.in-Some.rest.now region offset c.in-Some.ensures.0 c.in-Some.ensures.1 (omega arith) is).0

pub returns-in_default-read_number : goal.returns-in_default-read_number
returns-in_default-read_number c = λ region offset low small is. c.in_default-read_number.ensures offset small (pair_parts c.args.text.now c.in-Some.front.now c.in-Some.rest.now region offset c.in-Some.ensures.0 c.in-Some.ensures.1 (omega arith) is).1

pub returns-in_default : goal.returns-in_default
returns-in_default c = λ region offset low small is. not_parted 43 (decimal region) (decimal offset) (subst (HasNo 43) is c.in_default.ensures)
