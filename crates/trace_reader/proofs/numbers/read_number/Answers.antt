use Rattle.std.proofs.Common.{sym, ◌∙◌, ◌≡◌, subst}
use Rattle.trace_reader.specs.Words.{IsPlain}
use Rattle.trace_reader.proofs.NumberLemmas.{no_text, no_number, the_number, not_plain}
use Rattle.trace_reader.proofs.numbers.read_number.Goals as goal

pub returns-then-not-is_plain : goal.returns-then-not-is_plain
returns-then-not-is_plain c = not_plain c.args.word.now (c.is_plain.ensures.no c.if-not-is_plain.true)

pub returns-in_default : goal.returns-in_default
returns-in_default c = no_text c.args.word.now c.in_default.ensures.cases.0

pub returns-in_default-parse : goal.returns-in_default-parse
returns-in_default-parse c = λ n small is. no_number c.in-Ok.text.now c.in_default-parse.field-0 c.parse.result c.in_default-parse.is c.parse.ensures.value.0 n small (c.in-Ok.ensures.cases.0 ∙ is)

pub returns : goal.returns
returns c =
    let same : c.in-Ok.text.now ≡ c.args.word.now = c.in-Ok.ensures.cases.0 in
    let number = the_number c.in-Ok.text.now c.in-Ok-parse.number c.parse.result c.in-Ok-parse.is c.parse.ensures.value.0 (subst IsPlain (sym same) (c.is_plain.ensures.yes c.if-not-is_plain.false)) in
    (sym same ∙ number.0, number.1)
