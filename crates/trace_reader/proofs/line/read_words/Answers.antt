use Rattle.std.proofs.Common.{inr, subst, Bool, map}
use Rattle.trace_reader.specs.Words.{bytes_in}
use Rattle.trace_reader.specs.Contexts.{context_of}
use Rattle.trace_reader.specs.Acts.{CallLine}
use Rattle.trace_reader.proofs.line.read_words.Goals as goal

pub returns-in_default : goal.returns-in_default
returns-in_default c = inr (inr (inr (
  c.in_default.ensures,
  c.has_unserved_call.ensures.no c.if-has_unserved_call.false,
  subst (λ (more : Bool). CallLine more (context_of c.args.context.now) (map bytes_in c.args.words.now) c.call_line.result) c.serves_more.ensures c.call_line.ensures,
)))
