use Rattle.trace_reader.proofs.WordLemmas.{parts_last, parts_more}
use Rattle.trace_reader.proofs.words.split_parts.Goals as goal

pub loop-part-preserved : goal.loop-part-preserved
loop-part-preserved c =
    parts_more c.loop-part.parts.items c.push.new.self.items c.in-Some.part c.args.separator c.loop-part.rest.now c.in-Some.more.now c.args.text.now c.in_ok-push.ensures.items c.in-Some.ensures.0 c.in-Some.ensures.1 c.loop-part.invariant

pub returns : goal.returns
returns c = parts_last c.loop-part.parts.items c.push-2.new.self.items c.loop-part.rest c.args.separator c.args.text.now c.in_ok-push-2.ensures.items c.in_default.ensures c.loop-part.invariant
