use Rattle.std.proofs.Common.{sym, ap, ◌∙◌}
use Rattle.thread_calls.specs.Calls.{name_asked}
use Rattle.thread_lines.proofs.TellLemmas.{known_asked}
use Rattle.thread_lines.proofs.worker.wait_for_asked.Goals as goal

pub returns-in-Some-clause-asked : goal.returns-in-Some-clause-asked
returns-in-Some-clause-asked g c = known_asked (name_asked c.args.call.now) c.in-Some.name c.wait_for.result
    c.args.pen.now.me.0.known c.wait_for.new.pen.me.0.known (sym c.name_asked.ensures ∙ c.in-Some.is)
    (ap (λ v. v.known) c.wait_for.ensures.seen.1)
