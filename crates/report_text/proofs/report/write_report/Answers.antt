use Rattle.std.proofs.Common.{rules}
use Rattle.report_text.proofs.WriteLemmas.{ended_part}
use Rattle.report_text.proofs.report.write_report.Goals as goal

pub returns-clause-part : goal.returns-clause-part
returns-clause-part g c =
    ended_part (g.K.Sink.taken c.args.sink.now) (g.K.Sink.taken c.write_all.new.sink) (g.K.Sink.taken c.write_all-2.new.sink) c.args.report.now c.whole.result.now
    (search rules) c.in_ok-write_all.ensures.whole c.write_all-2.ensures.part
