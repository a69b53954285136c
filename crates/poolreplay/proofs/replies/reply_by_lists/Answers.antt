use Rattle.std.proofs.Common.{ap, inl, refl}
use Rattle.report_text.specs.Reports.{ended_text}
use Rattle.poolreplay.proofs.ReplayLemmas.{trace_served, trace_short, replayed}
use Rattle.poolreplay.proofs.replies.reply_by_lists.Goals as goal

pub run_trace-requires : goal.run_trace-requires
run_trace-requires c = record {
  served = trace_served c.args.trace.now c.requires.plain;
  short = trace_short c.args.bytes.now c.args.trace.now c.requires.spelled;
}

pub returns-in-Ok : goal.returns-in-Ok
returns-in-Ok c = inl (refl, replayed c.args.bytes.now _ c.args.trace.now c.requires.spelled c.requires.plain (ap ended_text c.in-Ok.ensures))
