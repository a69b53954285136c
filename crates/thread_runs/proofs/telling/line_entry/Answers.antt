use Rattle.std.proofs.Common.{take, ap, refl}
use Rattle.std.specs.Prelude.{Some}
use Rattle.thread_runs.specs.Gathering.{said_by}
use Rattle.thread_runs.proofs.ReportLemmas.{is_next, line_here, no_call, others_own, others_tell, pool_among}
use Rattle.thread_runs.proofs.ReportLemmas.{told_here, told_passes, told_speaks, thread_among}
use Rattle.thread_runs.proofs.telling.line_entry.Goals as goal

pub next_said-one-requires : goal.next_said-one-requires
next_said-one-requires c = let trace = c.args.trace.now in
    is_next trace c.args.said.now c.args.place c.args.told.now _ c.in-Call.thread c.in-Call.pool c.in-Call.call
    (line_here trace c.lines.result.now c.args.place _ c.lines.ensures c.requires.place) c.in-Call.is c.requires.within
    c.requires.said c.requires.told

pub returns-in-Pool-clause-entry : goal.returns-in-Pool-clause-entry
returns-in-Pool-clause-entry c = let trace = c.args.trace.now in
    let at = line_here trace c.lines.result.now c.args.place _ c.lines.ensures c.requires.place in
    told_here trace (said_by c.args.said.now) (take c.args.place trace.lines.items) c.args.place _ c.made_entry.result
    _ at
    c.in-Pool.is (
      c.judged.result,
      pool_among trace c.args.place _ c.in-Pool.pool c.requires.within at c.in-Pool.is,
      c.judged.ensures,
      c.made_entry.ensures,
    )

pub returns-in-Pool-clause-told : goal.returns-in-Pool-clause-told
returns-in-Pool-clause-told c = let trace = c.args.trace.now in
    told_passes trace c.args.place c.args.told.now _
    (line_here trace c.lines.result.now c.args.place _ c.lines.ensures c.requires.place)
    (others_own _ (no_call _ c.in-Pool.pool c.in-Pool.is)) c.requires.told

pub returns-in-Call-clause-entry : goal.returns-in-Call-clause-entry
returns-in-Call-clause-entry c = let trace = c.args.trace.now in
    let at = line_here trace c.lines.result.now c.args.place _ c.lines.ensures c.requires.place in
    let low = thread_among trace c.args.place _ c.in-Call.thread c.in-Call.pool c.in-Call.call c.requires.within at
    c.in-Call.is in
    told_here trace (said_by c.args.said.now) (take c.args.place trace.lines.items) c.args.place _ _ _ at c.in-Call.is (
      c.next_said-one.result,
      c.next_said-one.ensures.said _ (c.requires.told.each c.in-Call.thread low),
      ap Some c.said_entry.ensures,
    )

pub returns-in-Call-clause-told : goal.returns-in-Call-clause-told
returns-in-Call-clause-told c = let trace = c.args.trace.now in
    told_speaks trace c.args.place c.args.told.now c.next_said-one.new.told _ c.in-Call.thread c.in-Call.pool
    c.in-Call.call
    (line_here trace c.lines.result.now c.args.place _ c.lines.ensures c.requires.place) c.in-Call.is c.requires.within
    c.next_said-one.ensures.told c.requires.told

pub returns-in_default : goal.returns-in_default
returns-in_default c = let trace = c.args.trace.now in
    let at = line_here trace c.lines.result.now c.args.place _ c.lines.ensures c.requires.place in
    record {
      entry = told_here trace (said_by c.args.said.now) (take c.args.place trace.lines.items) c.args.place _ _ _ at
          refl
          (others_tell trace (said_by c.args.said.now) (take c.args.place trace.lines.items) _ _ c.in_default.not-Pool
          c.in_default.not-Call);
      told = told_passes trace c.args.place c.args.told.now _ at (others_own _ c.in_default.not-Call) c.requires.told;
    }
