use Rattle.std.proofs.Common.{rules, ◌+◌, sym, ap, subst, length, arith}
use Rattle.quiet_pool.proofs.Lists.{back_in}
use Rattle.thread_runs.specs.Gathering.{said_by}
use Rattle.thread_runs.specs.Telling.{AreTold, begins}
use Rattle.thread_runs.proofs.ReportLemmas.{line_there, none_told, reports_more}
use Rattle.thread_runs.proofs.telling.add_lines.Goals as goal

pub loop-place-init : goal.loop-place-init
loop-place-init c = record {
  told = none_told c.args.trace.now c.in_ok-told.told.items _
      (c.in_ok-told.ensures.items_if_clones_equal (λ y h. search rules)) c.requires.said.count;
  reports = begins;
}

pub loop-place-preserved : goal.loop-place-preserved
loop-place-preserved c =
    let trace = c.args.trace.now in
    let low = c.loop-place-test.true in
    let lines = ap length c.lines-place-end.ensures in
    let line = line_there trace c.loop-place.place (omega arith) in
    let told = c.line_entry-entry.ensures.told in
    let back = back_in c.loop-place.told.len c.loop-place.told.items c.line_entry-entry.new.told
    (let n = told.count in let m = c.loop-place.invariant.told.count in let v =
    ap length c.as_mut_slice.ensures.value in
    let l = c.as_mut_slice.ensures.len in omega arith) in
    record {
      told = subst (AreTold trace (c.loop-place.place + 1)) (sym back) told;
      reports = reports_more trace (said_by c.args.said.now) c.args.report.now c.loop-place.report
          c.add_entry.new.report
          c.loop-place.place line.0 c.line_entry-entry.result line.1 c.loop-place.invariant.reports
          (c.line_entry-entry.ensures.entry line.0 line.1) c.in-Ok.ensures;
    }
