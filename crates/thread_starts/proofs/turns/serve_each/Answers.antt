use Rattle.std.proofs.Common.{◌∙◌}
use Rattle.thread_lines.specs.Working.{Works}
use Rattle.thread_starts.proofs.CrewLemmas.{each_set, map_set}
use Rattle.thread_starts.proofs.turns.serve_each.Goals as goal

pub loop-i-preserved : goal.loop-i-preserved
loop-i-preserved g c = record {
  works = each_set (Works g.R.Raw.out g.R.Raw.faults g.R.Raw.got g.R.Raw.passed c.args.pools.now c.args.board.now.table.shared.table_id c.args.lines.now)
      c.loop-i.workers c.loop-i.i c.serve_if.new.worker c.loop-i.invariant.works c.serve_if.ensures.works;
  threads = map_set (λ w. w.thread) c.loop-i.workers c.loop-i.i c.index-workers-i.result c.serve_if.new.worker
      c.serve_if.ensures.thread ∙ c.loop-i.invariant.threads;
}
