use Rattle.std.proofs.Common.{rules, ◌≡◌, ◌≤◌, ◌-◌, ◌∷◌, ◌∙◌, [], length, suc, refl, sym, ap, subst, arith}
use Rattle.std.specs.Prelude.{vec_len, vec_capacity}
use Rattle.crossbeam_utils.specs.Padded.{padded_value}
use Rattle.name_board.specs.Board.{cursor, first_view, view}
use Rattle.thread_lines.specs.declared.worker.Worker.{Worker}
use Rattle.thread_pools.specs.Crews.{AreWorkers}
use Rattle.thread_pools.specs.Pools.{IsFreshAt, HasColumns}
use Rattle.thread_pools.proofs.RowLemmas.{length_more}
use Rattle.thread_pools.proofs.FreshLemmas.{taken_row, fresh_works, workers_more, no_workers}
use Rattle.thread_pools.proofs.crews.make_workers.Goals as goal

pub loop-left-init : goal.loop-left-init
loop-left-init g c = record {
  table = refl;
  pens = c.requires.pens.1;
  columns = c.requires.columns;
  count = search rules;
  workers = no_workers g.R.Raw.out g.R.Raw.faults g.R.Raw.got g.R.Raw.passed 0 _ _ _ _ _ (search rules);
}

pub split_off-requires : goal.split_off-requires
split_off-requires g c =
    let low = c.loop-left-test.true in
    let from = c.from.ensures in
    let more : c.loop-left.left ≡ suc c.from.result = omega arith in
    (c.loop-left.invariant.table ∙ c.requires.pens.0, c.loop-left.invariant.pens ∙ ap (λ n. (first_view n, [])) more)

pub loop-left-preserved : goal.loop-left-preserved
loop-left-preserved g c =
    let low = c.loop-left-test.true in
    let left = c.loop-left.left - 1 in
    let more : c.loop-left.left ≡ suc (c.loop-left.left - 1) = omega arith in
    let v = c.loop-left.invariant in
    let counted = v.count in
    let table = c.args.board.now.table.shared.table_id in
    let has = subst (λ n. HasColumns (IsFreshAt g.R.Raw.out g.R.Raw.faults g.R.Raw.got g.R.Raw.passed) n c.args._pools.now
    c.loop-left.columns) more v.columns in
    let taken = taken_row g.R.Raw.out g.R.Raw.faults g.R.Raw.got g.R.Raw.passed (c.loop-left.left - 1) c.args._pools.now
    c.loop-left.columns c.take_row.new.columns c.in_ok-heaps.heaps.items has c.in_ok-heaps.ensures.takes in
    let w : Worker g.row.R.Denot g.R.Raw = record {
      thread = c.loop-left.left - 1;
      next = 0;
      heaps = c.in_ok-heaps.heaps;
      pen = c.split_off.result;
      said = c.new.result;
    } in
    let works = fresh_works g.R.Raw.out g.R.Raw.faults g.R.Raw.got g.R.Raw.passed (c.loop-left.left - 1) c.args._pools.now
    table c.args.lines.now w refl refl (c.split_off.ensures.pen.0 ∙ v.table ∙ c.requires.pens.0)
    (c.split_off.ensures.pen.1 ∙ ap (λ n. (view (cursor n 0 ∷ []) [], [])) c.from.ensures)
    (ap (λ x. x.items) c.new.ensures ∙ c.in_ok-said.ensures.items)
    (ap vec_len c.new.ensures ∙ c.in_ok-said.ensures.len)
    (subst (λ n. n ≤ vec_capacity (padded_value c.new.result)) c.count_own.ensures
    (subst (λ x. c.count_own.result ≤ vec_capacity x) (sym c.new.ensures) c.in_ok-said.ensures.capacity))
    (λ pool. (taken pool).fits) (λ pool. (taken pool).first) in
    let longer : length c.push.new.self.items ≡ suc (length c.loop-left.workers.items) =
    ap length c.in_ok-push.ensures.items ∙ length_more c.loop-left.workers.items w in
    record {
      table = c.split_off.ensures.spare.0 ∙ v.table;
      pens = c.split_off.ensures.spare.1 ∙ ap (λ n. (first_view n, [])) c.from.ensures;
      columns = λ pool. (taken pool).column;
      count = omega arith;
      workers = subst (AreWorkers g.R.Raw.out g.R.Raw.faults g.R.Raw.got g.R.Raw.passed c.args._pools.now table
          c.args.lines.now c.args.threads) (sym c.in_ok-push.ensures.items)
          (workers_more g.R.Raw.out g.R.Raw.faults g.R.Raw.got g.R.Raw.passed 0 c.args._pools.now table c.args.lines.now
          c.args.threads c.loop-left.workers.items w v.workers (omega arith) works);
    }
