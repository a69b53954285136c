use Rattle.std.proofs.Common.{rules, ◌≡◌, ◌+◌, ◌++◌, ◌∙◌, length, refl, sym, ap, subst, arith}
use Rattle.thread_runs.proofs.GatherLemmas.{AreGathered, gathered_more, last_of, none_gathered, row_fits}
use Rattle.thread_starts.proofs.CrewLemmas.{length_more}
use Rattle.thread_runs.proofs.gathering.gather.Goals as goal

pub loop-worker-init : goal.loop-worker-init
loop-worker-init g c = record {
  table = refl;
  count = search rules;
  threads = c.requires.threads;
  done = c.requires.done;
  gathered = none_gathered g.R.Raw.out g.R.Raw.faults g.R.Raw.got g.R.Raw.passed c.args._tables.now
      c.args.board.now.table.shared.table_id c.args._lines.now c.args.pens.now.me.0.known c.args.columns.now _
      (search rules)
      c.requires.columns;
}

pub join_in-requires : goal.join_in-requires
join_in-requires g c =
    let v = c.loop-worker.invariant in
    let last = last_of g.R.Raw.out g.R.Raw.faults g.R.Raw.got g.R.Raw.passed c.args._tables.now
    c.args.board.now.table.shared.table_id c.args._lines.now (length c.args.workers.items) c.loop-worker.workers.items
    c.pop.new.self.items c.in-Some.worker c.in-Some.ensures.items v.done v.threads in
    (v.table ∙ c.requires.pens, last.done.works.pen, last.done.works.empty)

pub put_row-requires : goal.put_row-requires
put_row-requires g c =
    let v = c.loop-worker.invariant in
    let last = last_of g.R.Raw.out g.R.Raw.faults g.R.Raw.got g.R.Raw.passed c.args._tables.now
    c.args.board.now.table.shared.table_id c.args._lines.now (length c.args.workers.items) c.loop-worker.workers.items
    c.pop.new.self.items c.in-Some.worker c.in-Some.ensures.items v.done v.threads in
    row_fits g.R.Raw.out g.R.Raw.faults g.R.Raw.got g.R.Raw.passed (length c.loop-worker.all.items) c.args._tables.now
    c.loop-worker.columns c.in-Some.worker.heaps.items c.in-Some.worker.thread v.gathered.columns_are
    last.done.works.heaps

pub loop-worker-preserved : goal.loop-worker-preserved
loop-worker-preserved g c =
    let v = c.loop-worker.invariant in
    let w = c.in-Some.worker in
    let board = c.args.board.now.table.shared.table_id in
    let all = c.loop-worker.all.items in
    let known = c.loop-worker.pens.me.0.known in
    let last = last_of g.R.Raw.out g.R.Raw.faults g.R.Raw.got g.R.Raw.passed c.args._tables.now board c.args._lines.now
    (length c.args.workers.items) c.loop-worker.workers.items c.pop.new.self.items w c.in-Some.ensures.items v.done
    v.threads in
    let thread : w.thread ≡ length all =
    let n = v.count in let m = last.thread in let k = last.len in omega arith in
    let more = gathered_more g.R.Raw.out g.R.Raw.faults g.R.Raw.got g.R.Raw.passed c.args._tables.now board
    c.args._lines.now
    known c.loop-worker.columns c.put_row.new.columns all w c.into_inner.result v.gathered last.done thread
    (ap (λ s. s.items) c.into_inner.ensures) c.in_ok-put_row.ensures.puts in
    let longer : length c.push.new.self.items ≡ length all + 1 =
    ap length c.in_ok-push.ensures.items ∙ length_more all c.into_inner.result ∙ (let e = thread in omega arith) in
    record {
      table = c.join_in.ensures.table ∙ v.table;
      count = let n = v.count in let k = last.len in omega arith;
      threads = last.threads;
      done = last.others;
      gathered = subst (λ ks. AreGathered g.R.Raw.out g.R.Raw.faults g.R.Raw.got g.R.Raw.passed c.args._tables.now
          board
          c.args._lines.now ks c.put_row.new.columns c.push.new.self.items)
          (sym (ap (λ m. m.0.known) c.join_in.ensures.both))
          (subst (λ xs. AreGathered g.R.Raw.out g.R.Raw.faults g.R.Raw.got g.R.Raw.passed c.args._tables.now board
          c.args._lines.now (known ++ w.pen.me.0.known) c.put_row.new.columns xs) (sym c.in_ok-push.ensures.items)
          more);
    }
