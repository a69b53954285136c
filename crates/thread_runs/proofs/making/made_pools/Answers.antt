use Rattle.std.proofs.Common.{◌≡◌, ◌+◌, ◌%◌, ◌∷◌, ◌++◌, [], length, sym, ap, subst, arith}
use Rattle.line_runs.specs.Turning.{out_of, faults_of}
use Rattle.pool_types.specs.Script.{Gets, Puts}
use Rattle.thread_pools.specs.Pools.{HasColumns, IsFreshAt}
use Rattle.thread_runs.specs.Making.{HasRests, stand_plan}
use Rattle.thread_runs.specs.Traces.{IsMadeAs, threads_in}
use Rattle.thread_runs.proofs.MakeLemmas.{MadeTo, columns_more, made_more, rests_more}
use Rattle.thread_starts.proofs.CrewLemmas.{length_more}
use Rattle.thread_runs.proofs.making.made_pools.Goals as goal

pub loop-number-preserved : goal.loop-number-preserved
loop-number-preserved c =
    let v = c.loop-number.invariant in
    let low = c.loop-number-test.true in
    let all = ap length c.pools-number-end.ensures in
    let few = c.requires in
    let number = c.loop-number.number in
    let same : c.loop-number.number % 65536 ≡ c.loop-number.number = omega arith in
    let len = v.made.len in
    let rests_len = v.rests_len in
    let columns_len = v.columns_len in
    let made = subst (λ n. IsMadeAs c.args.trace.now n (stand_plan c.in_ok-table.field-0.table)) same
    c.in_ok-table.ensures.made in
    let tables_are = c.in_ok-push.ensures.items in
    let rests_are = c.in_ok-push-2.ensures.items in
    let columns_are = c.in_ok-push-3.ensures.items in
    record {
      made = subst (λ z. MadeTo stand_plan c.args.trace.now z (c.loop-number.number + 1)) (sym tables_are)
          (made_more stand_plan c.args.trace.now c.loop-number.tables.items c.loop-number.number
          c.in_ok-table.field-0.table v.made made);
      rests_len = let n = ap length rests_are in let m =
          length_more c.loop-number.rests.items c.in_ok-table.field-0.rest in omega arith;
      columns_len = let n = ap length columns_are in
          let m = length_more c.loop-number.columns.items (record { heaps = c.in_ok-table.field-0.heaps }) in
          omega arith;
      rests = subst (λ z. HasRests z c.push-in-loop-number.new.self.items) (sym tables_are)
          (subst (λ z. HasRests (c.loop-number.tables.items ++ c.in_ok-table.field-0.table ∷ []) z) (sym rests_are)
          (rests_more c.loop-number.tables.items c.loop-number.rests.items c.in_ok-table.field-0.table
          c.in_ok-table.field-0.rest
          (omega arith) v.rests c.in_ok-table.ensures.rest));
      heaps = subst (λ z. HasColumns (IsFreshAt out_of faults_of Gets Puts) (threads_in c.args.trace.now) z
          c.push-in-loop-number-2.new.self.items)
          (sym tables_are)
          (subst (λ z. HasColumns (IsFreshAt out_of faults_of Gets Puts) (threads_in c.args.trace.now)
          (c.loop-number.tables.items ++ c.in_ok-table.field-0.table ∷ []) z) (sym columns_are)
          (columns_more (IsFreshAt out_of faults_of Gets Puts) (threads_in c.args.trace.now) c.loop-number.tables.items
          c.loop-number.columns.items c.in_ok-table.field-0.table (record { heaps = c.in_ok-table.field-0.heaps })
          (omega arith) v.heaps
          c.in_ok-table.ensures.heaps));
    }
