use Rattle.std.proofs.Common.{◌∷◌, ◌++◌, [], ap, sym, ◌∙◌, arith}
use Rattle.std.specs.Prelude.{slice_index_or}
use Rattle.std.proofs.Math.Seq.{map-set_same}
use Rattle.atomic_table.proofs.Lists.{at_map}
use Rattle.atomic_driver.specs.declared.seat.DriverSeat.{DriverSeat}
use Rattle.atomic_driver.specs.Rule.{plain}
use Rattle.pool_api.specs.Heaps.{entry_of}
use Rattle.quiet_pool.specs.Calls.{entries_of}
use Rattle.quiet_pool.proofs.Heaps.{same_more, take_more}
use Rattle.quiet_pool.proofs.Lists.{elem_at}
use Rattle.quiet_pool.proofs.pool.gather.Goals as goal

pub takes_in-requires-clause-heap : goal.takes_in-requires-clause-heap
takes_in-requires-clause-heap g c =
    let v = c.loop-index.invariant in
    let low = c.loop-index-test.true in
    let many = c.loop-index.auto.heaps in
    c.requires.heaps c.loop-index.index _ (v.rest c.loop-index.index _ (omega arith)
    (elem_at c.loop-index.heaps c.loop-index.index c.index-heaps-index.result (omega arith)))

pub takes_in-requires-clause-idle : goal.takes_in-requires-clause-idle
takes_in-requires-clause-idle g c =
    let v = c.loop-index.invariant in
    let low = c.loop-index-test.true in
    let many = c.loop-index.auto.heaps in
    c.requires.idle c.loop-index.index _ (at_map (λ (x : DriverSeat g.row.R.Denot g.R.Raw). x.local) c.args.heaps.now
    c.loop-index.index _ (v.rest c.loop-index.index _ (omega arith)
    (elem_at c.loop-index.heaps c.loop-index.index c.index-heaps-index.result (omega arith))))

pub loop-index-preserved : goal.loop-index-preserved
loop-index-preserved g c =
    let v = c.loop-index.invariant in
    let low = c.loop-index-test.true in
    let many = c.loop-index.auto.heaps in
    let e = c.takes_in.ensures in
    let one = slice_index_or c.loop-index.heaps c.loop-index.index c.index-heaps-index.result in
    let at = v.rest c.loop-index.index one (omega arith)
    (elem_at c.loop-index.heaps c.loop-index.index c.index-heaps-index.result (omega arith)) in
    record {
      table = e.place.0 ∙ v.table;
      place = e.place.1
          ∙ ap (λ es. (plain es, []))
          (ap (λ z. z.0.entries ++ entry_of one ∷ []) v.place
          ∙ sym (take_more (entries_of c.args.heaps.now) c.loop-index.index (entry_of one)
          (at_map entry_of c.args.heaps.now c.loop-index.index one at)));
      locals = map-set_same (λ (x : DriverSeat g.row.R.Denot g.R.Raw). x.local) c.loop-index.heaps c.loop-index.index _
          c.index-heaps-index.result e.local ∙ v.locals;
      plans = map-set_same (λ (x : DriverSeat g.row.R.Denot g.R.Raw). x.plan) c.loop-index.heaps c.loop-index.index _
          c.index-heaps-index.result e.plan ∙ v.plans;
      rest = same_more c.loop-index.index c.args.heaps.now c.loop-index.heaps _ v.rest;
    }
