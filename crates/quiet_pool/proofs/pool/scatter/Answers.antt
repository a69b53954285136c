use Rattle.std.proofs.Common.{◌∷◌, [], ap, sym, ◌∙◌, subst, arith}
use Rattle.std.proofs.Math.Seq.{map-set_same}
use Rattle.atomic_driver.specs.declared.seat.DriverSeat.{DriverSeat}
use Rattle.atomic_driver.specs.Rule.{plain}
use Rattle.atomic_driver.specs.Seating.{IsFrom, others_of}
use Rattle.atomic_driver.specs.Steps.{own_of}
use Rattle.atomic_driver.proofs.CallerLemmas.{at_low}
use Rattle.quiet_pool.proofs.Heaps.{have_more, others_drop, row_drop}
use Rattle.quiet_pool.proofs.pool.scatter.Goals as goal

pub hands_on-requires-clause-row : goal.hands_on-requires-clause-row
hands_on-requires-clause-row g c =
    let v = c.loop-index.invariant in
    let low = c.loop-index-test.true in
    let count = c.requires.count in
    let entries = ap (λ z. z.0.entries) v.place in
    subst (λ es. IsFrom (own_of c.args.key.now es).seat es) (sym entries)
    (row_drop c.args.key.now c.args.place.now.me.0.entries c.loop-index.index c.requires.row (omega arith))

pub loop-index-preserved : goal.loop-index-preserved
loop-index-preserved g c =
    let v = c.loop-index.invariant in
    let e = c.hands_on.ensures in
    let entries = ap (λ z. z.0.entries) v.place in
    record {
      table = e.place.0 ∙ v.table;
      place = e.place.1
          ∙ ap (λ es. (plain (others_of es), [])) entries
          ∙ ap (λ es. (plain es, [])) (others_drop c.args.place.now.me.0.entries c.loop-index.index);
      places = have_more c.loop-index.index c.args.place.now.table_id c.args.key.now c.args.place.now.me.0.entries
          c.loop-index.heaps c.hands_on.new.heap v.places (e.heap.0 ∙ v.table)
          (e.heap.1 ∙ ap (λ es. (plain (own_of c.args.key.now es ∷ []), [])) entries);
      locals = map-set_same (λ (x : DriverSeat g.row.R.Denot g.R.Raw). x.local) c.loop-index.heaps c.loop-index.index _
          c.index-heaps-index.result e.local ∙ v.locals;
      plans = map-set_same (λ (x : DriverSeat g.row.R.Denot g.R.Raw). x.plan) c.loop-index.heaps c.loop-index.index _
          c.index-heaps-index.result e.plan ∙ v.plans;
    }

pub returns-clause-places : goal.returns-clause-places
returns-clause-places g c i x e at at_e =
    let high = c.loop-index-test.false in
    let many = c.loop-index.auto.heaps in
    let low = at_low c.loop-index.heaps i x at in
    c.loop-index.invariant.places i x e (omega arith) at at_e
