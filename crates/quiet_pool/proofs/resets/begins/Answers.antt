use Rattle.std.proofs.Common.{ap, sym, ◌∙◌, refl}
use Rattle.std.specs.Prelude.{slice_set}
use Rattle.std.proofs.Math.Seq.{map-set_same}
use Rattle.std.proofs.lemmas.List.{map-set}
use Rattle.atomic_driver.specs.declared.seat.DriverSeat.{DriverSeat}
use Rattle.quiet_pool.specs.Held.{locals_of}
use Rattle.quiet_pool.specs.Resets.{locals_begun, locals_begun_of}
use Rattle.quiet_pool.proofs.Lists.{got_at}
use Rattle.quiet_pool.proofs.resets.begins.Goals as goal

pub returns-then-index-heaps-clause-locals : goal.returns-then-index-heaps-clause-locals
returns-then-index-heaps-clause-locals g c =
    let heaps = c.args.heaps.now in
    let index = c.from-index.result in
    let got = got_at (λ (x : DriverSeat g.row.R.Denot g.R.Raw). x.local) heaps index c.index-heaps-index.result
    c.if-index-heaps.true in
    map-set (λ (x : DriverSeat g.row.R.Denot g.R.Raw). x.local) heaps index _
    ∙ ap (λ z. slice_set (locals_of heaps) index z.0) c.begin_reset.ensures
    ∙ ap (λ one. locals_begun_of one (locals_of heaps) index c.args.reset) (sym got)
    ∙ ap (λ i. locals_begun (locals_of heaps) i c.args.reset) c.from-index.ensures

pub returns-then-index-heaps-clause-plans : goal.returns-then-index-heaps-clause-plans
returns-then-index-heaps-clause-plans g c =
    map-set_same (λ (x : DriverSeat g.row.R.Denot g.R.Raw). x.plan) c.args.heaps.now c.from-index.result _
    c.index-heaps-index.result refl
