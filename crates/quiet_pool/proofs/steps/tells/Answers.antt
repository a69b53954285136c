use Rattle.std.proofs.Common.{◌≤◌, ap, sym, ◌∙◌, subst, refl}
use Rattle.std.proofs.lemmas.List.{length-map}
use Rattle.std.specs.Prelude.{slice_set}
use Rattle.std.proofs.Math.Seq.{map-set_same}
use Rattle.std.proofs.lemmas.List.{map-set}
use Rattle.std.proofs.lemmas.Option.{slice_get_past}
use Rattle.atomic_driver.specs.declared.seat.DriverSeat.{DriverSeat}
use Rattle.step_core.specs.Steps.{told_of_seat}
use Rattle.quiet_pool.specs.Held.{locals_of}
use Rattle.quiet_pool.proofs.Lists.{got_at}
use Rattle.quiet_pool.proofs.steps.tells.Goals as goal

pub returns-then-seat-heaps-clause-locals : goal.returns-then-seat-heaps-clause-locals
returns-then-seat-heaps-clause-locals g c =
    let heaps = c.args.heaps.now in
    let got = got_at (λ (x : DriverSeat g.row.R.Denot g.R.Raw). x.local) heaps c.args.seat c.index-heaps-seat.result
    c.if-seat-heaps.true in
    map-set (λ (x : DriverSeat g.row.R.Denot g.R.Raw). x.local) heaps c.args.seat _
    ∙ ap (λ z. slice_set (locals_of heaps) c.args.seat z.0) c.told.ensures
    ∙ ap (λ one. (told_of_seat one (locals_of heaps) c.args.seat c.args.seen).0) (sym got)

pub returns-then-seat-heaps-clause-turn : goal.returns-then-seat-heaps-clause-turn
returns-then-seat-heaps-clause-turn g c =
    let heaps = c.args.heaps.now in
    let got = got_at (λ (x : DriverSeat g.row.R.Denot g.R.Raw). x.local) heaps c.args.seat c.index-heaps-seat.result
    c.if-seat-heaps.true in
    ap (λ z. z.1) c.told.ensures ∙ ap (λ one. (told_of_seat one (locals_of heaps) c.args.seat c.args.seen).1) (sym got)

pub returns-then-seat-heaps-clause-plans : goal.returns-then-seat-heaps-clause-plans
returns-then-seat-heaps-clause-plans g c =
    map-set_same (λ (x : DriverSeat g.row.R.Denot g.R.Raw). x.plan) c.args.heaps.now c.args.seat _
    c.index-heaps-seat.result refl

pub returns-else-seat-heaps-clause-turn : goal.returns-else-seat-heaps-clause-turn
returns-else-seat-heaps-clause-turn g c =
    let heaps = c.args.heaps.now in
    let past = subst (λ n. n ≤ c.args.seat)
    (sym (length-map heaps (λ (x : DriverSeat g.row.R.Denot g.R.Raw). x.local))) c.if-seat-heaps.false in
    ap (λ one. (told_of_seat one (locals_of heaps) c.args.seat c.args.seen).1)
    (sym (slice_get_past (locals_of heaps) c.args.seat past))
