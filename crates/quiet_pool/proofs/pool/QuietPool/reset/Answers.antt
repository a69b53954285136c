use Rattle.std.proofs.Common.{ap, sym, ◌∙◌, subst, length, take, drop, ◌++◌}
use Rattle.std.proofs.lemmas.List.{length-map}
use lib.ListN.{get_elem?}
use Rattle.atomic_driver.specs.declared.seat.DriverSeat.{DriverSeat}
use Rattle.quiet_pool.specs.Held.{IsHeld, locals_of, plans_of, quiet_of}
use Rattle.quiet_pool.specs.Resets.{AreResting, IsReset}
use Rattle.quiet_pool.proofs.Lists.{back_in}
use Rattle.quiet_pool.proofs.pool.QuietPool.reset.Goals as goal

pub invariant_of-self : goal.invariant_of-self
invariant_of-self g c =
    let held = c.self.invariant in
    let e = c.resets.ensures in
    let inside = c.self.inside in
    let value = c.as_mut_slice.ensures.value in
    let items = back_in inside.heaps.len inside.heaps.items c.resets.new.heaps
    (sym (length-map c.resets.new.heaps (λ (x : DriverSeat g.row.R.Denot g.R.Raw). x.plan)) ∙ ap length e.plans
    ∙ length-map c.as_mut_slice.result.now (λ (x : DriverSeat g.row.R.Denot g.R.Raw). x.plan)
    ∙ c.as_mut_slice.ensures.len) in
    subst (λ hs. IsHeld g.R.Raw.out g.R.Raw.faults g.R.Raw.got g.R.Raw.passed inside.board.shared.table_id
    c.resets.new.place.table_id inside.board.shared.key inside.plan inside.key c.resets.new.place.me hs inside.office)
    (sym items) (record {
      same_plan = held.same_plan;
      key_is = held.key_is;
      some_ = held.some_;
      sizes = held.sizes;
      same_table = e.table ∙ held.same_table;
      is_noted = e.noted;
      plans = λ i one at. held.plans i one
          (ap (λ hs. get_elem? (plans_of hs) i) (sym value) ∙ ap (λ ps. get_elem? ps i) (sym e.plans) ∙ at);
      state = e.state;
      idle = λ seat l at. (e.rests seat l at).0;
    })

pub returns-clause-reset : goal.returns-clause-reset
returns-clause-reset g c =
    let e = c.resets.ensures in
    let inside = c.self.inside in
    let items = back_in inside.heaps.len inside.heaps.items c.resets.new.heaps
    (sym (length-map c.resets.new.heaps (λ (x : DriverSeat g.row.R.Denot g.R.Raw). x.plan)) ∙ ap length e.plans
    ∙ length-map c.as_mut_slice.result.now (λ (x : DriverSeat g.row.R.Denot g.R.Raw). x.plan)
    ∙ c.as_mut_slice.ensures.len) in
    subst (λ q. IsReset q (quiet_of inside.plan inside.office
    (locals_of (take inside.heaps.len (c.resets.new.heaps ++ drop (length c.resets.new.heaps) inside.heaps.items)))
    c.resets.new.place.me)) c.self.view_is
    (subst (λ hs. IsReset (quiet_of inside.plan inside.office (locals_of inside.heaps.items) inside.place.me)
    (quiet_of inside.plan inside.office (locals_of hs) c.resets.new.place.me)) (sym items)
    (subst (λ hs. IsReset (quiet_of inside.plan inside.office (locals_of hs) inside.place.me)
    (quiet_of inside.plan inside.office (locals_of c.resets.new.heaps) c.resets.new.place.me))
    c.as_mut_slice.ensures.value e.reset))

pub returns-clause-rests : goal.returns-clause-rests
returns-clause-rests g c =
    let e = c.resets.ensures in
    let inside = c.self.inside in
    let items = back_in inside.heaps.len inside.heaps.items c.resets.new.heaps
    (sym (length-map c.resets.new.heaps (λ (x : DriverSeat g.row.R.Denot g.R.Raw). x.plan)) ∙ ap length e.plans
    ∙ length-map c.as_mut_slice.result.now (λ (x : DriverSeat g.row.R.Denot g.R.Raw). x.plan)
    ∙ c.as_mut_slice.ensures.len) in
    subst (λ hs. AreResting (locals_of hs)) (sym items) e.rests
