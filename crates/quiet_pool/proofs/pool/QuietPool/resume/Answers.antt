use Rattle.quiet_pool.specs.Held.{locals_of, plans_of}
use Rattle.std.proofs.Common.{◌≡◌, length, refl, ap, sym, ◌∙◌, subst}
use Rattle.std.proofs.lemmas.List.{length-map}
use Rattle.atomic_driver.specs.declared.pool.Shared.{Shared}
use Rattle.atomic_driver.specs.declared.seat.DriverSeat.{DriverSeat}
use Rattle.quiet_pool.proofs.Lists.{back_in}
use Rattle.atomic_driver.specs.Rule.{key_by}
use Rattle.atomic_driver.specs.Seating.{IsFrom}
use Rattle.quiet_pool.specs.Calls.{HavePlaces, IsResumed}
use Rattle.quiet_pool.proofs.Quiets.{resumed, state_row}
use Rattle.quiet_pool.proofs.pool.QuietPool.resume.Goals as goal

pub scatter-requires-clause-row : goal.scatter-requires-clause-row
scatter-requires-clause-row g c =
    subst (IsFrom 0) (sym (ap (λ z. z.0.entries) c.forget.ensures.forgets))
    (state_row g.R.Raw.out g.R.Raw.faults g.R.Raw.got g.R.Raw.passed _ c.self.invariant.state)

pub returns : goal.returns
returns g c =
    let held = c.self.invariant in
    let e = c.scatter.ensures in
    let items : c.as_mut_slice.result.now ≡ c.self.inside.heaps.items = c.as_mut_slice.ensures.value in
    let heaps = back_in c.self.inside.heaps.len c.self.inside.heaps.items c.scatter.new.heaps
    (sym (length-map c.scatter.new.heaps (λ (x : DriverSeat g.row.R.Denot g.R.Raw). x.local)) ∙ ap length e.locals
    ∙ length-map c.as_mut_slice.result.now (λ (x : DriverSeat g.row.R.Denot g.R.Raw). x.local)
    ∙ c.as_mut_slice.ensures.len) in
    let entries = ap (λ z. z.0.entries) c.forget.ensures.forgets in
    let table = c.forget.ensures.table ∙ held.same_table in
    let first = subst (λ t. HavePlaces t c.self.inside.key c.forget.new.place.me.0.entries c.scatter.new.heaps) table
    e.places in
    let second = subst (λ k. HavePlaces c.self.inside.board.shared.table_id k c.forget.new.place.me.0.entries
    c.scatter.new.heaps) held.key_is first in
    let places = subst (λ es. HavePlaces c.self.inside.board.shared.table_id (key_by c.self.inside.plan) es
    c.scatter.new.heaps) entries second in
    let pool : Shared g.row.R.Denot = record {
      board = c.self.inside.board;
      spare = c.scatter.new.place;
      plan = c.self.inside.plan;
      key = c.self.inside.key;
    } in
    subst (λ hs. IsResumed g.R.Raw.out g.R.Raw.faults g.R.Raw.got g.R.Raw.passed c.args.self pool hs) (sym heaps)
    (subst (λ q. IsResumed g.R.Raw.out g.R.Raw.faults g.R.Raw.got g.R.Raw.passed q pool c.scatter.new.heaps)
    c.self.view_is
    (resumed g.R.Raw.out g.R.Raw.faults g.R.Raw.got g.R.Raw.passed _ _ _ _ _ _ _ _ held c.scatter.new.heaps
    (e.locals ∙ ap (λ hs. locals_of hs) items) (e.plans ∙ ap (λ hs. plans_of hs) items) places pool (record {
      same_plan = held.same_plan;
      key_is = held.key_is;
      some = held.some_;
      sizes = held.sizes;
      same_table = e.table ∙ table;
      spent = e.place;
    }) refl refl))
