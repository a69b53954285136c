use Rattle.std.proofs.Common.{rules, ◌≡◌, ◌<◌, refl, sym, ap, ◌∙◌, ◌∷◌, [], subst, arith, None, Some}
use Rattle.atomic_driver.specs.declared.rule.Plan.{Plan}
use Rattle.step_local.specs.Frames.{made}
use Rattle.step_runs.specs.Callbacks.{office_of}
use Rattle.step_runs.specs.Entries.{first_entry}
use Rattle.step_runs.specs.Laws.{IsOf}
use Rattle.step_runs.specs.Runs.Silent.{rests}
use Rattle.step_runs.specs.declared.entry.Entry.{Entry}
use Rattle.step_runs.proofs.CallerLemmas.{office_keeps, has_none}
use Rattle.atomic_table.specs.Table.{Splits}
use Rattle.atomic_driver.specs.Rule.{key_by, no_plan, plain, IsMade}
use Rattle.atomic_driver.specs.Seating.{others_of}
use Rattle.atomic_driver.specs.Steps.{own_of, PoolDriven}
use Rattle.atomic_driver.proofs.Asked.{some_words, rule_by}
use Rattle.atomic_driver.proofs.Driving.{driven_by}
use Rattle.atomic_driver.proofs.Seats.{own_same, splits_view}
use Rattle.atomic_driver.proofs.pool.split_off.Goals as goal

pub split_seat-place-requires : goal.split_seat-place-requires
split_seat-place-requires g c =
    let t = c.requires in
    let k = key_by c.args.plan.now in
    let sized = t.sizes.words in
    let some_ = some_words k in
    let v = c.args.spare.now.me.0 in (
      t.table.0,
      omega arith,
      subst (λ (z : Plan). Splits (rule_by g.R.Raw.out g.R.Raw.faults g.R.Raw.got g.R.Raw.passed z) c.args.spare.now.id v
          (plain (others_of v.entries)) (plain (own_of (key_by no_plan) v.entries ∷ []))) (sym t.table.1)
          (splits_view (office_of g.R.Raw.out g.R.Raw.faults g.R.Raw.got g.R.Raw.passed k) k
          (IsMade g.R.Raw.out c.args.plan.now) (key_by no_plan) c.args.spare.now.id c.args.local.seat v t.unnoted t.row t.some),
    )

pub returns-clause-seat : goal.returns-clause-seat
returns-clause-seat g c =
    let q = c.split_seat-place.ensures in
    let t = c.requires in
    let plan = c.args.plan.now in
    let k = key_by plan in
    let n = c.args.local.seat in
    let me = c.split_seat-place.result.me in
    let first = own_same k (key_by no_plan) c.args.spare.now.me.0.entries t.some ∙ t.first in
    let entries = ap (λ z. z.0.entries) q.4 ∙ ap (λ (e : Entry _). e ∷ []) first in
    record {
      same_table = q.3;
      same_plan = refl;
      number = refl;
      fresh = t.local;
      first = ap (own_of k) entries;
      entry = ap (λ z. (own_of k z).seat) entries;
      driven = subst (λ z. PoolDriven g.R.Raw.out g.R.Raw.faults g.R.Raw.got g.R.Raw.passed plan z None me) (sym t.local)
          (driven_by (office_of _ _ _ _ k) k (IsOf plan.policy plan.limits)
          (office_keeps _ _ _ _ plan.policy plan.limits k) (made k n) None None (first_entry k n) me entries
          (ap (λ z. z.0.note) q.4) (rests refl) refl (ap (λ z. z.1) q.4) refl (has_none (IsOf plan.policy plan.limits)));
    }
