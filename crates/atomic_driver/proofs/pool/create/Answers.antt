use Rattle.std.proofs.Common.{rules, ◌≡◌, ℕ, List, [], ◌∷◌, replicate, sym, ap, ◌∙◌, subst, refl}
use Rattle.std.specs.Prelude.{Option, Some, false}
use mathlib.Core.List.{map}
use mathlib.Core.Option.{some}
use Rattle.pool_words.specs.Words.{words_of}
use Rattle.regions.specs.Offices.{Desk, desk_of}
use Rattle.step_runs.specs.Callbacks.{office_of}
use Rattle.atomic_driver.specs.Rule.{Rule, IsMade, home_of, key_by, first_view_of}
use Rattle.atomic_driver.proofs.Seats.{opens}
use Rattle.atomic_driver.proofs.pool.create.Goals as goal

pub new-requires : goal.new-requires
new-requires g c =
    let plan = c.args.plan.now in
    let words : c.as_slice.result.now ≡ replicate (words_of (key_by plan)) 0 = search rules in
    let desk = desk_of plan.policy plan.limits [] 0 false c.args.raw in
    let slots : c.push.new.self.items ≡ Some desk ∷ [] = search rules in
    let home : home_of (map some c.push.new.self.items) ≡ Some desk = ap (λ z. home_of (map some z)) slots in
    subst (λ (z : List ℕ × Option (Desk g.row.R.Denot)). Rule
    (office_of g.R.Raw.out g.R.Raw.faults g.R.Raw.got g.R.Raw.passed (key_by plan)) (key_by plan)
    (IsMade g.R.Raw.out plan) z.0 z.1 (first_view_of plan ∷ []))
    (λ i. (sym words i, sym home i))
    (opens (office_of g.R.Raw.out g.R.Raw.faults g.R.Raw.got g.R.Raw.passed (key_by plan)) (key_by plan)
    (IsMade g.R.Raw.out plan) desk (record { raw = c.args.raw; none_out = c.requires.none_out; desk_is = refl }))
