use Rattle.std.proofs.Common.{sym, ◌∙◌, ◌≡◌, refl, subst, Some}
use Rattle.step_runs.specs.Callbacks.{office_of}
use Rattle.step_runs.specs.Runs.{Passes}
use Rattle.atomic_driver.proofs.seat.passes.Goals as goal

pub returns-in-Some-office : goal.returns-in-Some-office
returns-in-Some-office g c =
    let given = sym (sym c.gives_of.ensures ∙ c.in-Some.is) in
    subst (λ z. Passes (office_of g.R.Raw.out g.R.Raw.faults g.R.Raw.got g.R.Raw.passed c.args.key.now) z
    c.args.office.now (Some c.puts.new.office)) given
    (subst (λ z. Passes (office_of g.R.Raw.out g.R.Raw.faults g.R.Raw.got g.R.Raw.passed c.args.key.now)
    (Some c.in-Some.first) z (Some c.puts.new.office)) (sym c.in-Some-office.is)
    (c.puts.new.office, refl, c.puts.ensures))
