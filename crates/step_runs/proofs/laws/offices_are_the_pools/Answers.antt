use Rattle.std.proofs.Common.{refl}
use Rattle.step_depot.specs.Steps.{key_of}
use Rattle.step_runs.specs.Callbacks.{office_of}
use Rattle.step_runs.specs.Laws.{IsOf}
use Rattle.step_runs.proofs.Desks.{office_keeps, run_keeps}
use Rattle.step_runs.proofs.laws.offices_are_the_pools.Goals as goal

pub returns : goal.returns
returns g c policy limits raw words home entries run =
    let all = run_keeps (IsOf policy limits) (office_of _ _ _ _ (key_of policy limits))
    (office_keeps _ _ _ _ policy limits (key_of policy limits)) (record { policy_is = refl; limits_are = refl }) run in
    record { home_has = all.home_has; seats_have = all.seats_have }
