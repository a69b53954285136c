use Rattle.step_runs.specs.Places.{carry_of}
use Rattle.atomic_driver.specs.Rule.{key_by}
use Rattle.atomic_driver.specs.Steps.{own_of, desk_at}
use Rattle.atomic_driver.proofs.seat.DriverSeat.steps.Given as goal

abbrev pub ghosts-step : goal.ghosts-step
ghosts-step g a = record {
  plan = a.plan.now;
  spot = 0;
  entry = own_of (key_by a.plan.now) a.place.now.me.0.entries;
  now = a.local.now;
  desk = desk_at (carry_of a.local.now.at) a.office.now a.place.now.me.1;
}
