use Rattle.std.proofs.Common.{ap, subst, ◌∙◌}
use Rattle.pool_words.specs.declared.words.Key.{Key}
use Rattle.atomic_driver.specs.Seating.{AreSeats}
use Rattle.atomic_driver.proofs.Seats.{own_seats}
use Rattle.atomic_driver.proofs.pool.Shared.make.Goals as goal

pub returns-clause-seats : goal.returns-clause-seats
returns-clause-seats g c =
    let out = c.in-Ok-hand_out.ensures in
    record {
      count = out.count ∙ ap (λ (k : Key). k.seats) c.key_by-key.ensures;
      each = subst (λ t. AreSeats g.R.Raw.out g.R.Raw.faults g.R.Raw.got g.R.Raw.passed t
          (record { policy = c.args.policy; limits = c.args.limits }) c.in-Ok-hand_out.seats.items)
          c.in-Ok.ensures.table.0 out.seats;
    }

pub returns-clause-owned : goal.returns-clause-owned
returns-clause-owned g c =
    own_seats g.R.Raw.out g.R.Raw.faults g.R.Raw.got g.R.Raw.passed _ _ (returns-clause-seats g c)
