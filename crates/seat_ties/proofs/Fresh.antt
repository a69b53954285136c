-- In a new pool nothing is under way, and nothing is in hand.
use Rattle.std.proofs.Common.{true, refl}
use Rattle.backend_tasks.proofs.CallerLemmas.{fresh_locals_fit as backend-fits}
use Rattle.cache_tasks.proofs.CallerLemmas.{fresh_locals_fit as released-fits}
use Rattle.orphan_tasks.proofs.CallerLemmas.{made_locals_fit_orphans}
use Rattle.heap_tasks.proofs.CallerLemmas.{fresh_stages_fit}
use Rattle.hand_blocks.proofs.CallerLemmas.{fresh_hands_are_empty}
use Rattle.step_fits.proofs.CallerLemmas.{fresh_locals_fit}
use Rattle.seat_ties.specs.Laws.{FreshSeatsAreTied}

pub fresh_seats_are_tied : FreshSeatsAreTied
fresh_seats_are_tied k seat fits = record {
  says = record {
    number = fits;
    fits = fresh_locals_fit k seat true fits;
    stage = fresh_stages_fit k seat;
    hands = (fresh_hands_are_empty k seat).fits;
    backend = backend-fits k seat;
    released = released-fits k seat;
    orphans = made_locals_fit_orphans k seat;
  };
  tasks = record {
    guards = refl;
    bins = refl;
    queue = refl;
    objects = refl;
    mails = refl;
    orphans = refl;
    jobs = refl;
    desks = refl;
  };
  heap = record { kept = refl; cached = refl; spares = refl; last = refl };
  notes = refl;
  hands = record { lie = tt; once = tt; apart = tt };
  words = tt;
}
