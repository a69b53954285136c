-- The entries that threads' places at a table have are those of a run.
use Rattle.std.proofs.Common.{◌≡◌, ℕ, ◌<◌, List, Option, ap}
use Rattle.pool_words.specs.declared.words.Key.{Key}
use Rattle.step_runs.specs.declared.entry.Entry.{Entry}
use Rattle.step_runs.specs.Runs.{Callback}
use Rattle.step_laws.specs.Laws.{OnlySeatsStep}
use Rattle.atomic_driver.specs.declared.rule.View.{View}
use Rattle.atomic_driver.specs.Rule.{Rule}
use Rattle.thread_laws.specs.Tables.{HasEntry}

module _ {D : Type 0} {c : Callback D} {k : Key} {Is : D → Type 0} {words : List ℕ} {slot : Option D}
    {views : List (View D)} (rule : Rule c k Is words slot views) where
  pub its_entry : (e : Entry D) → HasEntry views e → rule.all e.seat ≡ e
  its_entry e has = (rule.tied has.id has.view has.place e has.at has.there).entry

  pub its_seat : (e : Entry D) → HasEntry views e → e.seat < k.seats
  its_seat e has = (rule.tied has.id has.view has.place e has.at has.there).low

  pub only_its_seats : OnlySeatsStep k.seats rule.all
  only_its_seats seat high = ap (λ e. e.rows) (rule.others seat high)
