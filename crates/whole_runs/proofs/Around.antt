-- One seat's steps, and what they leave of all others.
use Rattle.std.proofs.Common.{◌≡◌, ℕ, ◌<◌, ◌≤◌, ◌∙◌, sym, arith}
use Rattle.pool_words.specs.declared.words.Key.{Key}
use Rattle.mail_laws.specs.Mail as mailing
use Rattle.step_local.specs.declared.frames.Local.{Local}
use Rattle.pool_laws.specs.Named.{fresh_whole}
use Rattle.pool_laws.specs.Steps.{WholeRun, WholeStep}
use Rattle.pool_laws.specs.Steps.WholeRun.{steps}
use Rattle.pool_laws.specs.Wholes.{Whole, WholeGood}
use Rattle.seat_ties.specs.Turns.{SeatRun}
use Rattle.seat_ties.specs.Turns.SeatRun.{stays, steps_on}
use Rattle.seat_laws.proofs.CallerLemmas.{others_steps_leave_seats, steps_leave_others}
use Rattle.begun_laws.specs.Begun.{BegunFit}
use Rattle.whole_runs.specs.States.{SeatStands}
use Rattle.begun_laws.proofs.CallerLemmas.{steps_keep_begun}
use Rattle.pool_laws.proofs.CallerLemmas.{runs_keep_whole}

module _ (k : Key) (most : k.seats ≤ 64) (anew : WholeGood k (fresh_whole k)) where
  pub good_of : (w : Whole) → WholeRun k (fresh_whole k) w → WholeGood k w
  good_of w run = runs_keep_whole k (fresh_whole k) w anew run

  module _ (locals : ℕ → Local) (t : ℕ) (low : t < k.seats) where
    -- what holds of all but the seat that steps
    pub record Around (w : Whole) : Type 0 where
      pub run : WholeRun k (fresh_whole k) w
      pub others : (o : ℕ) → o < k.seats → (o ≡ t → ⊥) → SeatStands k w o (locals o)
      pub begun : BegunFit w
      pub none : (o : ℕ) → k.seats ≤ o → w.mails o ≡ mailing.Task.Away

    step_around : (w later : Whole) → Around w → WholeStep k t w later → Around later
    step_around w later a step =
        let good = good_of w a.run in record {
          run = steps a.run t step;
          others = λ o few ne. let had = a.others o few ne in record {
            tied = steps_leave_others k t o w later (locals o) good step (λ e. ne (sym e)) had.tied;
            call = had.call;
            slabs = had.slabs;
          };
          begun = steps_keep_begun k t w later good step a.begun;
          none = λ o high.
              (others_steps_leave_seats k t o w later good step (λ e. omega arith)).tasks.mails ∙ a.none o high;
        }

    pub run_around : (w later : Whole) → Around w → SeatRun k t w later → Around later
    run_around w later a stays = a
    run_around w later a (steps_on {before = before} run step) =
        step_around before later (run_around w before a run) step
