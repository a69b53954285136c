-- Between two steps on words a seat grants nothing.
use Rattle.std.proofs.Common.{◌≡◌, false, refl, ap, ◌∙◌}
use Rattle.std.specs.Prelude.{ℕ, Option, None}
use Rattle.pool_words.specs.declared.actions.Action.{Action}
use Rattle.pool_words.specs.declared.actions.Action.TheVariants.{TakeOffice, GiveOffice, Nothing}
use Rattle.step_local.specs.declared.frames.At.{At}
use Rattle.step_local.specs.declared.frames.LargeAt.{LargeAt}
use Rattle.step_local.specs.declared.frames.Local.{Local}
use Rattle.step_local.specs.declared.frames.SmallAt.{SmallAt}
use Rattle.step_local.specs.Course.{course_at}
use Rattle.step_runs.specs.Places.{has_word}
use Rattle.step_runs.specs.Runs.{Callback, Silent}
use Rattle.step_runs.specs.Runs.Silent.{rests, begins, resets, answers, obtains, takes_out, puts_back}
use Rattle.step_numbers.specs.Positions.{NumbersFit, granting}
use Rattle.step_numbers.proofs.CallerLemmas.{Stays, stays_begun, stays_learnt, stays_reset}

-- a step that is on no word grants nothing
no_word : (l : Local) (at : At) (action : Action) → has_word action ≡ false → course_at l at ≡ action
    → granting at ≡ None
no_word l (At.Small (SmallAt.Private slab head below)) action none is = absurd (cc (ap has_word is))
no_word l (At.Small (SmallAt.Rest slab unit)) action none is = absurd (cc (ap has_word is))
no_word l (At.Small _) action none is = refl
no_word l (At.Large (LargeAt.Grant unit)) action none is = absurd (cc (ap has_word is))
no_word l (At.Large _) action none is = refl
no_word l _ action none is = refl

further : (n : ℕ) (l now : Local) → Stays n l → Stays l.last now → Stays n now
further n l now first then' = record { last = then'.last ∙ first.last; fits = then'.fits }

-- what a seat does between two steps on words grants nothing
pub silence_stays : {D : Type 0} {c : Callback D} {l : Local} {desk : Option D} {now : Local} {after : Option D}
    → Silent c l desk now after → NumbersFit l → Stays l.last now
silence_stays (rests passes) fits = record { last = refl; fits = fits }
silence_stays {l = l} (begins {now = now} silent request) fits =
    let so_far = silence_stays silent fits in
    further l.last now _ so_far (stays_begun now request so_far.fits)
silence_stays {l = l} (resets {now = now} silent reset) fits =
    let so_far = silence_stays silent fits in
    further l.last now _ so_far (stays_reset now reset so_far.fits)
silence_stays {l = l} (answers {now = now} silent e) fits =
    let so_far = silence_stays silent fits in
    further l.last now _ so_far (stays_learnt now _ (no_word now now.at Nothing refl e) so_far.fits)
silence_stays {l = l} (obtains {now = now} silent granules answer after e asks) fits =
    let so_far = silence_stays silent fits in
    further l.last now _ so_far (stays_learnt now _ (no_word now now.at (TakeOffice _) refl e) so_far.fits)
silence_stays {l = l} (takes_out {now = now} silent first e) fits =
    let so_far = silence_stays silent fits in
    further l.last now _ so_far (stays_learnt now _ (no_word now now.at (TakeOffice _) refl e) so_far.fits)
silence_stays {l = l} (puts_back {now = now} silent e) fits =
    let so_far = silence_stays silent fits in
    further l.last now _ so_far (stays_learnt now _ (no_word now now.at GiveOffice refl e) so_far.fits)
