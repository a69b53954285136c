-- Steps by which no block is to be joined or queued leave a pool at rest.
use Rattle.std.proofs.Common.{◌≡◌, ◌⊎◌, inl, inr, ℕ, ◌+◌, refl, sym, ap, subst, ◌∙◌}
use Rattle.guards.specs.declared.win.Taking.{Taking}
use Rattle.guards.specs.declared.win.WinAt.{WinAt}
use Rattle.guards.specs.declared.win.WinCall.{WinCall}
use Rattle.guards.specs.declared.win.WinNext.{WinNext}
use Rattle.guards.specs.Win.{win_course, win_learn}
use Rattle.backend_bins.specs.declared.scan.ScanStep.{ScanStep}
use Rattle.backend_bins.specs.Scan.{win_of}
use Rattle.word_laws.specs.Memory.{found}
use Rattle.guard_laws.specs.Blocks as blocks
use Rattle.guard_laws.specs.Blocks.{Use, Place, put_range}
use Rattle.guard_laws.specs.Steps.{GuardStep, shadow_won, use_drained, place_drained}
use Rattle.guard_laws.proofs.CallerLemmas.{IsOut, ranged_was, range_each, drained_was}
use Rattle.queue_laws.specs.Alone.{IsAtRest}
use Rattle.queue_laws.specs.Rests.{ScansKeepRest, IsSettled, StepsKeepRest, RunsKeepRest}
use Rattle.queue_laws.specs.Rests.SettledRun.{starts, steps}

pub not_queued : (u : Use) → IsSettled u → u ≡ Use.Queued → ⊥
not_queued Use.Bin is q = cc
not_queued (Use.Held o taking) is q = cc
not_queued Use.Queued is q = is
not_queued Use.Elsewhere is q = cc

pub not_joined : (u : Use) → IsSettled u → (o : ℕ) → u ≡ Use.Held o Taking.ToJoin → ⊥
not_joined Use.Bin is o q = cc
not_joined (Use.Held t Taking.ForUse) is o q = cc
not_joined (Use.Held t Taking.ToJoin) is o q = absurd (cc)
not_joined Use.Queued is o q = is
not_joined Use.Elsewhere is o q = cc

-- what every block was, or is a settled use
pub record WasOrSettled (place place' : ℕ → Place) : Type 0 where
  pub was : (x n : ℕ) (u : Use) → place' x ≡ Place.Block x n u → (place x ≡ Place.Block x n u) ⊎ IsSettled u

rest_stays : (place place' : ℕ → Place) → WasOrSettled place place' → IsAtRest place → IsAtRest place'
rest_stays place place' settled rest = record {
  queue = λ x n f. queued x n (settled.was x n Use.Queued f);
  hands = λ x n o f. held x n o (settled.was x n (Use.Held o Taking.ToJoin) f);
}
  where
    queued : (x n : ℕ) → (place x ≡ Place.Block x n Use.Queued) ⊎ IsSettled Use.Queued → ⊥
    queued x n (inl f) = rest.queue x n f
    queued x n (inr is) = is

    held : (x n o : ℕ) → (place x ≡ Place.Block x n (Use.Held o Taking.ToJoin))
        ⊎ IsSettled (Use.Held o Taking.ToJoin) → ⊥
    held x n o (inl f) = rest.hands x n o f
    held x n o (inr is) = not_joined (Use.Held o Taking.ToJoin) is o refl

ranged_settles : (place : ℕ → Place) (x n : ℕ) (u : Use) → IsSettled u
    → WasOrSettled place (put_range place x n (Place.Block x n u))
ranged_settles place x n u is = record { was = λ y j w f. by y j w (ranged_was place x n u y j w f) }
  where
    by : (y j : ℕ) (w : Use) → ((y ≡ x) × (j ≡ n) × (w ≡ u)) ⊎ (IsOut x n y × (place y ≡ Place.Block y j w))
        → (place y ≡ Place.Block y j w) ⊎ IsSettled w
    by y j w (inl (a, b, q)) = inr (subst IsSettled (sym q) is)
    by y j w (inr (out, old)) = inl old

ranged_rests : (place : ℕ → Place) (x n : ℕ) (u : Use) → IsSettled u → IsAtRest place
    → IsAtRest (put_range place x n (Place.Block x n u))
ranged_rests place x n u is = rest_stays place _ (ranged_settles place x n u is)

out_rests : (place : ℕ → Place) (x n : ℕ) → IsAtRest place → IsAtRest (put_range place x n Place.Outside)
out_rests place x n = rest_stays place _ (record {
  was = λ y j w f. inl (range_each
      (λ z p. p ≡ Place.Block z j w → place z ≡ Place.Block z j w) place x n Place.Outside (λ z out e. e)
      (λ z low high e. absurd (cc)) y f);
})

won_rests : (g : blocks.Shadow) (t : ℕ) (c : WinCall) (next : WinNext) → c.taking ≡ Taking.ForUse → IsAtRest g.place
    → IsAtRest (shadow_won t c next g).place
won_rests g t c (WinNext.Goes WinAt.First) is rest = rest
won_rests g t c (WinNext.Goes WinAt.Second) is rest = rest
won_rests g t c (WinNext.Goes WinAt.Back) is rest = rest
won_rests g t c WinNext.Won is rest = ranged_rests g.place c.begin c.granules (Use.Held t c.taking) is rest
won_rests g t c (WinNext.NotWon f) is rest = rest
won_rests g t c WinNext.GivenBack is rest = rest

-- where nothing is queued, nothing comes of taking the queue
drained_rests : (place : ℕ → Place) (t : ℕ) → IsAtRest place → IsAtRest (λ y. place_drained t (place y))
drained_rests place t rest = record {
  queue = λ x n f. queued x n (drained_was t (place x) x n Use.Queued f);
  hands = λ x n o f. held x n o (drained_was t (place x) x n (Use.Held o Taking.ToJoin) f);
}
  where
    queued_of : (x n : ℕ) (u : Use) → place x ≡ Place.Block x n u → use_drained t u ≡ Use.Queued → ⊥
    queued_of x n Use.Bin f q = cc
    queued_of x n (Use.Held o taking) f q = cc
    queued_of x n Use.Queued f q = cc
    queued_of x n Use.Elsewhere f q = cc

    held_of : (x n o : ℕ) (u : Use) → place x ≡ Place.Block x n u → use_drained t u ≡ Use.Held o Taking.ToJoin → ⊥
    held_of x n o Use.Bin f q = cc
    held_of x n o (Use.Held p taking) f q = rest.hands x n o (f ∙ ap (Place.Block x n) q)
    held_of x n o Use.Queued f q = rest.queue x n f
    held_of x n o Use.Elsewhere f q = cc

    queued : (x n : ℕ) → (u : Use) × (place x ≡ Place.Block x n u) × (use_drained t u ≡ Use.Queued) → ⊥
    queued x n (u, f, q) = queued_of x n u f q

    held : (x n o : ℕ) → (u : Use) × (place x ≡ Place.Block x n u) × (use_drained t u ≡ Use.Held o Taking.ToJoin) → ⊥
    held x n o (u, f, q) = held_of x n o u f q

pub steps_keep_rest : StepsKeepRest
steps_keep_rest k t g m tasks h m' tasks' rest (GuardStep.begins c is fits) settles = rest
steps_keep_rest k t g m tasks h m' tasks' rest (GuardStep.wins c at is) settles =
    won_rests g t c (win_learn c at (found m (win_course c at))) settles rest
steps_keep_rest k t g m tasks h m' tasks' rest (GuardStep.offers x n taking is at) settles = rest
steps_keep_rest k t g m tasks h m' tasks' rest (GuardStep.offered x n is) settles =
    ranged_rests g.place x n Use.Bin tt rest
steps_keep_rest k t g m tasks h m' tasks' rest (GuardStep.marks e x n taking guard is at fits) settles = rest
steps_keep_rest k t g m tasks h m' tasks' rest (GuardStep.readies e x n y taking at low high) settles = rest
steps_keep_rest k t g m tasks h m' tasks' rest (GuardStep.splits x a b is some more at used) settles =
    ranged_rests (put_range g.place x a (Place.Block x a (Use.Held t Taking.ForUse))) (x + a) b
    (Use.Held t Taking.ForUse) refl (ranged_rests g.place x a (Use.Held t Taking.ForUse) refl rest)
steps_keep_rest k t g m tasks h m' tasks' rest (GuardStep.merges x a b is one two) settles =
    absurd (rest.hands x a t one)
steps_keep_rest k t g m tasks h m' tasks' rest (GuardStep.reuses x n was now is own own' at fits) settles =
    ranged_rests g.place x n now settles rest
steps_keep_rest k t g m tasks h m' tasks' rest GuardStep.drains settles = drained_rests g.place t rest
steps_keep_rest k t g m tasks h m' tasks' rest (GuardStep.walls e y low none) settles = rest
steps_keep_rest k t g m tasks h m' tasks' rest (GuardStep.outlines e y low none) settles = rest
steps_keep_rest k t g m tasks h m' tasks' rest (GuardStep.comes x n some fits outside used) settles =
    ranged_rests g.place x n (Use.Held t Taking.ForUse) refl rest
steps_keep_rest k t g m tasks h m' tasks' rest (GuardStep.leaves x n taking is at) settles =
    out_rests g.place x n rest
steps_keep_rest k t g m tasks h m' tasks' rest (GuardStep.others action other) settles = rest

pub runs_keep_rest : RunsKeepRest
runs_keep_rest k g m tasks h m' tasks' rest starts = rest
runs_keep_rest k g m tasks h m' tasks' rest (steps run seat step settles) =
    steps_keep_rest k seat _ _ _ h m' tasks' (runs_keep_rest k g m tasks _ _ _ rest run) step settles

pub scans_keep_rest : ScansKeepRest
scans_keep_rest t ScanStep.Peek f g rest = rest
scans_keep_rest t ScanStep.Lock f g rest = rest
scans_keep_rest t ScanStep.Head f g rest = rest
scans_keep_rest t (ScanStep.Length first) f g rest = rest
scans_keep_rest t (ScanStep.Win b at) f g rest = won_rests g t (win_of b) (win_learn (win_of b) at f) refl rest
scans_keep_rest t (ScanStep.Next first) f g rest = rest
scans_keep_rest t (ScanStep.Out b at) f g rest = rest
scans_keep_rest t (ScanStep.Unlock took) f g rest = rest
