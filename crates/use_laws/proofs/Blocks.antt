-- A block in hand comes to rest, and one at rest into a hand.
use Rattle.std.proofs.Common.{◌≡◌, ℕ, refl, sym, subst}
use Rattle.pool_words.specs.declared.words.Key.{Key}
use Rattle.pool_words.specs.declared.actions.Action.{Action}
use Rattle.word_codes.specs.declared.guards.Guard.{Guard}
use Rattle.word_codes.specs.Guards.{guard_of}
use Rattle.guards.specs.declared.win.Side.{Side}
use Rattle.guards.specs.declared.win.Taking.{Taking}
use Rattle.word_laws.specs.Memory.{Mem, after}
use Rattle.guard_laws.specs.Blocks.{Use, Place, Standing, at_edge, edge_of, Task, Shadow, core_in, view_of, GuardFits}
use Rattle.guard_laws.specs.Blocks.{IsShut, rest_of, GuardGood}
use Rattle.guard_laws.specs.Steps.{guard_in, GuardStep, IsOtherAction}
use Rattle.guard_laws.proofs.CallerLemmas.{quiet_stands, away_piece, steps_keep_guards}
use Rattle.use_laws.specs.After.{at_rest, in_hand}

pub rests_so : (k : Key) (seat x n : ℕ) (g : Shadow) (m : Mem) (tasks : ℕ → Task) → GuardGood k g (core_in m tasks)
    → tasks seat ≡ Task.Away → g.place x ≡ Place.Block x n (Use.Held seat Taking.ForUse)
    → GuardGood k (at_rest x n g) (core_in m tasks)
rests_so k t x n g m tasks good away at = steps_keep_guards k t g m tasks (at_rest x n g) m tasks good
    (GuardStep.reuses x n (Use.Held t Taking.ForUse) Use.Elsewhere away refl tt at (λ e. says e))
  where
    says : (e : Side) → GuardFits Standing.Resting (guard_in m e (edge_of e x n))
    says e = subst (λ s. GuardFits s (guard_of (at_edge (core_in m tasks).words e (edge_of e x n))))
        (quiet_stands k.span (view_of g (core_in m tasks)) x n (Use.Held t Taking.ForUse) e at
        (away_piece tasks t x n away) good.parts)
        (good.parts.words_fit e (edge_of e x n))

used_fits : (taking : Taking) (guard : Guard) → guard ≡ Guard.Used → GuardFits (rest_of taking) guard
used_fits Taking.ForUse guard is = is
used_fits Taking.ToJoin guard is = subst IsShut (sym is) tt

pub held_so : (k : Key) (seat x n : ℕ) (taking : Taking) (g : Shadow) (m : Mem) (tasks : ℕ → Task)
    → GuardGood k g (core_in m tasks) → tasks seat ≡ Task.Away → g.place x ≡ Place.Block x n Use.Elsewhere
    → GuardGood k (in_hand seat taking x n g) (core_in m tasks)
held_so k t x n taking g m tasks good away at = steps_keep_guards k t g m tasks (in_hand t taking x n g) m tasks good
    (GuardStep.reuses x n Use.Elsewhere (Use.Held t taking) away tt refl at
    (λ e. used_fits taking (guard_in m e (edge_of e x n)) (says e)))
  where
    says : (e : Side) → guard_in m e (edge_of e x n) ≡ Guard.Used
    says e = subst (λ s. GuardFits s (guard_of (at_edge (core_in m tasks).words e (edge_of e x n))))
        (quiet_stands k.span (view_of g (core_in m tasks)) x n Use.Elsewhere e at tt good.parts)
        (good.parts.words_fit e (edge_of e x n))

-- a word that is no guard
pub guards_same : (k : Key) (g : Shadow) (m : Mem) (tasks : ℕ → Task) (action : Action) → IsOtherAction action
    → GuardGood k g (core_in m tasks) → GuardGood k g (core_in (after k m action) tasks)
guards_same k g m tasks action other good =
    steps_keep_guards k 0 g m tasks g (after k m action) tasks good (GuardStep.others action other)
