-- A turn that leads to a position at which its call's stage comes, and that forgets notes at most.
use Rattle.std.proofs.Common.{◌≡◌, Bool, true, false, cond, refl}
use Rattle.std.specs.Prelude.{List, [], ◌∷◌}
use Rattle.pool_types.specs.declared.values.Turn.{Turn}
use Rattle.large_cache.specs.declared.sweep.Cleanup.{Cleanup}
use Rattle.object_laws.specs.Objects.{Note}
use Rattle.step_local.specs.declared.frames.Local.{Local}
use Rattle.step_local.specs.declared.frames.Stage.{Stage}
use Rattle.heap_tasks.specs.Notes.{IsTail, notes_of}
use Rattle.heap_tasks.specs.Stages.{IsEnding, IsGetting, IsLeaving, IsResetting, MayAdopt, MayEmpty, MayFetch}
use Rattle.heap_tasks.specs.Stages.{MaySweep, MayTick, StageFits}

abbrev pub Goes : Local → Local × Turn → Type 0
Goes l turn = StageFits turn.0 × IsTail (notes_of turn.0) (notes_of l)

pub either : (l : Local) (b : Bool) (x y : Local × Turn) → Goes l x → Goes l y → Goes l (cond b x y)
either l true x y one other = one
either l false x y one other = other

pub none_left : (ns : List Note) → IsTail [] ns
none_left [] = IsTail.all
none_left (n ∷ ns) = IsTail.behind (none_left ns)

pub tails : {ms ns os : List Note} → IsTail ms ns → IsTail ns os → IsTail ms os
tails one IsTail.all = one
tails one (IsTail.behind other) = IsTail.behind (tails one other)

-- the stages at which something comes are among those at which something else may
pub is_getting : (stage : Stage) → IsGetting stage → stage ≡ Stage.Getting
is_getting Stage.Getting is = refl
is_getting _ is = absurd is

pub getting_ticks : (stage : Stage) → IsGetting stage → MayTick stage
getting_ticks Stage.Getting is = tt
getting_ticks _ is = absurd is

pub getting_empties : (stage : Stage) → IsGetting stage → MayEmpty stage
getting_empties Stage.Getting is = tt
getting_empties _ is = absurd is

pub getting_fetches : (stage : Stage) → IsGetting stage → MayFetch stage
getting_fetches Stage.Getting is = tt
getting_fetches _ is = absurd is

pub getting_adopts : (stage : Stage) → IsGetting stage → MayAdopt stage
getting_adopts Stage.Getting is = tt
getting_adopts _ is = absurd is

pub getting_sweeps : (cleanup : Cleanup) (stage : Stage) → IsGetting stage → MaySweep cleanup stage
getting_sweeps Cleanup.Regular stage is = getting_ticks stage is
getting_sweeps Cleanup.Soft stage is = is
getting_sweeps Cleanup.Hard stage is = is

pub ending_ticks : (stage : Stage) → IsEnding stage → MayTick stage
ending_ticks Stage.Ending is = tt
ending_ticks Stage.Replacing is = tt
ending_ticks Stage.Undoing is = tt
ending_ticks _ is = absurd is

pub ending_empties : (stage : Stage) → IsEnding stage → MayEmpty stage
ending_empties Stage.Ending is = tt
ending_empties Stage.Replacing is = tt
ending_empties Stage.Undoing is = tt
ending_empties _ is = absurd is

pub leaving_empties : (stage : Stage) → IsLeaving stage → MayEmpty stage
leaving_empties Stage.Leaving is = tt
leaving_empties _ is = absurd is

pub leaving_fetches : (stage : Stage) → IsLeaving stage → MayFetch stage
leaving_fetches Stage.Leaving is = tt
leaving_fetches _ is = absurd is

pub resetting_empties : (stage : Stage) → IsResetting stage → MayEmpty stage
resetting_empties (Stage.Resetting on) is = tt
resetting_empties _ is = absurd is

pub resetting_fetches : (stage : Stage) → IsResetting stage → MayFetch stage
resetting_fetches (Stage.Resetting on) is = tt
resetting_fetches _ is = absurd is

pub resetting_adopts : (stage : Stage) → IsResetting stage → MayAdopt stage
resetting_adopts (Stage.Resetting on) is = tt
resetting_adopts _ is = absurd is

pub adopting_fetches : (stage : Stage) → MayAdopt stage → MayFetch stage
adopting_fetches Stage.Getting is = tt
adopting_fetches (Stage.Resetting on) is = tt
adopting_fetches _ is = absurd is
