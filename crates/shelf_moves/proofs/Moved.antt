-- Each turn at the cache is a step of the whole.
use Rattle.pool_words.specs.declared.words.Key.{Key}
use Rattle.step_local.specs.declared.frames.At.{At}
use Rattle.step_local.specs.declared.frames.Local.{Local}
use Rattle.cache_tasks.specs.Shelves.{HasJobAt}
use Rattle.pool_laws.specs.Wholes.{Whole}
use Rattle.seat_ties.specs.Turns.{StepLeaves}
use Rattle.shelf_moves.specs.Laws.{ShelfTurnsAreSteps}
use Rattle.shelf_moves.specs.Positions.{IsShelfAt}
use Rattle.shelf_moves.proofs.Got.{got, undone}
use Rattle.shelf_moves.proofs.Jobs.{Turn}
use Rattle.shelf_moves.proofs.Kept.{kept}
use Rattle.shelf_moves.proofs.Swept.{swept}

turned_at : (k : Key) (w : Whole) (l : Local) (at : At) → HasJobAt at → Turn k w (record l { at = at })
    → StepLeaves k w (record l { at = at })
turned_at k w l (At.Get at) job t = got k w l at t
turned_at k w l (At.Undo cause at) job t = undone k w l cause at t
turned_at k w l (At.Keep at) job t = kept k w l at t
turned_at k w l (At.Sweep at) job t = swept k w l at t
turned_at k w l _ job t = absurd job

has_job : (at : At) → IsShelfAt at → HasJobAt at
has_job (At.Get at) is = tt
has_job (At.Undo cause at) is = tt
has_job (At.Keep at) is = tt
has_job (At.Sweep at) is = tt
has_job _ is = absurd is

pub shelf_turns_are_steps : ShelfTurnsAreSteps
shelf_turns_are_steps k w l good tied plain word suits is =
    let job : HasJobAt l.at = has_job l.at is in
    turned_at k w l l.at job (record { good = good; tied = tied; word = word; suits = suits; job = job })
