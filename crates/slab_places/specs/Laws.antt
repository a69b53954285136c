-- The laws of where slabs and large objects lie.
use Rattle.std.specs.Prelude.{◌≡◌, ℕ, true, false}
use Rattle.pool_types.specs.declared.values.Request.{Request}
use Rattle.pool_words.specs.declared.actions.Seen.{Seen}
use Rattle.pool_words.specs.declared.words.Key.{Key}
use Rattle.call_laws.specs.Calls.{is_reset_at}
use Rattle.step_local.specs.declared.frames.Local.{Local}
use Rattle.step_local.specs.Course.{course}
use Rattle.step_local.specs.Frames.{made}
use Rattle.step_local.specs.Getting.{begun}
use Rattle.step_local.specs.Learn.{learn}
use Rattle.step_runs.specs.Places.{has_word}
use Rattle.pool_laws.specs.Wholes.{Whole, WholeGood}
use Rattle.seat_ties.specs.Ties.{SeatTied}
use Rattle.seat_ties.specs.Turns.{IsNoReset, StateHere, next_in}
use Rattle.slab_moves.specs.Says.{SlabSays}

abbrev pub FreshSlabsLie : Type 0
FreshSlabsLie = (k : Key) (seat : ℕ) → SlabSays (made k seat)

-- a step on a word, that leads to a good whole where the next position is there
abbrev pub TurnsKeepSlabs : Type 0
TurnsKeepSlabs = (k : Key) (w later : Whole) (l : Local) → WholeGood k w → SeatTied k w l.seat l → IsNoReset l
    → is_reset_at l.at ≡ false → has_word (course l) ≡ true → WholeGood k later
    → StateHere k later l.seat (next_in w l) → SlabSays l → SlabSays (next_in w l)

abbrev pub BeginsKeepSlabs : Type 0
BeginsKeepSlabs = (k : Key) (w : Whole) (l : Local) (request : Request) → WholeGood k w
    → StateHere k w l.seat (begun l request).0 → SlabSays l → SlabSays (begun l request).0

-- a turn without a step on a word: an answer, or one at the office
abbrev pub SilenceKeepsSlabs : Type 0
SilenceKeepsSlabs = (l : Local) (s : Seen) → has_word (course l) ≡ false → SlabSays l → SlabSays (learn l s).0
