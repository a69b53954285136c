-- The laws of what is still to be begun.
use Rattle.std.specs.Prelude.{◌≡◌, ◌⊎◌}
use Rattle.pool_types.specs.declared.values.Answer.{Answer}
use Rattle.pool_types.specs.declared.values.Request.{Request}
use Rattle.pool_words.specs.declared.actions.Seen.{Seen}
use Rattle.pool_words.specs.declared.words.Key.{Key}
use Rattle.step_local.specs.declared.frames.At.{At}
use Rattle.step_local.specs.declared.frames.Local.{Local}
use Rattle.step_local.specs.Getting.{begun}
use Rattle.step_local.specs.Learn.{learn}
use Rattle.pool_laws.specs.Wholes.{Whole, WholeGood}
use Rattle.seat_ties.specs.Ties.{SeatTied}
use Rattle.seat_ties.specs.Turns.{IsNoReset, StateHere}
use Rattle.seat_starts.specs.Says.{SlabIsNone, StartSays}
use Rattle.seat_starts.specs.Started.{Started}

-- where all that a position says is there but for what starts, its seat's own steps lead to where all of it is
abbrev pub StartsTie : Type 0
StartsTie = (k : Key) (w : Whole) (l : Local) → WholeGood k w → StateHere k w l.seat l → IsNoReset l → StartSays l
    → SlabIsNone w l → Started k w l

-- where a call begins its first position is there; one that is refused changes nothing
abbrev pub IsHereOrSame : Key → Whole → Local → Local → Type 0
IsHereOrSame k w l next = StateHere k w l.seat next ⊎ (next ≡ l)

abbrev pub BeginsAreHere : Type 0
BeginsAreHere = (k : Key) (w : Whole) (l : Local) (request : Request) → SeatTied k w l.seat l
    → IsHereOrSame k w l (begun l request).0

-- and where it is answered, that it is idle
abbrev pub AnswersAreHere : Type 0
AnswersAreHere = (k : Key) (w : Whole) (l : Local) (answer : Answer) → SeatTied k w l.seat l → l.at ≡ At.Ready answer
    → StateHere k w l.seat (learn l Seen.Done).0
