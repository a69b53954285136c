-- The laws of slabs that are about to begin.
use Rattle.std.specs.Prelude.{◌≡◌, ℕ}
use Rattle.pool_words.specs.declared.words.Key.{Key}
use Rattle.guards.specs.declared.win.Taking.{Taking}
use Rattle.guard_laws.specs.Blocks.{Place, Use}
use Rattle.step_local.specs.declared.frames.Local.{Local}
use Rattle.pool_laws.specs.Named.{fresh_whole}
use Rattle.pool_laws.specs.Steps.{WholeStep}
use Rattle.pool_laws.specs.Wholes.{Whole, WholeGood}
use Rattle.seat_ties.specs.Ties.{SeatTied}
use Rattle.seat_ties.specs.Turns.{StateHere}
use Rattle.seat_starts.specs.Says.{SlabIsNone}
use Rattle.begun_laws.specs.Begun.{BegunFit, Names}

abbrev pub FreshBegunFits : Type 0
FreshBegunFits = (k : Key) → BegunFit (fresh_whole k)

abbrev pub StepsKeepBegun : Type 0
StepsKeepBegun = (k : Key) (seat : ℕ) (w later : Whole) → WholeGood k w → WholeStep k seat w later → BegunFit w
    → BegunFit later

-- a block is in a seat's hand for its use
abbrev pub IsHeld : (ℕ → Place) → ℕ → ℕ → Type 0
IsHeld place seat first = (n : ℕ) × (place first ≡ Place.Block first n (Use.Held seat Taking.ForUse))

-- a slab that a tied seat is about to begin is in its hand
abbrev pub TiedSeatsHold : Type 0
TiedSeatsHold = (k : Key) (w : Whole) (t e : ℕ) (l : Local) → SeatTied k w t l → Names (w.mails t) e
    → IsHeld w.pool.blocks.place t e

-- so one that a seat is to begin next, while each other seat holds those that it begins, has no mail
abbrev pub NewSlabsAreNone : Type 0
NewSlabsAreNone = (k : Key) (w : Whole) (l : Local) → WholeGood k w → BegunFit w → StateHere k w l.seat l
    → ((t e : ℕ) → (t ≡ l.seat → ⊥) → Names (w.mails t) e → IsHeld w.pool.blocks.place t e) → SlabIsNone w l
