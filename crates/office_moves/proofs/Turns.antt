-- Each turn at the office on a word is steps of the whole.
use Rattle.std.proofs.Common.{◌≡◌, ℕ, true, sym, ap, subst}
use Rattle.std.specs.Prelude.{Option, Some, None}
use Rattle.pool_words.specs.declared.words.Key.{Key}
use Rattle.region_steps.specs.declared.office.OfficeAt.{OfficeAt}
use Rattle.step_local.specs.declared.frames.At.{At}
use Rattle.step_local.specs.declared.frames.Local.{Local}
use Rattle.step_local.specs.declared.frames.OfficeFor.{OfficeFor}
use Rattle.step_local.specs.Course.{course}
use Rattle.step_runs.specs.Places.{has_word}
use Rattle.pool_laws.specs.Wholes.{Whole, WholeGood}
use Rattle.seat_ties.specs.Left.{Suits}
use Rattle.seat_ties.specs.Ties.{SeatTied}
use Rattle.seat_ties.specs.Turns.{StepLeaves, seen_in}
use Rattle.office_moves.specs.Laws.{OfficeTurnsAreSteps}
use Rattle.office_moves.proofs.Settings.{at_office}
use Rattle.office_moves.proofs.Plain.{locks, looks}
use Rattle.office_moves.proofs.Came.{bases_on, enters_on, outlines_on, walls_in_on, walls_off_on}
use Rattle.office_moves.proofs.Settles.{settles_on}
use Rattle.office_moves.proofs.Gives.{GivesFirst, drains_give, puts_give}
use Rattle.office_moves.proofs.Removed.{removes_none_on, removes_on, asks_none}
use Rattle.office_moves.proofs.Ends.{asked_ends, drain_ends, drain_goes, put_ends}

abbrev LeavesAt : Key → Whole → Local → Type 0
LeavesAt k w l = SeatTied k w l.seat l → has_word (course l) ≡ true → Suits k l (seen_in w l) → StepLeaves k w l

removed : (k : Key) (w : Whole) (l : Local) (job : OfficeFor) (first : ℕ) → WholeGood k w → GivesFirst job first
    → (given : Option ℕ) → LeavesAt k w (at_office l job (OfficeAt.Remove given))
removed k w l job first good gives None tied word suits = removes_none_on k w l job first gives good tied suits
removed k w l job first good gives (Some slot) tied word suits =
    removes_on k w l job first slot gives good tied suits

asked : (k : Key) (w : Whole) (l : Local) → WholeGood k w → (at : OfficeAt)
    → LeavesAt k w (at_office l OfficeFor.Ask at)
asked k w l good OfficeAt.Lock tied word suits = locks k w l OfficeFor.Ask tied suits
asked k w l good (OfficeAt.Region slot given) tied word suits = looks k w l OfficeFor.Ask slot given tied suits
asked k w l good (OfficeAt.Take given) tied word suits = absurd (cc)
asked k w l good (OfficeAt.Base one) tied word suits = bases_on k w l one tied suits
asked k w l good (OfficeAt.Enter one) tied word suits = enters_on k w l one tied suits
asked k w l good (OfficeAt.WallSize one) tied word suits = walls_off_on k w l one tied suits
asked k w l good (OfficeAt.WallLeft one) tied word suits = walls_in_on k w l one tied suits
asked k w l good (OfficeAt.FirstSize one) tied word suits = outlines_on k w l one good tied suits
asked k w l good (OfficeAt.LastLeft one) tied word suits = settles_on k w l one good tied suits
asked k w l good (OfficeAt.Remove given) tied word suits = asks_none k w l good given tied suits
asked k w l good (OfficeAt.Back end) tied word suits = absurd (cc)
asked k w l good (OfficeAt.Unlock end) tied word suits = asked_ends k w l end tied suits

put : (k : Key) (w : Whole) (l : Local) (first : ℕ) → WholeGood k w → (at : OfficeAt)
    → LeavesAt k w (at_office l (OfficeFor.Put first) at)
put k w l first good OfficeAt.Lock tied word suits = locks k w l (OfficeFor.Put first) tied suits
put k w l first good (OfficeAt.Region slot given) tied word suits =
    looks k w l (OfficeFor.Put first) slot given tied suits
put k w l first good (OfficeAt.Remove given) tied word suits =
    removed k w l (OfficeFor.Put first) first good (puts_give first) given tied word suits
put k w l first good (OfficeAt.Take given) tied word suits = absurd (cc)
put k w l first good (OfficeAt.Back end) tied word suits = absurd (cc)
put k w l first good (OfficeAt.Unlock end) tied word suits = put_ends k w l first end tied suits
put k w l first good _ tied word suits = absurd tied.says.hands.1

drain : (k : Key) (w : Whole) (l : Local) (first : ℕ) (rest : Option ℕ) → WholeGood k w → (at : OfficeAt)
    → LeavesAt k w (at_office l (OfficeFor.Drain first rest) at)
drain k w l first rest good OfficeAt.Lock tied word suits = locks k w l (OfficeFor.Drain first rest) tied suits
drain k w l first rest good (OfficeAt.Region slot given) tied word suits =
    looks k w l (OfficeFor.Drain first rest) slot given tied suits
drain k w l first rest good (OfficeAt.Remove given) tied word suits =
    removed k w l (OfficeFor.Drain first rest) first good (drains_give first rest) given tied word suits
drain k w l first rest good (OfficeAt.Take given) tied word suits = absurd (cc)
drain k w l first rest good (OfficeAt.Back end) tied word suits = absurd (cc)
drain k w l first None good (OfficeAt.Unlock end) tied word suits = drain_ends k w l first end tied suits
drain k w l first (Some next) good (OfficeAt.Unlock end) tied word suits = drain_goes k w l first next end tied suits
drain k w l first rest good _ tied word suits = absurd tied.says.hands.1

turn_at : (k : Key) (w : Whole) (l : Local) → WholeGood k w → (job : OfficeFor) (at : OfficeAt)
    → LeavesAt k w (at_office l job at)
turn_at k w l good OfficeFor.Ask at tied word suits = asked k w l good at tied word suits
turn_at k w l good (OfficeFor.Put first) at tied word suits = put k w l first good at tied word suits
turn_at k w l good (OfficeFor.Drain first rest) at tied word suits = drain k w l first rest good at tied word suits

pub office_turns_are_steps : OfficeTurnsAreSteps
office_turns_are_steps k w l good tied plain word suits there =
    let same : at_office l there.0 there.1 ≡ l = ap (λ (a : At). record l { at = a }) (sym there.2) in
    subst (LeavesAt k w) same (turn_at k w l good there.0 there.1) tied word suits
