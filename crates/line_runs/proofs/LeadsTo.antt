-- Turns that were made lead on to what the later ones come to.
use Rattle.std.proofs.Common.{◌≡◌, ℕ, suc, refl, Bool, true, false, subst, sym}
use Rattle.std.specs.Prelude.{Option, Some, None}
use Rattle.pool_types.specs.Script.{Script, Gets, Puts}
use Rattle.pool_types.specs.declared.values.Turn.{Turn}
use Rattle.run_report.specs.declared.book.Book.{Book}
use Rattle.run_report.specs.Moves.{entered}
use Rattle.step_core.specs.Machines.{Machine}
use Rattle.step_core.specs.Resets.{ResetTurns}
use Rattle.line_runs.specs.Turning.{out_of, faults_of, stop_of, TurnsTo, Onward, OneTurn, TurnsOn}
use Rattle.line_runs.specs.Resetting.{ResetOnward, OneResetTurn, ResetsOn}
use Rattle.line_runs.specs.declared.turns.Stop.{Stop}
use Rattle.line_runs.specs.declared.turns.Until.{Until}

-- what is left from here is what is left of all
pub record LeadsTo (turns : ℕ) (until : Until) (seat : ℕ) (first : Machine Script) (book : Book) (left : ℕ)
    (now : Machine Script) (so_far : Book) : Type 0 where
  pub leads : (stop : Stop) (new : Machine Script) (last : Book) →
      TurnsOn left until seat now so_far stop new last → TurnsOn turns until seat first book stop new last

pub begins : (turns : ℕ) (until : Until) (seat : ℕ) (m : Machine Script) (book : Book) →
    LeadsTo turns until seat m book turns m book
begins turns until seat m book = record { leads = λ stop new last h. h }

-- no turn is left
pub spent : (until : Until) (seat : ℕ) (m : Machine Script) (book : Book) → TurnsOn 0 until seat m book Stop.Spent m book
unfolding TurnsOn
spent until seat m book = (refl, refl, refl)

-- a turn, and what comes after it
pub one_turn : (left : ℕ) (until : Until) (seat : ℕ) (old middle : Machine Script) (book : Book) (turn : Turn) (stop : Stop)
    (new : Machine Script) (last : Book) → TurnsTo old seat turn middle →
    Onward (stop_of until turn middle.made) (TurnsOn left until seat) middle (entered book middle.entries) stop new last →
    TurnsOn (suc left) until seat old book stop new last
unfolding TurnsOn
one_turn left until seat old middle book turn stop new last turns onward =
    record { middle = middle; turn = turn; turns = turns; onward = onward }

-- a turn at which the line stops
pub stops_there : (left : ℕ) (until : Until) (seat : ℕ) (old middle : Machine Script) (book written : Book) (turn : Turn)
    (stop : Stop) → TurnsTo old seat turn middle → Some stop ≡ stop_of until turn middle.made →
    written ≡ entered book middle.entries → TurnsOn (suc left) until seat old book stop middle written
stops_there left until seat old middle book written turn stop turns why is =
    one_turn left until seat old middle book turn stop middle written turns
    (subst (λ (w : Option Stop). Onward w (TurnsOn left until seat) middle (entered book middle.entries) stop middle written)
    why (refl, refl, is))

-- a turn at which it does not
pub goes_on : (turns left : ℕ) (until : Until) (seat : ℕ) (first old middle : Machine Script) (start book written : Book)
    (turn : Turn) → TurnsTo old seat turn middle → None ≡ stop_of until turn middle.made →
    written ≡ entered book middle.entries → LeadsTo turns until seat first start (suc left) old book →
    LeadsTo turns until seat first start left middle written
goes_on turns left until seat first old middle start book written turn made why is way = record {
  leads = λ stop new last h. way.leads stop new last
      (one_turn left until seat old middle book turn stop new last made
      (subst (λ (w : Option Stop). Onward w (TurnsOn left until seat) middle (entered book middle.entries) stop new last)
      why (subst (λ (b : Book). TurnsOn left until seat middle b stop new last) is h)));
}

-- the same of a reset's turns
pub record ResetLeads (turns : ℕ) (first : Machine Script) (book : Book) (left : ℕ) (now : Machine Script) (so_far : Book)
    : Type 0 where
  pub leads : (new : Machine Script) (last : Book) → ResetsOn left now so_far new last → ResetsOn turns first book new last

one_reset_turn : (left : ℕ) (old middle : Machine Script) (book : Book) (done : Bool) (new : Machine Script) (last : Book) →
    ResetTurns out_of faults_of Gets Puts old done middle →
    ResetOnward done (ResetsOn left) middle (entered book middle.entries) new last → ResetsOn (suc left) old book new last
unfolding ResetsOn
one_reset_turn left old middle book done new last turns onward =
    record { middle = middle; done = done; turns = turns; onward = onward }

pub reset_ends : (left : ℕ) (old middle : Machine Script) (book written : Book) (done : Bool) →
    ResetTurns out_of faults_of Gets Puts old done middle → done ≡ true → written ≡ entered book middle.entries →
    ResetsOn (suc left) old book middle written
reset_ends left old middle book written done turns ends is =
    one_reset_turn left old middle book done middle written turns
    (subst (λ (b : Bool). ResetOnward b (ResetsOn left) middle (entered book middle.entries) middle written) (sym ends)
    (refl, is))

pub reset_goes_on : (turns left : ℕ) (first old middle : Machine Script) (start book written : Book) (done : Bool) →
    ResetTurns out_of faults_of Gets Puts old done middle → done ≡ false → written ≡ entered book middle.entries →
    ResetLeads turns first start (suc left) old book → ResetLeads turns first start left middle written
reset_goes_on turns left first old middle start book written done made more is way = record {
  leads = λ new last h. way.leads new last
      (one_reset_turn left old middle book done new last made
      (subst (λ (b : Bool). ResetOnward b (ResetsOn left) middle (entered book middle.entries) new last) (sym more)
      (subst (λ (b : Book). ResetsOn left middle b new last) is h)));
}
