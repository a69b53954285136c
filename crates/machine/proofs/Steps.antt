-- Laws of one step.
use Rattle.std.proofs.Common.{◌≡◌, ℕ, List, [], ◌∷◌, zero, suc, Some, true, false, refl, ◌∙◌, ap, arith, subst}
use Rattle.std.specs.Prelude.{Contains, ◌==◌}
use Rattle.std.proofs.lemmas.Bool.{and_parts}
use Rattle.std.specs.declared.option.Option.{Option}
use Rattle.pool_types.specs.declared.values.Grant.{Grant}
use Rattle.part_model.specs.declared.holders.Holder.{Holder}
use Rattle.part_model.specs.declared.holders.Holder.TheVariants.{Rest, Private, Object, Hand}
use Rattle.part_model.specs.declared.moves.Part.{Part}
use Rattle.part_model.specs.Lawful.{is_lawful_pair}
use Rattle.part_model.specs.Holding.{Holding, CanMove, CanMoveAll}
use Rattle.part_model.proofs.CallerLemmas.{moves_keep_one_holder, apart_moves_commute, totals_follow_moves}
use Rattle.machine.specs.Lawful.{next_grant}
use Rattle.machine.specs.Laws.{StepsKeepOneHolder, ApartStepsCommute, TotalsFollowSteps, GrantsAreFresh, is_grantable}
use Rattle.machine.proofs.Shapes.{next_object, each-contains, IsNextObject}

-- a step keeps exactly one holder a byte
pub steps_keep_one_holder : StepsKeepOneHolder
steps_keep_one_holder terms progress turn may byte = moves_keep_one_holder turn.seat progress.state.held turn.parts may.apart may.there byte

-- steps over ranges that are apart commute
pub apart_steps_commute : ApartStepsCommute
apart_steps_commute terms progress one other may may_other apart =
    let both = apart_moves_commute progress.state.held one.parts other.parts apart in
    record {
      first = (both.first one.seat).0 may.there;
      second = (both.second other.seat).0 may_other.there;
      same = both.same;
    }

-- the totals follow a step
pub totals_follow_steps : TotalsFollowSteps
totals_follow_steps terms progress turn may placed =
    totals_follow_moves turn.seat progress.state.held turn.parts may.apart may.whole placed may.there

-- what goes to an object is grantable
pub pair_is_grantable : (seat : ℕ) (from : Option Holder) (grant : Grant) → is_lawful_pair seat from (Some (Object grant)) ≡ true → is_grantable seat from ≡ true
pair_is_grantable seat (Some Rest) grant lawful = refl
pair_is_grantable seat (Some Private) grant lawful = refl
pair_is_grantable seat (Some (Hand hand)) grant lawful = (and_parts (hand == seat) (grant.seat == seat) lawful).0
pair_is_grantable seat holder grant lawful = absurd (let e : false ≡ true = lawful in cc)

-- each part of a move can be made
pub can_move-one : (seat : ℕ) (held : Holding) (parts : List Part) → CanMoveAll seat held parts → (part : Part) → Contains parts part → CanMove seat held part
can_move-one seat held [] can part (k, below, is) = absurd (omega (arith, below))
can_move-one seat held (first ∷ parts) (one, rest) part (zero, below, is) = subst (λ p. CanMove seat held p) is one
can_move-one seat held (first ∷ parts) (one, rest) part (suc k, below, is) = can_move-one seat held parts rest part (k, omega (arith, below), is)

-- an object that is granted was no object's
pub grants_are_fresh : GrantsAreFresh
grants_are_fresh terms progress turn may part inside object =
    let next = each-contains (IsNextObject progress.state turn.seat) turn.parts
    (next_object terms progress.state turn.seat turn.parts turn.book turn.region may.lawful) part inside object in
    let can = can_move-one turn.seat progress.state.held turn.parts may.there part inside in
    let lawful : is_lawful_pair turn.seat part.from (Some (Object (next_grant progress.state turn.seat))) ≡ true =
    subst (λ to. is_lawful_pair turn.seat part.from to ≡ true) next can.lawful in
    record {
      fresh = λ byte within. ap (is_grantable turn.seat) (can.there byte within) ∙ pair_is_grantable turn.seat part.from (next_grant progress.state turn.seat) lawful;
      grant = next;
    }
