-- What a machine shows, and the first one.
use Rattle.std.specs.Prelude.{ℕ, zero, suc, Bool, false, not, List, [], ◌∷◌, ◌++◌, Option, Some, None, slice_get, cond, ◌+◌, ◌%◌, ◌^◌}
use Rattle.pool_types.specs.declared.policy.Limits.{Limits}
use Rattle.pool_types.specs.declared.policy.Policy.{Policy}
use Rattle.pool_types.specs.declared.rows.Row.{Row}
use Rattle.pool_words.specs.declared.words.Key.{Key}
use Rattle.part_model.specs.declared.journal.Journaled.{Journaled}
use Rattle.part_model.specs.declared.totals.Totals.{Totals}
use Rattle.part_model.specs.Totals.{no_totals}
use Rattle.step_depot.specs.Steps.{Stock, key_of, first_stock}
use Rattle.step_local.specs.declared.frames.Local.{Local}
use Rattle.step_local.specs.Frames.{made}
use Rattle.step_local.specs.Getting.{is_idle}
use Rattle.step_core.specs.declared.resets.Resetting.{Resetting}

-- the words and the office, the locals by seat, the entries of the last turn, the bytes of each kind of holder, the
-- kind of the step that was made last, if one was, how many steps were made, and how far a reset has come, if one is
-- begun and not done
pub record Machine (R : Type 0) : Type 0 where
  pub stock : Stock R
  pub locals : List Local
  pub entries : List Journaled
  pub totals : Totals
  pub made : Option Row
  pub steps : ℕ
  pub resetting : Option Resetting

-- the locals of so many seats
abbrev pub made_locals : Key → ℕ → List Local
made_locals k zero = []
made_locals k (suc seats) = made_locals k seats ++ made k seats ∷ []

abbrev pub first_machine : {R : Type 0} → Policy → Limits → R → Machine R
first_machine policy limits raw = record {
  stock = first_stock policy limits raw;
  locals = made_locals (key_of policy limits) limits.seats;
  entries = [];
  totals = no_totals;
  made = None;
  steps = 0;
  resetting = None;
}

-- a call of the local is begun and has no answer yet
abbrev pub is_in_call : Local → Bool
is_in_call l = not (is_idle l.at)

abbrev pub is_in_call_of : Option Local → Bool
is_in_call_of None = false
is_in_call_of (Some l) = is_in_call l

abbrev pub is_in_call_at : List Local → ℕ → Bool
is_in_call_at locals seat = is_in_call_of (slice_get locals seat)

-- the lowest seat that is in a call, of those from this one on
abbrev pub lowest_from : ℕ → List Local → Option ℕ
lowest_from seat [] = None
lowest_from seat (l ∷ locals) = cond (is_in_call l) (Some (seat % 2 ^ 8)) (lowest_from (seat + 1) locals)

-- the lowest seat that is in a call
abbrev pub lowest_in_call : List Local → Option ℕ
lowest_in_call locals = lowest_from 0 locals

abbrev pub held_back_by : Option Resetting → List Local → Option ℕ
held_back_by None locals = lowest_in_call locals
held_back_by (Some part) locals = None

-- the lowest seat that is in a call, while no reset is begun that is not done
abbrev pub held_back : {R : Type 0} → Machine R → Option ℕ
held_back m = held_back_by m.resetting m.locals
