-- What a destroy answers.
use Rattle.std.specs.Prelude.{◌≡◌, ℕ, ◌+◌, Bool, true, false, List, [], ◌∷◌, ◌++◌, length, Option, Some, None, Result, Ok, Err}
use Rattle.pool_types.specs.Causes.{HasCauseOfFalse}
use Rattle.pool_types.specs.Regions.{Loses}
use Rattle.pool_types.specs.declared.endings.Destroyed.{Destroyed}
use Rattle.pool_types.specs.declared.policy.RegionRec.{RegionRec}
use Rattle.pool_types.specs.declared.values.Region.{Region}
use Rattle.regions.specs.Offices.{Desk}
use Rattle.step_core.specs.Machines.{Machine, held_back}

abbrev pub no_regions : Destroyed
no_regions = record {
  returned = record { items = [] };
  refused = record { items = [] };
  kept = record { items = [] };
}

abbrev pub all_kept : List RegionRec → Destroyed
all_kept records = record no_regions { kept = record { items = records } }

-- one region more, that the callback took back or failed to
abbrev pub with_passed : Destroyed → RegionRec → Bool → Destroyed
with_passed d one true = record d { returned = record { items = d.returned.items ++ one ∷ [] } }
with_passed d one false = record d { refused = record { items = d.refused.items ++ one ∷ [] } }

-- how many regions the callback was passed
abbrev pub count_of : Destroyed → ℕ
count_of d = length d.returned.items + length d.refused.items

module _ {R : Type 0} (out : R → List Region) (faults : R → ℕ) (passed : R → Region → Bool → R → Type 0) where
  -- the callback was passed a region
  pub record IsPassed (old : R) (region : Region) (answer : Bool) (new : R) : Type 0 where
    pub answered : passed old region answer new
    pub shrinks : Loses (out old) region (out new)
    pub cause : HasCauseOfFalse (faults old) (faults new) answer

  -- the first region that is out, if there is one
  abbrev pub Passes : List RegionRec → Desk R → Destroyed → Desk R → Destroyed → Type 0
  Passes [] old so_far new last = (new ≡ old) × (last ≡ so_far)
  Passes (one ∷ rest) old so_far new last =
      (answer : Bool) × IsPassed old.raw one.region answer new.raw ×
      (new ≡ record old { records = rest; raw = new.raw }) × (last ≡ with_passed so_far one answer)

  -- each region of these, one after another
  abbrev pub PassesAll : List RegionRec → Destroyed → R → Destroyed → R → Type 0
  PassesAll [] so_far old last new = (last ≡ so_far) × (new ≡ old)
  PassesAll (one ∷ rest) so_far old last new =
      (answer : Bool) × (next : R) × IsPassed old one.region answer next ×
      PassesAll rest (with_passed so_far one answer) next last new

  abbrev pub EndsBy : Bool → Desk R → Destroyed → R → Type 0
  EndsBy true old last new = PassesAll old.records no_regions old.raw last new
  EndsBy false old last new = (last ≡ all_kept old.records) × (new ≡ old.raw)

  abbrev pub DestroysBy : Option ℕ → Machine R → Result (Destroyed × R) (Machine R) → Type 0
  DestroysBy None old (Ok ended) = EndsBy old.stock.key.frees old.stock.desk ended.0 ended.1
  DestroysBy None old (Err back) = ⊥
  DestroysBy (Some seat) old (Ok ended) = ⊥
  DestroysBy (Some seat) old (Err back) = back ≡ old

  -- the end, or the machine back where a seat is in a call
  abbrev pub Destroys : Machine R → Result (Destroyed × R) (Machine R) → Type 0
  Destroys old result = DestroysBy (held_back old) old result
