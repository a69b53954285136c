-- What always holds of a quiet pool: its table, and the place that knows all.
use Rattle.std.specs.Prelude.{◌≡◌, ℕ, ◌<◌, Bool, List, [], ◌∷◌, map, Option, None}
use mathlib.Core.Option.{some}
use lib.ListN.{get_elem?}
use Rattle.pool_types.specs.declared.raw.Raw.{Ghosts}
use Rattle.pool_types.specs.declared.values.Region.{Region}
use Rattle.pool_words.specs.declared.words.Key.{Key}
use Rattle.regions.specs.Offices.{Desk}
use Rattle.step_local.specs.declared.frames.Local.{Local}
use Rattle.atomic_table.specs.Seated.{TableId}
use Rattle.atomic_table.specs.Table.{Me}
use Rattle.atomic_driver.specs.declared.rule.Plan.{Plan}
use Rattle.atomic_driver.specs.declared.rule.View.{View}
use Rattle.atomic_driver.specs.declared.seat.DriverSeat.{DriverSeat}
use Rattle.atomic_driver.specs.Rule.{key_by, IsTable}
use Rattle.quiet_pool.specs.Noting.{noted}
use Rattle.quiet_pool.specs.Quiet.{Quiet, IsState, AreIdle, words_noted}

-- the locals of heaps
abbrev pub locals_of : {R : Type 0} {raw : Ghosts R} → List (DriverSeat R raw) → List Local
locals_of heaps = map (λ x. x.local) heaps

-- the pool whose place knows this
abbrev pub quiet_of : {R : Type 0} → Plan → Desk R → List Local → Me (Option (Desk R)) (View (Desk R)) → Quiet R
quiet_of plan desk locals me = record {
  plan = plan;
  words = words_noted me.0.note;
  desk = desk;
  locals = locals;
  entries = me.0.entries;
}

-- the place has the slot out, which is empty, and notes all words and the office
abbrev pub IsNoted : {R : Type 0} → Desk R → Me (Option (Desk R)) (View (Desk R)) → Type 0
IsNoted desk me = me ≡ (noted me.0.entries (words_noted me.0.note) desk, (0, None) ∷ [])

-- what heaps were made with
abbrev pub plans_of : {R : Type 0} {raw : Ghosts R} → List (DriverSeat R raw) → List Plan
plans_of heaps = map (λ x. x.plan) heaps

-- the heaps are of this pool
abbrev pub ArePlans : Plan → List Plan → Type 0
ArePlans plan plans = (i : ℕ) (one : Plan) → get_elem? plans i ≡ some one → one ≡ plan

module _ {R : Type 0} (out : R → List Region) (faults : R → ℕ) (got : R → ℕ → Option Region → R → Type 0)
    (passed : R → Region → Bool → R → Type 0) where
  pub record IsHeld {raw : Ghosts R} (table place : TableId) (about plan : Plan) (key : Key)
      (me : Me (Option (Desk R)) (View (Desk R))) (heaps : List (DriverSeat R raw)) (desk : Desk R) : Type 0 where
    pub same_plan : about ≡ plan
    pub key_is : key ≡ key_by plan
    pub some_ : 0 < (key_by plan).seats
    pub sizes : IsTable table (key_by plan)
    pub same_table : place ≡ table
    pub is_noted : IsNoted desk me
    pub plans : ArePlans plan (plans_of heaps)
    pub state : IsState out faults got passed (quiet_of plan desk (locals_of heaps) me)
    pub idle : AreIdle (locals_of heaps)
