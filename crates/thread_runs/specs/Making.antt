-- The pools of a trace before its threads run: their tables, and what is left of each.
use Rattle.std.specs.Prelude.{ℕ, List, Option, Some, None, slice_get}
use Rattle.atomic_driver.specs.declared.rule.Plan.{Plan}
use Rattle.pool_api.specs.declared.tables.Rest.{Rest}
use Rattle.pool_api.specs.Tables.{Stand, IsRest}

-- what the pool of a table was made with
abbrev pub stand_plan : Option Stand → Option Plan
stand_plan None = None
stand_plan (Some s) = Some s.plan

module _ {R : Type 0} where
  -- the rest is that of the table's pool, where it was made
  abbrev pub RestIn : Option Stand → Option (Rest R) → Type 0
  RestIn None None = Unit {0}
  RestIn None (Some rest) = ⊥
  RestIn (Some s) None = ⊥
  RestIn (Some s) (Some rest) = IsRest s rest

  abbrev pub RestAt : Option (Option Stand) → Option (Option (Rest R)) → Type 0
  RestAt None None = Unit {0}
  RestAt None (Some other) = ⊥
  RestAt (Some slot) None = ⊥
  RestAt (Some slot) (Some other) = RestIn slot other

  -- each table has its rest
  abbrev pub HasRests : List (Option Stand) → List (Option (Rest R)) → Type 0
  HasRests tables rests = (pool : ℕ) → RestAt (slice_get tables pool) (slice_get rests pool)
