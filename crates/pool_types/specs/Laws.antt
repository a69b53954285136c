-- The law of the rows.
use Rattle.std.specs.Prelude.{◌≢◌, ◌↔◌, Contains}
use Rattle.pool_types.specs.declared.rows.Row.{Row}
use Rattle.pool_types.specs.declared.rows.Row.TheVariants.{Nothing}
use Rattle.pool_types.specs.Rows.{all_rows}

-- the list has each row but that of no step
abbrev pub EachRowIsListed : Type 0
EachRowIsListed = (row : Row) → (row ≢ Nothing) ↔ Contains all_rows row
