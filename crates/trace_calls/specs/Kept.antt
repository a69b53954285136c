-- What the names stand for of which something is kept.
use Rattle.std.specs.Prelude.{ℕ, slice_index_or, None}
use Rattle.std.specs.declared.option.Option.{Option}
use Rattle.pool_types.specs.declared.values.Place.{Place}
use Rattle.trace_calls.specs.declared.places.Places.{Places}
use Rattle.trace_calls.specs.Names.{Names}

-- what the names stand for of which these are kept, by their numbers; a name of which nothing is kept stands for null
abbrev pub names_kept : Places → Names
names_kept places = λ name. slice_index_or places.kept.items name None
