-- What stands before a line, and as the reader keeps it.
use Rattle.std.specs.Prelude.{ℕ, Bool, true, false, List, None}
use Rattle.std.specs.declared.option.Option.{Option}
use Rattle.std.specs.BTreeMap.{get}
use Rattle.std.specs.Ordering.{nat_cmp}
use Rattle.arrayvec.specs.ArrayVec.{ArrayVec}
use Rattle.pool_types.specs.Limits.{bound_name_bytes}
use Rattle.pool_types.specs.Texts.{names_of}
use Rattle.trace_reader.specs.Names.{is_name, name_key}
use Rattle.trace_reader.specs.declared.acts.PoolOption.{PoolOption}
use Rattle.trace_reader.specs.declared.context.Context as kept

-- The names of the threads, the options of the pools that were made, the number of each name that was bound, and how many were: the
-- names are numbered from 0 as they are bound.
pub record Context : Type 0 where
  pub names : List (List ℕ)
  pub pools : List (ArrayVec PoolOption)
  pub bound : List ℕ → Option ℕ
  pub count : ℕ

-- the number that is kept for a word, if it is a name's
abbrev pub number_kept : Bool → Option ℕ → Option ℕ
number_kept true number = number
number_kept false number = None

-- what the reader's context says: it finds a name by its key
abbrev pub context_of : kept.Context → Context
context_of context = record {
  names = names_of context.names.items;
  pools = context.pools.items;
  bound = λ word. number_kept (is_name 97 bound_name_bytes word) (get nat_cmp context.bound (name_key word));
  count = context.count;
}
