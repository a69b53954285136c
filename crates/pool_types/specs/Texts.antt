-- The texts that traces and reports have in common: names of threads, and places.
use Rattle.std.specs.Prelude.{ℕ, List, ◌++◌, map, codes}
use Rattle.std.specs.Fmt.{decimal}
use Rattle.pool_types.specs.declared.values.Place.{Place}
use Rattle.pool_types.specs.declared.texts.ThreadName.{ThreadName}

-- the bytes of a thread's name
abbrev pub name_bytes : ThreadName → List ℕ
name_bytes name = name.bytes.items

-- the names of threads, as bytes
abbrev pub names_of : List ThreadName → List (List ℕ)
names_of names = map name_bytes names

-- a place, as P0.R0+128
abbrev pub place_text : Place → List ℕ
place_text place =
    codes "P" ++ (decimal place.pool ++ (codes ".R" ++ (decimal place.region ++ (codes "+" ++ decimal place.offset))))
