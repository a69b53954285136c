-- The pieces that many lines of a report have in common.
use Rattle.std.specs.Prelude.{ℕ, List, [], ◌++◌, codes, slice_index_or}
use Rattle.std.specs.Fmt.{decimal}
use Rattle.pool_types.specs.declared.values.Place.{Place}
use Rattle.pool_types.specs.declared.values.Grant.{Grant}
use Rattle.pool_types.specs.Texts.{place_text}

-- the name of a seat's thread; a seat that has none has an empty name
abbrev pub name_of : List (List ℕ) → ℕ → List ℕ
name_of names seat = slice_index_or names seat []

-- a grant, as A#1
abbrev pub grant_text : List (List ℕ) → Grant → List ℕ
grant_text names grant = name_of names grant.seat ++ (codes "#" ++ decimal grant.number)

-- an object: its place, its usable bytes and its grant
unfoldable pub object_text : List (List ℕ) → Place → ℕ → Grant → List ℕ
object_text names place usable grant = place_text place
    ++ (codes " " ++ (decimal usable ++ (codes " " ++ grant_text names grant)))
