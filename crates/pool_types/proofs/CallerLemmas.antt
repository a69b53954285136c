-- What callers cite: writes one after another, and the rows by their names.
use Rattle.std.proofs.Common.{◌≡◌, ◌≢◌, ℕ, ◌+◌, ◌-◌, Bool, true, false, List, [], ◌++◌, length, take, drop, Some, None}
use Rattle.std.proofs.Common.{refl, sym, ap, ◌∙◌, append_assoc, arith}
use Rattle.std.specs.Prelude.{Contains, Option, not}
use Rattle.std.specs.List.{find, position_or_len}
use Rattle.std.specs.Str.{bytes_eq}
use Rattle.std.specs.Io.KnownBytes.{Appends}
use Rattle.std.proofs.lemmas.Option.{same_Some}
use Rattle.std.proofs.lemmas.List.{take_all, length-drop, length-append}
use Rattle.std.proofs.lemmas.List.Folds.{list_all_at}
use Rattle.std.proofs.Math.Seq.{take-add, take-append-add}
use Rattle.pool_types.specs.declared.rows.Row.{Row}
use Rattle.pool_types.specs.declared.rows.Row.TheVariants.{Nothing}
use Rattle.pool_types.specs.Laws.{EachRowIsListed}
use Rattle.pool_types.specs.Rows.{all_rows, row_name}
use Rattle.pool_types.specs.Transfers.{IsWrittenPart}

-- a write after another
pub Appends-then : (a b c : Option (List ℕ)) (xs ys : List ℕ) → Appends a b xs → Appends b c ys → Appends a c (xs ++ ys)
Appends-then None b c xs ys first second = tt
Appends-then (Some p) None c xs ys first second = absurd first
Appends-then (Some p) (Some q) None xs ys first second = absurd second
Appends-then (Some p) (Some q) (Some r) xs ys first second = rw (second, first) (append_assoc p xs ys)

-- a write of the front of what is left of a text goes on
pub writes_on : (a b c : Option (List ℕ)) (xs : List ℕ) (at count : ℕ) → Appends a b (take at xs) →
    Appends b c (take count (take (length xs - at) (drop at xs))) → Appends a c (take (at + count) xs)
writes_on a b c xs at count before now =
    let rest : take (length xs - at) (drop at xs) ≡ drop at xs =
    take_all (length xs - at) (drop at xs) (omega (arith, length-drop at xs)) in
    let piece : Appends b c (take count (drop at xs)) = (rw rest at now) in
    rw (take-add at count xs) (Appends-then a b c (take at xs) (take count (drop at xs)) before piece)

-- the first text, and a front of the second
pub IsWrittenPart-second : (a b c : Option (List ℕ)) (xs ys : List ℕ) → Appends a b xs → IsWrittenPart b c ys →
    IsWrittenPart a c (xs ++ ys)
IsWrittenPart-second a b c xs ys first (count, within, written) = (
  length xs + count,
  omega (arith, within, length-append xs ys),
  rw (take-append-add xs ys count) (Appends-then a b c xs (take count ys) first written),
)

-- each row that names a step is one of the list
row-listed : (row : Row) → row ≢ Nothing → Contains all_rows row
row-listed Nothing named = absurd (named refl)
row-listed row named =
    (position_or_len (λ other. bytes_eq (row_name other) (row_name row)) all_rows, omega arith, refl)

-- and no other is
is_named : Row → Bool
is_named row = not (bytes_eq (row_name row) [])

listed-named : (row : Row) → Contains all_rows row → row ≢ Nothing
unfolding is_named
listed-named row (k, below, there) same =
    let clash : true ≡ false = list_all_at is_named all_rows k row below (ap is_named (there ∙ same)) in cc

pub each_row_is_listed : EachRowIsListed
each_row_is_listed row = (row-listed row, listed-named row)

-- a row is the first of the list that has its name
row_found : (row : Row) → row ≢ Nothing → find (λ other. bytes_eq (row_name other) (row_name row)) all_rows ≡ Some row
row_found Nothing named = absurd (named refl)
row_found row named = refl

-- so its name is its own
pub row_name-own : (one other : Row) → one ≢ Nothing → other ≢ Nothing → row_name one ≡ row_name other → one ≡ other
row_name-own one other first second same = same_Some one other (
    sym (row_found one first)
    ∙ ap (λ (name : List ℕ). find (λ row. bytes_eq (row_name row) name) all_rows) same
    ∙ row_found other second
    )
