-- Words in their places.
use Rattle.std.proofs.Common.{◌≡◌, ◌≢◌, ℕ, ◌+◌, ◌-◌, ◌<◌, ◌^◌, List, [], ◌∷◌, ◌++◌, length, get_or, take, drop, map, refl, rules, sym, ◌∙◌, ap, arith}
use Rattle.std.specs.Prelude.{slice_get, option_map, Some, None}
use Rattle.std.specs.Fmt.{decimal}
use Rattle.std.proofs.lemmas.List.{take_all}
use Rattle.std.proofs.lemmas.Option.{slice_get-map, slice_get-get_or}
use Rattle.std.proofs.lemmas.Str.Parse.{not_in_digits}
use Rattle.std.proofs.lemmas.Fmt.{decimal_digit, digits_decimal}
use Rattle.pool_types.specs.declared.values.Place.{Place}
use Rattle.pool_types.specs.Texts.{place_text}
use Rattle.trace_reader.proofs.NumberLemmas.{own}
use Rattle.trace_reader.specs.Words.{HasNo}
use Rattle.trace_reader.proofs.WordLemmas.{HasNo-rest}
use Rattle.trace_reader.specs.Slots.{IsPairOf, IsPlaceOf, IsWritable, pair_text}

-- what stands at a place of a list's image
pub slice_map_at : {A B : Type 0} (f : A → B) (xs : List A) (i : ℕ) (d : A) → i < length xs → slice_get (map f xs) i ≡ Some (f (get_or xs i d))
slice_map_at f xs i d below = slice_get-map f xs i ∙ ap (λ o. option_map f o) (slice_get-get_or xs i d below)

-- a text is parted at its first such byte in one way
pub one_front : (byte : ℕ) (xs ys us vs : List ℕ) → HasNo byte xs → HasNo byte us → xs ++ byte ∷ ys ≡ us ++ byte ∷ vs → (xs ≡ us) × (ys ≡ vs)
one_front byte [] ys [] vs none free same = (refl, let h : byte ∷ ys ≡ byte ∷ vs = same in cc)
one_front byte [] ys (u ∷ us) vs none free same = absurd (free 0 (omega arith) (let h : byte ∷ ys ≡ u ∷ (us ++ byte ∷ vs) = same in cc))
one_front byte (x ∷ xs) ys [] vs none free same = absurd (none 0 (omega arith) (let h : x ∷ (xs ++ byte ∷ ys) ≡ byte ∷ vs = same in cc))
one_front byte (x ∷ xs) ys (u ∷ us) vs none free same =
    let h : x ∷ (xs ++ byte ∷ ys) ≡ u ∷ (us ++ byte ∷ vs) = same in
    let rest : xs ++ byte ∷ ys ≡ us ++ byte ∷ vs = cc in
    let heads : x ≡ u = cc in
    let tails = one_front byte xs ys us vs (HasNo-rest byte x xs none) (HasNo-rest byte u us free) rest in
    (ap (λ (f : ℕ). f ∷ xs) heads ∙ ap (λ (r : List ℕ). u ∷ r) tails.0, tails.1)

-- a text without the byte is not parted by it
pub not_parted : (byte : ℕ) (front rest : List ℕ) → HasNo byte (front ++ byte ∷ rest) → ⊥
not_parted byte [] rest none = none 0 (omega arith) refl
not_parted byte (first ∷ front) rest none = not_parted byte front rest (HasNo-rest byte first (front ++ byte ∷ rest) none)

-- a number's text has no plus
pub HasNo-decimal : (n : ℕ) → n < 2 ^ 64 → HasNo 43 (decimal n)
HasNo-decimal n small = not_in_digits own (decimal n) 43 (digits_decimal own n small) (search rules)

-- a text that is parted at its first plus spells two numbers only where its parts do
pub pair_parts : (text front rest : List ℕ) (region offset : ℕ) → text ≡ front ++ 43 ∷ rest → HasNo 43 front → region < 2 ^ 64 → text ≡ pair_text region offset → (front ≡ decimal region) × (rest ≡ decimal offset)
pair_parts text front rest region offset parted none small spelled =
    one_front 43 front rest (decimal region) (decimal offset) none (HasNo-decimal region small) (sym parted ∙ spelled)

-- an item of the list is another one
pub not_at : {A : Type 0} (f : A → List ℕ) (items shown : List A) (i : ℕ) (other : A) (name : List ℕ) → shown ≡ items → i < length shown → other ≡ get_or shown i other → f other ≢ name →
    slice_get (map f items) i ≢ Some name
not_at {A} f items shown i other name whole below is differs found =
    let at : slice_get (map f shown) i ≡ Some (f (get_or shown i other)) = slice_map_at f shown i other below in
    let there : slice_get (map f shown) i ≡ Some name = ap (λ (ns : List A). slice_get (map f ns) i) whole ∙ found in
    let same : f (get_or shown i other) ≡ name = cc in
    differs (ap f is ∙ same)

-- the pool of a place is one digit
pub place_text-digit : (place : Place) → place.pool < 10 → place_text place ≡ 80 ∷ (48 + place.pool) ∷ 46 ∷ 82 ∷ pair_text place.region place.offset
place_text-digit place small = ap (λ (digits : List ℕ). 80 ∷ (digits ++ 46 ∷ 82 ∷ pair_text place.region place.offset)) (decimal_digit place.pool small)

-- a text that is no place with its pool as a digit is no place
pub not_written : (word : List ℕ) → ((place : Place) → IsWritable place → word ≢ 80 ∷ (48 + place.pool) ∷ 46 ∷ 82 ∷ pair_text place.region place.offset) → IsPlaceOf word None
not_written word none = λ place writable is. none place writable (is ∙ place_text-digit place (omega (arith, writable.0)))

-- and one that is such a place is that place
pub is_written : (word : List ℕ) (place : Place) → word ≡ 80 ∷ (48 + place.pool) ∷ 46 ∷ 82 ∷ pair_text place.region place.offset → IsWritable place → IsPlaceOf word (Some place)
is_written word place is writable = (is ∙ sym (place_text-digit place (omega (arith, writable.0))), writable)

-- a text whose rest behind four bytes is no pair of numbers is no place
pub no_pair : (word : List ℕ) → IsPairOf (take (length word - 4) (drop 4 word)) None → (place : Place) → IsWritable place → word ≢ 80 ∷ (48 + place.pool) ∷ 46 ∷ 82 ∷ pair_text place.region place.offset
no_pair word none place writable is =
    let text = pair_text place.region place.offset in
    none place.region place.offset writable.1 writable.2 (ap (λ (w : List ℕ). take (length w - 4) (drop 4 w)) is ∙ take_all (length (80 ∷ (48 + place.pool) ∷ 46 ∷ 82 ∷ text) - 4) text (omega arith))
