-- Each word is read in one way in its place.
use Rattle.std.proofs.Common.{◌≡◌, ℕ, ◌-◌, ◌<◌, ◌≤◌, ◌^◌, ◌⊎◌, inl, inr, Bool, true, false, List, [], ◌∷◌, ◌++◌, get_or, refl, sym, ◌∙◌, ap, subst, arith, true≢false}
use Rattle.std.specs.Prelude.{Result, Ok, Err, Some, None, codes}
use Rattle.std.specs.Fmt.{decimal}
use Rattle.std.specs.declared.option.Option.{Option}
use Rattle.std.proofs.lemmas.Option.{same_Some}
use Rattle.std.proofs.lemmas.Bool.{cases_lt}
use Rattle.std.proofs.lemmas.Fmt.{decimal_injective}
use Rattle.pool_types.specs.declared.values.Place.{Place}
use Rattle.trace_reader.specs.Laws.{PlacesAreReadBack, RowsAreReadBack}
use Rattle.trace_reader.specs.declared.refusal.Refusal.{Refusal}
use Rattle.trace_reader.specs.declared.acts.What.{What}
use Rattle.trace_reader.specs.declared.acts.What.TheVariants as what
use Rattle.trace_reader.specs.Names.{IsBoundName, is_name}
use Rattle.trace_reader.specs.Contexts.{Context}
use Rattle.trace_reader.specs.Slots.{IsMisread, IsFirstAt, IsWritable, ReadsNumber, ReadsSize, ReadsThread, ReadsPool, ReadsNextPool, ReadsNewName, ReadsWhat, is_text, pool_text}
use Rattle.pool_types.specs.Texts.{place_text}
use Rattle.trace_reader.specs.Acts.{AnyNumber, ReadsCallWord, ReadsRow, ReadsScriptWord}
use Rattle.pool_types.proofs.CallerLemmas.{row_name-own}
use Rattle.trace_reader.proofs.SlotLemmas.{one_front, HasNo-decimal, place_text-digit}
use Rattle.trace_reader.proofs.OneWord.{call_same, script_same}

-- a word is read in one way
abbrev pub OneWay : {A : Type 0} → (List ℕ → Result A Refusal → Type 0) → Type 0
OneWay {A} slot = (word : List ℕ) (one other : Result A Refusal) → slot word one → slot word other → one ≡ other

pub ok_same : {A : Type 0} {a b : A} → ◌≡◌ {A = Result A Refusal} (Ok a) (Ok b) → a ≡ b
ok_same same = cc

pub err_same : {A : Type 0} {f g : Refusal} → ◌≡◌ {A = Result A Refusal} (Err f) (Err g) → f ≡ g
err_same same = cc

pub not_both : {A : Type 0} {a : A} {f : Refusal} → ◌≡◌ {A = Result A Refusal} (Ok a) (Err f) → ⊥
not_both same = cc

-- numbers

misread_one : (word : List ℕ) (f g : Refusal) → IsMisread word f → IsMisread word g → f ≡ g
misread_one word f g h k = elim h [
  | inl p ↦ elim k [ inl q ↦ p.1 ∙ sym q.1 | inr q ↦ absurd (true≢false (sym p.0 ∙ q.0)) ]
  | inr p ↦ elim k [ inl q ↦ absurd (true≢false (sym q.0 ∙ p.0)) | inr q ↦ p.1 ∙ sym q.1 ]
]

pub number_one : (low high : ℕ) → high < 2 ^ 64 → OneWay (ReadsNumber low high)
number_one low high small word (Ok n) (Ok m) h k = let e : n ≡ m = decimal_injective n m (omega (arith, h.2)) (omega (arith, k.2)) (sym h.0 ∙ k.0) in cc
number_one low high small word (Ok n) (Err f) h k = absurd (k.0 n h.1 h.2 h.0)
number_one low high small word (Err f) (Ok n) h k = absurd (h.0 n k.1 k.2 k.0)
number_one low high small word (Err f) (Err g) h k = let e : f ≡ g = misread_one word f g h.1 k.1 in cc

pub any_one : OneWay AnyNumber
any_one = number_one 0 18446744073709551615 (omega arith)

size_number : OneWay (ReadsNumber 0 (2 ^ 64 - 1))
size_number = number_one 0 (2 ^ 64 - 1) (omega arith)

too_great : (all : Bool) (size : ℕ) → (all ≡ true) ⊎ (size ≤ 8128) → all ≡ false → 8128 < size → ⊥
too_great all size served not great = elim served [ inl is ↦ true≢false (sym is ∙ not) | inr small ↦ omega arith ]

size_mixed : (all : Bool) (word : List ℕ) (size : ℕ) (refusal : Refusal) → ReadsSize all word (Ok size) → ReadsSize all word (Err refusal) → ⊥
size_mixed all word size refusal h k = elim k [
  | inl q ↦ not_both (size_number word (Ok size) (Err refusal) h.0 q)
  | inr q ↦ let same : size ≡ q.0 = ok_same (size_number word (Ok size) (Ok q.0) h.0 q.1) in too_great all size h.1 q.2 (omega (arith, q.3))
]

pub size_one : (all : Bool) → OneWay (ReadsSize all)
size_one all word (Ok n) (Ok m) h k = size_number word (Ok n) (Ok m) h.0 k.0
size_one all word (Ok n) (Err f) h k = absurd (size_mixed all word n f h k)
size_one all word (Err f) (Ok n) h k = absurd (size_mixed all word n f k h)
size_one all word (Err f) (Err g) h k = elim h [
  | inl p ↦ elim k [ inl q ↦ size_number word (Err f) (Err g) p q | inr q ↦ absurd (not_both (size_number word (Ok q.0) (Err f) q.1 p)) ]
  | inr p ↦ elim k [ inl q ↦ absurd (not_both (size_number word (Ok p.0) (Err g) p.1 q)) | inr q ↦ let e : f ≡ g = p.4 ∙ sym q.4 in cc ]
]

-- threads

first_one : (names : List (List ℕ)) (name : List ℕ) (a b : ℕ) → IsFirstAt names name a → IsFirstAt names name b → a ≡ b
first_one names name a b h k = elim (cases_lt a b) [
  | inl low ↦ absurd (k.first a low h.there)
  | inr high ↦ elim (cases_lt b a) [ inl low ↦ absurd (h.first b low k.there) | inr same ↦ omega arith ]
]

pub thread_one : (before : Context) → OneWay (ReadsThread before)
thread_one before word (Ok a) (Ok b) h k = let e : a ≡ b = first_one before.names word a b h.1 k.1 in cc
thread_one before word (Ok a) (Err f) h k = elim k [ inl q ↦ absurd (q.1 a h.1.there) | inr q ↦ absurd (q.0 h.0) ]
thread_one before word (Err f) (Ok a) h k = elim h [ inl q ↦ absurd (q.1 a k.1.there) | inr q ↦ absurd (q.0 k.0) ]
thread_one before word (Err f) (Err g) h k = elim h [
  | inl p ↦ elim k [ inl q ↦ let e : f ≡ g = p.2 ∙ sym q.2 in cc | inr q ↦ absurd (q.0 p.0) ]
  | inr p ↦ elim k [ inl q ↦ absurd (p.0 q.0) | inr q ↦ let e : f ≡ g = p.1 ∙ sym q.1 in cc ]
]

-- pools

pool_same : (p q : ℕ) → pool_text p ≡ pool_text q → p ≡ q
pool_same p q same = omega (arith, ap (λ (w : List ℕ). get_or w 1 0) same)

pub pool_one : (before : Context) → OneWay (ReadsPool before)
pool_one before word (Ok p) (Ok q) h k = let e : p ≡ q = pool_same p q (sym h.0 ∙ k.0) in cc
pool_one before word (Ok p) (Err f) h k = elim k [ inl q ↦ absurd (omega (arith, pool_same p q.0 (sym h.0 ∙ q.1), h.2, q.3)) | inr q ↦ absurd (q.0 p h.1 h.0) ]
pool_one before word (Err f) (Ok p) h k = elim h [ inl q ↦ absurd (omega (arith, pool_same p q.0 (sym k.0 ∙ q.1), k.2, q.3)) | inr q ↦ absurd (q.0 p k.1 k.0) ]
pool_one before word (Err f) (Err g) h k = elim h [
  | inl p ↦ elim k [ inl q ↦ let e : f ≡ g = p.4 ∙ sym q.4 in cc | inr q ↦ absurd (q.0 p.0 p.2 p.1) ]
  | inr p ↦ elim k [ inl q ↦ absurd (p.0 q.0 q.2 q.1) | inr q ↦ let e : f ≡ g = p.1 ∙ sym q.1 in cc ]
]

next_mixed : (before : Context) (word : List ℕ) (p : ℕ) (f : Refusal) → ReadsNextPool before word (Ok p) → ReadsNextPool before word (Err f) → ⊥
next_mixed before word p f h k = elim k [
  | inl q ↦ omega (arith, h.0, q.0)
  | inr rest ↦ elim rest [
    | inl q ↦ q.4 (omega (arith, pool_same p q.1 (sym h.2 ∙ q.2), h.1))
    | inr q ↦ q.1 p (omega (arith, h.0, h.1)) h.2
  ]
]

pub next_pool_one : (before : Context) → OneWay (ReadsNextPool before)
next_pool_one before word (Ok p) (Ok q) h k = let e : p ≡ q = h.1 ∙ sym k.1 in cc
next_pool_one before word (Ok p) (Err f) h k = absurd (next_mixed before word p f h k)
next_pool_one before word (Err f) (Ok p) h k = absurd (next_mixed before word p f k h)
next_pool_one before word (Err f) (Err g) h k = elim h [
  | inl p ↦ elim k [ inl q ↦ let e : f ≡ g = p.1 ∙ sym q.1 in cc | inr rest ↦ elim rest [ inl q ↦ absurd (omega (arith, p.0, q.0)) | inr q ↦ absurd (omega (arith, p.0, q.0)) ] ]
  | inr more ↦ elim more [
    | inl p ↦ elim k [ inl q ↦ absurd (omega (arith, p.0, q.0)) | inr rest ↦ elim rest [ inl q ↦ let e : f ≡ g = p.5 ∙ sym q.5 in cc | inr q ↦ absurd (q.1 p.1 p.3 p.2) ] ]
    | inr p ↦ elim k [ inl q ↦ absurd (omega (arith, p.0, q.0)) | inr rest ↦ elim rest [ inl q ↦ absurd (p.1 q.1 q.3 q.2) | inr q ↦ let e : f ≡ g = p.2 ∙ sym q.2 in cc ] ]
  ]
]

-- names, and what a call is asked of

pub new_name_one : (before : Context) → OneWay (ReadsNewName before)
new_name_one before word (Ok a) (Ok b) h k = let e : a ≡ b = h.0 ∙ sym k.0 in cc
new_name_one before word (Ok a) (Err f) h k = elim k [ inl q ↦ absurd (q.1 h.2) | inr q ↦ absurd (q.0 h.1) ]
new_name_one before word (Err f) (Ok a) h k = elim h [ inl q ↦ absurd (q.1 k.2) | inr q ↦ absurd (q.0 k.1) ]
new_name_one before word (Err f) (Err g) h k = elim h [
  | inl p ↦ elim k [ inl q ↦ let e : f ≡ g = p.2 ∙ sym q.2 in cc | inr q ↦ absurd (q.0 p.0) ]
  | inr p ↦ elim k [ inl q ↦ absurd (p.0 q.0) | inr q ↦ let e : f ≡ g = p.1 ∙ sym q.1 in cc ]
]

null_no_place : (word : List ℕ) (place : Place) → word ≡ codes "null" → word ≡ place_text place → ⊥
null_no_place word place null is = omega (arith, ap (λ (w : List ℕ). get_or w 0 0) (sym null ∙ is))

name_no_place : (word : List ℕ) (place : Place) → IsBoundName word → word ≡ place_text place → ⊥
name_no_place word place name is = let h : is_name 97 16 (place_text place) ≡ true = subst (λ (w : List ℕ). is_name 97 16 w ≡ true) is name.0 in let k : false ≡ true = h in cc

place_same : (one other : Place) → one.pool ≡ other.pool → one.region ≡ other.region → one.offset ≡ other.offset → one ≡ other
place_same one other pool region offset =
    ap (λ (p : ℕ). record { pool = p; region = one.region; offset = one.offset }) pool
    ∙ ap (λ (r : ℕ). record { pool = other.pool; region = r; offset = one.offset }) region
    ∙ ap (λ (o : ℕ). record { pool = other.pool; region = other.region; offset = o }) offset

rest_of : List ℕ → List ℕ
rest_of (a ∷ b ∷ c ∷ d ∷ rest) = rest
rest_of other = []

place_one : (one other : Place) → IsWritable one → IsWritable other → place_text one ≡ place_text other → one ≡ other
unfolding rest_of
place_one one other h k same =
    let spelled = sym (place_text-digit one (omega (arith, h.0))) ∙ same ∙ place_text-digit other (omega (arith, k.0)) in
    let rests : decimal one.region ++ 43 ∷ decimal one.offset ≡ decimal other.region ++ 43 ∷ decimal other.offset = ap rest_of spelled in
    let parts = one_front 43 (decimal one.region) (decimal one.offset) (decimal other.region) (decimal other.offset) (HasNo-decimal one.region (omega (arith, h.1))) (HasNo-decimal other.region (omega (arith, k.1))) rests in
    place_same one other (omega (arith, ap (λ (w : List ℕ). get_or w 1 0) spelled))
    (decimal_injective one.region other.region (omega (arith, h.1)) (omega (arith, k.1)) parts.0) (decimal_injective one.offset other.offset h.2 k.2 parts.1)

none_some : {n : ℕ} → ◌≡◌ {A = Option ℕ} None (Some n) → ⊥
none_some same = cc

what_mixed : (before : Context) (word : List ℕ) (read : What) (f : Refusal) → ReadsWhat before word (Ok read) → ReadsWhat before word (Err f) → ⊥
what_mixed before word what.Null f h k = elim k [ inl q ↦ q.0.1 h | inr q ↦ q.0 h ]
what_mixed before word (what.Name name) f h k = elim k [ inl q ↦ none_some (sym q.1 ∙ h.1) | inr q ↦ q.1 h.0 ]
what_mixed before word (what.Place place) f h k = elim k [ inl q ↦ name_no_place word place q.0 h.0 | inr q ↦ q.2 place h.1 h.0 ]

pub what_one : (before : Context) → OneWay (ReadsWhat before)
what_one before word (Ok what.Null) (Ok what.Null) h k = refl
what_one before word (Ok what.Null) (Ok (what.Name name)) h k = absurd (k.0.1 h)
what_one before word (Ok what.Null) (Ok (what.Place place)) h k = absurd (null_no_place word place h k.0)
what_one before word (Ok (what.Name name)) (Ok what.Null) h k = absurd (h.0.1 k)
what_one before word (Ok (what.Name name)) (Ok (what.Name other)) h k = let e : name ≡ other = same_Some _ _ (sym h.1 ∙ k.1) in cc
what_one before word (Ok (what.Name name)) (Ok (what.Place place)) h k = absurd (name_no_place word place h.0 k.0)
what_one before word (Ok (what.Place place)) (Ok what.Null) h k = absurd (null_no_place word place k h.0)
what_one before word (Ok (what.Place place)) (Ok (what.Name name)) h k = absurd (name_no_place word place k.0 h.0)
what_one before word (Ok (what.Place place)) (Ok (what.Place other)) h k = let e : place ≡ other = place_one place other h.1 k.1 (sym h.0 ∙ k.0) in cc
what_one before word (Ok read) (Err f) h k = absurd (what_mixed before word read f h k)
what_one before word (Err f) (Ok read) h k = absurd (what_mixed before word read f k h)
what_one before word (Err f) (Err g) h k = elim h [
  | inl p ↦ elim k [ inl q ↦ let e : f ≡ g = p.2 ∙ sym q.2 in cc | inr q ↦ absurd (q.1 p.0) ]
  | inr p ↦ elim k [ inl q ↦ absurd (p.1 q.0) | inr q ↦ let e : f ≡ g = p.3 ∙ sym q.3 in cc ]
]

-- fixed words

pub script_one : OneWay ReadsScriptWord
script_one word (Ok a) (Ok b) h k = let e : a ≡ b = script_same a b (sym h ∙ k) in cc
script_one word (Ok a) (Err f) h k = absurd (k.0 a h)
script_one word (Err f) (Ok a) h k = absurd (h.0 a k)
script_one word (Err f) (Err g) h k = let e : f ≡ g = h.1 ∙ sym k.1 in cc

pub call_word_one : (binding : Bool) → OneWay (ReadsCallWord binding)
call_word_one binding word (Ok a) (Ok b) h k = let e : a ≡ b = call_same a b (sym h.0 ∙ k.0) in cc
call_word_one binding word (Ok a) (Err f) h k = absurd (k.0 a h.1 h.0)
call_word_one binding word (Err f) (Ok a) h k = absurd (h.0 a k.1 k.0)
call_word_one binding word (Err f) (Err g) h k = let e : f ≡ g = h.1 ∙ sym k.1 in cc

pub row_one : OneWay ReadsRow
row_one word (Ok a) (Ok b) h k = let e : a ≡ b = row_name-own a b h.1 k.1 (sym h.0 ∙ k.0) in cc
row_one word (Ok a) (Err f) h k = absurd (k.0 a h.1 h.0)
row_one word (Err f) (Ok a) h k = absurd (h.0 a k.1 k.0)
row_one word (Err f) (Err g) h k = let e : f ≡ g = h.1 ∙ sym k.1 in cc

-- what is printed is read back

pub places_are_read_back : PlacesAreReadBack
places_are_read_back place (Some other) writable read = let same : place ≡ other = place_one place other writable read.1 read.0 in cc
places_are_read_back place None writable read = absurd (read place writable refl)

pub rows_are_read_back : RowsAreReadBack
rows_are_read_back row (Some other) named read = let same : row ≡ other = row_name-own row other named read.1 read.0 in cc
rows_are_read_back row None named read = absurd (read row named refl)
