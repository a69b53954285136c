-- No two names have one key.
use Prim.Native.Nat.{zero, suc}
use Rattle.std.proofs.lemmas.List.{length-drop}
use Rattle.std.proofs.Common.{◌≡◌, ℕ, ◌+◌, ◌*◌, ◌^◌, ◌<◌, ◌≤◌, Bool, true, false, ◌==◌, List, [], ◌∷◌, length, drop, Decides, refl, sym, ◌∙◌, ap, subst, arith, inl, inr, true≢false}
use Rattle.std.specs.Prelude.{◌&&◌, ◌||◌, nat_le, nat_lt, if◌then◌else◌, Some, None}
use Rattle.std.specs.Cmp.{unsigned_tied}
use Rattle.std.specs.List.{list_all}
use Rattle.std.specs.Str.{bytes_eq}
use Rattle.std.specs.declared.option.Option.{Option}
use Rattle.std.specs.Ordering.{is_eq, nat_cmp}
use Rattle.std.proofs.Math.Nat.{one-le-pow, pow-suc}
use Rattle.std.proofs.lemmas.Bool.{leb-true, ltb-true, or_cases}
use Rattle.std.proofs.lemmas.Bool.Decides.{Decides-eqb, same_from_decides}
use Rattle.std.proofs.lemmas.Slice.Eq.{bytes_eq-Decides}
use Rattle.pool_types.specs.Limits.{bound_name_bytes}
use Rattle.trace_reader.specs.Names.{is_letter, is_name, may_follow, name_key}
use Rattle.trace_reader.specs.Contexts.{number_kept}

-- each is a byte, and none is zero
abbrev pub AreBytes : List ℕ → Type 0
AreBytes [] = Unit {0}
AreBytes (byte ∷ bytes) = (0 < byte) × (byte < 256) × AreBytes bytes

and_first : (x y : Bool) → (x && y) ≡ true → x ≡ true
and_first true y is = refl
and_first false y is = is

and_second : (x y : Bool) → (x && y) ≡ true → y ≡ true
and_second true y is = is
and_second false y is = absurd (true≢false (sym is))

letter_byte : (byte : ℕ) → is_letter 97 byte ≡ true → (0 < byte) × (byte < 256)
letter_byte byte is =
    let low = leb-true 97 byte (and_first (nat_le 97 byte) (nat_lt byte 123) is) in
    let high = ltb-true byte 123 (and_second (nat_le 97 byte) (nat_lt byte 123) is) in
    (omega (arith, low), omega (arith, high))

follow_byte : (byte : ℕ) → may_follow 97 byte ≡ true → (0 < byte) × (byte < 256)
follow_byte byte is = elim (or_cases (is_letter 97 byte) ((nat_le 48 byte && nat_lt byte 58) || (byte == 95)) is) [
  | inl letter ↦ letter_byte byte letter
  | inr rest ↦ elim (or_cases (nat_le 48 byte && nat_lt byte 58) (byte == 95) rest) [
    | inl digit ↦
        let low = leb-true 48 byte (and_first (nat_le 48 byte) (nat_lt byte 58) digit) in
        let high = ltb-true byte 58 (and_second (nat_le 48 byte) (nat_lt byte 58) digit) in
        (omega (arith, low), omega (arith, high))
    | inr line ↦ let same = (Decides-eqb byte 95).0 line in (omega (arith, same), omega (arith, same))
  ]
]

all_bytes : (bytes : List ℕ) → list_all (may_follow 97) bytes ≡ true → AreBytes bytes
all_bytes [] is = tt
all_bytes (byte ∷ bytes) is =
    let first = follow_byte byte (and_first (may_follow 97 byte) (list_all (may_follow 97) bytes) is) in
    (first.0, first.1, all_bytes bytes (and_second (may_follow 97 byte) (list_all (may_follow 97) bytes) is))

-- a name's bytes are, and they are few
pub name_are : (word : List ℕ) → is_name 97 bound_name_bytes word ≡ true → AreBytes word
name_are [] is = absurd (true≢false (sym is))
name_are (letter ∷ more) is =
    let rest = and_second (is_letter 97 letter) (nat_lt (length more) bound_name_bytes && list_all (may_follow 97) more) is in
    let first = letter_byte letter (and_first (is_letter 97 letter) (nat_lt (length more) bound_name_bytes && list_all (may_follow 97) more) is) in
    (first.0, first.1, all_bytes more (and_second (nat_lt (length more) bound_name_bytes) (list_all (may_follow 97) more) rest))

pub name_few : (word : List ℕ) → is_name 97 bound_name_bytes word ≡ true → length word ≤ bound_name_bytes
name_few [] is = omega arith
name_few (letter ∷ more) is =
    let rest = and_second (is_letter 97 letter) (nat_lt (length more) bound_name_bytes && list_all (may_follow 97) more) is in
    omega (arith, ltb-true (length more) bound_name_bytes (and_first (nat_lt (length more) bound_name_bytes) (list_all (may_follow 97) more) rest))

-- a key tells its bytes
first_same : (a b x y : ℕ) → a < 256 → b < 256 → a + 256 * x ≡ b + 256 * y → (a ≡ b) × (x ≡ y)
first_same a b x y low small same = (omega arith, omega arith)

pub key_tells : (one other : List ℕ) → AreBytes one → AreBytes other → name_key one ≡ name_key other → one ≡ other
key_tells [] [] h k same = refl
key_tells [] (byte ∷ bytes) h k same = absurd (omega (arith, k.0, same))
key_tells (byte ∷ bytes) [] h k same = absurd (omega (arith, h.0, same))
key_tells (one ∷ ones) (other ∷ others) h k same =
    let parts = first_same one other (name_key ones) (name_key others) h.1 k.1 same in
    ap (λ (byte : ℕ). byte ∷ ones) parts.0 ∙ ap (λ (bytes : List ℕ). other ∷ bytes) (key_tells ones others h.2 k.2 parts.1)

-- and is small
key_step : (byte key power : ℕ) → byte < 256 → key < power → byte + 256 * key < power * 256
key_step byte key power low small = omega arith

pub key_small : (n : ℕ) (bytes : List ℕ) → AreBytes bytes → length bytes ≤ n → name_key bytes < 256 ^ n
key_small n [] are few = one-le-pow n 256 (omega arith)
key_small zero (byte ∷ bytes) are few = absurd (omega arith)
key_small (suc n) (byte ∷ bytes) are few =
    subst (λ (power : ℕ). byte + 256 * name_key bytes < power) (sym (pow-suc 256 n)) (key_step byte (name_key bytes) (256 ^ n) are.1 (key_small n bytes are.2 (omega arith)))

-- bytes behind a place
pub are_behind : (i : ℕ) (bytes : List ℕ) → AreBytes bytes → AreBytes (drop i bytes)
are_behind zero bytes are = are
are_behind (suc i) [] are = tt
are_behind (suc i) (byte ∷ bytes) are = are_behind i bytes are.2

-- the key of all bytes but the first leaves room for one more
pub key_room : (word : List ℕ) (i : ℕ) → is_name 97 bound_name_bytes word ≡ true → 0 < i → name_key (drop i word) < 256 ^ 15
key_room word i is some = key_small 15 (drop i word) (are_behind i word (name_are word is)) (omega (arith, length-drop i word, name_few word is))

-- what is kept of names, once one more is bound

decides_key : (word other : List ℕ) → AreBytes word → AreBytes other → Decides (is_eq (nat_cmp (name_key word) (name_key other))) (word ≡ other)
decides_key word other h k = (
  λ is. key_tells word other h k ((Decides-eqb (name_key word) (name_key other)).0 (sym (unsigned_tied (name_key word) (name_key other)) ∙ is)),
  λ same. unsigned_tied (name_key word) (name_key other) ∙ (Decides-eqb (name_key word) (name_key other)).1 (ap name_key same),
)

both_names : (word other : List ℕ) → AreBytes word → AreBytes other → is_eq (nat_cmp (name_key word) (name_key other)) ≡ bytes_eq word other
both_names word other h k =
    same_from_decides (is_eq (nat_cmp (name_key word) (name_key other))) (bytes_eq word other)
    (decides_key word other h k) (bytes_eq-Decides word other)

kept_name : (word other : List ℕ) (number : ℕ) (old : Option ℕ) (named : Bool) → is_name 97 bound_name_bytes other ≡ named → is_name 97 bound_name_bytes word ≡ true →
    number_kept named (if is_eq (nat_cmp (name_key word) (name_key other)) then Some number else old) ≡ (if bytes_eq word other then Some number else number_kept named old)
kept_name word other number old true named is = ap (λ (same : Bool). if same then Some number else old) (both_names word other (name_are word is) (name_are other named))
kept_name word other number old false named is = apart (bytes_eq word other) refl
  where
    apart : (same : Bool) → bytes_eq word other ≡ same → None ≡ (if same then Some number else None)
    apart true same = absurd (true≢false (sym is ∙ ap (λ (w : List ℕ). is_name 97 bound_name_bytes w) ((bytes_eq-Decides word other).0 same) ∙ named))
    apart false same = refl

pub kept_after : (word other : List ℕ) (number : ℕ) (old new : Option ℕ) → is_name 97 bound_name_bytes word ≡ true → new ≡ (if is_eq (nat_cmp (name_key word) (name_key other)) then Some number else old) →
    number_kept (is_name 97 bound_name_bytes other) new ≡ (if bytes_eq word other then Some number else number_kept (is_name 97 bound_name_bytes other) old)
kept_after word other number old new is updated =
    ap (λ (n : Option ℕ). number_kept (is_name 97 bound_name_bytes other) n) updated ∙ kept_name word other number old (is_name 97 bound_name_bytes other) refl is
