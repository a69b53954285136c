-- Numbers and their texts.
use Rattle.std.proofs.Common.{inl, inr, ◌⊎◌, zero, suc, rules, ◌≡◌, ◌≢◌, ℕ, ◌<◌, ◌≤◌, ◌^◌, List, length, get_or, sym, ◌∙◌, ap, subst, arith}
use Rattle.std.specs.Prelude.{Result, Ok, Err}
use Rattle.std.specs.Fmt.{decimal}
use Rattle.std.specs.Str.{IsUtf8}
use Rattle.std.specs.Str.Parse.{ParsesUnsigned, AllDigits, digits_value}
use Rattle.std.proofs.lemmas.Str.{IsUtf8-from_ascii}
use Rattle.std.proofs.lemmas.Str.Parse.{IsNumeralModel, numerals_by_value, tells_digits, parse_plain, not_in_digits}
use Rattle.std.proofs.lemmas.Fmt.{IsAscii-decimal, parse-decimal, decimal_injective, decimal_nonempty, decimal_digit, first_decimal, digits_decimal, decimal-digits_value}
use Rattle.trace_reader.specs.Words.{IsPlain}

-- std's own words for digits
pub own : IsNumeralModel (AllDigits 10) (digits_value 10)
own = numerals_by_value (AllDigits 10) tells_digits

-- a number's text begins with a zero only where it is `0`
short_decimal : (n : ℕ) → n < 2 ^ 64 → get_or (decimal n) 0 0 ≡ 48 → length (decimal n) ≡ 1
short_decimal zero small is = ap length (decimal_digit 0 (omega arith))
short_decimal (suc n) small is = absurd (omega (arith, first_decimal (suc n) (omega arith) small))

-- a number's text is plain
pub IsPlain-decimal : (n : ℕ) → n < 2 ^ 64 → IsPlain (decimal n)
IsPlain-decimal n small = record {
  some = decimal_nonempty n small;
  unsigned = not_in_digits own (decimal n) 43 (digits_decimal own n small) (search rules) 0 (decimal_nonempty n small);
  short = short_decimal n small;
}

-- a number's text is text
pub decimal_is_text : (n : ℕ) → n < 2 ^ 64 → IsUtf8 (decimal n)
decimal_is_text n small = IsUtf8-from_ascii (decimal n) (IsAscii-decimal n small)

-- bytes that are no text spell no number
pub no_text : (word : List ℕ) → (IsUtf8 word → ⊥) → (n : ℕ) → n < 2 ^ 64 → word ≢ decimal n
no_text word none n small is = none (subst IsUtf8 (sym is) (decimal_is_text n small))

-- a text that is not read as a number spells none
pub no_number : {E : Type 0} (word : List ℕ) (error : E) (r : Result ℕ E) → r ≡ Err error → ParsesUnsigned 64 10 word r → (n : ℕ) → n < 2 ^ 64 → word ≢ decimal n
no_number word error r failed parses n small is = absurd (let read : r ≡ Ok n = parse-decimal 64 n word r small small is parses in let no : Ok n ≡ Err error = sym read ∙ failed in cc)

-- a plain text that is read as a number spells it
pub the_number : {E : Type 0} (word : List ℕ) (n : ℕ) (r : Result ℕ E) → r ≡ Ok n → ParsesUnsigned 64 10 word r → IsPlain word → (word ≡ decimal n) × (n < 2 ^ 64)
the_number {E} word n r got parses plain =
    let read = parse_plain own {E = E} 64 word (Ok n) (subst (λ s. ParsesUnsigned 64 10 word s) got parses) plain.unsigned in
    let whole : decimal (digits_value 10 word) ≡ word = decimal-digits_value own word read.0.0 plain.some plain.short read.0.2 in
    (sym whole ∙ ap decimal (sym read.1), subst (λ (m : ℕ). m < 2 ^ 64) (sym read.1) read.0.2)

-- a word that is not plain spells no number
pub not_plain : (word : List ℕ) → (IsPlain word → ⊥) → (n : ℕ) → n < 2 ^ 64 → word ≢ decimal n
not_plain word none n small is = none (subst IsPlain (sym is) (IsPlain-decimal n small))

-- a word that spells one number spells no other
pub other_number : (word : List ℕ) (number n : ℕ) → (word ≡ decimal number) × (number < 2 ^ 64) → n < 2 ^ 64 → number ≢ n → word ≢ decimal n
other_number word number n is small other same = other (decimal_injective number n is.1 small (sym is.0 ∙ same))

-- a word that spells a number outside a range spells none in it
pub number_outside : (word : List ℕ) (number low high : ℕ) → (word ≡ decimal number) × (number < 2 ^ 64) → (number < low) ⊎ (high < number) → high < 2 ^ 64 → (n : ℕ) → low ≤ n → n ≤ high → word ≢ decimal n
number_outside word number low high is outside small n from to = other_number word number n is (omega arith) (λ same. elim outside [ inl below ↦ omega arith | inr above ↦ omega arith ])
