-- The options of a pool line are read in one way.
use Rattle.std.proofs.Common.{◌≡◌, ◌≢◌, ℕ, ◌<◌, ◌≤◌, ◌^◌, inl, inr, Bool, true, false, ◌&&◌, ◌||◌, ◌==◌, List, [], ◌∷◌, ◌++◌, get_or, refl, sym, ◌∙◌, ap, subst, arith, true≢false}
use Rattle.std.specs.Prelude.{Result, Ok, Err, Some, None}
use Rattle.std.specs.List.{list_all}
use Rattle.std.specs.Fmt.{decimal}
use Rattle.std.specs.Str.{all_ascii_digits}
use Rattle.std.proofs.lemmas.Fmt.{decimal_injective, digits_decimal}
use Rattle.std.proofs.lemmas.Str.Parse.{IsNumeralModel, numerals_by_value, tells_all_ascii_digits}
use Rattle.std.specs.Str.Parse.{digits_value}
use Rattle.std.proofs.lemmas.Bool.Decides.{nat_tests}
use Rattle.trace_reader.specs.declared.refusal.Refusal.{Refusal}
use Rattle.trace_reader.specs.declared.acts.PoolOption.{PoolOption}
use Rattle.trace_reader.specs.declared.options.ValueWord.{ValueWord}
use Rattle.trace_reader.specs.declared.options.ValueWord.TheVariants.{GranValue, RegionValue, SpanValue, VersionValue, ReservedValue}
use Rattle.trace_reader.specs.Slots.{is_text, is_printable}
use Rattle.trace_reader.specs.Options.{IsFlagOf, ReadsOption, ReadsOptions, has_option, option_of, value_limit, value_text}
use Rattle.trace_reader.proofs.OneSlot.{OneWay, ok_same, err_same, not_both}

-- a front and a rest make one word only
value_same : (one other : ValueWord) (rest more : List ℕ) → value_text one ++ rest ≡ value_text other ++ more → (one ≡ other) × (rest ≡ more)
value_same GranValue GranValue rest more same = (refl, let h : value_text GranValue ++ rest ≡ value_text GranValue ++ more = same in cc)
value_same GranValue RegionValue rest more same = absurd (omega (arith, ap (λ (w : List ℕ). get_or w 0 0) same))
value_same GranValue SpanValue rest more same = absurd (omega (arith, ap (λ (w : List ℕ). get_or w 0 0) same))
value_same GranValue VersionValue rest more same = absurd (omega (arith, ap (λ (w : List ℕ). get_or w 0 0) same))
value_same GranValue ReservedValue rest more same = absurd (omega (arith, ap (λ (w : List ℕ). get_or w 0 0) same))
value_same RegionValue GranValue rest more same = absurd (omega (arith, ap (λ (w : List ℕ). get_or w 0 0) same))
value_same RegionValue RegionValue rest more same = (refl, let h : value_text RegionValue ++ rest ≡ value_text RegionValue ++ more = same in cc)
value_same RegionValue SpanValue rest more same = absurd (omega (arith, ap (λ (w : List ℕ). get_or w 0 0) same))
value_same RegionValue VersionValue rest more same = absurd (omega (arith, ap (λ (w : List ℕ). get_or w 0 0) same))
value_same RegionValue ReservedValue rest more same = absurd (omega (arith, ap (λ (w : List ℕ). get_or w 2 0) same))
value_same SpanValue GranValue rest more same = absurd (omega (arith, ap (λ (w : List ℕ). get_or w 0 0) same))
value_same SpanValue RegionValue rest more same = absurd (omega (arith, ap (λ (w : List ℕ). get_or w 0 0) same))
value_same SpanValue SpanValue rest more same = (refl, let h : value_text SpanValue ++ rest ≡ value_text SpanValue ++ more = same in cc)
value_same SpanValue VersionValue rest more same = absurd (omega (arith, ap (λ (w : List ℕ). get_or w 0 0) same))
value_same SpanValue ReservedValue rest more same = absurd (omega (arith, ap (λ (w : List ℕ). get_or w 0 0) same))
value_same VersionValue GranValue rest more same = absurd (omega (arith, ap (λ (w : List ℕ). get_or w 0 0) same))
value_same VersionValue RegionValue rest more same = absurd (omega (arith, ap (λ (w : List ℕ). get_or w 0 0) same))
value_same VersionValue SpanValue rest more same = absurd (omega (arith, ap (λ (w : List ℕ). get_or w 0 0) same))
value_same VersionValue VersionValue rest more same = (refl, let h : value_text VersionValue ++ rest ≡ value_text VersionValue ++ more = same in cc)
value_same VersionValue ReservedValue rest more same = absurd (omega (arith, ap (λ (w : List ℕ). get_or w 0 0) same))
value_same ReservedValue GranValue rest more same = absurd (omega (arith, ap (λ (w : List ℕ). get_or w 0 0) same))
value_same ReservedValue RegionValue rest more same = absurd (omega (arith, ap (λ (w : List ℕ). get_or w 2 0) same))
value_same ReservedValue SpanValue rest more same = absurd (omega (arith, ap (λ (w : List ℕ). get_or w 0 0) same))
value_same ReservedValue VersionValue rest more same = absurd (omega (arith, ap (λ (w : List ℕ). get_or w 0 0) same))
value_same ReservedValue ReservedValue rest more same = (refl, let h : value_text ReservedValue ++ rest ≡ value_text ReservedValue ++ more = same in cc)

-- a byte with which an option without a number begins
begins_flag : ℕ → Bool
begins_flag byte = (byte == 102) || ((byte == 107) || (byte == 110))

flag_begins : (word : List ℕ) (option : PoolOption) → IsFlagOf word (Some option) → begins_flag (get_or word 0 0) ≡ true
unfolding begins_flag
flag_begins word option is = elim is [
  | inl p ↦ ap (λ (w : List ℕ). begins_flag (get_or w 0 0)) p.0
  | inr rest ↦ elim rest [
    | inl p ↦ ap (λ (w : List ℕ). begins_flag (get_or w 0 0)) p.0
    | inr rest ↦ elim rest [ inl p ↦ ap (λ (w : List ℕ). begins_flag (get_or w 0 0)) p.0 | inr p ↦ ap (λ (w : List ℕ). begins_flag (get_or w 0 0)) p.0 ]
  ]
]

value_begins : (value : ValueWord) (rest : List ℕ) → begins_flag (get_or (value_text value ++ rest) 0 0) ≡ false
unfolding begins_flag
value_begins GranValue rest = refl
value_begins RegionValue rest = refl
value_begins SpanValue rest = refl
value_begins VersionValue rest = refl
value_begins ReservedValue rest = refl

flag_no_value : (word : List ℕ) (option : PoolOption) (value : ValueWord) (rest : List ℕ) → IsFlagOf word (Some option) → word ≡ value_text value ++ rest → ⊥
flag_no_value word option value rest flag is =
    true≢false (sym (flag_begins word option flag) ∙ (ap (λ (w : List ℕ). begins_flag (get_or w 0 0)) is ∙ value_begins value rest))

flag_some_none : (word : List ℕ) (option : PoolOption) → IsFlagOf word (Some option) → IsFlagOf word None → ⊥
flag_some_none word option is none = elim is [ inl p ↦ none.0 p.0 | inr rest ↦ elim rest [ inl p ↦ none.1 p.0 | inr rest ↦ elim rest [ inl p ↦ none.2 p.0 | inr p ↦ none.3 p.0 ] ] ]

flag_one : (word : List ℕ) (one other : PoolOption) → IsFlagOf word (Some one) → IsFlagOf word (Some other) → one ≡ other
flag_one word one other h k = elim h [
  | inl p ↦ elim k [
    | inl q ↦ p.1 ∙ sym q.1
    | inr r ↦ elim r [
      | inl q ↦ absurd (omega (arith, ap (λ (w : List ℕ). get_or w 0 0) (sym p.0 ∙ q.0)))
      | inr r ↦ elim r [ inl q ↦ absurd (omega (arith, ap (λ (w : List ℕ). get_or w 0 0) (sym p.0 ∙ q.0))) | inr q ↦ absurd (omega (arith, ap (λ (w : List ℕ). get_or w 0 0) (sym p.0 ∙ q.0))) ]
    ]
  ]
  | inr s ↦ elim s [
    | inl p ↦ elim k [
      | inl q ↦ absurd (omega (arith, ap (λ (w : List ℕ). get_or w 0 0) (sym p.0 ∙ q.0)))
      | inr r ↦ elim r [
        | inl q ↦ p.1 ∙ sym q.1
        | inr r ↦ elim r [ inl q ↦ absurd (omega (arith, ap (λ (w : List ℕ). get_or w 0 0) (sym p.0 ∙ q.0))) | inr q ↦ absurd (omega (arith, ap (λ (w : List ℕ). get_or w 0 0) (sym p.0 ∙ q.0))) ]
      ]
    ]
    | inr s ↦ elim s [
      | inl p ↦ elim k [
        | inl q ↦ absurd (omega (arith, ap (λ (w : List ℕ). get_or w 0 0) (sym p.0 ∙ q.0)))
        | inr r ↦ elim r [
          | inl q ↦ absurd (omega (arith, ap (λ (w : List ℕ). get_or w 0 0) (sym p.0 ∙ q.0)))
          | inr r ↦ elim r [ inl q ↦ p.1 ∙ sym q.1 | inr q ↦ absurd (omega (arith, ap (λ (w : List ℕ). get_or w 2 0) (sym p.0 ∙ q.0))) ]
        ]
      ]
      | inr p ↦ elim k [
        | inl q ↦ absurd (omega (arith, ap (λ (w : List ℕ). get_or w 0 0) (sym p.0 ∙ q.0)))
        | inr r ↦ elim r [
          | inl q ↦ absurd (omega (arith, ap (λ (w : List ℕ). get_or w 0 0) (sym p.0 ∙ q.0)))
          | inr r ↦ elim r [ inl q ↦ absurd (omega (arith, ap (λ (w : List ℕ). get_or w 2 0) (sym p.0 ∙ q.0))) | inr q ↦ p.1 ∙ sym q.1 ]
        ]
      ]
    ]
  ]
]

-- a number's text is readable

digits_own : IsNumeralModel (λ ds. all_ascii_digits ds ≡ true) (digits_value 10)
digits_own = numerals_by_value (λ ds. all_ascii_digits ds ≡ true) tells_all_ascii_digits

printable : (byte : ℕ) → 32 ≤ byte → byte ≤ 126 → is_printable byte ≡ true
printable byte low high = grind (arith, nat_tests)

digit_readable : (byte : ℕ) (rest : List ℕ) → all_ascii_digits (byte ∷ rest) ≡ true → (is_printable byte ≡ true) × (all_ascii_digits rest ≡ true)
digit_readable byte rest digits = let parts = tells_all_ascii_digits.parts byte rest digits in (printable byte (omega (arith, parts.0)) (omega (arith, parts.0)), parts.1)

digits_readable : (digits : List ℕ) → all_ascii_digits digits ≡ true → list_all is_printable digits ≡ true
digits_readable [] is = refl
digits_readable (byte ∷ digits) is =
    let parts = digit_readable byte digits is in
    ap (λ (b : Bool). b && list_all is_printable digits) parts.0 ∙ digits_readable digits parts.1

value_readable : (value : ValueWord) (rest : List ℕ) → list_all is_printable rest ≡ true → is_text (value_text value ++ rest) ≡ true
value_readable GranValue rest is = is
value_readable RegionValue rest is = is
value_readable SpanValue rest is = is
value_readable VersionValue rest is = is
value_readable ReservedValue rest is = is

limit-le : (value : ValueWord) → value_limit value ≤ 2 ^ 64
limit-le GranValue = omega arith
limit-le RegionValue = omega arith
limit-le SpanValue = omega arith
limit-le VersionValue = omega arith
limit-le ReservedValue = omega arith

-- an option with a number is readable
option_readable : (word : List ℕ) (value : ValueWord) (n : ℕ) → n < value_limit value → word ≡ value_text value ++ decimal n → is_text word ≡ true
option_readable word value n small is = subst (λ (w : List ℕ). is_text w ≡ true) (sym is) (value_readable value (decimal n) (digits_readable (decimal n) (digits_decimal digits_own n (omega (arith, limit-le value)))))

valued_one : (word : List ℕ) (v w : ValueWord) (n m : ℕ) → word ≡ value_text v ++ decimal n → word ≡ value_text w ++ decimal m → n < value_limit v → m < value_limit w → option_of v n ≡ option_of w m
valued_one word v w n m h k low high =
    let same = value_same v w (decimal n) (decimal m) (sym h ∙ k) in
    let numbers : n ≡ m = decimal_injective n m (omega (arith, limit-le v)) (omega (arith, limit-le w)) same.1 in
    ap (λ (x : ValueWord). option_of x n) same.0 ∙ ap (λ (x : ℕ). option_of w x) numbers

value_spelled : (word : List ℕ) (v w : ValueWord) (n : ℕ) (rest : List ℕ) → word ≡ value_text v ++ decimal n → word ≡ value_text w ++ rest → n < value_limit v → ((m : ℕ) → m < value_limit w → rest ≢ decimal m) → ⊥
value_spelled word v w n rest h k low none =
    let same = value_same v w (decimal n) rest (sym h ∙ k) in
    none n (subst (λ (x : ValueWord). n < value_limit x) same.0 low) (sym same.1)

pub option_one : OneWay ReadsOption
option_one word one other h k = elim h [
  | inl p ↦ elim k [
    | inl q ↦ let e : p.0 ≡ q.0 = flag_one word p.0 q.0 p.1 q.1 in cc
    | inr r ↦ elim r [
      | inl q ↦ absurd (flag_no_value word p.0 q.0 (decimal q.1) p.1 q.2)
      | inr r ↦ elim r [ inl q ↦ absurd (flag_no_value word p.0 q.0 q.1 p.1 q.2) | inr q ↦ absurd (flag_some_none word p.0 p.1 q.0) ]
    ]
  ]
  | inr s ↦ elim s [
    | inl p ↦ elim k [
      | inl q ↦ absurd (flag_no_value word q.0 p.0 (decimal p.1) q.1 p.2)
      | inr r ↦ elim r [
        | inl q ↦ let e : option_of p.0 p.1 ≡ option_of q.0 q.1 = valued_one word p.0 q.0 p.1 q.1 p.2 q.2 p.3 q.3 in cc
        | inr r ↦ elim r [
          | inl q ↦ absurd (value_spelled word p.0 q.0 p.1 q.1 p.2 q.2 p.3 q.3)
          | inr q ↦ absurd (true≢false (sym (option_readable word p.0 p.1 p.3 p.2) ∙ (q.1 p.0 (decimal p.1) p.2)))
        ]
      ]
    ]
    | inr s ↦ elim s [
      | inl p ↦ elim k [
        | inl q ↦ absurd (flag_no_value word q.0 p.0 p.1 q.1 p.2)
        | inr r ↦ elim r [
          | inl q ↦ absurd (value_spelled word q.0 p.0 q.1 p.1 q.2 p.2 q.3 p.3)
          | inr r ↦ elim r [ inl q ↦ p.5 ∙ sym q.5 | inr q ↦ absurd (true≢false (sym p.4 ∙ (q.1 p.0 p.1 p.2))) ]
        ]
      ]
      | inr p ↦ elim k [
        | inl q ↦ absurd (flag_some_none word q.0 q.1 p.0)
        | inr r ↦ elim r [
          | inl q ↦ absurd (true≢false (sym (option_readable word q.0 q.1 q.3 q.2) ∙ (p.1 q.0 (decimal q.1) q.2)))
          | inr r ↦ elim r [ inl q ↦ absurd (true≢false (sym q.4 ∙ (p.1 q.0 q.1 q.2))) | inr q ↦ p.2 ∙ sym q.2 ]
        ]
      ]
    ]
  ]
]

pub options_one : (had : List PoolOption) (words : List (List ℕ)) (one other : Result (List PoolOption) Refusal) → ReadsOptions had words one → ReadsOptions had words other → one ≡ other
options_one had [] one other h k = h ∙ sym k
options_one had (word ∷ words) one other h k = elim h [
  | inl p ↦ elim k [
    | inl q ↦ let e : p.0 ≡ q.0 = err_same (option_one word (Err p.0) (Err q.0) p.1 q.1) in cc
    | inr r ↦ elim r [ inl q ↦ absurd (not_both (option_one word (Ok q.0) (Err p.0) q.1 p.1)) | inr q ↦ absurd (not_both (option_one word (Ok q.0) (Err p.0) q.1 p.1)) ]
  ]
  | inr s ↦ elim s [
    | inl p ↦ elim k [
      | inl q ↦ absurd (not_both (option_one word (Ok p.0) (Err q.0) p.1 q.1))
      | inr r ↦ elim r [
        | inl q ↦ p.3 ∙ sym q.3
        | inr q ↦ let e : p.0 ≡ q.0 = ok_same (option_one word (Ok p.0) (Ok q.0) p.1 q.1) in absurd (true≢false (sym (subst (λ (o : PoolOption). has_option had o ≡ true) e p.2) ∙ q.2))
      ]
    ]
    | inr p ↦ elim k [
      | inl q ↦ absurd (not_both (option_one word (Ok p.0) (Err q.0) p.1 q.1))
      | inr r ↦ elim r [
        | inl q ↦ let e : p.0 ≡ q.0 = ok_same (option_one word (Ok p.0) (Ok q.0) p.1 q.1) in absurd (true≢false (sym q.2 ∙ (subst (λ (o : PoolOption). has_option had o ≡ false) e p.2)))
        | inr q ↦
            let e : p.0 ≡ q.0 = ok_same (option_one word (Ok p.0) (Ok q.0) p.1 q.1) in
            options_one (had ++ q.0 ∷ []) words one other (subst (λ (o : PoolOption). ReadsOptions (had ++ o ∷ []) words one) e p.3) q.3
      ]
    ]
  ]
]
