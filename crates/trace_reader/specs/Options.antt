-- The options of a pool line.
use Rattle.std.specs.Prelude.{◌≡◌, ◌≢◌, ℕ, ◌<◌, ◌^◌, ◌⊎◌, Bool, true, false, nat_eq, List, [], ◌∷◌, ◌++◌, codes, Some, None, Result, Ok, Err}
use Rattle.std.specs.declared.option.Option.{Option}
use Rattle.std.specs.List.{list_any}
use Rattle.std.specs.Fmt.{decimal}
use Rattle.std.specs.Borrow.{Bor}
use Rattle.trace_reader.specs.declared.refusal.Refusal.{Refusal}
use Rattle.trace_reader.specs.declared.refusal.Refusal.TheVariants.{Spelling, Number, PoolOrder}
use Rattle.trace_reader.specs.declared.acts.PoolOption.{PoolOption}
use Rattle.trace_reader.specs.declared.acts.PoolOption.TheVariants.{Fixed, Keep, NoGet, NoFree, Gran, Region, Span, Version, Reserved}
use Rattle.trace_reader.specs.declared.options.ValueWord.{ValueWord}
use Rattle.trace_reader.specs.declared.options.ValueWord.TheVariants.{GranValue, RegionValue, SpanValue, VersionValue, ReservedValue}
use Rattle.pool_types.specs.Limits.{option_numbers}
use Rattle.arrayvec.specs.ArrayVec.{ArrayVec}
use Rattle.trace_reader.specs.Slots.{is_text}

-- what stands in front of an option's number
abbrev pub value_text : ValueWord → List ℕ
value_text GranValue = codes "gran="
value_text RegionValue = codes "region="
value_text SpanValue = codes "span="
value_text VersionValue = codes "version="
value_text ReservedValue = codes "reserved="

-- an option's number is below this
abbrev pub value_limit : ValueWord → ℕ
value_limit GranValue = 2 ^ 64
value_limit RegionValue = 2 ^ 64
value_limit SpanValue = option_numbers
value_limit VersionValue = option_numbers
value_limit ReservedValue = option_numbers

-- the option of this number
abbrev pub option_of : ValueWord → ℕ → PoolOption
option_of GranValue n = Gran n
option_of RegionValue n = Region n
option_of SpanValue n = Span n
option_of VersionValue n = Version n
option_of ReservedValue n = Reserved n

-- the option that the word is, or that it is none without a number
abbrev pub IsFlagOf : List ℕ → Option PoolOption → Type 0
IsFlagOf word (Some option) = ((word ≡ codes "fixed") × (option ≡ Fixed)) ⊎ ((word ≡ codes "keep") × (option ≡ Keep))
    ⊎ ((word ≡ codes "noget") × (option ≡ NoGet)) ⊎ ((word ≡ codes "nofree") × (option ≡ NoFree))
IsFlagOf word None = (word ≢ codes "fixed") × (word ≢ codes "keep") × (word ≢ codes "noget") × (word ≢ codes "nofree")

-- the word in front of a number, and the number's text, or that the word has none of these fronts
abbrev pub IsValueOf : List ℕ → Option (ValueWord × Bor (List ℕ)) → Type 0
IsValueOf word (Some pair) = word ≡ value_text pair.0 ++ pair.1.now
IsValueOf word None = (value : ValueWord) (rest : List ℕ) → word ≢ value_text value ++ rest

-- an option of a pool
abbrev pub ReadsOption : List ℕ → Result PoolOption Refusal → Type 0
ReadsOption word result = ((option : PoolOption) × IsFlagOf word (Some option) × (result ≡ Ok option))
    ⊎ ((value : ValueWord) × (n : ℕ) × (word ≡ value_text value ++ decimal n) × (n < value_limit value)
    × (result ≡ Ok (option_of value n)))
    ⊎ ((value : ValueWord) × (rest : List ℕ) × (word ≡ value_text value ++ rest)
    × ((n : ℕ) → n < value_limit value → rest ≢ decimal n) × (is_text word ≡ true) × (result ≡ Err Number))
    ⊎ (IsFlagOf word None
    × ((value : ValueWord) (rest : List ℕ) → word ≡ value_text value ++ rest → is_text word ≡ false)
    × (result ≡ Err Spelling))

-- the place of an option in the list of options
abbrev pub option_place : PoolOption → ℕ
option_place Fixed = 0
option_place Keep = 1
option_place NoGet = 2
option_place NoFree = 3
option_place (Gran n) = 4
option_place (Region n) = 5
option_place (Span n) = 6
option_place (Version n) = 7
option_place (Reserved n) = 8

-- an option of the same place is among them
abbrev pub has_option : List PoolOption → PoolOption → Bool
has_option had option = list_any (λ other. nat_eq (option_place option) (option_place other)) had

-- the options of the words, after those that were read
abbrev pub ReadsOptions : List PoolOption → List (List ℕ) → Result (List PoolOption) Refusal → Type 0
ReadsOptions had [] result = result ≡ Ok had
ReadsOptions had (word ∷ words) result = ((refusal : Refusal) × ReadsOption word (Err refusal) × (result ≡ Err refusal))
    ⊎ ((option : PoolOption) × ReadsOption word (Ok option) × (has_option had option ≡ true) × (result ≡ Err PoolOrder))
    ⊎ ((option : PoolOption) × ReadsOption word (Ok option) × (has_option had option ≡ false)
    × ReadsOptions (had ++ option ∷ []) words result)

-- the options that the words spell, or the first of them that is refused
abbrev pub IsReadAsOptions : List (List ℕ) → Result (ArrayVec PoolOption) Refusal → Type 0
IsReadAsOptions words (Ok options) = ReadsOptions [] words (Ok options.items)
IsReadAsOptions words (Err refusal) = ReadsOptions [] words (Err refusal)
