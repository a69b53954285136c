-- The parts of a text, and numbers.
use Rattle.std.specs.Prelude.{◌≡◌, ◌≢◌, ℕ, ◌^◌, ◌<◌, ◌==◌, if◌then◌else◌, List, [], ◌∷◌, ◌++◌, length, slice_index, Some, None}
use Rattle.std.specs.Borrow.{Bor}
use Rattle.std.specs.Fmt.{decimal}
use Rattle.std.specs.declared.option.Option.{Option}

-- the number that the word spells, if it is one below 2^64
abbrev pub IsNumberOf : List ℕ → Option ℕ → Type 0
IsNumberOf word (Some n) = (word ≡ decimal n) × (n < 2 ^ 64)
IsNumberOf word None = (n : ℕ) → n < 2 ^ 64 → word ≢ decimal n

-- the word is not empty, and begins neither with a plus nor with a zero before more
pub record IsPlain (word : List ℕ) : Type 0 where
  pub some : 0 < length word
  pub unsigned : slice_index word 0 ≢ 43
  pub short : slice_index word 0 ≡ 48 → length word ≡ 1

-- one more byte in front of the first part
abbrev pub with_first : ℕ → List (List ℕ) → List (List ℕ)
with_first byte [] = (byte ∷ []) ∷ []
with_first byte (part ∷ parts) = (byte ∷ part) ∷ parts

-- the parts that a separator divides; there is one more than there are separators
abbrev pub split_on : ℕ → List ℕ → List (List ℕ)
split_on separator [] = [] ∷ []
split_on separator (byte ∷ bytes) = if byte == separator then [] ∷ split_on separator bytes else with_first byte (split_on separator bytes)

-- the words of a line, which single spaces divide
abbrev pub words_of : List ℕ → List (List ℕ)
words_of line = split_on 32 line

-- the bytes of a part
abbrev pub bytes_in : Bor (List ℕ) → List ℕ
bytes_in part = part.now

-- the byte does not stand in the text
abbrev pub HasNo : ℕ → List ℕ → Type 0
HasNo byte text = (k : ℕ) → k < length text → slice_index text k ≢ byte

-- parts that were split off, and the next one's front, before the parts of the rest
abbrev pub joined : List (List ℕ) → List ℕ → List (List ℕ) → List (List ℕ)
joined parts part [] = parts
joined parts part (next ∷ more) = parts ++ (part ++ next) ∷ more
