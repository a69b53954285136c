-- What a name's word on the board stands for: nothing yet, null, or a place.
use Rattle.std.specs.Prelude.{◌≡◌, ℕ, ◌+◌, ◌-◌, ◌*◌, ◌/◌, ◌%◌, Bool, true, ◌&&◌, cond, ltb, Option, Some, None}
use Rattle.pool_types.specs.declared.values.Place.{Place}

-- the word of null
abbrev pub null_word : ℕ
null_word = 1

-- the place has a word of its own
abbrev pub is_small : Place → Bool
is_small place = ltb place.pool 8 && ltb place.region 4194304 && ltb place.offset 134217728

abbrev pub small_word : Place → ℕ
small_word place = (place.pool * 4194304 + place.region) * 134217728 + place.offset + 2

-- the word that stands for the place, or that of null where it has none
abbrev pub word_of_place : Place → ℕ
word_of_place place = cond (is_small place) (small_word place) null_word

-- the place of a code
abbrev pub coded : ℕ → Place
coded code = record {
  pool = code / 134217728 / 4194304 % 65536;
  region = code / 134217728 % 4194304;
  offset = code % 134217728;
}

-- the place that a word stands for, or null
abbrev pub place_of_word : ℕ → Option Place
place_of_word word = cond (ltb word 2) None (Some (coded (word - 2)))

-- a place that has a word of its own is the one that its word stands for
abbrev pub WordsAreReadBack : Type 0
WordsAreReadBack = (place : Place) → is_small place ≡ true → place_of_word (word_of_place place) ≡ Some place
