-- Names of threads, and bound names.
use Rattle.std.specs.Prelude.{◌≡◌, ◌≢◌, ℕ, ◌+◌, ◌*◌, Bool, true, false, ◌&&◌, ◌||◌, ◌==◌, nat_le, nat_lt, List, [], ◌∷◌, length, codes, Some, None}
use Rattle.std.specs.List.{list_all}
use Rattle.std.specs.declared.option.Option.{Option}
use Rattle.pool_types.specs.Limits.{bound_name_bytes, thread_name_bytes}
use Rattle.pool_types.specs.declared.texts.ThreadName.{ThreadName}

-- one of the 26 letters from this one on
abbrev pub is_letter : ℕ → ℕ → Bool
is_letter first byte = nat_le first byte && nat_lt byte (first + 26)

-- such a letter, a digit or `_`
abbrev pub may_follow : ℕ → ℕ → Bool
may_follow first byte = is_letter first byte || ((nat_le 48 byte && nat_lt byte 58) || (byte == 95))

-- a letter, and then fewer than so many letters, digits and `_`
abbrev pub is_name : ℕ → ℕ → List ℕ → Bool
is_name first most [] = false
is_name first most (letter ∷ more) = is_letter first letter
    && (nat_lt (length more) most && list_all (may_follow first) more)

-- a thread's name has capital letters and at most 8 bytes
abbrev pub IsThreadName : List ℕ → Type 0
IsThreadName word = is_name 65 thread_name_bytes word ≡ true

-- a bound name has small letters and at most 16 bytes, and is not `null`
abbrev pub IsBoundName : List ℕ → Type 0
IsBoundName word = (is_name 97 bound_name_bytes word ≡ true) × (word ≢ codes "null")

-- the thread's name that the word spells, or that it spells none
abbrev pub IsThreadNameOf : List ℕ → Option ThreadName → Type 0
IsThreadNameOf word (Some name) = (word ≡ name.bytes.items) × IsThreadName word
IsThreadNameOf word None = IsThreadName word → ⊥

-- a name's bytes as one number, the first byte the least: no two names have the same one
abbrev pub name_key : List ℕ → ℕ
name_key [] = 0
name_key (byte ∷ bytes) = byte + 256 * name_key bytes
