-- How the words of a line are read, from left to right.
use Rattle.std.specs.Prelude.{◌≡◌, ℕ, ◌+◌, ◌<◌, ◌≤◌, ◌⊎◌, List, length, slice_get, Some, None, Result, Ok, Err}
use Rattle.std.specs.declared.option.Option.{Option}
use Rattle.trace_reader.specs.declared.refusal.Refusal.{Refusal}
use Rattle.trace_reader.specs.declared.refusal.Refusal.TheVariants.{Spelling}

-- what a word is read as, or that it is missing
abbrev pub OnWord : {A : Type 0} → (List ℕ → Result A Refusal → Type 0) → Option (List ℕ) → Result A Refusal → Type 0
OnWord slot None result = result ≡ Err Spelling
OnWord slot (Some word) result = slot word result

-- what the word at this place is read as
abbrev pub WordAt : {A : Type 0} → (List ℕ → Result A Refusal → Type 0) → List (List ℕ) → ℕ → Result A Refusal → Type 0
WordAt slot words at result = OnWord slot (slice_get words at) result

-- the word at this place is read, and then what follows it
abbrev pub Then : {A B : Type 0} → (List ℕ → Result A Refusal → Type 0)
    → (A → List (List ℕ) → ℕ → Result B Refusal → Type 0) → List (List ℕ) → ℕ → Result B Refusal → Type 0
Then {A} slot next words at result = ((refusal : Refusal) × WordAt slot words at (Err refusal) × (result ≡ Err refusal))
    ⊎ ((value : A) × WordAt slot words at (Ok value) × next value words (at + 1) result)

-- the words end here, and mean this
abbrev pub Ends : {A : Type 0} → A → List (List ℕ) → ℕ → Result A Refusal → Type 0
Ends value words at result = ((length words ≤ at) × (result ≡ Ok value))
    ⊎ ((at < length words) × (result ≡ Err Spelling))

-- the same words, as a part of a greater value
abbrev pub Wraps : {A B : Type 0} → (A → B) → (List (List ℕ) → ℕ → Result A Refusal → Type 0) → List (List ℕ) → ℕ
    → Result B Refusal → Type 0
Wraps {A} wrap form words at result = ((refusal : Refusal) × form words at (Err refusal) × (result ≡ Err refusal))
    ⊎ ((value : A) × form words at (Ok value) × (result ≡ Ok (wrap value)))
