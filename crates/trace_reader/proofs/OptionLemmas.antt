-- Options that are all of other places.
use Rattle.std.proofs.Common.{◌≡◌, ℕ, add-one, drop, drop-cons, get_or, ◌+◌, ◌<◌, ◌≤◌, ◌⊎◌, inl, inr, Bool, true, false, ◌||◌, List, [], ◌∷◌, ◌++◌, length, map, rules, refl, sym, ◌∙◌, ap, subst, arith}
use Rattle.std.specs.Prelude.{nat_eq, Result, Ok, Err}
use Rattle.std.specs.Borrow.{Bor}
use Rattle.std.specs.List.{drop-map}
use Rattle.trace_reader.specs.declared.refusal.Refusal.{Refusal}
use Rattle.trace_reader.specs.declared.refusal.Refusal.TheVariants.{PoolOrder}
use Rattle.trace_reader.specs.Words.{bytes_in}
use Rattle.std.specs.List.{list_any, IsDistinct}
use Rattle.std.proofs.lemmas.Cmp.{nat_eq_equiv}
use Rattle.std.proofs.lemmas.List.{map-append, length-map, length-append}
use Rattle.std.proofs.lemmas.Map.Keys.{IsDistinct-push}
use Rattle.std.proofs.lemmas.Map.Steps.{length-le_from_distinct_below}
use Rattle.std.proofs.lemmas.Bool.{or_cases}
use Rattle.std.proofs.lemmas.Bool.Decides.{Decides-eqb}
use Rattle.trace_reader.specs.declared.acts.PoolOption.{PoolOption}
use Rattle.trace_reader.specs.declared.acts.PoolOption.TheVariants.{Fixed}
use Rattle.trace_reader.specs.Options.{option_place, has_option, ReadsOption, ReadsOptions}

option_place-lt : (option : PoolOption) → option_place option < 9
option_place-lt Fixed = omega arith
option_place-lt option = omega arith

places_below : (options : List PoolOption) (q : ℕ) → list_any (nat_eq q) (map option_place options) ≡ true → q < 9
places_below [] q is = let h : false ≡ true = is in absurd (cc)
places_below (option ∷ options) q is = elim (or_cases (nat_eq q (option_place option)) (list_any (nat_eq q) (map option_place options)) is)
    [ inl here ↦ subst (λ (n : ℕ). n < 9) (sym ((Decides-eqb q (option_place option)).0 here)) (option_place-lt option) | inr there ↦ places_below options q there ]

-- no two of the options have one place
pub record AreApart (options : List PoolOption) : Type 0 where
  pub apart : IsDistinct nat_eq (map option_place options)

pub AreApart-none : AreApart []
unfolding IsDistinct
AreApart-none = record { apart = search rules }

any_place : (place : ℕ) (options : List PoolOption) → list_any (nat_eq place) (map option_place options) ≡ list_any (λ other. nat_eq place (option_place other)) options
any_place place [] = refl
any_place place (option ∷ options) = ap (λ (b : Bool). nat_eq place (option_place option) || b) (any_place place options)

-- one more place
pub AreApart-more : (options : List PoolOption) (option : PoolOption) → AreApart options → has_option options option ≡ false → AreApart (options ++ option ∷ [])
AreApart-more options option are new = record {
  apart = subst (λ (ps : List ℕ). IsDistinct nat_eq ps) (sym (map-append option_place options (option ∷ [])))
      (IsDistinct-push nat_eq_equiv (map option_place options) (option_place option) are.apart (any_place (option_place option) options ∙ new));
}

-- there are at most nine places
pub AreApart-length : (options : List PoolOption) → AreApart options → length options ≤ 9
AreApart-length options are = omega (arith, length-map options option_place, length-le_from_distinct_below (map option_place options) 9 are.apart (places_below options))

-- and fewer where one is missing
pub room_for : (options : List PoolOption) (option : PoolOption) → AreApart options → has_option options option ≡ false → length options < 9
room_for options option are new = omega (arith, AreApart-length (options ++ option ∷ []) (AreApart-more options option are new), length-append options (option ∷ []))

-- what a list of words has behind its end
abbrev pub no_word : Bor (List ℕ)
no_word = record { ref_ptr = (0, 0); now = [] }

-- the words from a place on begin with the word there
pub words_from : (words : List (Bor (List ℕ))) (i : ℕ) → i < length words → drop i (map bytes_in words) ≡ (get_or words i no_word).now ∷ drop (i + 1) (map bytes_in words)
words_from words i below =
    let cut : drop i words ≡ get_or words i no_word ∷ drop (i + 1) words = rw add-one (drop-cons words i no_word below) in
    drop-map bytes_in i words ∙ ap (map bytes_in) cut ∙ ap (λ (ws : List (List ℕ)). (get_or words i no_word).now ∷ ws) (sym (drop-map bytes_in (i + 1) words))

-- one word of a pool line was refused
pub option_refused : (had : List PoolOption) (words rest : List (List ℕ)) (word : List ℕ) (refusal : Refusal) → words ≡ word ∷ rest → ReadsOption word (Err refusal) → ReadsOptions had words (Err refusal)
option_refused had words rest word refusal is reads = subst (λ (ws : List (List ℕ)). ReadsOptions had ws (Err refusal)) (sym is) (inl (refusal, reads, refl))

-- one option of a pool line stands twice
pub option_twice : (had : List PoolOption) (words rest : List (List ℕ)) (word : List ℕ) (option : PoolOption) → words ≡ word ∷ rest → ReadsOption word (Ok option) → has_option had option ≡ true → ReadsOptions had words (Err PoolOrder)
option_twice had words rest word option is reads twice = subst (λ (ws : List (List ℕ)). ReadsOptions had ws (Err PoolOrder)) (sym is) (inr (inl (option, reads, twice, refl)))

-- one more option of a pool line
pub option_more : (had more : List PoolOption) (words rest : List (List ℕ)) (word : List ℕ) (option : PoolOption) (result : Result (List PoolOption) Refusal) → words ≡ word ∷ rest → ReadsOption word (Ok option) → has_option had option ≡ false →
    more ≡ had ++ option ∷ [] → ReadsOptions more rest result → ReadsOptions had words result
option_more had more words rest word option result is reads new pushed reads_rest = subst (λ (ws : List (List ℕ)). ReadsOptions had ws result) (sym is)
    (inr (inr (option, reads, new, subst (λ (os : List PoolOption). ReadsOptions os rest result) pushed reads_rest)))
