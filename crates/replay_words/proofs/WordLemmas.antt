-- What a text that was given says.
use Rattle.std.proofs.Common.{◌≡◌, ℕ, ◌<◌, ◌^◌, ◌≢◌, List, Some, None, true, false, Bool, refl, sym, ◌∙◌, ap, codes, subst}
use Rattle.std.specs.Fmt.{decimal}
use Rattle.std.proofs.lemmas.Fmt.{decimal_injective}
use Rattle.std.specs.declared.option.Option.{Option}
use Rattle.clap.specs.Walk.{Row, first_of}
use Rattle.trace_reader.specs.Words.{IsNumberOf}
use Rattle.replay_words.specs.Commands.{Gives, GivesNumber, HasMoves}

by_flag : (rows : List Row) (text : List ℕ) → Some text ≡ first_of (codes "moves") rows → (flag : Bool)
    → (flag ≡ true → text ≡ codes "true") → (flag ≡ false → text ≢ codes "true") → HasMoves rows flag
unfolding HasMoves
by_flag rows text is true = λ says not. sym is ∙ ap (λ (t : List ℕ). Some t) (says refl)
by_flag rows text is false = λ says not given. not refl (let both : Some text ≡ Some (codes "true") = is ∙ given in cc)

-- the flag is given where its text says so
pub has_text : (rows : List Row) (text : List ℕ) (given : Bool) → Some text ≡ first_of (codes "moves") rows
    → (given ≡ true → text ≡ codes "true") → (given ≡ false → text ≢ codes "true") → HasMoves rows given
has_text rows text given is says not = by_flag rows text is given says not

pub has_none : (rows : List Row) → None ≡ first_of (codes "moves") rows → HasMoves rows false
unfolding HasMoves
has_none rows is = λ given. let clash : ◌≡◌ {A = Option (List ℕ)} None (Some (codes "true")) = is ∙ given in absurd cc

-- a text spells the number that it is read as
pub number_read : (id : List ℕ) (rows : List Row) (text : List ℕ) (number : Option ℕ) → Some text ≡ first_of id rows
    → IsNumberOf text number → GivesNumber id rows number
unfolding Gives
number_read id rows text (Some number) is spells = (sym is ∙ ap (λ (t : List ℕ). Some t) spells.0, spells.1)
number_read id rows text None is spells =
    λ number small given. spells number small (let both : Some text ≡ Some (decimal number) = is ∙ given in cc)

pub number_none : (id : List ℕ) (rows : List Row) → None ≡ first_of id rows → GivesNumber id rows None
unfolding Gives
number_none id rows is =
    λ number small given. let clash : ◌≡◌ {A = Option (List ℕ)} None (Some (decimal number)) = is ∙ given in absurd cc

-- no text gives two numbers
pub gives_one : (id : List ℕ) (rows : List Row) (one other : ℕ) → one < 2 ^ 64 → other < 2 ^ 64 → Gives id rows one
    → Gives id rows other → one ≡ other
unfolding Gives
gives_one id rows one other small small' is is' =
    decimal_injective one other small small' (let both : Some (decimal one) ≡ Some (decimal other) = sym is ∙ is' in cc)
