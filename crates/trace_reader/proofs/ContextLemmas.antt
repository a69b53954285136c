-- What stands before the next line, and words that were read.
use Rattle.std.proofs.Common.{◌≡◌, ℕ, ◌+◌, inl, inr, Bool, List, [], ◌∷◌, ◌++◌, refl, ◌∙◌, ap}
use Rattle.std.specs.Prelude.{Result, Ok, Err, Some, None, if◌then◌else◌}
use Rattle.std.specs.declared.option.Option.{Option}
use Rattle.std.specs.Str.{bytes_eq}
use Rattle.std.proofs.Math.Path.{fun_ext}
use Rattle.arrayvec.specs.ArrayVec.{ArrayVec}
use Rattle.trace_reader.specs.declared.refusal.Refusal.{Refusal}
use Rattle.trace_reader.specs.declared.acts.PoolOption.{PoolOption}
use Rattle.trace_reader.specs.declared.acts.Act.{Act}
use Rattle.trace_reader.specs.declared.acts.Act.TheVariants as act
use Rattle.trace_reader.specs.Combinators.{OnWord}
use Rattle.trace_reader.specs.Contexts.{Context}
use Rattle.trace_reader.specs.Acts.{ReadsNames, with_bound}

-- one more name is bound
pub one_bound : (before next : Context) (number : ℕ) (word : List ℕ) → next.names ≡ before.names → next.pools ≡ before.pools →
    ((other : List ℕ) → next.bound other ≡ (if bytes_eq word other then Some number else before.bound other)) → next.count ≡ before.count + 1 → next ≡ with_bound before (Some number) word
one_bound before next number word names pools bound count =
    ap (λ (ns : List (List ℕ)). record { names = ns; pools = next.pools; bound = next.bound; count = next.count }) names
    ∙ ap (λ (ps : List (ArrayVec PoolOption)). record { names = before.names; pools = ps; bound = next.bound; count = next.count }) pools
    ∙ ap (λ (f : List ℕ → Option ℕ). record { names = before.names; pools = before.pools; bound = f; count = next.count }) (fun_ext bound)
    ∙ ap (λ (n : ℕ). record { names = before.names; pools = before.pools; bound = λ other. if bytes_eq word other then Some number else before.bound other; count = n }) count

-- the word that was read
pub word_read : {A : Type 0} (slot : List ℕ → Result A Refusal → Type 0) (word : Option (List ℕ)) (value : A) → OnWord slot word (Ok value) → (text : List ℕ) × (word ≡ Some text) × slot text (Ok value)
word_read slot (Some text) value read = (text, refl, read)
word_read slot None value read = absurd (cc)

-- names that were read make a line that names threads
pub names_give : (more : Bool) (had words : List (List ℕ)) (deed : Act) → ReadsNames more had words (Ok deed) → deed ≡ act.Threads
names_give more had [] deed read = elim read [
  | inl refused ↦ let h : ◌≡◌ {A = Result Act Refusal} (Ok deed) (Err _) = refused.1 in absurd (cc)
  | inr named ↦ let h : ◌≡◌ {A = Result Act Refusal} (Ok deed) (Ok act.Threads) = named.1 in cc
]
names_give more had (word ∷ words) deed read = elim read [
  | inl refused ↦ let h : ◌≡◌ {A = Result Act Refusal} (Ok deed) (Err refused.0) = refused.2 in absurd (cc)
  | inr named ↦ names_give more (had ++ word ∷ []) words deed named.2
]
