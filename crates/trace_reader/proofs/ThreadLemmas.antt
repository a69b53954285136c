-- The names of a line, one after another.
use Rattle.std.proofs.Common.{◌≡◌, ℕ, zero, suc, ◌+◌, ◌<◌, ◌≤◌, inl, inr, Bool, List, [], ◌∷◌, ◌++◌, length, get_or, take, map, refl, sym, ◌∙◌, ap, subst, arith}
use Rattle.std.specs.Borrow.{Bor}
use Rattle.std.specs.Prelude.{Result, Ok, Err, slice_get, Some, None}
use Rattle.std.specs.declared.option.Option.{Option}
use Rattle.std.proofs.lemmas.List.{take_more, map-append, length-append}
use Rattle.pool_types.specs.Limits.{most_threads}
use Rattle.trace_reader.specs.declared.refusal.Refusal.{Refusal}
use Rattle.trace_reader.specs.declared.acts.Act.{Act}
use Rattle.trace_reader.specs.declared.acts.Act.TheVariants as act
use Rattle.trace_reader.specs.Words.{bytes_in}
use Rattle.trace_reader.specs.Names.{IsThreadName}
use Rattle.trace_reader.specs.Acts.{ReadsName, ReadsNames, AreThreadNames}
use Rattle.trace_reader.proofs.OptionLemmas.{no_word}

-- the words up to a place, with the word there
pub words_to : (words : List (Bor (List ℕ))) (i : ℕ) → i < length words → map bytes_in (take (i + 1) words) ≡ map bytes_in (take i words) ++ (get_or words i no_word).now ∷ []
words_to words i below = ap (map bytes_in) (take_more words i no_word below) ∙ map-append bytes_in (take i words) (get_or words i no_word ∷ [])

-- one name of a line was refused
pub name_refused : (more : Bool) (had words rest : List (List ℕ)) (word : List ℕ) (refusal : Refusal) → words ≡ word ∷ rest → ReadsName more had word (Err refusal) → ReadsNames more had words (Err refusal)
name_refused more had words rest word refusal is reads = subst (λ (ws : List (List ℕ)). ReadsNames more had ws (Err refusal)) (sym is) (inl (refusal, reads, refl))

-- one more name of a line
pub name_more : (more : Bool) (had next words rest : List (List ℕ)) (word : List ℕ) (result : Result Act Refusal) → words ≡ word ∷ rest → ReadsName more had word (Ok word) → next ≡ had ++ word ∷ [] →
    ReadsNames more next rest result → ReadsNames more had words result
name_more more had next words rest word result is reads whole reads_rest = subst (λ (ws : List (List ℕ)). ReadsNames more had ws result) (sym is)
    (inr (word, reads, subst (λ (ns : List (List ℕ)). ReadsNames more ns rest result) whole reads_rest))

-- words that were read as the names of the threads are names
each_name : (more : Bool) (had words : List (List ℕ)) → ReadsNames more had words (Ok act.Threads) → (k : ℕ) (word : List ℕ) → slice_get words k ≡ Some word → IsThreadName word
each_name more had [] reads k word is = let h : ◌≡◌ {A = Option (List ℕ)} None (Some word) = is in absurd (cc)
each_name more had (first ∷ words) reads zero word is = elim reads [
  | inl refused ↦ let h : ◌≡◌ {A = Result Act Refusal} (Ok act.Threads) (Err refused.0) = refused.2 in absurd (cc)
  | inr read ↦ let j : ◌≡◌ {A = Option (List ℕ)} (Some first) (Some word) = is in let h : first ≡ word = cc in subst IsThreadName h read.1.3
]
each_name more had (first ∷ words) reads (suc k) word is = elim reads [
  | inl refused ↦ let h : ◌≡◌ {A = Result Act Refusal} (Ok act.Threads) (Err refused.0) = refused.2 in absurd (cc)
  | inr read ↦ each_name more (had ++ first ∷ []) words read.2 k word is
]

few_names : (more : Bool) (had words : List (List ℕ)) → length had ≤ most_threads → ReadsNames more had words (Ok act.Threads) → length had + length words ≤ most_threads
few_names more had [] few reads = omega arith
few_names more had (first ∷ words) few reads = elim reads [
  | inl refused ↦ let h : ◌≡◌ {A = Result Act Refusal} (Ok act.Threads) (Err refused.0) = refused.2 in absurd (cc)
  | inr read ↦ omega (arith, read.1.2, length-append had (first ∷ []), few_names more (had ++ first ∷ []) words (omega (arith, read.1.2, length-append had (first ∷ []))) read.2)
]

pub are_names : (more : Bool) (words : List (List ℕ)) → ReadsNames more [] words (Ok act.Threads) → AreThreadNames words
are_names more words reads = record { names = each_name more [] words reads; few = omega (arith, few_names more [] words (omega arith) reads) }
