-- Where marks lie.
use Rattle.std.proofs.Common.{◌≡◌, ℕ, ◌+◌, ◌*◌, ◌<◌, List, ap, sym, ◌∙◌, arith}
use Rattle.std.specs.Prelude.{ltb, slice_index}
use Rattle.std.proofs.lemmas.Bool.{cond-true, lt-ltb}
use Rattle.pool_words.specs.Actions.{value}
use Rattle.pool_words.specs.Words.{placed, words_of, index_of}
use Rattle.pool_words.specs.declared.words.Key.{Key}
use Rattle.pool_words.specs.declared.words.Word.{Word}

-- an index that its kind of word has
placed-inside : (at size base all : ℕ) → at < size → placed at size base all ≡ base + at
unfolding placed
placed-inside at size base all inside = cond-true (ltb at size) (base + at) all (lt-ltb at size inside)

mark-index : (k : Key) (unit : ℕ) → unit < 1024 * k.span → index_of k (Word.Mark unit) ≡ unit
mark-index k unit inside =
    let same : 0 + unit ≡ unit = omega arith in placed-inside unit (1024 * k.span) 0 (words_of k) inside ∙ same

-- the marks are the first words of the row
pub marks_first : (k : Key) (words : List ℕ) (unit : ℕ) → unit < 1024 * k.span →
    slice_index words unit ≡ value k words (Word.Mark unit)
marks_first k words unit inside = sym (ap (slice_index words) (mark-index k unit inside))
