-- Where words lie, and what a new row holds.
use Rattle.std.proofs.Common.{◌≡◌, ℕ, ◌+◌, replicate, sym, ◌∙◌, arith}
use Rattle.std.proofs.lemmas.List.{get_or-replicate}
use Rattle.pool_words.specs.Words.{WordKind, number, kind_of_word, at_of, length_of, base_of, words_of}
use Rattle.word_laws.specs.Memory.{memory}
use Rattle.word_laws.specs.Laws.{KindsAreApart, WordsLieInRow, NewRowsAreFresh}
use Rattle.word_laws.proofs.Rows.{less_or, equal_or, inside, apart, index-valid, index-void}
use Rattle.word_laws.proofs.Moves.{mem_found, mem_past}

pub kinds_are_apart : KindsAreApart
kinds_are_apart k one other a b same = equal_or (number (kind_of_word one)) (number (kind_of_word other))
    (λ e. equal_or (at_of one) (at_of other)
    (λ f. (e, f))
    (λ differ. absurd (apart k (kind_of_word one) (kind_of_word other) (at_of one) (at_of other) a b (λ _. differ) places)))
    (λ differ. absurd (apart k (kind_of_word one) (kind_of_word other) (at_of one) (at_of other) a b (λ e. absurd (differ e)) places))
  where
    places : base_of k (kind_of_word other) + at_of other ≡ base_of k (kind_of_word one) + at_of one
    places = sym (index-valid k other b) ∙ sym same ∙ index-valid k one a

pub words_lie_in_row : WordsLieInRow
words_lie_in_row k w = record {
  inside = λ valid. let at = index-valid k w valid in let low = inside k (kind_of_word w) (at_of w) valid in omega arith;
  behind = λ none. less_or (at_of w) (length_of k (kind_of_word w)) (λ valid. absurd (none valid)) (index-void k w);
}

pub new_rows_are_fresh : NewRowsAreFresh
new_rows_are_fresh k = λ n kind i. each kind i n
  where
    each : (kind : WordKind) (i : ℕ) → memory k (replicate (words_of k) 0) kind i ≡ 0
    each kind i = less_or i (length_of k kind)
        (λ low. mem_found k (replicate (words_of k) 0) kind i low
        ∙ get_or-replicate (words_of k) (base_of k kind + i) 0 0 (inside k kind i low))
        (mem_past k (replicate (words_of k) 0) kind i)
