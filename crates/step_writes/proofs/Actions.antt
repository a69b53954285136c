-- An action leaves each word but the one that it writes, and so the words of each kind that it does not write.
use Rattle.std.proofs.Common.{◌≡◌, ℕ, Bool, true, false, cond, eqb, List, refl, ap, ◌∙◌}
use Rattle.std.specs.Prelude.{◌+◌, ◌%◌, ◌^◌}
use Rattle.pool_words.specs.declared.actions.Action.TheVariants.{Load, Store, Swap, Exchange, Add, TakeOffice}
use Rattle.pool_words.specs.declared.actions.Action.TheVariants.{GiveOffice, Nothing}
use Rattle.pool_words.specs.declared.actions.Action.{Action}
use Rattle.pool_words.specs.declared.words.Key.{Key}
use Rattle.pool_words.specs.declared.words.Word.{Word}
use Rattle.pool_words.specs.Words.{WordKind, kind_of_word, at_of, length_of}
use Rattle.word_laws.specs.Memory.{Mem, stored, word_at}
use Rattle.word_laws.proofs.CallerLemmas.{less_or, write_else, stored-valid, stored-void}
use Rattle.step_writes.specs.Laws.{OtherKindsStand, OtherWordsStand}
use Rattle.step_writes.specs.Writings.{has_kind, writes_one_of, writing_of, IsOther, WritesOther}
use Rattle.step_writes.proofs.Lists.{other_kind}

stored_else : (k : Key) (m : Mem) (w : Word) (value : ℕ) (which : WordKind) (i : ℕ) → IsOther which i w
    → stored k m w value which i ≡ m which i
stored_else k m w value which i other = less_or (at_of w) (length_of k (kind_of_word w))
    (λ valid. ap (λ (n : Mem). n which i) (stored-valid k m w value valid)
    ∙ write_else m (kind_of_word w) which (at_of w) value i other)
    (λ void. ap (λ (n : Mem). n which i) (stored-void k m w value void))

either_else : (b : Bool) (n m : Mem) (which : WordKind) (i : ℕ) → n which i ≡ m which i
    → (cond {A = Mem} b n m) which i ≡ m which i
either_else true n m which i e = e
either_else false n m which i e = refl

pub other_words_stand : OtherWordsStand
other_words_stand k m which i (Load w) other = refl
other_words_stand k m which i (Store w value) other = stored_else k m w value which i other
other_words_stand k m which i (Swap w value) other = stored_else k m w value which i other
other_words_stand k m which i (Exchange w from to) other =
    either_else (eqb (word_at m w) from) (stored k m w to) m which i (stored_else k m w to which i other)
other_words_stand k m which i (Add w value) other =
    stored_else k m w ((word_at m w + value) % 2 ^ 64) which i other
other_words_stand k m which i (TakeOffice job) other = refl
other_words_stand k m which i GiveOffice other = refl
other_words_stand k m which i Nothing other = refl

-- a word of another kind is another word
kind_apart : (ours : List WordKind) (which : WordKind) (i : ℕ) (w : Word) → has_kind (kind_of_word w) ours ≡ false
    → has_kind which ours ≡ true → IsOther which i w
kind_apart ours which i w none has = λ same. absurd (other_kind (kind_of_word w) which ours none has same)

kinds_apart : (ours : List WordKind) (which : WordKind) (i : ℕ) (action : Action)
    → writes_one_of ours (writing_of action) ≡ false → has_kind which ours ≡ true → WritesOther which i action
kinds_apart ours which i (Load w) none has = tt
kinds_apart ours which i (Store w value) none has = kind_apart ours which i w none has
kinds_apart ours which i (Swap w value) none has = kind_apart ours which i w none has
kinds_apart ours which i (Exchange w from to) none has = kind_apart ours which i w none has
kinds_apart ours which i (Add w value) none has = kind_apart ours which i w none has
kinds_apart ours which i (TakeOffice job) none has = tt
kinds_apart ours which i GiveOffice none has = tt
kinds_apart ours which i Nothing none has = tt

pub other_kinds_stand : OtherKindsStand
other_kinds_stand k m action ours which none has = λ n i.
    other_words_stand k m which i action (kinds_apart ours which i action none has) n
