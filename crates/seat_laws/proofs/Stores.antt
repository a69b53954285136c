-- What stores on words leave of guards.
use Rattle.std.proofs.Common.{◌≡◌, ◌≢◌, ℕ, ◌+◌, ◌%◌, ◌^◌, Bool, true, false, cond, eqb, refl, sym, ap, subst}
use Rattle.pool_words.specs.declared.words.Key.{Key}
use Rattle.pool_words.specs.declared.words.Word.{Word}
use Rattle.pool_words.specs.declared.actions.Action.{Action}
use Rattle.pool_words.specs.declared.actions.Action.TheVariants.{Load, Store, Swap, Exchange, Add}
use Rattle.pool_words.specs.declared.actions.Action.TheVariants.{TakeOffice, GiveOffice, Nothing}
use Rattle.pool_words.specs.Words.{WordKind, kind_of_word, at_of, length_of, number, sizes, lefts}
use Rattle.word_codes.specs.Guards.{guard_of}
use Rattle.guards.specs.declared.win.Side.{Side}
use Rattle.word_laws.specs.Memory.{Mem, stored, after, word_at}
use Rattle.word_laws.proofs.CallerLemmas.{less_or, write_else, stored-valid, stored-void}
use Rattle.guard_laws.specs.Blocks.{edge_word}
use Rattle.guard_laws.specs.Steps.{IsOtherAction, IsOtherWord, guard_in}

-- a word that is not the one stored
word_else : (k : Key) (m : Mem) (w : Word) (v : ℕ) (kind : WordKind) (j : ℕ)
    → (number (kind_of_word w) ≡ number kind → at_of w ≢ j) → stored k m w v kind j ≡ m kind j
word_else k m w v kind j apart = less_or (at_of w) (length_of k (kind_of_word w))
    (λ valid. subst (λ (x : Mem). x kind j ≡ m kind j) (sym (stored-valid k m w v valid))
    (write_else m (kind_of_word w) kind (at_of w) v j apart))
    (λ void. subst (λ (x : Mem). x kind j ≡ m kind j) (sym (stored-void k m w v void)) refl)

-- all guards say the same
abbrev pub GuardsSay : Mem → Mem → Type 0
GuardsSay m m' = (e : Side) (y : ℕ) → guard_in m' e y ≡ guard_in m e y

guards_by : (m m' : Mem) → ((y : ℕ) → m' sizes y ≡ m sizes y) → ((y : ℕ) → m' lefts y ≡ m lefts y) → GuardsSay m m'
guards_by m m' begins ends Side.Begin y = ap guard_of (begins y)
guards_by m m' begins ends Side.End y = ap guard_of (ends y)

same_stored : (k : Key) (m : Mem) (w : Word) (v : ℕ) → IsOtherWord w → GuardsSay m (stored k m w v)
same_stored k m w v other = guards_by m (stored k m w v)
    (λ y. word_else k m w v sizes y (λ same _. other.no_size same))
    (λ y. word_else k m w v lefts y (λ same _. other.no_left same))

pub same_after : (k : Key) (m : Mem) (action : Action) → IsOtherAction action → GuardsSay m (after k m action)
same_after k m (Load w) other = λ e y. refl
same_after k m (Store w v) other = same_stored k m w v other
same_after k m (Swap w v) other = same_stored k m w v other
same_after k m (Exchange w from to) other = by (eqb (word_at m w) from)
  where
    by : (b : Bool) → GuardsSay m (cond b (stored k m w to) m)
    by true = same_stored k m w to other
    by false = λ e y. refl
same_after k m (Add w v) other = same_stored k m w ((word_at m w + v) % 2 ^ 64) other
same_after k m (TakeOffice job) other = λ e y. refl
same_after k m GiveOffice other = λ e y. refl
same_after k m Nothing other = λ e y. refl

-- a guard that is not the one stored
pub guard_else : (k : Key) (m : Mem) (i e : Side) (x y v : ℕ) → (i ≡ e → x ≢ y)
    → guard_in (stored k m (edge_word i x) v) e y ≡ guard_in m e y
guard_else k m Side.Begin Side.Begin x y v apart =
    ap guard_of (word_else k m (Word.Size x) v sizes y (λ _. apart refl))
guard_else k m Side.Begin Side.End x y v apart =
    ap guard_of (word_else k m (Word.Size x) v lefts y (λ same _. absurd (cc)))
guard_else k m Side.End Side.Begin x y v apart =
    ap guard_of (word_else k m (Word.Left x) v sizes y (λ same _. absurd (cc)))
guard_else k m Side.End Side.End x y v apart =
    ap guard_of (word_else k m (Word.Left x) v lefts y (λ _. apart refl))
