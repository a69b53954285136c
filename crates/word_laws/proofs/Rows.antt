-- Where the words of a kind lie in the row.
use Rattle.std.proofs.Common.{◌≡◌, ◌≢◌, ℕ, zero, suc, ◌+◌, ◌<◌, ◌≤◌, Bool, true, false, cond, eqb, ltb, List, [], ◌∷◌, ap, ⊎_elim, arith}
use Rattle.std.specs.Prelude.{slice_index}
use Rattle.std.proofs.lemmas.Bool.Decides.{eqb_tells, leb_tells}
use Rattle.pool_words.specs.declared.words.Key.{Key}
use Rattle.pool_words.specs.declared.words.Word.{Word}
use Rattle.pool_words.specs.Words.{WordKind, marks, kinds, owns, publics, nexts, headers, sizes, lefts, bin_locks, bin_heads, forwards, backwards, queues, queue_links, mailboxes, orphans, cache_locks, cache_heads, cache_items, cache_used, cache_means, cache_thresholds, cache_gets, cache_cleaned, cache_links, cache_ages, clocks, office_locks, regions, bases, number, kind_of_word, at_of, lengths, offset, length_of, base_of, words_of, index_of, placed}
use Rattle.word_laws.specs.Memory.{Valid}

-- two cases by a test
pub less_or : {A : Type 0} (i j : ℕ) → (i < j → A) → (j ≤ i → A) → A
less_or i j below above = ⊎_elim
    (λ (z : (ltb i j ≡ true) × (suc i ≤ j)). below z.1)
    (λ (z : (ltb i j ≡ false) × (j < suc i)). above (let h = z.1 in omega arith))
    (leb_tells (suc i) j)

pub equal_or : {A : Type 0} (i j : ℕ) → (i ≡ j → A) → (i ≢ j → A) → A
equal_or i j same other = ⊎_elim
    (λ (z : (eqb i j ≡ true) × (i ≡ j)). same z.1)
    (λ (z : (eqb i j ≡ false) × (i ≢ j)). other z.1)
    (eqb_tells i j)

-- a choice by a test that holds, and by one that does not
pub chosen : {A : Type 0} (i j : ℕ) (x y : A) → i < j → cond (ltb i j) x y ≡ x
chosen i j x y h = ⊎_elim
    (λ (z : (ltb i j ≡ true) × (suc i ≤ j)). ap (λ (b : Bool). cond b x y) z.0)
    (λ (z : (ltb i j ≡ false) × (j < suc i)). let n = z.1 in absurd (omega arith))
    (leb_tells (suc i) j)

pub not_chosen : {A : Type 0} (i j : ℕ) (x y : A) → j ≤ i → cond (ltb i j) x y ≡ y
not_chosen i j x y h = ⊎_elim
    (λ (z : (ltb i j ≡ true) × (suc i ≤ j)). let n = z.1 in absurd (omega arith))
    (λ (z : (ltb i j ≡ false) × (j < suc i)). ap (λ (b : Bool). cond b x y) z.0)
    (leb_tells (suc i) j)

-- one kind's words end where a later kind's begin, or before
offset_apart : (l : List ℕ) (c d : ℕ) → c < d → offset l c + slice_index l c ≤ offset l d
offset_apart [] c d h = omega arith
offset_apart (x ∷ xs) zero zero h = absurd (omega arith)
offset_apart (x ∷ xs) zero (suc d) h = omega arith
offset_apart (x ∷ xs) (suc c) zero h = absurd (omega arith)
offset_apart (x ∷ xs) (suc c) (suc d) h =
    let r : offset xs c + slice_index xs c ≤ offset xs d = offset_apart xs c d (omega arith) in omega arith

few : (kind : WordKind) → number kind < 30
few marks = omega arith
few kinds = omega arith
few owns = omega arith
few publics = omega arith
few nexts = omega arith
few headers = omega arith
few sizes = omega arith
few lefts = omega arith
few bin_locks = omega arith
few bin_heads = omega arith
few forwards = omega arith
few backwards = omega arith
few queues = omega arith
few queue_links = omega arith
few mailboxes = omega arith
few orphans = omega arith
few cache_locks = omega arith
few cache_heads = omega arith
few cache_items = omega arith
few cache_used = omega arith
few cache_means = omega arith
few cache_thresholds = omega arith
few cache_gets = omega arith
few cache_cleaned = omega arith
few cache_links = omega arith
few cache_ages = omega arith
few clocks = omega arith
few office_locks = omega arith
few regions = omega arith
few bases = omega arith

pub inside : (k : Key) (kind : WordKind) (i : ℕ) → i < length_of k kind → base_of k kind + i < words_of k
inside k kind i h =
    let r : offset (lengths k) (number kind) + slice_index (lengths k) (number kind) ≤ offset (lengths k) 30
    = offset_apart (lengths k) (number kind) 30 (few kind) in
    omega arith

pub apart : (k : Key) (c d : WordKind) (i j : ℕ) → i < length_of k c → j < length_of k d
    → (number c ≡ number d → i ≢ j) → base_of k d + j ≢ base_of k c + i
apart k c d i j a b n = λ same. equal_or (number c) (number d)
    (λ e. n e (let at : base_of k c ≡ base_of k d = ap (offset (lengths k)) e in omega arith))
    (λ differ. less_or (number c) (number d)
    (λ less.
    let r : offset (lengths k) (number c) + slice_index (lengths k) (number c) ≤ offset (lengths k) (number d)
    = offset_apart (lengths k) (number c) (number d) less in
    omega arith)
    (λ more.
    let h : number d < number c = omega arith in
    let r : offset (lengths k) (number d) + slice_index (lengths k) (number d) ≤ offset (lengths k) (number c)
    = offset_apart (lengths k) (number d) (number c) h in
    omega arith))

-- where a word lies that is one of the pool's, and one that is none
pub index-valid : (k : Key) (w : Word) → Valid k w → index_of k w ≡ base_of k (kind_of_word w) + at_of w
unfolding placed
index-valid k w h =
    chosen (at_of w) (length_of k (kind_of_word w)) (base_of k (kind_of_word w) + at_of w) (words_of k) h

pub index-void : (k : Key) (w : Word) → length_of k (kind_of_word w) ≤ at_of w → index_of k w ≡ words_of k
unfolding placed
index-void k w h =
    not_chosen (at_of w) (length_of k (kind_of_word w)) (base_of k (kind_of_word w) + at_of w) (words_of k) h
