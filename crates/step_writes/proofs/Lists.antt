-- Lists of kinds, and what an action writes of them.
use Rattle.std.proofs.Common.{◌≡◌, ◌≢◌, ℕ, Bool, true, false, eqb, List, [], ◌∷◌, refl, sym, ap, ◌∙◌, ⊎_elim}
use Rattle.std.proofs.lemmas.Bool.{or_parts}
use Rattle.std.proofs.lemmas.Bool.Decides.{eqb_tells}
use Rattle.std.specs.Prelude.{◌&&◌, ◌||◌}
use Rattle.pool_words.specs.Words.{WordKind, number}
use Rattle.step_writes.specs.Writings.{Writing, stores, swaps, exchanges, adds}
use Rattle.step_writes.specs.Writings.{is_kind, has_kind, share_kind, writes_one_of, writes_only}

-- two cases: the one kind is the other, or is not
pub kind_or : {A : Type 0} (which other : WordKind) → (is_kind which other ≡ true → number which ≡ number other → A)
    → (is_kind which other ≡ false → A) → A
kind_or which other same differ = ⊎_elim
    (λ (z : (eqb (number which) (number other) ≡ true) × (number which ≡ number other)). same z.0 z.1)
    (λ (z : (eqb (number which) (number other) ≡ false) × (number which ≢ number other)). differ z.0)
    (eqb_tells (number which) (number other))

-- lists know a kind by its number
pub has_same : (which other : WordKind) (kinds : List WordKind) → number which ≡ number other
    → has_kind which kinds ≡ has_kind other kinds
has_same which other [] e = refl
has_same which other (one ∷ rest) e =
    ap (λ (n : ℕ). eqb (number one) n || has_kind which rest) e
    ∙ ap (λ (b : Bool). is_kind one other || b) (has_same which other rest e)

-- each kind of the one list is in the other
abbrev pub all_in : List WordKind → List WordKind → Bool
all_in [] kinds = true
all_in (which ∷ rest) kinds = has_kind which kinds && all_in rest kinds

parts : (a b : Bool) → (a && b) ≡ true → (a ≡ true) × (b ≡ true)
parts true b e = (refl, e)
parts false b e = absurd (cc)

has_more : (which : WordKind) (kinds more : List WordKind) → all_in kinds more ≡ true → has_kind which kinds ≡ true
    → has_kind which more ≡ true
has_more which [] more all has = absurd (cc)
has_more which (one ∷ rest) more all has =
    let both = parts (has_kind one more) (all_in rest more) all in
    kind_or one which
    (λ is same. sym (has_same one which more same) ∙ both.0)
    (λ other. has_more which rest more both.1 (sym (ap (λ (b : Bool). b || has_kind which rest) other) ∙ has))

pub only_more : (kinds more : List WordKind) (w : Writing) → all_in kinds more ≡ true → writes_only kinds w ≡ true
    → writes_only more w ≡ true
only_more kinds more (stores which) all e = has_more which kinds more all e
only_more kinds more (swaps which) all e = has_more which kinds more all e
only_more kinds more (exchanges which) all e = has_more which kinds more all e
only_more kinds more (adds which) all e = has_more which kinds more all e
only_more kinds more _ all e = refl

apart : (which : WordKind) (ours kinds : List WordKind) → share_kind ours kinds ≡ false → has_kind which kinds ≡ true
    → has_kind which ours ≡ false
apart which [] kinds none has = refl
apart which (one ∷ rest) kinds none has =
    let both = or_parts (has_kind one kinds) (share_kind rest kinds) none in
    kind_or one which
    (λ is same. let bad : true ≡ false = sym has ∙ sym (has_same one which kinds same) ∙ both.0 in absurd (cc))
    (λ other. ap (λ (b : Bool). b || has_kind which rest) other ∙ apart which rest kinds both.1 has)

-- what writes words of these kinds alone writes none of kinds that are not among them
pub writes_none : (ours kinds : List WordKind) (w : Writing) → share_kind ours kinds ≡ false
    → writes_only kinds w ≡ true → writes_one_of ours w ≡ false
writes_none ours kinds (stores which) none e = apart which ours kinds none e
writes_none ours kinds (swaps which) none e = apart which ours kinds none e
writes_none ours kinds (exchanges which) none e = apart which ours kinds none e
writes_none ours kinds (adds which) none e = apart which ours kinds none e
writes_none ours kinds _ none e = refl

-- what is none of these kinds is another kind than each of them
pub other_kind : (which other : WordKind) (ours : List WordKind) → has_kind which ours ≡ false
    → has_kind other ours ≡ true → number which ≢ number other
other_kind which other ours none has = λ same.
    let bad : true ≡ false = sym has ∙ sym (has_same which other ours same) ∙ none in cc
