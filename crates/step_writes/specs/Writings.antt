-- What an action does to a word: the kind of the word that it writes, and how.
use Rattle.std.specs.Prelude.{◌≡◌, ◌≢◌, ℕ, Bool, true, false, eqb, ◌||◌, List, [], ◌∷◌, ⊤}
use Rattle.pool_words.specs.declared.actions.Action.{Action}
use Rattle.pool_words.specs.declared.actions.Action.TheVariants.{Load, Store, Swap, Exchange, Add, TakeOffice}
use Rattle.pool_words.specs.declared.actions.Action.TheVariants.{GiveOffice, Nothing}
use Rattle.pool_words.specs.declared.words.Word.{Word}
use Rattle.pool_words.specs.Words.{WordKind, number, kind_of_word, at_of}

pub data Writing : Type 0 where
  rests : Writing
  takes_office : Writing
  gives_office : Writing
  loads : Writing
  stores : WordKind → Writing
  swaps : WordKind → Writing
  exchanges : WordKind → Writing
  adds : WordKind → Writing

abbrev pub writing_of : Action → Writing
writing_of (Load w) = loads
writing_of (Store w value) = stores (kind_of_word w)
writing_of (Swap w value) = swaps (kind_of_word w)
writing_of (Exchange w from to) = exchanges (kind_of_word w)
writing_of (Add w value) = adds (kind_of_word w)
writing_of (TakeOffice job) = takes_office
writing_of GiveOffice = gives_office
writing_of Nothing = rests

abbrev pub is_kind : WordKind → WordKind → Bool
is_kind which other = eqb (number which) (number other)

abbrev pub has_kind : WordKind → List WordKind → Bool
has_kind which [] = false
has_kind which (other ∷ rest) = is_kind other which || has_kind which rest

-- whether two lists have a kind in common
abbrev pub share_kind : List WordKind → List WordKind → Bool
share_kind [] others = false
share_kind (which ∷ rest) others = has_kind which others || share_kind rest others

-- whether it may change a word of one of these kinds
abbrev pub writes_one_of : List WordKind → Writing → Bool
writes_one_of kinds rests = false
writes_one_of kinds takes_office = false
writes_one_of kinds gives_office = false
writes_one_of kinds loads = false
writes_one_of kinds (stores which) = has_kind which kinds
writes_one_of kinds (swaps which) = has_kind which kinds
writes_one_of kinds (exchanges which) = has_kind which kinds
writes_one_of kinds (adds which) = has_kind which kinds

-- whether it changes none but words of these kinds
abbrev pub writes_only : List WordKind → Writing → Bool
writes_only kinds rests = true
writes_only kinds takes_office = true
writes_only kinds gives_office = true
writes_only kinds loads = true
writes_only kinds (stores which) = has_kind which kinds
writes_only kinds (swaps which) = has_kind which kinds
writes_only kinds (exchanges which) = has_kind which kinds
writes_only kinds (adds which) = has_kind which kinds

-- the word is another one than that of this kind and index
abbrev pub IsOther : WordKind → ℕ → Word → Type 0
IsOther which i w = number (kind_of_word w) ≡ number which → at_of w ≢ i

-- the action writes no such word
abbrev pub WritesOther : WordKind → ℕ → Action → Type 0
WritesOther which i (Load w) = ⊤
WritesOther which i (Store w value) = IsOther which i w
WritesOther which i (Swap w value) = IsOther which i w
WritesOther which i (Exchange w from to) = IsOther which i w
WritesOther which i (Add w value) = IsOther which i w
WritesOther which i (TakeOffice job) = ⊤
WritesOther which i GiveOffice = ⊤
WritesOther which i Nothing = ⊤
