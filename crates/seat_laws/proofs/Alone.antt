-- What a step leaves of another seat, where it stores no guard.
use Rattle.std.proofs.Common.{◌≡◌, ◌≢◌, ◌⊎◌, ℕ, ◌+◌, ◌<◌, ◌≤◌, Bool, true, false, cond, eqb, refl, sym, ap}
use Rattle.std.proofs.Common.{subst, arith, ◌∙◌}
use Rattle.std.proofs.lemmas.Bool.Decides.{nat_tests}
use Rattle.std.specs.Prelude.{◌&&◌, not}
use Rattle.pool_words.specs.declared.actions.Action.{Action}
use Rattle.pool_words.specs.declared.actions.Action.TheVariants.{Add, Exchange, GiveOffice, Load, Nothing, Store, Swap}
use Rattle.pool_words.specs.declared.actions.Action.TheVariants.{TakeOffice}
use Rattle.pool_words.specs.declared.words.Key.{Key}
use Rattle.pool_words.specs.declared.words.Word.{Word}
use Rattle.pool_words.specs.Words.{WordKind, kind_of_word, lefts, number, sizes, at_of, length_of}
use Rattle.word_codes.specs.Guards.{guard_of}
use Rattle.guards.specs.declared.win.Side.{Side}
use Rattle.word_laws.specs.Memory.{Mem, after, put, stored, word_at, write}
use Rattle.word_laws.proofs.CallerLemmas.{less_or, put_else, stored-valid, stored-void}
use Rattle.guard_laws.specs.Blocks.{BlocksWhole, Place, Use, put_range}
use Rattle.guard_laws.specs.Steps.{guard_in}
use Rattle.use_laws.specs.Pools.{Pool}
use Rattle.pool_laws.specs.Wholes.{Whole}
use Rattle.seat_hands.specs.Moved.{HandsStand, IsNotOf}
use Rattle.seat_hands.proofs.CallerLemmas.{hands_stand_elsewhere, others_are_none}
use Rattle.seat_laws.specs.Stays.{BlocksStay, ListsStay}

-- no guard's word
abbrev pub no_guard : WordKind → Bool
no_guard kind = not (eqb (number kind) (number sizes)) && not (eqb (number kind) (number lefts))

abbrev pub spares : Action → Bool
spares (Load w) = true
spares (Store w value) = no_guard (kind_of_word w)
spares (Swap w value) = no_guard (kind_of_word w)
spares (Exchange w from to) = no_guard (kind_of_word w)
spares (Add w value) = no_guard (kind_of_word w)
spares (TakeOffice job) = true
spares GiveOffice = true
spares Nothing = true

pub record SameGuards (m m' : Mem) : Type 0 where
  pub begins : m' sizes ≡ m sizes
  pub ends : m' lefts ≡ m lefts

pub same_guards : (m : Mem) → SameGuards m m
same_guards m = record { begins = refl; ends = refl }

spared : (m : Mem) (kind : WordKind) (i v : ℕ) → no_guard kind ≡ true → SameGuards m (write m kind i v)
spared m kind i v none = by (eqb (number kind) (number sizes)) (eqb (number kind) (number lefts)) refl refl none
  where
    by : (a b : Bool) → eqb (number kind) (number sizes) ≡ a → eqb (number kind) (number lefts) ≡ b
        → (not a && not b) ≡ true → SameGuards m (write m kind i v)
    by true b e f none = absurd (cc)
    by false true e f none = absurd (cc)
    by false false e f none = record {
      begins = ap (λ is. cond is (put (m sizes) i v) (m sizes)) e;
      ends = ap (λ is. cond is (put (m lefts) i v) (m lefts)) f;
    }

pub stored_spared : (k : Key) (m : Mem) (w : Word) (v : ℕ) → no_guard (kind_of_word w) ≡ true
    → SameGuards m (stored k m w v)
stored_spared k m w v none = less_or (at_of w) (length_of k (kind_of_word w))
    (λ valid. subst (SameGuards m) (sym (stored-valid k m w v valid)) (spared m (kind_of_word w) (at_of w) v none))
    (λ void. subst (SameGuards m) (sym (stored-void k m w v void)) (same_guards m))

either : (b : Bool) (m m' : Mem) → SameGuards m m' → SameGuards m (cond b m' m)
either true m m' same = same
either false m m' same = same_guards m

pub after_spared : (k : Key) (m : Mem) (action : Action) → spares action ≡ true → SameGuards m (after k m action)
after_spared k m (Load w) none = same_guards m
after_spared k m (Store w value) none = stored_spared k m w value none
after_spared k m (Swap w value) none = stored_spared k m w value none
after_spared k m (Exchange w from to) none =
    either (eqb (word_at m w) from) m (stored k m w to) (stored_spared k m w to none)
after_spared k m (Add w value) none = stored_spared k m w _ none
after_spared k m (TakeOffice job) none = same_guards m
after_spared k m GiveOffice none = same_guards m
after_spared k m Nothing none = same_guards m

pub guard_stays : (m m' : Mem) (e : Side) (y : ℕ) → SameGuards m m' → guard_in m' e y ≡ guard_in m e y
guard_stays m m' Side.Begin y same = ap (λ f. guard_of (f y)) same.begins
guard_stays m m' Side.End y same = ap (λ f. guard_of (f y)) same.ends

pub blocks_stay : (p later : Pool) (t : ℕ) → HandsStand later.blocks.place p.blocks.place t
    → SameGuards p.mem later.mem → BlocksStay p later t
blocks_stay p later t stand same = record {
  stand = stand;
  shut = λ e y x n taking g is none guard shut says. guard_stays p.mem later.mem e y same ∙ says;
}

pub lists_stay : (w later : Whole) (t : ℕ) → SameGuards w.pool.mem later.pool.mem → later.settled ≡ w.settled
    → later.items ≡ w.items → ListsStay w later t
lists_stay w later t same settled items = record {
  first = λ job one is says. guard_stays w.pool.mem later.pool.mem Side.Begin one.first same ∙ says;
  settled = λ s y one inside is has. ap (λ f. f s) (sym settled) ∙ is;
  items = λ b has. ap (λ f. f b) items;
}

-- another has a value of its own
pub not_put : {A : Type 0} (f : ℕ → A) (seat t : ℕ) (a : A) → seat ≢ t → put f seat a t ≡ f t
not_put f seat t a ne = put_else f seat t a ne

-- before a range, and behind it
pub range_out : (f : ℕ → Place) (a m : ℕ) (v : Place) (z : ℕ) → (z < a) ⊎ (a + m ≤ z) → put_range f a m v z ≡ f z
range_out f a m v z out = grind (arith, nat_tests)

-- a block that is not the seat's has another use
pub stand_used : (place : ℕ → Place) (t x n : ℕ) (was : Use) (now : Place) → BlocksWhole place
    → place x ≡ Place.Block x n was → IsNotOf t was → HandsStand (put_range place x n now) place t
stand_used place t x n was now whole is other =
    hands_stand_elsewhere place (put_range place x n now) t x n (others_are_none place t x n was whole is other)
    (λ z out. range_out place x n now z out)

pub stand_same : (place : ℕ → Place) (t : ℕ) → HandsStand place place t
stand_same place t y m taking is = refl
