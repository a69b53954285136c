-- The runs of any number of seats at one chain.
use Rattle.std.proofs.Common.{◌≡◌, ◌≢◌, ℕ, Bool, true, false, cond, eqb, List, [], ◌∷◌, refl, sym, ap, subst, ◌∙◌}
use Rattle.pool_words.specs.declared.words.Key.{Key}
use Rattle.pool_words.specs.declared.actions.Action.TheVariants.{Swap}
use Rattle.pool_words.specs.Words.{kind_of_word, at_of}
use Rattle.chain_words.specs.declared.pushing.PushAt.{PushAt}
use Rattle.chain_words.specs.declared.pushing.PushNext.{PushNext}
use Rattle.chain_words.specs.declared.pushing.PushNext.TheVariants.{Goes, Pushed}
use Rattle.chain_words.specs.Pushing.{push_learn}
use Rattle.word_laws.specs.Memory.{Mem, Valid, put, stored, word_at, after, found}
use Rattle.word_laws.proofs.CallerLemmas.{put_here, put_else, equal_or, write_here, write_else, stored-valid}
use Rattle.chain_laws.specs.Chains.{tally}
use Rattle.chain_laws.specs.Chains.Link.{Ends}
use Rattle.chain_laws.specs.Pushing.{ChainWords, AreApart, Push, push_action, CanPush}
use Rattle.chain_laws.specs.Seats.{Pusher, MayPush, PusherFits, IsAwayFrom, AreAway, ChainGood, items_after}
use Rattle.chain_laws.specs.Seats.{pusher_after}
use Rattle.chain_laws.specs.Seats.Pusher.{Away, Pushes}
use Rattle.chain_laws.specs.Seats.ChainRun.{starts, begins, pushes, takes}
use Rattle.chain_laws.specs.Laws.{AfterPush, SeatsPushInFront}
use Rattle.chain_laws.proofs.Tallies.{tally-else}
use Rattle.chain_laws.proofs.Pushes.{push_puts_in_front, other_pushes_stand, swap_gives_whole_chain}

-- what holds at each place of a function with one value changed
pub put-each : {A : Type 0} (P : ℕ → A → Type 0) (f : ℕ → A) (i : ℕ) (a : A) → ((j : ℕ) → i ≢ j → P j (f j)) → P i a
    → (j : ℕ) → P j (put f i a j)
put-each P f i a others here j = equal_or i j
    (λ same. subst (λ x. P j x) (sym (put_here f i j a same)) (subst (λ n. P n a) same here))
    (λ differ. subst (λ x. P j x) (sym (put_else f i j a differ)) (others j differ))

-- what holds of each two places of a function with one value changed
pub pairs-put : {A : Type 0} (R : A → A → Type 0) → ((a b : A) → R a b → R b a) → (f : ℕ → A) (i : ℕ) (a : A)
    → ((j : ℕ) → i ≢ j → R a (f j)) → ((j l : ℕ) → j ≢ l → R (f j) (f l))
    → (j l : ℕ) → j ≢ l → R (put f i a j) (put f i a l)
pairs-put R turn f i a here pairs j l differ =
    put-each (λ n x. n ≢ l → R x (put f i a l)) f i a
    (λ n far apart. put-each (λ o x. n ≢ o → R (f n) x) f i a (λ o far_too apart_too. pairs n o apart_too)
    (λ no. turn a (f n) (here n (λ same. no (sym same)))) l apart)
    (λ apart. put-each (λ o x. i ≢ o → R a x) f i a (λ o far apart_too. here o apart_too)
    (λ no. absurd (no refl)) l apart)
    j differ

-- what an action of a push, and a taking, make of the head's number
head-after : (k : Key) (c : ChainWords) (fits : ℕ → Bool) (p : Push) (m : Mem) (at : PushAt) → AreApart c
    → CanPush k c p
    → fits p.filled ≡ true → fits (word_at m c.head) ≡ true → fits (word_at (after k m (push_action c p at)) c.head)
    ≡ true
head-after k c fits p m PushAt.Look apart can filled fit = fit
head-after k c fits p m (PushAt.Link head) apart can filled fit =
    ap (λ (w : Mem). fits (word_at w c.head)) (stored-valid k m (c.link p.item) (p.linked head) can.link)
    ∙ ap fits (write_else m (kind_of_word (c.link p.item)) (kind_of_word c.head) (at_of (c.link p.item))
    (p.linked head) (at_of c.head)
    (λ e f. apart.heads p.item (e, f)))
    ∙ fit
head-after k c fits p m (PushAt.Exchange head) apart can filled fit = by (eqb (word_at m c.head) head)
  where
    by : (b : Bool) → fits (word_at (cond b (stored k m c.head p.filled) m) c.head) ≡ true
    by true = ap (λ (w : Mem). fits (word_at w c.head)) (stored-valid k m c.head p.filled can.head)
        ∙ ap fits (write_here m (kind_of_word c.head) (kind_of_word c.head) (at_of c.head) p.filled
        (at_of c.head) refl refl)
        ∙ filled
    by false = fit

head-taken : (k : Key) (c : ChainWords) (fits : ℕ → Bool) (m : Mem) (empty : ℕ) → Valid k c.head → fits empty ≡ true
    → fits (word_at (stored k m c.head empty) c.head) ≡ true
head-taken k c fits m empty valid fit =
    ap (λ (w : Mem). fits (word_at w c.head)) (stored-valid k m c.head empty valid)
    ∙ ap fits (write_here m (kind_of_word c.head) (kind_of_word c.head) (at_of c.head) empty (at_of c.head) refl refl)
    ∙ fit

-- the other way round
away-sym : (one other : Pusher) → AreAway one other → AreAway other one
away-sym Away Away away = tt
away-sym Away (Pushes q b) away = tt
away-sym (Pushes p a) Away away = tt
away-sym (Pushes p a) (Pushes q b) away = λ same. away (sym same)

-- one seat goes on, and stays away from all others
apart-put : (pushers : ℕ → Pusher) (seat : ℕ) (x : Pusher) → ((other : ℕ) → seat ≢ other → AreAway x (pushers other))
    → ((one other : ℕ) → one ≢ other → AreAway (pushers one) (pushers other))
    → (one other : ℕ) → one ≢ other → AreAway (put pushers seat x one) (put pushers seat x other)
apart-put pushers seat x away apart = pairs-put AreAway away-sym pushers seat x away apart

-- what another seat rests on stands
stays : (k : Key) (c : ChainWords) (fits : ℕ → Bool) (m : Mem) (items : List ℕ) (p : Push) (at : PushAt) (x : Pusher)
    → AreApart c → Valid k c.head → CanPush k c p → AreAway (Pushes p at) x → PusherFits k c fits items m x
    → PusherFits k c fits (items_after p items (push_learn at (found m (push_action c p at))))
    (after k m (push_action c p at)) x
stays k c fits m items p at Away apart head can away fit = tt
stays k c fits m items p at (Pushes q b) apart head can away (may, pushing) = (
  record {
    can = may.can;
    outside = outside
        (push_learn at (found m (push_action c p at)));
    filled = may.filled;
    links = may.links;
  },
  (other_pushes_stand k c q m b apart head pushing).pushes p at away can.link,
)
  where
    outside : (next : PushNext) → tally q.item (items_after p items next) ≡ 0
    outside (Goes a) = may.outside
    outside (Pushed h) = tally-else q.item p.item items (λ same. away (sym same)) ∙ may.outside

-- the laws of each kind of step, for all seats
pub seats_push : (k : Key) (c : ChainWords) (fits : ℕ → Bool) (m : Mem) (pushers : ℕ → Pusher) (items : List ℕ)
    (end seat : ℕ)
    (p : Push) (at : PushAt) → AreApart c → Valid k c.head → pushers seat ≡ Pushes p at
    → ChainGood k c fits m pushers items end
    → ChainGood k c fits (after k m (push_action c p at))
    (put pushers seat (pusher_after p (push_learn at (found m (push_action c p at)))))
    (items_after p items (push_learn at (found m (push_action c p at)))) end
seats_push k c fits m pushers items end seat p at apart head is good =
    by (push_learn at (found m (push_action c p at))) refl
    (push_puts_in_front k c p m at items end apart mine.0.can
    (mine.0.links (word_at m c.head) good.head) mine.0.outside mine.1 good.chain)
  where
    mine : PusherFits k c fits items m (Pushes p at)
    mine = subst (λ x. PusherFits k c fits items m x) is (good.pushing seat)

    away : (other : ℕ) → seat ≢ other → AreAway (Pushes p at) (pushers other)
    away other differ = subst (λ x. AreAway x (pushers other)) is (good.apart seat other differ)

    others : (next : PushNext) → push_learn at (found m (push_action c p at)) ≡ next → (other : ℕ) → seat ≢ other
        → PusherFits k c fits (items_after p items next) (after k m (push_action c p at)) (pushers other)
    others next same other differ =
        subst (λ n. PusherFits k c fits (items_after p items n) (after k m (push_action c p at)) (pushers other)) same
        (stays k c fits m items p at (pushers other) apart head mine.0.can (away other differ) (good.pushing other))

    by : (next : PushNext) → push_learn at (found m (push_action c p at)) ≡ next
        → AfterPush c p items end (after k m (push_action c p at)) next
        → ChainGood k c fits (after k m (push_action c p at)) (put pushers seat (pusher_after p next))
        (items_after p items next) end
    by (Goes a) same (chain, pushing) = record {
      chain = chain;
      head = head-after k c fits p m at apart mine.0.can mine.0.filled good.head;
      pushing = put-each (λ i x. PusherFits k c fits items (after k m (push_action c p at)) x) pushers seat
          (Pushes p a)
          (others (Goes a) same) (mine.0, pushing);
      apart = apart-put pushers seat (Pushes p a) away good.apart;
    }
    by (Pushed h) same chain = record {
      chain = chain;
      head = head-after k c fits p m at apart mine.0.can mine.0.filled good.head;
      pushing = put-each (λ i x. PusherFits k c fits (p.item ∷ items)
          (after k m (push_action c p at)) x) pushers seat Away
          (others (Pushed h) same) tt;
      apart = apart-put pushers seat Away (λ other differ. tt) good.apart;
    }

pub seats_begin : (k : Key) (c : ChainWords) (fits : ℕ → Bool) (m : Mem) (pushers : ℕ → Pusher) (items : List ℕ)
    (end seat : ℕ)
    (p : Push) → MayPush k c fits items p → ((other : ℕ) → IsAwayFrom p.item (pushers other))
    → ChainGood k c fits m pushers items end → ChainGood k c fits m (put pushers seat (Pushes p PushAt.Look)) items end
seats_begin k c fits m pushers items end seat p may away good = record {
  chain = good.chain;
  head = good.head;
  pushing = put-each (λ i x. PusherFits k c fits items m x) pushers seat (Pushes p PushAt.Look)
      (λ other differ. good.pushing other) (may, tt);
  apart = apart-put pushers seat (Pushes p PushAt.Look) (λ other differ. away other) good.apart;
}

pub seats_take : (k : Key) (c : ChainWords) (fits : ℕ → Bool) (m : Mem) (pushers : ℕ → Pusher) (items : List ℕ)
    (end empty which : ℕ)
    → AreApart c → Valid k c.head → c.reads_head empty ≡ Ends which → fits empty ≡ true
    → ChainGood k c fits m pushers items end
    → ChainGood k c fits (after k m (Swap c.head empty)) pushers [] which
seats_take k c fits m pushers items end empty which apart head ends fit good = record {
  chain = (swap_gives_whole_chain k c m items end empty which apart head ends good.chain).left;
  head = head-taken k c fits m empty head fit;
  pushing = λ seat. by (pushers seat) (good.pushing seat);
  apart = good.apart;
}
  where
    by : (x : Pusher) → PusherFits k c fits items m x → PusherFits k c fits [] (after k m (Swap c.head empty)) x
    by Away fits_it = tt
    by (Pushes q b) (may, pushing) = (
      record { can = may.can; outside = refl; filled = may.filled; links = may.links },
      (other_pushes_stand k c q m b apart head pushing).takes empty,
    )

pub seats_push_in_front : SeatsPushInFront
seats_push_in_front k c fits m0 pushers0 items0 end0 m pushers items end apart head first starts = first
seats_push_in_front k c fits m0 pushers0 items0 end0 m pushers items end apart head first
    (begins {m = n} {pushers = others} {items = xs} {end = e} run seat p may away) =
    seats_begin k c fits n others xs e seat p may away
    (seats_push_in_front k c fits m0 pushers0 items0 end0 n others xs e apart head first run)
seats_push_in_front k c fits m0 pushers0 items0 end0 m pushers items end apart head first
    (pushes {m = n} {pushers = others} {items = xs} {end = e} run seat p at is) =
    seats_push k c fits n others xs e seat p at apart head is
    (seats_push_in_front k c fits m0 pushers0 items0 end0 n others xs e apart head first run)
seats_push_in_front k c fits m0 pushers0 items0 end0 m pushers items end apart head first
    (takes {m = n} {pushers = others} {items = xs} {end = e} run empty which ends fit) =
    seats_take k c fits n others xs e empty which apart head ends fit
    (seats_push_in_front k c fits m0 pushers0 items0 end0 n others xs e apart head first run)
