-- Any number of seats that push on one chain and take it whole, one step of one seat at a time.
use Rattle.std.specs.Prelude.{◌≡◌, ◌≢◌, ℕ, Bool, true, List, [], ◌∷◌, ⊤}
use Rattle.pool_words.specs.declared.words.Key.{Key}
use Rattle.pool_words.specs.declared.actions.Action.TheVariants.{Swap}
use Rattle.chain_words.specs.declared.pushing.PushAt.{PushAt}
use Rattle.chain_words.specs.declared.pushing.PushNext.{PushNext}
use Rattle.chain_words.specs.declared.pushing.PushNext.TheVariants.{Goes, Pushed}
use Rattle.chain_words.specs.Pushing.{push_learn}
use Rattle.word_laws.specs.Memory.{Mem, put, word_at, after, found}
use Rattle.chain_laws.specs.Chains.{tally}
use Rattle.chain_laws.specs.Chains.Link.{Ends}
use Rattle.chain_laws.specs.Pushing.{ChainWords, Holds, Push, push_action, CanPush, CanLink, IsPushing}

-- what a seat has to do with the chain
pub data Pusher : Type 0 where
  Away : Pusher
  Pushes : (push : Push) (at : PushAt) → Pusher

-- a push that may be made: its item is not in the chain, and its link can lead where a head of a fitting number does
pub record MayPush (k : Key) (c : ChainWords) (fits : ℕ → Bool) (items : List ℕ) (p : Push) : Type 0 where
  pub can : CanPush k c p
  pub outside : tally p.item items ≡ 0
  pub filled : fits p.filled ≡ true
  pub links : (number : ℕ) → fits number ≡ true → CanLink c p number

abbrev pub PusherFits : Key → ChainWords → (ℕ → Bool) → List ℕ → Mem → Pusher → Type 0
PusherFits k c fits items m Away = ⊤
PusherFits k c fits items m (Pushes p at) = MayPush k c fits items p × IsPushing c m p at

-- the seat does not push this item
abbrev pub IsAwayFrom : ℕ → Pusher → Type 0
IsAwayFrom item Away = ⊤
IsAwayFrom item (Pushes p at) = item ≢ p.item

abbrev pub AreAway : Pusher → Pusher → Type 0
AreAway Away other = ⊤
AreAway (Pushes p at) other = IsAwayFrom p.item other

-- the chain has these items, and the seats push others, each one of its own
pub record ChainGood (k : Key) (c : ChainWords) (fits : ℕ → Bool) (m : Mem) (pushers : ℕ → Pusher) (items : List ℕ)
    (end : ℕ) : Type 0 where
  pub chain : Holds c m items end
  pub head : fits (word_at m c.head) ≡ true
  pub pushing : (seat : ℕ) → PusherFits k c fits items m (pushers seat)
  pub apart : (seat other : ℕ) → seat ≢ other → AreAway (pushers seat) (pushers other)

-- the items after a step of a push, and what its seat has to do with the chain then
abbrev pub items_after : Push → List ℕ → PushNext → List ℕ
items_after p items (Goes at) = items
items_after p items (Pushed head) = p.item ∷ items

abbrev pub pusher_after : Push → PushNext → Pusher
pusher_after p (Goes at) = Pushes p at
pusher_after p (Pushed head) = Away

-- the runs of the seats, and the items that were pushed since the chain was taken, the newest first
pub data ChainRun (k : Key) (c : ChainWords) (fits : ℕ → Bool) (m0 : Mem) (pushers0 : ℕ → Pusher) (items0 : List ℕ)
    (end0 : ℕ) : Mem → (ℕ → Pusher) → List ℕ → ℕ → Type 0 where
  starts : ChainRun k c fits m0 pushers0 items0 end0 m0 pushers0 items0 end0
  begins : {m : Mem} {pushers : ℕ → Pusher} {items : List ℕ} {end : ℕ}
      → ChainRun k c fits m0 pushers0 items0 end0 m pushers items end → (seat : ℕ) (p : Push)
      → MayPush k c fits items p → ((other : ℕ) → IsAwayFrom p.item (pushers other))
      → ChainRun k c fits m0 pushers0 items0 end0 m (put pushers seat (Pushes p PushAt.Look)) items end
  pushes : {m : Mem} {pushers : ℕ → Pusher} {items : List ℕ} {end : ℕ}
      → ChainRun k c fits m0 pushers0 items0 end0 m pushers items end → (seat : ℕ) (p : Push) (at : PushAt)
      → pushers seat ≡ Pushes p at
      → ChainRun k c fits m0 pushers0 items0 end0 (after k m (push_action c p at))
      (put pushers seat (pusher_after p (push_learn at (found m (push_action c p at)))))
      (items_after p items (push_learn at (found m (push_action c p at)))) end
  takes : {m : Mem} {pushers : ℕ → Pusher} {items : List ℕ} {end : ℕ}
      → ChainRun k c fits m0 pushers0 items0 end0 m pushers items end → (empty which : ℕ)
      → c.reads_head empty ≡ Ends which → fits empty ≡ true
      → ChainRun k c fits m0 pushers0 items0 end0 (after k m (Swap c.head empty)) pushers [] which
