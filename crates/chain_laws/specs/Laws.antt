-- The laws of chains.
use Rattle.std.specs.Prelude.{◌≡◌, ◌≢◌, ℕ, ◌<◌, ◌≤◌, Bool, true, List, [], ◌∷◌, ◌++◌, length}
use Rattle.pool_words.specs.declared.words.Key.{Key}
use Rattle.pool_words.specs.declared.actions.Action.TheVariants.{Swap}
use Rattle.chain_words.specs.declared.pushing.PushAt.{PushAt}
use Rattle.chain_words.specs.declared.pushing.PushNext.{PushNext}
use Rattle.chain_words.specs.declared.pushing.PushNext.TheVariants.{Goes, Pushed}
use Rattle.chain_words.specs.Pushing.{push_learn}
use Rattle.word_laws.specs.Memory.{Mem, Valid, put, word_at, after, found, fresh}
use Rattle.chain_laws.specs.Chains.{Link, Leads, IsChain, IsOnce, tally, walk}
use Rattle.chain_laws.specs.Chains.Link.{To, Ends}
use Rattle.chain_laws.specs.Pushing.{ChainWords, links_of, Holds, AreApart, Push, push_action, CanPush, CanLink}
use Rattle.chain_laws.specs.Pushing.{IsPushing}
use Rattle.chain_laws.specs.Seats.{Pusher, ChainGood, ChainRun}
use Rattle.chain_laws.specs.Seats.Pusher.{Away}
use Rattle.chain_laws.specs.Named.{ten_key, queue_words, any_number, queued_blocks, two_queued, one_pusher}

-- a chain stays as it is where the link of an item is written that is none of its own
abbrev pub OtherLinksLeaveChain : Type 0
OtherLinksLeaveChain =
    (links : ℕ → Link) (head : Link) (items : List ℕ) (end x : ℕ) (link : Link) → tally x items ≡ 0
    → IsChain links head items end → IsChain (put links x link) head items end

-- what a step of a push leaves: the push goes on and the chain is as it was, or the item is in front of the chain
abbrev pub AfterPush : ChainWords → Push → List ℕ → ℕ → Mem → PushNext → Type 0
AfterPush c p items end m (Goes at) = Holds c m items end × IsPushing c m p at
AfterPush c p items end m (Pushed head) = Holds c m (p.item ∷ items) end

-- so each step of a push does, whatever the chain has become since the step before
abbrev pub PushPutsInFront : Type 0
PushPutsInFront =
    (k : Key) (c : ChainWords) (p : Push) (m : Mem) (at : PushAt) (items : List ℕ) (end : ℕ) → AreApart c
    → CanPush k c p → CanLink c p (word_at m c.head) → tally p.item items ≡ 0 → IsPushing c m p at
    → Holds c m items end
    → AfterPush c p items end (after k m (push_action c p at)) (push_learn at (found m (push_action c p at)))

-- an exchange that is lost writes nothing, and the item is to be linked to what was found
pub record LosesPush (k : Key) (c : ChainWords) (p : Push) (m : Mem) (head : ℕ) : Type 0 where
  pub leaves : after k m (push_action c p (PushAt.Exchange head)) ≡ m
  pub links : push_learn (PushAt.Exchange head) (word_at m c.head) ≡ Goes (PushAt.Link (word_at m c.head))

abbrev pub LostPushChangesNothing : Type 0
LostPushChangesNothing =
    (k : Key) (c : ChainWords) (p : Push) (m : Mem) (head : ℕ) → word_at m c.head ≢ head → LosesPush k c p m head

-- what a push rests on stands through the steps of another item's push, and where the chain is taken
pub record StandsPush (k : Key) (c : ChainWords) (p : Push) (m : Mem) (at : PushAt) : Type 0 where
  pub pushes : (other : Push) (step : PushAt) → other.item ≢ p.item → Valid k (c.link other.item)
      → IsPushing c (after k m (push_action c other step)) p at
  pub takes : (empty : ℕ) → IsPushing c (after k m (Swap c.head empty)) p at

abbrev pub OtherPushesStand : Type 0
OtherPushesStand =
    (k : Key) (c : ChainWords) (p : Push) (m : Mem) (at : PushAt) → AreApart c → Valid k c.head → IsPushing c m p at
    → StandsPush k c p m at

-- what a swap of the head for an end leaves: what it found leads through the whole chain, and the chain is empty
pub record IsTaken (k : Key) (c : ChainWords) (m : Mem) (items : List ℕ) (end empty which : ℕ) : Type 0 where
  pub taken : IsChain (links_of c (after k m (Swap c.head empty)))
      (c.reads_head (found m (Swap c.head empty))) items end
  pub left : Holds c (after k m (Swap c.head empty)) [] which

abbrev pub SwapGivesWholeChain : Type 0
SwapGivesWholeChain =
    (k : Key) (c : ChainWords) (m : Mem) (items : List ℕ) (end empty which : ℕ) → AreApart c → Valid k c.head
    → c.reads_head empty ≡ Ends which → Holds c m items end → IsTaken k c m items end empty which

-- the first item's link leads through the others
abbrev pub FrontComesOff : Type 0
FrontComesOff =
    (links : ℕ → Link) (head : Link) (x : ℕ) (items : List ℕ) (end : ℕ) → IsChain links head (x ∷ items) end
    → (head ≡ To x) × IsChain links (links x) items end

-- where an item is linked to another chain, that chain takes the place of what was behind the item
abbrev pub LinkJoinsChains : Type 0
LinkJoinsChains =
    (links : ℕ → Link) (head other : Link) (front : List ℕ) (x : ℕ) (back others : List ℕ) (end stop : ℕ)
    → tally x front ≡ 0 → tally x others ≡ 0 → IsChain links head (front ++ (x ∷ back)) end
    → IsChain links other others stop → IsChain (put links x other) head (front ++ (x ∷ others)) stop

-- a walker at an item has the items before it behind him, and the items behind it before him
pub record SplitsAt (links : ℕ → Link) (head : Link) (front : List ℕ) (x : ℕ) (back : List ℕ) (end : ℕ) : Type 0 where
  pub walked : Leads links head front (To x)
  pub ahead : IsChain links (links x) back end

abbrev pub WalkerSplitsChain : Type 0
WalkerSplitsChain =
    (links : ℕ → Link) (head : Link) (front : List ℕ) (x : ℕ) (back : List ℕ) (end : ℕ)
    → IsChain links head (front ++ (x ∷ back)) end → SplitsAt links head front x back end

-- a head leads through one list, to one end
abbrev pub HeadsHaveOneList : Type 0
HeadsHaveOneList =
    (links : ℕ → Link) (head : Link) (items others : List ℕ) (end stop : ℕ) → IsChain links head items end
    → IsChain links head others stop → (items ≡ others) × (end ≡ stop)

-- a chain leads to no item twice
abbrev pub ChainsHaveNoRepeats : Type 0
ChainsHaveNoRepeats =
    (links : ℕ → Link) (head : Link) (items : List ℕ) (end : ℕ) → IsChain links head items end → IsOnce items

abbrev pub WalkGivesList : Type 0
WalkGivesList =
    (links : ℕ → Link) (head : Link) (items : List ℕ) (end fuel : ℕ) → IsChain links head items end
    → length items ≤ fuel → walk fuel links head ≡ items

abbrev pub ListsBelowAreShort : Type 0
ListsBelowAreShort =
    (items : List ℕ) (n : ℕ) → IsOnce items → ((x : ℕ) → 0 < tally x items → x < n) → length items ≤ n

-- in any run of any number of seats the chain has the items that were pushed since it was taken, and no seat
-- disturbs another
abbrev pub SeatsPushInFront : Type 0
SeatsPushInFront =
    (k : Key) (c : ChainWords) (fits : ℕ → Bool) (m0 : Mem) (pushers0 : ℕ → Pusher) (items0 : List ℕ) (end0 : ℕ)
    (m : Mem) (pushers : ℕ → Pusher) (items : List ℕ) (end : ℕ) → AreApart c → Valid k c.head
    → ChainGood k c fits m0 pushers0 items0 end0 → ChainRun k c fits m0 pushers0 items0 end0 m pushers items end
    → ChainGood k c fits m pushers items end

-- in a new pool each chain whose head's 0 is an end is empty
abbrev pub FreshChainsAreEmpty : Type 0
FreshChainsAreEmpty =
    (k : Key) (c : ChainWords) (fits : ℕ → Bool) (end : ℕ) → c.reads_head 0 ≡ Ends end → fits 0 ≡ true
    → ChainGood k c fits fresh (λ seat. Away) [] end

-- a chain with items, and a push on its way to it
pub record IsQueued : Type 0 where
  pub apart : AreApart queue_words
  pub good : ChainGood ten_key queue_words any_number two_queued one_pusher queued_blocks 0

abbrev pub NamedChainStands : Type 0
NamedChainStands = IsQueued
