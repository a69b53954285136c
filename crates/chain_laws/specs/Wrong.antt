-- Wrong definitions. Each breaks a law at the queue that is named.
use Rattle.std.specs.Prelude.{◌≡◌, ℕ, ⊤, cond, eqb, List, [], ◌∷◌}
use Rattle.pool_words.specs.declared.words.Key.{Key}
use Rattle.pool_words.specs.declared.actions.Action.TheVariants.{Load}
use Rattle.chain_words.specs.declared.pushing.PushAt.{PushAt}
use Rattle.chain_words.specs.declared.pushing.PushNext.{PushNext}
use Rattle.chain_words.specs.declared.pushing.PushNext.TheVariants.{Goes, Pushed}
use Rattle.word_laws.specs.Memory.{Mem, put, after, found, word_at}
use Rattle.chain_laws.specs.Chains.{Link, IsChain, tally}
use Rattle.chain_laws.specs.Chains.Link.{To}
use Rattle.chain_laws.specs.Pushing.{Holds, CanLink, push_action, IsPushing}
use Rattle.chain_laws.specs.Laws.{AfterPush}
use Rattle.chain_laws.specs.Named.{queue_words, seventh}

-- a push that after a lost exchange tries the next one with the item still linked to the old head
abbrev pub stale_learn : PushAt → ℕ → PushNext
stale_learn PushAt.Look f = Goes (PushAt.Link f)
stale_learn (PushAt.Link head) f = Goes (PushAt.Exchange head)
stale_learn (PushAt.Exchange head) f = cond (eqb f head) (Pushed f) (Goes (PushAt.Exchange f))

abbrev pub StalePushes : Type 0
StalePushes =
    (k : Key) (m : Mem) (at : PushAt) (items : List ℕ) → CanLink queue_words seventh (word_at m queue_words.head)
    → tally 7 items ≡ 0 → IsPushing queue_words m seventh at → Holds queue_words m items 0
    → AfterPush queue_words seventh items 0
    (after k m (push_action queue_words seventh at)) (stale_learn at (found m (push_action queue_words seventh at)))

abbrev pub StalePushesAreWrong : Type 0
StalePushesAreWrong = StalePushes → ⊥

-- a taking that reads the head and leaves it
abbrev pub TakingsByLoad : Type 0
TakingsByLoad =
    (k : Key) (m : Mem) (items : List ℕ) → Holds queue_words m items 0
    → Holds queue_words (after k m (Load queue_words.head)) [] 0

abbrev pub TakingsByLoadAreWrong : Type 0
TakingsByLoadAreWrong = TakingsByLoad → ⊥

-- a chain that may end anywhere
abbrev pub IsLoose : (ℕ → Link) → Link → List ℕ → Type 0
IsLoose links head [] = ⊤
IsLoose links head (x ∷ xs) = (head ≡ To x) × IsLoose links (links x) xs

abbrev pub LooseHeadsHaveOneList : Type 0
LooseHeadsHaveOneList =
    (links : ℕ → Link) (head : Link) (items others : List ℕ) → IsLoose links head items → IsLoose links head others
    → items ≡ others

abbrev pub LooseChainsAreWrong : Type 0
LooseChainsAreWrong = LooseHeadsHaveOneList → ⊥

-- a link that is written of any item, of one of the chain too
abbrev pub AnyLinkLeavesChain : Type 0
AnyLinkLeavesChain =
    (links : ℕ → Link) (head : Link) (items : List ℕ) (end x : ℕ) (link : Link) → IsChain links head items end
    → IsChain (put links x link) head items end

abbrev pub AnyLinksAreWrong : Type 0
AnyLinksAreWrong = AnyLinkLeavesChain → ⊥

-- an item pushed that is in the chain already
abbrev pub PushesOfMembers : Type 0
PushesOfMembers =
    (links : ℕ → Link) (head : Link) (items : List ℕ) (end x : ℕ) → IsChain links head items end
    → IsChain (put links x head) (To x) (x ∷ items) end

abbrev pub PushesOfMembersAreWrong : Type 0
PushesOfMembersAreWrong = PushesOfMembers → ⊥
