-- Chains in the memory, and the pushes that are on their way to one.
use Rattle.std.specs.Prelude.{◌≡◌, ℕ, List, ⊤}
use Rattle.pool_words.specs.declared.words.Key.{Key}
use Rattle.pool_words.specs.declared.words.Word.{Word}
use Rattle.pool_words.specs.declared.actions.Action.{Action}
use Rattle.pool_words.specs.Words.{kind_of_word, number, at_of}
use Rattle.chain_words.specs.declared.pushing.PushAt.{PushAt}
use Rattle.chain_words.specs.declared.pushing.PushCall.{PushCall}
use Rattle.chain_words.specs.Pushing.{push_course, found_of}
use Rattle.word_laws.specs.Memory.{Mem, Valid, word_at}
use Rattle.chain_laws.specs.Chains.{Link, IsChain}
use Rattle.chain_laws.specs.Chains.Link.{To}

-- the words of a chain, and where their numbers lead
pub record ChainWords : Type 0 where
  pub head : Word
  pub link : ℕ → Word
  pub reads_head : ℕ → Link
  pub reads_link : ℕ → Link

abbrev pub head_of : ChainWords → Mem → Link
head_of c m = c.reads_head (word_at m c.head)

abbrev pub links_of : ChainWords → Mem → ℕ → Link
links_of c m x = c.reads_link (word_at m (c.link x))

-- the chain that the memory holds
abbrev pub Holds : ChainWords → Mem → List ℕ → ℕ → Type 0
Holds c m items end = IsChain (links_of c m) (head_of c m) items end

abbrev pub IsOneWord : Word → Word → Type 0
IsOneWord one other = (number (kind_of_word one) ≡ number (kind_of_word other)) × (at_of one ≡ at_of other)

-- different items have different links, and none of them is the head
pub record AreApart (c : ChainWords) : Type 0 where
  pub items : (x y : ℕ) → IsOneWord (c.link x) (c.link y) → x ≡ y
  pub heads : (x : ℕ) → IsOneWord (c.link x) c.head → ⊥

-- a push of an item: the number of its link, by the head that was found, and the number of the head that names it
pub record Push : Type 0 where
  pub item : ℕ
  pub linked : ℕ → ℕ
  pub filled : ℕ

abbrev pub push_call : ChainWords → Push → ℕ → PushCall
push_call c p found = record {
  head = c.head;
  link = c.link p.item;
  linked = p.linked found;
  filled = p.filled;
}

-- the next step of a push
abbrev pub push_action : ChainWords → Push → PushAt → Action
push_action c p at = push_course (push_call c p (found_of at)) at

-- the words are the pool's, and the head can name the item
pub record CanPush (k : Key) (c : ChainWords) (p : Push) : Type 0 where
  pub head : Valid k c.head
  pub link : Valid k (c.link p.item)
  pub names : c.reads_head p.filled ≡ To p.item

-- the item's link can lead where a head of this number does
abbrev pub CanLink : ChainWords → Push → ℕ → Type 0
CanLink c p found = c.reads_link (p.linked found) ≡ c.reads_head found

-- what a push rests on: before the exchange the item's link leads where the head that was found did
abbrev pub IsPushing : ChainWords → Mem → Push → PushAt → Type 0
IsPushing c m p PushAt.Look = ⊤
IsPushing c m p (PushAt.Link found) = CanLink c p found
IsPushing c m p (PushAt.Exchange found) = links_of c m p.item ≡ c.reads_head found
