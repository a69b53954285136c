-- The steps of a push, and a taking.
use Rattle.std.proofs.Common.{◌≡◌, ◌≢◌, ℕ, Bool, true, false, cond, eqb, List, ◌∷◌, refl, sym, ap, ◌∙◌}
use Rattle.std.proofs.lemmas.Bool.{eqb-true}
use Rattle.pool_words.specs.declared.words.Key.{Key}
use Rattle.pool_words.specs.declared.actions.Action.TheVariants.{Swap}
use Rattle.chain_words.specs.declared.pushing.PushAt.{PushAt}
use Rattle.chain_words.specs.declared.pushing.PushNext.TheVariants.{Goes, Pushed}
use Rattle.word_laws.specs.Memory.{Mem, Valid, put, stored, word_at, after}
use Rattle.word_laws.proofs.CallerLemmas.{put_here, put_else}
use Rattle.chain_laws.specs.Chains.{Link, tally}
use Rattle.chain_laws.specs.Chains.Link.{To, Ends}
use Rattle.chain_laws.specs.Pushing.{ChainWords, head_of, links_of, Holds, AreApart, Push, push_action, IsPushing}
use Rattle.chain_laws.specs.Laws.{AfterPush, PushPutsInFront, LosesPush, LostPushChangesNothing, OtherPushesStand}
use Rattle.chain_laws.specs.Laws.{SwapGivesWholeChain}
use Rattle.chain_laws.proofs.Leading.{leads-apart, chain-over, chain-pushed}
use Rattle.chain_laws.proofs.ChainsInWords.{link_stored-links, link_stored-head, head_stored-links, head_stored-head}

-- a chain stays where the link of an item outside it is stored
pub stores-link : (k : Key) (c : ChainWords) (m : Mem) (x v : ℕ) (items : List ℕ) (end : ℕ) → AreApart c
    → Valid k (c.link x) → tally x items ≡ 0 → Holds c m items end → Holds c (stored k m (c.link x) v) items end
stores-link k c m x v items end apart valid none chain =
    chain-over (put (links_of c m) x (c.reads_link v)) (links_of c (stored k m (c.link x) v)) (head_of c m)
    (head_of c (stored k m (c.link x) v)) items end
    (link_stored-links k c m x v apart valid) (link_stored-head k c m x v apart valid)
    (leads-apart (links_of c m) (head_of c m) items (Ends end) x (c.reads_link v) none chain)

-- the item is in front where the head is stored that its link leads to
pub stores-head : (k : Key) (c : ChainWords) (m : Mem) (x v : ℕ) (items : List ℕ) (end : ℕ) → AreApart c
    → Valid k c.head
    → c.reads_head v ≡ To x → links_of c m x ≡ head_of c m → Holds c m items end
    → Holds c (stored k m c.head v) (x ∷ items) end
stores-head k c m x v items end apart valid names linked chain =
    chain-over (links_of c m) (links_of c (stored k m c.head v)) (To x) (head_of c (stored k m c.head v))
    (x ∷ items) end
    (head_stored-links k c m v apart valid) (head_stored-head k c m v valid ∙ names)
    (chain-pushed (links_of c m) (head_of c m) items end x linked chain)

pub push_puts_in_front : PushPutsInFront
push_puts_in_front k c p m PushAt.Look items end apart can links none pushing chain = (chain, links)
push_puts_in_front k c p m (PushAt.Link head) items end apart can links none pushing chain = (
  stores-link k c m p.item (p.linked head) items end apart can.link none chain,
  ap (λ (f : ℕ → Link). f p.item) (link_stored-links k c m p.item (p.linked head) apart can.link)
      ∙ put_here (links_of c m) p.item p.item (c.reads_link (p.linked head)) refl
      ∙ pushing,
)
push_puts_in_front k c p m (PushAt.Exchange head) items end apart can links none pushing chain =
    by (eqb (word_at m c.head) head) refl
  where
    by : (b : Bool) → eqb (word_at m c.head) head ≡ b
        → AfterPush c p items end (cond b (stored k m c.head p.filled) m)
        (cond b (Pushed (word_at m c.head)) (Goes (PushAt.Link (word_at m c.head))))
    by true is = stores-head k c m p.item p.filled items end apart can.head can.names
        (pushing ∙ ap c.reads_head (sym (eqb-true (word_at m c.head) head is))) chain
    by false is = (chain, links)

pub lost_push_changes_nothing : LostPushChangesNothing
lost_push_changes_nothing k c p m head lost = by (eqb (word_at m c.head) head) refl
  where
    by : (b : Bool) → eqb (word_at m c.head) head ≡ b → LosesPush k c p m head
    by true is = absurd (lost (eqb-true (word_at m c.head) head is))
    by false is = record {
      leaves = ap (λ (b : Bool). cond b (stored k m c.head p.filled) m) is;
      links = ap (λ (b : Bool). cond b (Pushed (word_at m c.head)) (Goes (PushAt.Link (word_at m c.head)))) is;
    }

-- a push rests on its item's link alone
pub pushing-same : (c : ChainWords) (m other : Mem) (p : Push) (at : PushAt) → links_of c other p.item
    ≡ links_of c m p.item
    → IsPushing c m p at → IsPushing c other p at
pushing-same c m other p PushAt.Look same pushing = pushing
pushing-same c m other p (PushAt.Link head) same pushing = pushing
pushing-same c m other p (PushAt.Exchange head) same pushing = same ∙ pushing

other_pushes_leave : (k : Key) (c : ChainWords) (p : Push) (m : Mem) (other : Push) (step : PushAt) → AreApart c
    → Valid k c.head → Valid k (c.link other.item) → other.item ≢ p.item
    → links_of c (after k m (push_action c other step)) p.item ≡ links_of c m p.item
other_pushes_leave k c p m other PushAt.Look apart head valid differ = refl
other_pushes_leave k c p m other (PushAt.Link found) apart head valid differ =
    ap (λ (f : ℕ → Link). f p.item) (link_stored-links k c m other.item (other.linked found) apart valid)
    ∙ put_else (links_of c m) other.item p.item (c.reads_link (other.linked found)) differ
other_pushes_leave k c p m other (PushAt.Exchange found) apart head valid differ = by (eqb (word_at m c.head) found)
  where
    by : (b : Bool) → links_of c (cond b (stored k m c.head other.filled) m) p.item ≡ links_of c m p.item
    by true = ap (λ (f : ℕ → Link). f p.item) (head_stored-links k c m other.filled apart head)
    by false = refl

pub other_pushes_stand : OtherPushesStand
other_pushes_stand k c p m at apart head pushing = record {
  pushes = λ other step differ valid. pushing-same c m (after k m (push_action c other step)) p at
      (other_pushes_leave k c p m other step apart head valid differ) pushing;
  takes = λ empty. pushing-same c m (after k m (Swap c.head empty)) p at
      (ap (λ (f : ℕ → Link). f p.item) (head_stored-links k c m empty apart head)) pushing;
}

pub swap_gives_whole_chain : SwapGivesWholeChain
swap_gives_whole_chain k c m items end empty which apart head ends chain = record {
  taken = chain-over (links_of c m) (links_of c (stored k m c.head empty)) (head_of c m) (head_of c m) items end
      (head_stored-links k c m empty apart head) refl chain;
  left = head_stored-head k c m empty head ∙ ends;
}
