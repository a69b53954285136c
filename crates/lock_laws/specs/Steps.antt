-- The steps that put an item in front of a list and that take one out, and what each rests on.
use Rattle.std.specs.Prelude.{◌≡◌, ◌≢◌, ℕ, ◌^◌, ◌<◌, Option, Some, None, List, ◌∷◌, ◌++◌, ⊤}
use Rattle.pool_words.specs.declared.words.Key.{Key}
use Rattle.pool_words.specs.declared.words.Word.{Word}
use Rattle.pool_words.specs.Words.{kind_of_word, number, forwards, backwards}
use Rattle.word_codes.specs.Links.{link_of}
use Rattle.locked_chain.specs.declared.ListCall.{ListCall}
use Rattle.locked_chain.specs.declared.insert.InsertAt.{InsertAt}
use Rattle.locked_chain.specs.declared.insert.InsertNext.{InsertNext}
use Rattle.locked_chain.specs.declared.remove.RemoveAt.{RemoveAt}
use Rattle.locked_chain.specs.declared.remove.RemoveNext.{RemoveNext}
use Rattle.word_laws.specs.Memory.{Mem, Valid, put, word_at}
use Rattle.chain_laws.specs.Chains.{Link, tally}
use Rattle.chain_laws.specs.Chains.Link.{To}
use Rattle.lock_laws.specs.Lists.{TwoWay, Change, nothing, IsList}
use Rattle.lock_laws.specs.Lists.Change.{Still, LinkedBack, CutForward}

abbrev pub link_to : Option ℕ → Link
link_to (Some item) = To item
link_to None = nothing

-- where a word of a list leads
abbrev pub link_at : ℕ → Link
link_at word = link_to (link_of word)

-- the list of a head in the memory
abbrev pub list_of : Word → Mem → TwoWay
list_of head m = record {
  head = link_at (word_at m head);
  next = λ x. link_at (m forwards x);
  previous = λ x. link_at (m backwards x);
}

-- what an insertion's step makes of the list
abbrev pub insert_list : ℕ → InsertAt → TwoWay → TwoWay
insert_list x InsertAt.Head w = w
insert_list x (InsertAt.Forward head) w = record w { next = put w.next x (link_at head) }
insert_list x (InsertAt.Backward head) w = record w { previous = put w.previous x nothing }
insert_list x (InsertAt.OldBackward old) w = record w { previous = put w.previous old (To x) }
insert_list x InsertAt.NewHead w = record w { head = To x }

-- what a removal's step makes of the list
abbrev pub skip_list : Option ℕ → Link → TwoWay → TwoWay
skip_list (Some before) behind w = record w { next = put w.next before behind }
skip_list None behind w = record w { head = behind }

abbrev pub remove_list : RemoveAt → TwoWay → TwoWay
remove_list RemoveAt.Forward w = w
remove_list (RemoveAt.Backward forward) w = w
remove_list (RemoveAt.Skip forward backward) w = skip_list (link_of backward) (link_at forward) w
remove_list (RemoveAt.SkipBack behind backward) w = record w { previous = put w.previous behind (link_at backward) }

-- what an insertion has noted, and what it has written of the item's own links
abbrev pub IsInserting : TwoWay → ℕ → InsertAt → Type 0
IsInserting w x InsertAt.Head = ⊤
IsInserting w x (InsertAt.Forward head) = link_at head ≡ w.head
IsInserting w x (InsertAt.Backward head) = (link_at head ≡ w.head) × (w.next x ≡ w.head)
IsInserting w x (InsertAt.OldBackward old) = (w.head ≡ To old) × (w.next x ≡ w.head) × (w.previous x ≡ nothing)
IsInserting w x InsertAt.NewHead = w.next x ≡ w.head

abbrev pub insert_change : ℕ → InsertAt → Change
insert_change x InsertAt.Head = Still
insert_change x (InsertAt.Forward head) = Still
insert_change x (InsertAt.Backward head) = Still
insert_change x (InsertAt.OldBackward old) = Still
insert_change x InsertAt.NewHead = LinkedBack x

-- an item on its way into a list of these items
pub record Inserts (w : TwoWay) (x : ℕ) (items : List ℕ) (at : InsertAt) : Type 0 where
  pub list : IsList w (insert_change x at) items
  pub noted : IsInserting w x at

-- what a removal has noted
abbrev pub IsRemoving : TwoWay → ℕ → RemoveAt → Type 0
IsRemoving w x RemoveAt.Forward = ⊤
IsRemoving w x (RemoveAt.Backward forward) = link_at forward ≡ w.next x
IsRemoving w x (RemoveAt.Skip forward backward) = (link_at forward ≡ w.next x) × (link_at backward ≡ w.previous x)
IsRemoving w x (RemoveAt.SkipBack behind backward) = ⊤

abbrev pub remove_change : ℕ → RemoveAt → Change
remove_change x RemoveAt.Forward = Still
remove_change x (RemoveAt.Backward forward) = Still
remove_change x (RemoveAt.Skip forward backward) = Still
remove_change x (RemoveAt.SkipBack behind backward) = CutForward x behind (link_at backward)

-- what the links forward list, while an item leaves that is between these
abbrev pub remove_items : List ℕ → ℕ → List ℕ → RemoveAt → List ℕ
remove_items front x back RemoveAt.Forward = front ++ (x ∷ back)
remove_items front x back (RemoveAt.Backward forward) = front ++ (x ∷ back)
remove_items front x back (RemoveAt.Skip forward backward) = front ++ (x ∷ back)
remove_items front x back (RemoveAt.SkipBack behind backward) = front ++ back

-- an item on its way out of a list, between these items
pub record Removes (w : TwoWay) (front : List ℕ) (x : ℕ) (back : List ℕ) (at : RemoveAt) : Type 0 where
  pub list : IsList w (remove_change x at) (remove_items front x back at)
  pub noted : IsRemoving w x at

-- where an insertion goes after a step: the list is as it was, or has the item at its head
abbrev pub AfterInsert : TwoWay → ℕ → List ℕ → InsertNext → Type 0
AfterInsert w x items (InsertNext.Goes at) = Inserts w x items at
AfterInsert w x items InsertNext.Inserted = IsList w Still (x ∷ items)

-- where a removal goes after a step: the list is as it was, or lacks the item
abbrev pub AfterRemove : TwoWay → List ℕ → ℕ → List ℕ → RemoveNext → Type 0
AfterRemove w front x back (RemoveNext.Goes at) = Removes w front x back at
AfterRemove w front x back RemoveNext.Out = IsList w Still (front ++ back)

-- a list's head is one of the pool's words, and no item's link
pub record IsHead (k : Key) (head : Word) : Type 0 where
  pub valid : Valid k head
  pub no_forward : number (kind_of_word head) ≢ number forwards
  pub no_backward : number (kind_of_word head) ≢ number backwards

-- the items of the list, and the one that comes or leaves, are granules of the pool
pub record CanChange (k : Key) (c : ListCall) (items : List ℕ) : Type 0 where
  pub span : k.span < 2 ^ 64
  pub head : IsHead k c.head
  pub item : c.item < k.span
  pub inside : (x : ℕ) → 0 < tally x items → x < k.span
