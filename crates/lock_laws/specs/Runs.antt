-- Changes of a list from their first step to their last, with what others do in between.
use Rattle.std.specs.Prelude.{◌≡◌, ℕ, ◌<◌, List, ◌∷◌}
use Rattle.pool_words.specs.declared.words.Key.{Key}
use Rattle.pool_words.specs.declared.words.Word.{Word}
use Rattle.locked_chain.specs.declared.ListCall.{ListCall}
use Rattle.locked_chain.specs.declared.insert.InsertAt.{InsertAt}
use Rattle.locked_chain.specs.declared.insert.InsertNext.{InsertNext}
use Rattle.locked_chain.specs.declared.remove.RemoveAt.{RemoveAt}
use Rattle.locked_chain.specs.declared.remove.RemoveNext.{RemoveNext}
use Rattle.locked_chain.specs.Insert.{insert_course, insert_learn}
use Rattle.locked_chain.specs.Remove.{remove_course, remove_learn}
use Rattle.word_laws.specs.Memory.{Mem, after, found}
use Rattle.chain_laws.specs.Chains.{tally}
use Rattle.lock_laws.specs.Steps.{list_of}

-- the words of a list's head and of these items are the same in both memories
pub record LeavesList (head : Word) (items : List ℕ) (m new : Mem) : Type 0 where
  pub first : (list_of head new).head ≡ (list_of head m).head
  pub next : (x : ℕ) → 0 < tally x items → (list_of head new).next x ≡ (list_of head m).next x
  pub previous : (x : ℕ) → 0 < tally x items → (list_of head new).previous x ≡ (list_of head m).previous x

-- the run of an insertion: its own steps, and between them those of others, which leave the words of the list and
-- of the item
pub data InsertRun (k : Key) (c : ListCall) (items : List ℕ) (start : Mem) : Mem → InsertNext → Type 0 where
  insert_begins : InsertRun k c items start start (InsertNext.Goes InsertAt.Head)
  insert_steps : (m : Mem) (at : InsertAt) → InsertRun k c items start m (InsertNext.Goes at)
      → InsertRun k c items start (after k m (insert_course c at)) (insert_learn at (found m (insert_course c at)))
  insert_waits : (m new : Mem) (next : InsertNext) → InsertRun k c items start m next
      → LeavesList c.head (c.item ∷ items) m new → InsertRun k c items start new next

-- the run of a removal, likewise
pub data RemoveRun (k : Key) (c : ListCall) (items : List ℕ) (start : Mem) : Mem → RemoveNext → Type 0 where
  remove_begins : RemoveRun k c items start start (RemoveNext.Goes RemoveAt.Forward)
  remove_steps : (m : Mem) (at : RemoveAt) → RemoveRun k c items start m (RemoveNext.Goes at)
      → RemoveRun k c items start (after k m (remove_course c at)) (remove_learn at (found m (remove_course c at)))
  remove_waits : (m new : Mem) (next : RemoveNext) → RemoveRun k c items start m next
      → LeavesList c.head (c.item ∷ items) m new → RemoveRun k c items start new next
