-- An item is put in front of a list.
use Rattle.std.specs.Prelude.{ℕ, Option, Some, None}
use Rattle.pool_words.specs.declared.words.Word.{Word}
use Rattle.pool_words.specs.declared.actions.Action.{Action}
use Rattle.pool_words.specs.declared.actions.Action.TheVariants.{Load, Store}
use Rattle.word_codes.specs.Links.{link_of, link_word}
use Rattle.locked_chain.specs.declared.ListCall.{ListCall}
use Rattle.locked_chain.specs.declared.insert.InsertAt.{InsertAt}
use Rattle.locked_chain.specs.declared.insert.InsertAt.TheVariants.{Head, Forward, Backward, OldBackward, NewHead}
use Rattle.locked_chain.specs.declared.insert.InsertNext.{InsertNext}
use Rattle.locked_chain.specs.declared.insert.InsertNext.TheVariants.{Goes, Inserted}

-- the link that ends a list
abbrev pub end_link : ℕ
end_link = 0

abbrev pub insert_course : ListCall → InsertAt → Action
insert_course c Head = Load c.head
insert_course c (Forward head) = Store (Word.Forward c.item) head
insert_course c (Backward head) = Store (Word.Backward c.item) end_link
insert_course c (OldBackward old) = Store (Word.Backward old) (link_word (Some c.item))
insert_course c NewHead = Store c.head (link_word (Some c.item))

-- what stood first is told of the new item, where something did
abbrev pub before_old : Option ℕ → InsertNext
before_old (Some old) = Goes (OldBackward old)
before_old None = Goes NewHead

abbrev pub insert_learn : InsertAt → ℕ → InsertNext
insert_learn Head found = Goes (Forward found)
insert_learn (Forward head) found = Goes (Backward head)
insert_learn (Backward head) found = before_old (link_of head)
insert_learn (OldBackward old) found = Goes NewHead
insert_learn NewHead found = Inserted
