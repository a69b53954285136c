-- Taking a mailbox, slab by slab.
use Rattle.std.specs.Prelude.{ℕ, Option, Some, None}
use Rattle.pool_words.specs.declared.words.Word.{Word}
use Rattle.pool_words.specs.declared.actions.Action.{Action}
use Rattle.pool_words.specs.declared.actions.Action.TheVariants.{Load, Store, Swap}
use Rattle.word_codes.specs.declared.nexts.MailKey.{MailKey}
use Rattle.word_codes.specs.declared.nexts.Next.{Next}
use Rattle.word_codes.specs.Links.{link_of}
use Rattle.word_codes.specs.Nexts.{next_of, next_word, next_link_of, mailbox_word}
use Rattle.public_list.specs.declared.joining.JoinAt.{JoinAt}
use Rattle.public_list.specs.declared.joining.JoinNext.{JoinNext}
use Rattle.public_list.specs.Joining.{join_course, join_learn}
use Rattle.mailbox.specs.declared.boxes.BoxAt.{BoxAt}
use Rattle.mailbox.specs.declared.boxes.BoxAt.TheVariants.{Take, Settle, Join}
use Rattle.mailbox.specs.declared.boxes.BoxCall.{BoxCall}
use Rattle.mailbox.specs.declared.boxes.BoxNext.{BoxNext}
use Rattle.mailbox.specs.declared.boxes.BoxNext.TheVariants.{Goes, Empty, Unchanged, Joined}

abbrev pub key_of : BoxCall → MailKey
key_of c = record { seat = c.seat; class = c.class }

abbrev pub box_course : BoxCall → BoxAt → Action
box_course c Take = Swap (mailbox_word (key_of c)) 0
box_course c (BoxAt.Next slab) = Load (Word.Next slab)
box_course c (Settle slab rest) = Store (Word.Next slab) (next_word (Next.Mailbox (key_of c)))
box_course c (Join slab rest j) = join_course (record { slab = slab; head = c.head }) j

abbrev pub box_taken : Option ℕ → BoxNext
box_taken (Some slab) = Goes (BoxAt.Next slab)
box_taken None = Empty

abbrev pub box_joined : ℕ → Option ℕ → JoinNext → BoxNext
box_joined slab rest (JoinNext.Goes j) = Goes (Join slab rest j)
box_joined slab rest JoinNext.Nothing = Unchanged slab rest
box_joined slab rest (JoinNext.Joined first count) = Joined slab first count rest

abbrev pub box_learn : BoxAt → ℕ → BoxNext
box_learn Take f = box_taken (link_of f)
box_learn (BoxAt.Next slab) f = Goes (Settle slab (next_link_of (next_of f)))
box_learn (Settle slab rest) f = Goes (Join slab rest JoinAt.Take)
box_learn (Join slab rest j) f = box_joined slab rest (join_learn j f)
