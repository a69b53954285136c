-- Mailing a slab.
use Rattle.std.specs.Prelude.{ℕ, Some}
use Rattle.pool_words.specs.declared.words.Word.{Word}
use Rattle.pool_words.specs.declared.actions.Action.{Action}
use Rattle.pool_words.specs.declared.actions.Action.TheVariants.{Load}
use Rattle.chain_words.specs.declared.pushing.PushAt.{PushAt}
use Rattle.chain_words.specs.declared.pushing.PushCall.{PushCall}
use Rattle.chain_words.specs.declared.pushing.PushNext.{PushNext}
use Rattle.chain_words.specs.Pushing.{push_course, push_learn, found_of}
use Rattle.word_codes.specs.declared.nexts.MailKey.{MailKey}
use Rattle.word_codes.specs.declared.nexts.Next.{Next}
use Rattle.word_codes.specs.Links.{link_of, link_word}
use Rattle.word_codes.specs.Nexts.{next_of, next_word, mail_key_of, mailbox_word}
use Rattle.mailbox.specs.declared.mailing.MailAt.{MailAt}
use Rattle.mailbox.specs.declared.mailing.MailCall.{MailCall}
use Rattle.mailbox.specs.declared.mailing.MailNext.{MailNext}

-- the push of a slab onto a chain of slabs, once the chain's head was found to be this
abbrev pub slab_push : Word → ℕ → ℕ → PushCall
slab_push head slab found = record {
  head = head;
  link = Word.Next slab;
  linked = next_word (Next.Link (link_of found));
  filled = link_word (Some slab);
}

abbrev pub mail_course : MailCall → MailAt → Action
mail_course c MailAt.Next = Load (Word.Next c.slab)
mail_course c (MailAt.Push key p) = push_course (slab_push (mailbox_word key) c.slab (found_of p)) p

abbrev pub mailed : MailKey → PushNext → MailNext
mailed key (PushNext.Goes p) = MailNext.Goes (MailAt.Push key p)
mailed key (PushNext.Pushed found) = MailNext.Mailed

abbrev pub mail_learn : MailAt → ℕ → MailNext
mail_learn MailAt.Next f = MailNext.Goes (MailAt.Push (mail_key_of (next_of f)) PushAt.Look)
mail_learn (MailAt.Push key p) f = mailed key (push_learn p f)
