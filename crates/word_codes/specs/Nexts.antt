-- The next word of a slab: a mailbox, or a link of a chain.
use Rattle.std.specs.Prelude.{ℕ, ◌+◌, ◌*◌, ◌/◌, ◌%◌, ◌^◌, ◌<◌, ⊤, cond, eqb, Option, Some, None}
use Rattle.pool_words.specs.declared.words.Word.{Word}
use Rattle.word_codes.specs.Links.{link_of, link_word}
use Rattle.word_codes.specs.declared.nexts.MailKey.{MailKey}
use Rattle.word_codes.specs.declared.nexts.Next.{Next}
use Rattle.word_codes.specs.declared.nexts.Next.TheVariants.{Mailbox, Link}

unfoldable pub next_of : ℕ → Next
next_of w =
    cond (eqb (w % 2) 1)
    (Mailbox (record { seat = w / 2 % 256; class = w / 512 % 256 }))
    (Link (link_of (w / 2)))

unfoldable pub next_word : Next → ℕ
next_word (Mailbox key) = 1 + 2 * key.seat + 512 * key.class
next_word (Link item) = 2 * (link_word item % 2 ^ 63)

abbrev pub FitsNextLink : Option ℕ → Type 0
FitsNextLink (Some slab) = slab + 1 < 2 ^ 63
FitsNextLink None = ⊤

abbrev pub FitsNext : Next → Type 0
FitsNext (Mailbox key) = (key.seat < 256) × (key.class < 256)
FitsNext (Link item) = FitsNextLink item

-- the word of a mailbox
abbrev pub mailbox_word : MailKey → Word
mailbox_word key = Word.Mailbox key.seat key.class

-- the mailbox that a next word names; that of seat 0 and class 0 where it is a link
abbrev pub mail_key_of : Next → MailKey
mail_key_of (Mailbox key) = key
mail_key_of (Link item) = record { seat = 0; class = 0 }

-- the slab that a next word links to; none where it names a mailbox
abbrev pub next_link_of : Next → Option ℕ
next_link_of (Mailbox key) = None
next_link_of (Link item) = item
