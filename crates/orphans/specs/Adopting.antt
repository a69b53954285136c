-- Adopting orphans, and reading the links of those that are pushed back.
use Rattle.std.specs.Prelude.{ℕ, Option, Some, None}
use Rattle.pool_words.specs.declared.words.Word.{Word}
use Rattle.pool_words.specs.declared.actions.Action.{Action}
use Rattle.pool_words.specs.declared.actions.Action.TheVariants.{Load, Store, Swap}
use Rattle.word_codes.specs.declared.nexts.MailKey.{MailKey}
use Rattle.word_codes.specs.declared.nexts.Next.{Next}
use Rattle.word_codes.specs.declared.owns.Own.{Own}
use Rattle.word_codes.specs.Links.{link_of}
use Rattle.word_codes.specs.Nexts.{next_of, next_word, next_link_of}
use Rattle.word_codes.specs.Owns.{own_word}
use Rattle.orphans.specs.declared.adopting.AdoptAt.{AdoptAt}
use Rattle.orphans.specs.declared.adopting.AdoptCall.{AdoptCall}
use Rattle.orphans.specs.declared.adopting.AdoptNext.{AdoptNext}
use Rattle.orphans.specs.declared.adopting.AdoptNext.TheVariants.{Goes, Empty, Adopted, Spared}

-- the adopter's mailbox for slabs of the class
abbrev pub key_of : AdoptCall → MailKey
key_of c = record { seat = c.seat; class = c.class }

abbrev pub adopt_course : AdoptCall → AdoptAt → Action
adopt_course c AdoptAt.Take = Swap (Word.Orphans c.class) 0
adopt_course c (AdoptAt.Header slab) = Load (Word.Header slab)
adopt_course c (AdoptAt.Next slab header) = Load (Word.Next slab)
adopt_course c (AdoptAt.Settle slab header rest) = Store (Word.Next slab) (next_word (Next.Mailbox (key_of c)))
adopt_course c (AdoptAt.Own slab header rest) = Store (Word.Own slab) (own_word (Own.Kept c.seat))
adopt_course c (AdoptAt.Spare slab) = Load (Word.Next slab)

abbrev pub adopt_taken : Option ℕ → AdoptNext
adopt_taken (Some slab) = Goes (AdoptAt.Header slab)
adopt_taken None = Empty

abbrev pub adopt_learn : AdoptAt → ℕ → AdoptNext
adopt_learn AdoptAt.Take f = adopt_taken (link_of f)
adopt_learn (AdoptAt.Header slab) f = Goes (AdoptAt.Next slab f)
adopt_learn (AdoptAt.Next slab header) f = Goes (AdoptAt.Settle slab header (next_link_of (next_of f)))
adopt_learn (AdoptAt.Settle slab header rest) f = Goes (AdoptAt.Own slab header rest)
adopt_learn (AdoptAt.Own slab header rest) f = Adopted slab header rest
adopt_learn (AdoptAt.Spare slab) f = Spared slab (next_link_of (next_of f))
