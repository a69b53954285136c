-- The mark of an object: a tag of 3 bits, and behind it a grant, a seat or a unit.
use Rattle.std.specs.Prelude.{ℕ, ◌+◌, ◌*◌, ◌/◌, ◌%◌, ◌^◌, ◌<◌, ⊤, cond, eqb, Option, Some, None}
use Rattle.word_codes.specs.declared.marks.Mark.{Mark}
use Rattle.word_codes.specs.declared.marks.Mark.TheVariants.{Unmarked, Granted, Hand, Link, End, EndUnusable}
use Rattle.word_codes.specs.declared.publics.Public.{Public}

unfoldable pub mark_of : ℕ → Mark
mark_of w =
    cond (eqb (w % 8) 1) (Granted (record { seat = w / 8 % 64; number = w / 512 }))
    (cond (eqb (w % 8) 2) (Hand (w / 8 % 64))
    (cond (eqb (w % 8) 3) (Link (w / 8))
    (cond (eqb (w % 8) 4) End
    (cond (eqb (w % 8) 5) EndUnusable Unmarked))))

unfoldable pub mark_word : Mark → ℕ
mark_word Unmarked = 0
mark_word (Granted g) = 1 + 8 * (g.seat % 64) + 512 * (g.number % 2 ^ 55)
mark_word (Hand seat) = 2 + 8 * (seat % 64)
mark_word (Link unit) = 3 + 8 * (unit % 2 ^ 61)
mark_word End = 4
mark_word EndUnusable = 5

-- the marks that have a word of their own
abbrev pub FitsMark : Mark → Type 0
FitsMark Unmarked = ⊤
FitsMark (Granted g) = (g.seat < 64) × (g.number < 2 ^ 55)
FitsMark (Hand seat) = seat < 64
FitsMark (Link unit) = unit < 2 ^ 61
FitsMark End = ⊤
FitsMark EndUnusable = ⊤

-- the word of the mark of an object that comes before this one in a private list
abbrev pub private_link : Option ℕ → ℕ
private_link (Some unit) = mark_word (Link unit)
private_link None = mark_word End

-- the word of the mark of an object that comes before what the slab's public word named
abbrev pub public_link : Public → ℕ
public_link Public.Null = mark_word End
public_link Public.Unusable = mark_word EndUnusable
public_link (Public.Filled unit) = mark_word (Link unit)
