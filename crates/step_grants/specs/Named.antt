-- Grants by name: seat 0 has made three and seat 1 one. The first is at unit 8 and the third at unit 24; the second
-- was ended, and its object, at unit 32, leads to another in a list. Unit 16 is in seat 1's hand, and seat 1's own
-- grant is at unit 40.
use Rattle.std.specs.Prelude.{ℕ}
use Rattle.word_codes.specs.declared.marks.Mark.{Mark}
use Rattle.word_codes.specs.Marks.{mark_word}
use Rattle.word_laws.specs.Memory.{put}

abbrev pub granted_word : ℕ → ℕ → ℕ
granted_word seat number = mark_word (Mark.Granted (record { seat = seat; number = number }))

abbrev pub named_marks : ℕ → ℕ
named_marks = put (put (put (put (put (λ u. 0) 8 (granted_word 0 1)) 24 (granted_word 0 3)) 32
    (mark_word (Mark.Link 48))) 16 (mark_word (Mark.Hand 1))) 40 (granted_word 1 1)

abbrev pub named_lasts : ℕ → ℕ
named_lasts = put (put (λ seat. 0) 0 3) 1 1
