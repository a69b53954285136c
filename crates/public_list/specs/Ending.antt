-- Ending a grant.
use Rattle.std.specs.Prelude.{ℕ, cond, eqb}
use Rattle.pool_words.specs.declared.words.Word.{Word}
use Rattle.pool_words.specs.declared.actions.Action.{Action}
use Rattle.pool_words.specs.declared.actions.Action.TheVariants.{Load, Exchange}
use Rattle.word_codes.specs.declared.marks.Mark.{Mark}
use Rattle.word_codes.specs.Marks.{mark_word, private_link}
use Rattle.word_codes.specs.Places.{slot_of}
use Rattle.public_list.specs.Looking.{found_at}
use Rattle.public_list.specs.declared.ending.EndAt.{EndAt}
use Rattle.public_list.specs.declared.ending.EndCall.{EndCall}
use Rattle.public_list.specs.declared.ending.EndNext.{EndNext}

abbrev pub end_course : EndCall → EndAt → Action
end_course c EndAt.Own = Exchange (Word.Mark c.unit) c.mark (private_link c.head)
end_course c EndAt.Other = Exchange (Word.Mark c.unit) c.mark (mark_word (Mark.Hand c.seat))
end_course c EndAt.Large = Exchange (Word.Mark c.unit) c.mark (mark_word (Mark.Hand c.seat))
end_course c (EndAt.Lost m) = Load (Word.Region (slot_of c.number))

abbrev pub end_learn : EndCall → EndAt → ℕ → EndNext
end_learn c EndAt.Own f = cond (eqb f c.mark) EndNext.Own (EndNext.Goes (EndAt.Lost f))
end_learn c EndAt.Other f = cond (eqb f c.mark) EndNext.Other (EndNext.Goes (EndAt.Lost f))
end_learn c EndAt.Large f = cond (eqb f c.mark) EndNext.Large (EndNext.Goes (EndAt.Lost f))
end_learn c (EndAt.Lost m) f = EndNext.NotHeld (found_at f c.number m)
