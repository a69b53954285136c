-- Joining what was given back to a slab to its private list.
use Rattle.std.specs.Prelude.{ℕ, ◌+◌}
use Rattle.pool_words.specs.declared.words.Word.{Word}
use Rattle.pool_words.specs.declared.actions.Action.{Action}
use Rattle.pool_words.specs.declared.actions.Action.TheVariants.{Load, Store, Swap}
use Rattle.pool_types.specs.Sums.{capped}
use Rattle.word_codes.specs.declared.marks.Mark.{Mark}
use Rattle.word_codes.specs.declared.publics.Public.{Public}
use Rattle.word_codes.specs.Marks.{mark_of, private_link}
use Rattle.word_codes.specs.Publics.{public_of, public_word}
use Rattle.public_list.specs.declared.joining.JoinAt.{JoinAt}
use Rattle.public_list.specs.declared.joining.JoinAt.TheVariants.{Take, Walk, Tie}
use Rattle.public_list.specs.declared.joining.JoinCall.{JoinCall}
use Rattle.public_list.specs.declared.joining.JoinNext.{JoinNext}
use Rattle.public_list.specs.declared.joining.JoinNext.TheVariants.{Goes, Nothing, Joined}

abbrev pub join_course : JoinCall → JoinAt → Action
join_course c Take = Swap (Word.Public c.slab) (public_word Public.Null)
join_course c (Walk first at count) = Load (Word.Mark at)
join_course c (Tie first last count) = Store (Word.Mark last) (private_link c.head)

abbrev pub join_taken : Public → JoinNext
join_taken Public.Null = Nothing
join_taken Public.Unusable = Nothing
join_taken (Public.Filled first) = Goes (Walk first first 0)

-- the chain ends at a mark that is no link
abbrev pub join_walked : ℕ → ℕ → ℕ → Mark → JoinNext
join_walked first at count Mark.Unmarked = Goes (Tie first at count)
join_walked first at count (Mark.Granted g) = Goes (Tie first at count)
join_walked first at count (Mark.Hand seat) = Goes (Tie first at count)
join_walked first at count (Mark.Link next) = Goes (Walk first next count)
join_walked first at count Mark.End = Goes (Tie first at count)
join_walked first at count Mark.EndUnusable = Goes (Tie first at count)

abbrev pub join_learn : JoinAt → ℕ → JoinNext
join_learn Take f = join_taken (public_of f)
join_learn (Walk first at count) f = join_walked first at (capped (count + 1)) (mark_of f)
join_learn (Tie first last count) f = Joined first count
