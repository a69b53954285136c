-- Giving an object back to a slab that another keeps.
use Rattle.std.specs.Prelude.{ℕ}
use Rattle.pool_words.specs.declared.words.Word.{Word}
use Rattle.pool_words.specs.declared.actions.Action.{Action}
use Rattle.chain_words.specs.declared.pushing.PushCall.{PushCall}
use Rattle.chain_words.specs.declared.pushing.PushNext.{PushNext}
use Rattle.chain_words.specs.Pushing.{push_course, push_learn, found_of}
use Rattle.word_codes.specs.declared.publics.Public.{Public}
use Rattle.word_codes.specs.Marks.{public_link}
use Rattle.word_codes.specs.Publics.{public_of, public_word}
use Rattle.public_list.specs.declared.posting.PostAt.{PostAt}
use Rattle.public_list.specs.declared.posting.PostCall.{PostCall}
use Rattle.public_list.specs.declared.posting.PostNext.{PostNext}

-- the push on the slab's public word, once that was found to be this
abbrev pub post_push : PostCall → ℕ → PushCall
post_push c found = record {
  head = Word.Public c.slab;
  link = Word.Mark c.unit;
  linked = public_link (public_of found);
  filled = public_word (Public.Filled c.unit);
}

abbrev pub post_course : PostCall → PostAt → Action
post_course c (PostAt.Push p) = push_course (post_push c (found_of p)) p

-- a push that replaced Null is to be followed by the mailing of the slab
abbrev pub posted : Public → PostNext
posted Public.Null = PostNext.Owed
posted Public.Unusable = PostNext.Listed
posted (Public.Filled u) = PostNext.Listed

abbrev pub post_by : PushNext → PostNext
post_by (PushNext.Goes p) = PostNext.Goes (PostAt.Push p)
post_by (PushNext.Pushed found) = posted (public_of found)

abbrev pub post_learn : PostAt → ℕ → PostNext
post_learn (PostAt.Push p) f = post_by (push_learn p f)
