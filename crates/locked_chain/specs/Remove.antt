-- An item is taken out of a list.
use Rattle.std.specs.Prelude.{ℕ, Option, Some, None}
use Rattle.pool_words.specs.declared.words.Word.{Word}
use Rattle.pool_words.specs.declared.actions.Action.{Action}
use Rattle.pool_words.specs.declared.actions.Action.TheVariants.{Load, Store}
use Rattle.word_codes.specs.Links.{link_of}
use Rattle.locked_chain.specs.declared.ListCall.{ListCall}
use Rattle.locked_chain.specs.declared.remove.RemoveAt.{RemoveAt}
use Rattle.locked_chain.specs.declared.remove.RemoveAt.TheVariants.{Forward, Backward, Skip, SkipBack}
use Rattle.locked_chain.specs.declared.remove.RemoveNext.{RemoveNext}
use Rattle.locked_chain.specs.declared.remove.RemoveNext.TheVariants.{Goes, Out}

-- what stands before the item leads to what is behind it: another item, or the list's head
abbrev pub skip_course : ListCall → ℕ → Option ℕ → Action
skip_course c forward (Some before) = Store (Word.Forward before) forward
skip_course c forward None = Store c.head forward

abbrev pub remove_course : ListCall → RemoveAt → Action
remove_course c Forward = Load (Word.Forward c.item)
remove_course c (Backward forward) = Load (Word.Backward c.item)
remove_course c (Skip forward backward) = skip_course c forward (link_of backward)
remove_course c (SkipBack behind backward) = Store (Word.Backward behind) backward

-- what is behind the item is told of what is before it, where something is
abbrev pub skip_back : ℕ → Option ℕ → RemoveNext
skip_back backward (Some behind) = Goes (SkipBack behind backward)
skip_back backward None = Out

abbrev pub remove_learn : RemoveAt → ℕ → RemoveNext
remove_learn Forward found = Goes (Backward found)
remove_learn (Backward forward) found = Goes (Skip forward found)
remove_learn (Skip forward backward) found = skip_back backward (link_of forward)
remove_learn (SkipBack behind backward) found = Out
