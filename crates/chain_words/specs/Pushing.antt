-- The steps of a push, and what each learns.
use Rattle.std.specs.Prelude.{ℕ, cond, eqb}
use Rattle.pool_words.specs.declared.actions.Action.{Action}
use Rattle.pool_words.specs.declared.actions.Action.TheVariants.{Load, Store, Exchange}
use Rattle.chain_words.specs.declared.pushing.PushAt.{PushAt}
use Rattle.chain_words.specs.declared.pushing.PushCall.{PushCall}
use Rattle.chain_words.specs.declared.pushing.PushNext.{PushNext}
use Rattle.chain_words.specs.declared.pushing.PushNext.TheVariants.{Goes, Pushed}

abbrev pub push_course : PushCall → PushAt → Action
push_course c PushAt.Look = Load c.head
push_course c (PushAt.Link found) = Store c.link c.linked
push_course c (PushAt.Exchange found) = Exchange c.head found c.filled

-- a lost exchange links the item again, to what was found
abbrev pub push_learn : PushAt → ℕ → PushNext
push_learn PushAt.Look f = Goes (PushAt.Link f)
push_learn (PushAt.Link found) f = Goes (PushAt.Exchange found)
push_learn (PushAt.Exchange found) f = cond (eqb f found) (Pushed f) (Goes (PushAt.Link f))

-- the head that was found last
abbrev pub found_of : PushAt → ℕ
found_of PushAt.Look = 0
found_of (PushAt.Link found) = found
found_of (PushAt.Exchange found) = found
