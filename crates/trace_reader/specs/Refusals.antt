-- The kinds of what is wrong with a line.
use Rattle.std.specs.Prelude.{ℕ}
use Rattle.trace_reader.specs.declared.refusal.Refusal.{Refusal}
use Rattle.trace_reader.specs.declared.refusal.Refusal.TheVariants.{Spelling, Number, UnknownPool, UnknownThread, UnboundName, BoundBefore, PoolOrder, ThreadsAgain, TooMany, TooLong, NoNewline, NotServed}

-- the number of the kind
abbrev pub refusal_kind : Refusal → ℕ
refusal_kind Spelling = 1
refusal_kind Number = 2
refusal_kind UnknownPool = 3
refusal_kind UnknownThread = 4
refusal_kind UnboundName = 5
refusal_kind BoundBefore = 6
refusal_kind PoolOrder = 7
refusal_kind ThreadsAgain = 8
refusal_kind TooMany = 9
refusal_kind TooLong = 10
refusal_kind NoNewline = 11
refusal_kind NotServed = 12
