-- A line's call: whose it is, what it asks, and the word of what it came to.
use Rattle.std.specs.Prelude.{ℕ, cond, eqb, Option, Some, None}
use Rattle.pool_types.specs.declared.values.Answer.TheVariants.{Got}
use Rattle.pool_types.specs.declared.values.Place.{Place}
use Rattle.pool_types.specs.declared.values.Request.{Request}
use Rattle.trace_calls.specs.Names.{request_of}
use Rattle.trace_reader.specs.declared.acts.Act.{Act}
use Rattle.trace_reader.specs.declared.acts.Act.TheVariants as act
use Rattle.trace_reader.specs.declared.acts.TraceCall.{TraceCall}
use Rattle.trace_reader.specs.declared.acts.What.{What}
use Rattle.trace_reader.specs.declared.acts.What.TheVariants as what
use Rattle.trace_reader.specs.Served.{asked_of}
use Rattle.thread_calls.specs.declared.calls.OwnCall.{OwnCall}
use Rattle.thread_calls.specs.declared.calls.Said.{Said}
use Rattle.thread_calls.specs.Words.{null_word, word_of_place, place_of_word}

-- the call that a line makes whole, where it is this thread's
abbrev pub own_call : ℕ → Act → Option OwnCall
own_call thread (act.Call named pool call) = cond (eqb named thread) (Some (record { pool = pool; call = call })) None
own_call thread other = None

-- the number of the name that stands there, if one does
abbrev pub name_in : What → Option ℕ
name_in what.Null = None
name_in (what.Name name) = Some name
name_in (what.Place place) = None

abbrev pub name_of : Option What → Option ℕ
name_of None = None
name_of (Some what) = name_in what

-- the number of the name that the call is asked of, if any
abbrev pub name_asked : TraceCall → Option ℕ
name_asked call = name_of (asked_of call)

-- the place that a call is asked of, or null, where the name that stands there has this word
abbrev pub place_with : ℕ → What → Option Place
place_with word what.Null = None
place_with word (what.Name name) = place_of_word word
place_with word (what.Place place) = Some place

-- what the call asks of the pool, where the name that it is asked of has this word
abbrev pub request_with : ℕ → TraceCall → Request
request_with word call = request_of (λ name. place_of_word word) call

-- the word of what a call came to: that of the place that it got, or that of null
abbrev pub word_of : Said → ℕ
word_of (Said.Answered (Got place usable grant)) = word_of_place place
word_of other = null_word
