-- What the lines of a trace that was read are: of a plain one, and of any.
use Rattle.std.specs.Prelude.{◌≡◌, ℕ, ◌+◌, ◌<◌, ◌≤◌, ◌⊎◌, true, List, [], ◌∷◌, Some, None}
use Rattle.std.specs.declared.option.Option.{Option}
use Rattle.trace_reader.specs.declared.keywords.CallWord.{CallWord}
use Rattle.trace_reader.specs.declared.keywords.CallWord.TheVariants.{MallocWord, AlignedWord, ReallocWord, AlignedReallocWord, FreeWord, MsizeWord, IdentifyWord, ExitWord}
use Rattle.pool_types.specs.declared.texts.ThreadName.{ThreadName}
use Rattle.trace_reader.specs.declared.acts.Forms.TheVariants as forms
use Rattle.arrayvec.specs.ArrayVec.{ArrayVec}
use Rattle.trace_reader.specs.declared.acts.PoolOption.{PoolOption}
use Rattle.trace_reader.specs.declared.acts.PoolOption.TheVariants as option
use Rattle.trace_reader.specs.declared.acts.What.{What}
use Rattle.trace_reader.specs.declared.acts.What.TheVariants as what
use Rattle.trace_reader.specs.declared.acts.TraceCall.{TraceCall}
use Rattle.trace_reader.specs.declared.acts.TraceCall.TheVariants as call
use Rattle.trace_reader.specs.declared.acts.Act.{Act}
use Rattle.trace_reader.specs.declared.acts.Act.TheVariants as act
use Rattle.trace_reader.specs.declared.acts.TraceLine.{TraceLine}
use Rattle.pool_types.specs.Limits.{most_lines}
use Rattle.trace_reader.specs.Contexts.{Context}
use Rattle.trace_reader.specs.Acts.{bound_by, serves_call}

-- the word that names the call
abbrev pub word_of_call : TraceCall → CallWord
word_of_call (call.Malloc name size) = MallocWord
word_of_call (call.Aligned name size alignment) = AlignedWord
word_of_call (call.Realloc name what size) = ReallocWord
word_of_call (call.AlignedRealloc name what size alignment) = AlignedReallocWord
word_of_call (call.Free what) = FreeWord
word_of_call (call.Msize what) = MsizeWord
word_of_call (call.Identify what) = IdentifyWord
word_of_call call.Exit = ExitWord

-- a malloc asks for at most 8128 bytes
abbrev pub HasSmallSize : TraceCall → Type 0
HasSmallSize (call.Malloc name size) = size ≤ 8128
HasSmallSize other = Unit {0}

-- a call of a plain trace
abbrev pub IsServedCall : TraceCall → Type 0
IsServedCall call = (serves_call forms.Plain (word_of_call call) ≡ true) × HasSmallSize call

-- each line makes such a call, whole, on the first pool by the first thread
abbrev pub AreServedCalls : List Act → Type 0
AreServedCalls [] = Unit {0}
AreServedCalls (act.Call thread pool call ∷ acts) = (thread ≡ 0) × (pool ≡ 0) × IsServedCall call × AreServedCalls acts
AreServedCalls (other ∷ acts) = ⊥

-- what the line `pool P0 fixed` does, and the options of its pool
abbrev pub plain_pool : Act
plain_pool = act.Pool 0

abbrev pub plain_options : ArrayVec PoolOption
plain_options = record { items = option.Fixed ∷ [] }

-- Names of threads, the options of pools, and what the lines of a plain trace do. There is no line, or the line that names
-- the one thread, or the pool's line; or the line that names the thread, then the pool's line, and then calls.
abbrev pub AreServed : List ThreadName → List (ArrayVec PoolOption) → List Act → Type 0
AreServed names pools acts = ((names ≡ []) × (pools ≡ []) × (acts ≡ []))
    ⊎ ((name : ThreadName) × (names ≡ name ∷ []) × (pools ≡ []) × (acts ≡ act.Threads ∷ []))
    ⊎ ((names ≡ []) × (pools ≡ plain_options ∷ []) × (acts ≡ plain_pool ∷ []))
    ⊎ ((name : ThreadName) × (calls : List Act) × (names ≡ name ∷ []) × (pools ≡ plain_options ∷ [])
    × (acts ≡ act.Threads ∷ plain_pool ∷ calls) × AreServedCalls calls)

-- what a line does
abbrev pub act_of : TraceLine → Act
act_of line = line.act

-- the numbers of the lines grow, from this one on, and each is at most the most lines
abbrev pub AreNumbered : ℕ → List TraceLine → Type 0
AreNumbered least [] = Unit {0}
AreNumbered least (line ∷ lines) = (least ≤ line.line) × (line.line ≤ most_lines) × AreNumbered (line.line + 1) lines

-- the numbers of the names that were bound lie below their count, and no two names have one number
pub record AreNumberedNames (before : Context) : Type 0 where
  pub counted : (word : List ℕ) (number : ℕ) → before.bound word ≡ Some number → number < before.count
  pub apart : (one other : List ℕ) (number : ℕ) → before.bound one ≡ Some number → before.bound other ≡ Some number
      → one ≡ other

-- what the call is asked of
abbrev pub asked_of : TraceCall → Option What
asked_of (call.Malloc name size) = None
asked_of (call.Aligned name size alignment) = None
asked_of (call.Realloc name what size) = Some what
asked_of (call.AlignedRealloc name what size alignment) = Some what
asked_of (call.Free what) = Some what
asked_of (call.Msize what) = Some what
asked_of (call.Identify what) = Some what
asked_of call.Exit = None

-- the name that a call is asked of, if any, is one of so many
abbrev pub IsAskedOfBound : ℕ → Option What → Type 0
IsAskedOfBound count (Some (what.Name number)) = number < count
IsAskedOfBound count other = Unit {0}

-- the name that is bound, if any, is the next behind so many
abbrev pub IsNextName : ℕ → Option ℕ → Type 0
IsNextName count None = Unit {0}
IsNextName count (Some number) = number ≡ count

-- so many names, and the one that is bound
abbrev pub count_with : ℕ → Option ℕ → ℕ
count_with count None = count
count_with count (Some number) = count + 1

-- the call that a line makes or begins
abbrev pub call_in : Act → Option TraceCall
call_in (act.Call thread pool call) = Some call
call_in (act.Begin thread pool call) = Some call
call_in other = None

-- after lines that bound so many names, the call is asked of one of them at most, and binds the next one at most
abbrev pub IsBoundInTurn : ℕ → Option TraceCall → Type 0
IsBoundInTurn count None = Unit {0}
IsBoundInTurn count (Some call) = IsAskedOfBound count (asked_of call) × IsNextName count (bound_by call)

-- how many names are bound after the call
abbrev pub after_call : ℕ → Option TraceCall → ℕ
after_call count None = count
after_call count (Some call) = count_with count (bound_by call)

-- after lines that bound so many names, each line asks for names that earlier lines bound, and binds the name that comes next
abbrev pub AreBoundInTurn : ℕ → List Act → Type 0
AreBoundInTurn count [] = Unit {0}
AreBoundInTurn count (act ∷ acts) = IsBoundInTurn count (call_in act)
    × AreBoundInTurn (after_call count (call_in act)) acts
