-- What calls of a heap have granted and freed.
use Rattle.std.specs.Prelude.{◌≡◌, ◌≢◌, ℕ, List, [], ◌∷◌, ◌++◌, Some, None}
use Rattle.pool_types.specs.declared.values.Answer.{Answer}
use Rattle.pool_types.specs.declared.values.Request.{Request}
use Rattle.pool_words.specs.declared.words.Key.{Key}
use Rattle.step_local.specs.declared.frames.Object.{Object}
use Rattle.step_runs.specs.declared.entry.Entry.{Entry}
use Rattle.step_runs.specs.declared.entry.Told.{Told}
use Rattle.trace_reader.specs.declared.acts.TraceLine.{TraceLine}
use Rattle.path_laws.specs.Pays.{Pays}
use Rattle.pool_api.specs.Heaps.{told}
use Rattle.thread_calls.specs.Calls.{own_call}
use Rattle.thread_calls.specs.declared.calls.OwnCall.{OwnCall}
use Rattle.thread_calls.specs.declared.calls.Said.{Said}
use Rattle.thread_lines.specs.Telling.{Asks}

-- what one call adds to its heap's entry
pub record AddsPaid {D : Type 0} (k : Key) (request : Request) (answer : Answer) (before after : Entry D)
    : Type 0 where
  pub grants : List Object
  pub frees : List Object
  pub pays : Pays k request answer grants frees
  pub grants_are : after.grants ≡ before.grants ++ grants
  pub frees_are : after.frees ≡ before.frees ++ frees

-- what calls have granted and freed that were told so, one after another
pub data Earned (k : Key) : List Told → List Object → List Object → Type 0 where
  nothing_yet : Earned k [] [] []
  earns : {tolds : List Told} {grants frees : List Object} → Earned k tolds grants frees
      → (request : Request) (answer : Answer) (more fewer : List Object) → Pays k request answer more fewer
      → Earned k (tolds ++ told request answer ∷ []) (grants ++ more) (frees ++ fewer)

-- what is told of the thread's calls on a pool among these lines, in their order, where these are what all its calls
-- came to and names have these words
pub data CallsOn (named : ℕ → ℕ → Type 0) (thread pool : ℕ) : List TraceLine → List Said → List Told → Type 0 where
  none_yet : CallsOn named thread pool [] [] []
  passes : {lines : List TraceLine} {all : List Said} {tolds : List Told} → CallsOn named thread pool lines all tolds
      → (line : TraceLine) → own_call thread line.act ≡ None
      → CallsOn named thread pool (lines ++ line ∷ []) all tolds
  elsewhere : {lines : List TraceLine} {all : List Said} {tolds : List Told}
      → CallsOn named thread pool lines all tolds → (line : TraceLine) (own : OwnCall) (said : Said)
      → own_call thread line.act ≡ Some own → own.pool ≢ pool
      → CallsOn named thread pool (lines ++ line ∷ []) (all ++ said ∷ []) tolds
  here : {lines : List TraceLine} {all : List Said} {tolds : List Told} → CallsOn named thread pool lines all tolds
      → (line : TraceLine) (own : OwnCall) (request : Request) (answer : Answer)
      → own_call thread line.act ≡ Some own → own.pool ≡ pool → Asks named own.call request
      → CallsOn named thread pool (lines ++ line ∷ []) (all ++ Said.Answered answer ∷ [])
      (tolds ++ told request answer ∷ [])

-- what a thread's lines add to the entry of its heap of a pool
pub record AddsEarned {D : Type 0} (k : Key) (named : ℕ → ℕ → Type 0) (thread pool : ℕ) (lines : List TraceLine)
    (all : List Said) (before after : Entry D) : Type 0 where
  pub tolds : List Told
  pub calls : CallsOn named thread pool lines all tolds
  pub grants : List Object
  pub frees : List Object
  pub earned : Earned k tolds grants frees
  pub grants_are : after.grants ≡ before.grants ++ grants
  pub frees_are : after.frees ≡ before.frees ++ frees
