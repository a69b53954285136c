-- What a thread's lines come to, one after another.
use Rattle.std.specs.Prelude.{◌≡◌, ℕ, List, [], ◌∷◌, ◌++◌, Some, None, Ok}
use Rattle.pool_types.specs.declared.values.Answer.{Answer}
use Rattle.pool_types.specs.declared.values.Request.{Request}
use Rattle.pool_api.specs.Heaps.{CalledBy}
use Rattle.trace_reader.specs.declared.acts.TraceCall.{TraceCall}
use Rattle.trace_reader.specs.declared.acts.TraceLine.{TraceLine}
use Rattle.trace_reader.specs.Acts.{bound_by}
use Rattle.thread_calls.specs.declared.calls.OwnCall.{OwnCall}
use Rattle.thread_calls.specs.declared.calls.Said.{Said}
use Rattle.thread_calls.specs.Calls.{own_call, name_asked, request_with, word_of}
use Rattle.thread_lines.specs.Heaps.{Heap, Heaps, IsWithHeap}

-- the call asks this, where names have these words
pub record Asks (named : ℕ → ℕ → Type 0) (call : TraceCall) (request : Request) : Type 0 where
  pub word : ℕ
  pub known : (name : ℕ) → name_asked call ≡ Some name → named name word
  pub request_is : request ≡ request_with word call

-- the name that the call binds, if any, has this word
abbrev pub Binds : (ℕ → ℕ → Type 0) → TraceCall → ℕ → Type 0
Binds named call word = (name : ℕ) → bound_by call ≡ Some name → named name word

module _ {D : Type 0} where
  -- the heap of the pool makes the call, and this is its answer
  pub record Answers (heaps : Heaps D) (pool : ℕ) (request : Request) (answer : Answer) (new : Heaps D) : Type 0 where
    pub heap : Heap D
    pub there : heaps pool ≡ Some heap
    pub now : Heap D
    pub called : CalledBy heap.local heap.entry request (Ok answer) now.local now.entry
    pub heaps_are : IsWithHeap heaps pool now new

  -- What a request on a pool comes to: the pool was not made, and no heap is called; or its heap's answer.
  abbrev pub Serves : Heaps D → ℕ → Request → Said → Heaps D → Type 0
  Serves heaps pool request Said.Gone new = (heaps pool ≡ None) × ((other : ℕ) → new other ≡ heaps other)
  Serves heaps pool request (Said.Answered answer) new = Answers heaps pool request answer new

  -- a line of the thread makes its call
  pub record Speaks (named : ℕ → ℕ → Type 0) (own : OwnCall) (said : Said) (heaps new : Heaps D) : Type 0 where
    pub request : Request
    pub asks : Asks named own.call request
    pub serves : Serves heaps own.pool request said new
    pub binds : Binds named own.call (word_of said)

  -- What the thread's lines among these come to, in order, from these heaps on, where names have these words. A line of
  -- another thread, and one that makes no call, is passed over.
  pub data Tells (named : ℕ → ℕ → Type 0) (thread : ℕ) (first : Heaps D) : List TraceLine → List Said → Heaps D → Type 0
    where
      begins : (heaps : Heaps D) → ((pool : ℕ) → heaps pool ≡ first pool) → Tells named thread first [] [] heaps
      passes : {lines : List TraceLine} {all : List Said} {heaps : Heaps D} → Tells named thread first lines all heaps
          → (line : TraceLine) → own_call thread line.act ≡ None
          → Tells named thread first (lines ++ line ∷ []) all heaps
      speaks : {lines : List TraceLine} {all : List Said} {heaps : Heaps D} → Tells named thread first lines all heaps
          → (line : TraceLine) (own : OwnCall) (said : Said) (new : Heaps D) → own_call thread line.act ≡ Some own
          → Speaks named own said heaps new → Tells named thread first (lines ++ line ∷ []) (all ++ said ∷ []) new
