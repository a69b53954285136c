-- The steps of a seat on the whole pool: each is a step of guards, one of slabs and one of objects at once. What it
-- rests on is what its own seat does and has in hand, and the book's page of a slab that the seat keeps.
use Rattle.std.specs.Prelude.{◌≡◌, ◌≢◌, ℕ, ◌+◌, ◌^◌, ◌<◌, ◌≤◌, Option, Some, List, length, ⊤}
use Rattle.pool_types.specs.Geometry.{class_count}
use Rattle.pool_words.specs.declared.words.Key.{Key}
use Rattle.pool_words.specs.Words.{marks, publics, kinds, headers}
use Rattle.word_codes.specs.declared.kinds.Kind.{Kind}
use Rattle.word_codes.specs.Kinds.{FitsKind}
use Rattle.word_codes.specs.Places.{granule_of, slab_granule}
use Rattle.guards.specs.declared.win.Taking.{Taking}
use Rattle.heap_slabs.specs.Records.{to_header}
use Rattle.heap_slabs.specs.Rolls.{newest_of, oldest_of}
use Rattle.public_list.specs.declared.ending.EndCall.{EndCall}
use Rattle.public_list.specs.declared.ending.EndAt.{EndAt}
use Rattle.public_list.specs.declared.ending.EndNext.{EndNext}
use Rattle.public_list.specs.declared.joining.JoinAt.{JoinAt}
use Rattle.public_list.specs.Ending.{end_course, end_learn}
use Rattle.word_laws.specs.Memory.{Mem, found}
use Rattle.chain_laws.specs.Chains.{tally}
use Rattle.guard_laws.specs.Blocks as blocks
use Rattle.guard_laws.specs.Blocks.{Use, Place}
use Rattle.guard_laws.specs.Steps.{GuardStep}
use Rattle.slab_laws.specs.Books.{Keeper, record_of}
use Rattle.object_laws.specs.Objects.{Shadow, Locals}
use Rattle.object_laws.specs.Objects.Task.{Away, Ending, Joining, Taking as Granting, Resting}
use Rattle.object_laws.specs.Steps.{ObjectStep}
use Rattle.use_laws.specs.Uses.{Purpose}
use Rattle.use_laws.specs.Pools.{Pool, InHand}
use Rattle.use_laws.specs.After.{pool_freed, pool_block_freed, pool_taken, pool_rested, pool_joined, pool_readied}
use Rattle.use_laws.specs.After.{pool_begun, pool_ended, pool_cached, pool_newest_out, pool_oldest_out, pool_cleared}
use Rattle.use_laws.specs.After.{pool_header_stored, pool_left, pool_come, pool_gone_back, pool_adopted, pool_shelved}
use Rattle.use_laws.specs.After.{pool_unshelved}

-- the words of slabs and objects are the same
pub record SameThings (m m' : Mem) : Type 0 where
  pub marks' : m' marks ≡ m marks
  pub publics' : m' publics ≡ m publics
  pub kinds' : m' kinds ≡ m kinds
  pub headers' : m' headers ≡ m headers

-- a step on guards by which no block comes to rest, and none leaves it
abbrev pub KeepsUse : (k : Key) (seat : ℕ) (g : blocks.Shadow) (m : Mem) (tasks : ℕ → blocks.Task) (h : blocks.Shadow)
    (m' : Mem) (tasks' : ℕ → blocks.Task) → GuardStep k seat g m tasks h m' tasks' → Type 0
KeepsUse k seat g m tasks h m' tasks' (GuardStep.begins c is fits) = ⊤
KeepsUse k seat g m tasks h m' tasks' (GuardStep.wins c at is) = ⊤
KeepsUse k seat g m tasks h m' tasks' (GuardStep.offers first granules taking is at) = ⊤
KeepsUse k seat g m tasks h m' tasks' (GuardStep.offered first granules is) = ⊤
KeepsUse k seat g m tasks h m' tasks' (GuardStep.marks e first granules taking guard is at fits) = ⊤
KeepsUse k seat g m tasks h m' tasks' (GuardStep.readies e first granules at taking block low high) = ⊤
KeepsUse k seat g m tasks h m' tasks' (GuardStep.splits first a b is some more at used) = ⊤
KeepsUse k seat g m tasks h m' tasks' (GuardStep.merges first a b is at behind) = ⊤
KeepsUse k seat g m tasks h m' tasks' (GuardStep.reuses first granules was now is own own' at fits) =
    (was ≢ Use.Elsewhere) × (now ≢ Use.Elsewhere)
KeepsUse k seat g m tasks h m' tasks' GuardStep.drains = ⊤
KeepsUse k seat g m tasks h m' tasks' (GuardStep.walls e y low none) = ⊤
KeepsUse k seat g m tasks h m' tasks' (GuardStep.outlines e y low none) = ⊤
KeepsUse k seat g m tasks h m' tasks' (GuardStep.comes first granules some within outside used) = ⊤
KeepsUse k seat g m tasks h m' tasks' (GuardStep.leaves first granules taking is at) = ⊤
KeepsUse k seat g m tasks h m' tasks' (GuardStep.others action other) = ⊤

-- a grant is not ended yet, was before, or its object is in the seat's hand
abbrev pub IsPlainEnd : EndNext → Type 0
IsPlainEnd (EndNext.Goes at) = ⊤
IsPlainEnd EndNext.Own = ⊥
IsPlainEnd EndNext.Other = ⊤
IsPlainEnd EndNext.Large = ⊥
IsPlainEnd (EndNext.NotHeld found) = ⊤

-- what was given back to a slab is not joined yet
abbrev pub IsPlainJoin : JoinAt → Type 0
IsPlainJoin JoinAt.Take = ⊤
IsPlainJoin (JoinAt.Walk first at count) = ⊤
IsPlainJoin (JoinAt.Tie first last count) = ⊥

-- a step on objects by which no slab's record, no slab and no large block changes
abbrev pub IsPlain : (k : Key) (g : Shadow) (m : Mem) (l : Locals) (h : Shadow) (m' : Mem)
    (l' : Locals) → ObjectStep k g m l h m' l' → Type 0
IsPlain k g m l h m' l' (ObjectStep.looks seat call at is) = ⊤
IsPlain k g m l h m' l' (ObjectStep.ends seat call kind at few is) =
    IsPlainEnd (end_learn call at (found m (end_course call at)))
IsPlain k g m l h m' l' (ObjectStep.posts seat call at is) = ⊤
IsPlain k g m l h m' l' (ObjectStep.joins seat e at is) = IsPlainJoin at
IsPlain k g m l h m' l' (ObjectStep.reads seat e head is) = ⊤
IsPlain k g m l h m' l' (ObjectStep.takes seat e head below few is) = ⊥
IsPlain k g m l h m' l' (ObjectStep.rests seat e unit few is) = ⊥
IsPlain k g m l h m' l' (ObjectStep.readies seat unit first granules is can low) = ⊥
IsPlain k g m l h m' l' (ObjectStep.blocks seat unit first granules few is) = ⊤
IsPlain k g m l h m' l' (ObjectStep.slab_begins seat e class is nobody place low bare) = ⊥
IsPlain k g m l h m' l' (ObjectStep.slab_ends seat e is by none) = ⊥
IsPlain k g m l h m' l' (ObjectStep.slab_cached seat e nobody even low bare) = ⊥
IsPlain k g m l h m' l' (ObjectStep.slab_uncached seat e cached low) = ⊥
IsPlain k g m l h m' l' (ObjectStep.leaves seat e is by) = ⊥
IsPlain k g m l h m' l' (ObjectStep.comes seat chain is orphans) = ⊥
IsPlain k g m l h m' l' (ObjectStep.goes_back seat e is has) = ⊥
IsPlain k g m l h m' l' (ObjectStep.adopts seat e is has) = ⊥
IsPlain k g m l h m' l' (ObjectStep.closes e low) = ⊤
IsPlain k g m l h m' l' (ObjectStep.clears e none low) = ⊥
IsPlain k g m l h m' l' (ObjectStep.begins seat task is start fits) = ⊤
IsPlain k g m l h m' l' (ObjectStep.forgets seat n ns is) = ⊤
IsPlain k g m l h m' l' (ObjectStep.others action other) = ⊥

pub data PoolStep (k : Key) (seat : ℕ) (p : Pool) : Pool → Type 0 where
  -- a step on guards, or on a word of neither slabs nor objects, by which no block comes to rest or leaves it
  guards : (h : blocks.Shadow) (m' : Mem) (tasks : ℕ → blocks.Task)
      → (step : GuardStep k seat p.blocks p.mem p.tasks h m' tasks)
      → KeepsUse k seat p.blocks p.mem p.tasks h m' tasks step → SameThings p.mem m'
      → PoolStep k seat p (record p { mem = m'; blocks = h; tasks = tasks })
  -- a step on objects by which no record, no slab and no large block changes
  objects : (h : Shadow) (m' : Mem) (l' : Locals)
      → (step : ObjectStep k p.objects p.mem p.locals h m' l')
      → IsPlain k p.objects p.mem p.locals h m' l' step
      → PoolStep k seat p (record p { mem = m'; objects = h; locals = l' })
  -- M4: a grant is ended, of an object in a slab that the seat keeps
  frees : (call : EndCall) (kind : Kind) (at : EndAt) → seat < 64 → p.locals.tasks seat ≡ Ending call kind at
      → end_learn call at (found p.mem (end_course call at)) ≡ EndNext.Own
      → PoolStep k seat p (pool_freed k seat call kind at p)
  -- M6: and of a large object: its block is in the seat's hand
  frees_block : (call : EndCall) (x n : ℕ) (at : EndAt) (taking : Taking) → seat < 64
      → p.locals.tasks seat ≡ Ending call (Kind.Large x n) at
      → end_learn call at (found p.mem (end_course call at)) ≡ EndNext.Large → p.tasks seat ≡ blocks.Task.Away
      → PoolStep k seat p (pool_block_freed k seat call x n at taking p)
  -- M3, M2: an object of a slab is granted
  takes : (e head : ℕ) (below : Option ℕ) → seat < 64 → p.locals.tasks seat ≡ Granting e head below
      → PoolStep k seat p (pool_taken k seat e head below p)
  rests : (e unit : ℕ) → seat < 64 → p.locals.tasks seat ≡ Resting e unit
      → PoolStep k seat p (pool_rested k seat e unit p)
  -- M8: what was given back to a slab is joined
  joins : (e first last count : ℕ) → p.locals.tasks seat ≡ Joining e (JoinAt.Tie first last count)
      → PoolStep k seat p (pool_joined k seat e first last count p)
  -- F8: a block in hand is made ready for a large object
  readies : (x n unit : ℕ) → InHand p seat x n Taking.ForUse → p.locals.tasks seat ≡ Away
      → FitsKind (Kind.Large x n) → x ≤ granule_of unit → granule_of unit < x + n → p.locals.lasts seat + 1 < 2 ^ 55
      → PoolStep k seat p (pool_readied k seat x n unit p)
  -- F8: a block in hand begins to be a slab, and a slab of which nothing is held ends
  slab_begins : (e class : ℕ) → InHand p seat e 2 Taking.ForUse → p.locals.tasks seat ≡ Away → slab_granule e ≡ e
      → class < class_count
      → PoolStep k seat p (pool_begun k seat e class p)
  slab_ends : (e : ℕ) (taking : Taking) → p.tasks seat ≡ blocks.Task.Away → p.locals.tasks seat ≡ Away
      → p.locals.book.keeper e ≡ Keeper.By seat → p.locals.book.counts e ≡ 0
      → PoolStep k seat p (pool_ended k seat e taking p)
  -- F8: a block in hand lies in the seat's cache as an empty slab, and leaves it at its newest or its oldest end
  slab_cached : (e : ℕ) → InHand p seat e 2 Taking.ForUse → slab_granule e ≡ e
      → length (p.cached seat).items < (p.cached seat).room
      → PoolStep k seat p (pool_cached k seat e p)
  newest_out : (e : ℕ) (taking : Taking) → p.tasks seat ≡ blocks.Task.Away → newest_of (p.cached seat) ≡ Some e
      → PoolStep k seat p (pool_newest_out k seat e taking p)
  oldest_out : (e : ℕ) (taking : Taking) → p.tasks seat ≡ blocks.Task.Away → oldest_of (p.cached seat) ≡ Some e
      → PoolStep k seat p (pool_oldest_out k seat e taking p)
  -- P5, of a block in hand that is about to be a slab
  clears : (e n : ℕ) (taking : Taking) → InHand p seat e n taking
      → PoolStep k seat p (pool_cleared k e p)
  -- O1, O5: a slab's header is its record's, and the slab is left
  stores_header : (e : ℕ) → p.locals.book.keeper e ≡ Keeper.By seat
      → PoolStep k seat p (pool_header_stored k e p)
  leaves : (e : ℕ) → p.locals.tasks seat ≡ Away → p.locals.book.keeper e ≡ Keeper.By seat
      → p.mem headers e ≡ to_header (record_of p.locals.book e)
      → PoolStep k seat p (pool_left seat e p)
  -- O6, O5, O8: a chain of orphans is taken; one of them is pushed back, or adopted
  comes : (chain : List ℕ) → p.locals.tasks seat ≡ Away
      → ((e : ℕ) → 0 < tally e chain → p.locals.book.keeper e ≡ Keeper.Orphan)
      → PoolStep k seat p (pool_come seat chain p)
  goes_back : (e : ℕ) → p.locals.tasks seat ≡ Away → p.locals.book.keeper e ≡ Keeper.Adopting seat
      → PoolStep k seat p (pool_gone_back e p)
  adopts : (e : ℕ) → p.locals.tasks seat ≡ Away → p.locals.book.keeper e ≡ Keeper.Adopting seat
      → PoolStep k seat p (pool_adopted seat e p)
  -- a block in hand comes into the cache of large blocks, and one leaves it
  shelves : (x n : ℕ) → InHand p seat x n Taking.ForUse
      → PoolStep k seat p (pool_shelved x n p)
  unshelves : (x n : ℕ) (taking : Taking) → p.tasks seat ≡ blocks.Task.Away → p.purpose x ≡ Purpose.Shelved
      → p.blocks.place x ≡ Place.Block x n Use.Elsewhere
      → PoolStep k seat p (pool_unshelved seat x n taking p)

-- any number of steps of any number of seats
pub data PoolRun (k : Key) (p : Pool) : Pool → Type 0 where
  starts : PoolRun k p p
  steps : {before later : Pool} → PoolRun k p before → (seat : ℕ) → PoolStep k seat before later → PoolRun k p later
