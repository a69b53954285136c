-- What is so of each slab: who keeps it, and what its record says.
use Rattle.std.specs.Prelude.{ℕ, ◌+◌, ◌-◌, cond, ltb, List, Option, Some, None, ⊤}
use Rattle.heap_slabs.specs.declared.records.HeapSlab.{HeapSlab}
use Rattle.word_laws.specs.Memory.{put}
use Rattle.chain_laws.specs.Chains.{tally}

-- what a granule is the first of
pub data Keeper : Type 0 where
  -- of no slab
  Nobody : Keeper
  -- of a slab of this seat's heap
  By : (seat : ℕ) → Keeper
  -- of a slab that nobody keeps, in a chain of orphans, or of such a slab that a leaving heap is about to push there
  Orphan : Keeper
  -- of an orphan that this seat took with its chain, and neither adopted nor pushed back yet
  Adopting : (seat : ℕ) → Keeper
  -- of an empty slab in this seat's cache
  Cached : (seat : ℕ) → Keeper

-- a slab has objects, and a record
abbrev pub IsThere : Keeper → Type 0
IsThere Keeper.Nobody = ⊥
IsThere (Keeper.By seat) = ⊤
IsThere Keeper.Orphan = ⊤
IsThere (Keeper.Adopting seat) = ⊤
IsThere (Keeper.Cached seat) = ⊥

-- a slab is in no heap
abbrev pub IsLeft : Keeper → Type 0
IsLeft Keeper.Nobody = ⊥
IsLeft (Keeper.By seat) = ⊥
IsLeft Keeper.Orphan = ⊤
IsLeft (Keeper.Adopting seat) = ⊤
IsLeft (Keeper.Cached seat) = ⊥

-- of each granule whose it is; of each slab the parts of its record
pub record Book : Type 0 where
  pub keeper : ℕ → Keeper
  pub classes : ℕ → ℕ
  pub handed : ℕ → ℕ
  pub counts : ℕ → ℕ
  pub heads : ℕ → Option ℕ

abbrev pub record_of : Book → ℕ → HeapSlab
record_of b e = record {
  slab = e;
  class = b.classes e;
  handed = b.handed e;
  count = b.counts e;
  head = b.heads e;
}

-- a private object is handed out, behind which is this one
abbrev pub with_private_taken : ℕ → Option ℕ → Book → Book
with_private_taken e below b = record b {
  heads = put b.heads e below;
  counts = put b.counts e (b.counts e + 1);
}

-- the next object of the rest is handed out
abbrev pub with_rest_taken : ℕ → Book → Book
with_rest_taken e b = record b {
  handed = put b.handed e (b.handed e + 1);
  counts = put b.counts e (b.counts e + 1);
}

-- an object comes back
abbrev pub with_freed : ℕ → ℕ → Book → Book
with_freed e unit b = record b {
  heads = put b.heads e (Some unit);
  counts = put b.counts e (b.counts e - 1);
}

-- so many objects are joined
abbrev pub with_joined : ℕ → ℕ → ℕ → Book → Book
with_joined e first joined b = record b {
  heads = put b.heads e (Some first);
  counts = put b.counts e (b.counts e - joined);
}

-- a slab begins, or ends
abbrev pub with_begun : ℕ → ℕ → ℕ → Book → Book
with_begun seat e class b = record {
  keeper = put b.keeper e (Keeper.By seat);
  classes = put b.classes e class;
  handed = put b.handed e 0;
  counts = put b.counts e 0;
  heads = put b.heads e None;
}

abbrev pub with_ended : ℕ → Book → Book
with_ended e b = record b {
  keeper = put b.keeper e Keeper.Nobody;
  handed = put b.handed e 0;
  counts = put b.counts e 0;
  heads = put b.heads e None;
}

-- a granule is another's
abbrev pub with_keeper : ℕ → Keeper → Book → Book
with_keeper e keeper b = record b { keeper = put b.keeper e keeper }

-- the slabs of a chain of orphans are taken
abbrev pub chain_taken : ℕ → List ℕ → (ℕ → Keeper) → ℕ → Keeper
chain_taken seat chain keeper e = cond (ltb 0 (tally e chain)) (Keeper.Adopting seat) (keeper e)

abbrev pub with_chain_taken : ℕ → List ℕ → Book → Book
with_chain_taken seat chain b = record b { keeper = chain_taken seat chain b.keeper }
