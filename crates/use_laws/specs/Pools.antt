-- A pool: its words, and what they stand for to the laws of guards, of slabs and of objects, all at once.
use Rattle.std.specs.Prelude.{◌≡◌, ℕ}
use Rattle.pool_words.specs.declared.words.Key.{Key}
use Rattle.guards.specs.declared.win.Taking.{Taking}
use Rattle.heap_slabs.specs.Rolls.{Rolled}
use Rattle.heap_slabs.specs.Slabs.{Kept}
use Rattle.word_laws.specs.Memory.{Mem}
use Rattle.guard_laws.specs.Blocks as guards
use Rattle.guard_laws.specs.Blocks.{Use, Place, GuardGood}
use Rattle.slab_laws.specs.Heaps.{Slabs, SlabsGood}
use Rattle.object_laws.specs.Objects as objects
use Rattle.object_laws.specs.Parts.{ObjectsGood}
use Rattle.use_laws.specs.Uses.{Purpose, UsesFit}

pub record Pool : Type 0 where
  pub mem : Mem
  pub blocks : guards.Shadow
  -- of each block what it is used for
  pub purpose : ℕ → Purpose
  -- of each seat what it does with guards; the book, and what each seat does with objects
  pub tasks : ℕ → guards.Task
  pub locals : objects.Locals
  pub objects : objects.Shadow
  -- of each seat the slabs that its heap keeps, and the empty ones in its cache
  pub kept : ℕ → Kept
  pub cached : ℕ → Rolled ℕ

abbrev pub slabs_of : Pool → Slabs
slabs_of p = record { book = p.locals.book; mem = p.mem; kept = p.kept; cached = p.cached }

pub record PoolGood (k : Key) (p : Pool) : Type 0 where
  pub guards : GuardGood k p.blocks (guards.core_in p.mem p.tasks)
  pub slabs : SlabsGood k (slabs_of p)
  pub objects : ObjectsGood k p.objects (objects.core_in p.mem p.locals)
  pub uses : UsesFit p.blocks.place p.locals.book.keeper p.objects.held p.purpose

-- a seat has a block in hand, and is at no guard
pub record InHand (p : Pool) (seat x n : ℕ) (taking : Taking) : Type 0 where
  pub away : p.tasks seat ≡ guards.Task.Away
  pub block : p.blocks.place x ≡ Place.Block x n (Use.Held seat taking)
