-- What a seat may rely on while others step.
use Rattle.std.specs.Prelude.{◌≡◌, ◌≢◌, ℕ, ◌≤◌, Some}
use Rattle.pool_types.specs.declared.values.Grant.{Grant}
use Rattle.pool_words.specs.declared.words.Key.{Key}
use Rattle.slab_laws.specs.Books.{Keeper, record_of}
use Rattle.slab_laws.specs.Heaps.{slab_of}
use Rattle.object_laws.specs.Objects.{Held, granted_in, Task, Shadow, Core, links_in}
use Rattle.object_laws.specs.Parts.{TaskFits, TakenFits, IsInHand, NotesFit}

-- the units whose marks and holders this seat alone changes
pub data IsMine (seat : ℕ) (g : Shadow) (s : Core) (u : ℕ) : Type 0 where
  hand : g.held u ≡ Held.InHand seat → IsMine seat g s u
  ready : (first granules : ℕ) → g.held u ≡ Held.Ready seat first granules → IsMine seat g s u
  private : g.held u ≡ Held.Private → s.book.keeper (slab_of u) ≡ Keeper.By seat → IsMine seat g s u

pub record SameSlab (e : ℕ) (g : Shadow) (s : Core) (h : Shadow) (r : Core) : Type 0 where
  pub keeper : r.book.keeper e ≡ s.book.keeper e
  pub same : record_of r.book e ≡ record_of s.book e
  pub privates : h.privates e ≡ g.privates e
  pub taken : h.taken e ≡ g.taken e

pub record Rely (seat : ℕ) (g : Shadow) (s : Core) (h : Shadow) (r : Core) : Type 0 where
  pub mine : (u : ℕ) → IsMine seat g s u → (r.marks u ≡ s.marks u) × (h.held u ≡ g.held u)
  pub slabs : (e : ℕ) → s.book.keeper e ≡ Keeper.By seat → SameSlab e g s h r
  pub strange : (e : ℕ) → s.book.keeper e ≢ Keeper.By seat → r.book.keeper e ≢ Keeper.By seat
  pub no_more : (u : ℕ) → h.held u ≡ Held.InHand seat → g.held u ≡ Held.InHand seat
  pub lasts : r.lasts seat ≡ s.lasts seat
  pub task : r.tasks seat ≡ s.tasks seat

-- no grant returns: one that was made, and is held still, is held as it was, in the same slab or block
pub record NoReturn (g : Shadow) (s : Core) (h : Shadow) (r : Core) : Type 0 where
  pub lasts : (seat : ℕ) → s.lasts seat ≤ r.lasts seat
  pub again : (u : ℕ) (grant : Grant) → grant.number ≤ s.lasts grant.seat → granted_in (h.held u) ≡ Some grant
      → (h.held u ≡ g.held u) × (r.book.classes (slab_of u) ≡ s.book.classes (slab_of u))

-- what a step of one seat owes: the others may rely as before, no grant returns, and its own task fits
pub record TurnFits (k : Key) (seat : ℕ) (task : Task) (g : Shadow) (s : Core) (h : Shadow) (r : Core) : Type 0 where
  pub others : (other : ℕ) → other ≢ seat → Rely other g s h r
  pub no_return : NoReturn g s h r
  pub stands : r.tasks seat ≡ task
  pub task' : TaskFits k h r seat task
  pub taken : (e : ℕ) → r.book.keeper e ≡ Keeper.By seat → TakenFits (links_in r.marks) task e (h.taken e)
  pub hand : (u : ℕ) → h.held u ≡ Held.InHand seat → IsInHand task u
  pub notes : NotesFit h r (r.notes seat)
  pub kept_notes : (other : ℕ) → other ≢ seat → r.notes other ≡ s.notes other
