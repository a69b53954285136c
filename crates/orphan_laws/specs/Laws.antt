-- The laws of orphans.
use Rattle.std.specs.Prelude.{◌≡◌, ◌≢◌, ℕ, ◌^◌, ◌<◌, ◌≤◌, Option, length, ⊤}
use Rattle.pool_words.specs.declared.words.Key.{Key}
use Rattle.pool_words.specs.Words.{owns, headers}
use Rattle.word_codes.specs.declared.owns.Own.{Own}
use Rattle.word_codes.specs.Owns.{own_of}
use Rattle.heap_slabs.specs.Records.{to_header, of_header}
use Rattle.orphans.specs.declared.adopting.AdoptAt.{AdoptAt}
use Rattle.word_laws.specs.Memory.{Mem, fresh}
use Rattle.chain_laws.specs.Chains.{tally}
use Rattle.slab_laws.specs.Books.{Keeper, IsThere, record_of, chain_taken}
use Rattle.slab_laws.specs.Heaps.{BookFits}
use Rattle.mail_laws.specs.Mail.{Mail}
use Rattle.orphan_laws.specs.Orphans.{Task, Shadow, Locals, core_in, own_kept, in_hand, OrphansGood}
use Rattle.orphan_laws.specs.Steps.{OrphanStep, OrphanRun}
use Rattle.orphan_laws.specs.Named.{no_orphans, fresh_locals, three_key, named_orphans, named_words}

-- each step of each seat keeps what holds of orphans
abbrev pub StepsKeepOrphans : Type 0
StepsKeepOrphans =
    (k : Key) (g : Shadow) (m : Mem) (l : Locals) (h : Shadow) (m' : Mem) (l' : Locals)
    → OrphansGood k g (core_in m l) → OrphanStep k g m l h m' l' → OrphansGood k h (core_in m' l')

abbrev pub RunsKeepOrphans : Type 0
RunsKeepOrphans =
    (k : Key) (g : Shadow) (m : Mem) (l : Locals) (h : Shadow) (m' : Mem) (l' : Locals)
    → OrphansGood k g (core_in m l) → OrphanRun k g m l h m' l' → OrphansGood k h (core_in m' l')

-- a slab that a seat keeps: its own word names the seat, until the seat has said that it leaves the slab; it is in no
-- chain of orphans, and no seat has it in hand
pub record IsKeptBy (g : Shadow) (m : Mem) (l : Locals) (seat e : ℕ) : Type 0 where
  pub own : own_of (m owns e) ≡ own_kept seat (l.tasks seat) e
  pub chains : (c : ℕ) → tally e (g.left c) ≡ 0
  pub hands : (other : ℕ) → in_hand g.taken l.spares l.tasks other e ≡ 0

-- an orphan: its own word and its header say so, it stands once in the chain of its class and in no other, and no seat
-- has it in hand
pub record IsOrphaned (g : Shadow) (m : Mem) (l : Locals) (e : ℕ) : Type 0 where
  pub own : own_of (m owns e) ≡ Own.Orphan
  pub header : m headers e ≡ to_header (record_of l.book e)
  pub once : tally e (g.left (l.book.classes e)) ≡ 1
  pub else : (c : ℕ) → c ≢ l.book.classes e → tally e (g.left c) ≡ 0
  pub hands : (other : ℕ) → in_hand g.taken l.spares l.tasks other e ≡ 0
  pub way : g.mail.mail e ≡ Mail.Left

-- an orphan that a seat took: it is in that seat's hand once, in no other's, and in no chain
pub record IsTakenBy (g : Shadow) (m : Mem) (l : Locals) (seat e : ℕ) : Type 0 where
  pub own : own_of (m owns e) ≡ Own.Orphan
  pub header : m headers e ≡ to_header (record_of l.book e)
  pub chains : (c : ℕ) → tally e (g.left c) ≡ 0
  pub here : in_hand g.taken l.spares l.tasks seat e ≡ 1
  pub hands : (other : ℕ) → other ≢ seat → in_hand g.taken l.spares l.tasks other e ≡ 0
  pub way : g.mail.mail e ≡ Mail.Adopted seat

abbrev pub HasOne : Shadow → Mem → Locals → ℕ → Keeper → Type 0
HasOne g m l e Keeper.Nobody = ⊤
HasOne g m l e (Keeper.By seat) = IsKeptBy g m l seat e
HasOne g m l e Keeper.Orphan = IsOrphaned g m l e
HasOne g m l e (Keeper.Adopting seat) = IsTakenBy g m l seat e
HasOne g m l e (Keeper.Cached seat) = ⊤

-- in every run of any number of seats each slab is in one seat's heap, in one chain, or in one seat's hand
abbrev pub SlabHasOneKeeper : Type 0
SlabHasOneKeeper =
    (k : Key) (g0 : Shadow) (m0 : Mem) (l0 : Locals) (g : Shadow) (m : Mem) (l : Locals) (e : ℕ)
    → OrphansGood k g0 (core_in m0 l0) → OrphanRun k g0 m0 l0 g m l → HasOne g m l e (l.book.keeper e)

-- what an own word names is the slab's keeper
abbrev pub OwnNamesTheKeeper : Type 0
OwnNamesTheKeeper =
    (k : Key) (g : Shadow) (m : Mem) (l : Locals) (seat e : ℕ) → OrphansGood k g (core_in m l)
    → IsThere (l.book.keeper e) → own_of (m owns e) ≡ Own.Kept seat → l.book.keeper e ≡ Keeper.By seat

-- what an adopter has read is the record that the last keeper had, whatever others did since it was stored
abbrev pub AdoptersReadTheRecord : Type 0
AdoptersReadTheRecord =
    (k : Key) (g : Shadow) (m : Mem) (l : Locals) (seat class e header : ℕ) (rest : Option ℕ)
    → OrphansGood k g (core_in m l) → BookFits k l.book
    → l.tasks seat ≡ Task.Adopting class (AdoptAt.Own e header rest)
    → of_header e class header ≡ record_of l.book e

-- a swap of a chain's head gives each orphan of the class to the seat, and no other slab
pub record TakesOrphan (l : Locals) (seat class e : ℕ) : Type 0 where
  pub orphan : l.book.keeper e ≡ Keeper.Orphan
  pub class' : l.book.classes e ≡ class

pub record SwapTakes (g : Shadow) (l : Locals) (seat class e : ℕ) : Type 0 where
  pub given : 0 < tally e (g.left class) → TakesOrphan l seat class e
  pub all : l.book.keeper e ≡ Keeper.Orphan → l.book.classes e ≡ class → tally e (g.left class) ≡ 1
  pub now : 0 < tally e (g.left class) → chain_taken seat (g.left class) l.book.keeper e ≡ Keeper.Adopting seat

abbrev pub SwapTakesTheOrphans : Type 0
SwapTakesTheOrphans =
    (k : Key) (g : Shadow) (m : Mem) (l : Locals) (seat class e : ℕ) → OrphansGood k g (core_in m l)
    → SwapTakes g l seat class e

-- no orphan is lost because a seat has no room for it
abbrev pub SparesHaveRoom : Type 0
SparesHaveRoom =
    (k : Key) (g : Shadow) (m : Mem) (l : Locals) (seat class e : ℕ) → OrphansGood k g (core_in m l)
    → l.tasks seat ≡ Task.Adopting class (AdoptAt.Spare e) → length (l.spares seat).items < (l.spares seat).room

-- in a new pool there are no orphans
abbrev pub FreshPoolsHaveNoOrphans : Type 0
FreshPoolsHaveNoOrphans =
    (k : Key) → k.seats ≤ 64 → k.span < 2 ^ 32 → OrphansGood k no_orphans (core_in fresh (fresh_locals k))

-- a slab that is to be left, one in a chain, one that was put aside and one that is pushed back
abbrev pub NamedOrphansStand : Type 0
NamedOrphansStand = OrphansGood three_key named_orphans named_words
