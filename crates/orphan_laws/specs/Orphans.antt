-- Where the slabs are that nobody keeps, and what each seat has to do with such slabs.
use Rattle.std.specs.Prelude.{◌≡◌, ◌≢◌, ℕ, ◌+◌, ◌<◌, ◌≤◌, cond, eqb, Option, List, [], ◌∷◌, ⊤}
use Rattle.pool_types.specs.Geometry.{class_count}
use Rattle.pool_words.specs.declared.words.Key.{Key}
use Rattle.pool_words.specs.Words.{publics, nexts, mailboxes, owns, headers, orphans}
use Rattle.word_codes.specs.declared.nexts.Next.{Next}
use Rattle.word_codes.specs.declared.owns.Own.{Own}
use Rattle.word_codes.specs.declared.publics.Public.{Public}
use Rattle.word_codes.specs.Links.{link_of}
use Rattle.word_codes.specs.Nexts.{next_of, FitsNextLink}
use Rattle.word_codes.specs.Owns.{own_of}
use Rattle.word_codes.specs.Places.{slab_granule}
use Rattle.word_codes.specs.Publics.{public_of}
use Rattle.heap_slabs.specs.Heaps.{most_slabs}
use Rattle.heap_slabs.specs.Records.{to_header}
use Rattle.heap_slabs.specs.Rolls.{Rolled}
use Rattle.chain_words.specs.declared.pushing.PushAt.{PushAt}
use Rattle.orphans.specs.declared.adopting.AdoptAt.{AdoptAt}
use Rattle.orphans.specs.declared.leaving.LeaveAt.{LeaveAt}
use Rattle.word_laws.specs.Memory.{Mem}
use Rattle.chain_laws.specs.Chains.{Link, IsChain, tally}
use Rattle.chain_laws.specs.Chains.Link.{To}
use Rattle.slab_laws.specs.Books.{Keeper, Book, IsThere, IsLeft, record_of}
use Rattle.mail_laws.specs.Mail as mailing
use Rattle.mail_laws.specs.Mail.{Mail, item_link, links_in, key_by, MailGood}

-- what a seat has to do with slabs that nobody keeps
pub data Task : Type 0 where
  Away : Task
  -- a slab that the seat keeps is left
  Leaving : (slab : ℕ) (at : LeaveAt) → Task
  -- the orphans of a class are taken, and adopted or put aside one by one
  Adopting : (class : ℕ) (at : AdoptAt) → Task
  -- what was given back to an adopted slab is to be taken, and behind the slab is this one
  Joining : (class slab : ℕ) (rest : Option ℕ) → Task
  -- something else is done before this orphan comes next
  Resting : (class : ℕ) (rest : Option ℕ) → Task
  -- an orphan is pushed back
  Returning : (class slab : ℕ) (at : LeaveAt) → Task
  -- the own word of a slab that is to begin names the seat
  Owning : (slab : ℕ) → Task

pub record Shadow : Type 0 where
  pub mail : mailing.Shadow
  -- of a class: its orphans, the last one that was left first
  pub left : ℕ → List ℕ
  -- of a seat: the orphans that it took, and has neither adopted nor put aside
  pub taken : ℕ → List ℕ

pub record Locals : Type 0 where
  pub book : Book
  -- of a seat: what it has to do with mail, and with orphans, and those that it is to push back, the last one first
  pub mails : ℕ → mailing.Task
  pub tasks : ℕ → Task
  pub spares : ℕ → Rolled ℕ

-- the same with the words, each kind as a function
pub record Core : Type 0 where
  pub publics : ℕ → Public
  pub nexts : ℕ → Next
  pub boxes : ℕ → Option ℕ
  pub owns : ℕ → Own
  pub headers : ℕ → ℕ
  pub heads : ℕ → Option ℕ
  pub book : Book
  pub mails : ℕ → mailing.Task
  pub tasks : ℕ → Task
  pub spares : ℕ → Rolled ℕ

abbrev pub core_in : Mem → Locals → Core
core_in m l = record {
  publics = λ e. public_of (m publics e);
  nexts = λ e. next_of (m nexts e);
  boxes = λ b. link_of (m mailboxes b);
  owns = λ e. own_of (m owns e);
  headers = m headers;
  heads = λ c. link_of (m orphans c);
  book = l.book;
  mails = l.mails;
  tasks = l.tasks;
  spares = l.spares;
}

-- what mail has of them
abbrev pub mail_core : Core → mailing.Core
mail_core s = record {
  publics = s.publics;
  nexts = s.nexts;
  boxes = s.boxes;
  keeper = s.book.keeper;
  classes = s.book.classes;
  tasks = s.mails;
}

abbrev pub mail_locals : Locals → mailing.Locals
mail_locals l = record { keeper = l.book.keeper; classes = l.book.classes; tasks = l.mails }

-- a seat is about to leave this slab, and has said already that nobody keeps it
abbrev pub IsLeaving : Task → ℕ → Type 0
IsLeaving Task.Away e = ⊥
IsLeaving (Task.Leaving slab at) e = e ≡ slab
IsLeaving (Task.Adopting class at) e = ⊥
IsLeaving (Task.Joining class slab rest) e = ⊥
IsLeaving (Task.Resting class rest) e = ⊥
IsLeaving (Task.Returning class slab at) e = ⊥
IsLeaving (Task.Owning slab) e = ⊥

-- a seat is about to take what was given back to this slab, which it adopted
abbrev pub IsJoining : Task → ℕ → Type 0
IsJoining Task.Away e = ⊥
IsJoining (Task.Leaving slab at) e = ⊥
IsJoining (Task.Adopting class at) e = ⊥
IsJoining (Task.Joining class slab rest) e = e ≡ slab
IsJoining (Task.Resting class rest) e = ⊥
IsJoining (Task.Returning class slab at) e = ⊥
IsJoining (Task.Owning slab) e = ⊥

-- the own word of a slab that a seat keeps: it names the seat, until the seat leaves the slab and says so
abbrev pub own_leaving : ℕ → LeaveAt → Own
own_leaving seat LeaveAt.Close = Own.Kept seat
own_leaving seat LeaveAt.Header = Own.Kept seat
own_leaving seat LeaveAt.Disown = Own.Kept seat
own_leaving seat (LeaveAt.Push at) = Own.Orphan

abbrev pub own_kept : ℕ → Task → ℕ → Own
own_kept seat Task.Away e = Own.Kept seat
own_kept seat (Task.Leaving slab at) e = cond (eqb slab e) (own_leaving seat at) (Own.Kept seat)
own_kept seat (Task.Adopting class at) e = Own.Kept seat
own_kept seat (Task.Joining class slab rest) e = Own.Kept seat
own_kept seat (Task.Resting class rest) e = Own.Kept seat
own_kept seat (Task.Returning class slab at) e = Own.Kept seat
own_kept seat (Task.Owning slab) e = Own.Kept seat

abbrev pub OwnFits : (ℕ → Task) → ℕ → Keeper → Own → Type 0
OwnFits tasks e Keeper.Nobody own = ⊤
OwnFits tasks e (Keeper.By seat) own = own ≡ own_kept seat (tasks seat) e
OwnFits tasks e Keeper.Orphan own = own ≡ Own.Orphan
OwnFits tasks e (Keeper.Adopting seat) own = own ≡ Own.Orphan
OwnFits tasks e (Keeper.Cached seat) own = ⊤

abbrev pub OwnsFit : (ℕ → Task) → (ℕ → Keeper) → (ℕ → Own) → Type 0
OwnsFit tasks keeper words = (e : ℕ) → OwnFits tasks e (keeper e) (words e)

-- from its storing to its reading a header is the slab's record
abbrev pub HeadersFit : Book → (ℕ → ℕ) → Type 0
HeadersFit b words = (e : ℕ) → IsLeft (b.keeper e) → words e ≡ to_header (record_of b e)

-- a slab begins at an even granule
abbrev pub PlacesEven : (ℕ → Keeper) → Type 0
PlacesEven keeper = (e : ℕ) → IsThere (keeper e) → slab_granule e ≡ e

-- an orphan stands once in the chain of its class
abbrev pub is_orphan : Keeper → ℕ
is_orphan Keeper.Nobody = 0
is_orphan (Keeper.By seat) = 0
is_orphan Keeper.Orphan = 1
is_orphan (Keeper.Adopting seat) = 0
is_orphan (Keeper.Cached seat) = 0

abbrev pub LeftOnce : (ℕ → Keeper) → (ℕ → ℕ) → (ℕ → List ℕ) → Type 0
LeftOnce keeper classes left = (c e : ℕ) → tally e (left c) ≡ cond (eqb (classes e) c) (is_orphan (keeper e)) 0

-- one that a seat took is once in its hand: not yet dealt with, put aside, or being pushed back
abbrev pub is_adopting : ℕ → Keeper → ℕ
is_adopting seat Keeper.Nobody = 0
is_adopting seat (Keeper.By other) = 0
is_adopting seat Keeper.Orphan = 0
is_adopting seat (Keeper.Adopting other) = cond (eqb other seat) 1 0
is_adopting seat (Keeper.Cached other) = 0

abbrev pub is_returned : ℕ → Task → ℕ
is_returned e Task.Away = 0
is_returned e (Task.Leaving slab at) = 0
is_returned e (Task.Adopting class at) = 0
is_returned e (Task.Joining class slab rest) = 0
is_returned e (Task.Resting class rest) = 0
is_returned e (Task.Returning class slab at) = cond (eqb e slab) 1 0
is_returned e (Task.Owning slab) = 0

abbrev pub in_hand : (ℕ → List ℕ) → (ℕ → Rolled ℕ) → (ℕ → Task) → ℕ → ℕ → ℕ
in_hand taken spares tasks seat e = tally e (taken seat) + tally e (spares seat).items + is_returned e (tasks seat)

abbrev pub HandsOnce : (ℕ → Keeper) → (ℕ → List ℕ) → (ℕ → Rolled ℕ) → (ℕ → Task) → Type 0
HandsOnce keeper taken spares tasks = (seat e : ℕ) → in_hand taken spares tasks seat e ≡ is_adopting seat (keeper e)

abbrev pub LeftChains : (ℕ → Link) → (ℕ → Option ℕ) → (ℕ → List ℕ) → Type 0
LeftChains links heads left = (c : ℕ) → IsChain links (item_link (heads c)) (left c) 0

-- each seat has room for all slabs that it may have to push back
abbrev pub RoomsFit : Key → (ℕ → Rolled ℕ) → Type 0
RoomsFit k spares = (seat : ℕ) → most_slabs k.span ≤ (spares seat).room

-- a push of a slab: before the exchange its next word leads where the head that was found did
abbrev pub PushesAt : Core → ℕ → PushAt → Type 0
PushesAt s e PushAt.Look = ⊤
PushesAt s e (PushAt.Link found) = FitsNextLink (link_of found)
PushesAt s e (PushAt.Exchange found) = s.nexts e ≡ Next.Link (link_of found)

-- a slab that its keeper leaves, which is on its way out once its public list is closed
abbrev pub LeavesAt : Shadow → Core → ℕ → ℕ → LeaveAt → Type 0
LeavesAt g s seat e LeaveAt.Close = g.mail.mail e ≢ Mail.Leaving seat
LeavesAt g s seat e LeaveAt.Header = g.mail.mail e ≡ Mail.Leaving seat
LeavesAt g s seat e LeaveAt.Disown =
    (g.mail.mail e ≡ Mail.Leaving seat) × (s.headers e ≡ to_header (record_of s.book e))
LeavesAt g s seat e (LeaveAt.Push at) =
    (g.mail.mail e ≡ Mail.Leaving seat) × (s.headers e ≡ to_header (record_of s.book e)) × PushesAt s e at

-- the orphans in hand, the one at hand in front
abbrev pub IsInFront : Shadow → Core → ℕ → ℕ → Type 0
IsInFront g s seat e = IsChain (links_in s.nexts) (To e) (g.taken seat) 0

abbrev pub IsBehind : Shadow → Core → ℕ → ℕ → Option ℕ → Type 0
IsBehind g s seat e rest =
    (ys : List ℕ) × (g.taken seat ≡ e ∷ ys) × IsChain (links_in s.nexts) (item_link rest) ys 0

abbrev pub NoSpares : Core → ℕ → Type 0
NoSpares s seat = (s.spares seat).items ≡ []

abbrev pub IsHome : Core → ℕ → ℕ → ℕ → Type 0
IsHome s seat class e = s.nexts e ≡ Next.Mailbox (key_by seat class)

-- what the header said is the slab's record
abbrev pub IsRead : Core → ℕ → ℕ → Type 0
IsRead s e header = header ≡ to_header (record_of s.book e)

abbrev pub AdoptsAt : Shadow → Core → ℕ → ℕ → AdoptAt → Type 0
AdoptsAt g s seat class AdoptAt.Take = NoSpares s seat × (g.taken seat ≡ [])
AdoptsAt g s seat class (AdoptAt.Header e) = NoSpares s seat × IsInFront g s seat e
AdoptsAt g s seat class (AdoptAt.Next e header) = NoSpares s seat × IsInFront g s seat e × IsRead s e header
AdoptsAt g s seat class (AdoptAt.Settle e header rest) =
    NoSpares s seat × IsBehind g s seat e rest × IsRead s e header
AdoptsAt g s seat class (AdoptAt.Own e header rest) =
    NoSpares s seat × IsBehind g s seat e rest × IsRead s e header × IsHome s seat class e
AdoptsAt g s seat class (AdoptAt.Spare e) = IsInFront g s seat e

-- an orphan that is pushed back is pushed, and nothing else
abbrev pub ReturnsAt : Core → ℕ → LeaveAt → Type 0
ReturnsAt s e LeaveAt.Close = ⊥
ReturnsAt s e LeaveAt.Header = ⊥
ReturnsAt s e LeaveAt.Disown = ⊥
ReturnsAt s e (LeaveAt.Push at) = PushesAt s e at

-- a seat that has orphans in hand, all of them of one class
pub record HandFits (k : Key) (s : Core) (seat class : ℕ) : Type 0 where
  pub class' : class < class_count
  pub seat' : seat < k.seats
  pub of : (e : ℕ) → s.book.keeper e ≡ Keeper.Adopting seat → s.book.classes e ≡ class

pub record JoinFits (g : Shadow) (s : Core) (seat class e : ℕ) (rest : Option ℕ) : Type 0 where
  pub spares : NoSpares s seat
  pub kept : s.book.keeper e ≡ Keeper.By seat
  pub class' : s.book.classes e ≡ class
  pub adopted : g.mail.mail e ≡ Mail.Adopted seat
  pub home : IsHome s seat class e
  pub behind : IsChain (links_in s.nexts) (item_link rest) (g.taken seat) 0

pub record OwnsFirst (g : Shadow) (s : Core) (seat e : ℕ) : Type 0 where
  pub begun : g.mail.mail e ≡ Mail.Begun seat
  pub own : s.owns e ≡ Own.Kept seat

abbrev pub IsIdle : Shadow → Core → ℕ → Type 0
IsIdle g s seat = NoSpares s seat × (g.taken seat ≡ [])

-- what a seat relies on at its next step
abbrev pub TaskFits : Key → Shadow → Core → ℕ → Task → Type 0
TaskFits k g s seat Task.Away = IsIdle g s seat
TaskFits k g s seat (Task.Leaving e at) =
    IsIdle g s seat × (s.book.keeper e ≡ Keeper.By seat) × LeavesAt g s seat e at
TaskFits k g s seat (Task.Adopting class at) = HandFits k s seat class × AdoptsAt g s seat class at
TaskFits k g s seat (Task.Joining class e rest) = HandFits k s seat class × JoinFits g s seat class e rest
TaskFits k g s seat (Task.Resting class rest) =
    HandFits k s seat class × NoSpares s seat × IsChain (links_in s.nexts) (item_link rest) (g.taken seat) 0
TaskFits k g s seat (Task.Returning class e at) = HandFits k s seat class × (g.taken seat ≡ []) × ReturnsAt s e at
TaskFits k g s seat (Task.Owning e) = IsIdle g s seat × OwnsFirst g s seat e

-- who is to push a slab that is on its way out, and who is to take what was given back to an adopted one
abbrev pub DutiesFit : (ℕ → Mail) → (ℕ → Keeper) → (ℕ → Task) → Type 0
DutiesFit mail keeper tasks = (e seat : ℕ) → (mail e ≡ Mail.Leaving seat → IsLeaving (tasks seat) e)
    × (mail e ≡ Mail.Adopted seat → keeper e ≡ Keeper.By seat → IsJoining (tasks seat) e)

pub record OrphansGood (k : Key) (g : Shadow) (s : Core) : Type 0 where
  pub mail : MailGood k g.mail (mail_core s)
  pub even : PlacesEven s.book.keeper
  pub owns_fit : OwnsFit s.tasks s.book.keeper s.owns
  pub headers_fit : HeadersFit s.book s.headers
  pub left_once : LeftOnce s.book.keeper s.book.classes g.left
  pub hands_once : HandsOnce s.book.keeper g.taken s.spares s.tasks
  pub left_chains : LeftChains (links_in s.nexts) s.heads g.left
  pub rooms : RoomsFit k s.spares
  pub tasks' : (seat : ℕ) → TaskFits k g s seat (s.tasks seat)
  pub duties : DutiesFit g.mail.mail s.book.keeper s.tasks
