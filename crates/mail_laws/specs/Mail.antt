-- Where each slab is on its way to its keeper, and what each seat has to do with mail.
use Rattle.std.specs.Prelude.{◌≡◌, ◌≢◌, ℕ, ◌+◌, ◌^◌, ◌<◌, ◌≤◌, cond, eqb, Option, Some, None, List, [], ◌∷◌, ⊤}
use Rattle.pool_types.specs.Geometry.{class_count}
use Rattle.pool_words.specs.declared.words.Key.{Key}
use Rattle.pool_words.specs.Words.{mailbox_at, no_index, publics, nexts, mailboxes}
use Rattle.word_codes.specs.declared.nexts.MailKey.{MailKey}
use Rattle.word_codes.specs.declared.nexts.Next.{Next}
use Rattle.word_codes.specs.declared.publics.Public.{Public}
use Rattle.word_codes.specs.Links.{link_of}
use Rattle.word_codes.specs.Nexts.{next_of, FitsNextLink}
use Rattle.word_codes.specs.Publics.{public_of}
use Rattle.public_list.specs.declared.joining.JoinAt.{JoinAt}
use Rattle.chain_words.specs.declared.pushing.PushAt.{PushAt}
use Rattle.mailbox.specs.declared.mailing.MailAt.{MailAt}
use Rattle.mailbox.specs.declared.boxes.BoxAt.{BoxAt}
use Rattle.word_laws.specs.Memory.{Mem}
use Rattle.chain_laws.specs.Chains.{Link, IsChain, tally}
use Rattle.chain_laws.specs.Chains.Link.{Other, To, Ends}
use Rattle.slab_laws.specs.Books.{Keeper, IsThere}

-- where a slab is
pub data Mail : Type 0 where
  -- no slab is here, or this seat is about to begin one
  Absent : Mail
  Begun : (seat : ℕ) → Mail
  -- nothing was given back since its keeper looked
  Rest : Mail
  -- this seat gave back the first object, and has to mail it
  Owed : (seat : ℕ) → Mail
  Boxed : Mail
  -- its keeper, this seat, took its mailbox and has not dealt with it
  Taken : (seat : ℕ) → Mail
  -- its keeper, this seat, is about to leave it; it is an orphan; this seat took it with its chain of orphans
  Leaving : (seat : ℕ) → Mail
  Left : Mail
  Adopted : (seat : ℕ) → Mail

-- what a seat has to do
pub data Task : Type 0 where
  Away : Task
  Mailing : (slab : ℕ) (at : MailAt) → Task
  Fetching : (class : ℕ) (at : BoxAt) → Task
  -- a slab is to begin, before and after its next word names a mailbox
  Beginning : (slab class : ℕ) → Task
  Settled : (slab class : ℕ) → Task

pub record Shadow : Type 0 where
  pub mail : ℕ → Mail
  -- of a mailbox, by its index
  pub boxed : ℕ → List ℕ
  -- of a seat: the slabs of the mailbox that it took, and has not dealt with
  pub fetched : ℕ → List ℕ

pub record Locals : Type 0 where
  pub keeper : ℕ → Keeper
  pub classes : ℕ → ℕ
  pub tasks : ℕ → Task

pub record Core : Type 0 where
  pub publics : ℕ → Public
  pub nexts : ℕ → Next
  pub boxes : ℕ → Option ℕ
  pub keeper : ℕ → Keeper
  pub classes : ℕ → ℕ
  pub tasks : ℕ → Task

abbrev pub core_in : Mem → Locals → Core
core_in m l = record {
  publics = λ e. public_of (m publics e);
  nexts = λ e. next_of (m nexts e);
  boxes = λ b. link_of (m mailboxes b);
  keeper = l.keeper;
  classes = l.classes;
  tasks = l.tasks;
}

-- where a next word leads, and a mailbox
abbrev pub item_link : Option ℕ → Link
item_link (Some slab) = To slab
item_link None = Ends 0

abbrev pub next_link : Next → Link
next_link (Next.Mailbox key) = Other
next_link (Next.Link item) = item_link item

abbrev pub links_in : (ℕ → Next) → ℕ → Link
links_in words e = next_link (words e)

abbrev pub key_by : ℕ → ℕ → MailKey
key_by seat class = record { seat = seat; class = class }

-- the mailbox of a slab, by who keeps it and its class
abbrev pub box_of : Keeper → ℕ → ℕ
box_of Keeper.Nobody class = no_index
box_of (Keeper.By seat) class = mailbox_at seat class
box_of Keeper.Orphan class = no_index
box_of (Keeper.Adopting seat) class = no_index
box_of (Keeper.Cached seat) class = no_index

-- the next word names the slab's own mailbox
abbrev pub IsHome : Keeper → ℕ → Next → Type 0
IsHome Keeper.Nobody class next = ⊥
IsHome (Keeper.By seat) class next = next ≡ Next.Mailbox (key_by seat class)
IsHome Keeper.Orphan class next = ⊥
IsHome (Keeper.Adopting seat) class next = ⊥
IsHome (Keeper.Cached seat) class next = ⊥

abbrev pub IsKey : MailKey → Keeper → ℕ → Type 0
IsKey key Keeper.Nobody class = ⊥
IsKey key (Keeper.By seat) class = key ≡ key_by seat class
IsKey key Keeper.Orphan class = ⊥
IsKey key (Keeper.Adopting seat) class = ⊥
IsKey key (Keeper.Cached seat) class = ⊥

abbrev pub IsKept : Keeper → Type 0
IsKept Keeper.Nobody = ⊥
IsKept (Keeper.By seat) = ⊤
IsKept Keeper.Orphan = ⊥
IsKept (Keeper.Adopting seat) = ⊥
IsKept (Keeper.Cached seat) = ⊥

-- a seat that adopts a slab has it in its hand, or keeps it already
abbrev pub IsAdopter : ℕ → Keeper → Type 0
IsAdopter seat Keeper.Nobody = ⊥
IsAdopter seat (Keeper.By other) = other ≡ seat
IsAdopter seat Keeper.Orphan = ⊥
IsAdopter seat (Keeper.Adopting other) = other ≡ seat
IsAdopter seat (Keeper.Cached other) = ⊥

abbrev pub IsFilled : Public → Type 0
IsFilled Public.Null = ⊥
IsFilled Public.Unusable = ⊥
IsFilled (Public.Filled unit) = ⊤

abbrev pub IsNotNull : Public → Type 0
IsNotNull Public.Null = ⊥
IsNotNull Public.Unusable = ⊤
IsNotNull (Public.Filled unit) = ⊤

-- what the public word and the next word are, by where the slab is
abbrev pub MailFits : Mail → Keeper → ℕ → Public → Next → Type 0
MailFits Mail.Absent keeper class public next = (IsThere keeper → ⊥) × (public ≡ Public.Null)
MailFits (Mail.Begun seat) keeper class public next = (IsThere keeper → ⊥) × (public ≡ Public.Null)
MailFits Mail.Rest keeper class public next = IsHome keeper class next × (public ≡ Public.Null)
MailFits (Mail.Owed seat) keeper class public next = IsKept keeper × IsFilled public
MailFits Mail.Boxed keeper class public next = IsKept keeper × IsFilled public
MailFits (Mail.Taken seat) keeper class public next = (keeper ≡ Keeper.By seat) × IsFilled public
MailFits (Mail.Leaving seat) keeper class public next = (keeper ≡ Keeper.By seat) × IsNotNull public
MailFits Mail.Left keeper class public next = (keeper ≡ Keeper.Orphan) × IsNotNull public
MailFits (Mail.Adopted seat) keeper class public next = IsAdopter seat keeper × IsNotNull public

abbrev pub is_boxed : Mail → ℕ
is_boxed Mail.Absent = 0
is_boxed (Mail.Begun seat) = 0
is_boxed Mail.Rest = 0
is_boxed (Mail.Owed seat) = 0
is_boxed Mail.Boxed = 1
is_boxed (Mail.Taken seat) = 0
is_boxed (Mail.Leaving seat) = 0
is_boxed Mail.Left = 0
is_boxed (Mail.Adopted seat) = 0

abbrev pub is_taken : ℕ → Mail → ℕ
is_taken seat Mail.Absent = 0
is_taken seat (Mail.Begun other) = 0
is_taken seat Mail.Rest = 0
is_taken seat (Mail.Owed other) = 0
is_taken seat Mail.Boxed = 0
is_taken seat (Mail.Taken other) = cond (eqb other seat) 1 0
is_taken seat (Mail.Leaving other) = 0
is_taken seat Mail.Left = 0
is_taken seat (Mail.Adopted other) = 0

-- a boxed slab stands once in its mailbox, and a taken one once in what its keeper has fetched
abbrev pub BoxedOnce : (ℕ → Mail) → (ℕ → Keeper) → (ℕ → ℕ) → (ℕ → List ℕ) → Type 0
BoxedOnce mail keeper classes boxed =
    (b e : ℕ) → tally e (boxed b) ≡ cond (eqb (box_of (keeper e) (classes e)) b) (is_boxed (mail e)) 0

abbrev pub FetchedOnce : (ℕ → Mail) → (ℕ → List ℕ) → Type 0
FetchedOnce mail fetched = (seat e : ℕ) → tally e (fetched seat) ≡ is_taken seat (mail e)

abbrev pub BoxChains : (ℕ → Link) → (ℕ → Option ℕ) → (ℕ → List ℕ) → Type 0
BoxChains links boxes boxed = (b : ℕ) → IsChain links (item_link (boxes b)) (boxed b) 0

-- a slab that is kept has a class, is kept by a seat of the pool, and is one of the pool's granules
pub record PlacesFit (k : Key) (keeper : ℕ → Keeper) (classes : ℕ → ℕ) : Type 0 where
  pub seats : k.seats ≤ 64
  pub span : k.span < 2 ^ 32
  pub inside : (e : ℕ) → IsThere (keeper e) → e < k.span
  pub kept : (e seat : ℕ) → keeper e ≡ Keeper.By seat → (classes e < class_count) × (seat < k.seats)

-- what was fetched is of the class whose mailbox was taken
abbrev pub AreOf : ℕ → (ℕ → ℕ) → List ℕ → Type 0
AreOf class classes xs = (x : ℕ) → 0 < tally x xs → classes x ≡ class

abbrev pub MailsAt : Core → ℕ → MailAt → Type 0
MailsAt s e MailAt.Next = IsHome (s.keeper e) (s.classes e) (s.nexts e)
MailsAt s e (MailAt.Push key PushAt.Look) = IsKey key (s.keeper e) (s.classes e)
MailsAt s e (MailAt.Push key (PushAt.Link found)) =
    IsKey key (s.keeper e) (s.classes e) × FitsNextLink (link_of found)
MailsAt s e (MailAt.Push key (PushAt.Exchange found)) =
    IsKey key (s.keeper e) (s.classes e) × (s.nexts e ≡ Next.Link (link_of found))

-- what is still to be dealt with of a mailbox, behind the slab at hand
abbrev pub FetchesAt : Core → ℕ → ℕ → List ℕ → BoxAt → Type 0
FetchesAt s seat class xs BoxAt.Take = xs ≡ []
FetchesAt s seat class xs (BoxAt.Next e) = IsChain (links_in s.nexts) (To e) xs 0
FetchesAt s seat class xs (BoxAt.Settle e rest) =
    (ys : List ℕ) × (xs ≡ e ∷ ys) × IsChain (links_in s.nexts) (item_link rest) ys 0
FetchesAt s seat class xs (BoxAt.Join e rest JoinAt.Take) =
    (ys : List ℕ) × (xs ≡ e ∷ ys) × IsChain (links_in s.nexts) (item_link rest) ys 0
    × (s.nexts e ≡ Next.Mailbox (key_by seat class))
FetchesAt s seat class xs (BoxAt.Join e rest (JoinAt.Walk first at count)) =
    IsChain (links_in s.nexts) (item_link rest) xs 0
FetchesAt s seat class xs (BoxAt.Join e rest (JoinAt.Tie first last count)) =
    IsChain (links_in s.nexts) (item_link rest) xs 0

-- what a seat relies on at its next step
pub record FetchFits (k : Key) (g : Shadow) (s : Core) (seat class : ℕ) (at : BoxAt) : Type 0 where
  pub class' : class < class_count
  pub seat' : seat < k.seats
  pub of : AreOf class s.classes (g.fetched seat)
  pub at' : FetchesAt s seat class (g.fetched seat) at

pub record BeginFits (k : Key) (g : Shadow) (s : Core) (seat e class : ℕ) : Type 0 where
  pub begun : g.mail e ≡ Mail.Begun seat
  pub class' : class < class_count
  pub seat' : seat < k.seats
  pub inside : e < k.span
  pub none : g.fetched seat ≡ []

abbrev pub TaskFits : Key → Shadow → Core → ℕ → Task → Type 0
TaskFits k g s seat Task.Away = g.fetched seat ≡ []
TaskFits k g s seat (Task.Mailing e at) = (g.mail e ≡ Mail.Owed seat) × (g.fetched seat ≡ []) × MailsAt s e at
TaskFits k g s seat (Task.Fetching class at) = FetchFits k g s seat class at
TaskFits k g s seat (Task.Beginning e class) = BeginFits k g s seat e class
TaskFits k g s seat (Task.Settled e class) =
    BeginFits k g s seat e class × (s.nexts e ≡ Next.Mailbox (key_by seat class))

-- a duty is its seat's: the seat is about to mail that slab
abbrev pub IsMailing : Task → ℕ → Type 0
IsMailing Task.Away e = ⊥
IsMailing (Task.Mailing slab at) e = e ≡ slab
IsMailing (Task.Fetching class at) e = ⊥
IsMailing (Task.Beginning slab class) e = ⊥
IsMailing (Task.Settled slab class) e = ⊥

abbrev pub DutiesFit : (ℕ → Mail) → (ℕ → Task) → Type 0
DutiesFit mail tasks = (e seat : ℕ) → mail e ≡ Mail.Owed seat → IsMailing (tasks seat) e

pub record MailGood (k : Key) (g : Shadow) (s : Core) : Type 0 where
  pub places : PlacesFit k s.keeper s.classes
  pub words : (e : ℕ) → MailFits (g.mail e) (s.keeper e) (s.classes e) (s.publics e) (s.nexts e)
  pub boxed_once : BoxedOnce g.mail s.keeper s.classes g.boxed
  pub fetched_once : FetchedOnce g.mail g.fetched
  pub box_chains : BoxChains (links_in s.nexts) s.boxes g.boxed
  pub tasks' : (seat : ℕ) → TaskFits k g s seat (s.tasks seat)
  pub duties : DutiesFit g.mail s.tasks
