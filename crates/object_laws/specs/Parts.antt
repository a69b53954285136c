-- What holds of objects between any two steps.
use Rattle.std.specs.Prelude.{◌≡◌, ◌≢◌, ℕ, ◌+◌, ◌^◌, ◌<◌, ◌≤◌, cond, eqb, Option, Some, None, List, [], ◌∷◌, ◌++◌, length, ⊤}
use Rattle.pool_types.specs.declared.values.Grant.{Grant}
use Rattle.pool_words.specs.declared.words.Key.{Key}
use Rattle.size_classes.specs.Classes.{class_objects}
use Rattle.word_codes.specs.declared.marks.Mark.{Mark}
use Rattle.word_codes.specs.declared.publics.Public.{Public}
use Rattle.word_codes.specs.declared.kinds.Kind.{Kind}
use Rattle.word_codes.specs.Marks.{mark_of}
use Rattle.word_codes.specs.Places.{granule_of}
use Rattle.word_codes.specs.Publics.{public_of}
use Rattle.heap_slabs.specs.Records.{unit_of}
use Rattle.public_list.specs.declared.looking.LookAt.{LookAt}
use Rattle.public_list.specs.declared.ending.EndAt.{EndAt}
use Rattle.public_list.specs.declared.posting.PostAt.{PostAt}
use Rattle.public_list.specs.declared.joining.JoinAt.{JoinAt}
use Rattle.chain_words.specs.declared.pushing.PushAt.{PushAt}
use Rattle.chain_laws.specs.Chains.{Link, IsChain, tally}
use Rattle.chain_laws.specs.Chains.Link.{To}
use Rattle.slab_laws.specs.Books.{Keeper, Book, IsThere, record_of}
use Rattle.slab_laws.specs.OneSlab.{IsHanded}
use Rattle.slab_laws.specs.Heaps.{slab_of, BookFits, KindsFit}
use Rattle.object_laws.specs.Objects.{Held, granted_in, IsOut, Task, Note, links_in, public_link_to, head_link}
use Rattle.object_laws.specs.Objects.{Shadow, Core, IsUnit}
use Rattle.object_laws.specs.Objects.Task.{Away, Looking, Ending, Posting, Joining, Reading, Taking, Resting, Blocking}

-- marks
abbrev pub IsNoGrant : Mark → Type 0
IsNoGrant Mark.Unmarked = ⊤
IsNoGrant (Mark.Granted grant) = ⊥
IsNoGrant (Mark.Hand seat) = ⊤
IsNoGrant (Mark.Link unit) = ⊤
IsNoGrant Mark.End = ⊤
IsNoGrant Mark.EndUnusable = ⊤

-- the mark of an object in a seat's hand names the seat, or leads on already
abbrev pub IsHandMark : ℕ → Mark → Type 0
IsHandMark seat Mark.Unmarked = ⊥
IsHandMark seat (Mark.Granted grant) = ⊥
IsHandMark seat (Mark.Hand other) = other ≡ seat
IsHandMark seat (Mark.Link unit) = ⊤
IsHandMark seat Mark.End = ⊤
IsHandMark seat Mark.EndUnusable = ⊤

abbrev pub MarkFits : Held → Mark → Type 0
MarkFits Held.NotOut mark = IsNoGrant mark
MarkFits Held.Private mark = IsNoGrant mark
MarkFits Held.Listed mark = IsNoGrant mark
MarkFits (Held.Object grant) mark = mark ≡ Mark.Granted grant
MarkFits (Held.InHand seat) mark = IsHandMark seat mark
MarkFits (Held.Ready seat first granules) mark = IsNoGrant mark
MarkFits (Held.Large grant first granules) mark = mark ≡ Mark.Granted grant

abbrev pub MarksFit : (ℕ → Held) → (ℕ → Mark) → Type 0
MarksFit held words = (u : ℕ) → MarkFits (held u) (words u)

-- a grant is held at one unit at most, its seat made no later one with its number, and it is ended once at most and
-- held no more then
pub record GrantsApart (held : ℕ → Held) (lasts : ℕ → ℕ) (ended : ℕ → ℕ → ℕ) : Type 0 where
  pub apart : (u v : ℕ) (grant : Grant) → granted_in (held u) ≡ Some grant → granted_in (held v) ≡ Some grant → u ≡ v
  pub least : (u : ℕ) (grant : Grant) → granted_in (held u) ≡ Some grant → grant.number ≤ lasts grant.seat
  pub gone : (u : ℕ) (grant : Grant) → 0 < ended grant.seat grant.number → granted_in (held u) ≢ Some grant
  pub past : (seat number : ℕ) → 0 < ended seat number → number ≤ lasts seat
  pub once : (seat number : ℕ) → ended seat number ≤ 1

-- what is out of a slab's rest is just what was handed out of it
pub record OutFits (held : ℕ → Held) (b : Book) : Type 0 where
  pub in_slab : (u : ℕ) → IsOut (held u) → IsThere (b.keeper (slab_of u)) × IsHanded (record_of b (slab_of u)) u
  pub out : (e i : ℕ) → i < b.handed e → IsOut (held (unit_of e (b.classes e) i))

-- a large object begins in no slab, and the kind word of its granule says so
abbrev pub LargeFits : Key → ℕ → Keeper → Kind → Held → Type 0
LargeFits k u keeper kind Held.NotOut = ⊤
LargeFits k u keeper kind Held.Private = ⊤
LargeFits k u keeper kind Held.Listed = ⊤
LargeFits k u keeper kind (Held.Object grant) = ⊤
LargeFits k u keeper kind (Held.InHand seat) = ⊤
LargeFits k u keeper kind (Held.Ready seat first granules) =
    (IsThere keeper → ⊥) × (kind ≡ Kind.Large first granules) × IsUnit k u
LargeFits k u keeper kind (Held.Large grant first granules) =
    (IsThere keeper → ⊥) × (kind ≡ Kind.Large first granules) × IsUnit k u

abbrev pub LargesFit : Key → (ℕ → Held) → (ℕ → Keeper) → (ℕ → Kind) → Type 0
LargesFit k held keeper kinds = (u : ℕ) → LargeFits k u (keeper (slab_of u)) (kinds (granule_of u)) (held u)

-- private, given back and taken objects stand once each in the lists of their slab
abbrev pub is_private : Held → ℕ
is_private Held.NotOut = 0
is_private Held.Private = 1
is_private Held.Listed = 0
is_private (Held.Object grant) = 0
is_private (Held.InHand seat) = 0
is_private (Held.Ready seat first granules) = 0
is_private (Held.Large grant first granules) = 0

abbrev pub is_listed : Held → ℕ
is_listed Held.NotOut = 0
is_listed Held.Private = 0
is_listed Held.Listed = 1
is_listed (Held.Object grant) = 0
is_listed (Held.InHand seat) = 0
is_listed (Held.Ready seat first granules) = 0
is_listed (Held.Large grant first granules) = 0

abbrev pub in_slab : ℕ → ℕ → ℕ → ℕ
in_slab e u n = cond (eqb (slab_of u) e) n 0

abbrev pub PrivatesOnce : (ℕ → Held) → (ℕ → List ℕ) → (ℕ → List ℕ) → Type 0
PrivatesOnce held privates taken =
    (e u : ℕ) → tally u (privates e) + tally u (taken e) ≡ in_slab e u (is_private (held u))

abbrev pub ListedOnce : (ℕ → Held) → (ℕ → List ℕ) → Type 0
ListedOnce held listed = (e u : ℕ) → tally u (listed e) ≡ in_slab e u (is_listed (held u))

abbrev pub PrivateChains : (ℕ → Link) → (ℕ → Option ℕ) → (ℕ → List ℕ) → Type 0
PrivateChains links heads privates = (e : ℕ) → IsChain links (head_link (heads e)) (privates e) 0

-- a list of objects that were given back ends as the public word was before the first of them
abbrev pub IsFilledChain : (ℕ → Link) → ℕ → List ℕ → Type 0
IsFilledChain links first us = (end : ℕ) × IsChain links (To first) us end

abbrev pub IsPublicChain : (ℕ → Link) → Public → List ℕ → Type 0
IsPublicChain links Public.Null us = us ≡ []
IsPublicChain links Public.Unusable us = us ≡ []
IsPublicChain links (Public.Filled first) us = IsFilledChain links first us

abbrev pub PublicChains : (ℕ → Link) → (ℕ → Public) → (ℕ → List ℕ) → Type 0
PublicChains links publics listed = (e : ℕ) → IsPublicChain links (publics e) (listed e)

abbrev pub CountsFit : (ℕ → ℕ) → (ℕ → ℕ) → (ℕ → List ℕ) → Type 0
CountsFit handed counts privates = (e : ℕ) → counts e + length (privates e) ≡ handed e

-- where a walker is on the list that was taken
abbrev pub JoinFits : (ℕ → Link) → JoinAt → List ℕ → Type 0
JoinFits links JoinAt.Take us = us ≡ []
JoinFits links (JoinAt.Walk first at count) us =
    IsFilledChain links first us × ((front back : List ℕ) × (us ≡ front ++ (at ∷ back)) × (count ≡ length front))
JoinFits links (JoinAt.Tie first last count) us =
    IsFilledChain links first us × ((front : List ℕ) × (us ≡ front ++ (last ∷ [])) × (count ≡ length us))

abbrev pub TakenFits : (ℕ → Link) → Task → ℕ → List ℕ → Type 0
TakenFits links Away e us = us ≡ []
TakenFits links (Looking call at) e us = us ≡ []
TakenFits links (Ending call kind at) e us = us ≡ []
TakenFits links (Posting call at) e us = us ≡ []
TakenFits links (Joining slab at) e us = (e ≢ slab → us ≡ []) × (e ≡ slab → JoinFits links at us)
TakenFits links (Reading slab head) e us = us ≡ []
TakenFits links (Taking slab head below) e us = us ≡ []
TakenFits links (Resting slab unit) e us = us ≡ []
TakenFits links (Blocking unit first granules) e us = us ≡ []

pub record TakenFit (links : ℕ → Link) (tasks : ℕ → Task) (keeper : ℕ → Keeper) (taken : ℕ → List ℕ) : Type 0 where
  pub kept : (e seat : ℕ) → keeper e ≡ Keeper.By seat → TakenFits links (tasks seat) e (taken e)
  pub else : (e : ℕ) → ((seat : ℕ) → keeper e ≢ Keeper.By seat) → taken e ≡ []

-- what was noted of an object is so for as long as its grant is held
abbrev pub KindIs : Book → ℕ → Kind → Held → Type 0
KindIs b u kind Held.NotOut = ⊤
KindIs b u kind Held.Private = ⊤
KindIs b u kind Held.Listed = ⊤
KindIs b u kind (Held.Object grant) = kind ≡ Kind.Slab (b.classes (slab_of u))
KindIs b u kind (Held.InHand seat) = ⊤
KindIs b u kind (Held.Ready seat first granules) = ⊤
KindIs b u kind (Held.Large grant first granules) = kind ≡ Kind.Large first granules

-- the word names a grant that was made
pub record SeenFits (lasts : ℕ → ℕ) (word : ℕ) : Type 0 where
  pub grant : Grant
  pub names : mark_of word ≡ Mark.Granted grant
  pub made : grant.number ≤ lasts grant.seat

abbrev pub OldFits : (ℕ → ℕ) → ℕ → Type 0
OldFits lasts word = (grant : Grant) → mark_of word ≡ Mark.Granted grant → grant.number ≤ lasts grant.seat

abbrev pub IfHeld : (ℕ → Held) → ℕ → ℕ → (Held → Type 0) → Type 0
IfHeld held u word P =
    (grant : Grant) → mark_of word ≡ Mark.Granted grant → granted_in (held u) ≡ Some grant → P (held u)

abbrev pub IsLarge : Held → Type 0
IsLarge Held.NotOut = ⊤
IsLarge Held.Private = ⊤
IsLarge Held.Listed = ⊤
IsLarge (Held.Object grant) = ⊥
IsLarge (Held.InHand seat) = ⊤
IsLarge (Held.Ready seat first granules) = ⊤
IsLarge (Held.Large grant first granules) = ⊤

pub record NoteFits (g : Shadow) (s : Core) (n : Note) : Type 0 where
  pub seen : SeenFits s.lasts n.mark
  pub kind : IfHeld g.held n.unit n.mark (KindIs s.book n.unit n.kind)

abbrev pub NotesFit : Shadow → Core → List Note → Type 0
NotesFit g s [] = ⊤
NotesFit g s (n ∷ ns) = NoteFits g s n × NotesFit g s ns

abbrev pub note_of : ℕ → ℕ → Kind → Note
note_of unit mark kind = record { unit = unit; mark = mark; kind = kind }

abbrev pub LookFits : Shadow → Core → LookAt → Type 0
LookFits g s LookAt.Region = ⊤
LookFits g s (LookAt.Mark unit) = ⊤
LookFits g s (LookAt.Again unit mark) = OldFits s.lasts mark
LookFits g s (LookAt.Kind unit mark) = SeenFits s.lasts mark
LookFits g s (LookAt.Odd unit mark) = SeenFits s.lasts mark × IfHeld g.held unit mark IsLarge
LookFits g s (LookAt.Base unit mark kind) = NoteFits g s (note_of unit mark kind)
LookFits g s (LookAt.Second unit mark kind base) = NoteFits g s (note_of unit mark kind)
LookFits g s (LookAt.Gone mark) = ⊤

abbrev pub IsSlabKind : Kind → Type 0
IsSlabKind Kind.Nothing = ⊥
IsSlabKind (Kind.Slab class) = ⊤
IsSlabKind Kind.CachedSlab = ⊥
IsSlabKind (Kind.Large first granules) = ⊥

abbrev pub IsLargeKind : Kind → Type 0
IsLargeKind Kind.Nothing = ⊥
IsLargeKind (Kind.Slab class) = ⊥
IsLargeKind Kind.CachedSlab = ⊥
IsLargeKind (Kind.Large first granules) = ⊤

-- which of the three exchanges ends a grant: by whose slab it is in, as was noted; a kind that was read late can be none
-- of an object, and then the grant is not held any more
abbrev pub EndFits : Book → ℕ → ℕ → Option ℕ → Kind → EndAt → Type 0
EndFits b seat unit head kind EndAt.Own =
    IsSlabKind kind × (b.keeper (slab_of unit) ≡ Keeper.By seat) × (head ≡ b.heads (slab_of unit))
EndFits b seat unit head kind EndAt.Other =
    (IsLargeKind kind → ⊥) × (IsSlabKind kind → b.keeper (slab_of unit) ≢ Keeper.By seat)
EndFits b seat unit head kind EndAt.Large = IsLargeKind kind
EndFits b seat unit head kind (EndAt.Lost mark) = ⊤

abbrev pub FitsPublicLink : Public → Type 0
FitsPublicLink Public.Null = ⊤
FitsPublicLink Public.Unusable = ⊤
FitsPublicLink (Public.Filled unit) = unit < 2 ^ 61

-- before the exchange the object's mark leads where the public word that was found does
abbrev pub PostFits : (ℕ → Link) → ℕ → PostAt → Type 0
PostFits links unit (PostAt.Push PushAt.Look) = ⊤
PostFits links unit (PostAt.Push (PushAt.Link found)) = FitsPublicLink (public_of found)
PostFits links unit (PostAt.Push (PushAt.Exchange found)) = links unit ≡ public_link_to (public_of found)

-- numbers of grants are left
abbrev pub HasNumber : Core → ℕ → Type 0
HasNumber s seat = s.lasts seat + 1 < 2 ^ 55

-- what a seat relies on at its next step
abbrev pub TaskFits : Key → Shadow → Core → ℕ → Task → Type 0
TaskFits k g s seat Away = ⊤
TaskFits k g s seat (Looking call at) = LookFits g s at
TaskFits k g s seat (Ending call kind at) =
    (call.seat ≡ seat) × NoteFits g s (note_of call.unit call.mark kind)
    × EndFits s.book seat call.unit call.head kind at
TaskFits k g s seat (Posting call at) =
    (call.slab ≡ slab_of call.unit) × (g.held call.unit ≡ Held.InHand seat)
    × PostFits (links_in s.marks) call.unit at
TaskFits k g s seat (Joining slab at) = s.book.keeper slab ≡ Keeper.By seat
TaskFits k g s seat (Reading slab head) =
    (s.book.keeper slab ≡ Keeper.By seat) × (s.book.heads slab ≡ Some head) × HasNumber s seat
TaskFits k g s seat (Taking slab head below) =
    (s.book.keeper slab ≡ Keeper.By seat) × (s.book.heads slab ≡ Some head) × HasNumber s seat
    × (links_in s.marks head ≡ head_link below)
TaskFits k g s seat (Resting slab unit) =
    (s.book.keeper slab ≡ Keeper.By seat) × (s.book.heads slab ≡ None) × HasNumber s seat
    × (s.book.handed slab < class_objects (s.book.classes slab))
    × (unit ≡ unit_of slab (s.book.classes slab) (s.book.handed slab))
TaskFits k g s seat (Blocking unit first granules) = (g.held unit ≡ Held.Ready seat first granules) × HasNumber s seat

-- an object in a seat's hand is the one that the seat is about to list
abbrev pub IsInHand : Task → ℕ → Type 0
IsInHand Away u = ⊥
IsInHand (Looking call at) u = ⊥
IsInHand (Ending call kind at) u = ⊥
IsInHand (Posting call at) u = u ≡ call.unit
IsInHand (Joining slab at) u = ⊥
IsInHand (Reading slab head) u = ⊥
IsInHand (Taking slab head below) u = ⊥
IsInHand (Resting slab unit) u = ⊥
IsInHand (Blocking unit first granules) u = ⊥

abbrev pub HandsFit : (ℕ → Held) → (ℕ → Task) → Type 0
HandsFit held tasks = (u seat : ℕ) → held u ≡ Held.InHand seat → IsInHand (tasks seat) u

pub record ObjectsGood (k : Key) (g : Shadow) (s : Core) : Type 0 where
  pub book : BookFits k s.book
  pub kinds' : KindsFit s.book s.kinds
  pub marks_fit : MarksFit g.held s.marks
  pub grants : GrantsApart g.held s.lasts g.ended
  pub out_fits : OutFits g.held s.book
  pub larges : LargesFit k g.held s.book.keeper s.kinds
  pub privates_once : PrivatesOnce g.held g.privates g.taken
  pub listed_once : ListedOnce g.held g.listed
  pub private_chains : PrivateChains (links_in s.marks) s.book.heads g.privates
  pub public_chains : PublicChains (links_in s.marks) s.publics g.listed
  pub counts_fit : CountsFit s.book.handed s.book.counts g.privates
  pub taken_fit : TakenFit (links_in s.marks) s.tasks s.book.keeper g.taken
  pub tasks_fit : (seat : ℕ) → TaskFits k g s seat (s.tasks seat)
  pub notes_fit : (seat : ℕ) → NotesFit g s (s.notes seat)
  pub hands_fit : HandsFit g.held s.tasks
