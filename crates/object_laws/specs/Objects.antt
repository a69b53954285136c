-- Who holds each object, what each seat is about to do with one, and what it has noted of others.
use Rattle.std.specs.Prelude.{ℕ, cond, ◌&&◌, eqb, ◌+◌, ◌*◌, ◌<◌, Option, Some, None, List, ⊤}
use Rattle.pool_types.specs.declared.values.Grant.{Grant}
use Rattle.pool_words.specs.declared.words.Key.{Key}
use Rattle.pool_words.specs.Words.{granule_units, marks, publics, kinds}
use Rattle.word_codes.specs.declared.marks.Mark.{Mark}
use Rattle.word_codes.specs.declared.publics.Public.{Public}
use Rattle.word_codes.specs.declared.kinds.Kind.{Kind}
use Rattle.word_codes.specs.Marks.{mark_of}
use Rattle.word_codes.specs.Publics.{public_of}
use Rattle.word_codes.specs.Kinds.{kind_of}
use Rattle.public_list.specs.declared.looking.LookCall.{LookCall}
use Rattle.public_list.specs.declared.looking.LookAt.{LookAt}
use Rattle.public_list.specs.declared.ending.EndCall.{EndCall}
use Rattle.public_list.specs.declared.ending.EndAt.{EndAt}
use Rattle.public_list.specs.declared.posting.PostCall.{PostCall}
use Rattle.public_list.specs.declared.posting.PostAt.{PostAt}
use Rattle.public_list.specs.declared.joining.JoinAt.{JoinAt}
use Rattle.word_laws.specs.Memory.{Mem}
use Rattle.chain_laws.specs.Chains.{Link}
use Rattle.chain_laws.specs.Chains.Link.{Other, To, Ends}
use Rattle.slab_laws.specs.Books.{Book}

-- who holds the object that begins at a unit
pub data Held : Type 0 where
  -- none begins there, or it was not handed out
  NotOut : Held
  -- it came back to its slab's keeper, or was given back and taken by him
  Private : Held
  -- it was given back, and nobody took it yet
  Listed : Held
  Object : (grant : Grant) → Held
  -- it was given back by this seat, which is about to list it
  InHand : (seat : ℕ) → Held
  -- a large block is ready for this seat's grant
  Ready : (seat first granules : ℕ) → Held
  Large : (grant : Grant) (first granules : ℕ) → Held

abbrev pub granted_in : Held → Option Grant
granted_in Held.NotOut = None
granted_in Held.Private = None
granted_in Held.Listed = None
granted_in (Held.Object grant) = Some grant
granted_in (Held.InHand seat) = None
granted_in (Held.Ready seat first granules) = None
granted_in (Held.Large grant first granules) = Some grant

-- an object of a slab that was handed out
abbrev pub IsOut : Held → Type 0
IsOut Held.NotOut = ⊥
IsOut Held.Private = ⊤
IsOut Held.Listed = ⊤
IsOut (Held.Object grant) = ⊤
IsOut (Held.InHand seat) = ⊤
IsOut (Held.Ready seat first granules) = ⊥
IsOut (Held.Large grant first granules) = ⊥

-- what a seat is about to do, by the positions of the jobs
pub data Task : Type 0 where
  Away : Task
  Looking : (call : LookCall) (at : LookAt) → Task
  -- the kind is the one that was noted
  Ending : (call : EndCall) (kind : Kind) (at : EndAt) → Task
  Posting : (call : PostCall) (at : PostAt) → Task
  Joining : (slab : ℕ) (at : JoinAt) → Task
  -- the newest private object's mark is to be read, and then the object granted, behind which is this one
  Reading : (slab head : ℕ) → Task
  Taking : (slab head : ℕ) (below : Option ℕ) → Task
  -- the next object of a slab's rest is to be granted, or a large one
  Resting : (slab unit : ℕ) → Task
  Blocking : (unit first granules : ℕ) → Task

-- what was noted of an object: where it begins, its mark's word, and the kind at its slab or block
pub record Note : Type 0 where
  pub unit : ℕ
  pub mark : ℕ
  pub kind : Kind

-- where a mark leads, and where what a public word or a record names does
abbrev pub mark_link : Mark → Link
mark_link Mark.Unmarked = Other
mark_link (Mark.Granted grant) = Other
mark_link (Mark.Hand seat) = Other
mark_link (Mark.Link unit) = To unit
mark_link Mark.End = Ends 0
mark_link Mark.EndUnusable = Ends 1

abbrev pub public_link_to : Public → Link
public_link_to Public.Null = Ends 0
public_link_to Public.Unusable = Ends 1
public_link_to (Public.Filled unit) = To unit

abbrev pub head_link : Option ℕ → Link
head_link (Some unit) = To unit
head_link None = Ends 0

abbrev pub links_in : (ℕ → Mark) → ℕ → Link
links_in words u = mark_link (words u)

-- the private object behind one with this mark
abbrev pub behind : Mark → Option ℕ
behind Mark.Unmarked = None
behind (Mark.Granted grant) = None
behind (Mark.Hand seat) = None
behind (Mark.Link unit) = Some unit
behind Mark.End = None
behind Mark.EndUnusable = None

-- what the words stand for
pub record Shadow : Type 0 where
  pub held : ℕ → Held
  -- of a slab, the newest first: its private objects, those given back, and those taken that are not yet joined
  pub privates : ℕ → List ℕ
  pub listed : ℕ → List ℕ
  pub taken : ℕ → List ℕ
  -- how often the grant of a seat and a number was ended
  pub ended : ℕ → ℕ → ℕ

-- what the seats' locals and the book say
pub record Locals : Type 0 where
  pub book : Book
  -- of a seat: the number of its last grant, what it is about to do, and what it has noted
  pub lasts : ℕ → ℕ
  pub tasks : ℕ → Task
  pub notes : ℕ → List Note

-- the same with the words, each kind as a function
pub record Core : Type 0 where
  pub marks : ℕ → Mark
  pub publics : ℕ → Public
  pub kinds : ℕ → Kind
  pub book : Book
  pub lasts : ℕ → ℕ
  pub tasks : ℕ → Task
  pub notes : ℕ → List Note

abbrev pub core_in : Mem → Locals → Core
core_in m l = record {
  marks = λ u. mark_of (m marks u);
  publics = λ e. public_of (m publics e);
  kinds = λ e. kind_of (m kinds e);
  book = l.book;
  lasts = l.lasts;
  tasks = l.tasks;
  notes = l.notes;
}

abbrev pub grant_by : ℕ → ℕ → Grant
grant_by seat number = record { seat = seat; number = number }

-- one more ending of a grant
abbrev pub with_end : Grant → (ℕ → ℕ → ℕ) → ℕ → ℕ → ℕ
with_end grant ended seat number =
    cond (eqb seat grant.seat && eqb number grant.number) (ended seat number + 1) (ended seat number)

abbrev pub IsUnit : Key → ℕ → Type 0
IsUnit k u = u < granule_units * k.span
