-- The laws of objects.
use Rattle.std.specs.Prelude.{◌≡◌, ◌≢◌, ℕ, ◌^◌, ◌<◌, ◌≤◌, Some, None, List, [], ◌∷◌, ⊤}
use Rattle.pool_types.specs.declared.values.Grant.{Grant}
use Rattle.pool_words.specs.declared.words.Key.{Key}
use Rattle.pool_words.specs.Words.{marks, publics}
use Rattle.word_codes.specs.declared.marks.Mark.{Mark}
use Rattle.word_codes.specs.declared.publics.Public.{Public}
use Rattle.word_codes.specs.declared.kinds.Kind.{Kind}
use Rattle.word_codes.specs.Marks.{mark_of}
use Rattle.word_codes.specs.Places.{granule_of}
use Rattle.word_codes.specs.Publics.{public_of}
use Rattle.heap_slabs.specs.declared.records.HeapSlab.{HeapSlab}
use Rattle.backend_bins.specs.declared.blocks.Block.{Block}
use Rattle.public_list.specs.declared.ending.EndCall.{EndCall}
use Rattle.public_list.specs.declared.ending.EndAt.{EndAt}
use Rattle.public_list.specs.declared.ending.EndNext.{EndNext}
use Rattle.public_list.specs.declared.posting.PostCall.{PostCall}
use Rattle.public_list.specs.declared.posting.PostAt.{PostAt}
use Rattle.public_list.specs.declared.posting.PostNext.{PostNext}
use Rattle.public_list.specs.Ending.{end_course, end_learn}
use Rattle.public_list.specs.Posting.{post_course, post_learn}
use Rattle.reset_steps.specs.declared.evict.EvictAt.{EvictAt}
use Rattle.reset_steps.specs.declared.evict.EvictCall.{EvictCall}
use Rattle.reset_steps.specs.declared.strip.StripAt.{StripAt}
use Rattle.reset_steps.specs.Evict.{evict_course, unit_at}
use Rattle.reset_steps.specs.Strip.{strip_course, object_unit}
use Rattle.word_laws.specs.Memory.{Mem, found, fresh}
use Rattle.chain_laws.specs.Named.{ten_key}
use Rattle.slab_laws.specs.Books.{Keeper, IsThere, record_of}
use Rattle.slab_laws.specs.OneSlab.{IsSlabOf}
use Rattle.slab_laws.specs.Heaps.{slab_of}
use Rattle.object_laws.specs.Objects.{Held, granted_in, Note, Shadow, Locals, Core, core_in}
use Rattle.object_laws.specs.Objects.Task.{Ending, Posting}
use Rattle.object_laws.specs.Parts.{KindIs, IsInHand, TaskFits, ObjectsGood}
use Rattle.object_laws.specs.Rows.{shadow_ended, shadow_posted}
use Rattle.object_laws.specs.Steps.{ObjectStep, ObjectRun}
use Rattle.object_laws.specs.Named.{no_objects, fresh_locals, named_objects, named_words}

-- each step of each seat keeps what holds of objects
abbrev pub StepsKeepObjects : Type 0
StepsKeepObjects =
    (k : Key) (g : Shadow) (m : Mem) (l : Locals) (h : Shadow) (m' : Mem) (l' : Locals)
    → ObjectsGood k g (core_in m l) → ObjectStep k g m l h m' l' → ObjectsGood k h (core_in m' l')

abbrev pub RunsKeepObjects : Type 0
RunsKeepObjects =
    (k : Key) (g : Shadow) (m : Mem) (l : Locals) (h : Shadow) (m' : Mem) (l' : Locals)
    → ObjectsGood k g (core_in m l) → ObjectRun k g m l h m' l' → ObjectsGood k h (core_in m' l')

-- each slab's record and private objects are those of one slab
abbrev pub SlabsHaveTheirLists : Type 0
SlabsHaveTheirLists =
    (k : Key) (g : Shadow) (s : Core) (e : ℕ) → ObjectsGood k g s → IsThere (s.book.keeper e)
    → IsSlabOf (record_of s.book e) (g.privates e)

-- of a grant: it was ended once at most, and since then no mark names it; until then one mark at most does
pub record GrantOnce (g : Shadow) (m : Mem) (grant : Grant) : Type 0 where
  pub once : g.ended grant.seat grant.number ≤ 1
  pub gone : 0 < g.ended grant.seat grant.number → (u : ℕ) → mark_of (m marks u) ≢ Mark.Granted grant
  pub one : (u v : ℕ) → mark_of (m marks u) ≡ Mark.Granted grant → mark_of (m marks v) ≡ Mark.Granted grant → u ≡ v

-- where an exchange that ends a grant is won, the grant was held there and not ended before, and then it is ended
pub record EndsGrant (g h : Shadow) (unit : ℕ) (grant : Grant) : Type 0 where
  pub held : granted_in (g.held unit) ≡ Some grant
  pub before : g.ended grant.seat grant.number ≡ 0
  pub after' : h.ended grant.seat grant.number ≡ 1

abbrev pub IsWon : EndNext → Type 0
IsWon (EndNext.Goes at) = ⊥
IsWon EndNext.Own = ⊤
IsWon EndNext.Other = ⊤
IsWon EndNext.Large = ⊤
IsWon (EndNext.NotHeld found) = ⊥

-- in every run of any number of seats, from any state in which objects are as they should be, each grant ends once
pub record GrantEnds (k : Key) (g : Shadow) (m : Mem) (l : Locals) : Type 0 where
  pub each : (grant : Grant) → GrantOnce g m grant
  pub won : (seat : ℕ) (call : EndCall) (kind : Kind) (at : EndAt) (grant : Grant) → l.tasks seat ≡ Ending call kind at
      → mark_of call.mark ≡ Mark.Granted grant → IsWon (end_learn call at (found m (end_course call at)))
      → EndsGrant g (shadow_ended seat call (end_learn call at (found m (end_course call at))) g) call.unit grant

abbrev pub GrantEndsOnce : Type 0
GrantEndsOnce =
    (k : Key) (g0 : Shadow) (m0 : Mem) (l0 : Locals) (g : Shadow) (m : Mem) (l : Locals)
    → ObjectsGood k g0 (core_in m0 l0) → ObjectRun k g0 m0 l0 g m l → GrantEnds k g m l

-- the push that replaces Null is the first since the list was taken, and it alone has the duty to mail the slab
pub record FindsNull (g h : Shadow) (m : Mem) (call : PostCall) : Type 0 where
  pub null : public_of (m publics call.slab) ≡ Public.Null
  pub none : g.listed call.slab ≡ []
  pub first : h.listed call.slab ≡ call.unit ∷ []

pub record FindsOthers (m : Mem) (call : PostCall) : Type 0 where
  pub some : public_of (m publics call.slab) ≢ Public.Null

abbrev pub Duty : Shadow → Shadow → Mem → PostCall → PostNext → Type 0
Duty g h m call (PostNext.Goes at) = ⊤
Duty g h m call PostNext.Listed = FindsOthers m call
Duty g h m call PostNext.Owed = FindsNull g h m call

abbrev pub FindingNullGivesTheDuty : Type 0
FindingNullGivesTheDuty =
    (k : Key) (g : Shadow) (m : Mem) (l : Locals) (seat : ℕ) (call : PostCall) (at : PostAt)
    → l.tasks seat ≡ Posting call at → ObjectsGood k g (core_in m l)
    → Duty g (shadow_posted call (post_learn at (found m (post_course call at))) g) m call
    (post_learn at (found m (post_course call at)))

-- what was noted of an object is so for as long as its mark is the noted word
pub record NoteTells (g : Shadow) (l : Locals) (n : Note) : Type 0 where
  pub grant : Grant
  pub names : mark_of n.mark ≡ Mark.Granted grant
  pub held : granted_in (g.held n.unit) ≡ Some grant
  pub kind : KindIs l.book n.unit n.kind (g.held n.unit)

abbrev pub NotesTellOfHeldObjects : Type 0
NotesTellOfHeldObjects =
    (k : Key) (g : Shadow) (m : Mem) (l : Locals) (seat : ℕ) (n : Note) (ns : List Note)
    → ObjectsGood k g (core_in m l) → l.notes seat ≡ n ∷ ns → m marks n.unit ≡ n.mark → NoteTells g l n

-- an object in a seat's hand is the one that the seat is about to list, and no other seat has it
abbrev pub HandsAreListed : Type 0
HandsAreListed =
    (k : Key) (g : Shadow) (s : Core) (u seat : ℕ) → ObjectsGood k g s → g.held u ≡ Held.InHand seat
    → IsInHand (s.tasks seat) u

-- in a new pool no object is
abbrev pub FreshPoolsHaveNoObjects : Type 0
FreshPoolsHaveNoObjects = (k : Key) → k.span < 2 ^ 32 → ObjectsGood k no_objects (core_in fresh (fresh_locals))

-- private, given back, held and taken objects, and one in a seat's hand
abbrev pub NamedObjectsStand : Type 0
NamedObjectsStand = ObjectsGood ten_key named_objects named_words

-- the exchanges of a reset are those that end a grant, of a slab's object and of a large one
abbrev pub strip_call : HeapSlab → ℕ → ℕ → ℕ → EndCall
strip_call r object mark seat = record {
  unit = object_unit r object;
  mark = mark;
  number = 0;
  seat = seat;
  head = r.head;
}

abbrev pub evict_call : ℕ → ℕ → ℕ → EndCall
evict_call unit mark seat = record { unit = unit; mark = mark; number = 0; seat = seat; head = None }

pub record ResetsEnd (r : HeapSlab) (c : EvictCall) (granule object line mark : ℕ) (b : Block) : Type 0 where
  pub strips : strip_course r (StripAt.End object mark) ≡ end_course (strip_call r object mark c.seat) EndAt.Own
  pub evicts : evict_course c (EvictAt.End granule b line mark)
      ≡ end_course (evict_call (unit_at granule line) mark c.seat) EndAt.Large

abbrev pub ResetsEndGrants : Type 0
ResetsEndGrants =
    (r : HeapSlab) (c : EvictCall) (granule object line mark : ℕ) (b : Block)
    → ResetsEnd r c granule object line mark b

-- where a seat found a grant's mark on an object of a slab that it keeps, or on one in no slab, it may end the grant so
pub record MayEnd (k : Key) (g : Shadow) (s : Core) (seat unit mark number : ℕ) : Type 0 where
  pub own : s.book.keeper (slab_of unit) ≡ Keeper.By seat
      → TaskFits k g s seat (Ending (record {
        unit = unit;
        mark = mark;
        number = number;
        seat = seat;
        head = s.book.heads (slab_of unit);
      }) (Kind.Slab (s.book.classes (slab_of unit))) EndAt.Own)
  pub large : (IsThere (s.book.keeper (slab_of unit)) → ⊥)
      → TaskFits k g s seat (Ending (record {
        unit = unit;
        mark = mark;
        number = number;
        seat = seat;
        head = None;
      }) (s.kinds (granule_of unit)) EndAt.Large)

abbrev pub GrantsFoundMayEnd : Type 0
GrantsFoundMayEnd =
    (k : Key) (g : Shadow) (m : Mem) (l : Locals) (seat unit number : ℕ) (grant : Grant)
    → ObjectsGood k g (core_in m l) → mark_of (m marks unit) ≡ Mark.Granted grant
    → MayEnd k g (core_in m l) seat unit (m marks unit) number
