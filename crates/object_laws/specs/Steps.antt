-- The steps on marks, public words and kinds, and those after which a slab is kept by another: what each rests on, and
-- what it leaves.
use Rattle.std.specs.Prelude.{◌≡◌, ◌≢◌, ℕ, ◌+◌, ◌^◌, ◌<◌, Option, List, ◌∷◌, ⊤}
use Rattle.pool_types.specs.Geometry.{class_count}
use Rattle.pool_words.specs.declared.words.Key.{Key}
use Rattle.pool_words.specs.declared.words.Word.{Word}
use Rattle.pool_words.specs.declared.actions.Action.{Action}
use Rattle.pool_words.specs.declared.actions.Action.TheVariants.{Load, Store, Swap, Exchange, Add}
use Rattle.pool_words.specs.declared.actions.Action.TheVariants.{TakeOffice, GiveOffice, Nothing}
use Rattle.pool_words.specs.Words.{kind_of_word, number, marks, publics, kinds}
use Rattle.word_codes.specs.declared.publics.Public.{Public}
use Rattle.word_codes.specs.declared.kinds.Kind.{Kind}
use Rattle.word_codes.specs.Kinds.{kind_word, FitsKind}
use Rattle.word_codes.specs.Marks.{mark_of}
use Rattle.word_codes.specs.Places.{granule_of, slab_granule}
use Rattle.word_codes.specs.Publics.{public_word}
use Rattle.public_list.specs.declared.looking.LookCall.{LookCall}
use Rattle.public_list.specs.declared.looking.LookAt.{LookAt}
use Rattle.public_list.specs.declared.ending.EndCall.{EndCall}
use Rattle.public_list.specs.declared.ending.EndAt.{EndAt}
use Rattle.public_list.specs.declared.posting.PostCall.{PostCall}
use Rattle.public_list.specs.declared.posting.PostAt.{PostAt}
use Rattle.public_list.specs.declared.joining.JoinCall.{JoinCall}
use Rattle.public_list.specs.declared.joining.JoinAt.{JoinAt}
use Rattle.public_list.specs.Looking.{look_course, look_learn}
use Rattle.public_list.specs.Ending.{end_course, end_learn}
use Rattle.public_list.specs.Posting.{post_course, post_learn}
use Rattle.public_list.specs.Joining.{join_course, join_learn}
use Rattle.word_laws.specs.Memory.{Mem, put, after, found}
use Rattle.chain_laws.specs.Chains.{tally}
use Rattle.slab_laws.specs.Books.{Keeper, Book, IsThere, with_private_taken, with_rest_taken, with_begun, with_ended}
use Rattle.slab_laws.specs.Books.{with_keeper, with_chain_taken}
use Rattle.slab_laws.specs.Heaps.{slab_of, IsPlace}
use Rattle.object_laws.specs.Objects.{Held, Task, Note, behind, Shadow, Locals, core_in, IsUnit}
use Rattle.object_laws.specs.Objects.Task.{Away, Looking, Ending, Posting, Joining, Reading, Taking, Resting, Blocking}
use Rattle.object_laws.specs.Parts.{TaskFits}
use Rattle.object_laws.specs.Rows.{with_task, looked, shadow_ended, ended, shadow_posted, posted_as, shadow_joined}
use Rattle.object_laws.specs.Rows.{joined_as, next_grant, grant_word, granted, shadow_granted, shadow_private}
use Rattle.object_laws.specs.Rows.{shadow_emptied, with_book}

abbrev pub join_of : Locals → ℕ → JoinCall
join_of l e = record { slab = e; head = l.book.heads e }

-- a word that is no mark, public word or kind
pub record IsOtherWord (w : Word) : Type 0 where
  pub no_mark : number (kind_of_word w) ≢ number marks
  pub no_public : number (kind_of_word w) ≢ number publics
  pub no_kind : number (kind_of_word w) ≢ number kinds

abbrev pub IsOtherAction : Action → Type 0
IsOtherAction (Load w) = ⊤
IsOtherAction (Store w value) = IsOtherWord w
IsOtherAction (Swap w value) = IsOtherWord w
IsOtherAction (Exchange w from to) = IsOtherWord w
IsOtherAction (Add w value) = IsOtherWord w
IsOtherAction (TakeOffice job) = ⊤
IsOtherAction GiveOffice = ⊤
IsOtherAction Nothing = ⊤

-- no object is out in a slab, or begins there
abbrev pub IsBare : (ℕ → Held) → ℕ → Type 0
IsBare held e = (u : ℕ) → slab_of u ≡ e → held u ≡ Held.NotOut

-- what a seat may begin with
abbrev pub IsStart : Task → Type 0
IsStart Away = ⊤
IsStart (Looking call at) = ⊤
IsStart (Ending call kind at) = ⊤
IsStart (Posting call at) = ⊥
IsStart (Joining slab JoinAt.Take) = ⊤
IsStart (Joining slab (JoinAt.Walk first at count)) = ⊥
IsStart (Joining slab (JoinAt.Tie first last count)) = ⊥
IsStart (Reading slab head) = ⊤
IsStart (Taking slab head below) = ⊥
IsStart (Resting slab unit) = ⊤
IsStart (Blocking unit first granules) = ⊥

-- a large object may begin here: no object does in the unit's granule, and no slab, nor a cached one
pub record CanBlock (k : Key) (held : ℕ → Held) (b : Book) (u first granules : ℕ) : Type 0 where
  pub unit : IsUnit k u
  pub fits : FitsKind (Kind.Large first granules)
  pub bare : (v : ℕ) → granule_of v ≡ granule_of u → held v ≡ Held.NotOut
  pub slab : IsThere (b.keeper (slab_of u)) → ⊥
  pub granule : b.keeper (granule_of u) ≡ Keeper.Nobody

-- the steps of a seat below 64
pub data ObjectStep (k : Key) (g : Shadow) (m : Mem) (l : Locals) : Shadow → Mem → Locals → Type 0 where
  -- F5, M1, F7: a look at a place
  looks : (seat : ℕ) (call : LookCall) (at : LookAt) → l.tasks seat ≡ Looking call at
      → ObjectStep k g m l g (after k m (look_course call at))
      (looked seat call (look_learn call at (found m (look_course call at))) l)
  -- M4, M5, M6, F5: a grant is ended
  ends : (seat : ℕ) (call : EndCall) (kind : Kind) (at : EndAt) → seat < 64 → l.tasks seat ≡ Ending call kind at
      → ObjectStep k g m l (shadow_ended seat call (end_learn call at (found m (end_course call at))) g)
      (after k m (end_course call at)) (ended seat call kind (end_learn call at (found m (end_course call at))) l)
  -- P1 to P4: the object in hand is listed
  posts : (seat : ℕ) (call : PostCall) (at : PostAt) → l.tasks seat ≡ Posting call at
      → ObjectStep k g m l (shadow_posted call (post_learn at (found m (post_course call at))) g)
      (after k m (post_course call at)) (posted_as seat call (post_learn at (found m (post_course call at))) l)
  -- P5, M1, M8: what was given back to a slab is taken, walked and joined
  joins : (seat e : ℕ) (at : JoinAt) → l.tasks seat ≡ Joining e at
      → ObjectStep k g m l (shadow_joined e at g) (after k m (join_course (join_of l e) at))
      (joined_as seat e (join_learn at (found m (join_course (join_of l e) at))) l)
  -- M1, M3: the newest private object is granted
  reads : (seat e head : ℕ) → l.tasks seat ≡ Reading e head
      → ObjectStep k g m l g (after k m (Load (Word.Mark head)))
      (with_task seat (Taking e head (behind (mark_of (found m (Load (Word.Mark head)))))) l)
  takes : (seat e head : ℕ) (below : Option ℕ) → seat < 64 → l.tasks seat ≡ Taking e head below
      → ObjectStep k g m l (shadow_private (Held.Object (next_grant l seat)) e head g)
      (after k m (Store (Word.Mark head) (grant_word l seat)))
      (granted seat head (Kind.Slab (l.book.classes e)) (with_private_taken e below l.book) l)
  -- M2: the next object of a slab's rest is granted
  rests : (seat e unit : ℕ) → seat < 64 → l.tasks seat ≡ Resting e unit
      → ObjectStep k g m l (shadow_granted (Held.Object (next_grant l seat)) unit g)
      (after k m (Store (Word.Mark unit) (grant_word l seat)))
      (granted seat unit (Kind.Slab (l.book.classes e)) (with_rest_taken e l.book) l)
  -- F8, M7: a block is made ready, and the large object in it granted
  readies : (seat unit first granules : ℕ) → l.tasks seat ≡ Away → CanBlock k g.held l.book unit first granules
      → l.lasts seat + 1 < 2 ^ 55
      → ObjectStep k g m l (shadow_granted (Held.Ready seat first granules) unit g)
      (after k m (Store (Word.Kind (granule_of unit)) (kind_word (Kind.Large first granules))))
      (with_task seat (Blocking unit first granules) l)
  blocks : (seat unit first granules : ℕ) → seat < 64 → l.tasks seat ≡ Blocking unit first granules
      → ObjectStep k g m l (shadow_granted (Held.Large (next_grant l seat) first granules) unit g)
      (after k m (Store (Word.Mark unit) (grant_word l seat)))
      (granted seat unit (Kind.Large first granules) l.book l)
  -- F8: a slab begins or ends, and an empty one is cached or leaves a cache
  slab_begins : (seat e class : ℕ) → l.tasks seat ≡ Away → l.book.keeper e ≡ Keeper.Nobody → IsPlace k e
      → class < class_count → IsBare g.held e
      → ObjectStep k g m l g (after k m (Store (Word.Kind e) (kind_word (Kind.Slab class))))
      (with_book (with_begun seat e class l.book) l)
  slab_ends : (seat e : ℕ) → l.tasks seat ≡ Away → l.book.keeper e ≡ Keeper.By seat → l.book.counts e ≡ 0
      → ObjectStep k g m l (shadow_emptied e g) (after k m (Store (Word.Kind e) (kind_word Kind.Nothing)))
      (with_book (with_ended e l.book) l)
  slab_cached : (seat e : ℕ) → l.book.keeper e ≡ Keeper.Nobody → slab_granule e ≡ e → e < k.span → IsBare g.held e
      → ObjectStep k g m l g (after k m (Store (Word.Kind e) (kind_word Kind.CachedSlab)))
      (with_book (with_keeper e (Keeper.Cached seat) l.book) l)
  slab_uncached : (seat e : ℕ) → l.book.keeper e ≡ Keeper.Cached seat → e < k.span
      → ObjectStep k g m l g (after k m (Store (Word.Kind e) (kind_word Kind.Nothing)))
      (with_book (with_keeper e Keeper.Nobody l.book) l)
  -- O5, O6, O8: a slab is left, orphans are taken, pushed back, and adopted
  leaves : (seat e : ℕ) → l.tasks seat ≡ Away → l.book.keeper e ≡ Keeper.By seat
      → ObjectStep k g m l g m (with_book (with_keeper e Keeper.Orphan l.book) l)
  comes : (seat : ℕ) (chain : List ℕ) → l.tasks seat ≡ Away
      → ((e : ℕ) → 0 < tally e chain → l.book.keeper e ≡ Keeper.Orphan)
      → ObjectStep k g m l g m (with_book (with_chain_taken seat chain l.book) l)
  goes_back : (seat e : ℕ) → l.tasks seat ≡ Away → l.book.keeper e ≡ Keeper.Adopting seat
      → ObjectStep k g m l g m (with_book (with_keeper e Keeper.Orphan l.book) l)
  adopts : (seat e : ℕ) → l.tasks seat ≡ Away → l.book.keeper e ≡ Keeper.Adopting seat
      → ObjectStep k g m l g m (with_book (with_keeper e (Keeper.By seat) l.book) l)
  -- P6: the public word of a slab that is to be left; P5, of a slab that is about to begin
  closes : (e : ℕ) → e < k.span
      → ObjectStep k g m l g
      (after k m (Exchange (Word.Public e) (public_word Public.Null) (public_word Public.Unusable))) l
  clears : (e : ℕ) → (IsThere (l.book.keeper e) → ⊥) → e < k.span
      → ObjectStep k g m l g (after k m (Swap (Word.Public e) (public_word Public.Null))) l
  -- a seat begins something else, or forgets what it noted
  begins : (seat : ℕ) (task : Task) → l.tasks seat ≡ Away → IsStart task → TaskFits k g (core_in m l) seat task
      → ObjectStep k g m l g m (with_task seat task l)
  forgets : (seat : ℕ) (n : Note) (ns : List Note) → l.notes seat ≡ n ∷ ns
      → ObjectStep k g m l g m (record l { notes = put l.notes seat ns })
  -- each step on another word
  others : (action : Action) → IsOtherAction action → ObjectStep k g m l g (after k m action) l

-- any number of steps of any number of seats
pub data ObjectRun (k : Key) (g0 : Shadow) (m0 : Mem) (l0 : Locals) : Shadow → Mem → Locals → Type 0 where
  starts : ObjectRun k g0 m0 l0 g0 m0 l0
  steps : {g1 : Shadow} {m1 : Mem} {l1 : Locals} {h : Shadow} {m' : Mem} {l' : Locals}
      → ObjectRun k g0 m0 l0 g1 m1 l1 → ObjectStep k g1 m1 l1 h m' l' → ObjectRun k g0 m0 l0 h m' l'
