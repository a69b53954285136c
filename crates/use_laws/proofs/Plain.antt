-- Steps on objects by which no record, no slab and no large block changes.
use Rattle.std.proofs.Common.{◌≡◌, ℕ, cond, eqb, Bool, true, false, refl, sym, ap, subst, ◌∙◌}
use Rattle.pool_words.specs.declared.words.Key.{Key}
use Rattle.pool_words.specs.declared.words.Word.{Word}
use Rattle.pool_words.specs.declared.actions.Action.{Action}
use Rattle.pool_words.specs.declared.actions.Action.TheVariants.{Load, Store, Exchange, Nothing}
use Rattle.word_codes.specs.declared.kinds.Kind.{Kind}
use Rattle.word_codes.specs.declared.publics.Public.{Public}
use Rattle.word_codes.specs.Publics.{public_word}
use Rattle.chain_words.specs.declared.pushing.PushAt.{PushAt}
use Rattle.public_list.specs.declared.looking.LookAt.{LookAt}
use Rattle.public_list.specs.declared.looking.LookCall.{LookCall}
use Rattle.public_list.specs.declared.looking.LookNext.{LookNext}
use Rattle.public_list.specs.declared.ending.EndCall.{EndCall}
use Rattle.public_list.specs.declared.ending.EndAt.{EndAt}
use Rattle.public_list.specs.declared.ending.EndNext.{EndNext}
use Rattle.public_list.specs.declared.posting.PostCall.{PostCall}
use Rattle.public_list.specs.declared.posting.PostAt.{PostAt}
use Rattle.public_list.specs.declared.posting.PostNext.{PostNext}
use Rattle.public_list.specs.declared.joining.JoinAt.{JoinAt}
use Rattle.public_list.specs.Looking.{look_course, look_learn}
use Rattle.public_list.specs.Ending.{end_course, end_learn}
use Rattle.public_list.specs.Posting.{post_course, post_learn}
use Rattle.public_list.specs.Joining.{join_course, join_learn, join_taken, join_walked}
use Rattle.word_codes.specs.declared.marks.Mark.{Mark}
use Rattle.word_codes.specs.Marks.{mark_of}
use Rattle.word_codes.specs.Publics.{public_of}
use Rattle.word_codes.specs.Places.{granule_of}
use Rattle.word_laws.specs.Memory.{Mem, put, after, found}
use Rattle.word_laws.proofs.CallerLemmas.{each, put-same}
use Rattle.guard_laws.specs.Steps as guards
use Rattle.guard_laws.specs.Blocks.{Piece}
use Rattle.slab_laws.specs.Books.{Book, IsThere}
use Rattle.slab_laws.specs.Steps as slabs
use Rattle.slab_laws.specs.Heaps.{slab_of, SlabsGood}
use Rattle.object_laws.specs.Objects.{Held, IsOut, Shadow, Locals, core_in}
use Rattle.object_laws.specs.Objects.Task.{Blocking}
use Rattle.object_laws.specs.Parts.{LargeFits, ObjectsGood}
use Rattle.object_laws.specs.Rows.{looked, shadow_ended, ended, shadow_posted, posted_as, shadow_joined, joined_as}
use Rattle.object_laws.specs.Rows.{taken_back, next_grant}
use Rattle.object_laws.specs.Steps.{ObjectStep, join_of}
use Rattle.object_laws.proofs.CallerLemmas.{steps_keep_objects, fits_at}
use Rattle.use_laws.specs.Uses.{IsKept, block_in}
use Rattle.use_laws.specs.Pools.{Pool, slabs_of, PoolGood}
use Rattle.use_laws.specs.Steps.{IsPlain, IsPlainEnd, IsPlainJoin}
use Rattle.use_laws.proofs.Blocks.{guards_same}
use Rattle.use_laws.proofs.Uses.{same_all}
use Rattle.use_laws.proofs.Words.{mark_no_guard, public_no_guard, mark_no_slab, public_no_slab, slabs_same}

-- an object of a slab has no block of its own
pub small_block : (k : Key) (u : ℕ) (keeper : _) (kind : Kind) (h : Held) → LargeFits k u keeper kind h
    → IsThere keeper → block_in h ≡ Piece.NoPiece
small_block k u keeper kind Held.NotOut fits there = refl
small_block k u keeper kind Held.Private fits there = refl
small_block k u keeper kind Held.Listed fits there = refl
small_block k u keeper kind (Held.Object g) fits there = refl
small_block k u keeper kind (Held.InHand t) fits there = refl
small_block k u keeper kind (Held.Ready t x n) fits there = absurd (fits.0 there)
small_block k u keeper kind (Held.Large g x n) fits there = absurd (fits.0 there)

pub out_block : (h : Held) → IsOut h → block_in h ≡ Piece.NoPiece
out_block Held.NotOut out = absurd out
out_block Held.Private out = refl
out_block Held.Listed out = refl
out_block (Held.Object g) out = refl
out_block (Held.InHand t) out = refl
out_block (Held.Ready t x n) out = absurd out
out_block (Held.Large g x n) out = absurd out

pub blocks_put : (held : ℕ → Held) (u : ℕ) (h : Held) → block_in h ≡ block_in (held u) → (v : ℕ)
    → block_in (put held u h v) ≡ block_in (held v)
blocks_put held u h is = each (λ v q. block_in q ≡ block_in (held v)) held u h (λ _ _. refl) is

-- an object is in a slab after the step, and so it was before
pub small_put : (k : Key) (g h : Shadow) (m m' : Mem) (l l' : Locals) (u : ℕ) (held : Held)
    → ObjectsGood k g (core_in m l) → ObjectsGood k h (core_in m' l') → h.held ≡ put g.held u held → IsOut held
    → l'.book.keeper ≡ l.book.keeper → (v : ℕ) → block_in (h.held v) ≡ block_in (g.held v)
small_put k g h m m' l l' u held good good' is out keepers v =
    ap (λ (f : ℕ → Held). block_in (f v)) is
    ∙ blocks_put g.held u held (out_block held out ∙ sym (small_block k u (l.book.keeper (slab_of u))
    ((core_in m l).kinds (granule_of u)) (g.held u) (good.larges u) there)) v
  where
    now : IsOut (h.held u)
    now = subst IsOut (sym (ap (λ (f : ℕ → Held). f u) is ∙ put-same g.held u held)) out

    there : IsThere (l.book.keeper (slab_of u))
    there = subst (λ (f : _). IsThere (f (slab_of u))) keepers (good'.out_fits.in_slab u now).0

-- what such a step owes
pub plain_so : (k : Key) (p : Pool) (h : Shadow) (action : Action) (l' : Locals) → PoolGood k p
    → guards.IsOtherAction action → slabs.IsOtherAction action → l'.book ≡ p.locals.book
    → ((u : ℕ) → block_in (h.held u) ≡ block_in (p.objects.held u))
    → ObjectsGood k h (core_in (after k p.mem action) l')
    → PoolGood k (record p { mem = after k p.mem action; objects = h; locals = l' })
plain_so k p h action l' good no_guard no_slab book blocks objects' = record {
  guards = guards_same k p.blocks p.mem p.tasks action no_guard good.guards;
  slabs = subst (λ (b : Book). SlabsGood k (record {
    book = b;
    mem = after k p.mem action;
    kept = p.kept;
    cached = p.cached;
  })) (sym book) (slabs_same k (slabs_of p) action no_slab good.slabs);
  objects = objects';
  uses = same_all p.locals.book.keeper l'.book.keeper p.objects.held h.held p.blocks.place p.purpose
      (λ y is. subst (λ (b : Book). IsKept (b.keeper y)) (sym book) is)
      (λ y is. subst (λ (b : Book). IsKept (b.keeper y)) book is) blocks good.uses;
}

-- looks
look_no_guard : (call : LookCall) (at : LookAt) → guards.IsOtherAction (look_course call at)
look_no_guard call LookAt.Region = tt
look_no_guard call (LookAt.Mark u) = tt
look_no_guard call (LookAt.Again u m) = tt
look_no_guard call (LookAt.Kind u m) = tt
look_no_guard call (LookAt.Odd u m) = tt
look_no_guard call (LookAt.Base u m q) = tt
look_no_guard call (LookAt.Second u m q base) = tt
look_no_guard call (LookAt.Gone m) = tt

look_no_slab : (call : LookCall) (at : LookAt) → slabs.IsOtherAction (look_course call at)
look_no_slab call LookAt.Region = tt
look_no_slab call (LookAt.Mark u) = tt
look_no_slab call (LookAt.Again u m) = tt
look_no_slab call (LookAt.Kind u m) = tt
look_no_slab call (LookAt.Odd u m) = tt
look_no_slab call (LookAt.Base u m q) = tt
look_no_slab call (LookAt.Second u m q base) = tt
look_no_slab call (LookAt.Gone m) = tt

looked_book : (seat : ℕ) (call : LookCall) (next : LookNext) (l : Locals) → (looked seat call next l).book ≡ l.book
looked_book t call (LookNext.Goes at) l = refl
looked_book t call (LookNext.Held u m q base) l = refl
looked_book t call LookNext.Differs l = refl
looked_book t call (LookNext.NotHeld f) l = refl

-- ends of grants
pub end_no_guard : (call : EndCall) (at : EndAt) → guards.IsOtherAction (end_course call at)
end_no_guard call EndAt.Own = mark_no_guard call.unit
end_no_guard call EndAt.Other = mark_no_guard call.unit
end_no_guard call EndAt.Large = mark_no_guard call.unit
end_no_guard call (EndAt.Lost m) = tt

pub end_no_slab : (call : EndCall) (at : EndAt) → slabs.IsOtherAction (end_course call at)
end_no_slab call EndAt.Own = mark_no_slab call.unit
end_no_slab call EndAt.Other = mark_no_slab call.unit
end_no_slab call EndAt.Large = mark_no_slab call.unit
end_no_slab call (EndAt.Lost m) = tt

ended_book : (seat : ℕ) (call : EndCall) (kind : Kind) (next : EndNext) (l : Locals) → IsPlainEnd next
    → (ended seat call kind next l).book ≡ l.book
ended_book t call kind (EndNext.Goes at) l plain = refl
ended_book t call kind EndNext.Own l plain = absurd plain
ended_book t call kind EndNext.Other l plain = refl
ended_book t call kind EndNext.Large l plain = refl
ended_book t call kind (EndNext.NotHeld f) l plain = refl

ended_blocks : (k : Key) (seat : ℕ) (call : EndCall) (kind : Kind) (next : EndNext) (g : Shadow) (m m' : Mem)
    (l : Locals) → IsPlainEnd next → ObjectsGood k g (core_in m l)
    → ObjectsGood k (shadow_ended seat call next g) (core_in m' (ended seat call kind next l)) → (u : ℕ)
    → block_in ((shadow_ended seat call next g).held u) ≡ block_in (g.held u)
ended_blocks k t call kind (EndNext.Goes at) g m m' l plain good good' u = refl
ended_blocks k t call kind EndNext.Own g m m' l plain good good' u = absurd plain
ended_blocks k t call kind EndNext.Other g m m' l plain good good' u =
    small_put k g (shadow_ended t call EndNext.Other g) m m' l (ended t call kind EndNext.Other l) call.unit
    (Held.InHand t) good good' refl tt refl u
ended_blocks k t call kind EndNext.Large g m m' l plain good good' u = absurd plain
ended_blocks k t call kind (EndNext.NotHeld f) g m m' l plain good good' u = refl

-- objects that are given back
post_no_guard : (call : PostCall) (at : PostAt) → guards.IsOtherAction (post_course call at)
post_no_guard call (PostAt.Push PushAt.Look) = tt
post_no_guard call (PostAt.Push (PushAt.Link f)) = mark_no_guard call.unit
post_no_guard call (PostAt.Push (PushAt.Exchange f)) = public_no_guard call.slab

post_no_slab : (call : PostCall) (at : PostAt) → slabs.IsOtherAction (post_course call at)
post_no_slab call (PostAt.Push PushAt.Look) = tt
post_no_slab call (PostAt.Push (PushAt.Link f)) = mark_no_slab call.unit
post_no_slab call (PostAt.Push (PushAt.Exchange f)) = public_no_slab call.slab

posted_book : (seat : ℕ) (call : PostCall) (next : PostNext) (l : Locals) → (posted_as seat call next l).book ≡ l.book
posted_book t call (PostNext.Goes at) l = refl
posted_book t call PostNext.Listed l = refl
posted_book t call PostNext.Owed l = refl

posted_blocks : (k : Key) (seat : ℕ) (call : PostCall) (next : PostNext) (g : Shadow) (m m' : Mem) (l : Locals)
    → ObjectsGood k g (core_in m l)
    → ObjectsGood k (shadow_posted call next g) (core_in m' (posted_as seat call next l)) → (u : ℕ)
    → block_in ((shadow_posted call next g).held u) ≡ block_in (g.held u)
posted_blocks k t call (PostNext.Goes at) g m m' l good good' u = refl
posted_blocks k t call PostNext.Listed g m m' l good good' u =
    small_put k g (shadow_posted call PostNext.Listed g) m m' l (posted_as t call PostNext.Listed l) call.unit
    Held.Listed good good' refl tt refl u
posted_blocks k t call PostNext.Owed g m m' l good good' u =
    small_put k g (shadow_posted call PostNext.Owed g) m m' l (posted_as t call PostNext.Owed l) call.unit
    Held.Listed good good' refl tt refl u

-- what was given back is taken
join_no_guard : (l : Locals) (e : ℕ) (at : JoinAt) → guards.IsOtherAction (join_course (join_of l e) at)
join_no_guard l e JoinAt.Take = public_no_guard e
join_no_guard l e (JoinAt.Walk first at count) = tt
join_no_guard l e (JoinAt.Tie first last count) = mark_no_guard last

join_no_slab : (l : Locals) (e : ℕ) (at : JoinAt) → slabs.IsOtherAction (join_course (join_of l e) at)
join_no_slab l e JoinAt.Take = public_no_slab e
join_no_slab l e (JoinAt.Walk first at count) = tt
join_no_slab l e (JoinAt.Tie first last count) = mark_no_slab last

took_book : (seat e : ℕ) (p : Public) (l : Locals) → (joined_as seat e (join_taken p) l).book ≡ l.book
took_book t e Public.Null l = refl
took_book t e Public.Unusable l = refl
took_book t e (Public.Filled u) l = refl

walked_book : (seat e first at count : ℕ) (mark : Mark) (l : Locals)
    → (joined_as seat e (join_walked first at count mark) l).book ≡ l.book
walked_book t e first at count Mark.Unmarked l = refl
walked_book t e first at count (Mark.Granted g) l = refl
walked_book t e first at count (Mark.Hand o) l = refl
walked_book t e first at count (Mark.Link u) l = refl
walked_book t e first at count Mark.End l = refl
walked_book t e first at count Mark.EndUnusable l = refl

joined_book : (seat e : ℕ) (at : JoinAt) (found : ℕ) (l : Locals) → IsPlainJoin at
    → (joined_as seat e (join_learn at found) l).book ≡ l.book
joined_book t e JoinAt.Take found l plain = took_book t e (public_of found) l
joined_book t e (JoinAt.Walk first at count) found l plain = walked_book t e first at _ (mark_of found) l
joined_book t e (JoinAt.Tie first last count) found l plain = absurd plain

back_block : (h : Held) → block_in (taken_back h) ≡ block_in h
back_block Held.NotOut = refl
back_block Held.Private = refl
back_block Held.Listed = refl
back_block (Held.Object g) = refl
back_block (Held.InHand t) = refl
back_block (Held.Ready t x n) = refl
back_block (Held.Large g x n) = refl

joined_blocks : (e : ℕ) (at : JoinAt) (g : Shadow) → IsPlainJoin at → (u : ℕ)
    → block_in ((shadow_joined e at g).held u) ≡ block_in (g.held u)
joined_blocks e JoinAt.Take g plain u = by (eqb (slab_of u) e)
  where
    by : (b : Bool) → block_in (cond b (taken_back (g.held u)) (g.held u)) ≡ block_in (g.held u)
    by true = back_block (g.held u)
    by false = refl
joined_blocks e (JoinAt.Walk first at count) g plain u = refl
joined_blocks e (JoinAt.Tie first last count) g plain u = absurd plain

pub plain_keeps : (k : Key) (p : Pool) (h : Shadow) (m' : Mem) (l' : Locals)
    → (step : ObjectStep k p.objects p.mem p.locals h m' l') → IsPlain k p.objects p.mem p.locals h m' l' step
    → PoolGood k p → PoolGood k (record p { mem = m'; objects = h; locals = l' })
plain_keeps k p h m' l' (ObjectStep.looks t call at is) plain good =
    plain_so k p p.objects (look_course call at)
    (looked t call (look_learn call at (found p.mem (look_course call at))) p.locals) good
    (look_no_guard call at) (look_no_slab call at)
    (looked_book t call (look_learn call at (found p.mem (look_course call at))) p.locals) (λ u. refl)
    (steps_keep_objects k p.objects p.mem p.locals h m' l' good.objects (ObjectStep.looks t call at is))
plain_keeps k p h m' l' (ObjectStep.ends t call kind at few is) plain good =
    let next = end_learn call at (found p.mem (end_course call at)) in
    let good' = steps_keep_objects k p.objects p.mem p.locals h m' l' good.objects
    (ObjectStep.ends t call kind at few is) in
    plain_so k p (shadow_ended t call next p.objects) (end_course call at) (ended t call kind next p.locals) good
    (end_no_guard call at) (end_no_slab call at) (ended_book t call kind next p.locals plain)
    (ended_blocks k t call kind next p.objects p.mem m' p.locals plain good.objects good') good'
plain_keeps k p h m' l' (ObjectStep.posts t call at is) plain good =
    let next = post_learn at (found p.mem (post_course call at)) in
    let good' = steps_keep_objects k p.objects p.mem p.locals h m' l' good.objects (ObjectStep.posts t call at is) in
    plain_so k p (shadow_posted call next p.objects) (post_course call at) (posted_as t call next p.locals) good
    (post_no_guard call at) (post_no_slab call at) (posted_book t call next p.locals)
    (posted_blocks k t call next p.objects p.mem m' p.locals good.objects good') good'
plain_keeps k p h m' l' (ObjectStep.joins t e at is) plain good =
    let action = join_course (join_of p.locals e) at in
    plain_so k p (shadow_joined e at p.objects) action (joined_as t e (join_learn at (found p.mem action)) p.locals)
    good (join_no_guard p.locals e at) (join_no_slab p.locals e at)
    (joined_book t e at (found p.mem action) p.locals plain) (joined_blocks e at p.objects plain)
    (steps_keep_objects k p.objects p.mem p.locals h m' l' good.objects (ObjectStep.joins t e at is))
plain_keeps k p h m' l' (ObjectStep.reads t e head is) plain good =
    plain_so k p p.objects (Load (Word.Mark head)) l' good tt tt refl (λ u. refl)
    (steps_keep_objects k p.objects p.mem p.locals h m' l' good.objects (ObjectStep.reads t e head is))
plain_keeps k p h m' l' (ObjectStep.takes t e head below few is) plain good = absurd plain
plain_keeps k p h m' l' (ObjectStep.rests t e unit few is) plain good = absurd plain
plain_keeps k p h m' l' (ObjectStep.readies t unit first granules is can low) plain good = absurd plain
plain_keeps k p h m' l' (ObjectStep.blocks t unit first granules few is) plain good =
    let task = fits_at k p.objects (core_in p.mem p.locals) t (Blocking unit first granules) is good.objects in
    plain_so k p h (Store (Word.Mark unit) _) l' good (mark_no_guard unit) (mark_no_slab unit) refl
    (blocks_put p.objects.held unit (Held.Large (next_grant p.locals t) first granules) (sym (ap block_in task.0)))
    (steps_keep_objects k p.objects p.mem p.locals h m' l' good.objects
    (ObjectStep.blocks t unit first granules few is))
plain_keeps k p h m' l' (ObjectStep.slab_begins t e class is nobody place low bare) plain good = absurd plain
plain_keeps k p h m' l' (ObjectStep.slab_ends t e is by none) plain good = absurd plain
plain_keeps k p h m' l' (ObjectStep.slab_cached t e nobody even low bare) plain good = absurd plain
plain_keeps k p h m' l' (ObjectStep.slab_uncached t e cached low) plain good = absurd plain
plain_keeps k p h m' l' (ObjectStep.leaves t e is by) plain good = absurd plain
plain_keeps k p h m' l' (ObjectStep.comes t chain is orphans) plain good = absurd plain
plain_keeps k p h m' l' (ObjectStep.goes_back t e is has) plain good = absurd plain
plain_keeps k p h m' l' (ObjectStep.adopts t e is has) plain good = absurd plain
plain_keeps k p h m' l' (ObjectStep.closes e low) plain good =
    plain_so k p p.objects (Exchange (Word.Public e) (public_word Public.Null) (public_word Public.Unusable)) p.locals
    good (public_no_guard e) (public_no_slab e) refl (λ u. refl)
    (steps_keep_objects k p.objects p.mem p.locals h m' l' good.objects (ObjectStep.closes e low))
plain_keeps k p h m' l' (ObjectStep.clears e none low) plain good = absurd plain
plain_keeps k p h m' l' (ObjectStep.begins t task is start fits) plain good =
    plain_so k p p.objects Nothing l' good tt tt refl (λ u. refl)
    (steps_keep_objects k p.objects p.mem p.locals h m' l' good.objects (ObjectStep.begins t task is start fits))
plain_keeps k p h m' l' (ObjectStep.forgets t n ns is) plain good =
    plain_so k p p.objects Nothing l' good tt tt refl (λ u. refl)
    (steps_keep_objects k p.objects p.mem p.locals h m' l' good.objects (ObjectStep.forgets t n ns is))
plain_keeps k p h m' l' (ObjectStep.others action other) plain good = absurd plain
