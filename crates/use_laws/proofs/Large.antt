-- Blocks are made ready for large objects, and come back.
use Rattle.std.proofs.Common.{◌≡◌, ◌≢◌, ℕ, ◌+◌, ◌^◌, ◌<◌, ◌≤◌, cond, eqb, Bool, true, false, Some, refl}
use Rattle.std.proofs.Common.{sym, ap, subst, arith, ◌∙◌}
use Rattle.std.proofs.lemmas.Bool.{eqb-true}
use Rattle.pool_types.specs.declared.values.Grant.{Grant}
use Rattle.pool_words.specs.declared.words.Key.{Key}
use Rattle.pool_words.specs.declared.words.Word.{Word}
use Rattle.pool_words.specs.declared.actions.Action.TheVariants.{Store}
use Rattle.pool_words.specs.Words.{marks}
use Rattle.word_codes.specs.declared.kinds.Kind.{Kind}
use Rattle.word_codes.specs.Kinds.{kind_word, FitsKind}
use Rattle.word_codes.specs.Marks.{mark_of}
use Rattle.word_codes.specs.Places.{granule_of}
use Rattle.guards.specs.declared.win.Taking.{Taking}
use Rattle.public_list.specs.declared.ending.EndCall.{EndCall}
use Rattle.public_list.specs.declared.ending.EndAt.{EndAt}
use Rattle.public_list.specs.declared.ending.EndNext.{EndNext}
use Rattle.public_list.specs.Ending.{end_course, end_learn}
use Rattle.word_laws.specs.Memory.{put, after, found}
use Rattle.word_laws.proofs.CallerLemmas.{put-same, each}
use Rattle.guard_laws.specs.Blocks as guards
use Rattle.guard_laws.specs.Blocks.{Use, Place, Piece}
use Rattle.slab_laws.specs.Heaps.{slab_of}
use Rattle.slab_laws.specs.Steps.{SlabStep}
use Rattle.slab_laws.proofs.CallerLemmas.{steps_keep_slabs}
use Rattle.object_laws.specs.Objects.{Held, granted_in, core_in}
use Rattle.object_laws.specs.Objects.Task.{Away, Ending, Blocking}
use Rattle.object_laws.specs.Parts.{MarkFits, KindIs, TaskFits, ObjectsGood}
use Rattle.object_laws.specs.Rows.{with_task, shadow_ended, ended, shadow_granted}
use Rattle.object_laws.specs.Steps.{ObjectStep, CanBlock}
use Rattle.object_laws.proofs.CallerLemmas.{steps_keep_objects, fits_at, granted_is_held}
use Rattle.use_laws.specs.Uses.{Purpose, block_in}
use Rattle.use_laws.specs.Pools.{Pool, slabs_of, PoolGood, InHand}
use Rattle.use_laws.specs.After.{pool_block_freed, pool_readied}
use Rattle.use_laws.proofs.Blocks.{rests_so, held_so, guards_same}
use Rattle.use_laws.proofs.Uses.{uses_set, spare_so, held_not_rest}
use Rattle.use_laws.proofs.Bare.{there_kept, object_block, no_slab_at, none_held, blocks_in_hand_are_bare}
use Rattle.use_laws.proofs.Words.{kind_no_guard, slabs_same}
use Rattle.use_laws.proofs.Plain.{end_no_guard, end_no_slab}

pub not_at_rest : (seat : ℕ) (taking : Taking) → Use.Held seat taking ≢ Use.Elsewhere
not_at_rest t taking q = cc

-- a block in hand can be a large object's
can_block : (k : Key) (seat : ℕ) (p : Pool) (x n unit : ℕ) → InHand p seat x n Taking.ForUse
    → FitsKind (Kind.Large x n) → x ≤ granule_of unit → granule_of unit < x + n → PoolGood k p
    → CanBlock k p.objects.held p.locals.book unit x n
can_block k t p x n unit has fits low high good =
    let hand = Use.Held t Taking.ForUse in
    let ne = not_at_rest t Taking.ForUse in record {
      unit = let within = good.guards.parts.within x n hand has.block in omega arith;
      fits = fits;
      bare = λ v same. none_held k p x n v hand good has.block ne
          (subst (λ z. x ≤ z) (sym same) low) (subst (λ z. z < x + n) (sym same) high);
      slab = λ there. no_slab_at k p x n unit hand good has.block ne low high
          (there_kept (p.locals.book.keeper (slab_of unit)) there);
      granule = (blocks_in_hand_are_bare k p x n hand good has.block ne).slabs (granule_of unit) low high;
    }

pub readies_keeps : (k : Key) (seat : ℕ) (p : Pool) (x n unit : ℕ) → InHand p seat x n Taking.ForUse
    → p.locals.tasks seat ≡ Away → FitsKind (Kind.Large x n) → x ≤ granule_of unit → granule_of unit < x + n
    → p.locals.lasts seat + 1 < 2 ^ 55 → PoolGood k p
    → PoolGood k (pool_readied k seat x n unit p)
readies_keeps k t p x n unit has away fits low high few good =
    let action = Store (Word.Kind (granule_of unit)) (kind_word (Kind.Large x n)) in
    let m' = after k p.mem action in
    let now = Held.Ready t x n in
    let hand = Use.Held t Taking.ForUse in
    let can = can_block k t p x n unit has fits low high good in
    let none = can.bare unit refl in
    let spare = spare_so x (p.blocks.place x) (p.locals.book.keeper x) p.objects.held (p.purpose x)
    (held_not_rest (p.blocks.place x) x n hand has.block (not_at_rest t Taking.ForUse)) (good.uses x) in
    record {
      guards = rests_so k t x n p.blocks m' p.tasks
          (guards_same k p.blocks p.mem p.tasks action (kind_no_guard (granule_of unit)) good.guards)
          has.away has.block;
      slabs = steps_keep_slabs k (slabs_of p) (record (slabs_of p) { mem = m' }) good.slabs
          (SlabStep.large (granule_of unit) x n can.granule fits);
      objects = steps_keep_objects k p.objects p.mem p.locals (shadow_granted now unit p.objects) m'
          (with_task t (Blocking unit x n) p.locals) good.objects (ObjectStep.readies t unit x n away can few);
      uses = uses_set p.blocks.place p.locals.book.keeper p.locals.book.keeper p.objects.held
          (put p.objects.held unit now) p.purpose x n hand Use.Elsewhere (Purpose.Object unit)
          good.guards.parts.whole has.block (record {
            kept = λ y ne is. is;
            was_kept = λ y ne is. is;
            has = λ y u m ne. each (λ u h. block_in (p.objects.held u) ≡ Piece.Got y m → block_in h ≡ Piece.Got y m)
                p.objects.held unit now (λ u _ is. is)
                (λ is. let q : Piece.NoPiece ≡ Piece.Got y m = sym (ap block_in none) ∙ is in absurd (cc)) u;
            had = λ y u m ne. each (λ u h. block_in h ≡ Piece.Got y m → block_in (p.objects.held u) ≡ Piece.Got y m)
                p.objects.held unit now (λ u _ is. is) (λ is. absurd (ne (cc))) u;
          }) (record {
            fits = record {
              granules = n;
              rests = refl;
              has = ap block_in (put-same p.objects.held unit now);
              from = low;
              below = high;
            };
            slab = λ is. absurd (spare.slab is);
            object = λ u m. each (λ u h. block_in h ≡ Piece.Got x m → Purpose.Object unit ≡ Purpose.Object u)
                p.objects.held unit now (λ u _ is. absurd (spare.object u m is)) (λ _. refl) u;
          }) good.uses;
    }

-- the grant that is ended is one of a large object, in the block that was noted
large_was : (k : Key) (p : Pool) (seat : ℕ) (call : EndCall) (x n : ℕ) (at : EndAt)
    → TaskFits k p.objects (core_in p.mem p.locals) seat (Ending call (Kind.Large x n) at)
    → end_learn call at (found p.mem (end_course call at)) ≡ EndNext.Large → PoolGood k p
    → block_in (p.objects.held call.unit) ≡ Piece.Got x n
large_was k p t call x n EndAt.Own task is good = by (eqb (p.mem marks call.unit) call.mark) is
  where
    by : (c : Bool) → cond c EndNext.Own (EndNext.Goes (EndAt.Lost (p.mem marks call.unit))) ≡ EndNext.Large
        → block_in (p.objects.held call.unit) ≡ Piece.Got x n
    by true q = absurd (cc)
    by false q = absurd (cc)
large_was k p t call x n EndAt.Other task is good = by (eqb (p.mem marks call.unit) call.mark) is
  where
    by : (c : Bool) → cond c EndNext.Other (EndNext.Goes (EndAt.Lost (p.mem marks call.unit))) ≡ EndNext.Large
        → block_in (p.objects.held call.unit) ≡ Piece.Got x n
    by true q = absurd (cc)
    by false q = absurd (cc)
large_was k p t call x n (EndAt.Lost m) task is good = absurd (cc)
large_was k p t call x n EndAt.Large task is good = by (eqb (p.mem marks call.unit) call.mark) refl is
  where
    kind_is : (h : Held) (grant : Grant) → granted_in h ≡ Some grant
        → KindIs p.locals.book call.unit (Kind.Large x n) h → block_in h ≡ Piece.Got x n
    kind_is Held.NotOut grant some kind = absurd (cc)
    kind_is Held.Private grant some kind = absurd (cc)
    kind_is Held.Listed grant some kind = absurd (cc)
    kind_is (Held.Object g) grant some kind = absurd (cc)
    kind_is (Held.InHand o) grant some kind = absurd (cc)
    kind_is (Held.Ready o y m) grant some kind = absurd (cc)
    kind_is (Held.Large g y m) grant some kind = cc

    by : (c : Bool) → eqb (p.mem marks call.unit) call.mark ≡ c
        → cond c EndNext.Large (EndNext.Goes (EndAt.Lost (p.mem marks call.unit))) ≡ EndNext.Large
        → block_in (p.objects.held call.unit) ≡ Piece.Got x n
    by false lost q = absurd (cc)
    by true won q =
        let names = task.1.seen.names in
        let grant = task.1.seen.grant in
        let reads = ap mark_of (eqb-true (p.mem marks call.unit) call.mark won) ∙ names in
        let held = granted_is_held (p.objects.held call.unit) grant
        (subst (MarkFits (p.objects.held call.unit)) reads (good.objects.marks_fit call.unit)) in
        kind_is (p.objects.held call.unit) grant held (task.1.kind grant names held)

-- and that block is at rest, for this object
pub freed_rests : (k : Key) (p : Pool) (seat : ℕ) (call : EndCall) (x n : ℕ) (at : EndAt)
    → p.locals.tasks seat ≡ Ending call (Kind.Large x n) at
    → end_learn call at (found p.mem (end_course call at)) ≡ EndNext.Large → PoolGood k p
    → (block_in (p.objects.held call.unit) ≡ Piece.Got x n) × (p.blocks.place x ≡ Place.Block x n Use.Elsewhere)
    × (p.purpose x ≡ Purpose.Object call.unit)
freed_rests k p t call x n at is ends good =
    let task = fits_at k p.objects (core_in p.mem p.locals) t (Ending call (Kind.Large x n) at) is good.objects in
    let was = large_was k p t call x n at task ends good in
    let block =
    object_block p.blocks.place p.locals.book.keeper p.objects.held p.purpose call.unit x n good.uses was in
    let long : block.granules ≡ n = let q : Piece.Got x block.granules ≡ Piece.Got x n = sym block.has ∙ was in cc in
    (was, block.rests ∙ ap (λ z. Place.Block x z Use.Elsewhere) long, (good.uses x).object call.unit n was)

pub frees_block_keeps : (k : Key) (seat : ℕ) (p : Pool) (call : EndCall) (x n : ℕ) (at : EndAt) (taking : Taking)
    → seat < 64 → p.locals.tasks seat ≡ Ending call (Kind.Large x n) at
    → end_learn call at (found p.mem (end_course call at)) ≡ EndNext.Large → p.tasks seat ≡ guards.Task.Away
    → PoolGood k p
    → PoolGood k (pool_block_freed k seat call x n at taking p)
frees_block_keeps k t p call x n at taking few is ends away good =
    let m' = after k p.mem (end_course call at) in
    let kind = Kind.Large x n in
    let h = shadow_ended t call EndNext.Large p.objects in
    let l' = ended t call kind EndNext.Large p.locals in
    let freed = freed_rests k p t call x n at is ends good in
    let was = freed.0 in
    let rests = freed.1 in
    let purpose = freed.2 in
    let good' : ObjectsGood k h (core_in m' l') =
    subst (λ (q : EndNext). ObjectsGood k (shadow_ended t call q p.objects)
    (core_in m' (ended t call kind q p.locals)))
    ends (steps_keep_objects k p.objects p.mem p.locals
    (shadow_ended t call (end_learn call at (found p.mem (end_course call at))) p.objects) m'
    (ended t call kind (end_learn call at (found p.mem (end_course call at))) p.locals) good.objects
    (ObjectStep.ends t call kind at few is)) in
    record {
      guards = held_so k t x n taking p.blocks m' p.tasks
          (guards_same k p.blocks p.mem p.tasks (end_course call at) (end_no_guard call at) good.guards) away rests;
      slabs = slabs_same k (slabs_of p) (end_course call at) (end_no_slab call at) good.slabs;
      objects = good';
      uses = uses_set p.blocks.place p.locals.book.keeper p.locals.book.keeper p.objects.held
          (put p.objects.held call.unit Held.NotOut) p.purpose x n Use.Elsewhere (Use.Held t taking) Purpose.Spare
          good.guards.parts.whole rests (record {
            kept = λ y ne is. is;
            was_kept = λ y ne is. is;
            has = λ y u m ne. each (λ u h. block_in (p.objects.held u) ≡ Piece.Got y m → block_in h ≡ Piece.Got y m)
                p.objects.held call.unit Held.NotOut (λ u _ is. is)
                (λ is. absurd (ne (let q : Piece.Got y m ≡ Piece.Got x n = sym is ∙ was in cc))) u;
            had = λ y u m ne. each (λ u h. block_in h ≡ Piece.Got y m → block_in (p.objects.held u) ≡ Piece.Got y m)
                p.objects.held call.unit Held.NotOut (λ u _ is. is) (λ is. absurd (cc)) u;
          }) (record {
            fits = λ m q. cc;
            slab = λ kept. absurd (let q : Purpose.Object call.unit ≡ Purpose.Slab = sym purpose
                ∙ (good.uses x).slab kept in cc);
            object = λ u m. each (λ u h. block_in h ≡ Piece.Got x m → Purpose.Spare ≡ Purpose.Object u)
                p.objects.held call.unit Held.NotOut
                (λ u ne is. absurd (ne (let q : Purpose.Object call.unit ≡ Purpose.Object u = sym purpose
                ∙ (good.uses x).object u m is in cc))) (λ is. absurd (cc)) u;
          }) good.uses;
    }
