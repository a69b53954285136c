-- What the laws of slabs, objects and their blocks say of a block just before it comes into a hand.
use Rattle.std.proofs.Common.{◌≡◌, ℕ, zero, suc, ◌<◌, Bool, true, false, cond, eqb, Some, refl, sym, ap, subst, List}
use Rattle.std.proofs.Common.{[], ◌∷◌}
use Rattle.std.proofs.Common.{◌∙◌, arith}
use Rattle.std.proofs.lemmas.Bool.{eqb-true}
use Rattle.pool_types.specs.declared.values.Grant.{Grant}
use Rattle.pool_words.specs.declared.words.Key.{Key}
use Rattle.pool_words.specs.Words.{marks}
use Rattle.word_codes.specs.declared.kinds.Kind.{Kind}
use Rattle.word_codes.specs.declared.marks.Mark.{Mark}
use Rattle.word_codes.specs.Marks.{mark_of}
use Rattle.public_list.specs.declared.ending.EndAt.{EndAt}
use Rattle.public_list.specs.declared.ending.EndCall.{EndCall}
use Rattle.public_list.specs.declared.ending.EndNext.{EndNext}
use Rattle.public_list.specs.Ending.{end_course, end_learn}
use Rattle.chain_laws.specs.Chains.{tally}
use Rattle.guard_laws.specs.Blocks.{Piece, Place, Use}
use Rattle.object_laws.specs.Objects.{Held, Task, core_in, granted_in}
use Rattle.object_laws.specs.Parts.{KindIs, MarkFits, TaskFits}
use Rattle.slab_laws.specs.Books.{Book, Keeper}
use Rattle.slab_laws.specs.Heaps.{is_cached}
use Rattle.word_laws.specs.Memory.{found}
use Rattle.chain_laws.proofs.CallerLemmas.{tally-here}
use Rattle.std.specs.Prelude.{slice_get}
use Rattle.use_laws.specs.Pools.{Pool, PoolGood}
use Rattle.use_laws.specs.Uses.{IsKept, Purpose, PurposeFits, block_in}

-- what is left to do with an object fits
pub task_fits : (k : Key) (p : Pool) (seat : ℕ) (task : Task) → PoolGood k p → p.locals.tasks seat ≡ task
    → TaskFits k p.objects (core_in p.mem p.locals) seat task
task_fits k p seat task good is =
    subst (λ t. TaskFits k p.objects (core_in p.mem p.locals) seat t) is (good.objects.tasks_fit seat)

-- a mark that names a grant is that of an object that is held by it
granted_is_held : (h : Held) (grant : Grant) → MarkFits h (Mark.Granted grant) → granted_in h ≡ Some grant
granted_is_held Held.NotOut grant fits = absurd fits
granted_is_held Held.Private grant fits = absurd fits
granted_is_held Held.Listed grant fits = absurd fits
granted_is_held (Held.Object g) grant fits = let q : Mark.Granted grant ≡ Mark.Granted g = fits in cc
granted_is_held (Held.InHand o) grant fits = absurd fits
granted_is_held (Held.Ready o y m) grant fits = absurd fits
granted_is_held (Held.Large g y m) grant fits = let q : Mark.Granted grant ≡ Mark.Granted g = fits in cc

kind_is : (b : Book) (unit x n : ℕ) (h : Held) (grant : Grant) → granted_in h ≡ Some grant
    → KindIs b unit (Kind.Large x n) h → block_in h ≡ Piece.Got x n
kind_is b unit x n Held.NotOut grant some kind = absurd (cc)
kind_is b unit x n Held.Private grant some kind = absurd (cc)
kind_is b unit x n Held.Listed grant some kind = absurd (cc)
kind_is b unit x n (Held.Object g) grant some kind = absurd (cc)
kind_is b unit x n (Held.InHand o) grant some kind = absurd (cc)
kind_is b unit x n (Held.Ready o y m) grant some kind = absurd (cc)
kind_is b unit x n (Held.Large g y m) grant some kind = cc

won_is : (b : Bool) (lost : ℕ) → cond b EndNext.Large (EndNext.Goes (EndAt.Lost lost)) ≡ EndNext.Large → b ≡ true
won_is true lost is = refl
won_is false lost is = absurd (cc)

-- the grant that is ended is one of a large object, in the block that was noted
large_was : (k : Key) (p : Pool) (seat : ℕ) (call : EndCall) (x n : ℕ) → PoolGood k p
    → p.locals.tasks seat ≡ Task.Ending call (Kind.Large x n) EndAt.Large
    → end_learn call EndAt.Large (p.mem marks call.unit) ≡ EndNext.Large
    → block_in (p.objects.held call.unit) ≡ Piece.Got x n
large_was k p seat call x n good is ends =
    let note = (task_fits k p seat (Task.Ending call (Kind.Large x n) EndAt.Large) good is).1 in
    let held = p.objects.held call.unit in
    let same : p.mem marks call.unit ≡ call.mark = eqb-true (p.mem marks call.unit) call.mark
    (won_is (eqb (p.mem marks call.unit) call.mark) (p.mem marks call.unit) ends) in
    let reads : mark_of (p.mem marks call.unit) ≡ Mark.Granted note.seen.grant = ap mark_of same ∙ note.seen.names in
    let granted = granted_is_held held note.seen.grant
    (subst (λ mark. MarkFits held mark) reads (good.objects.marks_fit call.unit)) in
    kind_is p.locals.book call.unit x n held note.seen.grant granted
    (note.kind note.seen.grant note.seen.names granted)

-- and that block is at rest
rests_in : (p : Pool) (unit x n : ℕ) (purpose : Purpose) → purpose ≡ Purpose.Object unit
    → PurposeFits x (p.blocks.place x) (p.locals.book.keeper x) p.objects.held purpose
    → block_in (p.objects.held unit) ≡ Piece.Got x n → p.blocks.place x ≡ Place.Block x n Use.Elsewhere
rests_in p unit x n purpose is fits was =
    let block = subst (λ q. PurposeFits x (p.blocks.place x) (p.locals.book.keeper x) p.objects.held q) is fits in
    let long : block.granules ≡ n = let q : Piece.Got x block.granules ≡ Piece.Got x n = sym block.has ∙ was in cc in
    block.rests ∙ ap (λ m. Place.Block x m Use.Elsewhere) long

pub freed_rests : (k : Key) (p : Pool) (seat : ℕ) (call : EndCall) (x n : ℕ) → PoolGood k p
    → p.locals.tasks seat ≡ Task.Ending call (Kind.Large x n) EndAt.Large
    → end_learn call EndAt.Large (p.mem marks call.unit) ≡ EndNext.Large
    → p.blocks.place x ≡ Place.Block x n Use.Elsewhere
freed_rests k p seat call x n good is ends =
    let was = large_was k p seat call x n good is ends in
    rests_in p call.unit x n (p.purpose x) ((good.uses x).object call.unit n was) (good.uses x).fits was

lost_is : (b : Bool) (now : EndNext) (lost : ℕ) → cond b now (EndNext.Goes (EndAt.Lost lost)) ≡ EndNext.Large
    → now ≡ EndNext.Large
lost_is true now lost is = is
lost_is false now lost is = absurd (cc)

-- so is the block of each grant that is ended
pub freed_at : (k : Key) (p : Pool) (seat : ℕ) (call : EndCall) (x n : ℕ) (at : EndAt) → PoolGood k p
    → p.locals.tasks seat ≡ Task.Ending call (Kind.Large x n) at
    → end_learn call at (found p.mem (end_course call at)) ≡ EndNext.Large
    → p.blocks.place x ≡ Place.Block x n Use.Elsewhere
freed_at k p seat call x n EndAt.Own good is ends =
    absurd (let q = lost_is (eqb (p.mem marks call.unit) call.mark) EndNext.Own (p.mem marks call.unit) ends in cc)
freed_at k p seat call x n EndAt.Other good is ends =
    absurd (let q = lost_is (eqb (p.mem marks call.unit) call.mark) EndNext.Other (p.mem marks call.unit) ends in cc)
freed_at k p seat call x n EndAt.Large good is ends = freed_rests k p seat call x n good is ends
freed_at k p seat call x n (EndAt.Lost mark) good is ends = absurd (cc)

-- a slab that is kept or cached has its block
pub kept_rests : (k : Key) (p : Pool) (e : ℕ) → PoolGood k p → IsKept (p.locals.book.keeper e)
    → p.blocks.place e ≡ Place.Block e 2 Use.Elsewhere
kept_rests k p e good kept =
    (subst (PurposeFits e (p.blocks.place e) (p.locals.book.keeper e) p.objects.held) ((good.uses e).slab kept)
    (good.uses e).fits).0

is_his : (q : Keeper) (seat : ℕ) → 0 < is_cached seat q → IsKept q
is_his Keeper.Nobody seat some = absurd (omega arith)
is_his (Keeper.By o) seat some = absurd (omega arith)
is_his Keeper.Orphan seat some = absurd (omega arith)
is_his (Keeper.Adopting o) seat some = absurd (omega arith)
is_his (Keeper.Cached o) seat some = tt

in_items : (xs : List ℕ) (i e : ℕ) → slice_get xs i ≡ Some e → 0 < tally e xs
in_items [] i e is = absurd (cc)
in_items (x ∷ xs) zero e is =
    let same : x ≡ e = cc in let here = tally-here e xs in
    subst (λ y. 0 < tally e (y ∷ xs)) (sym same) (omega arith)
in_items (x ∷ xs) (suc i) e is = let rest = in_items xs i e is in omega arith

pub cached_rests : (k : Key) (p : Pool) (seat e i : ℕ) → PoolGood k p → slice_get (p.cached seat).items i ≡ Some e
    → p.blocks.place e ≡ Place.Block e 2 Use.Elsewhere
cached_rests k p seat e i good is = kept_rests k p e good (is_his (p.locals.book.keeper e) seat
    (let some = in_items (p.cached seat).items i e is in let n = good.slabs.caches seat e in omega arith))
