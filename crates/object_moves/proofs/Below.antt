-- What the laws of objects and of their blocks say of a large object just before the step that ends its grant.
use Rattle.std.proofs.Common.{◌≡◌, ℕ, zero, suc, ◌<◌, Bool, true, false, cond, eqb, Some, refl, sym, ap, subst}
use Rattle.std.proofs.Common.{◌∙◌, arith}
use Rattle.std.proofs.lemmas.Bool.{eqb-true}
use Rattle.pool_types.specs.declared.values.Grant.{Grant}
use Rattle.pool_words.specs.declared.words.Key.{Key}
use Rattle.pool_words.specs.Words.{marks}
use Rattle.word_codes.specs.declared.kinds.Kind.{Kind}
use Rattle.word_codes.specs.declared.marks.Mark.{Mark}
use Rattle.word_codes.specs.Marks.{mark_of}
use Rattle.public_list.specs.declared.ending.EndAt.{EndAt}
use Rattle.public_list.specs.declared.ending.EndCall.{EndCall}
use Rattle.public_list.specs.declared.ending.EndNext.{EndNext}
use Rattle.public_list.specs.Ending.{end_learn}
use Rattle.chain_laws.specs.Chains.{tally}
use Rattle.guard_laws.specs.Blocks.{Piece, Place, Use}
use Rattle.object_laws.specs.Objects.{Held, Task, core_in, granted_in}
use Rattle.object_laws.specs.Parts.{KindIs, MarkFits, TaskFits}
use Rattle.slab_laws.specs.Books.{Book}
use Rattle.use_laws.specs.Pools.{Pool, PoolGood}
use Rattle.use_laws.specs.Uses.{Purpose, PurposeFits, block_in}
use Rattle.pool_laws.specs.Wholes.{Whole, WholeGood}

-- what is left to do with an object fits
pub task_fits : (k : Key) (p : Pool) (seat : ℕ) (task : Task) → PoolGood k p → p.locals.tasks seat ≡ task
    → TaskFits k p.objects (core_in p.mem p.locals) seat task
task_fits k p seat task good is =
    subst (λ t. TaskFits k p.objects (core_in p.mem p.locals) seat t) is (good.objects.tasks_fit seat)

-- a mark that names a grant is that of an object that is held by it
granted_is_held : (h : Held) (grant : Grant) → MarkFits h (Mark.Granted grant) → granted_in h ≡ Some grant
granted_is_held Held.NotOut grant fits = absurd fits
granted_is_held Held.Private grant fits = absurd fits
granted_is_held Held.Listed grant fits = absurd fits
granted_is_held (Held.Object g) grant fits = let q : Mark.Granted grant ≡ Mark.Granted g = fits in cc
granted_is_held (Held.InHand o) grant fits = absurd fits
granted_is_held (Held.Ready o y m) grant fits = absurd fits
granted_is_held (Held.Large g y m) grant fits = let q : Mark.Granted grant ≡ Mark.Granted g = fits in cc

kind_is : (b : Book) (unit x n : ℕ) (h : Held) (grant : Grant) → granted_in h ≡ Some grant
    → KindIs b unit (Kind.Large x n) h → block_in h ≡ Piece.Got x n
kind_is b unit x n Held.NotOut grant some kind = absurd (cc)
kind_is b unit x n Held.Private grant some kind = absurd (cc)
kind_is b unit x n Held.Listed grant some kind = absurd (cc)
kind_is b unit x n (Held.Object g) grant some kind = absurd (cc)
kind_is b unit x n (Held.InHand o) grant some kind = absurd (cc)
kind_is b unit x n (Held.Ready o y m) grant some kind = absurd (cc)
kind_is b unit x n (Held.Large g y m) grant some kind = cc

won_is : (b : Bool) (lost : ℕ) → cond b EndNext.Large (EndNext.Goes (EndAt.Lost lost)) ≡ EndNext.Large → b ≡ true
won_is true lost is = refl
won_is false lost is = absurd (cc)

-- the grant that is ended is one of a large object, in the block that was noted
large_was : (k : Key) (p : Pool) (seat : ℕ) (call : EndCall) (x n : ℕ) → PoolGood k p
    → p.locals.tasks seat ≡ Task.Ending call (Kind.Large x n) EndAt.Large
    → end_learn call EndAt.Large (p.mem marks call.unit) ≡ EndNext.Large
    → block_in (p.objects.held call.unit) ≡ Piece.Got x n
large_was k p seat call x n good is ends =
    let note = (task_fits k p seat (Task.Ending call (Kind.Large x n) EndAt.Large) good is).1 in
    let held = p.objects.held call.unit in
    let same : p.mem marks call.unit ≡ call.mark = eqb-true (p.mem marks call.unit) call.mark
    (won_is (eqb (p.mem marks call.unit) call.mark) (p.mem marks call.unit) ends) in
    let reads : mark_of (p.mem marks call.unit) ≡ Mark.Granted note.seen.grant = ap mark_of same ∙ note.seen.names in
    let granted = granted_is_held held note.seen.grant
    (subst (λ mark. MarkFits held mark) reads (good.objects.marks_fit call.unit)) in
    kind_is p.locals.book call.unit x n held note.seen.grant granted
    (note.kind note.seen.grant note.seen.names granted)

-- and that block is at rest
rests_in : (p : Pool) (unit x n : ℕ) (purpose : Purpose) → purpose ≡ Purpose.Object unit
    → PurposeFits x (p.blocks.place x) (p.locals.book.keeper x) p.objects.held purpose
    → block_in (p.objects.held unit) ≡ Piece.Got x n → p.blocks.place x ≡ Place.Block x n Use.Elsewhere
rests_in p unit x n purpose is fits was =
    let block = subst (λ q. PurposeFits x (p.blocks.place x) (p.locals.book.keeper x) p.objects.held q) is fits in
    let long : block.granules ≡ n = let q : Piece.Got x block.granules ≡ Piece.Got x n = sym block.has ∙ was in cc in
    block.rests ∙ ap (λ m. Place.Block x m Use.Elsewhere) long

pub freed_rests : (k : Key) (p : Pool) (seat : ℕ) (call : EndCall) (x n : ℕ) → PoolGood k p
    → p.locals.tasks seat ≡ Task.Ending call (Kind.Large x n) EndAt.Large
    → end_learn call EndAt.Large (p.mem marks call.unit) ≡ EndNext.Large
    → p.blocks.place x ≡ Place.Block x n Use.Elsewhere
freed_rests k p seat call x n good is ends =
    let was = large_was k p seat call x n good is ends in
    rests_in p call.unit x n (p.purpose x) ((good.uses x).object call.unit n was) (good.uses x).fits was

none_of : (n : ℕ) → (0 < n → ⊥) → n ≡ 0
none_of zero none = refl
none_of (suc n) none = absurd (none (omega arith))

-- a block at rest is left of no chain that a seat took of the queue
pub rest_is_not_drained : (k : Key) (w : Whole) (seat x n : ℕ) → WholeGood k w
    → w.pool.blocks.place x ≡ Place.Block x n Use.Elsewhere → tally x (w.drained seat) ≡ 0
rest_is_not_drained k w seat x n good rests = none_of (tally x (w.drained seat)) (λ some.
    let held = good.free.queue.drained_is seat x some in absurd (let q = sym rests ∙ held in cc))
