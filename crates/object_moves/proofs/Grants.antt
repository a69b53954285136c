-- Grants: of an object of a slab, which is its newest private one or the next of its rest, and of a large object.
use Rattle.std.proofs.Common.{◌≡◌, ℕ, ◌+◌, Option, Some, None, true, refl, sym, ap, subst, ◌∙◌, arith}
use Rattle.pool_words.specs.declared.actions.Action.TheVariants.{Store}
use Rattle.pool_words.specs.declared.words.Key.{Key}
use Rattle.pool_words.specs.declared.words.Word.{Word}
use Rattle.word_codes.specs.declared.kinds.Kind.{Kind}
use Rattle.word_codes.specs.Marks.{mark_of}
use Rattle.heap_slabs.specs.declared.records.HeapSlab.{HeapSlab}
use Rattle.heap_slabs.specs.Slabs.{after_take_of, record_at}
use Rattle.word_laws.specs.Memory.{after, found}
use Rattle.word_laws.proofs.CallerLemmas.{put_here}
use Rattle.slab_laws.specs.Books.{Keeper, record_of}
use Rattle.object_laws.specs.Objects.{Task, behind}
use Rattle.object_laws.specs.Rows.{with_task}
use Rattle.object_laws.specs.Steps.{ObjectStep}
use Rattle.use_laws.specs.After.{pool_rested, pool_taken}
use Rattle.use_laws.specs.Pools.{Pool, PoolGood}
use Rattle.use_laws.specs.Steps.{PoolStep}
use Rattle.step_local.specs.declared.frames.At.{At}
use Rattle.step_local.specs.declared.frames.Call.{Call}
use Rattle.step_local.specs.declared.frames.Local.{Local}
use Rattle.step_local.specs.declared.frames.Served.{Served}
use Rattle.step_local.specs.declared.frames.SmallAt.{SmallAt}
use Rattle.step_local.specs.Answers.{kind_got}
use Rattle.step_local.specs.Course.{course}
use Rattle.step_local.specs.Slabs.{class_of_served}
use Rattle.step_fits.specs.Small.{IsGiving, IsSmall}
use Rattle.step_fits.proofs.CallerLemmas.{grants_have_numbers}
use Rattle.heap_tasks.proofs.CallerLemmas.{grants_are_numbered}
use Rattle.pool_laws.specs.Changes.{with_pool}
use Rattle.pool_laws.specs.Steps.{WholeStep}
use Rattle.seat_ties.specs.Turns.{seen_in, stays, steps_on}
use Rattle.object_moves.specs.Laws.{SmallTurns}
use Rattle.object_moves.specs.Positions.{IsTakeAt}
use Rattle.object_moves.proofs.Below.{task_fits}
use Rattle.object_moves.proofs.Seats.{TurnedAt, free_of, grant_noted, hands_stay, seat_named, uses_leave}

-- the slab's class is the one that is served
abbrev class_in : Option HeapSlab → ℕ
class_in (Some kept) = kept.class
class_in None = 0

class_served : (k : Key) (p : Pool) (l : Local) (slab : ℕ) (kept : HeapSlab) → PoolGood k p
    → p.kept l.seat ≡ l.heap.slabs → p.locals.book.keeper slab ≡ Keeper.By l.seat
    → IsGiving l.heap.slabs slab (class_of_served l.call.served) kept
    → p.locals.book.classes slab ≡ class_of_served l.call.served
class_served k p l slab kept good same by giving =
    let there : record_at l.heap.slabs.records slab ≡ Some (record_of p.locals.book slab) =
    subst (λ s. record_at s.records slab ≡ Some (record_of p.locals.book slab)) same
    (good.slabs.records.mine slab l.seat by) in
    ap class_in (sym there ∙ giving.there) ∙ giving.class'

slab_got : (c : Call) (served : Served) (class : ℕ) → IsSmall served → class ≡ class_of_served served
    → Kind.Slab class ≡ kind_got c served
slab_got c (Served.Small class') class is same = ap (λ x. Kind.Slab x) same
slab_got c (Served.Large granules alignment) class is same = absurd is

-- the mark of the newest private object is read, to know the one behind it
read_turn : (slab head : ℕ) → TurnedAt (At.Small (SmallAt.Behind slab head))
read_turn slab head k w l0 good tied calm word suits =
    let l : Local = record l0 { at = At.Small (SmallAt.Behind slab head) } in
    let s = seen_in w l in
    let next : Task = Task.Taking slab head (behind (mark_of (found w.pool.mem (course l)))) in
    let locals = with_task l.seat next w.pool.locals in
    let p : Pool = record w.pool { locals = locals } in
    record {
      later = with_pool p w;
      run = steps_on stays (WholeStep.uses p
          (PoolStep.objects w.pool.objects w.pool.mem locals (ObjectStep.reads l.seat slab head tied.tasks.objects) tt)
          refl (free_of w l.seat tied.tasks.jobs tied.tasks.queue));
      office = refl;
      words = refl;
      here = uses_leave k w p l tied word suits (record {
        guards = refl;
        bins = refl;
        queue = refl;
        mails = refl;
        orphans = refl;
        jobs = refl;
        spares = refl;
        desk = refl;
        else = tt;
      }) refl (record {
        objects = put_here w.pool.locals.tasks l.seat l.seat next refl;
        kept = tied.heap.kept;
        cached = tied.heap.cached;
        last = tied.heap.last;
        notes = tied.notes;
      }) (hands_stay w.pool.blocks.place (w.drained l.seat) l.seat l s tied.says.hands suits.step refl tied.hands);
    }

private_turn : (slab head : ℕ) (below : Option ℕ) → TurnedAt (At.Small (SmallAt.Private slab head below))
private_turn slab head below k w l0 good tied calm word suits =
    let l : Local = record l0 { at = At.Small (SmallAt.Private slab head below) } in
    let s = seen_in w l in
    let pool : Pool = w.pool in
    let good' : PoolGood k pool = good.post.pool' in
    let fits = tied.says.fits in
    let few = seat_named k l.seat tied.says.number in
    let numbered = grants_are_numbered l pool.locals tied.heap.last
    (let left = grants_have_numbers k l.seat true l head fits refl in omega arith) in
    let by = (task_fits k pool l.seat (Task.Taking slab head below) good' tied.tasks.objects).0 in
    let gives = fits.place.0.2 refl in
    let class = class_served k pool l slab gives.0 good' tied.heap.kept by gives.1 in
    let p : Pool = pool_taken k l.seat slab head below pool in
    record {
      later = with_pool p w;
      run = steps_on stays (WholeStep.uses p (PoolStep.takes slab head below few tied.tasks.objects) tt
          (free_of w l.seat tied.tasks.jobs tied.tasks.queue));
      office = refl;
      words = ap (λ mark. after k pool.mem (Store (Word.Mark head) mark)) (sym numbered.word);
      here = uses_leave k w p l tied word suits (record {
        guards = refl;
        bins = refl;
        queue = refl;
        mails = refl;
        orphans = refl;
        jobs = refl;
        spares = refl;
        desk = refl;
        else = tt;
      }) refl (record {
        objects = put_here pool.locals.tasks l.seat l.seat Task.Away refl;
        kept = put_here pool.kept l.seat l.seat (after_take_of (pool.kept l.seat) slab below) refl
            ∙ ap (λ kept. after_take_of kept slab below) tied.heap.kept;
        cached = tied.heap.cached;
        last = put_here pool.locals.lasts l.seat l.seat (pool.locals.lasts l.seat + 1) refl ∙ sym numbered.number;
        notes = grant_noted l pool.locals head (Kind.Slab (pool.locals.book.classes slab)) numbered.word
            (slab_got l.call l.call.served (pool.locals.book.classes slab) fits.place.0.0.1 class) tied.notes;
      }) (hands_stay pool.blocks.place (w.drained l.seat) l.seat l s tied.says.hands suits.step refl tied.hands);
    }

rest_turn : (slab unit : ℕ) → TurnedAt (At.Small (SmallAt.Rest slab unit))
rest_turn slab unit k w l0 good tied calm word suits =
    let l : Local = record l0 { at = At.Small (SmallAt.Rest slab unit) } in
    let s = seen_in w l in
    let pool : Pool = w.pool in
    let good' : PoolGood k pool = good.post.pool' in
    let fits = tied.says.fits in
    let few = seat_named k l.seat tied.says.number in
    let numbered = grants_are_numbered l pool.locals tied.heap.last
    (let left = grants_have_numbers k l.seat true l unit fits refl in omega arith) in
    let by = (task_fits k pool l.seat (Task.Resting slab unit) good' tied.tasks.objects).0 in
    let gives = fits.place.0.2 refl in
    let class = class_served k pool l slab gives.0 good' tied.heap.kept by gives.1 in
    let p : Pool = pool_rested k l.seat slab unit pool in
    record {
      later = with_pool p w;
      run = steps_on stays (WholeStep.uses p (PoolStep.rests slab unit few tied.tasks.objects) tt
          (free_of w l.seat tied.tasks.jobs tied.tasks.queue));
      office = refl;
      words = ap (λ mark. after k pool.mem (Store (Word.Mark unit) mark)) (sym numbered.word);
      here = uses_leave k w p l tied word suits (record {
        guards = refl;
        bins = refl;
        queue = refl;
        mails = refl;
        orphans = refl;
        jobs = refl;
        spares = refl;
        desk = refl;
        else = tt;
      }) refl (record {
        objects = put_here pool.locals.tasks l.seat l.seat Task.Away refl;
        kept = put_here pool.kept l.seat l.seat (after_take_of (pool.kept l.seat) slab None) refl
            ∙ ap (λ kept. after_take_of kept slab None) tied.heap.kept;
        cached = tied.heap.cached;
        last = put_here pool.locals.lasts l.seat l.seat (pool.locals.lasts l.seat + 1) refl ∙ sym numbered.number;
        notes = grant_noted l pool.locals unit (Kind.Slab (pool.locals.book.classes slab)) numbered.word
            (slab_got l.call l.call.served (pool.locals.book.classes slab) fits.place.0.0.1 class) tied.notes;
      }) (hands_stay pool.blocks.place (w.drained l.seat) l.seat l s tied.says.hands suits.step refl tied.hands);
    }

take_at : (at : At) → IsTakeAt at → TurnedAt at
take_at (At.Small (SmallAt.Behind slab head)) is = read_turn slab head
take_at (At.Small (SmallAt.Private slab head below)) is = private_turn slab head below
take_at (At.Small (SmallAt.Rest slab unit)) is = rest_turn slab unit
take_at (At.Small _) is = λ k w l good tied calm word suits. absurd is
take_at _ is = λ k w l good tied calm word suits. absurd is

pub small_turns : SmallTurns
small_turns k w l good tied calm word suits is = take_at l.at is k w l good tied calm word suits
