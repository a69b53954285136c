-- Ends of grants: of an object of a slab of the seat's own, of one of another's, and of a large object.
use Rattle.std.proofs.Common.{◌≡◌, ◌⊎◌, ℕ, ◌+◌, ◌<◌, ◌≤◌, List, [], ◌∷◌, Bool, true, false, cond, eqb}
use Rattle.std.proofs.Common.{refl, sym, ap, subst, ◌∙◌, arith}
use Rattle.std.proofs.lemmas.Bool.Decides.{nat_tests}
use Rattle.pool_words.specs.declared.actions.Action.{Action}
use Rattle.pool_words.specs.declared.actions.Seen.{Seen}
use Rattle.pool_words.specs.declared.words.Key.{Key}
use Rattle.pool_words.specs.Actions.{word_seen}
use Rattle.word_codes.specs.declared.kinds.Kind.{Kind}
use Rattle.guards.specs.declared.win.Taking.{Taking}
use Rattle.heap_slabs.specs.Slabs.{after_free_of}
use Rattle.public_list.specs.declared.ending.EndAt.{EndAt}
use Rattle.public_list.specs.declared.ending.EndCall.{EndCall}
use Rattle.public_list.specs.declared.ending.EndNext.{EndNext}
use Rattle.public_list.specs.Ending.{end_course, end_learn}
use Rattle.word_laws.specs.Memory.{Mem, after, found}
use Rattle.word_laws.proofs.CallerLemmas.{put_here}
use Rattle.guard_laws.specs.Blocks.{Place, Use, put_range}
use Rattle.object_laws.specs.Objects.{Locals, Shadow, Task}
use Rattle.object_laws.specs.Parts.{IsLargeKind}
use Rattle.object_laws.specs.Rows.{ended, shadow_ended}
use Rattle.object_laws.specs.Steps.{ObjectStep}
use Rattle.use_laws.specs.After.{pool_block_freed, pool_freed}
use Rattle.use_laws.specs.Pools.{Pool, PoolGood}
use Rattle.use_laws.specs.Steps.{IsPlainEnd, PoolStep}
use Rattle.step_local.specs.declared.frames.At.{At}
use Rattle.step_local.specs.declared.frames.Local.{Local}
use Rattle.step_local.specs.Answers.{end_call, ended_object, slab_of}
use Rattle.step_local.specs.Course.{course}
use Rattle.step_local.specs.Learn.{learn}
use Rattle.step_local.specs.Objects.{block_in}
use Rattle.step_runs.specs.Places.{has_word}
use Rattle.step_tasks.specs.Objects.{ended_task}
use Rattle.step_tasks.proofs.CallerLemmas.{rows_leave_object_tasks}
use Rattle.heap_tasks.specs.Heaps.{kept_ended, kept_of}
use Rattle.heap_tasks.proofs.CallerLemmas.{rows_leave_notes}
use Rattle.hand_blocks.specs.Changes.{Change, HandsLead, changes_of, ended_changes}
use Rattle.hand_blocks.specs.Hands.{Hand, hand, hands_of}
use Rattle.hand_blocks.proofs.CallerLemmas.{turns_change_hands}
use Rattle.pool_laws.specs.Changes.{with_pool}
use Rattle.pool_laws.specs.Steps.{WholeStep}
use Rattle.pool_laws.specs.Wholes.{Whole, WholeGood}
use Rattle.seat_hands.proofs.CallerLemmas.{hands_come, others_are_none}
use Rattle.seat_ties.specs.Left.{Suits}
use Rattle.seat_ties.specs.Ties.{HandsTied, SeatTied}
use Rattle.seat_ties.specs.Turns.{StepLeaves, seen_in, stays, steps_on}
use Rattle.object_moves.specs.Laws.{EndsTurn}
use Rattle.object_moves.specs.Positions.{IsEndAt}
use Rattle.object_moves.proofs.Below.{freed_rests, rest_is_not_drained, task_fits}
use Rattle.object_moves.proofs.Seats.{TurnedAt, free_of, hands_stay, seat_named, uses_leave, word_found}

-- the turn of each local that ends a grant, where its step comes to this
abbrev EndsTo : EndAt → EndNext → Type 0
EndsTo at next = (k : Key) (w : Whole) (l : Local) → WholeGood k w
    → SeatTied k w l.seat (record l { at = At.End at })
    → has_word (course (record l { at = At.End at })) ≡ true
    → Suits k (record l { at = At.End at }) (seen_in w (record l { at = At.End at }))
    → end_learn (end_call l) at (found w.pool.mem (end_course (end_call l) at)) ≡ next
    → StepLeaves k w (record l { at = At.End at })

-- the end of a grant changes no number of one
ended_lasts : (seat : ℕ) (call : EndCall) (kind : Kind) (next : EndNext) (locals : Locals)
    → (ended seat call kind next locals).lasts ≡ locals.lasts
ended_lasts seat call kind (EndNext.Goes at) locals = refl
ended_lasts seat call kind EndNext.Own locals = refl
ended_lasts seat call kind EndNext.Other locals = refl
ended_lasts seat call kind EndNext.Large locals = refl
ended_lasts seat call kind (EndNext.NotHeld found) locals = refl

kept_plain : (l : Local) (next : EndNext) → IsPlainEnd next → kept_of l ≡ kept_ended l next
kept_plain l (EndNext.Goes at) plain = refl
kept_plain l EndNext.Own plain = absurd plain
kept_plain l EndNext.Other plain = refl
kept_plain l EndNext.Large plain = absurd plain
kept_plain l (EndNext.NotHeld found) plain = refl

plain_changes : (l : Local) (next : EndNext) → IsPlainEnd next
    → ended_changes (block_in (ended_object l).kind) next ≡ []
plain_changes l (EndNext.Goes at) plain = refl
plain_changes l EndNext.Own plain = refl
plain_changes l EndNext.Other plain = refl
plain_changes l EndNext.Large plain = absurd plain
plain_changes l (EndNext.NotHeld found) plain = refl

ends_plain : (at : EndAt) (next : EndNext) → IsPlainEnd next → EndsTo at next
ends_plain at next plain k w l0 good tied word suits is =
    let l : Local = record l0 { at = At.End at } in
    let s = seen_in w l in
    let pool : Pool = w.pool in
    let call : EndCall = end_call l in
    let kind : Kind = (ended_object l).kind in
    let action : Action = end_course call at in
    let f : ℕ = found pool.mem action in
    let seen : word_seen s ≡ f = word_found pool.mem action in
    let told : end_learn call at (word_seen s) ≡ next = ap (λ x. end_learn call at x) seen ∙ is in
    let came : EndNext = end_learn call at f in
    let shadow : Shadow = shadow_ended l.seat call came pool.objects in
    let m' : Mem = after k pool.mem action in
    let locals : Locals = ended l.seat call kind came pool.locals in
    let p : Pool = record pool { mem = m'; objects = shadow; locals = locals } in
    record {
      later = with_pool p w;
      run = steps_on stays (WholeStep.uses p (PoolStep.objects shadow m' locals
          (ObjectStep.ends l.seat call kind at (seat_named k l.seat tied.says.number) tied.tasks.objects)
          (subst (λ x. IsPlainEnd x) (sym is) plain)) refl (free_of w l.seat tied.tasks.jobs tied.tasks.queue));
      office = refl;
      words = refl;
      here = uses_leave k w p l tied word suits (record {
        guards = refl;
        bins = refl;
        queue = refl;
        mails = refl;
        orphans = refl;
        jobs = refl;
        spares = refl;
        desk = refl;
        else = tt;
      }) refl (record {
        objects = ap (λ t. t l.seat) ((rows_leave_object_tasks l.seat pool.locals).ends call kind came)
            ∙ put_here pool.locals.tasks l.seat l.seat (ended_task call kind came) refl
            ∙ ap (λ x. ended_task call kind (end_learn call at x)) (sym seen);
        kept = tied.heap.kept ∙ kept_plain l next plain ∙ ap (λ x. kept_ended l x) (sym told);
        cached = tied.heap.cached;
        last = ap (λ lasts. lasts l.seat) (ended_lasts l.seat call kind came pool.locals) ∙ tied.heap.last;
        notes = ap (λ notes. notes l.seat) ((rows_leave_notes l.seat pool.locals).ends call kind came) ∙ tied.notes;
      }) (hands_stay pool.blocks.place (w.drained l.seat) l.seat l s tied.says.hands suits.step
          (ap (λ x. ended_changes (block_in kind) x) told ∙ plain_changes l next plain) tied.hands);
    }

-- the object comes back to the slab of the seat's own
ends_own : (at : EndAt) → EndsTo at EndNext.Own
ends_own at k w l0 good tied word suits is =
    let l : Local = record l0 { at = At.End at } in
    let s = seen_in w l in
    let pool : Pool = w.pool in
    let call : EndCall = end_call l in
    let kind : Kind = (ended_object l).kind in
    let action : Action = end_course call at in
    let seen : word_seen s ≡ found pool.mem action = word_found pool.mem action in
    let told : end_learn call at (word_seen s) ≡ EndNext.Own = ap (λ x. end_learn call at x) seen ∙ is in
    let p : Pool = pool_freed k l.seat call kind at pool in
    record {
      later = with_pool p w;
      run = steps_on stays (WholeStep.uses p
          (PoolStep.frees call kind at (seat_named k l.seat tied.says.number) tied.tasks.objects is) tt
          (free_of w l.seat tied.tasks.jobs tied.tasks.queue));
      office = refl;
      words = refl;
      here = uses_leave k w p l tied word suits (record {
        guards = refl;
        bins = refl;
        queue = refl;
        mails = refl;
        orphans = refl;
        jobs = refl;
        spares = refl;
        desk = refl;
        else = tt;
      }) refl (record {
        objects = put_here pool.locals.tasks l.seat l.seat Task.Away refl
            ∙ ap (λ x. ended_task call kind x) (sym told);
        kept = put_here pool.kept l.seat l.seat (after_free_of (pool.kept l.seat) (slab_of call.unit) call.unit) refl
            ∙ ap (λ kept. after_free_of kept (slab_of call.unit) call.unit) tied.heap.kept
            ∙ ap (λ x. kept_ended l x) (sym told);
        cached = tied.heap.cached;
        last = tied.heap.last;
        notes = tied.notes;
      }) (hands_stay pool.blocks.place (w.drained l.seat) l.seat l s tied.says.hands suits.step
          (ap (λ x. ended_changes (block_in kind) x) told) tied.hands);
    }

range_in : {A : Type 0} (f : ℕ → A) (a n : ℕ) (v : A) (x : ℕ) → a ≤ x → x < a + n → put_range f a n v x ≡ v
range_in f a n v x low high = grind (arith, nat_tests)

range_out : {A : Type 0} (f : ℕ → A) (a n : ℕ) (v : A) (x : ℕ) → (x < a) ⊎ (a + n ≤ x) → put_range f a n v x ≡ f x
range_out f a n v x out = grind (arith, nat_tests)

-- a block at rest comes into the hand
comes_up : (k : Key) (w : Whole) (l : Local) (s : Seen) (x n : ℕ) → WholeGood k w → SeatTied k w l.seat l
    → Suits k l s → w.pool.blocks.place x ≡ Place.Block x n Use.Elsewhere
    → changes_of l s ≡ Change.Comes (hand x n Taking.ForUse) ∷ []
    → HandsTied (put_range w.pool.blocks.place x n (Place.Block x n (Use.Held l.seat Taking.ForUse)))
    (w.drained l.seat) l.seat (hands_of (learn l s).0)
comes_up k w l s x n good tied suits rests changes =
    let place : ℕ → Place = w.pool.blocks.place in
    let now : Place = Place.Block x n (Use.Held l.seat Taking.ForUse) in
    let next : List Hand = hands_of (learn l s).0 in
    let whole = good.free.pool.guards.parts.whole in
    let leads : HandsLead (Change.Comes (hand x n Taking.ForUse) ∷ []) (hands_of l) next =
    subst (λ cs. HandsLead cs (hands_of l) next) changes (turns_change_hands l s tied.says.hands suits.step) in
    let some = (whole x x n Use.Elsewhere rests).below in
    subst (λ hands. HandsTied (put_range place x n now) (w.drained l.seat) l.seat hands) (sym leads.2)
    (hands_come place (put_range place x n now) (w.drained l.seat) l.seat x n Taking.ForUse (hands_of l) leads.0
    tied.hands (others_are_none place l.seat x n Use.Elsewhere whole rests tt) (omega arith)
    (rest_is_not_drained k w l.seat x n good rests) (λ z out. range_out place x n now z out)
    (range_in place x n now x (omega arith) some) leads.1)

-- only a large object's grant ends so, and of one its kind tells the block
split_large : (at : EndAt) (call : EndCall) (f : ℕ) → end_learn call at f ≡ EndNext.Large → at ≡ EndAt.Large
split_large EndAt.Own call f is = by (eqb f call.mark) is
  where
    by : (b : Bool) → cond b EndNext.Own (EndNext.Goes (EndAt.Lost f)) ≡ EndNext.Large → EndAt.Own ≡ EndAt.Large
    by true q = absurd (cc)
    by false q = absurd (cc)
split_large EndAt.Other call f is = by (eqb f call.mark) is
  where
    by : (b : Bool) → cond b EndNext.Other (EndNext.Goes (EndAt.Lost f)) ≡ EndNext.Large → EndAt.Other ≡ EndAt.Large
    by true q = absurd (cc)
    by false q = absurd (cc)
split_large EndAt.Large call f is = refl
split_large (EndAt.Lost mark) call f is = absurd (cc)

block_told : (kind : Kind) → IsLargeKind kind → kind ≡ Kind.Large (block_in kind).first (block_in kind).granules
block_told Kind.Nothing is = absurd is
block_told (Kind.Slab class) is = absurd is
block_told Kind.CachedSlab is = absurd is
block_told (Kind.Large first granules) is = refl

-- the block of a large object comes into the hand
ends_large : EndsTo EndAt.Large EndNext.Large
ends_large k w l0 good tied word suits is =
    let l : Local = record l0 { at = At.End EndAt.Large } in
    let s = seen_in w l in
    let pool : Pool = w.pool in
    let good' : PoolGood k pool = good.post.pool' in
    let call : EndCall = end_call l in
    let kind : Kind = (ended_object l).kind in
    let x : ℕ = (block_in kind).first in
    let n : ℕ = (block_in kind).granules in
    let of : kind ≡ Kind.Large x n =
    block_told kind (task_fits k pool l.seat (Task.Ending call kind EndAt.Large) good' tied.tasks.objects).2 in
    let task : pool.locals.tasks l.seat ≡ Task.Ending call (Kind.Large x n) EndAt.Large =
    tied.tasks.objects ∙ ap (λ z. Task.Ending call z EndAt.Large) of in
    let rests = freed_rests k pool l.seat call x n good' task is in
    let p : Pool = pool_block_freed k l.seat call x n EndAt.Large Taking.ForUse pool in
    record {
      later = with_pool p w;
      run = steps_on stays (WholeStep.uses p (PoolStep.frees_block call x n EndAt.Large Taking.ForUse
          (seat_named k l.seat tied.says.number) task is tied.tasks.guards) tt
          (free_of w l.seat tied.tasks.jobs tied.tasks.queue));
      office = refl;
      words = refl;
      here = uses_leave k w p l tied word suits (record {
        guards = refl;
        bins = refl;
        queue = refl;
        mails = refl;
        orphans = refl;
        jobs = refl;
        spares = refl;
        desk = refl;
        else = tt;
      }) refl (record {
        objects = put_here pool.locals.tasks l.seat l.seat Task.Away refl
            ∙ ap (λ z. ended_task call kind z) (sym is);
        kept = tied.heap.kept ∙ ap (λ z. kept_ended l z) (sym is);
        cached = tied.heap.cached;
        last = tied.heap.last;
        notes = tied.notes;
      }) (comes_up k w l s x n good tied suits rests (ap (λ z. ended_changes (block_in kind) z) is));
    }

ends_by : (at : EndAt) (next : EndNext) → EndsTo at next
ends_by at (EndNext.Goes to) = ends_plain at (EndNext.Goes to) tt
ends_by at EndNext.Own = ends_own at
ends_by at EndNext.Other = ends_plain at EndNext.Other tt
ends_by at EndNext.Large = λ k w l good tied word suits is.
    let large = split_large at (end_call l) (found w.pool.mem (end_course (end_call l) at)) is in
    subst (λ at'. EndsTo at' EndNext.Large) (sym large) ends_large k w l good tied word suits is
ends_by at (EndNext.NotHeld lost) = ends_plain at (EndNext.NotHeld lost) tt

ends_at : (at : At) → IsEndAt at → TurnedAt at
ends_at (At.End at) is = λ k w l good tied calm word suits.
    ends_by at (end_learn (end_call l) at (found w.pool.mem (end_course (end_call l) at))) k w l good tied word suits
    refl
ends_at _ is = λ k w l good tied calm word suits. absurd is

pub ends_turn : EndsTurn
ends_turn k w l good tied calm word suits is = ends_at l.at is k w l good tied calm word suits
