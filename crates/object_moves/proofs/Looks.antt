-- Looks at an object, and the look-up of a region.
use Rattle.std.proofs.Common.{◌≡◌, ℕ, refl, sym, ap, ◌∙◌, ◌++◌}
use Rattle.pool_words.specs.declared.actions.Action.{Action}
use Rattle.pool_words.specs.Actions.{word_seen}
use Rattle.public_list.specs.declared.looking.LookAt.{LookAt}
use Rattle.public_list.specs.declared.looking.LookCall.{LookCall}
use Rattle.public_list.specs.declared.looking.LookNext.{LookNext}
use Rattle.public_list.specs.Looking.{look_course, look_learn}
use Rattle.word_laws.specs.Memory.{after, found}
use Rattle.word_laws.proofs.CallerLemmas.{put_here}
use Rattle.object_laws.specs.Objects.{Locals}
use Rattle.object_laws.specs.Rows.{looked}
use Rattle.object_laws.specs.Steps.{ObjectStep}
use Rattle.use_laws.specs.After.{with_mem}
use Rattle.use_laws.specs.Pools.{Pool}
use Rattle.use_laws.specs.Steps.{PoolStep}
use Rattle.step_local.specs.declared.frames.At.{At}
use Rattle.step_local.specs.declared.frames.LocateAt.{LocateAt}
use Rattle.step_local.specs.declared.frames.Local.{Local}
use Rattle.step_local.specs.Course.{course, locate_course}
use Rattle.step_local.specs.Objects.{look_call}
use Rattle.step_tasks.specs.Objects.{looked_task}
use Rattle.step_tasks.proofs.CallerLemmas.{rows_leave_object_tasks}
use Rattle.heap_tasks.specs.Notes.{looked_notes, notes_of}
use Rattle.heap_tasks.proofs.CallerLemmas.{rows_leave_notes}
use Rattle.pool_laws.specs.Changes.{with_pool}
use Rattle.pool_laws.specs.Steps.{IsOfNone, WholeStep}
use Rattle.seat_ties.specs.Turns.{seen_in, stays, steps_on}
use Rattle.object_moves.specs.Laws.{LocatesTurn, LooksTurn}
use Rattle.object_moves.specs.Positions.{IsLocateAt, IsLookAt}
use Rattle.object_moves.proofs.Seats.{TurnedAt, free_of, hands_stay, uses_leave, word_found}

-- a look-up of a region writes nothing
locate_writes : (at : LocateAt) → IsOfNone (locate_course at)
locate_writes (LocateAt.Region slot) = tt
locate_writes (LocateAt.Base slot region) = tt

locate_turn : (at : LocateAt) → TurnedAt (At.Locate at)
locate_turn at k w l0 good tied calm word suits =
    let l : Local = record l0 { at = At.Locate at } in
    let s = seen_in w l in
    let p : Pool = with_mem (after k w.pool.mem (course l)) w.pool in
    record {
      later = with_pool p w;
      run = steps_on stays (WholeStep.others (course l) (locate_writes at)
          (free_of w l.seat tied.tasks.jobs tied.tasks.queue));
      office = refl;
      words = refl;
      here = uses_leave k w p l tied word suits (record {
        guards = refl;
        bins = refl;
        queue = refl;
        mails = refl;
        orphans = refl;
        jobs = refl;
        spares = refl;
        desk = refl;
        else = tt;
      }) refl (record {
        objects = tied.tasks.objects;
        kept = tied.heap.kept;
        cached = tied.heap.cached;
        last = tied.heap.last;
        notes = tied.notes;
      }) (hands_stay w.pool.blocks.place (w.drained l.seat) l.seat l s tied.says.hands suits.step refl tied.hands);
    }

locates_at : (at : At) → IsLocateAt at → TurnedAt at
locates_at (At.Locate at) is = locate_turn at
locates_at _ is = λ k w l good tied calm word suits. absurd is

pub locates_turn : LocatesTurn
locates_turn k w l good tied calm word suits is = locates_at l.at is k w l good tied calm word suits

-- a look changes no number of a grant
looked_lasts : (seat : ℕ) (call : LookCall) (next : LookNext) (locals : Locals)
    → (looked seat call next locals).lasts ≡ locals.lasts
looked_lasts seat call (LookNext.Goes at) locals = refl
looked_lasts seat call (LookNext.Held unit mark kind base) locals = refl
looked_lasts seat call LookNext.Differs locals = refl
looked_lasts seat call (LookNext.NotHeld found) locals = refl

look_turn : (at : LookAt) → TurnedAt (At.Look at)
look_turn at k w l0 good tied calm word suits =
    let l : Local = record l0 { at = At.Look at } in
    let s = seen_in w l in
    let call = look_call l in
    let action : Action = look_course call at in
    let f : ℕ = found w.pool.mem action in
    let seen : word_seen s ≡ f = word_found w.pool.mem action in
    let locals : Locals = looked l.seat call (look_learn call at f) w.pool.locals in
    let p : Pool = record w.pool { mem = after k w.pool.mem action; locals = locals } in
    record {
      later = with_pool p w;
      run = steps_on stays (WholeStep.uses p
          (PoolStep.objects w.pool.objects (after k w.pool.mem action) locals
          (ObjectStep.looks l.seat call at tied.tasks.objects) tt) refl
          (free_of w l.seat tied.tasks.jobs tied.tasks.queue));
      office = refl;
      words = refl;
      here = uses_leave k w p l tied word suits (record {
        guards = refl;
        bins = refl;
        queue = refl;
        mails = refl;
        orphans = refl;
        jobs = refl;
        spares = refl;
        desk = refl;
        else = tt;
      }) refl (record {
        objects = ap (λ t. t l.seat) ((rows_leave_object_tasks l.seat w.pool.locals).looks call (look_learn call at f))
            ∙ put_here w.pool.locals.tasks l.seat l.seat (looked_task call (look_learn call at f)) refl
            ∙ ap (λ x. looked_task call (look_learn call at x)) (sym seen);
        kept = tied.heap.kept;
        cached = tied.heap.cached;
        last = ap (λ lasts. lasts l.seat) (looked_lasts l.seat call (look_learn call at f) w.pool.locals)
            ∙ tied.heap.last;
        notes = (rows_leave_notes l.seat w.pool.locals).looks call (look_learn call at f) l.seat
            ∙ put_here w.pool.locals.notes l.seat l.seat
            (looked_notes (look_learn call at f) ++ w.pool.locals.notes l.seat) refl
            ∙ ap (λ ns. looked_notes (look_learn call at f) ++ ns) tied.notes
            ∙ ap (λ x. looked_notes (look_learn call at x) ++ notes_of l) (sym seen);
      }) (hands_stay w.pool.blocks.place (w.drained l.seat) l.seat l s tied.says.hands suits.step refl tied.hands);
    }

looks_at : (at : At) → IsLookAt at → TurnedAt at
looks_at (At.Look at) is = look_turn at
looks_at _ is = λ k w l good tied calm word suits. absurd is

pub looks_turn : LooksTurn
looks_turn k w l good tied calm word suits is = looks_at l.at is k w l good tied calm word suits
