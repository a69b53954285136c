-- The grant of a large object.
use Rattle.std.proofs.Common.{◌≡◌, ℕ, ◌+◌, true, refl, sym, ap, ◌∙◌, arith}
use Rattle.pool_words.specs.declared.actions.Action.TheVariants.{Store}
use Rattle.pool_words.specs.declared.words.Word.{Word}
use Rattle.word_codes.specs.declared.kinds.Kind.{Kind}
use Rattle.word_laws.specs.Memory.{Mem, after}
use Rattle.word_laws.proofs.CallerLemmas.{put_here}
use Rattle.object_laws.specs.Objects.{Held, Locals, Shadow, Task}
use Rattle.object_laws.specs.Rows.{grant_word, granted, next_grant, shadow_granted}
use Rattle.object_laws.specs.Steps.{ObjectStep}
use Rattle.use_laws.specs.Pools.{Pool}
use Rattle.use_laws.specs.Steps.{PoolStep}
use Rattle.step_local.specs.declared.frames.At.{At}
use Rattle.step_local.specs.declared.frames.Call.{Call}
use Rattle.step_local.specs.declared.frames.LargeAt.{LargeAt}
use Rattle.step_local.specs.declared.frames.Local.{Local}
use Rattle.step_local.specs.declared.frames.Served.{Served}
use Rattle.step_local.specs.Answers.{kind_got}
use Rattle.step_fits.specs.Large.{IsLarge}
use Rattle.step_fits.proofs.CallerLemmas.{grants_have_numbers}
use Rattle.heap_tasks.proofs.CallerLemmas.{grants_are_numbered}
use Rattle.pool_laws.specs.Changes.{with_pool}
use Rattle.pool_laws.specs.Steps.{WholeStep}
use Rattle.seat_ties.specs.Turns.{seen_in, stays, steps_on}
use Rattle.object_moves.specs.Laws.{GrantsTurn}
use Rattle.object_moves.specs.Positions.{IsGrantAt}
use Rattle.object_moves.proofs.Seats.{TurnedAt, free_of, grant_noted, hands_stay, seat_named, uses_leave}

large_got : (c : Call) (served : Served) → IsLarge served
    → Kind.Large c.block.first c.block.granules ≡ kind_got c served
large_got c (Served.Small class) is = absurd is
large_got c (Served.Large granules alignment) is = refl

grant_turn : (unit : ℕ) → TurnedAt (At.Large (LargeAt.Grant unit))
grant_turn unit k w l0 good tied calm word suits =
    let l : Local = record l0 { at = At.Large (LargeAt.Grant unit) } in
    let s = seen_in w l in
    let pool : Pool = w.pool in
    let first : ℕ = l.call.block.first in
    let granules : ℕ = l.call.block.granules in
    let kind = Kind.Large first granules in
    let fits = tied.says.fits in
    let numbered = grants_are_numbered l pool.locals tied.heap.last
    (let left = grants_have_numbers k l.seat true l unit fits refl in omega arith) in
    let shadow : Shadow = shadow_granted (Held.Large (next_grant pool.locals l.seat) first granules) unit
    pool.objects in
    let m' : Mem = after k pool.mem (Store (Word.Mark unit) (grant_word pool.locals l.seat)) in
    let locals : Locals = granted l.seat unit kind pool.locals.book pool.locals in
    let p : Pool = record pool { mem = m'; objects = shadow; locals = locals } in
    record {
      later = with_pool p w;
      run = steps_on stays (WholeStep.uses p (PoolStep.objects shadow m' locals
          (ObjectStep.blocks l.seat unit first granules (seat_named k l.seat tied.says.number) tied.tasks.objects) tt)
          refl (free_of w l.seat tied.tasks.jobs tied.tasks.queue));
      office = refl;
      words = ap (λ mark. after k pool.mem (Store (Word.Mark unit) mark)) (sym numbered.word);
      here = uses_leave k w p l tied word suits (record {
        guards = refl;
        bins = refl;
        queue = refl;
        mails = refl;
        orphans = refl;
        jobs = refl;
        spares = refl;
        desk = refl;
        else = tt;
      }) refl (record {
        objects = put_here pool.locals.tasks l.seat l.seat Task.Away refl;
        kept = tied.heap.kept;
        cached = tied.heap.cached;
        last = put_here pool.locals.lasts l.seat l.seat (pool.locals.lasts l.seat + 1) refl ∙ sym numbered.number;
        notes = grant_noted l pool.locals unit kind numbered.word (large_got l.call l.call.served fits.place.0.1)
            tied.notes;
      }) (hands_stay pool.blocks.place (w.drained l.seat) l.seat l s tied.says.hands suits.step refl tied.hands);
    }

grant_at : (at : At) → IsGrantAt at → TurnedAt at
grant_at (At.Large (LargeAt.Grant unit)) is = grant_turn unit
grant_at (At.Large _) is = λ k w l good tied calm word suits. absurd is
grant_at _ is = λ k w l good tied calm word suits. absurd is

pub grants_turn : GrantsTurn
grants_turn k w l good tied calm word suits is = grant_at l.at is k w l good tied calm word suits
