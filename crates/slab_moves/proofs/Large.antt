-- A tick of the clock, and a large object that begins in the block in hand.
use Rattle.std.proofs.Common.{◌≡◌, ℕ, ◌+◌, ◌^◌, ◌<◌, ◌≤◌, ap, refl, sym, subst, arith}
use Rattle.guards.specs.declared.win.Taking.{Taking}
use Rattle.guard_laws.specs.Blocks.{Place, Use}
use Rattle.pool_words.specs.declared.words.Key.{Key}
use Rattle.word_laws.specs.Memory.{after}
use Rattle.word_laws.proofs.CallerLemmas.{put-same}
use Rattle.object_laws.specs.Objects as objects
use Rattle.word_codes.specs.declared.kinds.Kind.{Kind}
use Rattle.word_codes.specs.Kinds.{FitsKind, kind_word}
use Rattle.word_codes.specs.Places.{granule_of}
use Rattle.pool_types.specs.Limits.{most_span}
use Rattle.pool_words.specs.declared.words.Word.{Word}
use Rattle.pool_words.specs.declared.actions.Action.TheVariants.{Store}
use Rattle.step_local.specs.declared.frames.Served.{Served}
use Rattle.step_local.specs.Answers.{kind_got}
use Rattle.step_local.specs.Getting.{last_grant}
use Rattle.step_fits.specs.Large.{IsLarge}
use Rattle.use_laws.specs.After.{pool_readied, with_mem}
use Rattle.use_laws.specs.Pools.{Pool}
use Rattle.use_laws.specs.Steps.{PoolStep}
use Rattle.step_local.specs.declared.frames.LargeAt.{LargeAt}
use Rattle.step_local.specs.declared.frames.Local.{Local}
use Rattle.step_local.specs.Course.{course}
use Rattle.hand_blocks.specs.Changes.{Change}
use Rattle.hand_blocks.specs.Hands.{hand, hands_of}
use Rattle.pool_laws.specs.Changes.{with_pool}
use Rattle.pool_laws.specs.Steps.{WholeStep}
use Rattle.pool_laws.specs.Wholes.{Whole, WholeGood}
use Rattle.seat_ties.specs.Ties.{HandsTied}
use Rattle.seat_ties.specs.Turns.{StepLeaves, next_in, seen_in, stays, steps_on}
use Rattle.seat_ties.proofs.CallerLemmas.{nothing_is_said_elsewhere, seats_left_are_here}
use Rattle.slab_moves.proofs.Around.{free, loose}
use Rattle.slab_moves.proofs.Hands.{comes_to_rest}
use Rattle.slab_moves.proofs.Turns.{Turn, large, large_off, large_tasks, leads, one_change}

pub ticked : (k : Key) (w : Whole) (l : Local) → Turn k w (large l LargeAt.Tick)
    → StepLeaves k w (large l LargeAt.Tick)
ticked k w l t =
    let l' : Local = large l LargeAt.Tick in
    let seat : ℕ = l.seat in
    let later : Whole = with_pool (with_mem (after k w.pool.mem (course l')) w.pool) w in
    let off = large_off k w l LargeAt.Tick t in
    record {
      later = later;
      run = steps_on stays (WholeStep.others (course l') (omega arith, omega arith) (free w seat off));
      words = refl;
      office = refl;
      here = seats_left_are_here k later seat l' (seen_in w l') t.tied.says t.suits (record {
        tasks = large_tasks k w later l LargeAt.Tick t
            (record { guards = refl; bins = refl; queue = refl; jobs = refl; desks = refl })
            t.tied.tasks.objects t.tied.tasks.mails t.tied.tasks.orphans;
        heap = record {
          kept = t.tied.heap.kept;
          cached = t.tied.heap.cached;
          spares = t.tied.heap.spares;
          last = t.tied.heap.last;
        };
        notes = t.tied.notes;
      }) (subst (λ hands. HandsTied w.pool.blocks.place (w.drained seat) seat hands) (sym (leads k w l' t)) t.tied.hands)
          (nothing_is_said_elsewhere later seat l' (seen_in w l') tt).words;
    }

-- a large object is to be granted in the block in hand
served_large : (l : Local) (served : Served) → IsLarge served
    → kind_got l.call served ≡ Kind.Large l.call.block.first l.call.block.granules
served_large l (Served.Small class) is = absurd is
served_large l (Served.Large granules alignment) is = refl

block_fits : (k : Key) (w : Whole) (x n seat : ℕ) (taking : Taking) → WholeGood k w → k.span ≤ most_span
    → w.pool.blocks.place x ≡ Place.Block x n (Use.Held seat taking) → FitsKind (Kind.Large x n)
block_fits k w x n seat taking good span lies =
    let within = good.shelf.pool.guards.parts.within x n (Use.Held seat taking) lies in
    (omega arith, omega arith)

pub readied : (k : Key) (w : Whole) (l : Local) (unit : ℕ) → Turn k w (large l (LargeAt.Kind unit))
    → StepLeaves k w (large l (LargeAt.Kind unit))
readied k w l unit t =
    let l' : Local = large l (LargeAt.Kind unit) in
    let seat : ℕ = l.seat in
    let x : ℕ = l.call.block.first in
    let n : ℕ = l.call.block.granules in
    let p : Pool = pool_readied k seat x n unit w.pool in
    let later : Whole = with_pool p w in
    let off = large_off k w l (LargeAt.Kind unit) t in
    let lies : w.pool.blocks.place x ≡ Place.Block x n (Use.Held seat Taking.ForUse) = t.tied.hands.lie.0 in
    let kind = served_large l l.call.served t.tied.says.fits.place.0.1 in
    let left : l.last < last_grant = (t.tied.says.fits.numbers.place refl).left in
    let few : w.pool.locals.lasts seat + 1 < 2 ^ 55
    = subst (λ last. last + 1 < 2 ^ 55) (sym t.tied.heap.last) (omega arith) in
    record {
      later = later;
      run = steps_on stays (WholeStep.uses p (PoolStep.readies x n unit
          (record { away = t.tied.tasks.guards; block = lies }) t.tied.tasks.objects
          (block_fits k w x n seat Taking.ForUse t.good t.tied.says.number.span lies) t.says.place.from
          t.says.place.below few)
          (loose k w seat x t.good off, record { mail = t.tied.tasks.mails; orphan = t.tied.tasks.orphans })
          (free w seat off));
      words = ap (λ kind. after k w.pool.mem (Store (Word.Kind (granule_of unit)) (kind_word kind))) (sym kind);
      office = refl;
      here = seats_left_are_here k later seat l' (seen_in w l') t.tied.says t.suits (record {
        tasks = large_tasks k w later l (LargeAt.Kind unit) t
            (record { guards = refl; bins = refl; queue = refl; jobs = refl; desks = refl })
            (put-same w.pool.locals.tasks seat (objects.Task.Blocking unit x n)) t.tied.tasks.mails
            t.tied.tasks.orphans;
        heap = record {
          kept = t.tied.heap.kept;
          cached = t.tied.heap.cached;
          spares = t.tied.heap.spares;
          last = t.tied.heap.last;
        };
        notes = t.tied.notes;
      })
          (comes_to_rest k w seat x n Taking.ForUse (hands_of l') (hands_of (next_in w l')) t.good lies t.tied.hands
          (one_change (Change.Leaves (hand x n Taking.ForUse)) (hands_of l') (hands_of (next_in w l'))
          (leads k w l' t)))
          (nothing_is_said_elsewhere later seat l' (seen_in w l') tt).words;
    }
