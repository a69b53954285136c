-- Slabs that come out of the slab cache, and one that comes there.
use Rattle.std.proofs.Common.{◌≡◌, ◌∙◌, ℕ, ◌-◌, ◌<◌, length, Some, ap, refl, sym}
use Rattle.std.proofs.Common.{subst, arith}
use Rattle.guards.specs.declared.win.Taking.{Taking}
use Rattle.guard_laws.specs.Blocks.{Place, Use}
use Rattle.pool_words.specs.declared.words.Key.{Key}
use Rattle.heap_slabs.specs.Rolls.{after_push, newest_of, oldest_of, without_newest, without_oldest}
use Rattle.word_laws.proofs.CallerLemmas.{put-same}
use Rattle.use_laws.specs.After.{pool_cached, pool_newest_out, pool_oldest_out}
use Rattle.use_laws.specs.Pools.{Pool}
use Rattle.use_laws.specs.Steps.{PoolStep}
use Rattle.step_local.specs.declared.frames.Local.{Local}
use Rattle.step_local.specs.declared.frames.SmallAt.{SmallAt}
use Rattle.hand_blocks.specs.Changes.{Change}
use Rattle.hand_blocks.specs.Hands.{hand, hands_of}
use Rattle.pool_laws.specs.Changes.{with_pool}
use Rattle.pool_laws.specs.Steps.{WholeStep}
use Rattle.pool_laws.specs.Wholes.{Whole}
use Rattle.seat_ties.specs.Turns.{StepLeaves, next_in, seen_in, stays, steps_on}
use Rattle.seat_ties.proofs.CallerLemmas.{nothing_is_said_elsewhere, seats_left_are_here}
use Rattle.slab_moves.proofs.Around.{free, loose, nothing_drained}
use Rattle.slab_moves.proofs.Hands.{comes_up, comes_to_rest}
use Rattle.slab_moves.proofs.Rests.{cached_rests}
use Rattle.slab_moves.proofs.Turns.{Turn, leads, one_change, small, small_off, small_tasks}

-- the newest one is to begin
pub uncached : (k : Key) (w : Whole) (l : Local) (slab : ℕ) → Turn k w (small l (SmallAt.Uncache slab))
    → StepLeaves k w (small l (SmallAt.Uncache slab))
uncached k w l slab t =
    let l' : Local = small l (SmallAt.Uncache slab) in
    let seat : ℕ = l.seat in
    let p : Pool = pool_newest_out k seat slab Taking.ForUse w.pool in
    let later : Whole = with_pool p w in
    let off = small_off k w l (SmallAt.Uncache slab) t in
    let newest : newest_of (w.pool.cached seat) ≡ Some slab
    = ap (λ r. newest_of r) t.tied.heap.cached ∙ t.tied.says.fits.place.1 in
    let rests = cached_rests k w seat (length (w.pool.cached seat).items - 1) slab t.good newest in
    record {
      later = later;
      run = steps_on stays
          (WholeStep.uses p (PoolStep.newest_out slab Taking.ForUse t.tied.tasks.guards newest) tt (free w seat off));
      words = refl;
      office = refl;
      here = seats_left_are_here k later seat l' (seen_in w l') t.tied.says t.suits (record {
        tasks = small_tasks k w later l (SmallAt.Uncache slab) t
            (record { guards = refl; bins = refl; queue = refl; jobs = refl; desks = refl })
            t.tied.tasks.objects t.tied.tasks.mails t.tied.tasks.orphans;
        heap = record {
          kept = t.tied.heap.kept;
          cached = put-same w.pool.cached seat (without_newest (w.pool.cached seat))
              ∙ ap (λ r. without_newest r) t.tied.heap.cached;
          spares = t.tied.heap.spares;
          last = t.tied.heap.last;
        };
        notes = t.tied.notes;
      })
          (comes_up k w seat slab 2 Taking.ForUse (hands_of l') (hands_of (next_in w l')) t.good
          (nothing_drained k w seat t.good off.queue) (omega arith) rests t.tied.hands
          (one_change (Change.Comes (hand slab 2 Taking.ForUse)) (hands_of l') (hands_of (next_in w l')) (leads k w l' t)))
          (nothing_is_said_elsewhere later seat l' (seen_in w l') tt).words;
    }

-- the newest one is given up
pub newest_given : (k : Key) (w : Whole) (l : Local) (slab : ℕ) → Turn k w (small l (SmallAt.Newest slab))
    → StepLeaves k w (small l (SmallAt.Newest slab))
newest_given k w l slab t =
    let l' : Local = small l (SmallAt.Newest slab) in
    let seat : ℕ = l.seat in
    let p : Pool = pool_newest_out k seat slab Taking.ToJoin w.pool in
    let later : Whole = with_pool p w in
    let off = small_off k w l (SmallAt.Newest slab) t in
    let newest : newest_of (w.pool.cached seat) ≡ Some slab
    = ap (λ r. newest_of r) t.tied.heap.cached ∙ t.tied.says.fits.place.0 in
    let rests = cached_rests k w seat (length (w.pool.cached seat).items - 1) slab t.good newest in
    record {
      later = later;
      run = steps_on stays
          (WholeStep.uses p (PoolStep.newest_out slab Taking.ToJoin t.tied.tasks.guards newest) tt (free w seat off));
      words = refl;
      office = refl;
      here = seats_left_are_here k later seat l' (seen_in w l') t.tied.says t.suits (record {
        tasks = small_tasks k w later l (SmallAt.Newest slab) t
            (record { guards = refl; bins = refl; queue = refl; jobs = refl; desks = refl })
            t.tied.tasks.objects t.tied.tasks.mails t.tied.tasks.orphans;
        heap = record {
          kept = t.tied.heap.kept;
          cached = put-same w.pool.cached seat (without_newest (w.pool.cached seat))
              ∙ ap (λ r. without_newest r) t.tied.heap.cached;
          spares = t.tied.heap.spares;
          last = t.tied.heap.last;
        };
        notes = t.tied.notes;
      })
          (comes_up k w seat slab 2 Taking.ToJoin (hands_of l') (hands_of (next_in w l')) t.good
          (nothing_drained k w seat t.good off.queue) (omega arith) rests t.tied.hands
          (one_change (Change.Comes (hand slab 2 Taking.ToJoin)) (hands_of l') (hands_of (next_in w l')) (leads k w l' t)))
          (nothing_is_said_elsewhere later seat l' (seen_in w l') tt).words;
    }

-- the oldest one is
pub oldest_given : (k : Key) (w : Whole) (l : Local) (slab : ℕ) → Turn k w (small l (SmallAt.Oldest slab))
    → StepLeaves k w (small l (SmallAt.Oldest slab))
oldest_given k w l slab t =
    let l' : Local = small l (SmallAt.Oldest slab) in
    let seat : ℕ = l.seat in
    let p : Pool = pool_oldest_out k seat slab Taking.ToJoin w.pool in
    let later : Whole = with_pool p w in
    let off = small_off k w l (SmallAt.Oldest slab) t in
    let oldest : oldest_of (w.pool.cached seat) ≡ Some slab
    = ap (λ r. oldest_of r) t.tied.heap.cached ∙ t.tied.says.fits.place.1 in
    let rests = cached_rests k w seat 0 slab t.good oldest in
    record {
      later = later;
      run = steps_on stays
          (WholeStep.uses p (PoolStep.oldest_out slab Taking.ToJoin t.tied.tasks.guards oldest) tt (free w seat off));
      words = refl;
      office = refl;
      here = seats_left_are_here k later seat l' (seen_in w l') t.tied.says t.suits (record {
        tasks = small_tasks k w later l (SmallAt.Oldest slab) t
            (record { guards = refl; bins = refl; queue = refl; jobs = refl; desks = refl })
            t.tied.tasks.objects t.tied.tasks.mails t.tied.tasks.orphans;
        heap = record {
          kept = t.tied.heap.kept;
          cached = put-same w.pool.cached seat (without_oldest (w.pool.cached seat))
              ∙ ap (λ r. without_oldest r) t.tied.heap.cached;
          spares = t.tied.heap.spares;
          last = t.tied.heap.last;
        };
        notes = t.tied.notes;
      })
          (comes_up k w seat slab 2 Taking.ToJoin (hands_of l') (hands_of (next_in w l')) t.good
          (nothing_drained k w seat t.good off.queue) (omega arith) rests t.tied.hands
          (one_change (Change.Comes (hand slab 2 Taking.ToJoin)) (hands_of l') (hands_of (next_in w l')) (leads k w l' t)))
          (nothing_is_said_elsewhere later seat l' (seen_in w l') tt).words;
    }

-- an empty one is cached
pub cached : (k : Key) (w : Whole) (l : Local) (slab : ℕ) → Turn k w (small l (SmallAt.Cache slab))
    → StepLeaves k w (small l (SmallAt.Cache slab))
cached k w l slab t =
    let l' : Local = small l (SmallAt.Cache slab) in
    let seat : ℕ = l.seat in
    let p : Pool = pool_cached k seat slab w.pool in
    let later : Whole = with_pool p w in
    let off = small_off k w l (SmallAt.Cache slab) t in
    let lies : w.pool.blocks.place slab ≡ Place.Block slab 2 (Use.Held seat Taking.ForUse) = t.tied.hands.lie.0 in
    let frames = t.tied.says.fits.frames in
    let room : length (w.pool.cached seat).items < (w.pool.cached seat).room
    = subst (λ r. length r.items < r.room) (sym t.tied.heap.cached)
    (let most = frames.cached.room' in let few = frames.few in omega arith) in
    record {
      later = later;
      run = steps_on stays
          (WholeStep.uses p (PoolStep.slab_cached slab (record { away = t.tied.tasks.guards; block = lies }) t.says.place
          room) (loose k w seat slab t.good off) (free w seat off));
      words = refl;
      office = refl;
      here = seats_left_are_here k later seat l' (seen_in w l') t.tied.says t.suits (record {
        tasks = small_tasks k w later l (SmallAt.Cache slab) t
            (record { guards = refl; bins = refl; queue = refl; jobs = refl; desks = refl })
            t.tied.tasks.objects t.tied.tasks.mails t.tied.tasks.orphans;
        heap = record {
          kept = t.tied.heap.kept;
          cached = put-same w.pool.cached seat (after_push (w.pool.cached seat) slab)
              ∙ ap (λ r. after_push r slab) t.tied.heap.cached;
          spares = t.tied.heap.spares;
          last = t.tied.heap.last;
        };
        notes = t.tied.notes;
      })
          (comes_to_rest k w seat slab 2 Taking.ForUse (hands_of l') (hands_of (next_in w l')) t.good lies t.tied.hands
          (one_change (Change.Leaves (hand slab 2 Taking.ForUse)) (hands_of l') (hands_of (next_in w l'))
          (leads k w l' t)))
          (nothing_is_said_elsewhere later seat l' (seen_in w l') tt).words;
    }
