-- A slab of which nothing is held is a block in hand.
use Rattle.std.proofs.Common.{◌≡◌, ◌∙◌, ℕ, Some, ap, refl, sym, subst, arith}
use Rattle.guards.specs.declared.win.Taking.{Taking}
use Rattle.pool_words.specs.declared.words.Key.{Key}
use Rattle.heap_slabs.specs.Slabs.{after_remove, record_at}
use Rattle.word_laws.proofs.CallerLemmas.{put-same}
use Rattle.mail_laws.specs.Mail.{Mail}
use Rattle.orphan_laws.specs.Orphans as orphaning
use Rattle.orphan_laws.specs.Steps.{with_way}
use Rattle.slab_laws.specs.Books.{Keeper}
use Rattle.use_laws.specs.After.{pool_ended}
use Rattle.use_laws.specs.Uses.{IsKept}
use Rattle.step_local.specs.declared.frames.Local.{Local}
use Rattle.step_local.specs.declared.frames.SmallAt.{SmallAt}
use Rattle.step_local.specs.declared.frames.Stage.{Stage}
use Rattle.hand_blocks.specs.Changes.{Change, emptied_taking}
use Rattle.hand_blocks.specs.Hands.{hand, hands_of}
use Rattle.orphan_tasks.specs.Orphans.{stage_task}
use Rattle.step_fits.specs.Small.{EndsSlab, KeepsUnused}
use Rattle.pool_laws.specs.Steps.{WholeStep}
use Rattle.pool_laws.specs.Wholes.{Whole}
use Rattle.seat_ties.specs.Turns.{NoReset, StepLeaves, next_in, seen_in, stays, steps_on}
use Rattle.seat_ties.proofs.CallerLemmas.{nothing_is_said_elsewhere, seats_left_are_here}
use Rattle.slab_moves.proofs.Around.{free, nothing_drained}
use Rattle.slab_moves.proofs.Hands.{comes_up}
use Rattle.slab_moves.proofs.Rests.{kept_is_by, slab_rests, unused_counts}
use Rattle.slab_moves.proofs.Turns.{Turn, leads, one_change, small, small_off, small_tasks}

-- outside of a reset a slab that ends is kept, and nothing of it is held; and no orphan waits
ends_unused : (l : Local) (slab : ℕ) (stage : Stage) → NoReset stage → EndsSlab l slab stage → KeepsUnused l slab
ends_unused l slab Stage.Idle plain ends = absurd ends
ends_unused l slab Stage.Looking plain ends = absurd ends
ends_unused l slab Stage.Getting plain ends = ends.1
ends_unused l slab Stage.Ending plain ends = ends
ends_unused l slab Stage.Replacing plain ends = ends
ends_unused l slab Stage.Undoing plain ends = ends
ends_unused l slab Stage.Leaving plain ends = ends
ends_unused l slab (Stage.Resetting stage) plain ends = absurd plain

no_stage : (class : ℕ) (stage : Stage) → NoReset stage → stage_task class stage ≡ orphaning.Task.Away
no_stage class Stage.Idle plain = refl
no_stage class Stage.Looking plain = refl
no_stage class Stage.Getting plain = refl
no_stage class Stage.Ending plain = refl
no_stage class Stage.Replacing plain = refl
no_stage class Stage.Undoing plain = refl
no_stage class Stage.Leaving plain = refl
no_stage class (Stage.Resetting stage) plain = absurd plain

abbrev pub whole_ended : Key → ℕ → ℕ → Taking → Whole → Whole
whole_ended k seat e taking w = record w {
  pool = pool_ended k seat e taking w.pool;
  ways = with_way e Mail.Absent w.ways;
}

pub emptied : (k : Key) (w : Whole) (l : Local) (slab : ℕ) → Turn k w (small l (SmallAt.Empty slab))
    → StepLeaves k w (small l (SmallAt.Empty slab))
emptied k w l slab t =
    let l' : Local = small l (SmallAt.Empty slab) in
    let seat : ℕ = l.seat in
    let taking : Taking = emptied_taking l.call.stage in
    let later : Whole = whole_ended k seat slab taking w in
    let off = small_off k w l (SmallAt.Empty slab) t in
    let keeps = ends_unused l' slab l.call.stage t.no t.tied.says.fits.place in
    let there : record_at (w.pool.kept seat).records slab ≡ Some keeps.0
    = ap (λ kept. record_at kept.records slab) t.tied.heap.kept ∙ keeps.1.there in
    let by : w.pool.locals.book.keeper slab ≡ Keeper.By seat = kept_is_by k w seat slab keeps.0 t.good there in
    let rests = slab_rests k w slab t.good (subst IsKept (sym by) tt) in
    let orphan : w.tasks seat ≡ orphaning.Task.Away = t.tied.tasks.orphans ∙ no_stage l.fetch.class l.call.stage t.no in
    record {
      later = later;
      run = steps_on stays (WholeStep.slab_ends slab taking t.tied.tasks.guards t.tied.tasks.objects by
          (unused_counts k w seat slab keeps.0 t.good there keeps.1.unused)
          (λ is. subst (λ task. orphaning.IsLeaving task slab) orphan is) (free w seat off));
      words = refl;
      office = refl;
      here = seats_left_are_here k later seat l' (seen_in w l') t.tied.says t.suits (record {
        tasks = small_tasks k w later l (SmallAt.Empty slab) t
            (record { guards = refl; bins = refl; queue = refl; jobs = refl; desks = refl })
            t.tied.tasks.objects t.tied.tasks.mails t.tied.tasks.orphans;
        heap = record {
          kept = put-same w.pool.kept seat (after_remove (w.pool.kept seat) slab)
              ∙ ap (λ kept. after_remove kept slab) t.tied.heap.kept;
          cached = t.tied.heap.cached;
          spares = t.tied.heap.spares;
          last = t.tied.heap.last;
        };
        notes = t.tied.notes;
      })
          (comes_up k w seat slab 2 taking (hands_of l') (hands_of (next_in w l')) t.good
          (nothing_drained k w seat t.good off.queue) (omega arith) rests t.tied.hands
          (one_change (Change.Comes (hand slab 2 taking)) (hands_of l') (hands_of (next_in w l')) (leads k w l' t)))
          (nothing_is_said_elsewhere later seat l' (seen_in w l') tt).words;
    }
