-- A slab that begins in a block in hand: its next word, its public word and its own word, and its kind last.
use Rattle.std.proofs.Common.{◌≡◌, ◌∙◌, ℕ, ap, refl, sym, subst}
use Rattle.guards.specs.declared.win.Taking.{Taking}
use Rattle.guard_laws.specs.Blocks.{Place, Use}
use Rattle.pool_words.specs.declared.words.Key.{Key}
use Rattle.heap_slabs.specs.Records.{begun}
use Rattle.heap_slabs.specs.Slabs.{after_add}
use Rattle.word_laws.specs.Memory.{after, put}
use Rattle.word_laws.proofs.CallerLemmas.{put-same}
use Rattle.mail_laws.specs.Mail as mailing
use Rattle.mail_laws.specs.Mail.{Mail}
use Rattle.mail_laws.specs.Steps as mails
use Rattle.mail_laws.specs.Steps.{MailStep}
use Rattle.orphan_laws.specs.Orphans as orphaning
use Rattle.orphan_laws.specs.Orphans.{mail_locals}
use Rattle.orphan_laws.specs.Steps.{OrphanStep, with_mails, with_task, with_way}
use Rattle.use_laws.specs.After.{pool_begun}
use Rattle.post_laws.specs.Posts.{locals_of}
use Rattle.step_local.specs.declared.frames.Local.{Local}
use Rattle.step_local.specs.declared.frames.SmallAt.{SmallAt}
use Rattle.step_local.specs.Course.{course}
use Rattle.step_local.specs.Slabs.{class_of_served}
use Rattle.hand_blocks.specs.Changes.{Change}
use Rattle.hand_blocks.specs.Hands.{hand, hands_of}
use Rattle.pool_laws.specs.Changes.{with_ways}
use Rattle.pool_laws.specs.Steps.{WholeStep}
use Rattle.pool_laws.specs.Wholes.{Whole, post_of}
use Rattle.seat_ties.specs.Ties.{HandsTied}
use Rattle.seat_ties.specs.Turns.{StepLeaves, next_in, seen_in, stays, steps_on}
use Rattle.seat_ties.proofs.CallerLemmas.{nothing_is_said_elsewhere, seats_left_are_here}
use Rattle.slab_moves.proofs.Around.{free, loose}
use Rattle.slab_moves.proofs.Hands.{comes_to_rest}
use Rattle.slab_moves.proofs.Turns.{Turn, leads, one_change, small, small_off, small_tasks}

-- the next word names the mailbox
pub settled : (k : Key) (w : Whole) (l : Local) (slab : ℕ) → Turn k w (small l (SmallAt.Next slab))
    → StepLeaves k w (small l (SmallAt.Next slab))
settled k w l slab t =
    let l' : Local = small l (SmallAt.Next slab) in
    let seat : ℕ = l.seat in
    let class : ℕ = class_of_served l.call.served in
    let all : orphaning.Locals = locals_of (post_of w) in
    let tasks : orphaning.Locals = with_mails (mails.with_task seat (mailing.Task.Settled slab class) (mail_locals all)) all in
    let later : Whole = with_ways w.ways (after k w.pool.mem (course l')) tasks w in
    let off = small_off k w l (SmallAt.Next slab) t in
    record {
      later = later;
      run = steps_on stays (WholeStep.orphans w.ways (after k w.pool.mem (course l')) tasks
          (OrphanStep.asides (MailStep.settles seat slab class t.tied.tasks.mails) tt) refl (free w seat off));
      words = refl;
      office = refl;
      here = seats_left_are_here k later seat l' (seen_in w l') t.tied.says t.suits (record {
        tasks = small_tasks k w later l (SmallAt.Next slab) t
            (record { guards = refl; bins = refl; queue = refl; jobs = refl; desks = refl })
            t.tied.tasks.objects (put-same w.mails seat (mailing.Task.Settled slab class)) t.tied.tasks.orphans;
        heap = record {
          kept = t.tied.heap.kept;
          cached = t.tied.heap.cached;
          spares = t.tied.heap.spares;
          last = t.tied.heap.last;
        };
        notes = t.tied.notes;
      }) (subst (λ hands. HandsTied w.pool.blocks.place (w.drained seat) seat hands) (sym (leads k w l' t)) t.tied.hands)
          (nothing_is_said_elsewhere later seat l' (seen_in w l') tt).words;
    }

-- nothing was given back to it
pub cleared : (k : Key) (w : Whole) (l : Local) (slab : ℕ) → Turn k w (small l (SmallAt.Public slab))
    → StepLeaves k w (small l (SmallAt.Public slab))
cleared k w l slab t =
    let l' : Local = small l (SmallAt.Public slab) in
    let seat : ℕ = l.seat in
    let class : ℕ = class_of_served l.call.served in
    let all : orphaning.Locals = locals_of (post_of w) in
    let later : Whole = with_ways w.ways (after k w.pool.mem (course l')) all w in
    let off = small_off k w l (SmallAt.Public slab) t in
    let lies : w.pool.blocks.place slab ≡ Place.Block slab 2 (Use.Held seat Taking.ForUse) = t.tied.hands.lie.0 in
    record {
      later = later;
      run = steps_on stays (WholeStep.orphans w.ways (after k w.pool.mem (course l')) all
          (OrphanStep.asides (MailStep.clears seat slab class t.tied.tasks.mails) tt)
          (refl, (2, Taking.ForUse, record { away = t.tied.tasks.guards; block = lies })) (free w seat off));
      words = refl;
      office = refl;
      here = seats_left_are_here k later seat l' (seen_in w l') t.tied.says t.suits (record {
        tasks = small_tasks k w later l (SmallAt.Public slab) t
            (record { guards = refl; bins = refl; queue = refl; jobs = refl; desks = refl })
            t.tied.tasks.objects t.tied.tasks.mails t.tied.tasks.orphans;
        heap = record {
          kept = t.tied.heap.kept;
          cached = t.tied.heap.cached;
          spares = t.tied.heap.spares;
          last = t.tied.heap.last;
        };
        notes = t.tied.notes;
      }) (subst (λ hands. HandsTied w.pool.blocks.place (w.drained seat) seat hands) (sym (leads k w l' t)) t.tied.hands)
          (nothing_is_said_elsewhere later seat l' (seen_in w l') tt).words;
    }

-- it has its keeper
pub owned : (k : Key) (w : Whole) (l : Local) (slab : ℕ) → Turn k w (small l (SmallAt.Own slab))
    → StepLeaves k w (small l (SmallAt.Own slab))
owned k w l slab t =
    let l' : Local = small l (SmallAt.Own slab) in
    let seat : ℕ = l.seat in
    let class : ℕ = class_of_served l.call.served in
    let all : orphaning.Locals = with_task seat (orphaning.Task.Owning slab) (locals_of (post_of w)) in
    let later : Whole = with_ways w.ways (after k w.pool.mem (course l')) all w in
    let off = small_off k w l (SmallAt.Own slab) t in
    record {
      later = later;
      run = steps_on stays (WholeStep.orphans w.ways (after k w.pool.mem (course l')) all
          (OrphanStep.owns_first seat slab class t.tied.tasks.orphans t.tied.tasks.mails) refl (free w seat off));
      words = refl;
      office = refl;
      here = seats_left_are_here k later seat l' (seen_in w l') t.tied.says t.suits (record {
        tasks = small_tasks k w later l (SmallAt.Own slab) t
            (record { guards = refl; bins = refl; queue = refl; jobs = refl; desks = refl })
            t.tied.tasks.objects t.tied.tasks.mails (put-same w.tasks seat (orphaning.Task.Owning slab));
        heap = record {
          kept = t.tied.heap.kept;
          cached = t.tied.heap.cached;
          spares = t.tied.heap.spares;
          last = t.tied.heap.last;
        };
        notes = t.tied.notes;
      }) (subst (λ hands. HandsTied w.pool.blocks.place (w.drained seat) seat hands) (sym (leads k w l' t)) t.tied.hands)
          (nothing_is_said_elsewhere later seat l' (seen_in w l') tt).words;
    }

-- and it is there
abbrev pub whole_begun : Key → ℕ → ℕ → ℕ → Whole → Whole
whole_begun k seat e class w = record w {
  pool = pool_begun k seat e class w.pool;
  ways = with_way e Mail.Rest w.ways;
  mails = put w.mails seat mailing.Task.Away;
  tasks = put w.tasks seat orphaning.Task.Away;
}

pub is_slab : (k : Key) (w : Whole) (l : Local) (slab : ℕ) → Turn k w (small l (SmallAt.Kind slab))
    → StepLeaves k w (small l (SmallAt.Kind slab))
is_slab k w l slab t =
    let l' : Local = small l (SmallAt.Kind slab) in
    let seat : ℕ = l.seat in
    let class : ℕ = class_of_served l.call.served in
    let later : Whole = whole_begun k seat slab class w in
    let off = small_off k w l (SmallAt.Kind slab) t in
    let lies : w.pool.blocks.place slab ≡ Place.Block slab 2 (Use.Held seat Taking.ForUse) = t.tied.hands.lie.0 in
    record {
      later = later;
      run = steps_on stays (WholeStep.slab_begins slab class t.tied.tasks.orphans t.tied.tasks.mails
          (record { away = t.tied.tasks.guards; block = lies }) (loose k w seat slab t.good off) t.says.place
          (free w seat off));
      words = refl;
      office = refl;
      here = seats_left_are_here k later seat l' (seen_in w l') t.tied.says t.suits (record {
        tasks = small_tasks k w later l (SmallAt.Kind slab) t
            (record { guards = refl; bins = refl; queue = refl; jobs = refl; desks = refl })
            t.tied.tasks.objects (put-same w.mails seat mailing.Task.Away)
            (put-same w.tasks seat orphaning.Task.Away);
        heap = record {
          kept = put-same w.pool.kept seat (after_add (w.pool.kept seat) (begun slab class))
              ∙ ap (λ kept. after_add kept (begun slab class)) t.tied.heap.kept;
          cached = t.tied.heap.cached;
          spares = t.tied.heap.spares;
          last = t.tied.heap.last;
        };
        notes = t.tied.notes;
      })
          (comes_to_rest k w seat slab 2 Taking.ForUse (hands_of l') (hands_of (next_in w l')) t.good lies t.tied.hands
          (one_change (Change.Leaves (hand slab 2 Taking.ForUse)) (hands_of l') (hands_of (next_in w l'))
          (leads k w l' t)))
          (nothing_is_said_elsewhere later seat l' (seen_in w l') tt).words;
    }
