-- A seat leaves a slab, or pushes back an orphan that it put aside.
use Rattle.std.proofs.Common.{◌≡◌, ℕ, refl, sym, ap, ◌∙◌, subst}
use Rattle.chain_words.specs.declared.pushing.PushAt.{PushAt}
use Rattle.chain_words.specs.declared.pushing.PushNext.{PushNext}
use Rattle.chain_words.specs.Pushing.{push_learn}
use Rattle.heap_slabs.specs.Rolls.{newest_of}
use Rattle.heap_slabs.specs.Slabs.{after_remove}
use Rattle.orphans.specs.declared.leaving.LeaveAt.{LeaveAt}
use Rattle.orphans.specs.declared.leaving.LeaveNext.{LeaveNext}
use Rattle.orphans.specs.Leaving.{leave_closed, leave_course, leave_learn, leave_pushed}
use Rattle.pool_words.specs.declared.words.Key.{Key}
use Rattle.word_codes.specs.declared.publics.Public.{Public}
use Rattle.word_codes.specs.Publics.{public_of}
use Rattle.word_laws.specs.Memory.{after, found}
use Rattle.word_laws.proofs.CallerLemmas.{put-same}
use Rattle.slab_laws.specs.Books.{Keeper, with_keeper}
use Rattle.orphan_laws.specs.Orphans.{Locals, Task, TaskFits}
use Rattle.orphan_laws.specs.Steps.{OrphanStep, leave_of, left_as, returned_as, shadow_left, shadow_returned}
use Rattle.orphan_laws.specs.Steps.{with_book}
use Rattle.post_laws.specs.Posts.{locals_of, words_of}
use Rattle.post_laws.specs.After.{post_left, post_returned}
use Rattle.post_laws.specs.Steps.{PostStep}
use Rattle.pool_laws.specs.Changes.{with_post, with_ways}
use Rattle.pool_laws.specs.Steps.{IsNotLeft, WholeStep}
use Rattle.pool_laws.specs.Wholes.{Whole, WholeGood, post_of}
use Rattle.step_local.specs.declared.frames.At.{At}
use Rattle.step_local.specs.declared.frames.Local.{Local}
use Rattle.step_local.specs.Course.{course}
use Rattle.step_local.specs.Leaving.{leave_call, leave_call_of}
use Rattle.orphan_tasks.specs.Orphans.{back_spares, back_task, left_task, returned_spares, returned_task}
use Rattle.orphan_tasks.proofs.CallerLemmas.{rows_leave_orphan_tasks}
use Rattle.heap_tasks.specs.Heaps.{kept_of, kept_parted}
use Rattle.seat_ties.specs.Turns.{found_in, stays, steps_on}
use Rattle.mail_moves.proofs.Adopts.{mails_spared}
use Rattle.mail_moves.proofs.Joined.{recorded}
use Rattle.mail_moves.proofs.Stays.{LeadsOn, free, leads_on}

-- nothing is left but with the exchange of a push
closed_on : (public : Public) → IsNotLeft (leave_closed public)
closed_on Public.Null = tt
closed_on Public.Unusable = tt
closed_on (Public.Filled unit) = tt

abbrev pub spare_at : Local → LeaveAt → Local
spare_at l at = record l { at = At.Spare at }

mails_returned : (seat class e : ℕ) (next : LeaveNext) (l : Locals) → (returned_as seat class e next l).mails ≡ l.mails
mails_returned seat class e (LeaveNext.Goes at) l = refl
mails_returned seat class e LeaveNext.Filled l = mails_spared seat class (newest_of (l.spares seat)) l
mails_returned seat class e LeaveNext.Left l =
    mails_spared seat class (newest_of (l.spares seat)) (with_book (with_keeper e Keeper.Orphan l.book) l)

spare_on : (k : Key) (w : Whole) (l : Local) (at : LeaveAt)
    → IsNotLeft (leave_learn at (found_in w (spare_at l at))) → LeadsOn k w (spare_at l at)
spare_on k w l at is tied word suits =
    let here : Local = spare_at l at in
    let seat : ℕ = l.seat in
    let class : ℕ = l.fetch.class in
    let e : ℕ = l.fetch.spare in
    let next : LeaveNext = leave_learn at (found_in w here) in
    let locals : Locals = locals_of (post_of w) in
    let rows = (rows_leave_orphan_tasks seat locals).returns class e next in
    let later : Whole = with_ways (shadow_returned class e next w.ways) (after k w.pool.mem (course here))
    (returned_as seat class e next locals) w in
    leads_on k w here tt tied word suits later
    (steps_on stays (WholeStep.orphans _ _ _ (OrphanStep.returns seat class e at tied.tasks.orphans) (refl, is)
    (free k w here tt tied))) refl
    (record {
      guards = refl;
      bins = refl;
      queue = refl;
      jobs = refl;
      desks = refl;
      office = refl;
      cached = refl;
      last = refl;
      notes = refl;
    })
    (record {
      mails = ap (λ mails. mails seat) (mails_returned seat class e next locals) ∙ tied.tasks.mails;
      orphans = ap (λ tasks. tasks seat) rows.tasks'
          ∙ put-same w.tasks seat (returned_task class e (w.spares seat) next)
          ∙ ap (λ spares. returned_task class e spares next) tied.heap.spares;
      kept = tied.heap.kept;
      spares = rows.spares' seat ∙ put-same w.spares seat (returned_spares (w.spares seat) next)
          ∙ ap (λ spares. returned_spares spares next) tied.heap.spares;
    }) tied.tasks.objects

-- the exchange is won: the next one that was put aside is to be pushed
spare_left : (k : Key) (w : Whole) (l : Local) (at : PushAt)
    → leave_learn (LeaveAt.Push at) (found_in w (spare_at l (LeaveAt.Push at))) ≡ LeaveNext.Left
    → LeadsOn k w (spare_at l (LeaveAt.Push at))
spare_left k w l at won tied word suits =
    let here : Local = spare_at l (LeaveAt.Push at) in
    let seat : ℕ = l.seat in
    let class : ℕ = l.fetch.class in
    let e : ℕ = l.fetch.spare in
    let rows = (rows_leave_orphan_tasks seat (locals_of (post_of w))).backs class in
    let later : Whole = with_post (post_returned seat class e (after k w.pool.mem (course here)) (post_of w)) w in
    leads_on k w here tt tied word suits later
    (steps_on stays (WholeStep.posts _ (PostStep.returns class e at tied.tasks.orphans won) tt
    (free k w here tt tied))) refl
    (record {
      guards = refl;
      bins = refl;
      queue = refl;
      jobs = refl;
      desks = refl;
      office = refl;
      cached = refl;
      last = refl;
      notes = refl;
    })
    (record {
      mails = tied.tasks.mails;
      orphans = ap (λ tasks. tasks seat) rows.tasks' ∙ put-same w.tasks seat (back_task class (w.spares seat))
          ∙ ap (λ spares. back_task class spares) tied.heap.spares
          ∙ sym (ap (λ next. returned_task class e l.heap.spares next) won);
      kept = tied.heap.kept;
      spares = rows.spares' seat ∙ put-same w.spares seat (back_spares (w.spares seat))
          ∙ ap (λ spares. back_spares spares) tied.heap.spares
          ∙ sym (ap (λ next. returned_spares l.heap.spares next) won);
    }) tied.tasks.objects

spare_pushed : (k : Key) (w : Whole) (l : Local) (at : PushAt) (next : PushNext)
    → push_learn at (found_in w (spare_at l (LeaveAt.Push at))) ≡ next → LeadsOn k w (spare_at l (LeaveAt.Push at))
spare_pushed k w l at (PushNext.Goes then) is =
    spare_on k w l (LeaveAt.Push at) (subst (λ next. IsNotLeft (leave_pushed next)) (sym is) tt)
spare_pushed k w l at (PushNext.Pushed f) is = spare_left k w l at (ap (λ next. leave_pushed next) is)

pub spare_turn : (k : Key) (w : Whole) (l : Local) (at : LeaveAt) → LeadsOn k w (spare_at l at)
spare_turn k w l LeaveAt.Close =
    spare_on k w l LeaveAt.Close (closed_on (public_of (found_in w (spare_at l LeaveAt.Close))))
spare_turn k w l LeaveAt.Header = spare_on k w l LeaveAt.Header tt
spare_turn k w l LeaveAt.Disown = spare_on k w l LeaveAt.Disown tt
spare_turn k w l (LeaveAt.Push at) =
    spare_pushed k w l at (push_learn at (found_in w (spare_at l (LeaveAt.Push at)))) refl

abbrev pub leave_at : Local → ℕ → LeaveAt → Local
leave_at l e at = record l { at = At.Leave e at }

-- what the leaving is about is what the book says of the slab
same_call : (k : Key) (w : Whole) (l : Local) (e : ℕ) (at : LeaveAt) → WholeGood k w
    → w.tasks l.seat ≡ Task.Leaving e at → w.pool.kept l.seat ≡ kept_of l
    → leave_of (locals_of (post_of w)) e ≡ leave_call l e
same_call k w l e at good is kept =
    let fits =
    subst (λ task. TaskFits k w.ways (words_of (post_of w)) l.seat task) is (good.post.orphans.tasks' l.seat) in
    sym (ap (λ kept. leave_call_of e kept) (recorded k w l e good kept fits.1))

mails_left : (seat e : ℕ) (next : LeaveNext) (l : Locals) → (left_as seat e next l).mails ≡ l.mails
mails_left seat e (LeaveNext.Goes at) l = refl
mails_left seat e LeaveNext.Filled l = refl
mails_left seat e LeaveNext.Left l = refl

kept_here : (l : Local) (e : ℕ) (next : LeaveNext) → IsNotLeft next → kept_parted l e next ≡ kept_of l
kept_here l e (LeaveNext.Goes at) is = refl
kept_here l e LeaveNext.Filled is = refl
kept_here l e LeaveNext.Left is = absurd is

-- what the step finds, by the slab's record in the book
abbrev left_by : Whole → ℕ → LeaveAt → LeaveNext
left_by w e at = leave_learn at (found w.pool.mem (leave_course (leave_of (locals_of (post_of w)) e) at))

leave_on : (k : Key) (w : Whole) (l : Local) (e : ℕ) (at : LeaveAt) → WholeGood k w → IsNotLeft (left_by w e at)
    → LeadsOn k w (leave_at l e at)
leave_on k w l e at good is tied word suits =
    let here : Local = leave_at l e at in
    let seat : ℕ = l.seat in
    let next : LeaveNext = left_by w e at in
    let locals : Locals = locals_of (post_of w) in
    let same = same_call k w here e at good tied.tasks.orphans tied.heap.kept in
    let found' : next ≡ leave_learn at (found_in w here) =
    ap (λ call. leave_learn at (found w.pool.mem (leave_course call at))) same in
    let rows = (rows_leave_orphan_tasks seat locals).leaves e next in
    let later : Whole = with_ways (shadow_left locals seat e next w.ways)
    (after k w.pool.mem (leave_course (leave_of locals e) at)) (left_as seat e next locals) w in
    leads_on k w here tt tied word suits later
    (steps_on stays (WholeStep.orphans _ _ _ (OrphanStep.leaves seat e at tied.tasks.orphans) (refl, is)
    (free k w here tt tied))) (ap (λ call. after k w.pool.mem (leave_course call at)) same)
    (record {
      guards = refl;
      bins = refl;
      queue = refl;
      jobs = refl;
      desks = refl;
      office = refl;
      cached = refl;
      last = refl;
      notes = refl;
    })
    (record {
      mails = ap (λ mails. mails seat) (mails_left seat e next locals) ∙ tied.tasks.mails;
      orphans = ap (λ tasks. tasks seat) rows.tasks' ∙ put-same w.tasks seat (left_task e next)
          ∙ ap (λ next. left_task e next) found';
      kept = tied.heap.kept ∙ sym (kept_here here e next is) ∙ ap (λ next. kept_parted here e next) found';
      spares = rows.spares' seat ∙ put-same w.spares seat (w.spares seat) ∙ tied.heap.spares;
    }) tied.tasks.objects

-- the exchange is won: the heap keeps the slab no more
leave_left : (k : Key) (w : Whole) (l : Local) (e : ℕ) (at : PushAt) → WholeGood k w
    → left_by w e (LeaveAt.Push at) ≡ LeaveNext.Left → LeadsOn k w (leave_at l e (LeaveAt.Push at))
leave_left k w l e at good won tied word suits =
    let push : LeaveAt = LeaveAt.Push at in
    let here : Local = leave_at l e push in
    let seat : ℕ = l.seat in
    let same = same_call k w here e push good tied.tasks.orphans tied.heap.kept in
    let found' : LeaveNext.Left ≡ leave_learn push (found_in w here) =
    sym won ∙ ap (λ call. leave_learn push (found w.pool.mem (leave_course call push))) same in
    let later : Whole = with_post (post_left seat e
    (after k w.pool.mem (leave_course (leave_of (locals_of (post_of w)) e) push)) (post_of w)) w in
    leads_on k w here tt tied word suits later
    (steps_on stays (WholeStep.posts _ (PostStep.leaves e at tied.tasks.orphans won) tt (free k w here tt tied)))
    (ap (λ call. after k w.pool.mem (leave_course call push)) same)
    (record {
      guards = refl;
      bins = refl;
      queue = refl;
      jobs = refl;
      desks = refl;
      office = refl;
      cached = refl;
      last = refl;
      notes = refl;
    })
    (record {
      mails = tied.tasks.mails;
      orphans = put-same w.tasks seat Task.Away ∙ ap (λ next. left_task e next) found';
      kept = put-same w.pool.kept seat (after_remove (w.pool.kept seat) e)
          ∙ ap (λ kept. after_remove kept e) tied.heap.kept ∙ ap (λ next. kept_parted here e next) found';
      spares = tied.heap.spares;
    }) tied.tasks.objects

leave_pushes : (k : Key) (w : Whole) (l : Local) (e : ℕ) (at : PushAt) (next : PushNext) → WholeGood k w
    → push_learn at (found w.pool.mem (leave_course (leave_of (locals_of (post_of w)) e) (LeaveAt.Push at))) ≡ next
    → LeadsOn k w (leave_at l e (LeaveAt.Push at))
leave_pushes k w l e at (PushNext.Goes then) good is =
    leave_on k w l e (LeaveAt.Push at) good (subst (λ next. IsNotLeft (leave_pushed next)) (sym is) tt)
leave_pushes k w l e at (PushNext.Pushed f) good is =
    leave_left k w l e at good (ap (λ next. leave_pushed next) is)

pub leave_turn : (k : Key) (w : Whole) (l : Local) (e : ℕ) (at : LeaveAt) → WholeGood k w
    → LeadsOn k w (leave_at l e at)
leave_turn k w l e LeaveAt.Close good =
    let f : ℕ = found w.pool.mem (leave_course (leave_of (locals_of (post_of w)) e) LeaveAt.Close) in
    leave_on k w l e LeaveAt.Close good (closed_on (public_of f))
leave_turn k w l e LeaveAt.Header good = leave_on k w l e LeaveAt.Header good tt
leave_turn k w l e LeaveAt.Disown good = leave_on k w l e LeaveAt.Disown good tt
leave_turn k w l e (LeaveAt.Push at) good =
    let f : ℕ = found w.pool.mem (leave_course (leave_of (locals_of (post_of w)) e) (LeaveAt.Push at)) in
    leave_pushes k w l e at (push_learn at f) good refl
