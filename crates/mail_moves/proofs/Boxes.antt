-- A seat mails a slab, or takes a mailbox and deals with the slabs in it.
use Rattle.std.proofs.Common.{◌+◌, ℕ, Option, None, refl, sym, ap, ◌∙◌}
use Rattle.mailbox.specs.declared.boxes.BoxAt.{BoxAt}
use Rattle.mailbox.specs.declared.boxes.BoxNext.{BoxNext}
use Rattle.mailbox.specs.declared.mailing.MailAt.{MailAt}
use Rattle.mailbox.specs.Boxes.{box_learn}
use Rattle.mailbox.specs.Mailing.{mail_course, mail_learn}
use Rattle.heap_slabs.specs.Slabs.{after_join_of}
use Rattle.pool_types.specs.Sums.{capped}
use Rattle.pool_words.specs.declared.words.Key.{Key}
use Rattle.public_list.specs.declared.joining.JoinAt.{JoinAt}
use Rattle.public_list.specs.declared.joining.JoinNext.{JoinNext}
use Rattle.public_list.specs.Joining.{join_course, join_learn}
use Rattle.word_codes.specs.Marks.{mark_of}
use Rattle.word_codes.specs.Publics.{public_of}
use Rattle.word_laws.specs.Memory.{after}
use Rattle.word_laws.proofs.CallerLemmas.{put-same}
use Rattle.mail_laws.specs.Steps.{mail_of, task_fetched}
use Rattle.object_laws.specs.Objects as objects
use Rattle.use_laws.specs.After.{pool_joined}
use Rattle.post_laws.specs.After.{mails_of, pool_listed, pool_settled, post_fetched, post_mailed}
use Rattle.post_laws.specs.Steps.{PostStep}
use Rattle.pool_laws.specs.Changes.{with_post}
use Rattle.pool_laws.specs.Steps.{WholeStep}
use Rattle.pool_laws.specs.Wholes.{Whole, WholeGood, post_of}
use Rattle.step_local.specs.declared.frames.At.{At}
use Rattle.step_local.specs.declared.frames.Local.{Local}
use Rattle.step_local.specs.Course.{course}
use Rattle.step_local.specs.Objects.{mail_call}
use Rattle.step_tasks.specs.Mail.{mailed_task}
use Rattle.step_tasks.specs.Objects.{joined_task}
use Rattle.step_tasks.proofs.CallerLemmas.{rows_leave_mail_tasks, rows_leave_object_tasks}
use Rattle.seat_ties.specs.Turns.{goes_on, stays, steps_on, found_in}
use Rattle.mail_moves.proofs.Joined.{head_here, kept_taken, kept_walked, lasts_joined, notes_joined}
use Rattle.mail_moves.proofs.Stays.{LeadsOn, free, leads, leads_on}

abbrev pub mail_at : Local → MailAt → Local
mail_at l at = record l { at = At.Mail at }

pub mail_turn : (k : Key) (w : Whole) (l : Local) (at : MailAt) → LeadsOn k w (mail_at l at)
mail_turn k w l at tied word suits =
    let here : Local = mail_at l at in
    let seat : ℕ = l.seat in
    let e : ℕ = (mail_call here).slab in
    let next = mail_learn at (found_in w here) in
    let later : Whole =
    with_post (post_mailed seat e next (after k w.pool.mem (mail_course (mail_of e) at)) (post_of w)) w in
    leads_on k w here tt tied word suits later
    (steps_on stays (WholeStep.posts _ (PostStep.mails e at tied.tasks.mails) tt (free k w here tt tied))) refl
    (record {
      guards = refl;
      bins = refl;
      queue = refl;
      jobs = refl;
      desks = refl;
      office = refl;
      cached = refl;
      last = refl;
      notes = refl;
    })
    (record {
      mails = ap (λ tasks. tasks seat) ((rows_leave_mail_tasks seat (mails_of (post_of w))).mails e next)
          ∙ put-same w.mails seat (mailed_task e next);
      orphans = tied.tasks.orphans;
      kept = tied.heap.kept;
      spares = tied.heap.spares;
    }) tied.tasks.objects

abbrev pub box_at : Local → BoxAt → Local
box_at l at = record l { at = At.Mailbox at }

take_box : (k : Key) (w : Whole) (l : Local) → LeadsOn k w (box_at l BoxAt.Take)
take_box k w l tied word suits =
    let here : Local = box_at l BoxAt.Take in
    let seat : ℕ = l.seat in
    let class : ℕ = l.fetch.class in
    let next : BoxNext = box_learn BoxAt.Take (found_in w here) in
    let later : Whole = with_post (post_fetched seat class BoxAt.Take next
    (record w.pool { mem = after k w.pool.mem (course here) }) (post_of w)) w in
    leads_on k w here tt tied word suits later
    (steps_on stays (WholeStep.posts _ (PostStep.takes_box class None tied.tasks.mails) tt (free k w here tt tied)))
    refl
    (record {
      guards = refl;
      bins = refl;
      queue = refl;
      jobs = refl;
      desks = refl;
      office = refl;
      cached = refl;
      last = refl;
      notes = refl;
    })
    (record {
      mails = put-same w.mails seat (task_fetched class next);
      orphans = tied.tasks.orphans;
      kept = tied.heap.kept;
      spares = tied.heap.spares;
    }) tied.tasks.objects

read_next : (k : Key) (w : Whole) (l : Local) (e : ℕ) → LeadsOn k w (box_at l (BoxAt.Next e))
read_next k w l e tied word suits =
    let here : Local = box_at l (BoxAt.Next e) in
    let seat : ℕ = l.seat in
    let class : ℕ = l.fetch.class in
    let next : BoxNext = box_learn (BoxAt.Next e) (found_in w here) in
    let later : Whole = with_post (post_fetched seat class (BoxAt.Next e) next w.pool (post_of w)) w in
    leads_on k w here tt tied word suits later
    (steps_on stays (WholeStep.posts _ (PostStep.reads_next class e None tied.tasks.mails) tt (free k w here tt tied)))
    refl
    (record {
      guards = refl;
      bins = refl;
      queue = refl;
      jobs = refl;
      desks = refl;
      office = refl;
      cached = refl;
      last = refl;
      notes = refl;
    })
    (record {
      mails = put-same w.mails seat (task_fetched class next);
      orphans = tied.tasks.orphans;
      kept = tied.heap.kept;
      spares = tied.heap.spares;
    }) tied.tasks.objects

-- with the store that names the mailbox the seat is about to take what was given back
settle : (k : Key) (w : Whole) (l : Local) (e : ℕ) (rest : Option ℕ) → LeadsOn k w (box_at l (BoxAt.Settle e rest))
settle k w l e rest tied word suits =
    let here : Local = box_at l (BoxAt.Settle e rest) in
    let seat : ℕ = l.seat in
    let class : ℕ = l.fetch.class in
    let next : BoxNext = box_learn (BoxAt.Settle e rest) 0 in
    let later : Whole = with_post (post_fetched seat class (BoxAt.Settle e rest) next
    (pool_settled seat e (after k w.pool.mem (course here)) w.pool) (post_of w)) w in
    leads k w here tt tied word suits later
    (steps_on stays
    (WholeStep.posts _ (PostStep.settles class e rest None tied.tasks.mails) tt (free k w here tt tied)))
    refl
    (record {
      guards = refl;
      bins = refl;
      queue = refl;
      jobs = refl;
      desks = refl;
      office = refl;
      cached = refl;
      last = refl;
      notes = refl;
    })
    (record {
      mails = put-same w.mails seat (task_fetched class next);
      orphans = tied.tasks.orphans;
      kept = tied.heap.kept;
      spares = tied.heap.spares;
    }) (goes_on (put-same w.pool.locals.tasks seat (objects.Task.Joining e JoinAt.Take)))

take_list : (k : Key) (w : Whole) (l : Local) (e : ℕ) (rest : Option ℕ)
    → LeadsOn k w (box_at l (BoxAt.Join e rest JoinAt.Take))
take_list k w l e rest tied word suits =
    let at : BoxAt = BoxAt.Join e rest JoinAt.Take in
    let here : Local = box_at l at in
    let seat : ℕ = l.seat in
    let class : ℕ = l.fetch.class in
    let f : ℕ = found_in w here in
    let joined : JoinNext = join_learn JoinAt.Take f in
    let later : Whole = with_post (post_fetched seat class at (box_learn at f)
    (pool_listed seat e JoinAt.Take joined (after k w.pool.mem (course here)) w.pool) (post_of w)) w in
    leads_on k w here tt tied word suits later
    (steps_on stays (WholeStep.posts _ (PostStep.takes_list class e rest tied.tasks.mails) tt (free k w here tt tied)))
    refl
    (record {
      guards = refl;
      bins = refl;
      queue = refl;
      jobs = refl;
      desks = refl;
      office = refl;
      cached = refl;
      last = lasts_joined seat e joined w.pool.locals;
      notes = notes_joined seat e joined w.pool.locals;
    })
    (record {
      mails = put-same w.mails seat (task_fetched class (box_learn at f));
      orphans = tied.tasks.orphans;
      kept = tied.heap.kept ∙ sym (kept_taken here e (public_of f));
      spares = tied.heap.spares;
    })
    (ap (λ tasks. tasks seat) ((rows_leave_object_tasks seat w.pool.locals).joins e joined)
    ∙ put-same w.pool.locals.tasks seat (joined_task e joined))

walk : (k : Key) (w : Whole) (l : Local) (e : ℕ) (rest : Option ℕ) (first on count : ℕ)
    → LeadsOn k w (box_at l (BoxAt.Join e rest (JoinAt.Walk first on count)))
walk k w l e rest first on count tied word suits =
    let walks : JoinAt = JoinAt.Walk first on count in
    let at : BoxAt = BoxAt.Join e rest walks in
    let here : Local = box_at l at in
    let seat : ℕ = l.seat in
    let class : ℕ = l.fetch.class in
    let f : ℕ = found_in w here in
    let joined : JoinNext = join_learn walks f in
    let later : Whole = with_post (post_fetched seat class at (box_learn at f)
    (pool_listed seat e walks joined w.pool.mem w.pool) (post_of w)) w in
    leads_on k w here tt tied word suits later
    (steps_on stays
    (WholeStep.posts _ (PostStep.walks class e rest first on count tied.tasks.mails) tt (free k w here tt tied)))
    refl
    (record {
      guards = refl;
      bins = refl;
      queue = refl;
      jobs = refl;
      desks = refl;
      office = refl;
      cached = refl;
      last = lasts_joined seat e joined w.pool.locals;
      notes = notes_joined seat e joined w.pool.locals;
    })
    (record {
      mails = put-same w.mails seat (task_fetched class (box_learn at f));
      orphans = tied.tasks.orphans;
      kept = tied.heap.kept ∙ sym (kept_walked here e first on (capped (count + 1)) (mark_of f));
      spares = tied.heap.spares;
    })
    (ap (λ tasks. tasks seat) ((rows_leave_object_tasks seat w.pool.locals).joins e joined)
    ∙ put-same w.pool.locals.tasks seat (joined_task e joined))

tie : (k : Key) (w : Whole) (l : Local) (e : ℕ) (rest : Option ℕ) (first last count : ℕ) → WholeGood k w
    → LeadsOn k w (box_at l (BoxAt.Join e rest (JoinAt.Tie first last count)))
tie k w l e rest first last count good tied word suits =
    let ties : JoinAt = JoinAt.Tie first last count in
    let at : BoxAt = BoxAt.Join e rest ties in
    let here : Local = box_at l at in
    let seat : ℕ = l.seat in
    let class : ℕ = l.fetch.class in
    let later : Whole = with_post (post_fetched seat class at (box_learn at 0)
    (pool_joined k seat e first last count w.pool) (post_of w)) w in
    leads_on k w here tt tied word suits later
    (steps_on stays
    (WholeStep.posts _ (PostStep.ties class e rest first last count tied.tasks.mails) tt (free k w here tt tied)))
    (ap (λ head. after k w.pool.mem (join_course (record { slab = e; head = head }) ties))
    (head_here k w here e ties good tied.tasks.objects tied.heap.kept))
    (record {
      guards = refl;
      bins = refl;
      queue = refl;
      jobs = refl;
      desks = refl;
      office = refl;
      cached = refl;
      last = refl;
      notes = refl;
    })
    (record {
      mails = put-same w.mails seat (task_fetched class (box_learn at 0));
      orphans = tied.tasks.orphans;
      kept = put-same w.pool.kept seat (after_join_of (w.pool.kept seat) e first count)
          ∙ ap (λ kept. after_join_of kept e first count) tied.heap.kept;
      spares = tied.heap.spares;
    })
    (put-same w.pool.locals.tasks seat objects.Task.Away)

join_turn : (k : Key) (w : Whole) (l : Local) (e : ℕ) (rest : Option ℕ) (at : JoinAt) → WholeGood k w
    → LeadsOn k w (box_at l (BoxAt.Join e rest at))
join_turn k w l e rest JoinAt.Take good = take_list k w l e rest
join_turn k w l e rest (JoinAt.Walk first on count) good = walk k w l e rest first on count
join_turn k w l e rest (JoinAt.Tie first last count) good = tie k w l e rest first last count good

pub box_turn : (k : Key) (w : Whole) (l : Local) (at : BoxAt) → WholeGood k w → LeadsOn k w (box_at l at)
box_turn k w l BoxAt.Take good = take_box k w l
box_turn k w l (BoxAt.Next e) good = read_next k w l e
box_turn k w l (BoxAt.Settle e rest) good = settle k w l e rest
box_turn k w l (BoxAt.Join e rest at) good = join_turn k w l e rest at good
