-- A seat takes what was given back to a slab that it adopted, walks it and joins it, and goes on to the next orphan.
use Rattle.std.proofs.Common.{◌≡◌, ◌+◌, ℕ, Bool, Option, Some, None, refl, sym, ap, ◌∙◌}
use Rattle.heap_slabs.specs.Slabs.{after_join_of}
use Rattle.pool_types.specs.Sums.{capped}
use Rattle.pool_words.specs.declared.words.Key.{Key}
use Rattle.public_list.specs.declared.joining.JoinAt.{JoinAt}
use Rattle.public_list.specs.declared.joining.JoinNext.{JoinNext}
use Rattle.public_list.specs.Joining.{join_course, join_learn, join_taken, join_walked}
use Rattle.word_codes.specs.declared.marks.Mark.{Mark}
use Rattle.word_codes.specs.declared.publics.Public.{Public}
use Rattle.word_codes.specs.Marks.{mark_of}
use Rattle.word_codes.specs.Publics.{public_of}
use Rattle.word_laws.specs.Memory.{after, put}
use Rattle.word_laws.proofs.CallerLemmas.{put-same}
use Rattle.object_laws.specs.Objects as objects
use Rattle.mail_laws.specs.Mail.{Mail}
use Rattle.orphan_laws.specs.Orphans.{Locals, Task}
use Rattle.orphan_laws.specs.Steps.{OrphanStep, rested_on, with_way}
use Rattle.use_laws.specs.After.{pool_joined}
use Rattle.post_laws.specs.Posts.{locals_of}
use Rattle.pool_laws.specs.Changes.{with_pool, with_ways}
use Rattle.pool_laws.specs.Steps.{IsFree, WholeStep, pool_back}
use Rattle.pool_laws.specs.Wholes.{Whole, WholeGood, post_of}
use Rattle.step_local.specs.declared.frames.At.{At}
use Rattle.step_local.specs.declared.frames.Local.{Local}
use Rattle.step_local.specs.declared.frames.Stage.{Stage}
use Rattle.step_local.specs.Slabs.{adopts_enough, with_joined}
use Rattle.step_tasks.specs.Objects.{joined_task}
use Rattle.step_tasks.proofs.CallerLemmas.{rows_leave_object_tasks}
use Rattle.orphan_tasks.specs.Orphans.{joined_left, rested_task, slab_left}
use Rattle.orphan_tasks.proofs.CallerLemmas.{rows_leave_orphan_tasks}
use Rattle.seat_ties.specs.Turns.{IsNoReset, NoReset, found_in, stays, steps_on}
use Rattle.mail_moves.proofs.Joined.{head_here, kept_taken, kept_walked, lasts_joined, notes_joined}
use Rattle.mail_moves.proofs.Stays.{LeadsOn, free, leads_on}

-- outside of a reset the next orphan is adopted or put aside
slab_rests : (l : Local) (e : ℕ) (rest : Option ℕ) (stage : Stage) → NoReset stage
    → slab_left l e rest stage ≡ rested_task l.fetch.class (adopts_enough l e) rest
slab_rests l e rest Stage.Idle calm = refl
slab_rests l e rest Stage.Looking calm = refl
slab_rests l e rest Stage.Getting calm = refl
slab_rests l e rest Stage.Ending calm = refl
slab_rests l e rest Stage.Replacing calm = refl
slab_rests l e rest Stage.Undoing calm = refl
slab_rests l e rest Stage.Leaving calm = refl
slab_rests l e rest (Stage.Resetting stage) calm = absurd calm

-- that changes no task with mail, and none that is to be pushed back
mails_rested : (seat class : ℕ) (enough : Bool) (rest : Option ℕ) (l : Locals)
    → (rested_on seat class enough rest l).mails ≡ l.mails
mails_rested seat class enough None l = refl
mails_rested seat class enough (Some e) l = refl

spares_rested : (seat class : ℕ) (enough : Bool) (rest : Option ℕ) (l : Locals)
    → (rested_on seat class enough rest l).spares ≡ l.spares
spares_rested seat class enough None l = refl
spares_rested seat class enough (Some e) l = refl

abbrev rested_whole : ℕ → ℕ → Bool → Option ℕ → Whole → Whole
rested_whole seat class enough rest w =
    with_ways w.ways w.pool.mem (rested_on seat class enough rest (locals_of (post_of w))) w

rests_on : (k : Key) (w : Whole) (seat class : ℕ) (enough : Bool) (rest : Option ℕ)
    → w.tasks seat ≡ Task.Resting class rest → w.pool.locals.tasks seat ≡ objects.Task.Away → IsFree w seat
    → WholeStep k seat w (rested_whole seat class enough rest w)
rests_on k w seat class enough rest is away free =
    WholeStep.orphans w.ways w.pool.mem (rested_on seat class enough rest (locals_of (post_of w)))
    (OrphanStep.goes_on seat class rest enough is) (refl, away) free

tasks_rested : (w : Whole) (seat class : ℕ) (enough : Bool) (rest : Option ℕ)
    → (rested_whole seat class enough rest w).tasks seat ≡ rested_task class enough rest
tasks_rested w seat class enough rest =
    let rows = rows_leave_orphan_tasks seat (locals_of (post_of w)) in
    ap (λ tasks. tasks seat) (rows.rests class enough rest).tasks'
    ∙ put-same w.tasks seat (rested_task class enough rest)

abbrev pub join_at : Local → ℕ → Option ℕ → JoinAt → Local
join_at l e rest at = record l { at = At.Join e rest at }

-- the whole once the list was taken
abbrev taken_whole : Key → ℕ → ℕ → ℕ → Option ℕ → Whole → Whole
taken_whole k seat class e rest w = record w {
  pool = pool_back k seat e JoinAt.Take w.pool;
  ways = with_way e Mail.Rest w.ways;
  tasks = put w.tasks seat (Task.Resting class rest);
}

-- objects were given back: they are to be walked
take_goes : (k : Key) (w : Whole) (l : Local) (e : ℕ) (rest : Option ℕ) (at : JoinAt)
    → join_learn JoinAt.Take (found_in w (join_at l e rest JoinAt.Take)) ≡ JoinNext.Goes at
    → LeadsOn k w (join_at l e rest JoinAt.Take)
take_goes k w l e rest at goes tied word suits =
    let here : Local = join_at l e rest JoinAt.Take in
    let seat : ℕ = l.seat in
    let class : ℕ = l.fetch.class in
    let f : ℕ = found_in w here in
    let joined : JoinNext = join_learn JoinAt.Take f in
    leads_on k w here tt tied word suits (taken_whole k seat class e rest w)
    (steps_on stays (WholeStep.takes_back class e rest tied.tasks.orphans (free k w here tt tied))) refl
    (record {
      guards = refl;
      bins = refl;
      queue = refl;
      jobs = refl;
      desks = refl;
      office = refl;
      cached = refl;
      last = lasts_joined seat e joined w.pool.locals;
      notes = notes_joined seat e joined w.pool.locals;
    })
    (record {
      mails = tied.tasks.mails;
      orphans = put-same w.tasks seat (Task.Resting class rest) ∙ sym (ap (λ next. joined_left here e rest next) goes);
      kept = tied.heap.kept ∙ sym (kept_taken here e (public_of f));
      spares = tied.heap.spares;
    })
    (ap (λ tasks. tasks seat) ((rows_leave_object_tasks seat w.pool.locals).joins e joined)
    ∙ put-same w.pool.locals.tasks seat (joined_task e joined))

-- nothing was: the seat goes on with the next orphan at once
take_ends : (k : Key) (w : Whole) (l : Local) (e : ℕ) (rest : Option ℕ)
    → join_learn JoinAt.Take (found_in w (join_at l e rest JoinAt.Take)) ≡ JoinNext.Nothing → IsNoReset l
    → LeadsOn k w (join_at l e rest JoinAt.Take)
take_ends k w l e rest ends calm tied word suits =
    let here : Local = join_at l e rest JoinAt.Take in
    let seat : ℕ = l.seat in
    let class : ℕ = l.fetch.class in
    let f : ℕ = found_in w here in
    let joined : JoinNext = join_learn JoinAt.Take f in
    let enough : Bool = adopts_enough here e in
    let between : Whole = taken_whole k seat class e rest w in
    let locals = locals_of (post_of between) in
    let free = free k w here tt tied in
    let done : between.pool.locals.tasks seat ≡ joined_task e joined =
    ap (λ tasks. tasks seat) ((rows_leave_object_tasks seat w.pool.locals).joins e joined)
    ∙ put-same w.pool.locals.tasks seat (joined_task e joined) in
    leads_on k w here tt tied word suits (rested_whole seat class enough rest between)
    (steps_on (steps_on stays (WholeStep.takes_back class e rest tied.tasks.orphans free))
    (rests_on k between seat class enough rest (put-same w.tasks seat (Task.Resting class rest))
    (done ∙ ap (λ next. joined_task e next) ends) (record { shelf = free.shelf; queue = free.queue }))) refl
    (record {
      guards = refl;
      bins = refl;
      queue = refl;
      jobs = refl;
      desks = refl;
      office = refl;
      cached = refl;
      last = lasts_joined seat e joined w.pool.locals;
      notes = notes_joined seat e joined w.pool.locals;
    })
    (record {
      mails = ap (λ mails. mails seat) (mails_rested seat class enough rest locals) ∙ tied.tasks.mails;
      orphans = tasks_rested between seat class enough rest ∙ sym (slab_rests here e rest l.call.stage calm)
          ∙ sym (ap (λ next. joined_left here e rest next) ends);
      kept = tied.heap.kept ∙ sym (kept_taken here e (public_of f));
      spares = ap (λ spares. spares seat) (spares_rested seat class enough rest locals) ∙ tied.heap.spares;
    }) done

take_back : (k : Key) (w : Whole) (l : Local) (e : ℕ) (rest : Option ℕ) (public : Public)
    → public_of (found_in w (join_at l e rest JoinAt.Take)) ≡ public → IsNoReset l
    → LeadsOn k w (join_at l e rest JoinAt.Take)
take_back k w l e rest Public.Null is calm = take_ends k w l e rest (ap (λ public. join_taken public) is) calm
take_back k w l e rest Public.Unusable is calm = take_ends k w l e rest (ap (λ public. join_taken public) is) calm
take_back k w l e rest (Public.Filled first) is calm =
    take_goes k w l e rest (JoinAt.Walk first first 0) (ap (λ public. join_taken public) is)

-- the walk goes on, or the last object was found
walked_on : (first on count : ℕ) (mark : Mark) → (at : JoinAt) × (join_walked first on count mark ≡ JoinNext.Goes at)
walked_on first on count Mark.Unmarked = (JoinAt.Tie first on count, refl)
walked_on first on count (Mark.Granted grant) = (JoinAt.Tie first on count, refl)
walked_on first on count (Mark.Hand seat) = (JoinAt.Tie first on count, refl)
walked_on first on count (Mark.Link next) = (JoinAt.Walk first next count, refl)
walked_on first on count Mark.End = (JoinAt.Tie first on count, refl)
walked_on first on count Mark.EndUnusable = (JoinAt.Tie first on count, refl)

walk_back : (k : Key) (w : Whole) (l : Local) (e : ℕ) (rest : Option ℕ) (first on count : ℕ)
    → LeadsOn k w (join_at l e rest (JoinAt.Walk first on count))
walk_back k w l e rest first on count tied word suits =
    let walks : JoinAt = JoinAt.Walk first on count in
    let here : Local = join_at l e rest walks in
    let seat : ℕ = l.seat in
    let class : ℕ = l.fetch.class in
    let f : ℕ = found_in w here in
    let joined : JoinNext = join_learn walks f in
    let goes = walked_on first on (capped (count + 1)) (mark_of f) in
    leads_on k w here tt tied word suits (with_pool (pool_back k seat e walks w.pool) w)
    (steps_on stays (WholeStep.walks_back class e first on count rest tied.tasks.orphans tied.tasks.objects
    (free k w here tt tied))) refl
    (record {
      guards = refl;
      bins = refl;
      queue = refl;
      jobs = refl;
      desks = refl;
      office = refl;
      cached = refl;
      last = lasts_joined seat e joined w.pool.locals;
      notes = notes_joined seat e joined w.pool.locals;
    })
    (record {
      mails = tied.tasks.mails;
      orphans = tied.tasks.orphans ∙ sym (ap (λ next. joined_left here e rest next) goes.1);
      kept = tied.heap.kept ∙ sym (kept_walked here e first on (capped (count + 1)) (mark_of f));
      spares = tied.heap.spares;
    })
    (ap (λ tasks. tasks seat) ((rows_leave_object_tasks seat w.pool.locals).joins e joined)
    ∙ put-same w.pool.locals.tasks seat (joined_task e joined))

-- with the last mark the objects are the slab's own, and the seat goes on with the next orphan at once
tie_back : (k : Key) (w : Whole) (l : Local) (e : ℕ) (rest : Option ℕ) (first last count : ℕ) → WholeGood k w
    → IsNoReset l → LeadsOn k w (join_at l e rest (JoinAt.Tie first last count))
tie_back k w l e rest first last count good calm tied word suits =
    let ties : JoinAt = JoinAt.Tie first last count in
    let here : Local = join_at l e rest ties in
    let seat : ℕ = l.seat in
    let class : ℕ = l.fetch.class in
    let then : Local = with_joined here e first count in
    let enough : Bool = adopts_enough then e in
    let between : Whole = with_pool (pool_joined k seat e first last count w.pool) w in
    let locals = locals_of (post_of between) in
    let free = free k w here tt tied in
    let done = put-same w.pool.locals.tasks seat objects.Task.Away in
    leads_on k w here tt tied word suits (rested_whole seat class enough rest between)
    (steps_on (steps_on stays
    (WholeStep.ties_back class e first last count rest tied.tasks.orphans tied.tasks.objects free))
    (rests_on k between seat class enough rest tied.tasks.orphans done
    (record { shelf = free.shelf; queue = free.queue })))
    (ap (λ head. after k w.pool.mem (join_course (record { slab = e; head = head }) ties))
    (head_here k w here e ties good tied.tasks.objects tied.heap.kept))
    (record {
      guards = refl;
      bins = refl;
      queue = refl;
      jobs = refl;
      desks = refl;
      office = refl;
      cached = refl;
      last = refl;
      notes = refl;
    })
    (record {
      mails = ap (λ mails. mails seat) (mails_rested seat class enough rest locals) ∙ tied.tasks.mails;
      orphans = tasks_rested between seat class enough rest ∙ sym (slab_rests then e rest l.call.stage calm);
      kept = put-same w.pool.kept seat (after_join_of (w.pool.kept seat) e first count)
          ∙ ap (λ kept. after_join_of kept e first count) tied.heap.kept;
      spares = ap (λ spares. spares seat) (spares_rested seat class enough rest locals) ∙ tied.heap.spares;
    }) done

pub back_turn : (k : Key) (w : Whole) (l : Local) (e : ℕ) (rest : Option ℕ) (at : JoinAt) → WholeGood k w
    → IsNoReset l → LeadsOn k w (join_at l e rest at)
back_turn k w l e rest JoinAt.Take good calm =
    take_back k w l e rest (public_of (found_in w (join_at l e rest JoinAt.Take))) refl calm
back_turn k w l e rest (JoinAt.Walk first on count) good calm = walk_back k w l e rest first on count
back_turn k w l e rest (JoinAt.Tie first last count) good calm = tie_back k w l e rest first last count good calm
