-- A seat takes the orphans of a class, and adopts or puts aside one after the other.
use Rattle.std.proofs.Common.{◌≡◌, ◌+◌, ◌<◌, ℕ, Option, Some, None, true, false, Bool, cond, eqb, refl, sym}
use Rattle.std.proofs.Common.{ap, ◌∙◌, subst, arith}
use Rattle.std.proofs.lemmas.Bool.{eqb-true}
use Rattle.heap_slabs.specs.Records.{of_header}
use Rattle.heap_slabs.specs.Rolls.{after_push, newest_of}
use Rattle.heap_slabs.specs.Slabs.{after_add}
use Rattle.orphans.specs.declared.adopting.AdoptAt.{AdoptAt}
use Rattle.orphans.specs.declared.adopting.AdoptNext.{AdoptNext}
use Rattle.orphans.specs.Adopting.{adopt_learn, adopt_taken}
use Rattle.pool_words.specs.declared.words.Key.{Key}
use Rattle.pool_words.specs.Words.{headers}
use Rattle.public_list.specs.declared.joining.JoinAt.{JoinAt}
use Rattle.word_codes.specs.Links.{link_of}
use Rattle.word_laws.specs.Memory.{after, put}
use Rattle.word_laws.proofs.CallerLemmas.{put-same}
use Rattle.chain_laws.specs.Chains.{tally}
use Rattle.chain_laws.proofs.CallerLemmas.{tally-here}
use Rattle.slab_laws.specs.Books.{Book, IsLeft, Keeper}
use Rattle.object_laws.specs.Objects as objects
use Rattle.orphan_laws.specs.Orphans.{Locals, Task, TaskFits, is_adopting}
use Rattle.orphan_laws.specs.Steps.{OrphanStep, adopted_as, book_adopted, shadow_adopted, spared_on, sparing, with_book}
use Rattle.post_laws.specs.Posts.{locals_of, words_of}
use Rattle.post_laws.specs.After.{post_adopted, post_taken, task_taken}
use Rattle.post_laws.specs.Steps.{PostStep}
use Rattle.pool_laws.specs.Changes.{with_post, with_ways}
use Rattle.pool_laws.specs.Steps.{IsNotDealt, WholeStep}
use Rattle.pool_laws.specs.Wholes.{Whole, WholeGood, post_of}
use Rattle.step_local.specs.declared.frames.At.{At}
use Rattle.step_local.specs.declared.frames.Local.{Local}
use Rattle.step_local.specs.Course.{course}
use Rattle.orphan_tasks.specs.Orphans.{adopted_spares, adopted_task, spares_of}
use Rattle.orphan_tasks.proofs.CallerLemmas.{rows_leave_orphan_tasks}
use Rattle.heap_tasks.specs.Heaps.{kept_adopted, kept_of}
use Rattle.seat_ties.specs.Turns.{found_in, goes_on, stays, steps_on}
use Rattle.mail_moves.proofs.Stays.{LeadsOn, free, leads, leads_on}

abbrev pub adopt_at : Local → AdoptAt → Local
adopt_at l at = record l { at = At.Adopt at }

kept_chained : (l : Local) (first : Option ℕ) → kept_adopted l (adopt_taken first) ≡ kept_of l
kept_chained l None = refl
kept_chained l (Some e) = refl

spares_chained : (l : Local) (first : Option ℕ) → adopted_spares (spares_of l) (adopt_taken first) ≡ spares_of l
spares_chained l None = refl
spares_chained l (Some e) = refl

take_orphans : (k : Key) (w : Whole) (l : Local) → LeadsOn k w (adopt_at l AdoptAt.Take)
take_orphans k w l tied word suits =
    let here : Local = adopt_at l AdoptAt.Take in
    let seat : ℕ = l.seat in
    let class : ℕ = l.fetch.class in
    let first : Option ℕ = link_of (found_in w here) in
    let later : Whole = with_post (post_taken seat class first (after k w.pool.mem (course here)) (post_of w)) w in
    leads_on k w here tt tied word suits later
    (steps_on stays (WholeStep.posts _ (PostStep.takes_orphans class tied.tasks.orphans) tt (free k w here tt tied)))
    refl
    (record {
      guards = refl;
      bins = refl;
      queue = refl;
      jobs = refl;
      desks = refl;
      office = refl;
      cached = refl;
      last = refl;
      notes = refl;
    })
    (record {
      mails = tied.tasks.mails;
      orphans = put-same w.tasks seat (task_taken class first)
          ∙ (rows_leave_orphan_tasks seat (locals_of (post_of w))).takes class first
          ∙ ap (λ spares. adopted_task class spares (adopt_taken first)) tied.heap.spares;
      kept = tied.heap.kept ∙ sym (kept_chained here first);
      spares = tied.heap.spares ∙ sym (spares_chained here first);
    }) tied.tasks.objects

-- a slab that a seat has once in hand is the seat's to adopt
adopting_here : (seat other : ℕ) (same : Bool) → eqb other seat ≡ same → 0 < cond same 1 0
    → Keeper.Adopting other ≡ Keeper.Adopting seat
adopting_here seat other true is one = ap (λ s. Keeper.Adopting s) (eqb-true other seat is)
adopting_here seat other false is one = absurd (omega arith)

adopting_is : (seat : ℕ) (keeper : Keeper) → 0 < is_adopting seat keeper → keeper ≡ Keeper.Adopting seat
adopting_is seat Keeper.Nobody one = absurd (omega arith)
adopting_is seat (Keeper.By other) one = absurd (omega arith)
adopting_is seat Keeper.Orphan one = absurd (omega arith)
adopting_is seat (Keeper.Adopting other) one = adopting_here seat other (eqb other seat) refl one
adopting_is seat (Keeper.Cached other) one = absurd (omega arith)

-- what the seat has read of the orphan that it adopts
record Read (w : Whole) (class e header : ℕ) : Type 0 where
  pub class' : w.pool.locals.book.classes e ≡ class
  pub header' : w.pool.mem headers e ≡ header

read : (k : Key) (w : Whole) (seat class e header : ℕ) (rest : Option ℕ) → WholeGood k w
    → w.tasks seat ≡ Task.Adopting class (AdoptAt.Own e header rest) → Read w class e header
read k w seat class e header rest good is =
    let fits = subst (λ task. TaskFits k w.ways (words_of (post_of w)) seat task) is (good.post.orphans.tasks' seat) in
    let behind = fits.1.1 in
    let once = good.post.orphans.hands_once seat e in
    let here : tally e (w.ways.taken seat) ≡ 1 + tally e behind.0 =
    ap (λ taken. tally e taken) behind.1 ∙ tally-here e behind.0 in
    let keeper : w.pool.locals.book.keeper e ≡ Keeper.Adopting seat =
    adopting_is seat (w.pool.locals.book.keeper e) (omega (arith, once, here)) in
    record {
      class' = fits.0.of e keeper;
      header' = good.post.orphans.headers_fit e (subst (λ keeper. IsLeft keeper) (sym keeper) tt) ∙ sym fits.1.2;
    }

own : (k : Key) (w : Whole) (l : Local) (e header : ℕ) (rest : Option ℕ) → WholeGood k w
    → LeadsOn k w (adopt_at l (AdoptAt.Own e header rest))
own k w l e header rest good tied word suits =
    let here : Local = adopt_at l (AdoptAt.Own e header rest) in
    let seat : ℕ = l.seat in
    let class : ℕ = l.fetch.class in
    let book : Book = w.pool.locals.book in
    let is = read k w seat class e header rest good tied.tasks.orphans in
    let later : Whole = with_post (post_adopted seat class e rest (after k w.pool.mem (course here)) (post_of w)) w in
    leads k w here tt tied word suits later
    (steps_on stays (WholeStep.posts _ (PostStep.adopts class e header rest tied.tasks.orphans) tt
    (free k w here tt tied))) refl
    (record {
      guards = refl;
      bins = refl;
      queue = refl;
      jobs = refl;
      desks = refl;
      office = refl;
      cached = refl;
      last = refl;
      notes = refl;
    })
    (record {
      mails = tied.tasks.mails;
      orphans = put-same w.tasks seat (Task.Joining class e rest);
      kept = put-same w.pool.kept seat
          (after_add (w.pool.kept seat) (of_header e (book.classes e) (w.pool.mem headers e)))
          ∙ ap (λ kept. after_add kept (of_header e (book.classes e) (w.pool.mem headers e))) tied.heap.kept
          ∙ ap (λ c. after_add (kept_of l) (of_header e c (w.pool.mem headers e))) is.class'
          ∙ ap (λ word. after_add (kept_of l) (of_header e class word)) is.header';
      spares = tied.heap.spares;
    }) (goes_on (put-same w.pool.locals.tasks seat (objects.Task.Joining e JoinAt.Take)))

-- an orphan that is dealt with changes no task with mail
pub mails_spared : (seat class : ℕ) (newest : Option ℕ) (l : Locals) → (sparing seat class newest l).mails ≡ l.mails
mails_spared seat class None l = refl
mails_spared seat class (Some e) l = refl

mails_behind : (seat class : ℕ) (rest : Option ℕ) (l : Locals) → (spared_on seat class rest l).mails ≡ l.mails
mails_behind seat class None l = mails_spared seat class (newest_of (l.spares seat)) l
mails_behind seat class (Some e) l = refl

mails_adopted : (seat class : ℕ) (next : AdoptNext) (l : Locals) → (adopted_as seat class next l).mails ≡ l.mails
mails_adopted seat class (AdoptNext.Goes at) l = refl
mails_adopted seat class AdoptNext.Empty l = refl
mails_adopted seat class (AdoptNext.Adopted e header rest) l = refl
mails_adopted seat class (AdoptNext.Spared e rest) l =
    mails_behind seat class rest (record l { spares = put l.spares seat (after_push (l.spares seat) e) })

kept_dealt : (l : Local) (at : AdoptAt) (f : ℕ) → IsNotDealt at → kept_adopted l (adopt_learn at f) ≡ kept_of l
kept_dealt l AdoptAt.Take f is = absurd is
kept_dealt l (AdoptAt.Header e) f is = refl
kept_dealt l (AdoptAt.Next e header) f is = refl
kept_dealt l (AdoptAt.Settle e header rest) f is = refl
kept_dealt l (AdoptAt.Own e header rest) f is = absurd is
kept_dealt l (AdoptAt.Spare e) f is = refl

-- the orphan at hand is read, or put aside
deal : (k : Key) (w : Whole) (l : Local) (at : AdoptAt) → IsNotDealt at → LeadsOn k w (adopt_at l at)
deal k w l at is tied word suits =
    let here : Local = adopt_at l at in
    let seat : ℕ = l.seat in
    let class : ℕ = l.fetch.class in
    let next : AdoptNext = adopt_learn at (found_in w here) in
    let book : Book = book_adopted seat class at w.ways w.pool.locals.book in
    let locals : Locals = with_book book (locals_of (post_of w)) in
    let rows = (rows_leave_orphan_tasks seat locals).adopts class next in
    let later : Whole = with_ways (shadow_adopted seat class at w.ways) (after k w.pool.mem (course here))
    (adopted_as seat class next locals) w in
    leads_on k w here tt tied word suits later
    (steps_on stays (WholeStep.orphans _ _ _ (OrphanStep.adopts seat class at tied.tasks.orphans) (refl, is)
    (free k w here tt tied))) refl
    (record {
      guards = refl;
      bins = refl;
      queue = refl;
      jobs = refl;
      desks = refl;
      office = refl;
      cached = refl;
      last = refl;
      notes = refl;
    })
    (record {
      mails = ap (λ mails. mails seat) (mails_adopted seat class next locals) ∙ tied.tasks.mails;
      orphans = ap (λ tasks. tasks seat) rows.tasks'
          ∙ put-same w.tasks seat (adopted_task class (w.spares seat) next)
          ∙ ap (λ spares. adopted_task class spares next) tied.heap.spares;
      kept = tied.heap.kept ∙ sym (kept_dealt here at (found_in w here) is);
      spares = rows.spares' seat ∙ put-same w.spares seat (adopted_spares (w.spares seat) next)
          ∙ ap (λ spares. adopted_spares spares next) tied.heap.spares;
    }) tied.tasks.objects

pub adopt_turn : (k : Key) (w : Whole) (l : Local) (at : AdoptAt) → WholeGood k w → LeadsOn k w (adopt_at l at)
adopt_turn k w l AdoptAt.Take good = take_orphans k w l
adopt_turn k w l (AdoptAt.Header e) good = deal k w l (AdoptAt.Header e) tt
adopt_turn k w l (AdoptAt.Next e header) good = deal k w l (AdoptAt.Next e header) tt
adopt_turn k w l (AdoptAt.Settle e header rest) good = deal k w l (AdoptAt.Settle e header rest) tt
adopt_turn k w l (AdoptAt.Own e header rest) good = own k w l e header rest good
adopt_turn k w l (AdoptAt.Spare e) good = deal k w l (AdoptAt.Spare e) tt
