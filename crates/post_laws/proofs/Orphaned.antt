-- Orphans are taken and adopted, and a slab is left: its keeper changes in the pool and in its mail at once.
use Rattle.std.proofs.Common.{◌≡◌, ℕ, Option, Some, None, refl, sym, subst}
use Rattle.pool_words.specs.declared.words.Key.{Key}
use Rattle.pool_words.specs.declared.actions.Action.{Action}
use Rattle.word_codes.specs.Links.{link_of}
use Rattle.chain_words.specs.declared.pushing.PushAt.{PushAt}
use Rattle.public_list.specs.declared.joining.JoinAt.{JoinAt}
use Rattle.orphans.specs.declared.adopting.AdoptAt.{AdoptAt}
use Rattle.orphans.specs.declared.leaving.LeaveAt.{LeaveAt}
use Rattle.orphans.specs.declared.leaving.LeaveNext.{LeaveNext}
use Rattle.orphans.specs.Adopting.{adopt_course, adopt_taken}
use Rattle.orphans.specs.Leaving.{leave_course, leave_learn}
use Rattle.word_laws.specs.Memory.{Mem, put, after, found}
use Rattle.word_laws.proofs.CallerLemmas.{put-same, put-other}
use Rattle.slab_laws.specs.Books.{Keeper, with_chain_taken}
use Rattle.object_laws.specs.Objects as objects
use Rattle.object_laws.specs.Objects.Task.{Away, Joining}
use Rattle.object_laws.specs.Rows as rows
use Rattle.object_laws.specs.Steps.{ObjectStep}
use Rattle.mail_laws.specs.Mail as mailing
use Rattle.orphan_laws.specs.Orphans.{Task, core_in, OrphansGood}
use Rattle.orphan_laws.specs.Steps.{with_book, adopted_as, adopt_of, leave_of, shadow_taken, shadow_left, left_as}
use Rattle.orphan_laws.specs.Steps.{OrphanStep}
use Rattle.orphan_laws.proofs.CallerLemmas.{steps_keep_orphans}
use Rattle.use_laws.specs.Pools.{Pool}
use Rattle.use_laws.specs.Steps.{PoolStep}
use Rattle.use_laws.specs.After.{pool_come, pool_adopted, pool_left}
use Rattle.use_laws.proofs.Keeps.{steps_keep_pool}
use Rattle.post_laws.specs.Posts.{Post, locals_of, TiesFit, PostGood}
use Rattle.post_laws.specs.After.{task_taken, post_taken, post_adopted, post_left}
use Rattle.post_laws.specs.Laws.{MayTake, HasOrphan, MayLeave}
use Rattle.post_laws.proofs.Elsewhere.{IsElsewhere, next_stored, own_stored, orphans_swapped, orphans_exchanged, loaded}
use Rattle.post_laws.proofs.Elsewhere.{elsewhere_keeps}
use Rattle.post_laws.proofs.Premises.{ties_at, swaps_give_orphans, adopters_have_the_orphan}
use Rattle.post_laws.proofs.Premises.{left_slabs_have_their_record}
use Rattle.post_laws.proofs.Ties.{ties_stay}
use Rattle.post_laws.proofs.Pushing.{tie_as}

-- O6
taken_locals : (t class : ℕ) (o : Option ℕ) (m : Mem) (p : Post)
    → adopted_as t class (adopt_taken o) (with_book (with_chain_taken t (p.ways.left class) p.pool.locals.book)
    (locals_of p)) ≡ locals_of (post_taken t class o m p)
taken_locals t class (Some e) m p = refl
taken_locals t class None m p = refl

taken_ties : (class : ℕ) (o : Option ℕ) (mail : mailing.Task) (q : objects.Task) → mail ≡ mailing.Task.Away → q ≡ Away
    → TiesFit (task_taken class o) mail q
taken_ties class (Some e) mail q away same = (away, same)
taken_ties class None mail q away same = tie_as Task.Away mailing.Task.Away Away mail q refl away same tt

pub takes_orphans_keep : (k : Key) (t : ℕ) (p : Post) (class : ℕ) → p.tasks t ≡ Task.Adopting class AdoptAt.Take
    → PostGood k p
    → PostGood k (post_taken t class (link_of (found p.pool.mem (adopt_course (adopt_of t class) AdoptAt.Take)))
    (after k p.pool.mem (adopt_course (adopt_of t class) AdoptAt.Take)) p)
takes_orphans_keep k t p class is good = record {
  pool' = elsewhere_keeps k (pool_come t (p.ways.left class) p.pool) (adopt_course (adopt_of t class) AdoptAt.Take)
      (orphans_swapped class 0) (steps_keep_pool k t p.pool (pool_come t (p.ways.left class) p.pool) good.pool'
      (PoolStep.comes (p.ways.left class) may.away may.orphans));
  orphans = subst (λ l. OrphansGood k (shadow_taken t class p.ways) (core_in m' l)) (taken_locals t class first m' p)
      (steps_keep_orphans k p.ways p.pool.mem (locals_of p) (shadow_taken t class p.ways) m'
      (adopted_as t class (adopt_taken first) (with_book (with_chain_taken t (p.ways.left class) p.pool.locals.book)
      (locals_of p))) good.orphans (OrphanStep.adopts t class AdoptAt.Take is));
  ties = ties_stay k p later t good (record {
    objects = λ o ne. refl;
    mails = λ o ne. refl;
    orphans = λ o ne. put-other p.tasks t (task_taken class first) o ne;
  })
      (subst (λ a. TiesFit a (p.mails t) (p.pool.locals.tasks t)) (sym (put-same p.tasks t (task_taken class first)))
      (taken_ties class first (p.mails t) (p.pool.locals.tasks t)
      (ties_at k p t (Task.Adopting class AdoptAt.Take) good is).0 may.away));
}
  where
    m' : Mem
    m' = after k p.pool.mem (adopt_course (adopt_of t class) AdoptAt.Take)

    first : Option ℕ
    first = link_of (found p.pool.mem (adopt_course (adopt_of t class) AdoptAt.Take))

    later : Post
    later = post_taken t class first m' p

    may : MayTake p t class
    may = swaps_give_orphans k p t class good is

-- O8
pub adopts_keep : (k : Key) (t : ℕ) (p : Post) (class e header : ℕ) (rest : Option ℕ)
    → p.tasks t ≡ Task.Adopting class (AdoptAt.Own e header rest) → PostGood k p
    → PostGood k (post_adopted t class e rest
    (after k p.pool.mem (adopt_course (adopt_of t class) (AdoptAt.Own e header rest))) p)
adopts_keep k t p class e header rest is good = record {
  pool' = elsewhere_keeps k begun (adopt_course (adopt_of t class) (AdoptAt.Own e header rest)) (own_stored e _)
      (steps_keep_pool k t adopted begun (steps_keep_pool k t p.pool adopted good.pool'
      (PoolStep.adopts e may.away may.has)) (PoolStep.objects adopted.objects adopted.mem begun.locals
      (ObjectStep.begins t (Joining e JoinAt.Take) may.away tt
      (put-same p.pool.locals.book.keeper e (Keeper.By t))) tt));
  orphans = steps_keep_orphans k p.ways p.pool.mem (locals_of p) later.ways m' (locals_of later) good.orphans
      (OrphanStep.adopts t class (AdoptAt.Own e header rest) is);
  ties = ties_stay k p later t good (record {
    objects = λ o ne. put-other p.pool.locals.tasks t (Joining e JoinAt.Take) o ne;
    mails = λ o ne. refl;
    orphans = λ o ne. put-other p.tasks t (Task.Joining class e rest) o ne;
  })
      (subst (λ a. TiesFit a (p.mails t) (later.pool.locals.tasks t))
      (sym (put-same p.tasks t (Task.Joining class e rest))) (
        (ties_at k p t (Task.Adopting class (AdoptAt.Own e header rest)) good is).0,
        put-same p.pool.locals.tasks t (Joining e JoinAt.Take),
      ));
}
  where
    m' : Mem
    m' = after k p.pool.mem (adopt_course (adopt_of t class) (AdoptAt.Own e header rest))

    later : Post
    later = post_adopted t class e rest m' p

    adopted : Pool
    adopted = pool_adopted t e p.pool

    begun : Pool
    begun = record adopted { locals = rows.with_task t (Joining e JoinAt.Take) adopted.locals }

    may : HasOrphan p t e
    may = adopters_have_the_orphan k p t class e header rest good is

-- O5
leave_elsewhere : (p : Post) (e : ℕ) (at : PushAt)
    → IsElsewhere (leave_course (leave_of (locals_of p) e) (LeaveAt.Push at))
leave_elsewhere p e PushAt.Look = loaded _
leave_elsewhere p e (PushAt.Link word) = next_stored e _
leave_elsewhere p e (PushAt.Exchange word) = orphans_exchanged (p.pool.locals.book.classes e) word _

pub leaves_keep : (k : Key) (t : ℕ) (p : Post) (e : ℕ) (at : PushAt) → p.tasks t ≡ Task.Leaving e (LeaveAt.Push at)
    → leave_learn (LeaveAt.Push at) (found p.pool.mem (leave_course (leave_of (locals_of p) e) (LeaveAt.Push at)))
    ≡ LeaveNext.Left → PostGood k p
    → PostGood k (post_left t e (after k p.pool.mem (leave_course (leave_of (locals_of p) e) (LeaveAt.Push at))) p)
leaves_keep k t p e at is won good = record {
  pool' = elsewhere_keeps k (pool_left t e p.pool) action (leave_elsewhere p e at)
      (steps_keep_pool k t p.pool (pool_left t e p.pool) good.pool'
      (PoolStep.leaves e may.away may.kept may.header));
  orphans = subst (λ n. OrphansGood k (shadow_left (locals_of p) t e n p.ways)
      (core_in m' (left_as t e n (locals_of p)))) won
      (steps_keep_orphans k p.ways p.pool.mem (locals_of p)
      (shadow_left (locals_of p) t e (leave_learn (LeaveAt.Push at) (found p.pool.mem action)) p.ways) m'
      (left_as t e (leave_learn (LeaveAt.Push at) (found p.pool.mem action)) (locals_of p)) good.orphans
      (OrphanStep.leaves t e (LeaveAt.Push at) is));
  ties = ties_stay k p later t good (record {
    objects = λ o ne. refl;
    mails = λ o ne. refl;
    orphans = λ o ne. put-other p.tasks t Task.Away o ne;
  })
      (tie_as (put p.tasks t Task.Away t) mailing.Task.Away Away (p.mails t) (p.pool.locals.tasks t)
      (put-same p.tasks t Task.Away) (ties_at k p t (Task.Leaving e (LeaveAt.Push at)) good is).0 may.away tt);
}
  where
    action : Action
    action = leave_course (leave_of (locals_of p) e) (LeaveAt.Push at)

    m' : Mem
    m' = after k p.pool.mem action

    later : Post
    later = post_left t e m' p

    may : MayLeave p t e
    may = left_slabs_have_their_record k p t e at good is
