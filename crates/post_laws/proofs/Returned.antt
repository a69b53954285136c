-- An orphan is pushed back, in the pool and in its mail at once.
use Rattle.std.proofs.Common.{◌≡◌, ◌≢◌, ℕ, Option, Some, None, refl, sym, subst}
use Rattle.pool_words.specs.declared.words.Key.{Key}
use Rattle.pool_words.specs.declared.actions.Action.{Action}
use Rattle.heap_slabs.specs.Rolls.{newest_of}
use Rattle.chain_words.specs.declared.pushing.PushAt.{PushAt}
use Rattle.orphans.specs.declared.leaving.LeaveAt.{LeaveAt}
use Rattle.orphans.specs.declared.leaving.LeaveNext.{LeaveNext}
use Rattle.orphans.specs.Leaving.{leave_course, leave_learn}
use Rattle.word_laws.specs.Memory.{Mem, put, after, found}
use Rattle.word_laws.proofs.CallerLemmas.{put-same, put-other}
use Rattle.slab_laws.specs.Books.{Keeper, Book, with_keeper}
use Rattle.object_laws.specs.Objects as objects
use Rattle.object_laws.specs.Objects.Task.{Away}
use Rattle.mail_laws.specs.Mail as mailing
use Rattle.orphan_laws.specs.Orphans.{Task, Locals, core_in, OrphansGood}
use Rattle.orphan_laws.specs.Steps.{with_book, sparing, return_of, shadow_returned, returned_as, OrphanStep}
use Rattle.orphan_laws.proofs.CallerLemmas.{steps_keep_orphans}
use Rattle.use_laws.specs.Steps.{PoolStep}
use Rattle.use_laws.specs.After.{pool_gone_back}
use Rattle.use_laws.proofs.Keeps.{steps_keep_pool}
use Rattle.post_laws.specs.Posts.{Post, locals_of, TiesFit, PostGood}
use Rattle.post_laws.specs.After.{post_returned}
use Rattle.post_laws.specs.Laws.{HasOrphan}
use Rattle.post_laws.proofs.Elsewhere.{IsElsewhere, next_stored, orphans_exchanged, loaded, elsewhere_keeps}
use Rattle.post_laws.proofs.Premises.{ties_at, returners_have_the_orphan}
use Rattle.post_laws.proofs.Ties.{ties_stay}
use Rattle.post_laws.proofs.Pushing.{tie_as}

spared_locals : (t class : ℕ) (o : Option ℕ) (b : Book) (l : Locals)
    → sparing t class o (with_book b l) ≡ record {
      book = b;
      mails = l.mails;
      tasks = (sparing t class o l).tasks;
      spares = (sparing t class o l).spares;
    }
spared_locals t class (Some e) b l = refl
spared_locals t class None b l = refl

spared_others : (t class : ℕ) (o : Option ℕ) (l : Locals) (s : ℕ) → s ≢ t
    → (sparing t class o l).tasks s ≡ l.tasks s
spared_others t class (Some e) l s ne =
    put-other l.tasks t (Task.Returning class e (LeaveAt.Push PushAt.Look)) s ne
spared_others t class None l s ne = put-other l.tasks t Task.Away s ne

spared_ties : (t class : ℕ) (o : Option ℕ) (l : Locals) (mail : mailing.Task) (q : objects.Task)
    → mail ≡ mailing.Task.Away → q ≡ Away → TiesFit ((sparing t class o l).tasks t) mail q
spared_ties t class (Some e) l mail q away same =
    subst (λ a. TiesFit a mail q)
    (sym (put-same l.tasks t (Task.Returning class e (LeaveAt.Push PushAt.Look)))) (away, same)
spared_ties t class None l mail q away same =
    tie_as (put l.tasks t Task.Away t) mailing.Task.Away Away mail q (put-same l.tasks t Task.Away) away same tt

return_elsewhere : (class e : ℕ) (at : PushAt) → IsElsewhere (leave_course (return_of class e) (LeaveAt.Push at))
return_elsewhere class e PushAt.Look = loaded _
return_elsewhere class e (PushAt.Link word) = next_stored e _
return_elsewhere class e (PushAt.Exchange word) = orphans_exchanged class word _

pub returns_keep : (k : Key) (t : ℕ) (p : Post) (class e : ℕ) (at : PushAt)
    → p.tasks t ≡ Task.Returning class e (LeaveAt.Push at)
    → leave_learn (LeaveAt.Push at) (found p.pool.mem (leave_course (return_of class e) (LeaveAt.Push at)))
    ≡ LeaveNext.Left → PostGood k p
    → PostGood k (post_returned t class e (after k p.pool.mem (leave_course (return_of class e) (LeaveAt.Push at))) p)
returns_keep k t p class e at is won good = record {
  pool' = elsewhere_keeps k (pool_gone_back e p.pool) action (return_elsewhere class e at)
      (steps_keep_pool k t p.pool (pool_gone_back e p.pool) good.pool' (PoolStep.goes_back e may.away may.has));
  orphans = subst (λ l. OrphansGood k later.ways (core_in m' l))
      (spared_locals t class (newest_of (p.spares t)) (with_keeper e Keeper.Orphan p.pool.locals.book) (locals_of p))
      (subst (λ n. OrphansGood k (shadow_returned class e n p.ways)
      (core_in m' (returned_as t class e n (locals_of p)))) won
      (steps_keep_orphans k p.ways p.pool.mem (locals_of p)
      (shadow_returned class e (leave_learn (LeaveAt.Push at) (found p.pool.mem action)) p.ways) m'
      (returned_as t class e (leave_learn (LeaveAt.Push at) (found p.pool.mem action)) (locals_of p)) good.orphans
      (OrphanStep.returns t class e (LeaveAt.Push at) is)));
  ties = ties_stay k p later t good (record {
    objects = λ o ne. refl;
    mails = λ o ne. refl;
    orphans = λ o ne. spared_others t class (newest_of (p.spares t)) (locals_of p) o ne;
  })
      (spared_ties t class (newest_of (p.spares t)) (locals_of p) (p.mails t) (p.pool.locals.tasks t)
      (ties_at k p t (Task.Returning class e (LeaveAt.Push at)) good is).0 may.away);
}
  where
    action : Action
    action = leave_course (return_of class e) (LeaveAt.Push at)

    m' : Mem
    m' = after k p.pool.mem action

    later : Post
    later = post_returned t class e m' p

    may : HasOrphan p t e
    may = returners_have_the_orphan k p t class e (LeaveAt.Push at) good is
