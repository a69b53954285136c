-- Each step, and so each run, keeps what holds of orphans.
use Rattle.std.proofs.Common.{◌≡◌, ℕ, sym, ap, subst, arith, ◌∙◌}
use Rattle.std.proofs.lemmas.Bool.Decides.{nat_tests}
use Rattle.pool_words.specs.declared.words.Key.{Key}
use Rattle.pool_words.specs.Words.{headers, nexts}
use Rattle.word_codes.specs.declared.owns.Own.{Own}
use Rattle.word_codes.specs.Nexts.{next_of, next_link_of}
use Rattle.orphans.specs.declared.adopting.AdoptAt.{AdoptAt}
use Rattle.orphans.specs.declared.leaving.LeaveAt.{LeaveAt}
use Rattle.orphans.specs.Adopting.{adopt_course, adopt_learn}
use Rattle.word_laws.specs.Memory.{Mem, after, found}
use Rattle.chain_laws.specs.Chains.{tally}
use Rattle.slab_laws.specs.Books.{Keeper, IsLeft}
use Rattle.mail_laws.specs.Mail.{links_in}
use Rattle.orphan_laws.specs.Orphans.{Task, Shadow, Locals, core_in, own_kept, is_adopting, is_returned, IsIdle}
use Rattle.orphan_laws.specs.Orphans.{OrphansGood}
use Rattle.orphan_laws.specs.Steps.{with_book, shadow_adopted, book_adopted, adopted_as, adopt_of}
use Rattle.orphan_laws.specs.Steps.{OrphanStep}
use Rattle.orphan_laws.specs.Steps.OrphanRun.{starts, steps}
use Rattle.orphan_laws.specs.Laws.{StepsKeepOrphans, RunsKeepOrphans}
use Rattle.orphan_laws.proofs.Seats.{fits_at, leaving_at, joining_at, taken-is, front-in}
use Rattle.orphan_laws.proofs.Rows.{stand_keeps}
use Rattle.orphan_laws.proofs.Returning.{leaves-as, returns-as}
use Rattle.orphan_laws.proofs.Adopting.{adopt_stand, split, settled, adopted}
use Rattle.orphan_laws.proofs.Taking.{takes-as, spared-as}
use Rattle.orphan_laws.proofs.Mails.{asides-as}
use Rattle.orphan_laws.proofs.Slabs.{owned_first, joined, rested, begun-as, ended-as, records-as}

-- O6, O7, N7, O8
adopts-as : (k : Key) (g : Shadow) (m : Mem) (l : Locals) (t class : ℕ) (at : AdoptAt) → OrphansGood k g (core_in m l)
    → l.tasks t ≡ Task.Adopting class at
    → OrphansGood k (shadow_adopted t class at g) (core_in (after k m (adopt_course (adopt_of t class) at))
    (adopted_as t class (adopt_learn at (found m (adopt_course (adopt_of t class) at)))
    (with_book (book_adopted t class at g l.book) l)))
adopts-as k g m l t class AdoptAt.Take good is = takes-as k g m l t class good is
adopts-as k g m l t class (AdoptAt.Header e) good is =
    let fits = fits_at k g (core_in m l) t (Task.Adopting class (AdoptAt.Header e)) is good in
    let mine = taken-is g (core_in m l) t e good.hands_once (front-in (links_in (core_in m l).nexts) e
    (g.taken t) fits.1.1) in
    adopt_stand k g m l t class (AdoptAt.Header e) (AdoptAt.Next e (m headers e)) good is
    (fits.1.0, fits.1.1, good.headers_fit e (subst IsLeft (sym mine) tt))
adopts-as k g m l t class (AdoptAt.Next e header) good is =
    let fits = fits_at k g (core_in m l) t (Task.Adopting class (AdoptAt.Next e header)) is good in
    adopt_stand k g m l t class (AdoptAt.Next e header)
    (AdoptAt.Settle e header (next_link_of (next_of (m nexts e)))) good is
    (fits.1.0, split g (core_in m l) t e fits.1.1, fits.1.2)
adopts-as k g m l t class (AdoptAt.Settle e header rest) good is = settled k g m l t class e header rest good is
adopts-as k g m l t class (AdoptAt.Own e header rest) good is = adopted k g m l t class e header rest good is
adopts-as k g m l t class (AdoptAt.Spare e) good is = spared-as k g m l t class e good is

pub steps_keep_orphans : StepsKeepOrphans
steps_keep_orphans k g m l h m' l' good (OrphanStep.leave_begins t e is by) =
    let fits = fits_at k g (core_in m l) t Task.Away is good in
    stand_keeps k t (Task.Leaving e LeaveAt.Close) g (core_in m l) good (λ x. sym (ap (is_returned x) is))
    (λ x. same x ∙ sym (ap (λ q. own_kept t q x) is))
    (fits, by, leaving_at k g (core_in m l) t Task.Away is good e)
    (λ x z. absurd (leaving_at k g (core_in m l) t Task.Away is good x z))
    (joining_at k g (core_in m l) t Task.Away is good)
  where
    same : (x : ℕ) → own_kept t (Task.Leaving e LeaveAt.Close) x ≡ Own.Kept t
    same x = grind (arith, nat_tests)
steps_keep_orphans k g m l h m' l' good (OrphanStep.leaves t e at is) = leaves-as k g m l t e at good is
steps_keep_orphans k g m l h m' l' good (OrphanStep.take_begins t class is low few) =
    let fits = fits_at k g (core_in m l) t Task.Away is good in
    stand_keeps k t (Task.Adopting class AdoptAt.Take) g (core_in m l) good (λ x. sym (ap (is_returned x) is))
    (λ x. sym (ap (λ q. own_kept t q x) is))
    (record { class' = low; seat' = few; of = λ e by. absurd (none e by fits) }, fits)
    (leaving_at k g (core_in m l) t Task.Away is good) (joining_at k g (core_in m l) t Task.Away is good)
  where
    one : ◌≡◌ {A = ℕ} (is_adopting t (Keeper.Adopting t)) 1
    one = grind (arith, nat_tests)

    none : (e : ℕ) → l.book.keeper e ≡ Keeper.Adopting t → IsIdle g (core_in m l) t → ⊥
    none e by idle =
        let n = good.hands_once t e in
        let a = ap (tally e) idle.0 in
        let b = ap (tally e) idle.1 in
        let c = ap (is_returned e) is in
        let d = ap (is_adopting t) by in
        let f = one in omega arith
steps_keep_orphans k g m l h m' l' good (OrphanStep.adopts t class at is) = adopts-as k g m l t class at good is
steps_keep_orphans k g m l h m' l' good (OrphanStep.joins t class e rest is) = joined k g m l t class e rest good is
steps_keep_orphans k g m l h m' l' good (OrphanStep.goes_on t class rest enough is) =
    rested k g m l t class rest enough good is
steps_keep_orphans k g m l h m' l' good (OrphanStep.returns t class e at is) = returns-as k g m l t class e at good is
steps_keep_orphans k g m l h m' l' good (OrphanStep.owns_first t e class is mail) =
    owned_first k g m l t e class good is mail
steps_keep_orphans k g m l h m' l' good (OrphanStep.slab_begins t e class is mail even) =
    begun-as k g m l t e class good is mail even
steps_keep_orphans k g m l h m' l' good (OrphanStep.slab_ends t e by null away) = ended-as k g m l t e good by null away
steps_keep_orphans k g m l h m' l' good (OrphanStep.records t e later by away only) =
    records-as k g m l t e later good by away only
steps_keep_orphans k g m l later now l' good (OrphanStep.asides {h} {m'} {ml} step aside) =
    asides-as k g m l h m' ml good step aside

pub runs_keep_orphans : RunsKeepOrphans
runs_keep_orphans k g m l h m' l' good starts = good
runs_keep_orphans k g m l h m' l' good (steps {g1} {m1} {l1} run step) =
    steps_keep_orphans k g1 m1 l1 h m' l' (runs_keep_orphans k g m l g1 m1 l1 good run) step
