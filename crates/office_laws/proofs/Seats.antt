-- One seat is at the office, and what others rely on says nothing of it.
use Rattle.std.proofs.Common.{◌≡◌, inl, inr, ℕ, Option, Some, None, sym, ap, subst, ◌∙◌}
use Rattle.pool_types.specs.declared.policy.RegionRec.{RegionRec}
use Rattle.pool_words.specs.declared.actions.OfficeJob.{OfficeJob}
use Rattle.region_steps.specs.declared.office.OfficeAt.{OfficeAt}
use Rattle.word_laws.specs.Memory.{put}
use Rattle.word_laws.proofs.CallerLemmas.{put-other, each}
use Rattle.office_laws.specs.Regions.{Task, Shadow, Core, HoldsAt, Holds, LockFits, coming, IsEntered, RecordsFit}
use Rattle.office_laws.specs.Regions.{OfficeFits, TaskFits, OfficeGood}

free_at : (g : Shadow) (s : Core) (job : OfficeJob) (at : OfficeAt) → (HoldsAt at → ⊥) → OfficeFits g s job at
free_at g s job OfficeAt.Lock free = tt
free_at g s job (OfficeAt.Region slot given) free = absurd (free tt)
free_at g s job (OfficeAt.Take given) free = absurd (free tt)
free_at g s job (OfficeAt.Base one) free = absurd (free tt)
free_at g s job (OfficeAt.Enter one) free = absurd (free tt)
free_at g s job (OfficeAt.WallSize one) free = absurd (free tt)
free_at g s job (OfficeAt.WallLeft one) free = absurd (free tt)
free_at g s job (OfficeAt.FirstSize one) free = absurd (free tt)
free_at g s job (OfficeAt.LastLeft one) free = absurd (free tt)
free_at g s job (OfficeAt.Remove given) free = absurd (free tt)
free_at g s job (OfficeAt.Back end) free = absurd (free tt)
free_at g s job (OfficeAt.Unlock end) free = absurd (free tt)

pub free_fits : (g : Shadow) (s : Core) (task : Task) → (Holds task → ⊥) → TaskFits g s task
free_fits g s Task.Away free = tt
free_fits g s (Task.At job at) free = free_at g s job at free

pub one_holder : (lock : Option ℕ) (tasks : ℕ → Task) (t o : ℕ) → LockFits lock tasks → Holds (tasks t)
    → Holds (tasks o) → o ≡ t
one_holder lock tasks t o fits mine other =
    let q : Some o ≡ Some t = sym (fits.held o other) ∙ fits.held t mine in cc

-- the seat at the office has another task, and has the office still
pub lock_stays : (lock : Option ℕ) (tasks : ℕ → Task) (t : ℕ) (task : Task) → LockFits lock tasks → Holds (tasks t)
    → Holds task → LockFits lock (put tasks t task)
lock_stays lock tasks t task fits mine now = record {
  held = each (λ o q. Holds q → lock ≡ Some o) tasks t task (λ o _ is. fits.held o is) (λ _. fits.held t mine);
  named = each (λ o q. lock ≡ Some o → Holds q) tasks t task (λ o _ is. fits.named o is) (λ _. now);
}

pub tasks_stay : (h : Shadow) (r : Core) (lock : Option ℕ) (tasks : ℕ → Task) (t : ℕ) (task : Task)
    → LockFits lock tasks → Holds (tasks t) → TaskFits h r task → (o : ℕ) → TaskFits h r (put tasks t task o)
tasks_stay h r lock tasks t task fits mine now = each (λ o q. TaskFits h r q) tasks t task
    (λ o ne. free_fits h r (tasks o) (λ is. ne (one_holder lock tasks t o fits mine is))) now

-- a region that is entered stays so where the task is another, and no region comes by the old one
pub entered_stay : (g : Shadow) (tasks : ℕ → Task) (t : ℕ) (task : Task) → coming (tasks t) ≡ None → RecordsFit g tasks
    → RecordsFit g (put tasks t task)
entered_stay g tasks t task none fits = record {
  known = fits.known;
  entered = λ s one is. by s one (fits.entered s one is);
}
  where
    by : (s : ℕ) (one : RegionRec) → IsEntered g tasks s one → IsEntered g (put tasks t task) s one
    by s one (inl live) = inl live
    by s one (inr (o, is)) = inr (
      o,
      ap coming (put-other tasks t task o
          (λ same. let q : None ≡ Some one = sym none ∙ ap (λ x. coming (tasks x)) (sym same) ∙ is in absurd (cc)))
          ∙ is,
    )

-- the seat at the office goes on, and nothing else changes
pub goes_on : (g : Shadow) (s : Core) (t : ℕ) (task : Task) → OfficeGood g s → Holds (s.tasks t) → Holds task
    → coming (s.tasks t) ≡ None → TaskFits g (record s { tasks = put s.tasks t task }) task
    → OfficeGood g (record s { tasks = put s.tasks t task })
goes_on g s t task good mine now none fits = record {
  lock_fits = lock_stays s.lock s.tasks t task good.lock_fits mine now;
  words_fit = good.words_fit;
  records_fit = entered_stay g s.tasks t task none good.records_fit;
  out_fits = good.out_fits;
  tasks_fit = tasks_stay g (record s { tasks = put s.tasks t task }) s.lock s.tasks t task good.lock_fits mine fits;
}

pub fits_at : (g : Shadow) (s : Core) (t : ℕ) (task : Task) → s.tasks t ≡ task → OfficeGood g s → TaskFits g s task
fits_at g s t task is good = subst (TaskFits g s) is (good.tasks_fit t)
