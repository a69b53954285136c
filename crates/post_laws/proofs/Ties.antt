-- What the seats have to do with objects, with mail and with orphans stays of one position.
use Rattle.std.proofs.Common.{◌≡◌, ℕ, refl, sym, subst}
use Rattle.pool_words.specs.declared.words.Key.{Key}
use Rattle.word_laws.proofs.CallerLemmas.{equal_or}
use Rattle.object_laws.specs.Objects as objects
use Rattle.mail_laws.specs.Mail as mailing
use Rattle.orphan_laws.specs.Orphans.{Task}
use Rattle.post_laws.specs.Posts.{Post, MailTies, IsSettled, TiesFit, PostGood}
use Rattle.post_laws.specs.Steps.{OthersStay}

pub ties_stay : (k : Key) (p later : Post) (t : ℕ) → PostGood k p → OthersStay t p later
    → TiesFit (later.tasks t) (later.mails t) (later.pool.locals.tasks t) → (s : ℕ)
    → TiesFit (later.tasks s) (later.mails s) (later.pool.locals.tasks s)
ties_stay k p later t good stay here s = equal_or s t
    (λ e. subst (λ x. TiesFit (later.tasks x) (later.mails x) (later.pool.locals.tasks x)) (sym e) here)
    (λ ne. subst (λ a. TiesFit a (later.mails s) (later.pool.locals.tasks s)) (sym (stay.orphans s ne))
    (subst (λ a. TiesFit (p.tasks s) a (later.pool.locals.tasks s)) (sym (stay.mails s ne))
    (subst (λ a. TiesFit (p.tasks s) (p.mails s) a) (sym (stay.objects s ne)) (good.ties s))))

-- a seat that mails or fetches has nothing to do with orphans
pub record IsAlone (task : Task) (mail : mailing.Task) (object : objects.Task) : Type 0 where
  pub orphan : task ≡ Task.Away
  pub ties : MailTies mail object

pub mail_alone : (task : Task) (mail : mailing.Task) (object : objects.Task) → (mail ≡ mailing.Task.Away → ⊥)
    → ((e : ℕ) → IsSettled e mail → ⊥) → TiesFit task mail object → IsAlone task mail object
mail_alone Task.Away mail object busy settled fits = record { orphan = refl; ties = fits }
mail_alone (Task.Leaving e at) mail object busy settled fits = absurd (busy fits.0)
mail_alone (Task.Adopting class at) mail object busy settled fits = absurd (busy fits.0)
mail_alone (Task.Joining class e rest) mail object busy settled fits = absurd (busy fits.0)
mail_alone (Task.Resting class rest) mail object busy settled fits = absurd (busy fits.0)
mail_alone (Task.Returning class e at) mail object busy settled fits = absurd (busy fits.0)
mail_alone (Task.Owning e) mail object busy settled fits = absurd (settled e fits.0)
