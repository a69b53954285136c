-- Each step of the whole leaves each slab that is to begin named.
use Rattle.std.proofs.Common.{◌≡◌, ℕ, sym, subst}
use Rattle.word_laws.specs.Memory.{put}
use Rattle.word_laws.proofs.CallerLemmas.{each}
use Rattle.mail_laws.specs.Mail as mailing
use Rattle.mail_laws.specs.Mail.{Mail}
use Rattle.pool_laws.specs.Steps.{WholeStep}
use Rattle.pool_laws.specs.Wholes.{post_of}
use Rattle.begun_laws.specs.Begun.{AreNamed, Names}
use Rattle.begun_laws.specs.Laws.{FreshBegunFits, StepsKeepBegun}
use Rattle.begun_laws.proofs.Kept.{changes_mail, kept_named}
use Rattle.begun_laws.proofs.Orphans.{orphans_keep}
use Rattle.begun_laws.proofs.Posts.{posts_keep}

pub fresh_begun_fits : FreshBegunFits
fresh_begun_fits k e t is = absurd (cc)

-- a slab that was to begin is one of its seat's
begun_keeps : (mail : ℕ → Mail) (tasks : ℕ → mailing.Task) (seat slab class : ℕ)
    → tasks seat ≡ mailing.Task.Settled slab class → AreNamed mail tasks
    → AreNamed (put mail slab Mail.Rest) (put tasks seat mailing.Task.Away)
begun_keeps mail tasks seat slab class was named e t = each
    (λ e one. one ≡ Mail.Begun t → Names (put tasks seat mailing.Task.Away t) e) mail slab Mail.Rest
    (λ e ne is. each (λ t task. Names (tasks t) e → Names task e) tasks seat mailing.Task.Away (λ t _ names. names)
    (λ names. absurd (ne (sym (subst (λ x. Names x e) was names)))) t (named e t is))
    (λ is. absurd (cc)) e

pub steps_keep_begun : StepsKeepBegun
steps_keep_begun k o w later good (WholeStep.guards h m' tasks step keeps free) named = named
steps_keep_begun k o w later good (WholeStep.others action is free) named = named
steps_keep_begun k o w later good (WholeStep.bins h m' l' step at free) named = named
steps_keep_begun k o w later good (WholeStep.queue h m' l' step at none) named = named
steps_keep_begun k o w later good (WholeStep.shelves s step at idle) named = named
steps_keep_begun k o w later good (WholeStep.office s step at free) named = named
steps_keep_begun k o w later good (WholeStep.posts p step at free) named =
    kept_named w.ways.mail.mail p.ways.mail.mail w.mails p.mails (posts_keep k o (post_of w) p good.post step at) named
steps_keep_begun k o w later good (WholeStep.uses p step own free) named = named
steps_keep_begun k o w later good (WholeStep.orphans h m' l' step own free) named = orphans_keep k o w step own named
steps_keep_begun k o w later good (WholeStep.takes_back class e rest is free) named =
    kept_named w.ways.mail.mail (put w.ways.mail.mail e Mail.Rest) w.mails w.mails
    (changes_mail w.ways.mail.mail e Mail.Rest w.mails tt) named
steps_keep_begun k o w later good (WholeStep.walks_back class e first at count rest is joins free) named = named
steps_keep_begun k o w later good (WholeStep.ties_back class e first last count rest is joins free) named = named
steps_keep_begun k o w later good (WholeStep.slab_begins e class is settled has loose even free) named =
    begun_keeps w.ways.mail.mail w.mails o e class settled named
steps_keep_begun k o w later good (WholeStep.slab_ends e taking guard away by none stays free) named =
    kept_named w.ways.mail.mail (put w.ways.mail.mail e Mail.Absent) w.mails w.mails
    (changes_mail w.ways.mail.mail e Mail.Absent w.mails tt) named
