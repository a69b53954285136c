-- The laws of mail.
use Rattle.std.specs.Prelude.{◌≡◌, ◌≢◌, ℕ, ◌+◌, ◌^◌, ◌<◌, ◌≤◌, List, [], ◌∷◌, ⊤}
use Rattle.pool_types.specs.Geometry.{class_count}
use Rattle.pool_words.specs.declared.words.Key.{Key}
use Rattle.pool_words.specs.Words.{mailbox_at}
use Rattle.mailbox.specs.declared.mailing.MailAt.{MailAt}
use Rattle.mailbox.specs.declared.mailing.MailNext.{MailNext}
use Rattle.mailbox.specs.Mailing.{mail_course, mail_learn}
use Rattle.word_laws.specs.Memory.{Mem, found, fresh}
use Rattle.chain_laws.specs.Chains.{tally}
use Rattle.chain_laws.specs.Named.{ten_key}
use Rattle.slab_laws.specs.Books.{Keeper}
use Rattle.mail_laws.specs.Mail.{Mail, Task, Shadow, Locals, core_in, IsKept, IsMailing, MailGood}
use Rattle.mail_laws.specs.Steps.{home_of, shadow_mailed, mail_of, MailStep, MailRun}
use Rattle.mail_laws.specs.Named.{no_mail, fresh_locals, named_mail, named_words}

-- each step of each seat keeps what holds of mail
abbrev pub StepsKeepMail : Type 0
StepsKeepMail =
    (k : Key) (g : Shadow) (m : Mem) (l : Locals) (h : Shadow) (m' : Mem) (l' : Locals) → MailGood k g (core_in m l)
    → MailStep k g m l h m' l' → MailGood k h (core_in m' l')

abbrev pub RunsKeepMail : Type 0
RunsKeepMail =
    (k : Key) (g : Shadow) (m : Mem) (l : Locals) (h : Shadow) (m' : Mem) (l' : Locals) → MailGood k g (core_in m l)
    → MailRun k g m l h m' l' → MailGood k h (core_in m' l')

-- a slab that a seat has to mail: no other seat has to, and it is in no mailbox and in no seat's hand
pub record IsOwed (g : Shadow) (l : Locals) (seat e : ℕ) : Type 0 where
  pub owed : g.mail e ≡ Mail.Owed seat
  pub one : (other : ℕ) → g.mail e ≡ Mail.Owed other → (other ≡ seat) × IsMailing (l.tasks other) e
  pub unboxed : (b : ℕ) → tally e (g.boxed b) ≡ 0
  pub unfetched : (other : ℕ) → tally e (g.fetched other) ≡ 0

-- once it is mailed: nobody has to mail it, and it is in the mailbox of its keeper for its class, once, and in no other
pub record IsMailed (h : Shadow) (l : Locals) (e : ℕ) : Type 0 where
  pub boxed : h.mail e ≡ Mail.Boxed
  pub kept : IsKept (l.keeper e)
  pub here : tally e (h.boxed (home_of l e)) ≡ 1
  pub else : (b : ℕ) → b ≢ home_of l e → tally e (h.boxed b) ≡ 0

abbrev pub AfterMailing : Shadow → Locals → ℕ → ℕ → MailNext → Type 0
AfterMailing h l seat e (MailNext.Goes at) = h.mail e ≡ Mail.Owed seat
AfterMailing h l seat e MailNext.Mailed = IsMailed h l e

pub record OneMailing (g h : Shadow) (l : Locals) (seat e : ℕ) (next : MailNext) : Type 0 where
  pub before : IsOwed g l seat e
  pub after' : AfterMailing h l seat e next

-- in every run of any number of seats a duty is one seat's until that seat's push onto the mailbox wins, and then
-- it is nobody's
abbrev pub DutyEndsByOneMailing : Type 0
DutyEndsByOneMailing =
    (k : Key) (g0 : Shadow) (m0 : Mem) (l0 : Locals) (g : Shadow) (m : Mem) (l : Locals) (seat e : ℕ) (at : MailAt)
    → MailGood k g0 (core_in m0 l0) → MailRun k g0 m0 l0 g m l → l.tasks seat ≡ Task.Mailing e at
    → OneMailing g (shadow_mailed l e (mail_learn at (found m (mail_course (mail_of e) at))) g) l seat e
    (mail_learn at (found m (mail_course (mail_of e) at)))

-- a taking swap gives the slabs that were mailed there, each of them kept by the seat, of the class, and once
pub record TakesMailed (g : Shadow) (l : Locals) (seat class e : ℕ) : Type 0 where
  pub boxed : g.mail e ≡ Mail.Boxed
  pub kept : l.keeper e ≡ Keeper.By seat
  pub class' : l.classes e ≡ class
  pub once : tally e (g.boxed (mailbox_at seat class)) ≡ 1

abbrev pub SwapGivesWhatWasMailed : Type 0
SwapGivesWhatWasMailed =
    (k : Key) (g : Shadow) (m : Mem) (l : Locals) (seat class e : ℕ) → MailGood k g (core_in m l)
    → class < class_count → seat < k.seats → 0 < tally e (g.boxed (mailbox_at seat class))
    → TakesMailed g l seat class e

-- in a new pool there is no mail
abbrev pub FreshPoolsHaveNoMail : Type 0
FreshPoolsHaveNoMail =
    (k : Key) → k.seats ≤ 64 → k.span < 2 ^ 32 → MailGood k no_mail (core_in fresh fresh_locals)

-- a boxed slab, one that is owed, one that is fetched and an orphan
abbrev pub NamedMailStands : Type 0
NamedMailStands = MailGood ten_key named_mail named_words
