-- Wrong definitions. Each breaks a law at the mail that is named.
use Rattle.std.specs.Prelude.{◌≡◌, ℕ, Some, ◌∷◌}
use Rattle.pool_words.specs.declared.words.Key.{Key}
use Rattle.word_codes.specs.declared.nexts.Next.{Next}
use Rattle.word_codes.specs.declared.publics.Public.{Public}
use Rattle.mailbox.specs.declared.mailing.MailAt.{MailAt}
use Rattle.word_laws.specs.Memory.{put}
use Rattle.slab_laws.specs.Books.{Keeper}
use Rattle.mail_laws.specs.Mail.{Mail, Task, Shadow, Core, IsNotNull, MailGood}
use Rattle.mail_laws.specs.Steps.{with_mail}

-- an adopter takes a slab's public list before its next word names his mailbox
abbrev pub TakesBeforeSettling : Type 0
TakesBeforeSettling =
    (k : Key) (seat e : ℕ) (g : Shadow) (s : Core) → g.mail e ≡ Mail.Adopted seat → s.keeper e ≡ Keeper.By seat
    → MailGood k g s → MailGood k (with_mail e Mail.Rest g) (record s { publics = put s.publics e Public.Null })

abbrev pub TakesBeforeSettlingAreWrong : Type 0
TakesBeforeSettlingAreWrong = TakesBeforeSettling → ⊥

-- a push that finds what others gave back mails the slab too
abbrev pub SecondDuties : Type 0
SecondDuties =
    (k : Key) (seat e unit : ℕ) (g : Shadow) (s : Core) → s.tasks seat ≡ Task.Away → IsNotNull (s.publics e)
    → MailGood k g s
    → MailGood k (with_mail e (Mail.Owed seat) g) (record s {
      publics = put s.publics e (Public.Filled unit);
      tasks = put s.tasks seat (Task.Mailing e MailAt.Next);
    })

abbrev pub SecondDutiesAreWrong : Type 0
SecondDutiesAreWrong = SecondDuties → ⊥

-- a slab is mailed to another seat's mailbox
abbrev pub StrayMailings : Type 0
StrayMailings =
    (k : Key) (seat e b : ℕ) (g : Shadow) (s : Core) → g.mail e ≡ Mail.Owed seat → MailGood k g s
    → MailGood k (record g { mail = put g.mail e Mail.Boxed; boxed = put g.boxed b (e ∷ g.boxed b) }) (record s {
      boxes = put s.boxes b (Some e);
      nexts = put s.nexts e (Next.Link (s.boxes b));
      tasks = put s.tasks seat Task.Away;
    })

abbrev pub StrayMailingsAreWrong : Type 0
StrayMailingsAreWrong = StrayMailings → ⊥
