-- Wrong definitions. Each breaks a law at orphans that are named.
use Rattle.std.specs.Prelude.{◌≡◌, ℕ, Option, Some}
use Rattle.pool_words.specs.declared.words.Key.{Key}
use Rattle.word_codes.specs.declared.publics.Public.{Public}
use Rattle.chain_words.specs.declared.pushing.PushAt.{PushAt}
use Rattle.orphans.specs.declared.adopting.AdoptAt.{AdoptAt}
use Rattle.orphans.specs.declared.leaving.LeaveAt.{LeaveAt}
use Rattle.word_laws.specs.Memory.{put}
use Rattle.slab_laws.specs.Books.{Keeper, with_keeper}
use Rattle.mail_laws.specs.Mail.{Mail}
use Rattle.orphan_laws.specs.Orphans.{Task, Shadow, Core, OrphansGood}
use Rattle.orphan_laws.specs.Steps.{with_way, shadow_pushed}

-- a keeper stores Unusable, whatever the public word was: it leaves a slab whose mailing is owed
abbrev pub OwedLeavings : Type 0
OwedLeavings =
    (k : Key) (seat e : ℕ) (g : Shadow) (s : Core) → s.tasks seat ≡ Task.Leaving e LeaveAt.Close → OrphansGood k g s
    → OrphansGood k (with_way e (Mail.Leaving seat) g) (record s {
      publics = put s.publics e Public.Unusable;
      tasks = put s.tasks seat (Task.Leaving e LeaveAt.Header);
    })

abbrev pub OwedLeavingsAreWrong : Type 0
OwedLeavingsAreWrong = OwedLeavings → ⊥

-- an adopter takes a slab's public list before it writes the slab's next word
abbrev pub TakesBeforeSettling : Type 0
TakesBeforeSettling =
    (k : Key) (seat class e header : ℕ) (rest : Option ℕ) (g : Shadow) (s : Core)
    → s.tasks seat ≡ Task.Adopting class (AdoptAt.Settle e header rest) → OrphansGood k g s
    → OrphansGood k (with_way e Mail.Rest g) (record s { publics = put s.publics e Public.Null })

abbrev pub TakesBeforeSettlingAreWrong : Type 0
TakesBeforeSettlingAreWrong = TakesBeforeSettling → ⊥

-- an orphan was pushed back, and is pushed once more
abbrev pub SecondReturns : Type 0
SecondReturns =
    (k : Key) (seat class e found : ℕ) (g : Shadow) (s : Core)
    → s.tasks seat ≡ Task.Returning class e (LeaveAt.Push (PushAt.Exchange found)) → OrphansGood k g s
    → OrphansGood k (shadow_pushed class e g) (record s {
      heads = put s.heads class (Some e);
      book = with_keeper e Keeper.Orphan s.book;
      tasks = put s.tasks seat (Task.Returning class e (LeaveAt.Push PushAt.Look));
    })

abbrev pub SecondReturnsAreWrong : Type 0
SecondReturnsAreWrong = SecondReturns → ⊥
