-- A step on words of one group leaves those of the others.
use Rattle.std.proofs.Common.{◌≡◌, ◌≢◌, ◌⊎◌, inl, inr, ℕ, ◌<◌, ◌≤◌}
use Rattle.std.proofs.Common.{refl, arith}
use Rattle.pool_words.specs.declared.words.Key.{Key}
use Rattle.pool_words.specs.declared.words.Word.{Word}
use Rattle.pool_words.specs.declared.actions.Action.{Action}
use Rattle.pool_words.specs.declared.actions.Action.TheVariants.{Load, Store, Swap, Exchange, Add}
use Rattle.pool_words.specs.declared.actions.Action.TheVariants.{TakeOffice, GiveOffice, Nothing}
use Rattle.pool_words.specs.Words.{WordKind, number, kind_of_word, marks, publics, kinds, headers, owns, nexts}
use Rattle.pool_words.specs.Words.{bin_locks, bin_heads, forwards, backwards, queues, queue_links, mailboxes, orphans}
use Rattle.pool_words.specs.Words.{cache_locks, cache_heads, cache_items, cache_used, cache_means, cache_thresholds}
use Rattle.pool_words.specs.Words.{cache_gets, cache_cleaned, cache_links, cache_ages, office_locks, regions, bases}
use Rattle.word_laws.specs.Memory.{Mem, after}
use Rattle.guard_laws.specs.Steps as guards
use Rattle.mail_laws.specs.Steps as mails
use Rattle.orphan_laws.specs.Steps.{IsNotOn, IsApart}
use Rattle.bin_laws.specs.Steps.{SameLists}
use Rattle.queue_laws.specs.Steps.{SameQueue}
use Rattle.use_laws.specs.Steps.{SameThings}
use Rattle.shelf_laws.specs.Steps.{SameCache}
use Rattle.region_laws.specs.Steps.{SameOffice}
use Rattle.free_laws.specs.Steps.{Writes}
use Rattle.pool_laws.proofs.Below.{after-apart}

-- words of the kinds with such numbers
abbrev pub On : (ℕ → Type 0) → Word → Type 0
On Is w = Is (number (kind_of_word w))

abbrev pub Writing : (ℕ → Type 0) → Action → Type 0
Writing Is action = Writes (On Is) action

-- the kind is none of these
abbrev pub Not : (ℕ → Type 0) → WordKind → Type 0
Not Is which = (n : ℕ) → Is n → n ≢ number which

pub not_on : (Is : ℕ → Type 0) (which : WordKind) (action : Action) → Not Is which → Writing Is action
    → IsNotOn which action
not_on Is which (Load w) far is = tt
not_on Is which (Store w v) far is = far (number (kind_of_word w)) is
not_on Is which (Swap w v) far is = far (number (kind_of_word w)) is
not_on Is which (Exchange w from to) far is = far (number (kind_of_word w)) is
not_on Is which (Add w v) far is = far (number (kind_of_word w)) is
not_on Is which (TakeOffice job) far is = tt
not_on Is which GiveOffice far is = tt
not_on Is which Nothing far is = tt

pub missed : (k : Key) (m : Mem) (Is : ℕ → Type 0) (which : WordKind) (action : Action) → Not Is which
    → Writing Is action → after k m action which ≡ m which
missed k m Is which action far is = after-apart k m action which (not_on Is which action far is)

-- which kinds the words of none but one group are outside of
pub record NoThing (Is : ℕ → Type 0) : Type 0 where
  pub marks' : Not Is marks
  pub publics' : Not Is publics
  pub kinds' : Not Is kinds
  pub headers' : Not Is headers

pub record NoGuard (Is : ℕ → Type 0) : Type 0 where
  pub below : (n : ℕ) → Is n → (n < 6) ⊎ (7 < n)

pub record NoList (Is : ℕ → Type 0) : Type 0 where
  pub below : (n : ℕ) → Is n → (n < 8) ⊎ (11 < n)

pub record NoQueue (Is : ℕ → Type 0) : Type 0 where
  pub below : (n : ℕ) → Is n → (n < 12) ⊎ (13 < n)

pub record NoMail (Is : ℕ → Type 0) : Type 0 where
  pub owns' : Not Is owns
  pub publics' : Not Is publics
  pub nexts' : Not Is nexts
  pub headers' : Not Is headers
  pub mailboxes' : Not Is mailboxes
  pub orphans' : Not Is orphans

pub record NoCache (Is : ℕ → Type 0) : Type 0 where
  pub below : (n : ℕ) → Is n → (n < 16) ⊎ (25 < n)

pub record NoOffice (Is : ℕ → Type 0) : Type 0 where
  pub below : (n : ℕ) → Is n → n < 27

-- a kind that lies in a range
within : (Is : ℕ → Type 0) (low high : ℕ) (which : WordKind) → ((n : ℕ) → Is n → (n < low) ⊎ (high < n))
    → low ≤ number which → number which ≤ high → Not Is which
within Is low high which out from to n is same = elim (out n is) [
  | inl before ↦ omega (arith, same, before, from)
  | inr behind ↦ omega (arith, same, behind, to)
]

pub leaves_things : (k : Key) (m : Mem) (Is : ℕ → Type 0) (action : Action) → NoThing Is → Writing Is action
    → SameThings m (after k m action)
leaves_things k m Is action un is = record {
  marks' = missed k m Is marks action un.marks' is;
  publics' = missed k m Is publics action un.publics' is;
  kinds' = missed k m Is kinds action un.kinds' is;
  headers' = missed k m Is headers action un.headers' is;
}

other_guard : (Is : ℕ → Type 0) (w : Word) → NoGuard Is → On Is w → guards.IsOtherWord w
other_guard Is w un is = elim (un.below (number (kind_of_word w)) is) [
  | inl before ↦ record { no_size = λ e. omega (arith, e, before); no_left = λ e. omega (arith, e, before) }
  | inr behind ↦ record { no_size = λ e. omega (arith, e, behind); no_left = λ e. omega (arith, e, behind) }
]

pub leaves_guards : (Is : ℕ → Type 0) (action : Action) → NoGuard Is → Writing Is action → guards.IsOtherAction action
leaves_guards Is (Load w) un is = tt
leaves_guards Is (Store w v) un is = other_guard Is w un is
leaves_guards Is (Swap w v) un is = other_guard Is w un is
leaves_guards Is (Exchange w from to) un is = other_guard Is w un is
leaves_guards Is (Add w v) un is = other_guard Is w un is
leaves_guards Is (TakeOffice job) un is = tt
leaves_guards Is GiveOffice un is = tt
leaves_guards Is Nothing un is = tt

pub leaves_lists : (k : Key) (m : Mem) (Is : ℕ → Type 0) (action : Action) → NoList Is → Writing Is action
    → SameLists m (after k m action)
leaves_lists k m Is action un is = record {
  locks = missed k m Is bin_locks action (within Is 8 11 bin_locks un.below (omega arith) (omega arith)) is;
  heads = missed k m Is bin_heads action (within Is 8 11 bin_heads un.below (omega arith) (omega arith)) is;
  next = missed k m Is forwards action (within Is 8 11 forwards un.below (omega arith) (omega arith)) is;
  previous = missed k m Is backwards action (within Is 8 11 backwards un.below (omega arith) (omega arith)) is;
}

pub leaves_queue : (k : Key) (m : Mem) (Is : ℕ → Type 0) (action : Action) → NoQueue Is → Writing Is action
    → SameQueue m (after k m action)
leaves_queue k m Is action un is = record {
  head = missed k m Is queues action (within Is 12 13 queues un.below (omega arith) (omega arith)) is;
  links = missed k m Is queue_links action (within Is 12 13 queue_links un.below (omega arith) (omega arith)) is;
}

pub leaves_cache : (k : Key) (m : Mem) (Is : ℕ → Type 0) (action : Action) → NoCache Is → Writing Is action
    → SameCache m (after k m action)
leaves_cache k m Is action un is = record {
  locks = missed k m Is cache_locks action (within Is 16 25 cache_locks un.below (omega arith) (omega arith)) is;
  heads = missed k m Is cache_heads action (within Is 16 25 cache_heads un.below (omega arith) (omega arith)) is;
  items = missed k m Is cache_items action (within Is 16 25 cache_items un.below (omega arith) (omega arith)) is;
  used = missed k m Is cache_used action (within Is 16 25 cache_used un.below (omega arith) (omega arith)) is;
  means = missed k m Is cache_means action (within Is 16 25 cache_means un.below (omega arith) (omega arith)) is;
  thresholds = missed k m Is cache_thresholds action
      (within Is 16 25 cache_thresholds un.below (omega arith) (omega arith)) is;
  gets = missed k m Is cache_gets action (within Is 16 25 cache_gets un.below (omega arith) (omega arith)) is;
  cleaned = missed k m Is cache_cleaned action (within Is 16 25 cache_cleaned un.below (omega arith) (omega arith)) is;
  links = missed k m Is cache_links action (within Is 16 25 cache_links un.below (omega arith) (omega arith)) is;
  ages = missed k m Is cache_ages action (within Is 16 25 cache_ages un.below (omega arith) (omega arith)) is;
}

pub leaves_office : (k : Key) (m : Mem) (Is : ℕ → Type 0) (action : Action) → NoOffice Is → Writing Is action
    → SameOffice m (after k m action)
leaves_office k m Is action un is = record {
  lock = missed k m Is office_locks action (λ n is e. let low = un.below n is in omega (arith, e, low)) is;
  words = missed k m Is regions action (λ n is e. let low = un.below n is in omega (arith, e, low)) is;
  bases' = missed k m Is bases action (λ n is e. let low = un.below n is in omega (arith, e, low)) is;
}

other_mail : (Is : ℕ → Type 0) (w : Word) → NoMail Is → On Is w → mails.IsOtherWord w
other_mail Is w un is = record {
  no_public = un.publics' (number (kind_of_word w)) is;
  no_next = un.nexts' (number (kind_of_word w)) is;
  no_mailbox = un.mailboxes' (number (kind_of_word w)) is;
}

pub leaves_mail : (Is : ℕ → Type 0) (action : Action) → NoMail Is → Writing Is action → mails.IsOtherAction action
leaves_mail Is (Load w) un is = tt
leaves_mail Is (Store w v) un is = other_mail Is w un is
leaves_mail Is (Swap w v) un is = other_mail Is w un is
leaves_mail Is (Exchange w from to) un is = other_mail Is w un is
leaves_mail Is (Add w v) un is = other_mail Is w un is
leaves_mail Is (TakeOffice job) un is = tt
leaves_mail Is GiveOffice un is = tt
leaves_mail Is Nothing un is = tt

pub leaves_orphans : (Is : ℕ → Type 0) (action : Action) → NoMail Is → Writing Is action → IsApart action
leaves_orphans Is action un is = record {
  no_own = not_on Is owns action un.owns' is;
  no_header = not_on Is headers action un.headers' is;
  no_orphans = not_on Is orphans action un.orphans' is;
}

-- the same words
pub same_things : (m : Mem) → SameThings m m
same_things m = record { marks' = refl; publics' = refl; kinds' = refl; headers' = refl }

pub same_lists : (m : Mem) → SameLists m m
same_lists m = record { locks = refl; heads = refl; next = refl; previous = refl }

pub same_queue : (m : Mem) → SameQueue m m
same_queue m = record { head = refl; links = refl }

pub same_office : (m : Mem) → SameOffice m m
same_office m = record { lock = refl; words = refl; bases' = refl }

pub same_cache : (m : Mem) → SameCache m m
same_cache m = record {
  locks = refl;
  heads = refl;
  items = refl;
  used = refl;
  means = refl;
  thresholds = refl;
  gets = refl;
  cleaned = refl;
  links = refl;
  ages = refl;
}
