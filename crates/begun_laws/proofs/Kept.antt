-- What a change of one mail, and of what one seat does with mail, keeps.
use Rattle.std.proofs.Common.{◌≡◌, ℕ, Bool, true, false, cond, subst}
use Rattle.std.specs.Prelude.{⊤}
use Rattle.word_laws.specs.Memory.{put}
use Rattle.word_laws.proofs.CallerLemmas.{each}
use Rattle.mail_laws.specs.Mail.{Mail, Task}
use Rattle.mail_laws.specs.Steps.{took}
use Rattle.begun_laws.specs.Begun.{AreNamed, Names}

-- no slab is to begin but those that were, and these are named as before
pub record Kept (mail mail' : ℕ → Mail) (tasks tasks' : ℕ → Task) : Type 0 where
  pub less : (e t : ℕ) → mail' e ≡ Mail.Begun t → mail e ≡ Mail.Begun t
  pub names : (e t : ℕ) → mail' e ≡ Mail.Begun t → Names (tasks t) e → Names (tasks' t) e

pub kept_named : (mail mail' : ℕ → Mail) (tasks tasks' : ℕ → Task) → Kept mail mail' tasks tasks' → AreNamed mail tasks
    → AreNamed mail' tasks'
kept_named mail mail' tasks tasks' kept named e t is = kept.names e t is (named e t (kept.less e t is))

pub same : (mail : ℕ → Mail) (tasks : ℕ → Task) → Kept mail mail tasks tasks
same mail tasks = record { less = λ e t is. is; names = λ e t is names. names }

-- a mail that is not that of a slab which is to begin
abbrev pub IsNotBegun : Mail → Type 0
IsNotBegun (Mail.Begun t) = ⊥
IsNotBegun _ = ⊤

not_begun : (one : Mail) (t : ℕ) → IsNotBegun one → one ≡ Mail.Begun t → ⊥
not_begun (Mail.Begun o) t not is = not
not_begun Mail.Absent t not is = cc
not_begun Mail.Rest t not is = cc
not_begun (Mail.Owed o) t not is = cc
not_begun Mail.Boxed t not is = cc
not_begun (Mail.Taken o) t not is = cc
not_begun (Mail.Leaving o) t not is = cc
not_begun Mail.Left t not is = cc
not_begun (Mail.Adopted o) t not is = cc

pub put_less : (mail : ℕ → Mail) (slab : ℕ) (one : Mail) → IsNotBegun one → (e t : ℕ)
    → put mail slab one e ≡ Mail.Begun t → mail e ≡ Mail.Begun t
put_less mail slab one not e t = each (λ e other. other ≡ Mail.Begun t → mail e ≡ Mail.Begun t) mail slab one
    (λ e ne is. is) (λ is. absurd (not_begun one t not is)) e

-- a seat that named no slab does something else
abbrev pub NamesNone : Task → Type 0
NamesNone task = (e : ℕ) → Names task e → ⊥

pub put_names : (tasks : ℕ → Task) (seat : ℕ) (task : Task) → NamesNone (tasks seat) → (e t : ℕ)
    → Names (tasks t) e → Names (put tasks seat task t) e
put_names tasks seat task none e t = each (λ t other. Names (tasks t) e → Names other e) tasks seat task
    (λ t ne names. names) (λ names. absurd (none e names)) t

pub none_by : (task other : Task) → task ≡ other → NamesNone other → NamesNone task
none_by task other is none e names = none e (subst (λ x. Names x e) is names)

pub away_none : (task : Task) → task ≡ Task.Away → NamesNone task
away_none task is = none_by task Task.Away is (λ e names. names)

-- a slab's mail changes, and what such a seat does
pub changes : (mail : ℕ → Mail) (slab : ℕ) (one : Mail) (tasks : ℕ → Task) (seat : ℕ) (task : Task) → IsNotBegun one
    → NamesNone (tasks seat) → Kept mail (put mail slab one) tasks (put tasks seat task)
changes mail slab one tasks seat task not none = record {
  less = put_less mail slab one not;
  names = λ e t is. put_names tasks seat task none e t;
}

pub changes_mail : (mail : ℕ → Mail) (slab : ℕ) (one : Mail) (tasks : ℕ → Task) → IsNotBegun one
    → Kept mail (put mail slab one) tasks tasks
changes_mail mail slab one tasks not = record { less = put_less mail slab one not; names = λ e t is names. names }

pub changes_task : (mail : ℕ → Mail) (tasks : ℕ → Task) (seat : ℕ) (task : Task) → NamesNone (tasks seat)
    → Kept mail mail tasks (put tasks seat task)
changes_task mail tasks seat task none = record {
  less = λ e t is. is;
  names = λ e t is. put_names tasks seat task none e t;
}

-- a mailbox is taken; and a chain of orphans
pub took_less : (seat : ℕ) (one : Mail) (t : ℕ) → took seat one ≡ Mail.Begun t → one ≡ Mail.Begun t
took_less seat (Mail.Begun o) t is = is
took_less seat Mail.Absent t is = absurd (cc)
took_less seat Mail.Rest t is = absurd (cc)
took_less seat (Mail.Owed o) t is = absurd (cc)
took_less seat Mail.Boxed t is = absurd (cc)
took_less seat (Mail.Taken o) t is = absurd (cc)
took_less seat (Mail.Leaving o) t is = absurd (cc)
took_less seat Mail.Left t is = absurd (cc)
took_less seat (Mail.Adopted o) t is = absurd (cc)

pub cond_less : (b : Bool) (one other : Mail) (t : ℕ) → (one ≡ Mail.Begun t → other ≡ Mail.Begun t)
    → cond b one other ≡ Mail.Begun t → other ≡ Mail.Begun t
cond_less true one other t less is = less is
cond_less false one other t less is = is
