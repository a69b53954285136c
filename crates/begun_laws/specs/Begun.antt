-- Slabs that are about to begin.
use Rattle.std.specs.Prelude.{◌≡◌, ℕ}
use Rattle.mail_laws.specs.Mail as mailing
use Rattle.mail_laws.specs.Mail.{Mail}
use Rattle.pool_laws.specs.Wholes.{Whole}

-- what a seat does with mail names the slab that it is about to begin
abbrev pub Names : mailing.Task → ℕ → Type 0
Names mailing.Task.Away e = ⊥
Names (mailing.Task.Mailing slab at) e = ⊥
Names (mailing.Task.Fetching class at) e = ⊥
Names (mailing.Task.Beginning slab class) e = slab ≡ e
Names (mailing.Task.Settled slab class) e = slab ≡ e

-- each slab that is to begin is named by the seat that begins it
abbrev pub AreNamed : (ℕ → Mail) → (ℕ → mailing.Task) → Type 0
AreNamed mail tasks = (e t : ℕ) → mail e ≡ Mail.Begun t → Names (tasks t) e

abbrev pub BegunFit : Whole → Type 0
BegunFit w = AreNamed w.ways.mail.mail w.mails
