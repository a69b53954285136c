-- A new pool, and orphans by name, all of class 4. Seat 0 is about to leave slab 2, which seat 2 owes; slab 6 is in the
-- chain; seat 1 has taken two others, of which it pushes slab 8 back, and has put slab 4 aside.
use Rattle.std.specs.Prelude.{ℕ, Some, None, [], ◌∷◌}
use Rattle.pool_words.specs.declared.words.Key.{Key}
use Rattle.word_codes.specs.declared.nexts.Next.{Next}
use Rattle.word_codes.specs.declared.owns.Own.{Own}
use Rattle.word_codes.specs.declared.publics.Public.{Public}
use Rattle.heap_slabs.specs.Heaps.{most_slabs}
use Rattle.heap_slabs.specs.Records.{begun, to_header}
use Rattle.heap_slabs.specs.Rolls.{Rolled, empty_roll}
use Rattle.chain_words.specs.declared.pushing.PushAt.{PushAt}
use Rattle.mailbox.specs.declared.mailing.MailAt.{MailAt}
use Rattle.orphans.specs.declared.adopting.AdoptAt.{AdoptAt}
use Rattle.orphans.specs.declared.leaving.LeaveAt.{LeaveAt}
use Rattle.word_laws.specs.Memory.{put}
use Rattle.chain_laws.specs.Named.{ten_key}
use Rattle.slab_laws.specs.Books.{Keeper, Book}
use Rattle.slab_laws.specs.Named.{empty_book}
use Rattle.mail_laws.specs.Mail as mailing
use Rattle.mail_laws.specs.Mail.{Mail, key_by}
use Rattle.mail_laws.specs.Named.{no_mail}
use Rattle.orphan_laws.specs.Orphans.{Task, Shadow, Locals, Core}

abbrev pub no_orphans : Shadow
no_orphans = record { mail = no_mail; left = λ c. []; taken = λ seat. [] }

abbrev pub fresh_locals : Key → Locals
fresh_locals k = record {
  book = empty_book;
  mails = λ seat. mailing.Task.Away;
  tasks = λ seat. Task.Away;
  spares = λ seat. empty_roll (most_slabs k.span);
}

abbrev pub three_key : Key
three_key = record ten_key { seats = 3 }

-- slabs of which nothing was handed out
abbrev pub bare_book : (ℕ → Keeper) → Book
bare_book keeper = record {
  keeper = keeper;
  classes = λ e. 4;
  handed = λ e. 0;
  counts = λ e. 0;
  heads = λ e. None;
}

abbrev pub named_orphans : Shadow
named_orphans = record {
  mail = record {
    mail = put (put (put (put (λ e. Mail.Absent) 2 (Mail.Owed 2)) 4 (Mail.Adopted 1)) 6 Mail.Left) 8 (Mail.Adopted 1);
    boxed = λ b. [];
    fetched = λ seat. [];
  };
  left = put (λ c. []) 4 (6 ∷ []);
  taken = λ seat. [];
}

abbrev pub one_spare : Rolled ℕ
one_spare = record { items = 4 ∷ []; room = 5 }

-- the head that the push of slab 8 has found names slab 6
abbrev pub returning : Task
returning = Task.Returning 4 8 (LeaveAt.Push (PushAt.Exchange 7))

abbrev pub named_words : Core
named_words = record {
  publics = put (put (put (put (λ e. Public.Null) 2 (Public.Filled 2100)) 4 Public.Unusable) 6 Public.Unusable) 8
      Public.Unusable;
  nexts = put (put (λ e. Next.Link None) 2 (Next.Mailbox (key_by 0 4))) 8 (Next.Link (Some 6));
  boxes = λ b. None;
  owns = put (λ e. Own.Orphan) 2 (Own.Kept 0);
  headers = λ e. to_header (begun e 4);
  heads = put (λ c. None) 4 (Some 6);
  book = bare_book (put (put (put (put (λ e. Keeper.Nobody) 2 (Keeper.By 0)) 4 (Keeper.Adopting 1)) 6 Keeper.Orphan) 8
      (Keeper.Adopting 1));
  mails = put (λ seat. mailing.Task.Away) 2 (mailing.Task.Mailing 2 MailAt.Next);
  tasks = put (put (λ seat. Task.Away) 0 (Task.Leaving 2 LeaveAt.Close)) 1 returning;
  spares = put (λ seat. empty_roll 5) 1 one_spare;
}

-- slab 2 is in seat 1's hand, which is about to write the slab's next word
abbrev pub unsettled_orphans : Shadow
unsettled_orphans = record {
  mail = record {
    mail = put (λ e. Mail.Absent) 2 (Mail.Adopted 1);
    boxed = λ b. [];
    fetched = λ seat. [];
  };
  left = λ c. [];
  taken = put (λ seat. []) 1 (2 ∷ []);
}

abbrev pub settling : Task
settling = Task.Adopting 4 (AdoptAt.Settle 2 (to_header (begun 2 4)) None)

abbrev pub unsettled_words : Core
unsettled_words = record {
  publics = put (λ e. Public.Null) 2 Public.Unusable;
  nexts = λ e. Next.Link None;
  boxes = λ b. None;
  owns = λ e. Own.Orphan;
  headers = λ e. to_header (begun e 4);
  heads = λ c. None;
  book = bare_book (put (λ e. Keeper.Nobody) 2 (Keeper.Adopting 1));
  mails = λ seat. mailing.Task.Away;
  tasks = put (λ seat. Task.Away) 1 settling;
  spares = λ seat. empty_roll 5;
}
