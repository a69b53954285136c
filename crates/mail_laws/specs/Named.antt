-- A new pool, and mail by name: of four slabs of class 4 that seat 0 keeps or has left, slab 2 is in its mailbox, seat 1
-- owes slab 4, slab 6 was fetched, and slab 8 is an orphan.
use Rattle.std.specs.Prelude.{ℕ, Option, Some, None, List, [], ◌∷◌}
use Rattle.word_codes.specs.declared.nexts.Next.{Next}
use Rattle.word_codes.specs.declared.publics.Public.{Public}
use Rattle.mailbox.specs.declared.mailing.MailAt.{MailAt}
use Rattle.mailbox.specs.declared.boxes.BoxAt.{BoxAt}
use Rattle.word_laws.specs.Memory.{put}
use Rattle.slab_laws.specs.Books.{Keeper}
use Rattle.mail_laws.specs.Mail.{Mail, Task, Shadow, Locals, Core, key_by}

abbrev pub no_mail : Shadow
no_mail = record { mail = λ e. Mail.Absent; boxed = λ b. []; fetched = λ seat. [] }

abbrev pub fresh_locals : Locals
fresh_locals = record { keeper = λ e. Keeper.Nobody; classes = λ e. 0; tasks = λ seat. Task.Away }

abbrev pub named_mail : Shadow
named_mail = record {
  mail = put (put (put (put (λ e. Mail.Absent) 2 Mail.Boxed) 4 (Mail.Owed 1)) 6 (Mail.Taken 0)) 8 Mail.Left;
  boxed = put (λ b. []) 4 (2 ∷ []);
  fetched = put (λ seat. []) 0 (6 ∷ []);
}

abbrev pub named_words : Core
named_words = record {
  publics = put (put (put (put (λ e. Public.Null) 2 (Public.Filled 2100)) 4 (Public.Filled 4200)) 6
      (Public.Filled 6200)) 8 Public.Unusable;
  nexts = put (λ e. Next.Link None) 4 (Next.Mailbox (key_by 0 4));
  boxes = put (λ b. None) 4 (Some 2);
  keeper = put (put (put (put (λ e. Keeper.Nobody) 2 (Keeper.By 0)) 4 (Keeper.By 0)) 6 (Keeper.By 0)) 8 Keeper.Orphan;
  classes = λ e. 4;
  tasks = put (put (λ seat. Task.Away) 0 (Task.Fetching 4 (BoxAt.Next 6))) 1 (Task.Mailing 4 MailAt.Next);
}

-- slab 2 was adopted by seat 0, which has not taken its public list, and whose next word was not written
abbrev pub unsettled_mail : Shadow
unsettled_mail = record {
  mail = put (λ e. Mail.Absent) 2 (Mail.Adopted 0);
  boxed = λ b. [];
  fetched = λ seat. [];
}

abbrev pub unsettled_words : Core
unsettled_words = record {
  publics = put (λ e. Public.Null) 2 Public.Unusable;
  nexts = λ e. Next.Link None;
  boxes = λ b. None;
  keeper = put (λ e. Keeper.Nobody) 2 (Keeper.By 0);
  classes = λ e. 4;
  tasks = λ seat. Task.Away;
}
