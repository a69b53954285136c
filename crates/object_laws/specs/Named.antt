-- A new pool, in which there is no object, and objects by name: slab 2 of class 4, which seat 0 keeps, of which five
-- objects were handed out. The first is private, the second was given back, the third is held, the fourth was given
-- back and taken, and is about to be joined, and the fifth is in seat 1's hand, which found the public list empty.
use Rattle.std.specs.Prelude.{ℕ, Some, None, [], ◌∷◌}
use Rattle.pool_types.specs.declared.values.Grant.{Grant}
use Rattle.word_codes.specs.declared.marks.Mark.{Mark}
use Rattle.word_codes.specs.declared.publics.Public.{Public}
use Rattle.word_codes.specs.declared.kinds.Kind.{Kind}
use Rattle.chain_words.specs.declared.pushing.PushAt.{PushAt}
use Rattle.public_list.specs.declared.joining.JoinAt.{JoinAt}
use Rattle.public_list.specs.declared.posting.PostAt.{PostAt}
use Rattle.public_list.specs.declared.posting.PostCall.{PostCall}
use Rattle.word_laws.specs.Memory.{put}
use Rattle.slab_laws.specs.Books.{Keeper, Book}
use Rattle.slab_laws.specs.Named.{empty_book}
use Rattle.object_laws.specs.Objects.{Held, Task, Shadow, Locals, Core, grant_by}
use Rattle.object_laws.specs.Objects.Task.{Away, Posting, Joining}

abbrev pub no_objects : Shadow
no_objects = record {
  held = λ u. Held.NotOut;
  privates = λ e. [];
  listed = λ e. [];
  taken = λ e. [];
  ended = λ seat number. 0;
}

abbrev pub fresh_locals : Locals
fresh_locals = record { book = empty_book; lasts = λ seat. 0; tasks = λ seat. Away; notes = λ seat. [] }

-- what is so at each of the five units, and elsewhere
abbrev pub at_units : {A : Type 0} → A → A → A → A → A → A → ℕ → A
at_units none private listed object taken hand =
    put (put (put (put (put (λ u. none) 4088 private) 4080 listed) 4072 object) 4064 taken) 4056 hand

abbrev pub one_grant : Grant
one_grant = grant_by 0 1

abbrev pub named_objects : Shadow
named_objects = record {
  held = at_units Held.NotOut Held.Private Held.Listed (Held.Object one_grant) Held.Private (Held.InHand 1);
  privates = put (λ e. []) 2 (4088 ∷ []);
  listed = put (λ e. []) 2 (4080 ∷ []);
  taken = put (λ e. []) 2 (4064 ∷ []);
  ended = λ seat number. 0;
}

abbrev pub posted_call : PostCall
posted_call = record { unit = 4056; slab = 2 }

abbrev pub posting : Task
posting = Posting posted_call (PostAt.Push (PushAt.Exchange 0))

abbrev pub tying : Task
tying = Joining 2 (JoinAt.Tie 4064 4064 1)

abbrev pub objects_book : Book
objects_book = record {
  keeper = put (λ e. Keeper.Nobody) 2 (Keeper.By 0);
  classes = λ e. 4;
  handed = put (λ e. 0) 2 5;
  counts = put (λ e. 0) 2 4;
  heads = put (λ e. None) 2 (Some 4088);
}

abbrev pub named_words : Core
named_words = record {
  marks = at_units Mark.Unmarked Mark.End Mark.End (Mark.Granted one_grant) Mark.End Mark.End;
  publics = put (λ e. Public.Null) 2 (Public.Filled 4080);
  kinds = put (λ e. Kind.Nothing) 2 (Kind.Slab 4);
  book = objects_book;
  lasts = put (λ seat. 0) 0 1;
  tasks = put (put (λ seat. Away) 0 tying) 1 posting;
  notes = λ seat. [];
}
