-- The steps on own words, headers and chains of orphans, and those after which a slab is kept by another: what each
-- rests on, and what it leaves.
use Rattle.std.specs.Prelude.{◌≡◌, ◌≢◌, ℕ, ◌<◌, Bool, cond, Option, Some, None, [], ◌∷◌, ⊤}
use Rattle.pool_types.specs.Geometry.{class_count}
use Rattle.pool_words.specs.declared.words.Key.{Key}
use Rattle.pool_words.specs.declared.words.Word.{Word}
use Rattle.pool_words.specs.declared.actions.Action.{Action}
use Rattle.pool_words.specs.declared.actions.Action.TheVariants.{Load, Store, Swap, Exchange, Add}
use Rattle.pool_words.specs.declared.actions.Action.TheVariants.{TakeOffice, GiveOffice, Nothing}
use Rattle.pool_words.specs.Words.{WordKind, kind_of_word, number, publics, owns, headers, orphans}
use Rattle.word_codes.specs.declared.owns.Own.{Own}
use Rattle.word_codes.specs.declared.publics.Public.{Public}
use Rattle.word_codes.specs.Owns.{own_word}
use Rattle.word_codes.specs.Places.{slab_granule}
use Rattle.word_codes.specs.Publics.{public_of, public_word}
use Rattle.heap_slabs.specs.Records.{to_header}
use Rattle.heap_slabs.specs.Rolls.{after_push, newest_of, without_newest}
use Rattle.chain_words.specs.declared.pushing.PushAt.{PushAt}
use Rattle.orphans.specs.declared.adopting.AdoptAt.{AdoptAt}
use Rattle.orphans.specs.declared.adopting.AdoptCall.{AdoptCall}
use Rattle.orphans.specs.declared.adopting.AdoptNext.{AdoptNext}
use Rattle.orphans.specs.declared.leaving.LeaveAt.{LeaveAt}
use Rattle.orphans.specs.declared.leaving.LeaveCall.{LeaveCall}
use Rattle.orphans.specs.declared.leaving.LeaveNext.{LeaveNext}
use Rattle.orphans.specs.Adopting.{adopt_course, adopt_learn}
use Rattle.orphans.specs.Leaving.{leave_course, leave_learn}
use Rattle.word_laws.specs.Memory.{Mem, put, after, found}
use Rattle.slab_laws.specs.Books.{Keeper, Book, record_of, with_keeper, with_chain_taken, with_begun, with_ended}
use Rattle.mail_laws.specs.Mail as mailing
use Rattle.mail_laws.specs.Mail.{Mail}
use Rattle.mail_laws.specs.Steps.{with_mail, tail_of, shadow_come, MailStep}
use Rattle.orphan_laws.specs.Orphans.{Task, Shadow, Locals, mail_locals, IsLeaving}

abbrev pub with_task : ℕ → Task → Locals → Locals
with_task seat task l = record l { tasks = put l.tasks seat task }

abbrev pub with_book : Book → Locals → Locals
with_book b l = record l { book = b }

abbrev pub with_way : ℕ → Mail → Shadow → Shadow
with_way e mail g = record g { mail = with_mail e mail g.mail }

-- what the seats' locals have of mail
abbrev pub with_mails : mailing.Locals → Locals → Locals
with_mails ml l = record l {
  book = record l.book { keeper = ml.keeper; classes = ml.classes };
  mails = ml.tasks;
}

-- a slab is left: it is an orphan, in front of the chain of its class
abbrev pub leave_of : Locals → ℕ → LeaveCall
leave_of l e = record { slab = e; class = l.book.classes e; header = to_header (record_of l.book e) }

abbrev pub shadow_pushed : ℕ → ℕ → Shadow → Shadow
shadow_pushed class e g = record g {
  mail = with_mail e Mail.Left g.mail;
  left = put g.left class (e ∷ g.left class);
}

abbrev pub shadow_left : Locals → ℕ → ℕ → LeaveNext → Shadow → Shadow
shadow_left l seat e (LeaveNext.Goes LeaveAt.Close) g = g
shadow_left l seat e (LeaveNext.Goes LeaveAt.Header) g = with_way e (Mail.Leaving seat) g
shadow_left l seat e (LeaveNext.Goes LeaveAt.Disown) g = g
shadow_left l seat e (LeaveNext.Goes (LeaveAt.Push at)) g = g
shadow_left l seat e LeaveNext.Filled g = g
shadow_left l seat e LeaveNext.Left g = shadow_pushed (l.book.classes e) e g

abbrev pub left_as : ℕ → ℕ → LeaveNext → Locals → Locals
left_as seat e (LeaveNext.Goes at) l = with_task seat (Task.Leaving e at) l
left_as seat e LeaveNext.Filled l = with_task seat Task.Away l
left_as seat e LeaveNext.Left l = with_task seat Task.Away (with_book (with_keeper e Keeper.Orphan l.book) l)

-- orphans that were put aside are pushed back, the last one first
abbrev pub sparing : ℕ → ℕ → Option ℕ → Locals → Locals
sparing seat class (Some e) l = record l {
  tasks = put l.tasks seat (Task.Returning class e (LeaveAt.Push PushAt.Look));
  spares = put l.spares seat (without_newest (l.spares seat));
}
sparing seat class None l = with_task seat Task.Away l

abbrev pub spares_back : ℕ → ℕ → Locals → Locals
spares_back seat class l = sparing seat class (newest_of (l.spares seat)) l

abbrev pub spared_on : ℕ → ℕ → Option ℕ → Locals → Locals
spared_on seat class (Some e) l = with_task seat (Task.Adopting class (AdoptAt.Spare e)) l
spared_on seat class None l = spares_back seat class l

-- a chain is taken, and each of its slabs is adopted or put aside
abbrev pub adopt_of : ℕ → ℕ → AdoptCall
adopt_of seat class = record { seat = seat; class = class }

abbrev pub shadow_taken : ℕ → ℕ → Shadow → Shadow
shadow_taken seat class g = record {
  mail = shadow_come seat (g.left class) g.mail;
  left = put g.left class [];
  taken = put g.taken seat (g.left class);
}

abbrev pub shadow_dealt : ℕ → Shadow → Shadow
shadow_dealt seat g = record g { taken = put g.taken seat (tail_of (g.taken seat)) }

abbrev pub shadow_adopted : ℕ → ℕ → AdoptAt → Shadow → Shadow
shadow_adopted seat class AdoptAt.Take g = shadow_taken seat class g
shadow_adopted seat class (AdoptAt.Header e) g = g
shadow_adopted seat class (AdoptAt.Next e header) g = g
shadow_adopted seat class (AdoptAt.Settle e header rest) g = g
shadow_adopted seat class (AdoptAt.Own e header rest) g = shadow_dealt seat g
shadow_adopted seat class (AdoptAt.Spare e) g = shadow_dealt seat g

-- whose slabs are after a step of an adopter
abbrev pub book_adopted : ℕ → ℕ → AdoptAt → Shadow → Book → Book
book_adopted seat class AdoptAt.Take g b = with_chain_taken seat (g.left class) b
book_adopted seat class (AdoptAt.Header e) g b = b
book_adopted seat class (AdoptAt.Next e header) g b = b
book_adopted seat class (AdoptAt.Settle e header rest) g b = b
book_adopted seat class (AdoptAt.Own e header rest) g b = with_keeper e (Keeper.By seat) b
book_adopted seat class (AdoptAt.Spare e) g b = b

abbrev pub adopted_as : ℕ → ℕ → AdoptNext → Locals → Locals
adopted_as seat class (AdoptNext.Goes at) l = with_task seat (Task.Adopting class at) l
adopted_as seat class AdoptNext.Empty l = with_task seat Task.Away l
adopted_as seat class (AdoptNext.Adopted e header rest) l = with_task seat (Task.Joining class e rest) l
adopted_as seat class (AdoptNext.Spared e rest) l =
    spared_on seat class rest (record l { spares = put l.spares seat (after_push (l.spares seat) e) })

-- the next of the orphans in hand is adopted, or put aside once there are enough
abbrev pub rested_on : ℕ → ℕ → Bool → Option ℕ → Locals → Locals
rested_on seat class enough (Some e) l =
    with_task seat (Task.Adopting class (cond enough (AdoptAt.Spare e) (AdoptAt.Header e))) l
rested_on seat class enough None l = with_task seat Task.Away l

-- an orphan is pushed back
abbrev pub return_of : ℕ → ℕ → LeaveCall
return_of class e = record { slab = e; class = class; header = 0 }

abbrev pub shadow_returned : ℕ → ℕ → LeaveNext → Shadow → Shadow
shadow_returned class e (LeaveNext.Goes at) g = g
shadow_returned class e LeaveNext.Filled g = g
shadow_returned class e LeaveNext.Left g = shadow_pushed class e g

abbrev pub returned_as : ℕ → ℕ → ℕ → LeaveNext → Locals → Locals
returned_as seat class e (LeaveNext.Goes at) l = with_task seat (Task.Returning class e at) l
returned_as seat class e LeaveNext.Filled l = spares_back seat class l
returned_as seat class e LeaveNext.Left l =
    spares_back seat class (with_book (with_keeper e Keeper.Orphan l.book) l)

-- an action that writes no word of a kind
abbrev pub IsNotOn : WordKind → Action → Type 0
IsNotOn one (Load w) = ⊤
IsNotOn one (Store w value) = number (kind_of_word w) ≢ number one
IsNotOn one (Swap w value) = number (kind_of_word w) ≢ number one
IsNotOn one (Exchange w from to) = number (kind_of_word w) ≢ number one
IsNotOn one (Add w value) = number (kind_of_word w) ≢ number one
IsNotOn one (TakeOffice job) = ⊤
IsNotOn one GiveOffice = ⊤
IsNotOn one Nothing = ⊤

pub record IsApart (action : Action) : Type 0 where
  pub no_own : IsNotOn owns action
  pub no_header : IsNotOn headers action
  pub no_orphans : IsNotOn orphans action

-- a step of mail that is none by which a slab is left, taken or adopted, begins or ends
abbrev pub IsAside : {k : Key} {g : mailing.Shadow} {m : Mem} {l : mailing.Locals} {h : mailing.Shadow} {m' : Mem}
    {l' : mailing.Locals} → MailStep k g m l h m' l' → Type 0
IsAside (MailStep.posts seat call at away there low) = ⊤
IsAside (MailStep.mails seat e at is) = ⊤
IsAside (MailStep.fetches seat class head at is) = ⊤
IsAside (MailStep.fetch_begins seat class is low few) = ⊤
IsAside (MailStep.begins seat e class is absent low few inside) = ⊤
IsAside (MailStep.settles seat e class is) = ⊤
IsAside (MailStep.clears seat e class is) = ⊤
IsAside (MailStep.slab_begins seat e class is) = ⊥
IsAside (MailStep.slab_ends seat e by null) = ⊥
IsAside (MailStep.cached e keeper none now) = ⊤
IsAside (MailStep.closes seat e by) = ⊥
IsAside (MailStep.links seat e value moves) = ⊥
IsAside (MailStep.leaves seat e is) = ⊥
IsAside (MailStep.goes_back seat e is by) = ⊥
IsAside (MailStep.comes seat chain left) = ⊥
IsAside (MailStep.adopts seat e is by low few) = ⊥
IsAside (MailStep.takes_adopted seat e is by home) = ⊥
IsAside (MailStep.others action other) = IsApart action

-- the record of one slab changes, and nobody else keeps any
pub record RecordOnly (e : ℕ) (b later : Book) : Type 0 where
  pub keeper : later.keeper ≡ b.keeper
  pub classes : later.classes ≡ b.classes
  pub else : (x : ℕ) → x ≢ e → record_of later x ≡ record_of b x

pub data OrphanStep (k : Key) (g : Shadow) (m : Mem) (l : Locals) : Shadow → Mem → Locals → Type 0 where
  -- P6, O1 to O5: a keeper leaves a slab
  leave_begins : (seat e : ℕ) → l.tasks seat ≡ Task.Away → l.book.keeper e ≡ Keeper.By seat
      → OrphanStep k g m l g m (with_task seat (Task.Leaving e LeaveAt.Close) l)
  leaves : (seat e : ℕ) (at : LeaveAt) → l.tasks seat ≡ Task.Leaving e at
      → OrphanStep k g m l (shadow_left l seat e (leave_learn at (found m (leave_course (leave_of l e) at))) g)
      (after k m (leave_course (leave_of l e) at))
      (left_as seat e (leave_learn at (found m (leave_course (leave_of l e) at))) l)
  -- O6, O7, N7, O8: the orphans of a class are taken, adopted and put aside
  take_begins : (seat class : ℕ) → l.tasks seat ≡ Task.Away → class < class_count → seat < k.seats
      → OrphanStep k g m l g m (with_task seat (Task.Adopting class AdoptAt.Take) l)
  adopts : (seat class : ℕ) (at : AdoptAt) → l.tasks seat ≡ Task.Adopting class at
      → OrphanStep k g m l (shadow_adopted seat class at g) (after k m (adopt_course (adopt_of seat class) at))
      (adopted_as seat class (adopt_learn at (found m (adopt_course (adopt_of seat class) at)))
      (with_book (book_adopted seat class at g l.book) l))
  -- P5 of an adopted slab, and on to the next one
  joins : (seat class e : ℕ) (rest : Option ℕ) → l.tasks seat ≡ Task.Joining class e rest
      → OrphanStep k g m l (with_way e Mail.Rest g) (after k m (Swap (Word.Public e) (public_word Public.Null)))
      (with_task seat (Task.Resting class rest) l)
  goes_on : (seat class : ℕ) (rest : Option ℕ) (enough : Bool) → l.tasks seat ≡ Task.Resting class rest
      → OrphanStep k g m l g m (rested_on seat class enough rest l)
  -- O3 to O5 of an orphan that is pushed back
  returns : (seat class e : ℕ) (at : LeaveAt) → l.tasks seat ≡ Task.Returning class e at
      → OrphanStep k g m l (shadow_returned class e (leave_learn at (found m (leave_course (return_of class e) at))) g)
      (after k m (leave_course (return_of class e) at))
      (returned_as seat class e (leave_learn at (found m (leave_course (return_of class e) at))) l)
  -- O8 of a new slab, and F8 by which it is the seat's, or ends
  owns_first : (seat e class : ℕ) → l.tasks seat ≡ Task.Away → l.mails seat ≡ mailing.Task.Settled e class
      → OrphanStep k g m l g (after k m (Store (Word.Own e) (own_word (Own.Kept seat))))
      (with_task seat (Task.Owning e) l)
  slab_begins : (seat e class : ℕ) → l.tasks seat ≡ Task.Owning e → l.mails seat ≡ mailing.Task.Settled e class
      → slab_granule e ≡ e
      → OrphanStep k g m l (with_way e Mail.Rest g) m (record l {
        book = with_begun seat e class l.book;
        mails = put l.mails seat mailing.Task.Away;
        tasks = put l.tasks seat Task.Away;
      })
  slab_ends : (seat e : ℕ) → l.book.keeper e ≡ Keeper.By seat → public_of (m publics e) ≡ Public.Null
      → (IsLeaving (l.tasks seat) e → ⊥)
      → OrphanStep k g m l (with_way e Mail.Absent g) m (with_book (with_ended e l.book) l)
  -- M2, M3, M4, M8: the record of a slab that is not being left is another
  records : (seat e : ℕ) (later : Book) → l.book.keeper e ≡ Keeper.By seat → (IsLeaving (l.tasks seat) e → ⊥)
      → RecordOnly e l.book later → OrphanStep k g m l g m (with_book later l)
  -- each other step of mail, and each step on another word
  asides : {h : mailing.Shadow} {m' : Mem} {ml : mailing.Locals} (step : MailStep k g.mail m (mail_locals l) h m' ml)
      → IsAside step → OrphanStep k g m l (record g { mail = h }) m' (with_mails ml l)

-- any number of steps of any number of seats
pub data OrphanRun (k : Key) (g0 : Shadow) (m0 : Mem) (l0 : Locals) : Shadow → Mem → Locals → Type 0 where
  starts : OrphanRun k g0 m0 l0 g0 m0 l0
  steps : {g1 : Shadow} {m1 : Mem} {l1 : Locals} {h : Shadow} {m' : Mem} {l' : Locals}
      → OrphanRun k g0 m0 l0 g1 m1 l1 → OrphanStep k g1 m1 l1 h m' l' → OrphanRun k g0 m0 l0 h m' l'
