-- The steps on public words, next words and mailboxes: what each rests on, and what it leaves.
use Rattle.std.specs.Prelude.{◌≡◌, ◌≢◌, ℕ, ◌+◌, ◌^◌, ◌<◌, cond, eqb, ltb, Option, Some, None, List, [], ◌∷◌, ⊤}
use Rattle.pool_types.specs.Geometry.{class_count}
use Rattle.pool_words.specs.declared.words.Key.{Key}
use Rattle.pool_words.specs.declared.words.Word.{Word}
use Rattle.pool_words.specs.declared.actions.Action.{Action}
use Rattle.pool_words.specs.declared.actions.Action.TheVariants.{Load, Store, Swap, Exchange, Add}
use Rattle.pool_words.specs.declared.actions.Action.TheVariants.{TakeOffice, GiveOffice, Nothing}
use Rattle.pool_words.specs.Words.{kind_of_word, number, mailbox_at, publics, nexts, mailboxes}
use Rattle.word_codes.specs.declared.nexts.Next.{Next}
use Rattle.word_codes.specs.declared.publics.Public.{Public}
use Rattle.word_codes.specs.Nexts.{next_of, next_word}
use Rattle.word_codes.specs.Publics.{public_of, public_word}
use Rattle.public_list.specs.declared.joining.JoinAt.{JoinAt}
use Rattle.public_list.specs.declared.posting.PostCall.{PostCall}
use Rattle.public_list.specs.declared.posting.PostAt.{PostAt}
use Rattle.public_list.specs.declared.posting.PostNext.{PostNext}
use Rattle.public_list.specs.Posting.{post_course, post_learn}
use Rattle.mailbox.specs.declared.mailing.MailAt.{MailAt}
use Rattle.mailbox.specs.declared.mailing.MailCall.{MailCall}
use Rattle.mailbox.specs.declared.mailing.MailNext.{MailNext}
use Rattle.mailbox.specs.declared.boxes.BoxAt.{BoxAt}
use Rattle.mailbox.specs.declared.boxes.BoxCall.{BoxCall}
use Rattle.mailbox.specs.declared.boxes.BoxNext.{BoxNext}
use Rattle.mailbox.specs.Mailing.{mail_course, mail_learn}
use Rattle.mailbox.specs.Boxes.{box_course, box_learn}
use Rattle.word_laws.specs.Memory.{Mem, put, after, found}
use Rattle.chain_laws.specs.Chains.{tally}
use Rattle.slab_laws.specs.Books.{Keeper, IsThere, chain_taken}
use Rattle.mail_laws.specs.Mail.{Mail, Task, Shadow, Locals, key_by, box_of}

abbrev pub with_task : ℕ → Task → Locals → Locals
with_task seat task l = record l { tasks = put l.tasks seat task }

abbrev pub with_mail : ℕ → Mail → Shadow → Shadow
with_mail e mail g = record g { mail = put g.mail e mail }

-- a push onto a public word: the one that replaced Null brings the duty
abbrev pub shadow_posted : ℕ → PostCall → PostNext → Shadow → Shadow
shadow_posted seat call (PostNext.Goes at) g = g
shadow_posted seat call PostNext.Listed g = g
shadow_posted seat call PostNext.Owed g = with_mail call.slab (Mail.Owed seat) g

abbrev pub posted_as : ℕ → PostCall → PostNext → Locals → Locals
posted_as seat call (PostNext.Goes at) l = l
posted_as seat call PostNext.Listed l = l
posted_as seat call PostNext.Owed l = with_task seat (Task.Mailing call.slab MailAt.Next) l

-- a slab is mailed: to the mailbox of its keeper for its class
abbrev pub home_of : Locals → ℕ → ℕ
home_of l e = box_of (l.keeper e) (l.classes e)

abbrev pub shadow_mailed : Locals → ℕ → MailNext → Shadow → Shadow
shadow_mailed l e (MailNext.Goes at) g = g
shadow_mailed l e MailNext.Mailed g = record g {
  mail = put g.mail e Mail.Boxed;
  boxed = put g.boxed (home_of l e) (e ∷ g.boxed (home_of l e));
}

abbrev pub mailed_as : ℕ → ℕ → MailNext → Locals → Locals
mailed_as seat e (MailNext.Goes at) l = with_task seat (Task.Mailing e at) l
mailed_as seat e MailNext.Mailed l = with_task seat Task.Away l

-- a mailbox is taken, with all slabs in it
abbrev pub took : ℕ → Mail → Mail
took seat Mail.Absent = Mail.Absent
took seat (Mail.Begun other) = Mail.Begun other
took seat Mail.Rest = Mail.Rest
took seat (Mail.Owed other) = Mail.Owed other
took seat Mail.Boxed = Mail.Taken seat
took seat (Mail.Taken other) = Mail.Taken other
took seat (Mail.Leaving other) = Mail.Leaving other
took seat Mail.Left = Mail.Left
took seat (Mail.Adopted other) = Mail.Adopted other

abbrev pub box_taken_by : Locals → ℕ → ℕ → (ℕ → Mail) → ℕ → Mail
box_taken_by l seat b mail e = cond (eqb (home_of l e) b) (took seat (mail e)) (mail e)

abbrev pub tail_of : List ℕ → List ℕ
tail_of [] = []
tail_of (x ∷ xs) = xs

-- what a fetch leaves: the box's slabs are the seat's, and each is at rest once its public list is taken
abbrev pub shadow_fetched : Locals → ℕ → ℕ → BoxAt → Shadow → Shadow
shadow_fetched l seat class BoxAt.Take g = record {
  mail = box_taken_by l seat (mailbox_at seat class) g.mail;
  boxed = put g.boxed (mailbox_at seat class) [];
  fetched = put g.fetched seat (g.boxed (mailbox_at seat class));
}
shadow_fetched l seat class (BoxAt.Next e) g = g
shadow_fetched l seat class (BoxAt.Settle e rest) g = g
shadow_fetched l seat class (BoxAt.Join e rest JoinAt.Take) g = record g {
  mail = put g.mail e Mail.Rest;
  fetched = put g.fetched seat (tail_of (g.fetched seat));
}
shadow_fetched l seat class (BoxAt.Join e rest (JoinAt.Walk first at count)) g = g
shadow_fetched l seat class (BoxAt.Join e rest (JoinAt.Tie first last count)) g = g

abbrev pub fetch_on : ℕ → Option ℕ → Task
fetch_on class (Some e) = Task.Fetching class (BoxAt.Next e)
fetch_on class None = Task.Away

abbrev pub task_fetched : ℕ → BoxNext → Task
task_fetched class (BoxNext.Goes at) = Task.Fetching class at
task_fetched class BoxNext.Empty = Task.Away
task_fetched class (BoxNext.Unchanged slab rest) = fetch_on class rest
task_fetched class (BoxNext.Joined slab first count rest) = fetch_on class rest

abbrev pub box_by : ℕ → ℕ → Option ℕ → BoxCall
box_by seat class head = record { seat = seat; class = class; head = head }

abbrev pub mail_of : ℕ → MailCall
mail_of e = record { slab = e }

-- a slab's words are this seat's, which leaves or adopts it
pub data IsMoving (g : Shadow) (seat e : ℕ) : Type 0 where
  leaving : g.mail e ≡ Mail.Leaving seat → IsMoving g seat e
  adopting : g.mail e ≡ Mail.Adopted seat → IsMoving g seat e

-- the exchange by which a keeper begins to leave a slab, where nothing was given back to it
abbrev pub close_action : ℕ → Action
close_action e = Exchange (Word.Public e) (public_word Public.Null) (public_word Public.Unusable)

abbrev pub shadow_closed : ℕ → ℕ → Public → Shadow → Shadow
shadow_closed seat e Public.Null g = with_mail e (Mail.Leaving seat) g
shadow_closed seat e Public.Unusable g = g
shadow_closed seat e (Public.Filled unit) g = g

-- orphans are taken with their chain
abbrev pub shadow_come : ℕ → List ℕ → Shadow → Shadow
shadow_come seat chain g = record g { mail = λ e. cond (ltb 0 (tally e chain)) (Mail.Adopted seat) (g.mail e) }

-- a word that is no public word, next word or mailbox
pub record IsOtherWord (w : Word) : Type 0 where
  pub no_public : number (kind_of_word w) ≢ number publics
  pub no_next : number (kind_of_word w) ≢ number nexts
  pub no_mailbox : number (kind_of_word w) ≢ number mailboxes

abbrev pub IsOtherAction : Action → Type 0
IsOtherAction (Load w) = ⊤
IsOtherAction (Store w value) = IsOtherWord w
IsOtherAction (Swap w value) = IsOtherWord w
IsOtherAction (Exchange w from to) = IsOtherWord w
IsOtherAction (Add w value) = IsOtherWord w
IsOtherAction (TakeOffice job) = ⊤
IsOtherAction GiveOffice = ⊤
IsOtherAction Nothing = ⊤

pub data MailStep (k : Key) (g : Shadow) (m : Mem) (l : Locals) : Shadow → Mem → Locals → Type 0 where
  -- P1 to P4, of an object of a slab that is there
  posts : (seat : ℕ) (call : PostCall) (at : PostAt) → l.tasks seat ≡ Task.Away → IsThere (l.keeper call.slab)
      → call.unit < 2 ^ 61
      → MailStep k g m l (shadow_posted seat call (post_learn at (found m (post_course call at))) g)
      (after k m (post_course call at)) (posted_as seat call (post_learn at (found m (post_course call at))) l)
  -- N1 to N4
  mails : (seat e : ℕ) (at : MailAt) → l.tasks seat ≡ Task.Mailing e at
      → MailStep k g m l (shadow_mailed l e (mail_learn at (found m (mail_course (mail_of e) at))) g)
      (after k m (mail_course (mail_of e) at))
      (mailed_as seat e (mail_learn at (found m (mail_course (mail_of e) at))) l)
  -- N5 to N7, P5, M1, M8
  fetches : (seat class : ℕ) (head : Option ℕ) (at : BoxAt) → l.tasks seat ≡ Task.Fetching class at
      → MailStep k g m l (shadow_fetched l seat class at g) (after k m (box_course (box_by seat class head) at))
      (with_task seat (task_fetched class (box_learn at (found m (box_course (box_by seat class head) at)))) l)
  fetch_begins : (seat class : ℕ) → l.tasks seat ≡ Task.Away → class < class_count → seat < k.seats
      → MailStep k g m l g m (with_task seat (Task.Fetching class BoxAt.Take) l)
  -- a new slab: it is to begin; N7; P5; F8, by which it is the seat's
  begins : (seat e class : ℕ) → l.tasks seat ≡ Task.Away → g.mail e ≡ Mail.Absent → class < class_count
      → seat < k.seats → e < k.span
      → MailStep k g m l (with_mail e (Mail.Begun seat) g) m (with_task seat (Task.Beginning e class) l)
  settles : (seat e class : ℕ) → l.tasks seat ≡ Task.Beginning e class
      → MailStep k g m l g (after k m (Store (Word.Next e) (next_word (Next.Mailbox (key_by seat class)))))
      (with_task seat (Task.Settled e class) l)
  clears : (seat e class : ℕ) → l.tasks seat ≡ Task.Settled e class
      → MailStep k g m l g (after k m (Swap (Word.Public e) (public_word Public.Null))) l
  slab_begins : (seat e class : ℕ) → l.tasks seat ≡ Task.Settled e class
      → MailStep k g m l (with_mail e Mail.Rest g) m (record {
        keeper = put l.keeper e (Keeper.By seat);
        classes = put l.classes e class;
        tasks = put l.tasks seat Task.Away;
      })
  -- F8 of a slab that ends, whose public word is Null
  slab_ends : (seat e : ℕ) → l.keeper e ≡ Keeper.By seat → public_of (m publics e) ≡ Public.Null
      → MailStep k g m l (with_mail e Mail.Absent g) m (record l { keeper = put l.keeper e Keeper.Nobody })
  -- F8 of an empty slab that is cached, or taken out of the cache
  cached : (e : ℕ) (keeper : Keeper) → (IsThere (l.keeper e) → ⊥) → (IsThere keeper → ⊥)
      → MailStep k g m l g m (record l { keeper = put l.keeper e keeper })
  -- P6: a keeper begins to leave a slab
  closes : (seat e : ℕ) → l.keeper e ≡ Keeper.By seat
      → MailStep k g m l (shadow_closed seat e (public_of (m publics e)) g) (after k m (close_action e)) l
  -- O4, N7: the next word of a slab that is left or adopted
  links : (seat e value : ℕ) → IsMoving g seat e
      → MailStep k g m l g (after k m (Store (Word.Next e) value)) l
  -- O5: a slab is left, or an orphan pushed back; O6: orphans are taken; O8: one is adopted; P5 of that
  leaves : (seat e : ℕ) → g.mail e ≡ Mail.Leaving seat
      → MailStep k g m l (with_mail e Mail.Left g) m (record l { keeper = put l.keeper e Keeper.Orphan })
  goes_back : (seat e : ℕ) → g.mail e ≡ Mail.Adopted seat → l.keeper e ≡ Keeper.Adopting seat
      → MailStep k g m l (with_mail e Mail.Left g) m (record l { keeper = put l.keeper e Keeper.Orphan })
  comes : (seat : ℕ) (chain : List ℕ) → ((e : ℕ) → 0 < tally e chain → g.mail e ≡ Mail.Left)
      → MailStep k g m l (shadow_come seat chain g) m (record l { keeper = chain_taken seat chain l.keeper })
  adopts : (seat e : ℕ) → g.mail e ≡ Mail.Adopted seat → l.keeper e ≡ Keeper.Adopting seat
      → l.classes e < class_count → seat < k.seats
      → MailStep k g m l g m (record l { keeper = put l.keeper e (Keeper.By seat) })
  takes_adopted : (seat e : ℕ) → g.mail e ≡ Mail.Adopted seat → l.keeper e ≡ Keeper.By seat
      → next_of (m nexts e) ≡ Next.Mailbox (key_by seat (l.classes e))
      → MailStep k g m l (with_mail e Mail.Rest g) (after k m (Swap (Word.Public e) (public_word Public.Null))) l
  -- each step on another word
  others : (action : Action) → IsOtherAction action → MailStep k g m l g (after k m action) l

-- any number of steps of any number of seats
pub data MailRun (k : Key) (g0 : Shadow) (m0 : Mem) (l0 : Locals) : Shadow → Mem → Locals → Type 0 where
  starts : MailRun k g0 m0 l0 g0 m0 l0
  steps : {g1 : Shadow} {m1 : Mem} {l1 : Locals} {h : Shadow} {m' : Mem} {l' : Locals} → MailRun k g0 m0 l0 g1 m1 l1
      → MailStep k g1 m1 l1 h m' l' → MailRun k g0 m0 l0 h m' l'
