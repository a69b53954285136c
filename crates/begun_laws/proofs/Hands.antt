-- A slab that is to begin is a block in its seat's hand, so that it has no mail yet.
use Rattle.std.proofs.Common.{◌≡◌, ◌∙◌, ℕ, refl, ap, subst, arith}
use Rattle.pool_words.specs.declared.words.Key.{Key}
use Rattle.pool_words.specs.Words.{nexts, publics}
use Rattle.word_codes.specs.declared.nexts.Next.{Next}
use Rattle.word_codes.specs.declared.publics.Public.{Public}
use Rattle.word_codes.specs.Nexts.{next_of}
use Rattle.word_codes.specs.Publics.{public_of}
use Rattle.guards.specs.declared.win.Taking.{Taking}
use Rattle.word_laws.proofs.CallerLemmas.{equal_or}
use Rattle.guard_laws.specs.Blocks.{Place, Use}
use Rattle.slab_laws.specs.Books.{Keeper}
use Rattle.mail_laws.specs.Mail as mailing
use Rattle.mail_laws.specs.Mail.{Mail, MailFits}
use Rattle.step_local.specs.declared.frames.At.{At}
use Rattle.step_local.specs.declared.frames.Local.{Local}
use Rattle.step_local.specs.declared.frames.SmallAt.{SmallAt}
use Rattle.step_tasks.specs.Mail.{begun_task, mail_task_at}
use Rattle.hand_blocks.specs.Hands.{hands_at, small_hands}
use Rattle.pool_laws.specs.Wholes.{Whole, WholeGood}
use Rattle.seat_ties.specs.Ties.{AreInHand}
use Rattle.seat_starts.specs.Says.{SlabSaysAt}
use Rattle.begun_laws.specs.Begun.{BegunFit, Names}
use Rattle.begun_laws.specs.Laws.{IsHeld, NewSlabsAreNone, TiedSeatsHold}
use Rattle.use_laws.proofs.CallerLemmas.{blocks_in_hand_are_bare}

module _ (place : ℕ → Place) (seat e : ℕ) (l : Local) where
  held_at : (slab : ℕ) → slab ≡ e → place slab ≡ Place.Block slab 2 (Use.Held seat Taking.ForUse)
      → IsHeld place seat e
  held_at slab is lies = (2, subst (λ x. place x ≡ Place.Block x 2 (Use.Held seat Taking.ForUse)) is lies)

  small_held : (at : SmallAt) → Names (begun_task l at) e → AreInHand place seat (small_hands at)
      → IsHeld place seat e
  small_held (SmallAt.Next slab) is lie = held_at slab is lie.0
  small_held (SmallAt.Public slab) is lie = held_at slab is lie.0
  small_held (SmallAt.Own slab) is lie = held_at slab is lie.0
  small_held (SmallAt.Kind slab) is lie = held_at slab is lie.0
  small_held _ is lie = absurd is

  named_held : (at : At) → Names (mail_task_at l at) e → AreInHand place seat (hands_at l at) → IsHeld place seat e
  named_held (At.Small at) is lie = small_held at is lie
  named_held _ is lie = absurd is

pub tied_seats_hold : TiedSeatsHold
tied_seats_hold k w t e l tied names = named_held w.pool.blocks.place t e l l.at
    (subst (λ task. Names task e) tied.tasks.mails names) tied.hands.lie

-- a slab that is nobody's has no mail, or is to begin
no_mail : (one : Mail) (class : ℕ) (public : Public) (next : Next) → MailFits one Keeper.Nobody class public next
    → ((t : ℕ) → one ≡ Mail.Begun t → ⊥) → one ≡ Mail.Absent
no_mail Mail.Absent class public next fits none = refl
no_mail (Mail.Begun t) class public next fits none = absurd (none t refl)
no_mail Mail.Rest class public next fits none = absurd fits.0
no_mail (Mail.Owed t) class public next fits none = absurd fits.0
no_mail Mail.Boxed class public next fits none = absurd fits.0
no_mail (Mail.Taken t) class public next fits none = absurd (let is = fits.0 in cc)
no_mail (Mail.Leaving t) class public next fits none = absurd (let is = fits.0 in cc)
no_mail Mail.Left class public next fits none = absurd (let is = fits.0 in cc)
no_mail (Mail.Adopted t) class public next fits none = absurd fits.0

module _ (k : Key) (w : Whole) (seat : ℕ) (good : WholeGood k w) (begun : BegunFit w)
    (holds : (t e : ℕ) → (t ≡ seat → ⊥) → Names (w.mails t) e → IsHeld w.pool.blocks.place t e) where
  nobody : (slab : ℕ) → w.pool.blocks.place slab ≡ Place.Block slab 2 (Use.Held seat Taking.ForUse)
      → w.pool.locals.book.keeper slab ≡ Keeper.Nobody
  nobody slab lies = (blocks_in_hand_are_bare k w.pool slab 2 (Use.Held seat Taking.ForUse) good.post.pool' lies
      (λ e. cc)).slabs slab (omega arith) (omega arith)

  by_one : (t other n m slab : ℕ) (place : Place) → place ≡ Place.Block slab n (Use.Held t Taking.ForUse)
      → place ≡ Place.Block slab m (Use.Held other Taking.ForUse) → t ≡ other
  by_one t other n m slab place one two = cc

  not_begun : (slab : ℕ) → w.pool.blocks.place slab ≡ Place.Block slab 2 (Use.Held seat Taking.ForUse)
      → w.mails seat ≡ mailing.Task.Away → (t : ℕ) → w.ways.mail.mail slab ≡ Mail.Begun t → ⊥
  not_begun slab lies away t is =
      let names = begun slab t is in
      equal_or t seat
      (λ same. subst (λ task. Names task slab) (ap w.mails same ∙ away) names)
      (λ ne. let held = holds t slab ne names in
      ne (by_one t seat held.0 2 slab (w.pool.blocks.place slab) held.1 lies))

  none_small : (at : SmallAt) → AreInHand w.pool.blocks.place seat (small_hands at)
      → SlabSaysAt w.mails w.ways.mail.mail seat (At.Small at)
  none_small (SmallAt.Next slab) lie = λ away.
      let one = w.ways.mail.mail slab in
      let class = w.pool.locals.book.classes slab in
      let public = public_of (w.pool.mem publics slab) in
      let next = next_of (w.pool.mem nexts slab) in
      no_mail one class public next (subst (λ keeper. MailFits one keeper class public next) (nobody slab lie.0)
      (good.post.orphans.mail.words slab)) (not_begun slab lie.0 away)
  none_small _ lie = tt

  pub none_at : (l : Local) (at : At) → AreInHand w.pool.blocks.place seat (hands_at l at)
      → SlabSaysAt w.mails w.ways.mail.mail seat at
  none_at l (At.Small at) lie = none_small at lie
  none_at l _ lie = tt

pub new_slabs_are_none : NewSlabsAreNone
new_slabs_are_none k w l good begun here holds = none_at k w l.seat good begun holds l l.at here.hands.lie
