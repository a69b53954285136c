-- What the steps of mail and of orphans ask of slabs and of objects follows from the acting seat's own tasks.
use Rattle.std.proofs.Common.{◌≡◌, ℕ, Bool, true, false, cond, eqb, refl, sym, subst, ◌∙◌}
use Rattle.pool_words.specs.declared.words.Key.{Key}
use Rattle.word_codes.specs.declared.publics.Public.{Public}
use Rattle.word_codes.specs.Publics.{public_of}
use Rattle.chain_words.specs.declared.pushing.PushAt.{PushAt}
use Rattle.chain_words.specs.declared.pushing.PushNext.{PushNext}
use Rattle.public_list.specs.declared.posting.PostCall.{PostCall}
use Rattle.public_list.specs.declared.posting.PostAt.{PostAt}
use Rattle.public_list.specs.declared.posting.PostNext.{PostNext}
use Rattle.public_list.specs.Posting.{post_course, post_learn, post_by, posted}
use Rattle.pool_words.specs.Words.{publics}
use Rattle.public_list.specs.declared.joining.JoinAt.{JoinAt}
use Rattle.mailbox.specs.declared.boxes.BoxAt.{BoxAt}
use Rattle.orphans.specs.declared.adopting.AdoptAt.{AdoptAt}
use Rattle.orphans.specs.declared.leaving.LeaveAt.{LeaveAt}
use Rattle.word_laws.specs.Memory.{Mem, found}
use Rattle.slab_laws.specs.Books.{IsThere}
use Rattle.object_laws.specs.Objects as objects
use Rattle.object_laws.specs.Objects.{IsOut}
use Rattle.object_laws.specs.Objects.Task.{Away, Posting, Joining}
use Rattle.object_laws.proofs.CallerLemmas.{out-inside}
use Rattle.object_laws.proofs.CallerLemmas as small
use Rattle.object_laws.proofs.Facts.{unit-small}
use Rattle.mail_laws.specs.Mail as mailing
use Rattle.mail_laws.specs.Mail.{Mail, IsMailing, is_boxed, is_taken}
use Rattle.mail_laws.proofs.CallerLemmas.{null_is_rest, in_no_box, first-among}
use Rattle.mail_laws.proofs.Seats as mailed
use Rattle.orphan_laws.specs.Orphans.{Task, Core, mail_core}
use Rattle.orphan_laws.proofs.CallerLemmas.{fits_at, taken-is, returned-is, left-is}
use Rattle.post_laws.specs.Posts.{Post, words_of, MailTies, TiesFit, PostGood}
use Rattle.post_laws.specs.Laws.{PushesFindTheirSlab, FindingNullGivesOneDuty}
use Rattle.post_laws.specs.Laws.{LeftSlabsHaveTheirRecord, SwapsGiveOrphans, AdoptersHaveTheOrphan}
use Rattle.post_laws.specs.Laws.{ReturnersHaveTheOrphan, AdoptedListsAreTakenLater}

-- what a seat does with objects fits what it has to do with orphans
pub ties_at : (k : Key) (p : Post) (t : ℕ) (task : Task) → PostGood k p → p.tasks t ≡ task
    → TiesFit task (p.mails t) (p.pool.locals.tasks t)
ties_at k p t task good is = subst (λ q. TiesFit q (p.mails t) (p.pool.locals.tasks t)) is (good.ties t)

pushing_mail : (mail : mailing.Task) (call : PostCall) (at : PostAt) → MailTies mail (Posting call at)
    → mail ≡ mailing.Task.Away
pushing_mail mailing.Task.Away call at fits = refl
pushing_mail (mailing.Task.Mailing e a) call at fits = absurd (cc)
pushing_mail (mailing.Task.Fetching class BoxAt.Take) call at fits = absurd (cc)
pushing_mail (mailing.Task.Fetching class (BoxAt.Next e)) call at fits = absurd (cc)
pushing_mail (mailing.Task.Fetching class (BoxAt.Settle e rest)) call at fits = absurd (cc)
pushing_mail (mailing.Task.Fetching class (BoxAt.Join e rest a)) call at fits = absurd (cc)
pushing_mail (mailing.Task.Beginning e class) call at fits = absurd (cc)
pushing_mail (mailing.Task.Settled e class) call at fits = absurd (cc)

pub pushing_away : (task : Task) (mail : mailing.Task) (call : PostCall) (at : PostAt)
    → TiesFit task mail (Posting call at) → mail ≡ mailing.Task.Away
pushing_away Task.Away mail call at fits = pushing_mail mail call at fits
pushing_away (Task.Leaving e a) mail call at fits = fits.0
pushing_away (Task.Adopting class a) mail call at fits = fits.0
pushing_away (Task.Joining class e rest) mail call at fits = fits.0
pushing_away (Task.Resting class rest) mail call at fits = fits.0
pushing_away (Task.Returning class e a) mail call at fits = fits.0
pushing_away (Task.Owning e) mail call at fits =
    let q : Posting call at ≡ Away = fits.1 in absurd (cc)

pub pushing_alone : (task : Task) (mail : mailing.Task) (call : PostCall) (at : PostAt)
    → TiesFit task mail (Posting call at) → task ≡ Task.Away
pushing_alone Task.Away mail call at fits = refl
pushing_alone (Task.Leaving e a) mail call at fits = let q : Posting call at ≡ Away = fits.1 in absurd (cc)
pushing_alone (Task.Adopting class a) mail call at fits = let q : Posting call at ≡ Away = fits.1 in absurd (cc)
pushing_alone (Task.Joining class e rest) mail call at fits =
    let q : Posting call at ≡ Joining e JoinAt.Take = fits.1 in absurd (cc)
pushing_alone (Task.Resting class rest) mail call at fits = absurd fits.1
pushing_alone (Task.Returning class e a) mail call at fits = let q : Posting call at ≡ Away = fits.1 in absurd (cc)
pushing_alone (Task.Owning e) mail call at fits = let q : Posting call at ≡ Away = fits.1 in absurd (cc)

pub pushes_find_their_slab : PushesFindTheirSlab
pushes_find_their_slab k p t call at good is =
    let fits = small.fits_at k p.pool.objects (objects.core_in p.pool.mem p.pool.locals) t (Posting call at) is
    good.pool'.objects in
    let out : IsOut (p.pool.objects.held call.unit) = subst IsOut (sym fits.1) tt in
    let b = p.pool.locals.book in
    record {
      away = pushing_away (p.tasks t) (p.mails t) call at
          (subst (TiesFit (p.tasks t) (p.mails t)) is (good.ties t));
      there = subst (λ e. IsThere (b.keeper e)) (sym fits.0) (good.pool'.objects.out_fits.in_slab call.unit out).0;
      low = unit-small k (objects.core_in p.pool.mem p.pool.locals) call.unit good.pool'.objects.book
          (out-inside k p.pool.objects.held b call.unit good.pool'.objects.book good.pool'.objects.out_fits out);
    }

-- a duty comes from a public word that was Null
posted_null : (q : Public) → posted q ≡ PostNext.Owed → q ≡ Public.Null
posted_null Public.Null is = refl
posted_null Public.Unusable is = absurd (cc)
posted_null (Public.Filled u) is = absurd (cc)

owed_null : (m : Mem) (call : PostCall) (at : PostAt) → post_learn at (found m (post_course call at)) ≡ PostNext.Owed
    → public_of (m publics call.slab) ≡ Public.Null
owed_null m call (PostAt.Push PushAt.Look) is = absurd (cc)
owed_null m call (PostAt.Push (PushAt.Link word)) is = absurd (cc)
owed_null m call (PostAt.Push (PushAt.Exchange word)) is = by (eqb (m publics call.slab) word) is
  where
    by : (b : Bool) → post_by (cond b (PushNext.Pushed (m publics call.slab))
        (PushNext.Goes (PushAt.Link (m publics call.slab)))) ≡ PostNext.Owed
        → public_of (m publics call.slab) ≡ Public.Null
    by true same = posted_null (public_of (m publics call.slab)) same
    by false same = absurd (cc)

-- who is about to mail a slab owes it
pub mailing_owes : (k : Key) (p : Post) (t e : ℕ) → PostGood k p → IsMailing (p.mails t) e
    → p.ways.mail.mail e ≡ Mail.Owed t
mailing_owes k p t e good is = by (p.mails t) refl is
  where
    by : (q : mailing.Task) → p.mails t ≡ q → IsMailing q e → p.ways.mail.mail e ≡ Mail.Owed t
    by mailing.Task.Away same mine = absurd mine
    by (mailing.Task.Mailing x at) same mine =
        subst (λ y. p.ways.mail.mail y ≡ Mail.Owed t) (sym mine)
        (mailed.fits_at k p.ways.mail (mail_core (words_of p)) t (mailing.Task.Mailing x at) same good.orphans.mail).0
    by (mailing.Task.Fetching class at) same mine = absurd mine
    by (mailing.Task.Beginning x class) same mine = absurd mine
    by (mailing.Task.Settled x class) same mine = absurd mine

pub finding_null_gives_one_duty : FindingNullGivesOneDuty
finding_null_gives_one_duty k p t call at good is owed = record {
  rest = rest;
  duties = λ o mine. let q : Mail.Rest ≡ Mail.Owed o = sym rest ∙ mailing_owes k p o e good mine in absurd (cc);
  boxes = λ b. in_no_box p.ways.mail (mail_core (words_of p)) e (subst (λ m. is_boxed m ≡ 0) (sym rest) refl)
      good.orphans.mail.boxed_once b;
  hands = λ o. good.orphans.mail.fetched_once o e ∙ subst (λ m. is_taken o m ≡ 0) (sym rest) refl;
}
  where
    e : ℕ
    e = call.slab

    s : Core
    s = words_of p

    rest : p.ways.mail.mail e ≡ Mail.Rest
    rest = null_is_rest (p.ways.mail.mail e) (s.book.keeper e) (s.book.classes e) (s.publics e) (s.nexts e)
        (good.orphans.mail.words e) (owed_null p.pool.mem call at owed)
        (pushes_find_their_slab k p t call at good is).there

-- slabs that nobody keeps
pub left_slabs_have_their_record : LeftSlabsHaveTheirRecord
left_slabs_have_their_record k p t e at good is =
    let fits = fits_at k p.ways (words_of p) t (Task.Leaving e (LeaveAt.Push at)) is good.orphans in record {
      away = (ties_at k p t (Task.Leaving e (LeaveAt.Push at)) good is).1;
      kept = fits.1;
      header = fits.2.1;
    }

pub swaps_give_orphans : SwapsGiveOrphans
swaps_give_orphans k p t class good is = record {
  away = (ties_at k p t (Task.Adopting class AdoptAt.Take) good is).1;
  orphans = λ e some. (left-is k p.ways (words_of p) class e good.orphans some).0;
}

pub adopters_have_the_orphan : AdoptersHaveTheOrphan
adopters_have_the_orphan k p t class e header rest good is =
    let task = Task.Adopting class (AdoptAt.Own e header rest) in
    let fits = fits_at k p.ways (words_of p) t task is good.orphans in record {
      away = (ties_at k p t task good is).1;
      has = taken-is p.ways (words_of p) t e good.orphans.hands_once
          (first-among e fits.1.1.0 (p.ways.taken t) fits.1.1.1);
    }

pub returners_have_the_orphan : ReturnersHaveTheOrphan
returners_have_the_orphan k p t class e at good is = record {
  away = (ties_at k p t (Task.Returning class e at) good is).1;
  has = returned-is p.ways (words_of p) t class e at good.orphans.hands_once is;
}

pub adopted_lists_are_taken_later : AdoptedListsAreTakenLater
adopted_lists_are_taken_later k p t class e rest good is =
    let fits = fits_at k p.ways (words_of p) t (Task.Joining class e rest) is good.orphans in record {
      joins = (ties_at k p t (Task.Joining class e rest) good is).1;
      kept = fits.1.kept;
      home = fits.1.home;
    }
