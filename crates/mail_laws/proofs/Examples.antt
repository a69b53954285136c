-- Duties, a new pool's mail, that which is named, and what the wrong definitions come to.
use Rattle.std.proofs.Common.{◌≡◌, ◌≢◌, ℕ, ◌+◌, ◌^◌, ◌<◌, ◌≤◌, Bool, true, false, cond, eqb, Option, Some, None, List, [], ◌∷◌}
use Rattle.std.proofs.Common.{refl, sym, ap, subst, arith, ◌∙◌}
use Rattle.std.proofs.lemmas.Bool.Decides.{nat_tests}
use Rattle.pool_types.specs.Geometry.{class_count}
use Rattle.pool_words.specs.declared.words.Key.{Key}
use Rattle.pool_words.specs.Words.{mailbox_at, no_index, publics, nexts, mailboxes}
use Rattle.word_codes.specs.declared.nexts.Next.{Next}
use Rattle.word_codes.specs.declared.publics.Public.{Public}
use Rattle.word_codes.specs.Links.{link_of}
use Rattle.word_codes.specs.Nexts.{next_of}
use Rattle.word_codes.specs.Publics.{public_of}
use Rattle.chain_words.specs.declared.pushing.PushAt.{PushAt}
use Rattle.chain_words.specs.declared.pushing.PushNext.{PushNext}
use Rattle.mailbox.specs.declared.mailing.MailAt.{MailAt}
use Rattle.mailbox.specs.declared.mailing.MailNext.{MailNext}
use Rattle.mailbox.specs.declared.boxes.BoxAt.{BoxAt}
use Rattle.mailbox.specs.Mailing.{mail_course, mail_learn, mailed}
use Rattle.word_laws.specs.Memory.{Mem, put, found, fresh}
use Rattle.word_laws.proofs.CallerLemmas.{equal_or}
use Rattle.chain_laws.specs.Chains.{Link, IsChain, tally}
use Rattle.chain_laws.specs.Named.{ten_key}
use Rattle.chain_laws.proofs.CallerLemmas.{tally-here, tally-else}
use Rattle.slab_laws.specs.Books.{Keeper, IsThere}
use Rattle.slab_laws.proofs.CallerLemmas.{put-same, put-other, each, both}
use Rattle.mail_laws.specs.Mail.{Mail, Task, Shadow, Locals, Core, core_in, item_link, links_in, key_by, box_of, IsKept}
use Rattle.mail_laws.specs.Mail.{IsHome, IsFilled, IsNotNull, MailFits, is_boxed, is_taken, TaskFits, IsMailing, MailGood}
use Rattle.mail_laws.specs.Steps.{with_mail, home_of, shadow_mailed, mail_of, MailRun}
use Rattle.mail_laws.specs.Named.{no_mail, fresh_locals, named_mail, named_words, unsettled_mail, unsettled_words}
use Rattle.mail_laws.specs.Laws.{IsOwed, IsMailed, AfterMailing, OneMailing, DutyEndsByOneMailing, TakesMailed}
use Rattle.mail_laws.specs.Laws.{SwapGivesWhatWasMailed, FreshPoolsHaveNoMail, NamedMailStands}
use Rattle.mail_laws.specs.Wrong.{TakesBeforeSettlingAreWrong, SecondDutiesAreWrong, StrayMailingsAreWrong}
use Rattle.mail_laws.proofs.Seats.{fits_at}
use Rattle.mail_laws.proofs.Rows.{in_no_box}
use Rattle.mail_laws.proofs.Boxing.{box-inj}
use Rattle.mail_laws.proofs.Words.{end-reads}
use Rattle.mail_laws.proofs.Keeps.{runs_keep_mail}

-- duties
owed_facts : (k : Key) (g : Shadow) (m : Mem) (l : Locals) (t e : ℕ) (at : MailAt) → l.tasks t ≡ Task.Mailing e at
    → MailGood k g (core_in m l) → IsOwed g l t e
owed_facts k g m l t e at is good =
    let owed = (fits_at k g (core_in m l) t (Task.Mailing e at) is good).0 in record {
      owed = owed;
      one = λ o z. ((let q : Mail.Owed o ≡ Mail.Owed t = sym z ∙ owed in cc), good.duties e o z);
      unboxed = in_no_box g (core_in m l) e (ap is_boxed owed) good.boxed_once;
      unfetched = λ o. good.fetched_once o e ∙ ap (is_taken o) owed;
    }

mailed_facts : (k : Key) (g : Shadow) (m : Mem) (l : Locals) (t e : ℕ) → g.mail e ≡ Mail.Owed t
    → ((b : ℕ) → tally e (g.boxed b) ≡ 0) → MailGood k g (core_in m l) → IsMailed (shadow_mailed l e MailNext.Mailed g) l e
mailed_facts k g m l t e owed none good = record {
  boxed = put-same g.mail e Mail.Boxed;
  kept = (subst (λ q. MailFits q (l.keeper e) (l.classes e) (public_of (m publics e)) (next_of (m nexts e))) owed
      (good.words e)).0;
  here = ap (tally e) (put-same g.boxed (home_of l e) (e ∷ g.boxed (home_of l e)))
      ∙ (let h = tally-here e (g.boxed (home_of l e)) in let n = none (home_of l e) in omega arith);
  else = λ b ne. ap (tally e) (put-other g.boxed (home_of l e) (e ∷ g.boxed (home_of l e)) b ne) ∙ none b;
}

pub duty_ends_by_one_mailing : DutyEndsByOneMailing
duty_ends_by_one_mailing k g0 m0 l0 g m l t e at good run is =
    let now = runs_keep_mail k g0 m0 l0 g m l good run in
    let owed = owed_facts k g m l t e at is now in
    record { before = owed; after' = by at now owed }
  where
    by : (at : MailAt) → MailGood k g (core_in m l) → IsOwed g l t e
        → AfterMailing (shadow_mailed l e (mail_learn at (found m (mail_course (mail_of e) at))) g) l t e
        (mail_learn at (found m (mail_course (mail_of e) at)))
    by MailAt.Next now owed = owed.owed
    by (MailAt.Push key PushAt.Look) now owed = owed.owed
    by (MailAt.Push key (PushAt.Link word)) now owed = owed.owed
    by (MailAt.Push key (PushAt.Exchange word)) now owed =
        elim (eqb (m mailboxes (mailbox_at key.seat key.class)) word) as
        (λ b. AfterMailing (shadow_mailed l e (mailed key (cond b
        (PushNext.Pushed (m mailboxes (mailbox_at key.seat key.class)))
        (PushNext.Goes (PushAt.Link (m mailboxes (mailbox_at key.seat key.class)))))) g) l t e
        (mailed key (cond b (PushNext.Pushed (m mailboxes (mailbox_at key.seat key.class)))
        (PushNext.Goes (PushAt.Link (m mailboxes (mailbox_at key.seat key.class)))))))
        [ true ↦ mailed_facts k g m l t e owed.owed owed.unboxed now | false ↦ owed.owed ]

boxed_is : (m : Mail) → 0 < is_boxed m → m ≡ Mail.Boxed
boxed_is Mail.Absent some = absurd (omega arith)
boxed_is (Mail.Begun o) some = absurd (omega arith)
boxed_is Mail.Rest some = absurd (omega arith)
boxed_is (Mail.Owed o) some = absurd (omega arith)
boxed_is Mail.Boxed some = refl
boxed_is (Mail.Taken o) some = absurd (omega arith)
boxed_is (Mail.Leaving o) some = absurd (omega arith)
boxed_is Mail.Left some = absurd (omega arith)
boxed_is (Mail.Adopted o) some = absurd (omega arith)

pub swap_gives_what_was_mailed : SwapGivesWhatWasMailed
swap_gives_what_was_mailed k g m l seat class e good low few some =
    let once = good.boxed_once (mailbox_at seat class) e in
    let boxed = boxed_is (g.mail e) (grind (arith, nat_tests)) in
    let here : box_of (l.keeper e) (l.classes e) ≡ mailbox_at seat class = grind (arith, nat_tests) in
    let home = box-inj k (l.keeper e) (l.classes e) seat class low (let most = good.places.seats in omega arith)
    (λ o by. (good.places.kept e o by).0) here in
    record {
      boxed = boxed;
      kept = home.0;
      class' = home.1;
      once = let z = ap is_boxed boxed in grind (arith, nat_tests);
    }

-- a new pool
public_none : public_of 0 ≡ Public.Null
unfolding public_of
public_none = refl

pub fresh_pools_have_no_mail : FreshPoolsHaveNoMail
fresh_pools_have_no_mail k few span = record {
  places = record {
    seats = few;
    span = span;
    inside = λ e is. absurd is;
    kept = λ e seat by. absurd (cc);
  };
  words = λ e. ((λ z. z), public_none);
  boxed_once = λ b e. grind (arith, nat_tests);
  fetched_once = λ seat e. refl;
  box_chains = λ b. subst (λ o. IsChain (links_in (core_in fresh fresh_locals).nexts) (item_link o) [] 0)
      (sym end-reads) refl;
  tasks' = λ seat. refl;
  duties = λ e seat is. absurd (cc);
}

-- what is so at each of the slabs that are named, and elsewhere
slabs : (P : ℕ → Type 0) → P 2 → P 4 → P 6 → P 8 → ((e : ℕ) → 2 ≢ e → 4 ≢ e → 6 ≢ e → 8 ≢ e → P e) → (e : ℕ) → P e
slabs P two four six eight rest e = equal_or 2 e (λ s. subst P s two) (λ a. equal_or 4 e (λ s. subst P s four)
    (λ b. equal_or 6 e (λ s. subst P s six) (λ c. equal_or 8 e (λ s. subst P s eight) (λ d. rest e a b c d))))

keeper_else : (e : ℕ) → 2 ≢ e → 4 ≢ e → 6 ≢ e → 8 ≢ e → named_words.keeper e ≡ Keeper.Nobody
keeper_else e a b c d = put-other (put (put (put (λ e. Keeper.Nobody) 2 (Keeper.By 0)) 4 (Keeper.By 0)) 6 (Keeper.By 0))
    8 Keeper.Orphan e (λ s. d (sym s))
    ∙ put-other (put (put (λ e. Keeper.Nobody) 2 (Keeper.By 0)) 4 (Keeper.By 0)) 6 (Keeper.By 0) e (λ s. c (sym s))
    ∙ put-other (put (λ e. Keeper.Nobody) 2 (Keeper.By 0)) 4 (Keeper.By 0) e (λ s. b (sym s))
    ∙ put-other (λ e. Keeper.Nobody) 2 (Keeper.By 0) e (λ s. a (sym s))

mail_else : (e : ℕ) → 2 ≢ e → 4 ≢ e → 6 ≢ e → 8 ≢ e → named_mail.mail e ≡ Mail.Absent
mail_else e a b c d = put-other (put (put (put (λ e. Mail.Absent) 2 Mail.Boxed) 4 (Mail.Owed 1)) 6 (Mail.Taken 0))
    8 Mail.Left e (λ s. d (sym s))
    ∙ put-other (put (put (λ e. Mail.Absent) 2 Mail.Boxed) 4 (Mail.Owed 1)) 6 (Mail.Taken 0) e (λ s. c (sym s))
    ∙ put-other (put (λ e. Mail.Absent) 2 Mail.Boxed) 4 (Mail.Owed 1) e (λ s. b (sym s))
    ∙ put-other (λ e. Mail.Absent) 2 Mail.Boxed e (λ s. a (sym s))

public_else : (e : ℕ) → 2 ≢ e → 4 ≢ e → 6 ≢ e → 8 ≢ e → named_words.publics e ≡ Public.Null
public_else e a b c d = put-other (put (put (put (λ e. Public.Null) 2 (Public.Filled 2100)) 4 (Public.Filled 4200)) 6
    (Public.Filled 6200)) 8 Public.Unusable e (λ s. d (sym s))
    ∙ put-other (put (put (λ e. Public.Null) 2 (Public.Filled 2100)) 4 (Public.Filled 4200)) 6 (Public.Filled 6200) e
    (λ s. c (sym s))
    ∙ put-other (put (λ e. Public.Null) 2 (Public.Filled 2100)) 4 (Public.Filled 4200) e (λ s. b (sym s))
    ∙ put-other (λ e. Public.Null) 2 (Public.Filled 2100) e (λ s. a (sym s))

by_zero : (seat : ℕ) → Keeper.By 0 ≡ Keeper.By seat → (4 < class_count) × (seat < ten_key.seats)
by_zero seat z = let q : ◌≡◌ {A = ℕ} 0 seat = cc in (omega arith, omega arith)

pub named_mail_stands : NamedMailStands
named_mail_stands = record {
  places = record {
    seats = omega arith;
    span = omega arith;
    inside = slabs (λ e. IsThere (named_words.keeper e) → e < 10) (λ _. omega arith) (λ _. omega arith)
        (λ _. omega arith) (λ _. omega arith) (λ e a b c d is. absurd (subst IsThere (keeper_else e a b c d) is));
    kept = slabs (λ e. (seat : ℕ) → named_words.keeper e ≡ Keeper.By seat → (4 < class_count) × (seat < ten_key.seats))
        by_zero by_zero by_zero (λ seat z. absurd (cc))
        (λ e a b c d seat z. absurd (let k = keeper_else e a b c d in cc));
  };
  words = slabs (λ e. MailFits (named_mail.mail e) (named_words.keeper e) 4 (named_words.publics e)
      (named_words.nexts e)) (tt, tt) (tt, tt) (refl, tt) (refl, tt)
      (λ e a b c d. subst (λ m. MailFits m (named_words.keeper e) 4 (named_words.publics e) (named_words.nexts e))
      (sym (mail_else e a b c d))
      ((λ is. subst IsThere (keeper_else e a b c d) is), public_else e a b c d));
  boxed_once = λ b. slabs
      (λ e. tally e (named_mail.boxed b)
      ≡ cond (eqb (box_of (named_words.keeper e) 4) b) (is_boxed (named_mail.mail e)) 0)
      (grind (arith, nat_tests)) (grind (arith, nat_tests)) (grind (arith, nat_tests)) (grind (arith, nat_tests))
      (λ e a b' c d. let m = ap is_boxed (mail_else e a b' c d) in grind (arith, nat_tests));
  fetched_once = λ seat. slabs (λ e. tally e (named_mail.fetched seat) ≡ is_taken seat (named_mail.mail e))
      (grind (arith, nat_tests)) (grind (arith, nat_tests)) (grind (arith, nat_tests)) (grind (arith, nat_tests))
      (λ e a b c d. let m = ap (is_taken seat) (mail_else e a b c d) in grind (arith, nat_tests));
  box_chains = both (λ b o xs. IsChain (links_in named_words.nexts) (item_link o) xs 0) (λ b. None) (λ b. []) 4 (Some 2)
      (2 ∷ []) (λ b _. refl) (refl, refl);
  tasks' = each (λ seat q. TaskFits ten_key named_mail named_words seat q)
      (put (λ seat. Task.Away) 0 (Task.Fetching 4 (BoxAt.Next 6))) 1 (Task.Mailing 4 MailAt.Next)
      (λ seat _. each (λ seat q. TaskFits ten_key named_mail named_words seat q) (λ seat. Task.Away) 0
      (Task.Fetching 4 (BoxAt.Next 6)) (λ seat ne. put-other (λ seat. []) 0 (6 ∷ []) seat ne)
      (record { class' = omega arith; seat' = omega arith; of = λ x some. refl; at' = (refl, refl) }) seat)
      (refl, refl, refl);
  duties = slabs (λ e. (seat : ℕ) → named_mail.mail e ≡ Mail.Owed seat → IsMailing (named_words.tasks seat) e)
      (λ seat z. absurd (cc))
      (λ seat z. let q : ◌≡◌ {A = ℕ} 1 seat = cc in subst (λ x. IsMailing (named_words.tasks x) 4) q refl)
      (λ seat z. absurd (cc)) (λ seat z. absurd (cc))
      (λ e a b c d seat z. absurd (let m = mail_else e a b c d in cc));
}

-- wrong definitions
unsettled_good : MailGood ten_key unsettled_mail unsettled_words
unsettled_good = record {
  places = record {
    seats = omega arith;
    span = omega arith;
    inside = each (λ e q. IsThere q → e < 10) (λ e. Keeper.Nobody) 2 (Keeper.By 0) (λ e _ is. absurd is)
        (λ _. omega arith);
    kept = each (λ e q. (seat : ℕ) → q ≡ Keeper.By seat → (4 < class_count) × (seat < ten_key.seats))
        (λ e. Keeper.Nobody) 2 (Keeper.By 0) (λ e _ seat z. absurd (cc)) by_zero;
  };
  words = λ e. equal_or 2 e
      (λ same. subst (λ x. MailFits (unsettled_mail.mail x) (unsettled_words.keeper x) 4 (unsettled_words.publics x)
      (Next.Link None)) same (refl, tt))
      (λ ne. subst (λ m. MailFits m (unsettled_words.keeper e) 4 (unsettled_words.publics e) (Next.Link None))
      (sym (put-other (λ e. Mail.Absent) 2 (Mail.Adopted 0) e (λ s. ne (sym s)))) (
        (λ is. subst IsThere (put-other (λ e. Keeper.Nobody) 2 (Keeper.By 0) e (λ s. ne (sym s))) is),
        put-other (λ e. Public.Null) 2 Public.Unusable e (λ s. ne (sym s)),
      ));
  boxed_once = λ b. each (λ e m. 0 ≡ cond (eqb (box_of (unsettled_words.keeper e) 4) b) (is_boxed m) 0)
      (λ e. Mail.Absent) 2 (Mail.Adopted 0) (λ e _. grind (arith, nat_tests)) (grind (arith, nat_tests));
  fetched_once = λ seat. each (λ e m. 0 ≡ is_taken seat m) (λ e. Mail.Absent) 2 (Mail.Adopted 0) (λ e _. refl) refl;
  box_chains = λ b. refl;
  tasks' = λ seat. refl;
  duties = λ e seat. each (λ x m. m ≡ Mail.Owed seat → ⊥) (λ e. Mail.Absent) 2 (Mail.Adopted 0) (λ x _ z. cc) (λ z. cc) e;
}

pub takes_before_settling_are_wrong : TakesBeforeSettlingAreWrong
takes_before_settling_are_wrong takes =
    let after = takes ten_key 0 2 unsettled_mail unsettled_words refl refl unsettled_good in
    let clash : Next.Link None ≡ Next.Mailbox (key_by 0 4) = (after.words 2).0 in cc

pub second_duties_are_wrong : SecondDutiesAreWrong
second_duties_are_wrong owes =
    let after = owes ten_key 2 2 2200 named_mail named_words refl tt named_mail_stands in
    let clash : ◌≡◌ {A = ℕ} 1 0 = after.boxed_once 4 2 in omega arith

pub stray_mailings_are_wrong : StrayMailingsAreWrong
stray_mailings_are_wrong mails =
    let after = mails ten_key 1 4 5 named_mail named_words refl named_mail_stands in
    let clash : ◌≡◌ {A = ℕ} 1 0 = after.boxed_once 5 4 in omega arith
