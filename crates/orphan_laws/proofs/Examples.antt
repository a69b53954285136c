-- One keeper, what an adopter has read, a new pool, the orphans that are named, and what the wrong definitions come to.
use Rattle.std.proofs.Common.{◌≡◌, ◌≢◌, ℕ, ◌<◌, ◌≤◌, cond, eqb, Some, None, [], ◌∷◌}
use Rattle.std.proofs.Common.{refl, sym, ap, subst, arith, ◌∙◌}
use Rattle.std.proofs.lemmas.Bool.Decides.{nat_tests}
use Rattle.pool_types.specs.Geometry.{class_count}
use Rattle.pool_words.specs.declared.words.Key.{Key}
use Rattle.pool_words.specs.Words.{owns}
use Rattle.word_codes.specs.declared.nexts.Next.{Next}
use Rattle.word_codes.specs.declared.owns.Own.{Own}
use Rattle.word_codes.specs.declared.publics.Public.{Public}
use Rattle.word_codes.specs.Links.{link_of}
use Rattle.word_codes.specs.Owns.{own_of}
use Rattle.word_codes.specs.Places.{slab_granule}
use Rattle.word_codes.specs.Publics.{public_of}
use Rattle.heap_slabs.specs.Heaps.{most_slabs}
use Rattle.heap_slabs.specs.Records.{begun, to_header, of_header}
use Rattle.heap_slabs.specs.Rolls.{Rolled, empty_roll}
use Rattle.mailbox.specs.declared.mailing.MailAt.{MailAt}
use Rattle.orphans.specs.declared.adopting.AdoptAt.{AdoptAt}
use Rattle.orphans.specs.declared.leaving.LeaveAt.{LeaveAt}
use Rattle.word_laws.specs.Memory.{Mem, put, fresh}
use Rattle.word_laws.proofs.CallerLemmas.{equal_or}
use Rattle.chain_laws.specs.Chains.{IsChain, tally}
use Rattle.slab_laws.specs.Books.{Keeper, IsThere, IsLeft, record_of}
use Rattle.slab_laws.proofs.CallerLemmas.{put-other, each, both, header_tells}
use Rattle.mail_laws.specs.Mail as mailing
use Rattle.mail_laws.specs.Mail.{Mail, item_link, links_in, key_by, box_of, MailFits, is_boxed, is_taken, MailGood}
use Rattle.mail_laws.proofs.CallerLemmas.{end-reads, first-among}
use Rattle.orphan_laws.specs.Orphans.{Task, Shadow, Locals, Core, core_in, mail_core, IsLeaving, IsJoining, OwnFits}
use Rattle.orphan_laws.specs.Orphans.{is_orphan}
use Rattle.orphan_laws.specs.Orphans.{is_adopting, is_returned, in_hand, TaskFits, OrphansGood}
use Rattle.orphan_laws.specs.Named.{fresh_locals, three_key, named_orphans, one_spare, returning, named_words}
use Rattle.orphan_laws.specs.Named.{unsettled_orphans, settling, unsettled_words}
use Rattle.orphan_laws.specs.Laws.{HasOne, SlabHasOneKeeper, AdoptersReadTheRecord}
use Rattle.orphan_laws.specs.Laws.{SparesHaveRoom, FreshPoolsHaveNoOrphans, NamedOrphansStand}
use Rattle.orphan_laws.specs.Wrong.{OwedLeavingsAreWrong, TakesBeforeSettlingAreWrong, SecondReturnsAreWrong}
use Rattle.orphan_laws.proofs.Seats.{fits_at, taken-is}
use Rattle.orphan_laws.proofs.Rows.{way_orphan, way_taken, in_no_chain}
use Rattle.orphan_laws.proofs.Pushing.{not_adopting}
use Rattle.orphan_laws.proofs.Adopting.{spare_has_room}
use Rattle.orphan_laws.proofs.Keeps.{runs_keep_orphans}

-- one keeper
pub has_one : (k : Key) (g : Shadow) (m : Mem) (l : Locals) (e : ℕ) → OrphansGood k g (core_in m l)
    → HasOne g m l e (l.book.keeper e)
has_one k g m l e good = by (l.book.keeper e) refl
  where
    s : Core
    s = core_in m l

    hands : (q : Keeper) → l.book.keeper e ≡ q → (o : ℕ) → in_hand g.taken l.spares l.tasks o e ≡ is_adopting o q
    hands q is o = good.hands_once o e ∙ ap (is_adopting o) is

    chains : (q : Keeper) → l.book.keeper e ≡ q → is_orphan q ≡ 0 → (c : ℕ) → tally e (g.left c) ≡ 0
    chains q is zero = in_no_chain g (core_in m l) e (ap is_orphan is ∙ zero) good.left_once

    own : (q : Keeper) → l.book.keeper e ≡ q → OwnFits l.tasks e q (own_of (m owns e))
    own q is = subst (λ q. OwnFits l.tasks e q (own_of (m owns e))) is (good.owns_fit e)

    in_chain : (c : ℕ) → l.book.keeper e ≡ Keeper.Orphan
        → tally e (g.left c) ≡ cond (eqb (l.book.classes e) c) 1 0
    in_chain c is = good.left_once c e ∙ ap (λ n. cond (eqb (l.book.classes e) c) n 0) (ap is_orphan is)

    here : (n : ℕ) → ◌≡◌ {A = ℕ} (cond (eqb n n) 1 0) 1
    here n = grind (arith, nat_tests)

    away : (n c : ℕ) → c ≢ n → ◌≡◌ {A = ℕ} (cond (eqb n c) 1 0) 0
    away n c ne = grind (arith, nat_tests)

    by : (q : Keeper) → l.book.keeper e ≡ q → HasOne g m l e q
    by Keeper.Nobody is = tt
    by (Keeper.By t) is = record {
      own = own (Keeper.By t) is;
      chains = chains (Keeper.By t) is refl;
      hands = hands (Keeper.By t) is;
    }
    by Keeper.Orphan is = record {
      own = own Keeper.Orphan is;
      header = good.headers_fit e (subst IsLeft (sym is) tt);
      once = in_chain (l.book.classes e) is ∙ here (l.book.classes e);
      else = λ c ne. in_chain c is ∙ away (l.book.classes e) c ne;
      hands = hands Keeper.Orphan is;
      way = way_orphan k g s e good is;
    }
    by (Keeper.Adopting t) is = record {
      own = own (Keeper.Adopting t) is;
      header = good.headers_fit e (subst IsLeft (sym is) tt);
      chains = chains (Keeper.Adopting t) is refl;
      here = hands (Keeper.Adopting t) is t ∙ here t;
      hands = λ o ne. hands (Keeper.Adopting t) is o ∙ not_adopting o (Keeper.Adopting t)
          (λ z. ne (let q : t ≡ o = cc in sym q));
      way = way_taken k g s e t good is;
    }
    by (Keeper.Cached t) is = tt

pub slab_has_one_keeper : SlabHasOneKeeper
slab_has_one_keeper k g0 m0 l0 g m l e good run = has_one k g m l e (runs_keep_orphans k g0 m0 l0 g m l good run)

-- what an adopter has read
pub adopters_read_the_record : AdoptersReadTheRecord
adopters_read_the_record k g m l t class e header rest good book is =
    let s = core_in m l in
    let fits = fits_at k g s t (Task.Adopting class (AdoptAt.Own e header rest)) is good in
    let by = taken-is g s t e good.hands_once (first-among e fits.1.1.0 (g.taken t) fits.1.1.1) in
    let told = header_tells (record_of l.book e) (book.there e (subst IsThere (sym by) tt)).record' in
    subst (λ c. of_header e c header ≡ record_of l.book e) (fits.0.of e by)
    (subst (λ h. of_header e (l.book.classes e) h ≡ record_of l.book e) (sym fits.1.2) told)

pub spares_have_room : SparesHaveRoom
spares_have_room k g m l t class e good is = spare_has_room k g m l t class e good is

-- a new pool
public_none : public_of 0 ≡ Public.Null
unfolding public_of
public_none = refl

pub fresh_pools_have_no_orphans : FreshPoolsHaveNoOrphans
fresh_pools_have_no_orphans k few span = record {
  mail = record {
    places = record {
      seats = few;
      span = span;
      inside = λ e is. absurd is;
      kept = λ e seat by. absurd (cc);
    };
    words = λ e. ((λ z. z), public_none);
    boxed_once = λ b e. grind (arith, nat_tests);
    fetched_once = λ seat e. refl;
    box_chains = λ b. subst (λ o. IsChain (links_in (core_in fresh (fresh_locals k)).nexts) (item_link o) [] 0)
        (sym end-reads) refl;
    tasks' = λ seat. refl;
    duties = λ e seat is. absurd (cc);
  };
  even = λ e is. absurd is;
  owns_fit = λ e. tt;
  headers_fit = λ e is. absurd is;
  left_once = λ c e. grind (arith, nat_tests);
  hands_once = λ seat e. refl;
  left_chains = λ c. subst (λ o. IsChain (links_in (core_in fresh (fresh_locals k)).nexts) (item_link o) [] 0)
      (sym end-reads) refl;
  rooms = λ seat. omega arith;
  tasks' = λ seat. (refl, refl);
  duties = λ e seat. ((λ z. absurd (cc)), (λ z by. absurd (cc)));
}

-- what is so at each of the slabs that are named, and elsewhere
slabs : (P : ℕ → Type 0) → P 2 → P 4 → P 6 → P 8 → ((e : ℕ) → 2 ≢ e → 4 ≢ e → 6 ≢ e → 8 ≢ e → P e) → (e : ℕ) → P e
slabs P two four six eight rest e = equal_or 2 e (λ s. subst P s two) (λ a. equal_or 4 e (λ s. subst P s four)
    (λ b. equal_or 6 e (λ s. subst P s six) (λ c. equal_or 8 e (λ s. subst P s eight) (λ d. rest e a b c d))))

keeper_else : (e : ℕ) → 2 ≢ e → 4 ≢ e → 6 ≢ e → 8 ≢ e → named_words.book.keeper e ≡ Keeper.Nobody
keeper_else e a b c d = put-other (put (put (put (λ e. Keeper.Nobody) 2 (Keeper.By 0)) 4 (Keeper.Adopting 1)) 6
    Keeper.Orphan) 8 (Keeper.Adopting 1) e (λ s. d (sym s))
    ∙ put-other (put (put (λ e. Keeper.Nobody) 2 (Keeper.By 0)) 4 (Keeper.Adopting 1)) 6 Keeper.Orphan e (λ s. c
    (sym s))
    ∙ put-other (put (λ e. Keeper.Nobody) 2 (Keeper.By 0)) 4 (Keeper.Adopting 1) e (λ s. b (sym s))
    ∙ put-other (λ e. Keeper.Nobody) 2 (Keeper.By 0) e (λ s. a (sym s))

mail_else : (e : ℕ) → 2 ≢ e → 4 ≢ e → 6 ≢ e → 8 ≢ e → named_orphans.mail.mail e ≡ Mail.Absent
mail_else e a b c d = put-other (put (put (put (λ e. Mail.Absent) 2 (Mail.Owed 2)) 4 (Mail.Adopted 1)) 6 Mail.Left) 8
    (Mail.Adopted 1) e (λ s. d (sym s))
    ∙ put-other (put (put (λ e. Mail.Absent) 2 (Mail.Owed 2)) 4 (Mail.Adopted 1)) 6 Mail.Left e (λ s. c (sym s))
    ∙ put-other (put (λ e. Mail.Absent) 2 (Mail.Owed 2)) 4 (Mail.Adopted 1) e (λ s. b (sym s))
    ∙ put-other (λ e. Mail.Absent) 2 (Mail.Owed 2) e (λ s. a (sym s))

public_else : (e : ℕ) → 2 ≢ e → 4 ≢ e → 6 ≢ e → 8 ≢ e → named_words.publics e ≡ Public.Null
public_else e a b c d = put-other (put (put (put (λ e. Public.Null) 2 (Public.Filled 2100)) 4 Public.Unusable) 6
    Public.Unusable) 8 Public.Unusable e (λ s. d (sym s))
    ∙ put-other (put (put (λ e. Public.Null) 2 (Public.Filled 2100)) 4 Public.Unusable) 6 Public.Unusable e
    (λ s. c (sym s))
    ∙ put-other (put (λ e. Public.Null) 2 (Public.Filled 2100)) 4 Public.Unusable e (λ s. b (sym s))
    ∙ put-other (λ e. Public.Null) 2 (Public.Filled 2100) e (λ s. a (sym s))

named_mail : MailGood three_key named_orphans.mail (mail_core named_words)
named_mail = record {
  places = record {
    seats = omega arith;
    span = omega arith;
    inside = slabs (λ e. IsThere (named_words.book.keeper e) → e < 10) (λ _. omega arith) (λ _. omega arith)
        (λ _. omega arith) (λ _. omega arith) (λ e a b c d is. absurd (subst IsThere (keeper_else e a b c d) is));
    kept = slabs
        (λ e. (seat : ℕ) → named_words.book.keeper e ≡ Keeper.By seat → (4 < class_count) × (seat < three_key.seats))
        (λ seat z. let q : ◌≡◌ {A = ℕ} 0 seat = cc in (omega arith, omega arith)) (λ seat z. absurd (cc))
        (λ seat z. absurd (cc)) (λ seat z. absurd (cc))
        (λ e a b c d seat z. absurd (let k = keeper_else e a b c d in cc));
  };
  words = slabs (λ e. MailFits (named_orphans.mail.mail e) (named_words.book.keeper e) 4 (named_words.publics e)
      (named_words.nexts e)) (tt, tt) (refl, tt) (refl, tt) (refl, tt)
      (λ e a b c d. subst (λ m. MailFits m (named_words.book.keeper e) 4 (named_words.publics e) (named_words.nexts e))
      (sym (mail_else e a b c d))
      ((λ is. subst IsThere (keeper_else e a b c d) is), public_else e a b c d));
  boxed_once = λ b. slabs
      (λ e. 0 ≡ cond (eqb (box_of (named_words.book.keeper e) 4) b) (is_boxed (named_orphans.mail.mail e)) 0)
      (grind (arith, nat_tests)) (grind (arith, nat_tests)) (grind (arith, nat_tests)) (grind (arith, nat_tests))
      (λ e a b' c d. let m = ap is_boxed (mail_else e a b' c d) in grind (arith, nat_tests));
  fetched_once = λ seat. slabs (λ e. 0 ≡ is_taken seat (named_orphans.mail.mail e)) refl refl refl refl
      (λ e a b c d. sym (ap (is_taken seat) (mail_else e a b c d)));
  box_chains = λ b. refl;
  tasks' = each (λ seat q. mailing.TaskFits three_key named_orphans.mail (mail_core named_words) seat q)
      (λ seat. mailing.Task.Away) 2 (mailing.Task.Mailing 2 MailAt.Next) (λ seat _. refl) (refl, refl, refl);
  duties = slabs (λ e. (seat : ℕ) → named_orphans.mail.mail e ≡ Mail.Owed seat
      → mailing.IsMailing (named_words.mails seat) e)
      (λ seat z. let q : ◌≡◌ {A = ℕ} 2 seat = cc in subst (λ x. mailing.IsMailing (named_words.mails x) 2) q refl)
      (λ seat z. absurd (cc)) (λ seat z. absurd (cc)) (λ seat z. absurd (cc))
      (λ e a b c d seat z. absurd (let m = mail_else e a b c d in cc));
}

seventh : link_of 7 ≡ Some 6
unfolding link_of
seventh = refl

pub named_orphans_stand : NamedOrphansStand
named_orphans_stand = record {
  mail = named_mail;
  even = slabs (λ e. IsThere (named_words.book.keeper e) → slab_granule e ≡ e) (λ _. refl) (λ _. refl) (λ _. refl)
      (λ _. refl) (λ e a b c d is. absurd (subst IsThere (keeper_else e a b c d) is));
  owns_fit = slabs (λ e. OwnFits named_words.tasks e (named_words.book.keeper e)
      (named_words.owns e)) refl refl refl refl
      (λ e a b c d. subst (λ q. OwnFits named_words.tasks e q (named_words.owns e)) (sym (keeper_else e a b c d)) tt);
  headers_fit = λ e _. refl;
  left_once = λ c. slabs
      (λ e. tally e (named_orphans.left c) ≡ cond (eqb 4 c) (is_orphan (named_words.book.keeper e)) 0)
      (grind (arith, nat_tests)) (grind (arith, nat_tests)) (grind (arith, nat_tests)) (grind (arith, nat_tests))
      (λ e a b c' d. let q = ap is_orphan (keeper_else e a b c' d) in grind (arith, nat_tests));
  hands_once = λ seat. slabs (λ e. in_hand named_orphans.taken named_words.spares named_words.tasks seat e
      ≡ is_adopting seat (named_words.book.keeper e))
      (hand seat 2 (omega arith) (omega arith)) (four seat) (hand seat 6 (omega arith) (omega arith)) (eight seat)
      (λ e a b c d. hand seat e b d ∙ sym (ap (is_adopting seat) (keeper_else e a b c d)));
  left_chains = both (λ c o xs. IsChain (links_in named_words.nexts) (item_link o) xs 0) (λ c. None) (λ c. []) 4
      (Some 6)
      (6 ∷ []) (λ c _. refl) (refl, refl);
  rooms = each (λ seat (q : Rolled ℕ). most_slabs 10 ≤ q.room) (λ seat. empty_roll 5) 1 one_spare
      (λ seat _. omega arith)
      (omega arith);
  tasks' = each (λ seat q. TaskFits three_key named_orphans named_words seat q)
      (put (λ seat. Task.Away) 0 (Task.Leaving 2 LeaveAt.Close)) 1 returning
      (λ seat ne. each (λ seat q. 1 ≢ seat → TaskFits three_key named_orphans named_words seat q) (λ seat. Task.Away) 0
      (Task.Leaving 2 LeaveAt.Close) (λ seat _ far. (idle seat far, refl))
      (λ _. ((refl, refl), refl, (λ z. cc))) seat (λ s. ne (sym s)))
      (record { class' = omega arith; seat' = omega arith; of = λ e _. refl }, refl, ap Next.Link (sym seventh));
  duties = slabs (λ e. (seat : ℕ) → (named_orphans.mail.mail e ≡ Mail.Leaving seat → IsLeaving
      (named_words.tasks seat) e)
      × (named_orphans.mail.mail e ≡ Mail.Adopted seat → named_words.book.keeper e ≡ Keeper.By seat
      → IsJoining (named_words.tasks seat) e))
      (λ seat. ((λ z. absurd (cc)), (λ z by. absurd (cc)))) (λ seat. ((λ z. absurd (cc)), (λ z by. absurd (cc))))
      (λ seat. ((λ z. absurd (cc)), (λ z by. absurd (cc)))) (λ seat. ((λ z. absurd (cc)), (λ z by. absurd (cc))))
      (λ e a b c d seat. let m = mail_else e a b c d in ((λ z. absurd (cc)), (λ z by. absurd (cc))));
}
  where
    idle : (seat : ℕ) → 1 ≢ seat → (named_words.spares seat).items ≡ []
    idle seat far = ap (λ (q : Rolled ℕ). q.items) (put-other (λ seat. empty_roll 5) 1 one_spare seat (λ s. far
        (sym s)))

    hand : (seat e : ℕ) → 4 ≢ e → 8 ≢ e
        → in_hand named_orphans.taken named_words.spares named_words.tasks seat e ≡ 0
    hand seat e b d = equal_or 1 seat
        (λ same. subst (λ x. in_hand named_orphans.taken named_words.spares named_words.tasks x e ≡ 0) same
        (let p : ◌≡◌ {A = ℕ} (tally e (4 ∷ [])) 0 = grind (arith, nat_tests) in
        let q : ◌≡◌ {A = ℕ} (cond (eqb e 8) 1 0) 0 = grind (arith, nat_tests) in omega arith))
        (λ far. let p = ap (tally e) (idle seat far) in let q = none seat e far in omega arith)
      where
        none : (seat e : ℕ) → 1 ≢ seat → is_returned e (named_words.tasks seat) ≡ 0
        none seat e far = ap (is_returned e) (put-other (put (λ seat. Task.Away) 0 (Task.Leaving 2 LeaveAt.Close)) 1
            returning seat (λ s. far (sym s)))
            ∙ each (λ seat q. is_returned e q ≡ 0) (λ seat. Task.Away) 0 (Task.Leaving 2 LeaveAt.Close)
            (λ seat _. refl) refl
            seat

    other : (seat e : ℕ) → 1 ≢ seat → in_hand named_orphans.taken named_words.spares named_words.tasks seat e ≡ 0
    other seat e far =
        let p = ap (tally e) (idle seat far) in
        let q = ap (is_returned e) (put-other (put (λ seat. Task.Away) 0 (Task.Leaving 2 LeaveAt.Close)) 1
        returning seat (λ s. far (sym s)))
        ∙ each (λ seat q. is_returned e q ≡ 0) (λ seat. Task.Away) 0 (Task.Leaving 2 LeaveAt.Close)
        (λ seat _. refl) refl
        seat in omega arith

    not_one : (seat : ℕ) → 1 ≢ seat → is_adopting seat (Keeper.Adopting 1) ≡ 0
    not_one seat far = grind (arith, nat_tests)

    four : (seat : ℕ) → in_hand named_orphans.taken named_words.spares named_words.tasks seat 4
        ≡ is_adopting seat (Keeper.Adopting 1)
    four seat = equal_or 1 seat
        (λ same. subst (λ x. in_hand named_orphans.taken named_words.spares named_words.tasks x 4
        ≡ is_adopting x (Keeper.Adopting 1)) same refl)
        (λ far. other seat 4 far ∙ sym (not_one seat far))

    eight : (seat : ℕ) → in_hand named_orphans.taken named_words.spares named_words.tasks seat 8
        ≡ is_adopting seat (Keeper.Adopting 1)
    eight seat = equal_or 1 seat
        (λ same. subst (λ x. in_hand named_orphans.taken named_words.spares named_words.tasks x 8
        ≡ is_adopting x (Keeper.Adopting 1)) same refl)
        (λ far. other seat 8 far ∙ sym (not_one seat far))

-- wrong definitions
pub owed_leavings_are_wrong : OwedLeavingsAreWrong
owed_leavings_are_wrong leaves =
    let after = leaves three_key 0 2 named_orphans named_words refl named_orphans_stand in
    let clash : Mail.Leaving 0 ≡ Mail.Owed 2 = (after.mail.tasks' 2).0 in cc

pub second_returns_are_wrong : SecondReturnsAreWrong
second_returns_are_wrong returns =
    let after = returns three_key 1 4 8 7 named_orphans named_words refl named_orphans_stand in
    let clash : ◌≡◌ {A = ℕ} 1 0 = after.hands_once 1 8 in omega arith

only_two : (P : ℕ → Type 0) → P 2 → ((e : ℕ) → 2 ≢ e → P e) → (e : ℕ) → P e
only_two P two rest e = equal_or 2 e (λ s. subst P s two) (rest e)

keeper_none : (e : ℕ) → 2 ≢ e → unsettled_words.book.keeper e ≡ Keeper.Nobody
keeper_none e ne = put-other (λ e. Keeper.Nobody) 2 (Keeper.Adopting 1) e (λ s. ne (sym s))

mail_none : (e : ℕ) → 2 ≢ e → unsettled_orphans.mail.mail e ≡ Mail.Absent
mail_none e ne = put-other (λ e. Mail.Absent) 2 (Mail.Adopted 1) e (λ s. ne (sym s))

unsettled_good : OrphansGood three_key unsettled_orphans unsettled_words
unsettled_good = record {
  mail = record {
    places = record {
      seats = omega arith;
      span = omega arith;
      inside = only_two (λ e. IsThere (unsettled_words.book.keeper e) → e < 10) (λ _. omega arith)
          (λ e ne is. absurd (subst IsThere (keeper_none e ne) is));
      kept = only_two
          (λ e. (seat : ℕ) → unsettled_words.book.keeper e ≡ Keeper.By seat → (4 < class_count) ×
          (seat < three_key.seats))
          (λ seat z. absurd (cc)) (λ e ne seat z. absurd (let k = keeper_none e ne in cc));
    };
    words = only_two (λ e. MailFits (unsettled_orphans.mail.mail e) (unsettled_words.book.keeper e) 4
        (unsettled_words.publics e) (Next.Link None)) (refl, tt)
        (λ e ne. subst (λ m. MailFits m (unsettled_words.book.keeper e) 4 (unsettled_words.publics e) (Next.Link None))
        (sym (mail_none e ne)) (
          (λ is. subst IsThere (keeper_none e ne) is),
          put-other (λ e. Public.Null) 2 Public.Unusable e (λ s. ne (sym s)),
        ));
    boxed_once = λ b. only_two
        (λ e. 0 ≡ cond (eqb (box_of (unsettled_words.book.keeper e) 4) b) (is_boxed (unsettled_orphans.mail.mail e)) 0)
        (grind (arith, nat_tests)) (λ e ne. let m = ap is_boxed (mail_none e ne) in grind (arith, nat_tests));
    fetched_once = λ seat. only_two (λ e. 0 ≡ is_taken seat (unsettled_orphans.mail.mail e)) refl
        (λ e ne. sym (ap (is_taken seat) (mail_none e ne)));
    box_chains = λ b. refl;
    tasks' = λ seat. refl;
    duties = only_two (λ e. (seat : ℕ) → unsettled_orphans.mail.mail e ≡ Mail.Owed seat → ⊥) (λ seat z. cc)
        (λ e ne seat z. let m = mail_none e ne in cc);
  };
  even = only_two (λ e. IsThere (unsettled_words.book.keeper e) → slab_granule e ≡ e) (λ _. refl)
      (λ e ne is. absurd (subst IsThere (keeper_none e ne) is));
  owns_fit = only_two (λ e. OwnFits unsettled_words.tasks e (unsettled_words.book.keeper e) Own.Orphan) refl
      (λ e ne. subst (λ q. OwnFits unsettled_words.tasks e q Own.Orphan) (sym (keeper_none e ne)) tt);
  headers_fit = λ e _. refl;
  left_once = λ c. only_two (λ e. 0 ≡ cond (eqb 4 c) (is_orphan (unsettled_words.book.keeper e)) 0)
      (grind (arith, nat_tests)) (λ e ne. let q = ap is_orphan (keeper_none e ne) in grind (arith, nat_tests));
  hands_once = λ seat. equal_or 1 seat
      (λ same. subst (λ x. (e : ℕ) → in_hand unsettled_orphans.taken unsettled_words.spares unsettled_words.tasks x e
      ≡ is_adopting x (unsettled_words.book.keeper e)) same
      (only_two (λ e. in_hand unsettled_orphans.taken unsettled_words.spares unsettled_words.tasks 1 e
      ≡ is_adopting 1 (unsettled_words.book.keeper e)) refl (λ e ne. few e ne
      ∙ sym (ap (is_adopting 1) (keeper_none e ne)))))
      (λ far e. other seat e far ∙ sym (none seat e far));
  left_chains = λ c. refl;
  rooms = λ seat. omega arith;
  tasks' = each (λ seat q. TaskFits three_key unsettled_orphans unsettled_words seat q) (λ seat. Task.Away) 1 settling
      (λ seat ne. (refl, put-other (λ seat. []) 1 (2 ∷ []) seat ne))
      (record { class' = omega arith; seat' = omega arith; of = λ e _. refl }, (refl, ([], refl, refl), refl));
  duties = only_two (λ e. (seat : ℕ)
      → (unsettled_orphans.mail.mail e ≡ Mail.Leaving seat → IsLeaving (unsettled_words.tasks seat) e)
      × (unsettled_orphans.mail.mail e ≡ Mail.Adopted seat → unsettled_words.book.keeper e ≡ Keeper.By seat
      → IsJoining (unsettled_words.tasks seat) e))
      (λ seat. ((λ z. absurd (cc)), (λ z by. absurd (cc))))
      (λ e ne seat. let m = mail_none e ne in ((λ z. absurd (cc)), (λ z by. absurd (cc))));
}
  where
    few : (e : ℕ) → 2 ≢ e → in_hand unsettled_orphans.taken unsettled_words.spares unsettled_words.tasks 1 e ≡ 0
    few e ne = let p : ◌≡◌ {A = ℕ} (tally e (2 ∷ [])) 0 = grind (arith, nat_tests) in omega arith

    other : (seat e : ℕ) → 1 ≢ seat → in_hand unsettled_orphans.taken unsettled_words.spares unsettled_words.tasks
        seat e
        ≡ 0
    other seat e far =
        let p = ap (tally e) (put-other (λ seat. []) 1 (2 ∷ []) seat (λ s. far (sym s))) in
        let q = ap (is_returned e) (put-other (λ seat. Task.Away) 1 settling seat (λ s. far (sym s))) in omega arith

    none : (seat e : ℕ) → 1 ≢ seat → is_adopting seat (unsettled_words.book.keeper e) ≡ 0
    none seat e far = each (λ e q. is_adopting seat q ≡ 0) (λ e. Keeper.Nobody) 2 (Keeper.Adopting 1) (λ e _. refl)
        (grind (arith, nat_tests)) e

pub takes_before_settling_are_wrong : TakesBeforeSettlingAreWrong
takes_before_settling_are_wrong takes =
    let after = takes three_key 1 4 2 (to_header (begun 2 4)) None unsettled_orphans unsettled_words refl
    unsettled_good in
    (after.mail.words 2).0
