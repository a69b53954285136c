-- A slab is mailed, a mailbox is taken, its slabs are dealt with, and orphans are taken.
use Rattle.std.proofs.Common.{◌≡◌, ◌≢◌, ◌⊎◌, inl, inr, ℕ, ◌+◌, ◌*◌, ◌^◌, ◌<◌, ◌≤◌, Bool, true, false, cond, eqb, ltb, Option, Some}
use Rattle.std.proofs.Common.{None, List, [], ◌∷◌, refl, sym, ap, subst, arith, ◌∙◌}
use Rattle.std.proofs.lemmas.Bool.Decides.{nat_tests}
use Rattle.pool_types.specs.Geometry.{class_count}
use Rattle.pool_words.specs.declared.words.Key.{Key}
use Rattle.pool_words.specs.Words.{mailbox_at, no_index}
use Rattle.word_codes.specs.declared.nexts.MailKey.{MailKey}
use Rattle.word_codes.specs.declared.nexts.Next.{Next}
use Rattle.word_codes.specs.declared.publics.Public.{Public}
use Rattle.word_codes.specs.Links.{link_of}
use Rattle.public_list.specs.declared.joining.JoinAt.{JoinAt}
use Rattle.chain_words.specs.declared.pushing.PushAt.{PushAt}
use Rattle.mailbox.specs.declared.mailing.MailAt.{MailAt}
use Rattle.mailbox.specs.declared.boxes.BoxAt.{BoxAt}
use Rattle.word_laws.specs.Memory.{put}
use Rattle.word_laws.proofs.CallerLemmas.{equal_or, less_or}
use Rattle.chain_laws.specs.Chains.{Link, IsChain, tally}
use Rattle.chain_laws.specs.Chains.Link.{To, Ends}
use Rattle.chain_laws.proofs.CallerLemmas.{leads-same, tally-here, tally-else}
use Rattle.slab_laws.specs.Books.{Keeper, IsThere, chain_taken}
use Rattle.slab_laws.proofs.CallerLemmas.{put-same, put-other, each, both}
use Rattle.mail_laws.specs.Mail.{Mail, Task, Shadow, Core, item_link, next_link, links_in, key_by, box_of, IsHome, IsKept}
use Rattle.mail_laws.specs.Mail.{IsAdopter, IsFilled, IsNotNull, MailFits, is_boxed, is_taken, BoxedOnce, FetchedOnce}
use Rattle.mail_laws.specs.Mail.{BoxChains, PlacesFit, AreOf, FetchesAt, FetchFits, BeginFits, TaskFits, IsMailing}
use Rattle.mail_laws.specs.Mail.{MailGood}
use Rattle.mail_laws.specs.Steps.{with_mail, tail_of, took, fetch_on, shadow_come}
use Rattle.mail_laws.proofs.Seats.{Rely, OnlyAt, Apart, rely_only, task-stays, SeatsFit, TurnFits, seats_keep, all_stay}
use Rattle.mail_laws.proofs.Seats.{fits_at, duty_at, rest-among, first-among, chain-stays}
use Rattle.mail_laws.proofs.Rows.{SlabRow, row_keeps, in_no_box, apart_of, taken-other, stand_keeps, next_keeps, places_at}

-- N4
abbrev pub mailed_core : ℕ → ℕ → ℕ → Core → Core
mailed_core t e b s = record s { boxes = put s.boxes b (Some e); tasks = put s.tasks t Task.Away }

abbrev pub boxed_shadow : ℕ → ℕ → Shadow → Shadow
boxed_shadow e b g = record g { mail = put g.mail e Mail.Boxed; boxed = put g.boxed b (e ∷ g.boxed b) }

pub mailed_keeps : (k : Key) (t e : ℕ) (key : MailKey) (found b : ℕ) (g : Shadow) (s : Core)
    → s.tasks t ≡ Task.Mailing e (MailAt.Push key (PushAt.Exchange found)) → b ≡ box_of (s.keeper e) (s.classes e)
    → s.boxes b ≡ link_of found → MailGood k g s → MailGood k (boxed_shadow e b g) (mailed_core t e b s)
mailed_keeps k t e key found b g s is home won good =
    let task = fits_at k g s t (Task.Mailing e (MailAt.Push key (PushAt.Exchange found))) is good in
    let owed = task.0 in
    let fits = subst (λ m. MailFits m (s.keeper e) (s.classes e) (s.publics e) (s.nexts e)) owed (good.words e) in
    let h = boxed_shadow e b g in
    let r = mailed_core t e b s in
    let only : OnlyAt e g s h r = record {
      mail = put-other g.mail e Mail.Boxed;
      nexts = λ x _. refl;
      keeper = λ x _. refl;
      classes = λ x _. refl;
    } in
    let seats = seats_keep k t Task.Away g s h r good (record {
      others = λ o ne. rely_only e o g s h r only
          (apart_of g h o e (Mail.Owed t) good.fetched_once owed (λ z. ne (let same : t ≡ o = cc in sym same)) (λ z. cc)
          refl (λ z. let q : Mail.Boxed ≡ Mail.Owed o = sym (put-same g.mail e Mail.Boxed) ∙ z in cc)) refl
          (put-other s.tasks t Task.Away o ne);
      stands = put-same s.tasks t Task.Away;
      task' = task.1;
      duty = λ x z. each (λ x q. q ≡ Mail.Owed t → ⊥) g.mail e Mail.Boxed
          (λ x ne z. ne (duty_at k g s t (Task.Mailing e (MailAt.Push key (PushAt.Exchange found))) is good x z))
          (λ z. cc) x z;
    }) in
    record {
      places = good.places;
      words = each (λ x m. MailFits m (s.keeper x) (s.classes x) (s.publics x) (s.nexts x)) g.mail e Mail.Boxed
          (λ x _. good.words x) fits;
      boxed_once = λ c x. once c x (good.boxed_once c x) (good.boxed_once c e) (good.boxed_once b e)
          (ap is_boxed owed);
      fetched_once = λ o. each (λ x m. tally x (g.fetched o) ≡ is_taken o m) g.mail e Mail.Boxed
          (λ x _. good.fetched_once o x) (good.fetched_once o e ∙ ap (is_taken o) owed);
      box_chains = both (λ c o xs. IsChain (links_in s.nexts) (item_link o) xs 0) s.boxes g.boxed b (Some e)
          (e ∷ g.boxed b) (λ c _. good.box_chains c) (
            refl,
            subst (λ l. IsChain (links_in s.nexts) l (g.boxed b) 0)
                (ap item_link won ∙ sym (ap next_link task.2.1)) (good.box_chains b),
          );
      tasks' = seats.tasks';
      duties = seats.duties;
    }
  where
    once : (c x : ℕ) → tally x (g.boxed c) ≡ cond (eqb (box_of (s.keeper x) (s.classes x)) c) (is_boxed (g.mail x)) 0
        → tally e (g.boxed c) ≡ cond (eqb (box_of (s.keeper e) (s.classes e)) c) (is_boxed (g.mail e)) 0
        → tally e (g.boxed b) ≡ cond (eqb (box_of (s.keeper e) (s.classes e)) b) (is_boxed (g.mail e)) 0
        → is_boxed (g.mail e) ≡ 0
        → tally x (put g.boxed b (e ∷ g.boxed b) c)
        ≡ cond (eqb (box_of (s.keeper x) (s.classes x)) c) (is_boxed (put g.mail e Mail.Boxed x)) 0
    once c x a d q z = grind (arith, nat_tests, home)

-- no mailbox has the index that none has
not_index : (seat class : ℕ) → class < class_count → no_index ≡ mailbox_at seat class → seat < 2 ^ 32 → ⊥
not_index seat class low same few =
    let other : mailbox_at seat class ≡ 26 * seat + class = grind (arith, nat_tests) in omega arith

-- mailboxes of different seats or classes are different
pub box-inj : (k : Key) (q : Keeper) (c seat class : ℕ) → class < class_count → seat < 2 ^ 32
    → ((o : ℕ) → q ≡ Keeper.By o → c < class_count) → box_of q c ≡ mailbox_at seat class
    → (q ≡ Keeper.By seat) × (c ≡ class)
box-inj k Keeper.Nobody c seat class low small kept same = absurd (not_index seat class low same small)
box-inj k (Keeper.By o) c seat class low small kept same =
    let few = kept o refl in
    let one : mailbox_at o c ≡ 26 * o + c = grind (arith, nat_tests) in
    let other : mailbox_at seat class ≡ 26 * seat + class = grind (arith, nat_tests) in
    (ap Keeper.By (omega arith), omega arith)
box-inj k Keeper.Orphan c seat class low small kept same = absurd (not_index seat class low same small)
box-inj k (Keeper.Adopting o) c seat class low small kept same = absurd (not_index seat class low same small)
box-inj k (Keeper.Cached o) c seat class low small kept same = absurd (not_index seat class low same small)

-- N5
abbrev pub took_core : ℕ → ℕ → Task → Core → Core
took_core t b task s = record s { boxes = put s.boxes b None; tasks = put s.tasks t task }

abbrev pub took_shadow : ℕ → ℕ → Core → Shadow → Shadow
took_shadow t b s g = record {
  mail = λ e. cond (eqb (box_of (s.keeper e) (s.classes e)) b) (took t (g.mail e)) (g.mail e);
  boxed = put g.boxed b [];
  fetched = put g.fetched t (g.boxed b);
}

took-each : (P : ℕ → Mail → Type 0) (t b : ℕ) (s : Core) (mail : ℕ → Mail)
    → ((x : ℕ) → box_of (s.keeper x) (s.classes x) ≡ b → P x (took t (mail x)))
    → ((x : ℕ) → box_of (s.keeper x) (s.classes x) ≢ b → P x (mail x)) → (x : ℕ)
    → P x (cond (eqb (box_of (s.keeper x) (s.classes x)) b) (took t (mail x)) (mail x))
took-each P t b s mail here there x = equal_or (box_of (s.keeper x) (s.classes x)) b
    (λ same. subst (P x) (sym (inside same)) (here x same))
    (λ ne. subst (P x) (sym (outside ne)) (there x ne))
  where
    inside : box_of (s.keeper x) (s.classes x) ≡ b
        → cond (eqb (box_of (s.keeper x) (s.classes x)) b) (took t (mail x)) (mail x) ≡ took t (mail x)
    inside same = grind (arith, nat_tests)

    outside : box_of (s.keeper x) (s.classes x) ≢ b
        → cond (eqb (box_of (s.keeper x) (s.classes x)) b) (took t (mail x)) (mail x) ≡ mail x
    outside ne = grind (arith, nat_tests)

took-fits : (t : ℕ) (m : Mail) (q : Keeper) (c : ℕ) (p : Public) (n : Next) → q ≡ Keeper.By t → MailFits m q c p n
    → MailFits (took t m) q c p n
took-fits t Mail.Absent q c p n by fits = fits
took-fits t (Mail.Begun o) q c p n by fits = fits
took-fits t Mail.Rest q c p n by fits = fits
took-fits t (Mail.Owed o) q c p n by fits = fits
took-fits t Mail.Boxed q c p n by fits = (by, fits.1)
took-fits t (Mail.Taken o) q c p n by fits = fits
took-fits t (Mail.Leaving o) q c p n by fits = fits
took-fits t Mail.Left q c p n by fits = fits
took-fits t (Mail.Adopted o) q c p n by fits = fits

took-unboxed : (t : ℕ) (m : Mail) → is_boxed (took t m) ≡ 0
took-unboxed t Mail.Absent = refl
took-unboxed t (Mail.Begun o) = refl
took-unboxed t Mail.Rest = refl
took-unboxed t (Mail.Owed o) = refl
took-unboxed t Mail.Boxed = refl
took-unboxed t (Mail.Taken o) = refl
took-unboxed t (Mail.Leaving o) = refl
took-unboxed t Mail.Left = refl
took-unboxed t (Mail.Adopted o) = refl

took-taken : (t o : ℕ) (m : Mail) → is_taken o (took t m) ≡ is_taken o m + cond (eqb t o) (is_boxed m) 0
took-taken t o Mail.Absent = grind (arith, nat_tests)
took-taken t o (Mail.Begun x) = grind (arith, nat_tests)
took-taken t o Mail.Rest = grind (arith, nat_tests)
took-taken t o (Mail.Owed x) = grind (arith, nat_tests)
took-taken t o Mail.Boxed = grind (arith, nat_tests)
took-taken t o (Mail.Taken x) = grind (arith, nat_tests)
took-taken t o (Mail.Leaving x) = grind (arith, nat_tests)
took-taken t o Mail.Left = grind (arith, nat_tests)
took-taken t o (Mail.Adopted x) = grind (arith, nat_tests)

took-owed : (t o : ℕ) (m : Mail) → took t m ≡ Mail.Owed o → m ≡ Mail.Owed o
took-owed t o Mail.Absent e = cc
took-owed t o (Mail.Begun x) e = cc
took-owed t o Mail.Rest e = cc
took-owed t o (Mail.Owed x) e = e
took-owed t o Mail.Boxed e = cc
took-owed t o (Mail.Taken x) e = cc
took-owed t o (Mail.Leaving x) e = cc
took-owed t o Mail.Left e = cc
took-owed t o (Mail.Adopted x) e = cc

pub took_keeps : (k : Key) (t class : ℕ) (g : Shadow) (s : Core) → s.tasks t ≡ Task.Fetching class BoxAt.Take
    → MailGood k g s
    → MailGood k (took_shadow t (mailbox_at t class) s g)
    (took_core t (mailbox_at t class) (fetch_on class (s.boxes (mailbox_at t class))) s)
took_keeps k t class g s is good =
    record {
      places = good.places;
      words = took-each (λ x m. MailFits m (s.keeper x) (s.classes x) (s.publics x) (s.nexts x)) t b s g.mail
          (λ x same. took-fits t (g.mail x) (s.keeper x) (s.classes x) (s.publics x) (s.nexts x) (home x same).0
          (good.words x)) (λ x _. good.words x);
      boxed_once = λ c. took-each
          (λ x m. tally x (put g.boxed b [] c) ≡ cond (eqb (box_of (s.keeper x) (s.classes x)) c) (is_boxed m) 0) t b s
          g.mail
          (λ x same. equal_or c b
          (λ here. ap (tally x) (ap (put g.boxed b []) here ∙ put-same g.boxed b [])
          ∙ sym (let z = took-unboxed t (g.mail x) in let w : cond (eqb (box_of (s.keeper x) (s.classes x)) c)
          (is_boxed (took t (g.mail x))) 0 ≡ 0 = grind (arith, nat_tests) in w))
          (λ ne. ap (tally x) (put-other g.boxed b [] c ne) ∙ good.boxed_once c x
          ∙ (let w : cond (eqb (box_of (s.keeper x) (s.classes x)) c) (is_boxed (g.mail x)) 0 ≡ 0 =
          grind (arith, nat_tests, same) in w)
          ∙ sym (let w : cond (eqb (box_of (s.keeper x) (s.classes x)) c) (is_boxed (took t (g.mail x))) 0 ≡ 0 =
          grind (arith, nat_tests, same) in w)))
          (λ x far. equal_or c b
          (λ here. ap (tally x) (ap (put g.boxed b []) here ∙ put-same g.boxed b [])
          ∙ sym (let w : cond (eqb (box_of (s.keeper x) (s.classes x)) c) (is_boxed (g.mail x)) 0 ≡ 0 =
          grind (arith, nat_tests, far) in w))
          (λ ne. ap (tally x) (put-other g.boxed b [] c ne) ∙ good.boxed_once c x));
      fetched_once = λ o. took-each (λ x m. tally x (put g.fetched t (g.boxed b) o) ≡ is_taken o m) t b s g.mail
          (λ x same. got o x same) (λ x far. lost o x far);
      box_chains = both (λ c o xs. IsChain (links_in s.nexts) (item_link o) xs 0) s.boxes g.boxed b None []
          (λ c _. good.box_chains c) refl;
      tasks' = seats.tasks';
      duties = seats.duties;
    }
  where
    b : ℕ
    b = mailbox_at t class

    task : FetchFits k g s t class BoxAt.Take
    task = fits_at k g s t (Task.Fetching class BoxAt.Take) is good

    next : Task
    next = fetch_on class (s.boxes (mailbox_at t class))

    h : Shadow
    h = took_shadow t (mailbox_at t class) s g

    r : Core
    r = took_core t (mailbox_at t class) (fetch_on class (s.boxes (mailbox_at t class))) s

    home : (x : ℕ) → box_of (s.keeper x) (s.classes x) ≡ mailbox_at t class
        → (s.keeper x ≡ Keeper.By t) × (s.classes x ≡ class)
    home x same = box-inj k (s.keeper x) (s.classes x) t class task.class'
        (let few = task.seat' in let most = good.places.seats in omega arith)
        (λ o by. (good.places.kept x o by).0) same

    got : (o x : ℕ) → box_of (s.keeper x) (s.classes x) ≡ mailbox_at t class
        → tally x (put g.fetched t (g.boxed (mailbox_at t class)) o) ≡ is_taken o (took t (g.mail x))
    got o x same =
        let f = good.fetched_once o x in
        let n = good.boxed_once (mailbox_at t class) x in
        let e = task.at' in
        let z = ap (tally x) e in
        let m = took-taken t o (g.mail x) in
        grind (arith, nat_tests, same)

    lost : (o x : ℕ) → box_of (s.keeper x) (s.classes x) ≢ mailbox_at t class
        → tally x (put g.fetched t (g.boxed (mailbox_at t class)) o) ≡ is_taken o (g.mail x)
    lost o x far =
        let f = good.fetched_once o x in
        let n = good.boxed_once (mailbox_at t class) x in
        let z = ap (tally x) task.at' in
        grind (arith, nat_tests, far)

    of_class : (x : ℕ) → 0 < tally x (g.boxed (mailbox_at t class)) → s.classes x ≡ class
    of_class x some = equal_or (box_of (s.keeper x) (s.classes x)) (mailbox_at t class)
        (λ same. (home x same).1)
        (λ far. absurd (let n = good.boxed_once (mailbox_at t class) x in
        let w : cond (eqb (box_of (s.keeper x) (s.classes x)) (mailbox_at t class)) (is_boxed (g.mail x)) 0 ≡ 0 =
        grind (arith, nat_tests, far) in omega arith))

    next_fits : (o : Option ℕ) → s.boxes (mailbox_at t class) ≡ o
        → TaskFits k (took_shadow t (mailbox_at t class) s g)
        (took_core t (mailbox_at t class) (fetch_on class (s.boxes (mailbox_at t class))) s) t (fetch_on class o)
    next_fits None is' = put-same g.fetched t (g.boxed (mailbox_at t class))
        ∙ none (g.boxed (mailbox_at t class))
        (subst (λ o. IsChain (links_in s.nexts) (item_link o) (g.boxed (mailbox_at t class)) 0) is'
        (good.box_chains (mailbox_at t class)))
      where
        none : (xs : List ℕ) → IsChain (links_in s.nexts) (Ends 0) xs 0 → xs ≡ []
        none [] chain = refl
        none (x ∷ xs) (first, chain) = absurd (cc)
    next_fits (Some e) is' = record {
      class' = task.class';
      seat' = task.seat';
      of = subst (AreOf class s.classes) (sym (put-same g.fetched t (g.boxed (mailbox_at t class)))) of_class;
      at' = subst (λ xs. IsChain (links_in s.nexts) (To e) xs 0)
          (sym (put-same g.fetched t (g.boxed (mailbox_at t class))))
          (subst (λ o. IsChain (links_in s.nexts) (item_link o) (g.boxed (mailbox_at t class)) 0) is'
          (good.box_chains (mailbox_at t class)));
    }

    no_duty : (o : Option ℕ) (x : ℕ) → ⊥ → IsMailing (fetch_on class o) x
    no_duty o x none = absurd none

    owed-stays : (o x : ℕ) → g.mail x ≡ Mail.Owed o
        → cond (eqb (box_of (s.keeper x) (s.classes x)) (mailbox_at t class)) (took t (g.mail x)) (g.mail x)
        ≡ Mail.Owed o
    owed-stays o x z = took-each (λ x m. g.mail x ≡ Mail.Owed o → m ≡ Mail.Owed o) t (mailbox_at t class) s g.mail
        (λ x _ z. ap (took t) z) (λ x _ z. z) x z

    begun-stays : (o x : ℕ) → g.mail x ≡ Mail.Begun o
        → cond (eqb (box_of (s.keeper x) (s.classes x)) (mailbox_at t class)) (took t (g.mail x)) (g.mail x)
        ≡ Mail.Begun o
    begun-stays o x z = took-each (λ x m. g.mail x ≡ Mail.Begun o → m ≡ Mail.Begun o) t (mailbox_at t class) s g.mail
        (λ x _ z. ap (took t) z) (λ x _ z. z) x z

    still : (o x : ℕ)
        → cond (eqb (box_of (s.keeper x) (s.classes x)) (mailbox_at t class)) (took t (g.mail x)) (g.mail x)
        ≡ Mail.Owed o → g.mail x ≡ Mail.Owed o
    still o x z = took-each (λ x m. m ≡ Mail.Owed o → g.mail x ≡ Mail.Owed o) t (mailbox_at t class) s g.mail
        (λ x _ z. took-owed t o (g.mail x) z) (λ x _ z. z) x z

    seats : SeatsFit k (took_shadow t (mailbox_at t class) s g)
        (took_core t (mailbox_at t class) (fetch_on class (s.boxes (mailbox_at t class))) s)
    seats = seats_keep k t (fetch_on class (s.boxes (mailbox_at t class))) g s
        (took_shadow t (mailbox_at t class) s g)
        (took_core t (mailbox_at t class) (fetch_on class (s.boxes (mailbox_at t class))) s) good (record {
          others = λ o ne. record {
            owed = λ x z. (owed-stays o x z, refl, refl, refl);
            begun = λ x z. (begun-stays o x z, refl);
            fetched = put-other g.fetched t (g.boxed (mailbox_at t class)) o ne;
            mine = λ x some. (refl, refl);
            task = put-other s.tasks t (fetch_on class (s.boxes (mailbox_at t class))) o ne;
            no_more = λ x z. still o x z;
          };
          stands = put-same s.tasks t (fetch_on class (s.boxes (mailbox_at t class)));
          task' = next_fits (s.boxes (mailbox_at t class)) refl;
          duty = λ x z. no_duty (s.boxes (mailbox_at t class)) x
              (duty_at k g s t (Task.Fetching class BoxAt.Take) is good x (still t x z));
        })

-- P5 of a slab that came by mail: it is at rest
abbrev pub rested_core : ℕ → ℕ → Task → Core → Core
rested_core t e task s = record s { publics = put s.publics e Public.Null; tasks = put s.tasks t task }

abbrev pub rested_shadow : ℕ → ℕ → Shadow → Shadow
rested_shadow t e g = record g {
  mail = put g.mail e Mail.Rest;
  fetched = put g.fetched t (tail_of (g.fetched t));
}

is_his : (t : ℕ) (m : Mail) → 0 < is_taken t m → m ≡ Mail.Taken t
is_his t Mail.Absent some = absurd (omega arith)
is_his t (Mail.Begun o) some = absurd (omega arith)
is_his t Mail.Rest some = absurd (omega arith)
is_his t (Mail.Owed o) some = absurd (omega arith)
is_his t Mail.Boxed some = absurd (omega arith)
is_his t (Mail.Taken o) some = ap Mail.Taken (grind (arith, nat_tests))
is_his t (Mail.Leaving o) some = absurd (omega arith)
is_his t Mail.Left some = absurd (omega arith)
is_his t (Mail.Adopted o) some = absurd (omega arith)

pub fetched-his : (k : Key) (g : Shadow) (s : Core) (t e : ℕ) (ys : List ℕ) → g.fetched t ≡ e ∷ ys → MailGood k g s
    → g.mail e ≡ Mail.Taken t
fetched-his k g s t e ys is good =
    is_his t (g.mail e) (let o = good.fetched_once t e in let some = first-among e ys (g.fetched t) is in omega arith)

pub rested_keeps : (k : Key) (t e class : ℕ) (rest : Option ℕ) (task : Task) (ys : List ℕ) (g : Shadow) (s : Core)
    → s.tasks t ≡ Task.Fetching class (BoxAt.Join e rest JoinAt.Take) → g.fetched t ≡ e ∷ ys
    → TaskFits k (rested_shadow t e g) (rested_core t e task s) t task → ((x : ℕ) → IsMailing task x → ⊥)
    → MailGood k g s → MailGood k (rested_shadow t e g) (rested_core t e task s)
rested_keeps k t e class rest task ys g s is list task' no_duty good =
    let fetch = fits_at k g s t (Task.Fetching class (BoxAt.Join e rest JoinAt.Take)) is good in
    let taken = fetched-his k g s t e ys list good in
    let fits = subst (λ m. MailFits m (s.keeper e) (s.classes e) (s.publics e) (s.nexts e)) taken (good.words e) in
    let class_is = fetch.of e (first-among e ys (g.fetched t) list) in
    let h = rested_shadow t e g in
    let r = rested_core t e task s in
    let only : OnlyAt e g s h r = record {
      mail = put-other g.mail e Mail.Rest;
      nexts = λ x _. refl;
      keeper = λ x _. refl;
      classes = λ x _. refl;
    } in
    let tails = ap tail_of list in
    row_keeps k e g s h r good (record {
      only = only;
      publics = put-other s.publics e Public.Null;
      boxed = λ b. refl;
      boxes = λ b. refl;
      unboxed = ap is_boxed taken;
      unboxed' = ap is_boxed (put-same g.mail e Mail.Rest);
      fetched = λ o x. popped o x (good.fetched_once o x) (good.fetched_once t x) (good.fetched_once t e)
          (good.fetched_once o e) (ap (tally x) list) (ap (tally x) tails) (ap (is_taken t) taken) (ap (is_taken o) taken)
          (ap (tally e) list);
      fits = subst (λ m. MailFits m (s.keeper e) (s.classes e) (put s.publics e Public.Null e) (s.nexts e))
          (sym (put-same g.mail e Mail.Rest)) (
            subst (λ q. IsHome q (s.classes e) (s.nexts e)) (sym fits.0)
                (home_is fetch ∙ ap (λ c. Next.Mailbox (key_by t c)) (sym class_is)),
            put-same s.publics e Public.Null,
          );
      inside = good.places.inside e;
      kept = places_at k g s e good;
    })
    (seats_keep k t task g s h r good (record {
      others = λ o ne. rely_only e o g s h r only
          (apart_of g h o e (Mail.Taken t) good.fetched_once taken (λ z. cc) (λ z. cc) (taken-other t o ne)
          (λ z. let q : Mail.Rest ≡ Mail.Owed o = sym (put-same g.mail e Mail.Rest) ∙ z in cc))
          (put-other g.fetched t (tail_of (g.fetched t)) o ne) (put-other s.tasks t task o ne);
      stands = put-same s.tasks t task;
      task' = task';
      duty = λ x z. absurd (each (λ x q. q ≡ Mail.Owed t → ⊥) g.mail e Mail.Rest
          (λ x ne z. duty_at k g s t (Task.Fetching class (BoxAt.Join e rest JoinAt.Take)) is good x z) (λ z. cc) x z);
    }))
  where
    home_is : FetchFits k g s t class (BoxAt.Join e rest JoinAt.Take) → s.nexts e ≡ Next.Mailbox (key_by t class)
    home_is fetch = fetch.at'.3

    popped : (o x : ℕ) → tally x (g.fetched o) ≡ is_taken o (g.mail x) → tally x (g.fetched t) ≡ is_taken t (g.mail x)
        → tally e (g.fetched t) ≡ is_taken t (g.mail e) → tally e (g.fetched o) ≡ is_taken o (g.mail e)
        → tally x (g.fetched t) ≡ tally x (e ∷ ys) → tally x (tail_of (g.fetched t)) ≡ tally x ys
        → is_taken t (g.mail e) ≡ is_taken t (Mail.Taken t) → is_taken o (g.mail e) ≡ is_taken o (Mail.Taken t)
        → tally e (g.fetched t) ≡ tally e (e ∷ ys)
        → tally x (put g.fetched t (tail_of (g.fetched t)) o) ≡ is_taken o (put g.mail e Mail.Rest x)
    popped o x a b c d l t' m n p = grind (arith, nat_tests)

-- on to the next slab of the mailbox, or to the end
pub on_fits : (k : Key) (g : Shadow) (s : Core) (t class : ℕ) (rest : Option ℕ) → class < class_count → t < k.seats
    → AreOf class s.classes (g.fetched t) → IsChain (links_in s.nexts) (item_link rest) (g.fetched t) 0
    → TaskFits k g s t (fetch_on class rest)
on_fits k g s t class (Some e) low few of chain = record { class' = low; seat' = few; of = of; at' = chain }
on_fits k g s t class None low few of chain = none (g.fetched t) chain
  where
    none : (xs : List ℕ) → IsChain (links_in s.nexts) (Ends 0) xs 0 → xs ≡ []
    none [] chain = refl
    none (x ∷ xs) (first, chain) = absurd (cc)

-- O6
come-each : (P : ℕ → Mail → Type 0) (t : ℕ) (chain : List ℕ) (mail : ℕ → Mail)
    → ((x : ℕ) → 0 < tally x chain → P x (Mail.Adopted t)) → ((x : ℕ) → tally x chain ≤ 0 → P x (mail x)) → (x : ℕ)
    → P x (cond (ltb 0 (tally x chain)) (Mail.Adopted t) (mail x))
come-each P t chain mail here there x = less_or 0 (tally x chain)
    (λ some. subst (P x) (sym (inside some)) (here x some))
    (λ none. subst (P x) (sym (outside none)) (there x none))
  where
    inside : 0 < tally x chain → cond (ltb 0 (tally x chain)) (Mail.Adopted t) (mail x) ≡ Mail.Adopted t
    inside some = grind (arith, nat_tests)

    outside : tally x chain ≤ 0 → cond (ltb 0 (tally x chain)) (Mail.Adopted t) (mail x) ≡ mail x
    outside none = grind (arith, nat_tests)

abbrev pub come_core : ℕ → List ℕ → Core → Core
come_core t chain s = record s { keeper = chain_taken t chain s.keeper }

pub come_keeps : (k : Key) (t : ℕ) (chain : List ℕ) (g : Shadow) (s : Core)
    → ((e : ℕ) → 0 < tally e chain → g.mail e ≡ Mail.Left) → MailGood k g s
    → MailGood k (shadow_come t chain g) (come_core t chain s)
come_keeps k t chain g s left good =
    record {
      places = record {
        seats = good.places.seats;
        span = good.places.span;
        inside = λ x there. less_or 0 (tally x chain)
            (λ some. good.places.inside x (subst IsThere (sym (orphan x some)) tt))
            (λ none. good.places.inside x (subst IsThere (same x none) there));
        kept = λ x o by. less_or 0 (tally x chain)
            (λ some. absurd (let q : Keeper.Adopting t ≡ Keeper.By o = sym (now x some) ∙ by in cc))
            (λ none. good.places.kept x o (sym (same x none) ∙ by));
      };
      words = come-each (λ x m. MailFits m (chain_taken t chain s.keeper x) (s.classes x) (s.publics x) (s.nexts x)) t
          chain g.mail
          (λ x some. (
            subst (IsAdopter t) (sym (now x some)) refl,
            (subst (λ m. MailFits m (s.keeper x) (s.classes x) (s.publics x) (s.nexts x)) (left x some) (good.words x)).1,
          ))
          (λ x none. subst (λ q. MailFits (g.mail x) q (s.classes x) (s.publics x) (s.nexts x)) (sym (same x none))
          (good.words x));
      boxed_once = λ b. come-each
          (λ x m. tally x (g.boxed b) ≡ cond (eqb (box_of (chain_taken t chain s.keeper x) (s.classes x)) b) (is_boxed m) 0)
          t chain g.mail
          (λ x some. in_no_box g s x (ap is_boxed (left x some)) good.boxed_once b
          ∙ sym (let w : cond (eqb (box_of (chain_taken t chain s.keeper x) (s.classes x)) b) 0 0 ≡ 0 =
          grind (arith, nat_tests) in w))
          (λ x none. good.boxed_once b x
          ∙ ap (λ q. cond (eqb (box_of q (s.classes x)) b) (is_boxed (g.mail x)) 0) (sym (same x none)));
      fetched_once = λ o. come-each (λ x m. tally x (g.fetched o) ≡ is_taken o m) t chain g.mail
          (λ x some. good.fetched_once o x ∙ ap (is_taken o) (left x some)) (λ x none. good.fetched_once o x);
      box_chains = good.box_chains;
      tasks' = seats.tasks';
      duties = seats.duties;
    }
  where
    now : (x : ℕ) → 0 < tally x chain → chain_taken t chain s.keeper x ≡ Keeper.Adopting t
    now x some = grind (arith, nat_tests)

    same : (x : ℕ) → tally x chain ≤ 0 → chain_taken t chain s.keeper x ≡ s.keeper x
    same x none = grind (arith, nat_tests)

    orphan : (x : ℕ) → 0 < tally x chain → s.keeper x ≡ Keeper.Orphan
    orphan x some = (subst (λ m. MailFits m (s.keeper x) (s.classes x) (s.publics x) (s.nexts x)) (left x some)
        (good.words x)).0

    far : (x : ℕ) (m : Mail) → g.mail x ≡ m → m ≢ Mail.Left → tally x chain ≤ 0
    far x m is ne = less_or 0 (tally x chain) (λ some. absurd (ne (sym is ∙ left x some))) (λ none. none)

    mail_same : (x : ℕ) → tally x chain ≤ 0 → cond (ltb 0 (tally x chain)) (Mail.Adopted t) (g.mail x) ≡ g.mail x
    mail_same x none = grind (arith, nat_tests)

    seats : SeatsFit k (shadow_come t chain g) (come_core t chain s)
    seats = all_stay k g s (shadow_come t chain g) (come_core t chain s) good (λ o. record {
      owed = λ x z. let off = far x (Mail.Owed o) z (λ q. cc) in (mail_same x off ∙ z, refl, same x off, refl);
      begun = λ x z. let off = far x (Mail.Begun o) z (λ q. cc) in (mail_same x off ∙ z, refl);
      fetched = refl;
      mine = λ x some. (refl, refl);
      task = refl;
      no_more = λ x. come-each (λ x m. m ≡ Mail.Owed o → g.mail x ≡ Mail.Owed o) t chain g.mail
          (λ x some z. absurd (cc)) (λ x none z. z) x;
    })
