-- What each step leaves that changes one slab.
use Rattle.std.proofs.Common.{◌≡◌, ◌≢◌, ◌⊎◌, inl, inr, ℕ, ◌+◌, ◌^◌, ◌<◌, ◌≤◌, cond, eqb, Option, Some, None, List, [], ◌∷◌}
use Rattle.std.proofs.Common.{refl, sym, ap, subst, arith, ◌∙◌}
use Rattle.std.proofs.lemmas.Bool.Decides.{nat_tests}
use Rattle.pool_types.specs.Geometry.{class_count}
use Rattle.pool_words.specs.declared.words.Key.{Key}
use Rattle.word_codes.specs.declared.nexts.MailKey.{MailKey}
use Rattle.word_codes.specs.declared.nexts.Next.{Next}
use Rattle.word_codes.specs.declared.publics.Public.{Public}
use Rattle.word_codes.specs.Links.{link_of}
use Rattle.public_list.specs.declared.joining.JoinAt.{JoinAt}
use Rattle.chain_words.specs.declared.pushing.PushAt.{PushAt}
use Rattle.mailbox.specs.declared.mailing.MailAt.{MailAt}
use Rattle.mailbox.specs.declared.boxes.BoxAt.{BoxAt}
use Rattle.word_laws.specs.Memory.{put}
use Rattle.word_laws.proofs.CallerLemmas.{equal_or, less_or}
use Rattle.chain_laws.specs.Chains.{Link, IsChain, tally}
use Rattle.chain_laws.specs.Chains.Link.{To, Ends}
use Rattle.chain_laws.proofs.CallerLemmas.{leads-same, tally-here, tally-else}
use Rattle.slab_laws.specs.Books.{Keeper, IsThere}
use Rattle.slab_laws.proofs.CallerLemmas.{put-same, put-other, each, both}
use Rattle.mail_laws.specs.Mail.{Mail, Task, Shadow, Core, item_link, next_link, links_in, key_by, box_of, IsHome, IsKept}
use Rattle.mail_laws.specs.Mail.{IsAdopter, IsFilled, IsNotNull, MailFits, is_boxed, is_taken, BoxedOnce, FetchedOnce}
use Rattle.mail_laws.specs.Mail.{BoxChains, PlacesFit, AreOf, FetchesAt, FetchFits, BeginFits, TaskFits, IsMailing}
use Rattle.mail_laws.specs.Mail.{MailGood}
use Rattle.mail_laws.specs.Steps.{with_mail, tail_of}
use Rattle.mail_laws.proofs.Seats.{Rely, OnlyAt, Apart, rely_only, task-stays, SeatsFit, TurnFits, seats_keep, all_stay}
use Rattle.mail_laws.proofs.Seats.{fits_at, duty_at, rest-among, first-among}

-- a slab that is in no mailbox is changed
pub record SlabRow (k : Key) (e : ℕ) (g : Shadow) (s : Core) (h : Shadow) (r : Core) : Type 0 where
  pub only : OnlyAt e g s h r
  pub publics : (x : ℕ) → x ≢ e → r.publics x ≡ s.publics x
  pub boxed : (b : ℕ) → h.boxed b ≡ g.boxed b
  pub boxes : (b : ℕ) → r.boxes b ≡ s.boxes b
  pub unboxed : is_boxed (g.mail e) ≡ 0
  pub unboxed' : is_boxed (h.mail e) ≡ 0
  pub fetched : FetchedOnce h.mail h.fetched
  pub fits : MailFits (h.mail e) (r.keeper e) (r.classes e) (r.publics e) (r.nexts e)
  pub inside : IsThere (r.keeper e) → e < k.span
  pub kept : (seat : ℕ) → r.keeper e ≡ Keeper.By seat → (r.classes e < class_count) × (seat < k.seats)

pub in_no_box : (g : Shadow) (s : Core) (e : ℕ) → is_boxed (g.mail e) ≡ 0
    → BoxedOnce g.mail s.keeper s.classes g.boxed → (b : ℕ) → tally e (g.boxed b) ≡ 0
in_no_box g s e zero once b = let o = once b e in grind (arith, nat_tests)

pub row_keeps : (k : Key) (e : ℕ) (g : Shadow) (s : Core) (h : Shadow) (r : Core) → MailGood k g s
    → SlabRow k e g s h r → SeatsFit k h r → MailGood k h r
row_keeps k e g s h r good row seats = record {
  places = record {
    seats = good.places.seats;
    span = good.places.span;
    inside = λ x there. equal_or x e
        (λ same. subst (λ y. y < k.span) (sym same) (row.inside (subst (λ y. IsThere (r.keeper y)) same there)))
        (λ ne. good.places.inside x (subst IsThere (row.only.keeper x ne) there));
    kept = λ x seat by. equal_or x e
        (λ same. subst (λ y. (r.classes y < class_count) × (seat < k.seats)) (sym same)
        (row.kept seat (subst (λ y. r.keeper y ≡ Keeper.By seat) same by)))
        (λ ne. subst (λ c. (c < class_count) × (seat < k.seats)) (sym (row.only.classes x ne))
        (good.places.kept x seat (sym (row.only.keeper x ne) ∙ by)));
  };
  words = λ x. equal_or x e
      (λ same. subst (λ y. MailFits (h.mail y) (r.keeper y) (r.classes y) (r.publics y) (r.nexts y)) (sym same) row.fits)
      (λ ne. same_fits x ne);
  boxed_once = λ b x. ap (tally x) (row.boxed b) ∙ equal_or x e
      (λ same. subst (λ y. tally y (g.boxed b) ≡ cond (eqb (box_of (r.keeper y) (r.classes y)) b) (is_boxed (h.mail y)) 0)
      (sym same) (in_no_box g s e row.unboxed good.boxed_once b ∙ sym (none b)))
      (λ ne. good.boxed_once b x ∙ sym (ap (λ q. cond (eqb (box_of q (r.classes x)) b) (is_boxed (h.mail x)) 0)
      (row.only.keeper x ne)
      ∙ ap (λ c. cond (eqb (box_of (s.keeper x) c) b) (is_boxed (h.mail x)) 0) (row.only.classes x ne)
      ∙ ap (λ q. cond (eqb (box_of (s.keeper x) (s.classes x)) b) (is_boxed q) 0) (row.only.mail x ne)));
  fetched_once = row.fetched;
  box_chains = λ b. subst (λ o. IsChain (links_in r.nexts) (item_link o) (h.boxed b) 0) (sym (row.boxes b))
      (subst (λ xs. IsChain (links_in r.nexts) (item_link (s.boxes b)) xs 0) (sym (row.boxed b))
      (leads-same (links_in s.nexts) (links_in r.nexts) (item_link (s.boxes b)) (g.boxed b) (Ends 0)
      (λ x some. ap next_link (row.only.nexts x (λ same. let z = in_no_box g s e row.unboxed good.boxed_once b in
      let q = ap (λ y. tally y (g.boxed b)) same in omega arith))) (good.box_chains b)));
  tasks' = seats.tasks';
  duties = seats.duties;
}
  where
    none : (b : ℕ) → cond (eqb (box_of (r.keeper e) (r.classes e)) b) (is_boxed (h.mail e)) 0 ≡ 0
    none b = let z = row.unboxed' in grind (arith, nat_tests)

    same_fits : (x : ℕ) → x ≢ e → MailFits (h.mail x) (r.keeper x) (r.classes x) (r.publics x) (r.nexts x)
    same_fits x ne = subst (λ m. MailFits m (r.keeper x) (r.classes x) (r.publics x) (r.nexts x))
        (sym (row.only.mail x ne))
        (subst (λ q. MailFits (g.mail x) q (r.classes x) (r.publics x) (r.nexts x)) (sym (row.only.keeper x ne))
        (subst (λ c. MailFits (g.mail x) (s.keeper x) c (r.publics x) (r.nexts x)) (sym (row.only.classes x ne))
        (subst (λ p. MailFits (g.mail x) (s.keeper x) (s.classes x) p (r.nexts x)) (sym (row.publics x ne))
        (subst (MailFits (g.mail x) (s.keeper x) (s.classes x) (s.publics x)) (sym (row.only.nexts x ne))
        (good.words x)))))

-- what a slab's mail says
pub null_is_rest : (m : Mail) (q : Keeper) (c : ℕ) (p : Public) (n : Next) → MailFits m q c p n → p ≡ Public.Null
    → IsThere q → m ≡ Mail.Rest
null_is_rest Mail.Absent q c p n fits null there = absurd (fits.0 there)
null_is_rest (Mail.Begun t) q c p n fits null there = absurd (fits.0 there)
null_is_rest Mail.Rest q c p n fits null there = refl
null_is_rest (Mail.Owed t) q c p n fits null there = absurd (subst IsFilled null fits.1)
null_is_rest Mail.Boxed q c p n fits null there = absurd (subst IsFilled null fits.1)
null_is_rest (Mail.Taken t) q c p n fits null there = absurd (subst IsFilled null fits.1)
null_is_rest (Mail.Leaving t) q c p n fits null there = absurd (subst IsNotNull null fits.1)
null_is_rest Mail.Left q c p n fits null there = absurd (subst IsNotNull null fits.1)
null_is_rest (Mail.Adopted t) q c p n fits null there = absurd (subst IsNotNull null fits.1)

pub filled_stays : (m : Mail) (q : Keeper) (c : ℕ) (p now : Public) (n : Next) → MailFits m q c p n → IsNotNull p
    → IsFilled now → MailFits m q c now n
filled_stays Mail.Absent q c p now n fits some filled = absurd (subst IsNotNull fits.1 some)
filled_stays (Mail.Begun t) q c p now n fits some filled = absurd (subst IsNotNull fits.1 some)
filled_stays Mail.Rest q c p now n fits some filled = absurd (subst IsNotNull fits.1 some)
filled_stays (Mail.Owed t) q c p now n fits some filled = (fits.0, filled)
filled_stays Mail.Boxed q c p now n fits some filled = (fits.0, filled)
filled_stays (Mail.Taken t) q c p now n fits some filled = (fits.0, filled)
filled_stays (Mail.Leaving t) q c p now n fits some filled = (fits.0, filled-not-null now filled)
  where
    filled-not-null : (p : Public) → IsFilled p → IsNotNull p
    filled-not-null Public.Null f = f
    filled-not-null Public.Unusable f = absurd f
    filled-not-null (Public.Filled u) f = tt
filled_stays Mail.Left q c p now n fits some filled = (fits.0, filled-not-null now filled)
  where
    filled-not-null : (p : Public) → IsFilled p → IsNotNull p
    filled-not-null Public.Null f = f
    filled-not-null Public.Unusable f = absurd f
    filled-not-null (Public.Filled u) f = tt
filled_stays (Mail.Adopted t) q c p now n fits some filled = (fits.0, filled-not-null now filled)
  where
    filled-not-null : (p : Public) → IsFilled p → IsNotNull p
    filled-not-null Public.Null f = f
    filled-not-null Public.Unusable f = absurd f
    filled-not-null (Public.Filled u) f = tt

pub there-kept : (q : Keeper) → IsKept q → IsThere q
there-kept Keeper.Nobody is = is
there-kept (Keeper.By t) is = tt
there-kept Keeper.Orphan is = absurd is
there-kept (Keeper.Adopting t) is = absurd is
there-kept (Keeper.Cached t) is = absurd is

pub home-kept : (q : Keeper) (c : ℕ) (n : Next) → IsHome q c n → IsKept q
home-kept Keeper.Nobody c n is = is
home-kept (Keeper.By t) c n is = tt
home-kept Keeper.Orphan c n is = is
home-kept (Keeper.Adopting t) c n is = is
home-kept (Keeper.Cached t) c n is = is

-- lists of what was fetched stay where no slab comes to a seat or leaves it
pub fetched-same : (g h : Shadow) (e : ℕ) → ((x : ℕ) → x ≢ e → h.mail x ≡ g.mail x) → h.fetched ≡ g.fetched
    → ((o : ℕ) → is_taken o (h.mail e) ≡ is_taken o (g.mail e)) → FetchedOnce g.mail g.fetched
    → FetchedOnce h.mail h.fetched
fetched-same g h e mail same here once o x = ap (λ (f : ℕ → List ℕ). tally x (f o)) same ∙ once o x ∙ equal_or x e
    (λ is. ap (λ y. is_taken o (g.mail y)) is ∙ sym (here o) ∙ ap (λ y. is_taken o (h.mail y)) (sym is))
    (λ ne. ap (is_taken o) (sym (mail x ne)))

-- which seats have nothing to do with a slab
pub apart_of : (g h : Shadow) (o e : ℕ) (m : Mail) → FetchedOnce g.mail g.fetched → g.mail e ≡ m → m ≢ Mail.Owed o
    → m ≢ Mail.Begun o → is_taken o m ≡ 0 → h.mail e ≢ Mail.Owed o → Apart o e g h
apart_of g h o e m once is owed begun taken now = record {
  owed = λ z. owed (sym is ∙ z);
  begun = λ z. begun (sym is ∙ z);
  fetched = once o e ∙ ap (is_taken o) is ∙ taken;
  now = now;
}

pub taken-other : (t o : ℕ) → o ≢ t → is_taken o (Mail.Taken t) ≡ 0
taken-other t o ne = grind (arith, nat_tests)

-- what is kept where one slab's mail, keeper, class, public word or next word are others
pub places_at : (k : Key) (g : Shadow) (s : Core) (e : ℕ) → MailGood k g s
    → (seat : ℕ) → s.keeper e ≡ Keeper.By seat → (s.classes e < class_count) × (seat < k.seats)
places_at k g s e good seat by = good.places.kept e seat by

-- P3
abbrev pub owed_core : ℕ → ℕ → Public → Core → Core
owed_core t e public s = record s {
  publics = put s.publics e public;
  tasks = put s.tasks t (Task.Mailing e MailAt.Next);
}

pub owed_keeps : (k : Key) (t e : ℕ) (public : Public) (g : Shadow) (s : Core) → s.tasks t ≡ Task.Away
    → s.publics e ≡ Public.Null → IsThere (s.keeper e) → IsFilled public → MailGood k g s
    → MailGood k (with_mail e (Mail.Owed t) g) (owed_core t e public s)
owed_keeps k t e public g s is null there filled good =
    let rest = null_is_rest (g.mail e) (s.keeper e) (s.classes e) (s.publics e) (s.nexts e) (good.words e) null there in
    let fits = subst (λ m. MailFits m (s.keeper e) (s.classes e) (s.publics e) (s.nexts e)) rest (good.words e) in
    let h = with_mail e (Mail.Owed t) g in
    let r = owed_core t e public s in
    let task = Task.Mailing e MailAt.Next in
    let only : OnlyAt e g s h r = record {
      mail = put-other g.mail e (Mail.Owed t);
      nexts = λ x _. refl;
      keeper = λ x _. refl;
      classes = λ x _. refl;
    } in
    row_keeps k e g s h r good (record {
      only = only;
      publics = put-other s.publics e public;
      boxed = λ b. refl;
      boxes = λ b. refl;
      unboxed = ap is_boxed rest;
      unboxed' = ap is_boxed (put-same g.mail e (Mail.Owed t));
      fetched = fetched-same g h e (put-other g.mail e (Mail.Owed t)) refl
          (λ o. ap (is_taken o) (put-same g.mail e (Mail.Owed t)) ∙ sym (ap (is_taken o) rest)) good.fetched_once;
      fits = subst (λ m. MailFits m (s.keeper e) (s.classes e) (put s.publics e public e) (s.nexts e))
          (sym (put-same g.mail e (Mail.Owed t))) (
            home-kept (s.keeper e) (s.classes e) (s.nexts e) fits.0,
            subst IsFilled (sym (put-same s.publics e public)) filled,
          );
      inside = good.places.inside e;
      kept = places_at k g s e good;
    })
    (seats_keep k t task g s h r good (record {
      others = λ o ne. rely_only e o g s h r only
          (apart_of g h o e Mail.Rest good.fetched_once rest (λ z. cc) (λ z. cc) refl
          (λ z. ne (let q : Mail.Owed t ≡ Mail.Owed o = sym (put-same g.mail e (Mail.Owed t)) ∙ z in
          let same : t ≡ o = cc in sym same))) refl (put-other s.tasks t task o ne);
      stands = put-same s.tasks t task;
      task' = (put-same g.mail e (Mail.Owed t), fits_at k g s t Task.Away is good, fits.0);
      duty = each (λ x q. q ≡ Mail.Owed t → x ≡ e) g.mail e (Mail.Owed t)
          (λ x ne z. absurd (duty_at k g s t Task.Away is good x z)) (λ _. refl);
    }))

-- a word of a slab changes, no mail and no task
abbrev pub public_core : ℕ → Public → Core → Core
public_core e public s = record s { publics = put s.publics e public }

pub public_keeps : (k : Key) (e : ℕ) (public : Public) (g : Shadow) (s : Core)
    → MailFits (g.mail e) (s.keeper e) (s.classes e) public (s.nexts e) → MailGood k g s
    → MailGood k g (public_core e public s)
public_keeps k e public g s fits good =
    let r = public_core e public s in
    let seats = all_stay k g s g r good (λ o. record {
      owed = λ x z. (z, refl, refl, refl);
      begun = λ x z. (z, refl);
      fetched = refl;
      mine = λ x some. (refl, refl);
      task = refl;
      no_more = λ x z. z;
    }) in
    record {
      places = good.places;
      words = each (λ x p. MailFits (g.mail x) (s.keeper x) (s.classes x) p (s.nexts x)) s.publics e public
          (λ x _. good.words x) fits;
      boxed_once = good.boxed_once;
      fetched_once = good.fetched_once;
      box_chains = good.box_chains;
      tasks' = seats.tasks';
      duties = seats.duties;
    }

-- a task changes, and nothing else
pub stand_keeps : (k : Key) (t : ℕ) (task : Task) (g : Shadow) (s : Core) → MailGood k g s
    → TaskFits k g (record s { tasks = put s.tasks t task }) t task
    → ((e : ℕ) → g.mail e ≡ Mail.Owed t → IsMailing task e) → MailGood k g (record s { tasks = put s.tasks t task })
stand_keeps k t task g s good fits duty =
    let r = record s { tasks = put s.tasks t task } in
    let seats = seats_keep k t task g s g r good (record {
      others = λ o ne. record {
        owed = λ x z. (z, refl, refl, refl);
        begun = λ x z. (z, refl);
        fetched = refl;
        mine = λ x some. (refl, refl);
        task = put-other s.tasks t task o ne;
        no_more = λ x z. z;
      };
      stands = put-same s.tasks t task;
      task' = fits;
      duty = duty;
    }) in
    record {
      places = good.places;
      words = good.words;
      boxed_once = good.boxed_once;
      fetched_once = good.fetched_once;
      box_chains = good.box_chains;
      tasks' = seats.tasks';
      duties = seats.duties;
    }

-- the next word of a slab that is in no mailbox, and a task
abbrev pub next_core : ℕ → ℕ → Next → Task → Core → Core
next_core t e next task s = record s { nexts = put s.nexts e next; tasks = put s.tasks t task }

pub next_keeps : (k : Key) (t e : ℕ) (next : Next) (task : Task) (g : Shadow) (s : Core) → is_boxed (g.mail e) ≡ 0
    → MailFits (g.mail e) (s.keeper e) (s.classes e) (s.publics e) next
    → ((o : ℕ) → o ≢ t → Apart o e g g) → TaskFits k g (next_core t e next task s) t task
    → ((x : ℕ) → g.mail x ≡ Mail.Owed t → IsMailing task x) → MailGood k g s
    → MailGood k g (next_core t e next task s)
next_keeps k t e next task g s unboxed fits apart task' duty good =
    let r = next_core t e next task s in
    let only : OnlyAt e g s g r = record {
      mail = λ x _. refl;
      nexts = put-other s.nexts e next;
      keeper = λ x _. refl;
      classes = λ x _. refl;
    } in
    row_keeps k e g s g r good (record {
      only = only;
      publics = λ x _. refl;
      boxed = λ b. refl;
      boxes = λ b. refl;
      unboxed = unboxed;
      unboxed' = unboxed;
      fetched = good.fetched_once;
      fits = subst (MailFits (g.mail e) (s.keeper e) (s.classes e) (s.publics e)) (sym (put-same s.nexts e next)) fits;
      inside = good.places.inside e;
      kept = places_at k g s e good;
    })
    (seats_keep k t task g s g r good (record {
      others = λ o ne. rely_only e o g s g r only (apart o ne) refl (put-other s.tasks t task o ne);
      stands = put-same s.tasks t task;
      task' = task';
      duty = duty;
    }))

-- the next word of a slab that no seat has to do with as mail
abbrev pub link_core : ℕ → Next → Core → Core
link_core e next s = record s { nexts = put s.nexts e next }

pub link_keeps : (k : Key) (e : ℕ) (next : Next) (g : Shadow) (s : Core) → is_boxed (g.mail e) ≡ 0
    → MailFits (g.mail e) (s.keeper e) (s.classes e) (s.publics e) next → ((o : ℕ) → Apart o e g g) → MailGood k g s
    → MailGood k g (link_core e next s)
link_keeps k e next g s unboxed fits apart good =
    let r = link_core e next s in
    let only : OnlyAt e g s g r = record {
      mail = λ x _. refl;
      nexts = put-other s.nexts e next;
      keeper = λ x _. refl;
      classes = λ x _. refl;
    } in
    row_keeps k e g s g r good (record {
      only = only;
      publics = λ x _. refl;
      boxed = λ b. refl;
      boxes = λ b. refl;
      unboxed = unboxed;
      unboxed' = unboxed;
      fetched = good.fetched_once;
      fits = subst (MailFits (g.mail e) (s.keeper e) (s.classes e) (s.publics e)) (sym (put-same s.nexts e next)) fits;
      inside = good.places.inside e;
      kept = places_at k g s e good;
    })
    (all_stay k g s g r good (λ o. rely_only e o g s g r only (apart o) refl refl))

-- the mail, keeper and public word of a slab that no seat has to do with as mail
abbrev pub keeper_core : ℕ → Keeper → Public → Core → Core
keeper_core e keeper public s = record s { keeper = put s.keeper e keeper; publics = put s.publics e public }

pub keeper_keeps : (k : Key) (e : ℕ) (mail : Mail) (keeper : Keeper) (public : Public) (g : Shadow) (s : Core)
    → is_boxed (g.mail e) ≡ 0 → is_boxed mail ≡ 0 → ((o : ℕ) → is_taken o mail ≡ 0) → ((o : ℕ) → Apart o e g g)
    → ((o : ℕ) → mail ≢ Mail.Owed o) → MailFits mail keeper (s.classes e) public (s.nexts e)
    → (IsThere keeper → e < k.span)
    → ((seat : ℕ) → keeper ≡ Keeper.By seat → (s.classes e < class_count) × (seat < k.seats)) → MailGood k g s
    → MailGood k (with_mail e mail g) (keeper_core e keeper public s)
keeper_keeps k e mail keeper public g s unboxed unboxed' none apart now fits inside kept good =
    let h = with_mail e mail g in
    let r = keeper_core e keeper public s in
    let only : OnlyAt e g s h r = record {
      mail = put-other g.mail e mail;
      nexts = λ x _. refl;
      keeper = put-other s.keeper e keeper;
      classes = λ x _. refl;
    } in
    row_keeps k e g s h r good (record {
      only = only;
      publics = put-other s.publics e public;
      boxed = λ b. refl;
      boxes = λ b. refl;
      unboxed = unboxed;
      unboxed' = ap is_boxed (put-same g.mail e mail) ∙ unboxed';
      fetched = fetched-same g h e (put-other g.mail e mail) refl
          (λ o. ap (is_taken o) (put-same g.mail e mail) ∙ none o ∙ sym (sym (good.fetched_once o e) ∙ (apart o).fetched))
          good.fetched_once;
      fits = subst (λ m. MailFits m (put s.keeper e keeper e) (s.classes e) (put s.publics e public e) (s.nexts e))
          (sym (put-same g.mail e mail))
          (subst (λ q. MailFits mail q (s.classes e) (put s.publics e public e) (s.nexts e))
          (sym (put-same s.keeper e keeper))
          (subst (λ p. MailFits mail keeper (s.classes e) p (s.nexts e)) (sym (put-same s.publics e public)) fits));
      inside = λ there. inside (subst IsThere (put-same s.keeper e keeper) there);
      kept = λ seat by. kept seat (sym (put-same s.keeper e keeper) ∙ by);
    })
    (all_stay k g s h r good (λ o. rely_only e o g s h r only (record {
      owed = (apart o).owed;
      begun = (apart o).begun;
      fetched = (apart o).fetched;
      now = λ z. now o (sym (put-same g.mail e mail) ∙ z);
    }) refl refl))

-- a slab that is to begin
pub begun_keeps : (k : Key) (t e class : ℕ) (g : Shadow) (s : Core) → s.tasks t ≡ Task.Away
    → g.mail e ≡ Mail.Absent → class < class_count → t < k.seats → e < k.span → MailGood k g s
    → MailGood k (with_mail e (Mail.Begun t) g) (record s { tasks = put s.tasks t (Task.Beginning e class) })
begun_keeps k t e class g s is absent low few inside good =
    let h = with_mail e (Mail.Begun t) g in
    let task = Task.Beginning e class in
    let r = record s { tasks = put s.tasks t task } in
    let fits = subst (λ m. MailFits m (s.keeper e) (s.classes e) (s.publics e) (s.nexts e)) absent (good.words e) in
    let only : OnlyAt e g s h r = record {
      mail = put-other g.mail e (Mail.Begun t);
      nexts = λ x _. refl;
      keeper = λ x _. refl;
      classes = λ x _. refl;
    } in
    row_keeps k e g s h r good (record {
      only = only;
      publics = λ x _. refl;
      boxed = λ b. refl;
      boxes = λ b. refl;
      unboxed = ap is_boxed absent;
      unboxed' = ap is_boxed (put-same g.mail e (Mail.Begun t));
      fetched = fetched-same g h e (put-other g.mail e (Mail.Begun t)) refl
          (λ o. ap (is_taken o) (put-same g.mail e (Mail.Begun t)) ∙ sym (ap (is_taken o) absent)) good.fetched_once;
      fits = subst (λ m. MailFits m (s.keeper e) (s.classes e) (s.publics e) (s.nexts e))
          (sym (put-same g.mail e (Mail.Begun t))) fits;
      inside = good.places.inside e;
      kept = places_at k g s e good;
    })
    (seats_keep k t task g s h r good (record {
      others = λ o ne. rely_only e o g s h r only
          (apart_of g h o e Mail.Absent good.fetched_once absent (λ z. cc) (λ z. cc) refl
          (λ z. let q : Mail.Begun t ≡ Mail.Owed o = sym (put-same g.mail e (Mail.Begun t)) ∙ z in cc)) refl
          (put-other s.tasks t task o ne);
      stands = put-same s.tasks t task;
      task' = record {
        begun = put-same g.mail e (Mail.Begun t);
        class' = low;
        seat' = few;
        inside = inside;
        none = fits_at k g s t Task.Away is good;
      };
      duty = λ x z. absurd (each (λ x q. q ≡ Mail.Owed t → ⊥) g.mail e (Mail.Begun t)
          (λ x ne z. duty_at k g s t Task.Away is good x z) (λ z. cc) x z);
    }))

-- a slab begins
abbrev pub began_core : ℕ → ℕ → ℕ → Core → Core
began_core t e class s = record s {
  keeper = put s.keeper e (Keeper.By t);
  classes = put s.classes e class;
  tasks = put s.tasks t Task.Away;
}

pub began_keeps : (k : Key) (t e class : ℕ) (g : Shadow) (s : Core) → s.tasks t ≡ Task.Settled e class
    → MailGood k g s → MailGood k (with_mail e Mail.Rest g) (began_core t e class s)
began_keeps k t e class g s is good =
    let task = fits_at k g s t (Task.Settled e class) is good in
    let begun = task.0.begun in
    let fits = subst (λ m. MailFits m (s.keeper e) (s.classes e) (s.publics e) (s.nexts e)) begun (good.words e) in
    let h = with_mail e Mail.Rest g in
    let r = began_core t e class s in
    let only : OnlyAt e g s h r = record {
      mail = put-other g.mail e Mail.Rest;
      nexts = λ x _. refl;
      keeper = put-other s.keeper e (Keeper.By t);
      classes = put-other s.classes e class;
    } in
    let by = put-same s.keeper e (Keeper.By t) in
    row_keeps k e g s h r good (record {
      only = only;
      publics = λ x _. refl;
      boxed = λ b. refl;
      boxes = λ b. refl;
      unboxed = ap is_boxed begun;
      unboxed' = ap is_boxed (put-same g.mail e Mail.Rest);
      fetched = fetched-same g h e (put-other g.mail e Mail.Rest) refl
          (λ o. ap (is_taken o) (put-same g.mail e Mail.Rest) ∙ sym (ap (is_taken o) begun)) good.fetched_once;
      fits = subst (λ m. MailFits m (put s.keeper e (Keeper.By t) e) (put s.classes e class e) (s.publics e) (s.nexts e))
          (sym (put-same g.mail e Mail.Rest)) (
            subst (λ q. IsHome q (put s.classes e class e) (s.nexts e)) (sym by)
                (task.1 ∙ ap (λ c. Next.Mailbox (key_by t c)) (sym (put-same s.classes e class))),
            fits.1,
          );
      inside = λ _. task.0.inside;
      kept = λ seat z. (
        subst (λ c. c < class_count) (sym (put-same s.classes e class)) task.0.class',
        (let q : Keeper.By t ≡ Keeper.By seat = sym by ∙ z in let same : t ≡ seat = cc in
            subst (λ x. x < k.seats) same task.0.seat'),
      );
    })
    (seats_keep k t Task.Away g s h r good (record {
      others = λ o ne. rely_only e o g s h r only
          (apart_of g h o e (Mail.Begun t) good.fetched_once begun (λ z. cc)
          (λ z. ne (let same : t ≡ o = cc in sym same)) refl
          (λ z. let q : Mail.Rest ≡ Mail.Owed o = sym (put-same g.mail e Mail.Rest) ∙ z in cc)) refl
          (put-other s.tasks t Task.Away o ne);
      stands = put-same s.tasks t Task.Away;
      task' = task.0.none;
      duty = λ x z. each (λ x q. q ≡ Mail.Owed t → ⊥) g.mail e Mail.Rest
          (λ x ne z. duty_at k g s t (Task.Settled e class) is good x z) (λ z. cc) x z;
    }))
