-- What a seat relies on stays while another steps.
use Rattle.std.proofs.Common.{◌≡◌, ◌≢◌, ◌⊎◌, inl, inr, ℕ, ◌+◌, ◌^◌, ◌<◌, ◌≤◌, cond, eqb, Option, Some, None, List, [], ◌∷◌}
use Rattle.std.proofs.Common.{refl, sym, ap, subst, arith, ◌∙◌}
use Rattle.std.proofs.lemmas.Bool.Decides.{nat_tests}
use Rattle.pool_words.specs.declared.words.Key.{Key}
use Rattle.word_codes.specs.declared.nexts.MailKey.{MailKey}
use Rattle.word_codes.specs.declared.nexts.Next.{Next}
use Rattle.word_codes.specs.Links.{link_of}
use Rattle.public_list.specs.declared.joining.JoinAt.{JoinAt}
use Rattle.chain_words.specs.declared.pushing.PushAt.{PushAt}
use Rattle.mailbox.specs.declared.mailing.MailAt.{MailAt}
use Rattle.mailbox.specs.declared.boxes.BoxAt.{BoxAt}
use Rattle.word_laws.proofs.CallerLemmas.{equal_or}
use Rattle.chain_laws.specs.Chains.{Link, IsChain, tally}
use Rattle.chain_laws.specs.Chains.Link.{To, Ends}
use Rattle.chain_laws.proofs.CallerLemmas.{leads-same, tally-here, tally-more}
use Rattle.slab_laws.specs.Books.{Keeper}
use Rattle.mail_laws.specs.Mail.{Mail, Task, Shadow, Core, item_link, next_link, links_in, key_by, IsHome, IsKey, AreOf}
use Rattle.mail_laws.specs.Mail.{MailsAt, FetchesAt, FetchFits, BeginFits, TaskFits, IsMailing, DutiesFit, MailGood}

-- what a seat may rely on
pub record Rely (seat : ℕ) (g : Shadow) (s : Core) (h : Shadow) (r : Core) : Type 0 where
  pub owed : (e : ℕ) → g.mail e ≡ Mail.Owed seat → (h.mail e ≡ Mail.Owed seat) × (r.nexts e ≡ s.nexts e)
      × (r.keeper e ≡ s.keeper e) × (r.classes e ≡ s.classes e)
  pub begun : (e : ℕ) → g.mail e ≡ Mail.Begun seat → (h.mail e ≡ Mail.Begun seat) × (r.nexts e ≡ s.nexts e)
  pub fetched : h.fetched seat ≡ g.fetched seat
  pub mine : (e : ℕ) → 0 < tally e (g.fetched seat) → (r.nexts e ≡ s.nexts e) × (r.classes e ≡ s.classes e)
  pub task : r.tasks seat ≡ s.tasks seat
  pub no_more : (e : ℕ) → h.mail e ≡ Mail.Owed seat → g.mail e ≡ Mail.Owed seat

-- of one slab alone
pub record OnlyAt (e : ℕ) (g : Shadow) (s : Core) (h : Shadow) (r : Core) : Type 0 where
  pub mail : (x : ℕ) → x ≢ e → h.mail x ≡ g.mail x
  pub nexts : (x : ℕ) → x ≢ e → r.nexts x ≡ s.nexts x
  pub keeper : (x : ℕ) → x ≢ e → r.keeper x ≡ s.keeper x
  pub classes : (x : ℕ) → x ≢ e → r.classes x ≡ s.classes x

-- a slab with which a seat has nothing to do
pub record Apart (seat e : ℕ) (g : Shadow) (h : Shadow) : Type 0 where
  pub owed : g.mail e ≢ Mail.Owed seat
  pub begun : g.mail e ≢ Mail.Begun seat
  pub fetched : tally e (g.fetched seat) ≡ 0
  pub now : h.mail e ≢ Mail.Owed seat

pub rely_only : (e o : ℕ) (g : Shadow) (s : Core) (h : Shadow) (r : Core) → OnlyAt e g s h r → Apart o e g h
    → h.fetched o ≡ g.fetched o → r.tasks o ≡ s.tasks o → Rely o g s h r
rely_only e o g s h r only apart fetched task = record {
  owed = λ x is. let away : x ≢ e = (λ z. apart.owed (ap g.mail (sym z) ∙ is)) in
      (only.mail x away ∙ is, only.nexts x away, only.keeper x away, only.classes x away);
  begun = λ x is. let away : x ≢ e = (λ z. apart.begun (ap g.mail (sym z) ∙ is)) in
      (only.mail x away ∙ is, only.nexts x away);
  fetched = fetched;
  mine = λ x some. let away : x ≢ e = (λ z. let n = apart.fetched in
      let q = ap (λ y. tally y (g.fetched o)) z in omega arith) in (only.nexts x away, only.classes x away);
  task = task;
  no_more = λ x is. equal_or x e (λ same. absurd (apart.now (ap h.mail (sym same) ∙ is)))
      (λ away. sym (only.mail x away) ∙ is);
}

home-same : (q now : Keeper) (c d : ℕ) (n m : Next) → now ≡ q → d ≡ c → m ≡ n → IsHome q c n → IsHome now d m
home-same q now c d n m e f i home =
    subst (λ x. IsHome x d m) (sym e) (subst (λ x. IsHome q x m) (sym f) (subst (IsHome q c) (sym i) home))

key-same : (key : MailKey) (q now : Keeper) (c d : ℕ) → now ≡ q → d ≡ c → IsKey key q c → IsKey key now d
key-same key q now c d e f is = subst (λ x. IsKey key x d) (sym e) (subst (IsKey key q) (sym f) is)

mails-stay : (s r : Core) (e : ℕ) (at : MailAt) → r.nexts e ≡ s.nexts e → r.keeper e ≡ s.keeper e
    → r.classes e ≡ s.classes e → MailsAt s e at → MailsAt r e at
mails-stay s r e MailAt.Next n q c fits = home-same (s.keeper e) (r.keeper e) (s.classes e) (r.classes e) (s.nexts e)
    (r.nexts e) q c n fits
mails-stay s r e (MailAt.Push key PushAt.Look) n q c fits =
    key-same key (s.keeper e) (r.keeper e) (s.classes e) (r.classes e) q c fits
mails-stay s r e (MailAt.Push key (PushAt.Link found)) n q c (is, fits) =
    (key-same key (s.keeper e) (r.keeper e) (s.classes e) (r.classes e) q c is, fits)
mails-stay s r e (MailAt.Push key (PushAt.Exchange found)) n q c (is, linked) =
    (key-same key (s.keeper e) (r.keeper e) (s.classes e) (r.classes e) q c is, n ∙ linked)

pub chain-stays : (s r : Core) (head : Link) (xs ys : List ℕ) → ((x : ℕ) → 0 < tally x ys → r.nexts x ≡ s.nexts x)
    → ((x : ℕ) → 0 < tally x xs → 0 < tally x ys) → IsChain (links_in s.nexts) head xs 0
    → IsChain (links_in r.nexts) head xs 0
chain-stays s r head xs ys same among chain = leads-same (links_in s.nexts) (links_in r.nexts) head xs (Ends 0)
    (λ x some. ap next_link (same x (among x some))) chain

pub rest-among : (e : ℕ) (ys xs : List ℕ) → xs ≡ e ∷ ys → (x : ℕ) → 0 < tally x ys → 0 < tally x xs
rest-among e ys xs is x some = let l = ap (tally x) is in let m = tally-more x e ys in omega arith

pub first-among : (e : ℕ) (ys xs : List ℕ) → xs ≡ e ∷ ys → 0 < tally e xs
first-among e ys xs is = let l = ap (tally e) is in let h = tally-here e ys in omega arith

fetches-stay : (s r : Core) (seat class : ℕ) (xs : List ℕ) (at : BoxAt)
    → ((x : ℕ) → 0 < tally x xs → r.nexts x ≡ s.nexts x) → FetchesAt s seat class xs at → FetchesAt r seat class xs at
fetches-stay s r seat class xs BoxAt.Take same fits = fits
fetches-stay s r seat class xs (BoxAt.Next e) same chain =
    chain-stays s r (To e) xs xs same (λ x some. some) chain
fetches-stay s r seat class xs (BoxAt.Settle e rest) same (ys, is, chain) =
    (ys, is, chain-stays s r (item_link rest) ys xs same (rest-among e ys xs is) chain)
fetches-stay s r seat class xs (BoxAt.Join e rest JoinAt.Take) same (ys, is, chain, home) = (
  ys,
  is,
  chain-stays s r (item_link rest) ys xs same (rest-among e ys xs is) chain,
  same e (first-among e ys xs is) ∙ home,
)
fetches-stay s r seat class xs (BoxAt.Join e rest (JoinAt.Walk first at count)) same chain =
    chain-stays s r (item_link rest) xs xs same (λ x some. some) chain
fetches-stay s r seat class xs (BoxAt.Join e rest (JoinAt.Tie first last count)) same chain =
    chain-stays s r (item_link rest) xs xs same (λ x some. some) chain

begin-stays : (k : Key) (g : Shadow) (s : Core) (h : Shadow) (r : Core) (seat e class : ℕ) → Rely seat g s h r
    → BeginFits k g s seat e class → BeginFits k h r seat e class
begin-stays k g s h r seat e class rely fits = record {
  begun = (rely.begun e fits.begun).0;
  class' = fits.class';
  seat' = fits.seat';
  inside = fits.inside;
  none = rely.fetched ∙ fits.none;
}

pub task-stays : (k : Key) (g : Shadow) (s : Core) (h : Shadow) (r : Core) (seat : ℕ) (task : Task)
    → Rely seat g s h r → TaskFits k g s seat task → TaskFits k h r seat task
task-stays k g s h r seat Task.Away rely none = rely.fetched ∙ none
task-stays k g s h r seat (Task.Mailing e at) rely (owed, none, fits) =
    let same = rely.owed e owed in
    (same.0, rely.fetched ∙ none, mails-stay s r e at same.1 same.2 same.3 fits)
task-stays k g s h r seat (Task.Fetching class at) rely fits = record {
  class' = fits.class';
  seat' = fits.seat';
  of = λ x some.
      let was : 0 < tally x (g.fetched seat) = subst (λ xs. 0 < tally x xs) rely.fetched some in
      (rely.mine x was).1 ∙ fits.of x was;
  at' = subst (λ xs. FetchesAt r seat class xs at) (sym rely.fetched)
      (fetches-stay s r seat class (g.fetched seat) at (λ x some. (rely.mine x some).0) fits.at');
}
task-stays k g s h r seat (Task.Beginning e class) rely fits = begin-stays k g s h r seat e class rely fits
task-stays k g s h r seat (Task.Settled e class) rely (fits, home) =
    (begin-stays k g s h r seat e class rely fits, (rely.begun e fits.begun).1 ∙ home)

pub record SeatsFit (k : Key) (h : Shadow) (r : Core) : Type 0 where
  pub tasks' : (seat : ℕ) → TaskFits k h r seat (r.tasks seat)
  pub duties : DutiesFit h.mail r.tasks

pub record TurnFits (k : Key) (t : ℕ) (task : Task) (g : Shadow) (s : Core) (h : Shadow) (r : Core) : Type 0 where
  pub others : (o : ℕ) → o ≢ t → Rely o g s h r
  pub stands : r.tasks t ≡ task
  pub task' : TaskFits k h r t task
  pub duty : (e : ℕ) → h.mail e ≡ Mail.Owed t → IsMailing task e

pub seats_keep : (k : Key) (t : ℕ) (task : Task) (g : Shadow) (s : Core) (h : Shadow) (r : Core) → MailGood k g s
    → TurnFits k t task g s h r → SeatsFit k h r
seats_keep k t task g s h r good turn = record {
  tasks' = λ o. equal_or o t
      (λ same. subst (λ x. TaskFits k h r x (r.tasks x)) (sym same)
      (subst (TaskFits k h r t) (sym turn.stands) turn.task'))
      (λ ne. let rely = turn.others o ne in subst (TaskFits k h r o) (sym rely.task)
      (task-stays k g s h r o (s.tasks o) rely (good.tasks' o)));
  duties = λ e o owed. equal_or o t
      (λ same. subst (λ x. IsMailing (r.tasks x) e) (sym same) (subst (λ q. IsMailing q e) (sym turn.stands)
      (turn.duty e (owed ∙ ap Mail.Owed same))))
      (λ ne. let rely = turn.others o ne in subst (λ q. IsMailing q e) (sym rely.task)
      (good.duties e o (rely.no_more e owed)));
}

pub all_stay : (k : Key) (g : Shadow) (s : Core) (h : Shadow) (r : Core) → MailGood k g s
    → ((o : ℕ) → Rely o g s h r) → SeatsFit k h r
all_stay k g s h r good rely = record {
  tasks' = λ o. subst (TaskFits k h r o) (sym (rely o).task)
      (task-stays k g s h r o (s.tasks o) (rely o) (good.tasks' o));
  duties = λ e o owed. subst (λ q. IsMailing q e) (sym (rely o).task) (good.duties e o ((rely o).no_more e owed));
}

pub fits_at : (k : Key) (g : Shadow) (s : Core) (t : ℕ) (task : Task) → s.tasks t ≡ task → MailGood k g s
    → TaskFits k g s t task
fits_at k g s t task is good = subst (TaskFits k g s t) is (good.tasks' t)

pub duty_at : (k : Key) (g : Shadow) (s : Core) (t : ℕ) (task : Task) → s.tasks t ≡ task → MailGood k g s → (e : ℕ)
    → g.mail e ≡ Mail.Owed t → IsMailing task e
duty_at k g s t task is good e owed = subst (λ q. IsMailing q e) is (good.duties e t owed)
