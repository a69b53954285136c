-- What a seat relies on stays while another steps.
use Rattle.std.proofs.Common.{◌≡◌, ◌≢◌, ℕ, ◌<◌, cond, eqb, Option, List, [], ◌∷◌, refl, sym, ap, subst, arith, ◌∙◌}
use Rattle.std.proofs.lemmas.Bool.Decides.{nat_tests}
use Rattle.pool_words.specs.declared.words.Key.{Key}
use Rattle.heap_slabs.specs.declared.records.HeapSlab.{HeapSlab}
use Rattle.heap_slabs.specs.Records.{to_header}
use Rattle.heap_slabs.specs.Rolls.{Rolled}
use Rattle.chain_words.specs.declared.pushing.PushAt.{PushAt}
use Rattle.orphans.specs.declared.adopting.AdoptAt.{AdoptAt}
use Rattle.orphans.specs.declared.leaving.LeaveAt.{LeaveAt}
use Rattle.word_laws.proofs.CallerLemmas.{equal_or}
use Rattle.chain_laws.specs.Chains.{Link, IsChain, tally}
use Rattle.chain_laws.specs.Chains.Link.{To, Ends}
use Rattle.chain_laws.proofs.CallerLemmas.{leads-same, tally-here}
use Rattle.slab_laws.specs.Books.{Keeper, record_of}
use Rattle.mail_laws.specs.Mail.{Mail, item_link, next_link, links_in}
use Rattle.mail_laws.proofs.CallerLemmas.{first-among, rest-among}
use Rattle.orphan_laws.specs.Orphans.{Task, Shadow, Core, IsLeaving, IsJoining, is_adopting, is_returned, in_hand}
use Rattle.orphan_laws.specs.Orphans.{HandsOnce}
use Rattle.orphan_laws.specs.Orphans.{PushesAt, LeavesAt, IsInFront, IsBehind, NoSpares, IsRead, AdoptsAt, ReturnsAt}
use Rattle.orphan_laws.specs.Orphans.{HandFits, IsIdle, TaskFits, DutiesFit, OrphansGood}

pub record SameRecord (e : ℕ) (s : Core) (r : Core) : Type 0 where
  pub keeper : r.book.keeper e ≡ s.book.keeper e
  pub record' : record_of r.book e ≡ record_of s.book e
  pub header : r.headers e ≡ s.headers e

pub record SameWay (e : ℕ) (g : Shadow) (s : Core) (h : Shadow) (r : Core) : Type 0 where
  pub way : h.mail.mail e ≡ g.mail.mail e
  pub next : r.nexts e ≡ s.nexts e

pub record SameKept (e : ℕ) (g : Shadow) (s : Core) (h : Shadow) (r : Core) : Type 0 where
  pub way : h.mail.mail e ≡ g.mail.mail e
  pub next : r.nexts e ≡ s.nexts e
  pub keeper : r.book.keeper e ≡ s.book.keeper e
  pub class' : r.book.classes e ≡ s.book.classes e

-- what a seat may rely on
pub record Rely (o : ℕ) (g : Shadow) (s : Core) (h : Shadow) (r : Core) : Type 0 where
  pub task : r.tasks o ≡ s.tasks o
  pub taken : h.taken o ≡ g.taken o
  pub spares : r.spares o ≡ s.spares o
  -- of a slab that the seat is to leave, is on its way out, was adopted, is in its hand, or is about to begin
  pub kept : (e : ℕ) → s.book.keeper e ≡ Keeper.By o → IsLeaving (s.tasks o) e → SameRecord e s r
  pub leaving : (e : ℕ) → g.mail.mail e ≡ Mail.Leaving o → SameWay e g s h r
  pub adopted : (e : ℕ) → g.mail.mail e ≡ Mail.Adopted o → s.book.keeper e ≡ Keeper.By o → SameKept e g s h r
  pub hand : (e : ℕ) → s.book.keeper e ≡ Keeper.Adopting o
      → (r.nexts e ≡ s.nexts e) × (record_of r.book e ≡ record_of s.book e)
  pub begun : (e : ℕ) → g.mail.mail e ≡ Mail.Begun o → (h.mail.mail e ≡ Mail.Begun o) × (r.owns e ≡ s.owns e)
  -- nothing new comes to it
  pub no_hand : (e : ℕ) → r.book.keeper e ≡ Keeper.Adopting o
      → (s.book.keeper e ≡ Keeper.Adopting o) × (r.book.classes e ≡ s.book.classes e)
  pub no_leaving : (e : ℕ) → h.mail.mail e ≡ Mail.Leaving o → g.mail.mail e ≡ Mail.Leaving o
  pub no_adopted : (e : ℕ) → h.mail.mail e ≡ Mail.Adopted o → r.book.keeper e ≡ Keeper.By o
      → (g.mail.mail e ≡ Mail.Adopted o) × (s.book.keeper e ≡ Keeper.By o)

pub adopting_is : (o : ℕ) (q : Keeper) → 0 < is_adopting o q → q ≡ Keeper.Adopting o
adopting_is o Keeper.Nobody some = absurd (omega arith)
adopting_is o (Keeper.By t) some = absurd (omega arith)
adopting_is o Keeper.Orphan some = absurd (omega arith)
adopting_is o (Keeper.Adopting t) some = ap Keeper.Adopting (grind (arith, nat_tests))
adopting_is o (Keeper.Cached t) some = absurd (omega arith)

pub hand-is : (g : Shadow) (s : Core) (o e : ℕ) → HandsOnce s.book.keeper g.taken s.spares s.tasks
    → 0 < in_hand g.taken s.spares s.tasks o e → s.book.keeper e ≡ Keeper.Adopting o
hand-is g s o e once some = adopting_is o (s.book.keeper e) (let n = once o e in omega arith)

pub taken-is : (g : Shadow) (s : Core) (o e : ℕ) → HandsOnce s.book.keeper g.taken s.spares s.tasks
    → 0 < tally e (g.taken o) → s.book.keeper e ≡ Keeper.Adopting o
taken-is g s o e once some = hand-is g s o e once (omega arith)

pub returned-is : (g : Shadow) (s : Core) (o class e : ℕ) (at : LeaveAt)
    → HandsOnce s.book.keeper g.taken s.spares s.tasks → s.tasks o ≡ Task.Returning class e at
    → s.book.keeper e ≡ Keeper.Adopting o
returned-is g s o class e at once is =
    let one : is_returned e (s.tasks o) ≡ 1 = ap (is_returned e) is ∙ here in hand-is g s o e once (omega arith)
  where
    here : ◌≡◌ {A = ℕ} (cond (eqb e e) 1 0) 1
    here = grind (arith, nat_tests)

-- the first item of a chain is one of its items
pub front-in : (links : ℕ → Link) (e : ℕ) (xs : List ℕ) → IsChain links (To e) xs 0 → 0 < tally e xs
front-in links e [] chain = absurd (cc)
front-in links e (x ∷ xs) (first, chain) =
    let same : e ≡ x = cc in let h = tally-here x xs in let q = ap (λ y. tally y (x ∷ xs)) same in omega arith

pub chain-same : (s r : Core) (head : Link) (xs : List ℕ) → ((x : ℕ) → 0 < tally x xs → r.nexts x ≡ s.nexts x)
    → IsChain (links_in s.nexts) head xs 0 → IsChain (links_in r.nexts) head xs 0
chain-same s r head xs same chain = leads-same (links_in s.nexts) (links_in r.nexts) head xs (Ends 0)
    (λ x some. ap next_link (same x some)) chain

pub pushes-stay : (s r : Core) (e : ℕ) (at : PushAt) → r.nexts e ≡ s.nexts e → PushesAt s e at → PushesAt r e at
pushes-stay s r e PushAt.Look same fits = fits
pushes-stay s r e (PushAt.Link found) same fits = fits
pushes-stay s r e (PushAt.Exchange found) same fits = same ∙ fits

header-stays : (s r : Core) (e : ℕ) → SameRecord e s r → s.headers e ≡ to_header (record_of s.book e)
    → r.headers e ≡ to_header (record_of r.book e)
header-stays s r e same is = same.header ∙ is ∙ sym (ap to_header same.record')

leaves-stay : (g : Shadow) (s : Core) (h : Shadow) (r : Core) (o e : ℕ) (at : LeaveAt) → SameRecord e s r
    → (g.mail.mail e ≡ Mail.Leaving o → SameWay e g s h r)
    → (h.mail.mail e ≡ Mail.Leaving o → g.mail.mail e ≡ Mail.Leaving o) → LeavesAt g s o e at → LeavesAt h r o e at
leaves-stay g s h r o e LeaveAt.Close same way back fits = λ z. fits (back z)
leaves-stay g s h r o e LeaveAt.Header same way back fits = (way fits).way ∙ fits
leaves-stay g s h r o e LeaveAt.Disown same way back (is, header) =
    ((way is).way ∙ is, header-stays s r e same header)
leaves-stay g s h r o e (LeaveAt.Push at) same way back (is, header, fits) =
    ((way is).way ∙ is, header-stays s r e same header, pushes-stay s r e at (way is).next fits)

-- the orphans in hand, and what was read of them
record HandStays (o : ℕ) (g : Shadow) (s : Core) (h : Shadow) (r : Core) : Type 0 where
  taken : h.taken o ≡ g.taken o
  spares : r.spares o ≡ s.spares o
  words : (x : ℕ) → 0 < tally x (g.taken o)
      → (r.nexts x ≡ s.nexts x) × (record_of r.book x ≡ record_of s.book x)

front-stays : (o : ℕ) (g : Shadow) (s : Core) (h : Shadow) (r : Core) (e : ℕ) → HandStays o g s h r
    → IsInFront g s o e → IsInFront h r o e
front-stays o g s h r e stays chain =
    subst (λ xs. IsChain (links_in r.nexts) (To e) xs 0) (sym stays.taken)
    (chain-same s r (To e) (g.taken o) (λ x some. (stays.words x some).0) chain)

behind-stays : (o : ℕ) (g : Shadow) (s : Core) (h : Shadow) (r : Core) (e : ℕ) (rest : Option ℕ)
    → HandStays o g s h r → IsBehind g s o e rest → IsBehind h r o e rest
behind-stays o g s h r e rest stays (ys, is, chain) = (
  ys,
  stays.taken ∙ is,
  chain-same s r (item_link rest) ys (λ x some. (stays.words x (rest-among e ys (g.taken o) is x some)).0) chain,
)

rest-stays : (o : ℕ) (g : Shadow) (s : Core) (h : Shadow) (r : Core) (rest : Option ℕ) → HandStays o g s h r
    → IsChain (links_in s.nexts) (item_link rest) (g.taken o) 0
    → IsChain (links_in r.nexts) (item_link rest) (h.taken o) 0
rest-stays o g s h r rest stays chain =
    subst (λ xs. IsChain (links_in r.nexts) (item_link rest) xs 0) (sym stays.taken)
    (chain-same s r (item_link rest) (g.taken o) (λ x some. (stays.words x some).0) chain)

none-stay : (o : ℕ) (g : Shadow) (s : Core) (h : Shadow) (r : Core) → HandStays o g s h r → NoSpares s o → NoSpares r o
none-stay o g s h r stays none = ap (λ (q : Rolled ℕ). q.items) stays.spares ∙ none

read-stays : (s r : Core) (e header : ℕ) → record_of r.book e ≡ record_of s.book e → IsRead s e header
    → IsRead r e header
read-stays s r e header same is = is ∙ sym (ap to_header same)

adopts-stay : (o : ℕ) (g : Shadow) (s : Core) (h : Shadow) (r : Core) (class : ℕ) (at : AdoptAt) → HandStays o g s h r
    → AdoptsAt g s o class at → AdoptsAt h r o class at
adopts-stay o g s h r class AdoptAt.Take stays (none, is) = (none-stay o g s h r stays none, stays.taken ∙ is)
adopts-stay o g s h r class (AdoptAt.Header e) stays (none, front) =
    (none-stay o g s h r stays none, front-stays o g s h r e stays front)
adopts-stay o g s h r class (AdoptAt.Next e header) stays (none, front, read) = (
  none-stay o g s h r stays none,
  front-stays o g s h r e stays front,
  read-stays s r e header (stays.words e (front-in (links_in s.nexts) e (g.taken o) front)).1 read,
)
adopts-stay o g s h r class (AdoptAt.Settle e header rest) stays (none, (ys, is, chain), read) = (
  none-stay o g s h r stays none,
  behind-stays o g s h r e rest stays (ys, is, chain),
  read-stays s r e header (stays.words e (first-among e ys (g.taken o) is)).1 read,
)
adopts-stay o g s h r class (AdoptAt.Own e header rest) stays (none, (ys, is, chain), read, home) = (
  none-stay o g s h r stays none,
  behind-stays o g s h r e rest stays (ys, is, chain),
  read-stays s r e header (stays.words e (first-among e ys (g.taken o) is)).1 read,
  (stays.words e (first-among e ys (g.taken o) is)).0 ∙ home,
)
adopts-stay o g s h r class (AdoptAt.Spare e) stays front = front-stays o g s h r e stays front

returns-stay : (s r : Core) (e : ℕ) (at : LeaveAt) → r.nexts e ≡ s.nexts e → ReturnsAt s e at → ReturnsAt r e at
returns-stay s r e LeaveAt.Close same fits = fits
returns-stay s r e LeaveAt.Header same fits = fits
returns-stay s r e LeaveAt.Disown same fits = fits
returns-stay s r e (LeaveAt.Push at) same fits = pushes-stay s r e at same fits

pub task-stays : (k : Key) (g : Shadow) (s : Core) (h : Shadow) (r : Core) (o : ℕ) (task : Task)
    → HandsOnce s.book.keeper g.taken s.spares s.tasks → Rely o g s h r → s.tasks o ≡ task → TaskFits k g s o task
    → TaskFits k h r o task
task-stays k g s h r o task once rely is fits = by task is fits
  where
    stays : HandStays o g s h r
    stays = record {
      taken = rely.taken;
      spares = rely.spares;
      words = λ x some. rely.hand x (taken-is g s o x once some);
    }

    idle : IsIdle g s o → IsIdle h r o
    idle (none, empty) = (none-stay o g s h r stays none, rely.taken ∙ empty)

    hand : (class : ℕ) → HandFits k s o class → HandFits k r o class
    hand class fits = record {
      class' = fits.class';
      seat' = fits.seat';
      of = λ e now. let was = rely.no_hand e now in was.1 ∙ fits.of e was.0;
    }

    by : (task : Task) → s.tasks o ≡ task → TaskFits k g s o task → TaskFits k h r o task
    by Task.Away is fits = idle fits
    by (Task.Leaving e at) is (empty, kept, fits) =
        let same = rely.kept e kept (subst (λ q. IsLeaving q e) (sym is) refl) in
        (idle empty, same.keeper ∙ kept, leaves-stay g s h r o e at same (rely.leaving e) (rely.no_leaving e) fits)
    by (Task.Adopting class at) is (fits, at') = (hand class fits, adopts-stay o g s h r class at stays at')
    by (Task.Joining class e rest) is (fits, join) =
        let same = rely.adopted e join.adopted join.kept in (
          hand class fits,
          record {
            spares = none-stay o g s h r stays join.spares;
            kept = same.keeper ∙ join.kept;
            class' = same.class' ∙ join.class';
            adopted = same.way ∙ join.adopted;
            home = same.next ∙ join.home;
            behind = rest-stays o g s h r rest stays join.behind;
          },
        )
    by (Task.Resting class rest) is (fits, none, chain) =
        (hand class fits, none-stay o g s h r stays none, rest-stays o g s h r rest stays chain)
    by (Task.Returning class e at) is (fits, empty, at') = (
      hand class fits,
      rely.taken ∙ empty,
      returns-stay s r e at (rely.hand e (returned-is g s o class e at once is)).0 at',
    )
    by (Task.Owning e) is (empty, first) = (
      idle empty,
      record {
        begun = (rely.begun e first.begun).0;
        own = (rely.begun e first.begun).1 ∙ first.own;
      },
    )

pub record SeatsFit (k : Key) (h : Shadow) (r : Core) : Type 0 where
  pub tasks' : (seat : ℕ) → TaskFits k h r seat (r.tasks seat)
  pub duties : DutiesFit h.mail.mail r.book.keeper r.tasks

-- what a step of one seat owes
pub record TurnFits (k : Key) (t : ℕ) (task : Task) (g : Shadow) (s : Core) (h : Shadow) (r : Core) : Type 0 where
  pub others : (o : ℕ) → o ≢ t → Rely o g s h r
  pub stands : r.tasks t ≡ task
  pub task' : TaskFits k h r t task
  pub leaving : (e : ℕ) → h.mail.mail e ≡ Mail.Leaving t → IsLeaving task e
  pub joining : (e : ℕ) → h.mail.mail e ≡ Mail.Adopted t → r.book.keeper e ≡ Keeper.By t → IsJoining task e

stays-one : (k : Key) (g : Shadow) (s : Core) (h : Shadow) (r : Core) (o : ℕ) → OrphansGood k g s → Rely o g s h r
    → TaskFits k h r o (r.tasks o)
stays-one k g s h r o good rely = subst (TaskFits k h r o) (sym rely.task)
    (task-stays k g s h r o (s.tasks o) good.hands_once rely refl (good.tasks' o))

duty-one : (k : Key) (g : Shadow) (s : Core) (h : Shadow) (r : Core) (e o : ℕ) → OrphansGood k g s → Rely o g s h r
    → (h.mail.mail e ≡ Mail.Leaving o → IsLeaving (r.tasks o) e)
    × (h.mail.mail e ≡ Mail.Adopted o → r.book.keeper e ≡ Keeper.By o → IsJoining (r.tasks o) e)
duty-one k g s h r e o good rely = (
  (λ z. subst (λ q. IsLeaving q e) (sym rely.task) ((good.duties e o).0 (rely.no_leaving e z))),
  (λ z by. let was = rely.no_adopted e z by in
      subst (λ q. IsJoining q e) (sym rely.task) ((good.duties e o).1 was.0 was.1)),
)

pub seats_keep : (k : Key) (t : ℕ) (task : Task) (g : Shadow) (s : Core) (h : Shadow) (r : Core) → OrphansGood k g s
    → TurnFits k t task g s h r → SeatsFit k h r
seats_keep k t task g s h r good turn = record {
  tasks' = λ o. equal_or o t
      (λ same. subst (λ x. TaskFits k h r x (r.tasks x)) (sym same)
      (subst (TaskFits k h r t) (sym turn.stands) turn.task'))
      (λ ne. stays-one k g s h r o good (turn.others o ne));
  duties = λ e o. equal_or o t
      (λ same. subst (λ x. (h.mail.mail e ≡ Mail.Leaving x → IsLeaving (r.tasks x) e)
      × (h.mail.mail e ≡ Mail.Adopted x → r.book.keeper e ≡ Keeper.By x → IsJoining (r.tasks x) e)) (sym same) (
        (λ z. subst (λ q. IsLeaving q e) (sym turn.stands) (turn.leaving e z)),
        (λ z by. subst (λ q. IsJoining q e) (sym turn.stands) (turn.joining e z by)),
      ))
      (λ ne. duty-one k g s h r e o good (turn.others o ne));
}

pub all_stay : (k : Key) (g : Shadow) (s : Core) (h : Shadow) (r : Core) → OrphansGood k g s
    → ((o : ℕ) → Rely o g s h r) → SeatsFit k h r
all_stay k g s h r good rely = record {
  tasks' = λ o. stays-one k g s h r o good (rely o);
  duties = λ e o. duty-one k g s h r e o good (rely o);
}

pub fits_at : (k : Key) (g : Shadow) (s : Core) (t : ℕ) (task : Task) → s.tasks t ≡ task → OrphansGood k g s
    → TaskFits k g s t task
fits_at k g s t task is good = subst (TaskFits k g s t) is (good.tasks' t)

pub leaving_at : (k : Key) (g : Shadow) (s : Core) (t : ℕ) (task : Task) → s.tasks t ≡ task → OrphansGood k g s
    → (e : ℕ) → g.mail.mail e ≡ Mail.Leaving t → IsLeaving task e
leaving_at k g s t task is good e z = subst (λ q. IsLeaving q e) is ((good.duties e t).0 z)

pub joining_at : (k : Key) (g : Shadow) (s : Core) (t : ℕ) (task : Task) → s.tasks t ≡ task → OrphansGood k g s
    → (e : ℕ) → g.mail.mail e ≡ Mail.Adopted t → s.book.keeper e ≡ Keeper.By t → IsJoining task e
joining_at k g s t task is good e z by = subst (λ q. IsJoining q e) is ((good.duties e t).1 z by)

-- one slab alone is another
pub record OnlyAt (e : ℕ) (g : Shadow) (s : Core) (h : Shadow) (r : Core) : Type 0 where
  pub way : (x : ℕ) → x ≢ e → h.mail.mail x ≡ g.mail.mail x
  pub next : (x : ℕ) → x ≢ e → r.nexts x ≡ s.nexts x
  pub keeper : (x : ℕ) → x ≢ e → r.book.keeper x ≡ s.book.keeper x
  pub record' : (x : ℕ) → x ≢ e → record_of r.book x ≡ record_of s.book x
  pub header : (x : ℕ) → x ≢ e → r.headers x ≡ s.headers x
  pub own : (x : ℕ) → x ≢ e → r.owns x ≡ s.owns x

-- a slab with which a seat has nothing to do
pub record Apart (o e : ℕ) (g : Shadow) (s : Core) (h : Shadow) (r : Core) : Type 0 where
  pub kept : s.book.keeper e ≡ Keeper.By o → IsLeaving (s.tasks o) e → ⊥
  pub leaving : g.mail.mail e ≢ Mail.Leaving o
  pub adopted : g.mail.mail e ≢ Mail.Adopted o
  pub hand : s.book.keeper e ≢ Keeper.Adopting o
  pub begun : g.mail.mail e ≢ Mail.Begun o
  pub hand' : r.book.keeper e ≢ Keeper.Adopting o
  pub leaving' : h.mail.mail e ≢ Mail.Leaving o
  pub adopted' : h.mail.mail e ≡ Mail.Adopted o → r.book.keeper e ≢ Keeper.By o

pub rely_only : (o e : ℕ) (g : Shadow) (s : Core) (h : Shadow) (r : Core) → OnlyAt e g s h r → Apart o e g s h r
    → r.tasks o ≡ s.tasks o → h.taken o ≡ g.taken o → r.spares o ≡ s.spares o → Rely o g s h r
rely_only o e g s h r only apart task taken spares = record {
  task = task;
  taken = taken;
  spares = spares;
  kept = λ x by is. let away : x ≢ e = (λ z. apart.kept (ap s.book.keeper (sym z) ∙ by)
      (subst (IsLeaving (s.tasks o)) z is)) in record {
        keeper = only.keeper x away;
        record' = only.record' x away;
        header = only.header x away;
      };
  leaving = λ x is. let away : x ≢ e = (λ z. apart.leaving (ap g.mail.mail (sym z) ∙ is)) in
      record { way = only.way x away; next = only.next x away };
  adopted = λ x is by. let away : x ≢ e = (λ z. apart.adopted (ap g.mail.mail (sym z) ∙ is)) in record {
    way = only.way x away;
    next = only.next x away;
    keeper = only.keeper x away;
    class' = ap (λ (b : HeapSlab). b.class) (only.record' x away);
  };
  hand = λ x is. let away : x ≢ e = (λ z. apart.hand (ap s.book.keeper (sym z) ∙ is)) in
      (only.next x away, only.record' x away);
  begun = λ x is. let away : x ≢ e = (λ z. apart.begun (ap g.mail.mail (sym z) ∙ is)) in
      (only.way x away ∙ is, only.own x away);
  no_hand = λ x is. equal_or x e (λ same. absurd (apart.hand' (ap r.book.keeper (sym same) ∙ is)))
      (λ away. (sym (only.keeper x away) ∙ is, ap (λ (b : HeapSlab). b.class) (only.record' x away)));
  no_leaving = λ x is. equal_or x e (λ same. absurd (apart.leaving' (ap h.mail.mail (sym same) ∙ is)))
      (λ away. sym (only.way x away) ∙ is);
  no_adopted = λ x is by. equal_or x e
      (λ same. absurd (apart.adopted' (ap h.mail.mail (sym same) ∙ is) (ap r.book.keeper (sym same) ∙ by)))
      (λ away. (sym (only.way x away) ∙ is, sym (only.keeper x away) ∙ by));
}
