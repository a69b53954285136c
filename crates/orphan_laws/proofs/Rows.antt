-- What each step leaves that changes one slab, or what one seat has in hand.
use Rattle.std.proofs.Common.{◌≡◌, ◌≢◌, ℕ, ◌+◌, ◌≤◌, cond, eqb, List, refl, sym, ap, subst, arith, ◌∙◌}
use Rattle.std.specs.Prelude.{⊤}
use Rattle.std.proofs.lemmas.Bool.Decides.{nat_tests}
use Rattle.pool_words.specs.declared.words.Key.{Key}
use Rattle.word_codes.specs.declared.nexts.Next.{Next}
use Rattle.word_codes.specs.declared.owns.Own.{Own}
use Rattle.word_codes.specs.declared.publics.Public.{Public}
use Rattle.word_codes.specs.Places.{slab_granule}
use Rattle.heap_slabs.specs.declared.records.HeapSlab.{HeapSlab}
use Rattle.heap_slabs.specs.Heaps.{most_slabs}
use Rattle.heap_slabs.specs.Records.{to_header}
use Rattle.heap_slabs.specs.Rolls.{Rolled}
use Rattle.word_laws.specs.Memory.{put}
use Rattle.word_laws.proofs.CallerLemmas.{equal_or}
use Rattle.chain_laws.specs.Chains.{tally}
use Rattle.chain_laws.specs.Chains.Link.{Ends}
use Rattle.chain_laws.proofs.CallerLemmas.{leads-same}
use Rattle.slab_laws.specs.Books.{Keeper, IsThere, IsLeft, record_of}
use Rattle.slab_laws.proofs.CallerLemmas.{put-same, put-other}
use Rattle.mail_laws.specs.Mail as mailing
use Rattle.mail_laws.specs.Mail.{Mail, item_link, next_link, links_in, IsAdopter, IsKept, MailFits, MailGood}
use Rattle.mail_laws.proofs.CallerLemmas.{home-kept}
use Rattle.orphan_laws.specs.Orphans.{Task, Shadow, Core, mail_core, IsLeaving, IsJoining, own_kept, OwnFits}
use Rattle.orphan_laws.specs.Orphans.{is_orphan, LeftOnce, is_adopting, is_returned, in_hand, HandsOnce}
use Rattle.orphan_laws.specs.Orphans.{LeftChains, RoomsFit, TaskFits, OrphansGood}
use Rattle.orphan_laws.proofs.Seats.{SeatsFit, seats_keep, OnlyAt, Apart, rely_only}

-- where a slab is by its keeper
pub orphan_is_left : (m : Mail) (q : Keeper) (c : ℕ) (p : Public) (n : Next) → MailFits m q c p n → q ≡ Keeper.Orphan
    → m ≡ Mail.Left
orphan_is_left Mail.Absent q c p n fits is = absurd (fits.0 (subst IsThere (sym is) tt))
orphan_is_left (Mail.Begun t) q c p n fits is = absurd (fits.0 (subst IsThere (sym is) tt))
orphan_is_left Mail.Rest q c p n fits is = absurd (subst IsKept is (home-kept q c n fits.0))
orphan_is_left (Mail.Owed t) q c p n fits is = absurd (subst IsKept is fits.0)
orphan_is_left Mail.Boxed q c p n fits is = absurd (subst IsKept is fits.0)
orphan_is_left (Mail.Taken t) q c p n fits is = absurd (let z : Keeper.By t ≡ Keeper.Orphan = sym fits.0 ∙ is in cc)
orphan_is_left (Mail.Leaving t) q c p n fits is = absurd (let z : Keeper.By t ≡ Keeper.Orphan = sym fits.0 ∙ is in cc)
orphan_is_left Mail.Left q c p n fits is = refl
orphan_is_left (Mail.Adopted t) q c p n fits is = absurd (subst (IsAdopter t) is fits.0)

pub taken_is_adopted : (m : Mail) (q : Keeper) (c : ℕ) (p : Public) (n : Next) (o : ℕ) → MailFits m q c p n
    → q ≡ Keeper.Adopting o → m ≡ Mail.Adopted o
taken_is_adopted Mail.Absent q c p n o fits is = absurd (fits.0 (subst IsThere (sym is) tt))
taken_is_adopted (Mail.Begun t) q c p n o fits is = absurd (fits.0 (subst IsThere (sym is) tt))
taken_is_adopted Mail.Rest q c p n o fits is =
    absurd (subst IsKept is (home-kept q c n fits.0))
taken_is_adopted (Mail.Owed t) q c p n o fits is = absurd (subst IsKept is fits.0)
taken_is_adopted Mail.Boxed q c p n o fits is = absurd (subst IsKept is fits.0)
taken_is_adopted (Mail.Taken t) q c p n o fits is =
    absurd (let z : Keeper.By t ≡ Keeper.Adopting o = sym fits.0 ∙ is in cc)
taken_is_adopted (Mail.Leaving t) q c p n o fits is =
    absurd (let z : Keeper.By t ≡ Keeper.Adopting o = sym fits.0 ∙ is in cc)
taken_is_adopted Mail.Left q c p n o fits is =
    absurd (let z : Keeper.Orphan ≡ Keeper.Adopting o = sym fits.0 ∙ is in cc)
taken_is_adopted (Mail.Adopted t) q c p n o fits is = ap Mail.Adopted (sym (subst (IsAdopter t) is fits.0))

-- a slab that nobody keeps is mail of no other kind
pub way_orphan : (k : Key) (g : Shadow) (s : Core) (e : ℕ) → OrphansGood k g s → s.book.keeper e ≡ Keeper.Orphan
    → g.mail.mail e ≡ Mail.Left
way_orphan k g s e good is = orphan_is_left (g.mail.mail e) (s.book.keeper e) (s.book.classes e) (s.publics e)
    (s.nexts e) (good.mail.words e) is

pub way_taken : (k : Key) (g : Shadow) (s : Core) (e o : ℕ) → OrphansGood k g s
    → s.book.keeper e ≡ Keeper.Adopting o → g.mail.mail e ≡ Mail.Adopted o
way_taken k g s e o good is = taken_is_adopted (g.mail.mail e) (s.book.keeper e) (s.book.classes e) (s.publics e)
    (s.nexts e) o (good.mail.words e) is

-- what mail says of a slab
pub way_fits : (k : Key) (g : Shadow) (s : Core) (e : ℕ) (m : Mail) → OrphansGood k g s → g.mail.mail e ≡ m
    → MailFits m (s.book.keeper e) (s.book.classes e) (s.publics e) (s.nexts e)
way_fits k g s e m good is = subst
    (λ x. MailFits x (s.book.keeper e) (s.book.classes e) (s.publics e) (s.nexts e)) is (good.mail.words e)

-- a task that is about this slab, where it is the leaving of one
abbrev pub IsAbout : ℕ → Task → Type 0
IsAbout e Task.Away = ⊤
IsAbout e (Task.Leaving slab at) = slab ≡ e
IsAbout e (Task.Adopting class at) = ⊤
IsAbout e (Task.Joining class slab rest) = ⊤
IsAbout e (Task.Resting class rest) = ⊤
IsAbout e (Task.Returning class slab at) = ⊤
IsAbout e (Task.Owning slab) = ⊤

pub own-else : (t e x : ℕ) (task : Task) → IsAbout e task → x ≢ e → own_kept t task x ≡ Own.Kept t
own-else t e x Task.Away about ne = refl
own-else t e x (Task.Leaving slab at) about ne = equal_or slab x
    (λ same. absurd (ne (sym same ∙ about))) (λ away. grind (arith, nat_tests))
own-else t e x (Task.Adopting class at) about ne = refl
own-else t e x (Task.Joining class slab rest) about ne = refl
own-else t e x (Task.Resting class rest) about ne = refl
own-else t e x (Task.Returning class slab at) about ne = refl
own-else t e x (Task.Owning slab) about ne = refl

pub own-moves : (tasks now : ℕ → Task) (t x : ℕ) (q : Keeper) (own : Own) → ((o : ℕ) → o ≢ t → now o ≡ tasks o)
    → own_kept t (now t) x ≡ own_kept t (tasks t) x → OwnFits tasks x q own → OwnFits now x q own
own-moves tasks now t x Keeper.Nobody own same here fits = fits
own-moves tasks now t x (Keeper.By o) own same here fits = fits ∙ equal_or o t
    (λ is. subst (λ y. own_kept y (tasks y) x ≡ own_kept y (now y) x) (sym is) (sym here))
    (λ ne. ap (λ q. own_kept o q x) (sym (same o ne)))
own-moves tasks now t x Keeper.Orphan own same here fits = fits
own-moves tasks now t x (Keeper.Adopting o) own same here fits = fits
own-moves tasks now t x (Keeper.Cached o) own same here fits = fits

-- one slab is changed by a step of a seat
pub record SlabRow (k : Key) (t e : ℕ) (g : Shadow) (s : Core) (h : Shadow) (r : Core) : Type 0 where
  pub only : OnlyAt e g s h r
  pub mail : MailGood k h.mail (mail_core r)
  pub even : IsThere (r.book.keeper e) → slab_granule e ≡ e
  pub tasks_else : (o : ℕ) → o ≢ t → r.tasks o ≡ s.tasks o
  pub own_else : (x : ℕ) → x ≢ e → own_kept t (r.tasks t) x ≡ own_kept t (s.tasks t) x
  pub own : OwnFits r.tasks e (r.book.keeper e) (r.owns e)
  pub header : IsLeft (r.book.keeper e) → r.headers e ≡ to_header (record_of r.book e)
  pub left_once : LeftOnce r.book.keeper r.book.classes h.left
  pub hands_once : HandsOnce r.book.keeper h.taken r.spares r.tasks
  pub left_chains : LeftChains (links_in r.nexts) r.heads h.left
  pub rooms : RoomsFit k r.spares

pub row_keeps : (k : Key) (t e : ℕ) (g : Shadow) (s : Core) (h : Shadow) (r : Core) → OrphansGood k g s
    → SlabRow k t e g s h r → SeatsFit k h r → OrphansGood k h r
row_keeps k t e g s h r good row seats = record {
  mail = row.mail;
  even = λ x there. equal_or x e
      (λ same. subst (λ y. slab_granule y ≡ y) (sym same) (row.even (subst (λ y. IsThere
      (r.book.keeper y)) same there)))
      (λ ne. good.even x (subst IsThere (row.only.keeper x ne) there));
  owns_fit = λ x. equal_or x e
      (λ same. subst (λ y. OwnFits r.tasks y (r.book.keeper y) (r.owns y)) (sym same) row.own)
      (λ ne. subst (λ q. OwnFits r.tasks x q (r.owns x)) (sym (row.only.keeper x ne))
      (subst (OwnFits r.tasks x (s.book.keeper x)) (sym (row.only.own x ne))
      (own-moves s.tasks r.tasks t x (s.book.keeper x) (s.owns x) row.tasks_else (row.own_else x ne)
      (good.owns_fit x))));
  headers_fit = λ x left. equal_or x e
      (λ same. subst (λ y. r.headers y ≡ to_header (record_of r.book y)) (sym same)
      (row.header (subst (λ y. IsLeft (r.book.keeper y)) same left)))
      (λ ne. row.only.header x ne ∙ good.headers_fit x (subst IsLeft (row.only.keeper x ne) left)
      ∙ sym (ap to_header (row.only.record' x ne)));
  left_once = row.left_once;
  hands_once = row.hands_once;
  left_chains = row.left_chains;
  rooms = row.rooms;
  tasks' = seats.tasks';
  duties = seats.duties;
}

-- the chains' lists stay where no slab comes to one or goes
pub left_same : (e : ℕ) (g : Shadow) (s : Core) (h : Shadow) (r : Core) → OnlyAt e g s h r
    → is_orphan (s.book.keeper e) ≡ 0 → is_orphan (r.book.keeper e) ≡ 0
    → LeftOnce s.book.keeper s.book.classes g.left → LeftOnce r.book.keeper r.book.classes g.left
left_same e g s h r only before now once c x = equal_or x e
    (λ same. subst (λ y. tally y (g.left c) ≡ cond (eqb (r.book.classes y) c) (is_orphan (r.book.keeper y)) 0)
    (sym same) (zero (once c e)))
    (λ ne. once c x ∙ sym (ap (λ q. cond (eqb (r.book.classes x) c) (is_orphan q) 0) (only.keeper x ne)
    ∙ ap (λ (b : HeapSlab). cond (eqb b.class c) (is_orphan (s.book.keeper x)) 0) (only.record' x ne)))
  where
    zero : tally e (g.left c) ≡ cond (eqb (s.book.classes e) c) (is_orphan (s.book.keeper e)) 0
        → tally e (g.left c) ≡ cond (eqb (r.book.classes e) c) (is_orphan (r.book.keeper e)) 0
    zero n = grind (arith, nat_tests)

pub in_no_chain : (g : Shadow) (s : Core) (e : ℕ) → is_orphan (s.book.keeper e) ≡ 0
    → LeftOnce s.book.keeper s.book.classes g.left → (c : ℕ) → tally e (g.left c) ≡ 0
in_no_chain g s e zero once c = let n = once c e in grind (arith, nat_tests)

pub chains_same : (e : ℕ) (g : Shadow) (s : Core) (h : Shadow) (r : Core) → OnlyAt e g s h r
    → is_orphan (s.book.keeper e) ≡ 0 → LeftOnce s.book.keeper s.book.classes g.left
    → LeftChains (links_in s.nexts) s.heads g.left → LeftChains (links_in r.nexts) s.heads g.left
chains_same e g s h r only zero once chains c = leads-same (links_in s.nexts) (links_in r.nexts) (item_link (s.heads c))
    (g.left c) (Ends 0)
    (λ x some. ap next_link (only.next x (λ same. let z = in_no_chain g s e zero once c in
    let q = ap (λ y. tally y (g.left c)) same in omega arith))) (chains c)

-- hands stay where no slab comes to one or goes
pub hands_same : (t : ℕ) (taken : ℕ → List ℕ) (spares : ℕ → Rolled ℕ) (keeper now : ℕ → Keeper) (tasks new : ℕ → Task)
    → ((o : ℕ) → o ≢ t → new o ≡ tasks o) → ((x : ℕ) → is_returned x (new t) ≡ is_returned x (tasks t))
    → ((o x : ℕ) → is_adopting o (now x) ≡ is_adopting o (keeper x)) → HandsOnce keeper taken spares tasks
    → HandsOnce now taken spares new
hands_same t taken spares keeper now tasks new else here same once o x =
    let n = once o x in let a = same o x in
    let b : is_returned x (new o) ≡ is_returned x (tasks o) = equal_or o t
    (λ is. ap (λ y. is_returned x (new y)) is ∙ here x ∙ ap (λ y. is_returned x (tasks y)) (sym is))
    (λ ne. ap (is_returned x) (else o ne)) in omega arith

-- a task of one seat, and what it has in hand, are others, and nothing else is
pub record HandRow (k : Key) (t : ℕ) (task : Task) (taken' : ℕ → List ℕ) (spares' : ℕ → Rolled ℕ) (g : Shadow)
    (s : Core)
    : Type 0 where
  pub taken_else : (o : ℕ) → o ≢ t → taken' o ≡ g.taken o
  pub spares_else : (o : ℕ) → o ≢ t → spares' o ≡ s.spares o
  pub count : (x : ℕ) → tally x (taken' t) + tally x (spares' t).items + is_returned x task
      ≡ in_hand g.taken s.spares s.tasks t x
  pub room : (spares' t).room ≡ (s.spares t).room
  pub own : (x : ℕ) → own_kept t task x ≡ own_kept t (s.tasks t) x

abbrev pub hand_shadow : (ℕ → List ℕ) → Shadow → Shadow
hand_shadow taken' g = record g { taken = taken' }

abbrev pub hand_core : ℕ → Task → (ℕ → Rolled ℕ) → Core → Core
hand_core t task spares' s = record s { tasks = put s.tasks t task; spares = spares' }

pub hand_keeps : (k : Key) (t : ℕ) (task : Task) (taken' : ℕ → List ℕ) (spares' : ℕ → Rolled ℕ) (g : Shadow) (s : Core)
    → OrphansGood k g s → HandRow k t task taken' spares' g s
    → TaskFits k (hand_shadow taken' g) (hand_core t task spares' s) t task
    → ((e : ℕ) → g.mail.mail e ≡ Mail.Leaving t → IsLeaving task e)
    → ((e : ℕ) → g.mail.mail e ≡ Mail.Adopted t → s.book.keeper e ≡ Keeper.By t → IsJoining task e)
    → OrphansGood k (hand_shadow taken' g) (hand_core t task spares' s)
hand_keeps k t task taken' spares' g s good row fits leaving joining = record {
  mail = good.mail;
  even = good.even;
  owns_fit = λ x. own-moves s.tasks (put s.tasks t task) t x (s.book.keeper x) (s.owns x) (put-other s.tasks t task)
      (ap (λ q. own_kept t q x) (put-same s.tasks t task) ∙ row.own x) (good.owns_fit x);
  headers_fit = good.headers_fit;
  left_once = good.left_once;
  hands_once = λ o x. equal_or o t
      (λ same. subst (λ y. in_hand taken' spares' (put s.tasks t task) y x ≡ is_adopting y (s.book.keeper x)) (sym same)
      (here x (row.count x) (good.hands_once t x) (ap (is_returned x) (put-same s.tasks t task))))
      (λ ne. there o x (good.hands_once o x) (ap (tally x) (row.taken_else o ne))
      (ap (λ (q : Rolled ℕ). tally x q.items) (row.spares_else o ne))
      (ap (is_returned x) (put-other s.tasks t task o ne)));
  left_chains = good.left_chains;
  rooms = λ o. equal_or o t
      (λ same. subst (λ y. most_slabs k.span ≤ (spares' y).room) (sym same)
      (subst (λ n. most_slabs k.span ≤ n) (sym row.room) (good.rooms t)))
      (λ ne. subst (λ (q : Rolled ℕ). most_slabs k.span ≤ q.room) (sym (row.spares_else o ne)) (good.rooms o));
  tasks' = seats.tasks';
  duties = seats.duties;
}
  where
    here : (x : ℕ) → tally x (taken' t) + tally x (spares' t).items + is_returned x task
        ≡ in_hand g.taken s.spares s.tasks t x → in_hand g.taken s.spares s.tasks t x ≡ is_adopting t (s.book.keeper x)
        → is_returned x (put s.tasks t task t) ≡ is_returned x task
        → in_hand taken' spares' (put s.tasks t task) t x ≡ is_adopting t (s.book.keeper x)
    here x a b c = ap (λ n. tally x (taken' t) + tally x (spares' t).items + n) c ∙ a ∙ b

    there : (o x : ℕ) → in_hand g.taken s.spares s.tasks o x ≡ is_adopting o (s.book.keeper x)
        → tally x (taken' o) ≡ tally x (g.taken o) → tally x (spares' o).items ≡ tally x (s.spares o).items
        → is_returned x (put s.tasks t task o) ≡ is_returned x (s.tasks o)
        → in_hand taken' spares' (put s.tasks t task) o x ≡ is_adopting o (s.book.keeper x)
    there o x n a b c = ap (λ z. z + tally x (spares' o).items + is_returned x (put s.tasks t task o)) a
        ∙ ap (λ z. tally x (g.taken o) + z + is_returned x (put s.tasks t task o)) b
        ∙ ap (λ z. tally x (g.taken o) + tally x (s.spares o).items + z) c ∙ n

    seats : SeatsFit k (hand_shadow taken' g) (hand_core t task spares' s)
    seats = seats_keep k t task g s (hand_shadow taken' g) (hand_core t task spares' s) good (record {
      others = λ o ne. record {
        task = put-other s.tasks t task o ne;
        taken = row.taken_else o ne;
        spares = row.spares_else o ne;
        kept = λ e by is. record { keeper = refl; record' = refl; header = refl };
        leaving = λ e is. record { way = refl; next = refl };
        adopted = λ e is by. record { way = refl; next = refl; keeper = refl; class' = refl };
        hand = λ e is. (refl, refl);
        begun = λ e is. (is, refl);
        no_hand = λ e is. (is, refl);
        no_leaving = λ e is. is;
        no_adopted = λ e is by. (is, by);
      };
      stands = put-same s.tasks t task;
      task' = fits;
      leaving = leaving;
      joining = joining;
    })

-- a task changes, and nothing else
pub stand_keeps : (k : Key) (t : ℕ) (task : Task) (g : Shadow) (s : Core) → OrphansGood k g s
    → ((x : ℕ) → is_returned x task ≡ is_returned x (s.tasks t))
    → ((x : ℕ) → own_kept t task x ≡ own_kept t (s.tasks t) x)
    → TaskFits k g (record s { tasks = put s.tasks t task }) t task
    → ((e : ℕ) → g.mail.mail e ≡ Mail.Leaving t → IsLeaving task e)
    → ((e : ℕ) → g.mail.mail e ≡ Mail.Adopted t → s.book.keeper e ≡ Keeper.By t → IsJoining task e)
    → OrphansGood k g (record s { tasks = put s.tasks t task })
stand_keeps k t task g s good returned own fits leaving joining =
    hand_keeps k t task g.taken s.spares g s good (record {
      taken_else = λ o ne. refl;
      spares_else = λ o ne. refl;
      count = λ x. ap (λ n. tally x (g.taken t) + tally x (s.spares t).items + n) (returned x);
      room = refl;
      own = own;
    }) fits leaving joining

-- words and mail of one slab that is in no chain change, and a task
abbrev pub way_shadow : mailing.Shadow → Shadow → Shadow
way_shadow mail g = record g { mail = mail }

abbrev pub words_core : ℕ → Task → (ℕ → Public) → (ℕ → Next) → (ℕ → Own) → (ℕ → ℕ) → Core → Core
words_core t task p n w d s = record s { publics = p; nexts = n; owns = w; headers = d; tasks = put s.tasks t task }

pub record WordRow (k : Key) (t e : ℕ) (task : Task) (mail' : mailing.Shadow) (g : Shadow) (s : Core) (r : Core)
    : Type 0 where
  pub only : OnlyAt e g s (way_shadow mail' g) r
  pub mail : MailGood k mail' (mail_core r)
  pub others : (o : ℕ) → o ≢ t → Apart o e g s (way_shadow mail' g) r
  pub orphan : is_orphan (s.book.keeper e) ≡ 0
  pub returned : (x : ℕ) → is_returned x task ≡ is_returned x (s.tasks t)
  pub about : IsAbout e task
  pub about' : IsAbout e (s.tasks t)
  pub own : OwnFits (put s.tasks t task) e (s.book.keeper e) (r.owns e)
  pub header : IsLeft (s.book.keeper e) → r.headers e ≡ to_header (record_of s.book e)
  pub fits : TaskFits k (way_shadow mail' g) r t task
  pub leaving : (x : ℕ) → mail'.mail x ≡ Mail.Leaving t → IsLeaving task x
  pub joining : (x : ℕ) → mail'.mail x ≡ Mail.Adopted t → s.book.keeper x ≡ Keeper.By t → IsJoining task x

pub word_keeps : (k : Key) (t e : ℕ) (task : Task) (mail' : mailing.Shadow) (p : ℕ → Public) (n : ℕ → Next) (w : ℕ
    → Own)
    (d : ℕ → ℕ) (g : Shadow) (s : Core) → OrphansGood k g s
    → WordRow k t e task mail' g s (words_core t task p n w d s)
    → OrphansGood k (way_shadow mail' g) (words_core t task p n w d s)
word_keeps k t e task mail' p n w d g s good row =
    let h = way_shadow mail' g in
    let r = words_core t task p n w d s in
    row_keeps k t e g s h r good (record {
      only = row.only;
      mail = row.mail;
      even = good.even e;
      tasks_else = put-other s.tasks t task;
      own_else = λ x ne. own-else t e x (put s.tasks t task t) (subst (IsAbout e) (sym
          (put-same s.tasks t task)) row.about)
          ne ∙ sym (own-else t e x (s.tasks t) row.about' ne);
      own = row.own;
      header = row.header;
      left_once = good.left_once;
      hands_once = hands_same t g.taken s.spares s.book.keeper s.book.keeper s.tasks (put s.tasks t task)
          (put-other s.tasks t task) (λ x. ap (is_returned x) (put-same s.tasks t task) ∙ row.returned x) (λ o x. refl)
          good.hands_once;
      left_chains = chains_same e g s h r row.only row.orphan good.left_once good.left_chains;
      rooms = good.rooms;
    })
    (seats_keep k t task g s h r good (record {
      others = λ o ne. rely_only o e g s h r row.only (row.others o ne) (put-other s.tasks t task o ne) refl refl;
      stands = put-same s.tasks t task;
      task' = row.fits;
      leaving = row.leaving;
      joining = row.joining;
    }))
