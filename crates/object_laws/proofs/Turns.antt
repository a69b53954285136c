-- A step of a seat that changes one unit, and slabs of its own alone.
use Rattle.std.proofs.Common.{◌≡◌, ◌≢◌, ℕ, ◌+◌, ◌≤◌, Some, None, refl, sym, ap, subst, arith, ◌∙◌}
use Rattle.pool_types.specs.declared.values.Grant.{Grant}
use Rattle.word_laws.specs.Memory.{put}
use Rattle.word_laws.proofs.CallerLemmas.{equal_or}
use Rattle.slab_laws.specs.Books.{Keeper}
use Rattle.slab_laws.specs.Heaps.{slab_of}
use Rattle.object_laws.specs.Objects.{Held, granted_in, grant_by, Shadow, Core}
use Rattle.object_laws.specs.Rely.{IsMine, SameSlab, Rely}
use Rattle.object_laws.specs.Rely.IsMine.{hand, ready, private}
use Rattle.slab_laws.proofs.CallerLemmas.{put-same, each}
use Rattle.object_laws.proofs.Seats.{by_other}

pub record OnlyAt (t u : ℕ) (g : Shadow) (s : Core) (h : Shadow) (r : Core) : Type 0 where
  pub marks : (x : ℕ) → x ≢ u → r.marks x ≡ s.marks x
  pub held : (x : ℕ) → x ≢ u → h.held x ≡ g.held x
  pub slab : (o c : ℕ) → o ≢ t → s.book.keeper c ≡ Keeper.By o → SameSlab c g s h r
  pub keeper : (c : ℕ) → r.book.keeper c ≡ s.book.keeper c
  pub lasts : (o : ℕ) → o ≢ t → r.lasts o ≡ s.lasts o
  pub tasks : (o : ℕ) → o ≢ t → r.tasks o ≡ s.tasks o

-- the other seats may rely as before, where the unit is not theirs
pub rely_at : (t u : ℕ) (g : Shadow) (s : Core) (h : Shadow) (r : Core) → OnlyAt t u g s h r
    → ((o : ℕ) → o ≢ t → IsMine o g s u → ⊥) → ((o : ℕ) → o ≢ t → h.held u ≢ Held.InHand o) → (o : ℕ) → o ≢ t
    → Rely o g s h r
rely_at t u g s h r only unit now o ne = record {
  mine = λ x m. let away : x ≢ u = (λ e. unit o ne (subst (IsMine o g s) e m)) in
      (only.marks x away, only.held x away);
  slabs = λ c by. only.slab o c ne by;
  strange = λ c not by. not (sym (only.keeper c) ∙ by);
  no_more = λ x e. equal_or x u (λ same. absurd (now o ne (ap h.held (sym same) ∙ e)))
      (λ away. sym (only.held x away) ∙ e);
  lasts = only.lasts o ne;
  task = only.tasks o ne;
}

pub same_slab : (g : Shadow) (s : Core) (c : ℕ) → SameSlab c g s g s
same_slab g s c = record { keeper = refl; same = refl; privates = refl; taken = refl }

-- a slab of this seat changes, and no other
pub own_slab : (t e : ℕ) (g : Shadow) (s : Core) (h : Shadow) (r : Core) → s.book.keeper e ≡ Keeper.By t
    → ((c : ℕ) → c ≢ e → SameSlab c g s h r) → (o c : ℕ) → o ≢ t → s.book.keeper c ≡ Keeper.By o → SameSlab c g s h r
own_slab t e g s h r by others o c ne is =
    others c (λ same. by_other (s.book.keeper c) t o (ap s.book.keeper same ∙ by) ne is)

-- whose a unit is not
pub private-no_other : (t u : ℕ) (g : Shadow) (s : Core) → g.held u ≡ Held.Private
    → s.book.keeper (slab_of u) ≡ Keeper.By t → (o : ℕ) → o ≢ t → IsMine o g s u → ⊥
private-no_other t u g s was by o ne (hand e) = let q : Held.Private ≡ Held.InHand o = sym was ∙ e in cc
private-no_other t u g s was by o ne (ready x n e) = let q : Held.Private ≡ Held.Ready o x n = sym was ∙ e in cc
private-no_other t u g s was by o ne (private e is) = by_other (s.book.keeper (slab_of u)) t o by ne is

pub granted-no_one : (u : ℕ) (gr : Grant) (g : Shadow) (s : Core) → granted_in (g.held u) ≡ Some gr → (o : ℕ)
    → IsMine o g s u → ⊥
granted-no_one u gr g s was o (hand e) = let q : None ≡ Some gr = sym (ap granted_in e) ∙ was in cc
granted-no_one u gr g s was o (ready x n e) = let q : None ≡ Some gr = sym (ap granted_in e) ∙ was in cc
granted-no_one u gr g s was o (private e is) = let q : None ≡ Some gr = sym (ap granted_in e) ∙ was in cc

pub none-no_one : (u : ℕ) (g : Shadow) (s : Core) → g.held u ≡ Held.NotOut → (o : ℕ) → IsMine o g s u → ⊥
none-no_one u g s was o (hand e) = let q : Held.NotOut ≡ Held.InHand o = sym was ∙ e in cc
none-no_one u g s was o (ready x n e) = let q : Held.NotOut ≡ Held.Ready o x n = sym was ∙ e in cc
none-no_one u g s was o (private e is) = let q : Held.NotOut ≡ Held.Private = sym was ∙ e in cc

pub hand-no_other : (t u : ℕ) (g : Shadow) (s : Core) → g.held u ≡ Held.InHand t → (o : ℕ) → o ≢ t
    → IsMine o g s u → ⊥
hand-no_other t u g s was o ne (hand e) = ne (let q : Held.InHand t ≡ Held.InHand o = sym was ∙ e in cc)
hand-no_other t u g s was o ne (ready x n e) = let q : Held.InHand t ≡ Held.Ready o x n = sym was ∙ e in cc
hand-no_other t u g s was o ne (private e is) = let q : Held.InHand t ≡ Held.Private = sym was ∙ e in cc

pub ready-no_other : (t u y m : ℕ) (g : Shadow) (s : Core) → g.held u ≡ Held.Ready t y m → (o : ℕ) → o ≢ t
    → IsMine o g s u → ⊥
ready-no_other t u y m g s was o ne (hand e) = let q : Held.Ready t y m ≡ Held.InHand o = sym was ∙ e in cc
ready-no_other t u y m g s was o ne (ready x n e) =
    ne (let q : Held.Ready t y m ≡ Held.Ready o x n = sym was ∙ e in cc)
ready-no_other t u y m g s was o ne (private e is) = let q : Held.Ready t y m ≡ Held.Private = sym was ∙ e in cc

-- no grant returns where a unit's holder becomes one without a grant, or one with a new one
pub again-put : (held : ℕ → Held) (lasts : ℕ → ℕ) (u : ℕ) (h : Held)
    → ((gr : Grant) → gr.number ≤ lasts gr.seat → granted_in h ≢ Some gr) → (x : ℕ) (gr : Grant)
    → gr.number ≤ lasts gr.seat → granted_in (put held u h x) ≡ Some gr → put held u h x ≡ held x
again-put held lasts u h new x gr made now = each
    (λ y q. granted_in q ≡ Some gr → q ≡ held y) held u h (λ y ne _. refl) (λ e. absurd (new gr made e)) x now

pub none-new : (lasts : ℕ → ℕ) (h : Held) → granted_in h ≡ None → (gr : Grant) → gr.number ≤ lasts gr.seat
    → granted_in h ≢ Some gr
none-new lasts h none gr made e = let q : None ≡ Some gr = sym none ∙ e in cc

pub next-new : (lasts : ℕ → ℕ) (h : Held) (t : ℕ) → granted_in h ≡ Some (grant_by t (lasts t + 1)) → (gr : Grant)
    → gr.number ≤ lasts gr.seat → granted_in h ≢ Some gr
next-new lasts h t is gr made e =
    let q : Some (grant_by t (lasts t + 1)) ≡ Some gr = sym is ∙ e in
    let same : grant_by t (lasts t + 1) ≡ gr = cc in
    let low = subst (λ (z : Grant). z.number ≤ lasts z.seat) (sym same) made in omega arith

pub lasts-same : (lasts : ℕ → ℕ) (seat : ℕ) → lasts seat ≤ lasts seat
lasts-same lasts seat = omega arith

pub lasts-more : (lasts : ℕ → ℕ) (t : ℕ) (seat : ℕ) → lasts seat ≤ put lasts t (lasts t + 1) seat
lasts-more lasts t = each (λ seat n. lasts seat ≤ n) lasts t (lasts t + 1) (λ seat _. omega arith) (omega arith)

-- what a new holder is not
pub not_in_hand : (held : ℕ → Held) (u : ℕ) (h : Held) (o : ℕ) → h ≢ Held.InHand o → put held u h u ≢ Held.InHand o
not_in_hand held u h o ne e = ne (sym (put-same held u h) ∙ e)
