-- Each step of a pen keeps the board's rule.
use Rattle.std.proofs.Common.{
  ◌≡◌,
  ◌≢◌,
  ◌⊎◌,
  ℕ,
  zero,
  suc,
  ◌<◌,
  Bool,
  true,
  false,
  cond,
  eqb,
  List,
  [],
  ◌∷◌,
  ◌++◌,
  length,
  length-set,
  replicate,
  refl,
  sym,
  ap,
  ◌∙◌,
  subst,
  inl,
  inr,
  ⊎_elim,
  arith,
}
use Rattle.std.specs.Prelude.{slice_set, slice_index}
use Rattle.std.proofs.lemmas.List.{set-get_or, length-replicate, get_or-set_same, get_or-set_other, length-append}
use mathlib.Core.Option.{some, some-injective, some-ne-none}
use lib.ListN.{get_elem?}
use Rattle.std.proofs.lemmas.Bool.Decides.{eqb_tells}
use Rattle.atomic_table.specs.Table.{State, Me, Act, Valid, carried_after, Allows, Splits, Joins}
use Rattle.atomic_table.proofs.Lists.{at_set, at_last, set_else, set_again}
use Rattle.name_board.specs.declared.rule.Cursor.{Cursor}
use Rattle.name_board.specs.declared.rule.Bound.{Bound}
use Rattle.name_board.specs.declared.rule.BoardView.{BoardView}
use Rattle.name_board.specs.Board.{
  owner_of,
  word_of,
  view,
  cursor,
  bound,
  Unset,
  IsSo,
  Kept,
  cursors_below,
  front_of,
  last_of,
  first_view,
  passed,
  Looks,
  Binds,
  LooksAt,
  BindsAt,
  Settles,
  MayBind,
}

pub at_end : {A : Type 0} (l : List A) (a : A) (j : ℕ) (b : A) → get_elem? (l ++ a ∷ []) j ≡ some b
    → ((get_elem? l j ≡ some b) × (j < length l)) ⊎ ((j ≡ length l) × (a ≡ b))
at_end [] a zero b e = inr (refl, some-injective a b e)
at_end [] a (suc j) b e = absurd (some-ne-none b (sym e))
at_end (x ∷ xs) a zero b e = inl (e, omega arith)
at_end (x ∷ xs) a (suc j) b e = ⊎_elim (λ (z : (get_elem? xs j ≡ some b)
    × (j < length xs)). let h = z.1 in inl (z.0, omega arith)) (λ (z : (j ≡ length xs)
    × (a ≡ b)). inr (ap suc z.0, z.1)) (at_end xs a j b e)

pub at_both : {A : Type 0} (l r : List A) (j : ℕ) (b : A) → get_elem? (l ++ r) j ≡ some b
    → (get_elem? l j ≡ some b) ⊎ ((i : ℕ) × (get_elem? r i ≡ some b))
at_both [] r j b e = inr (j, e)
at_both (x ∷ xs) r zero b e = inl e
at_both (x ∷ xs) r (suc j) b e = at_both xs r j b e

only : {A : Type 0} (x : A) (j : ℕ) (e : A) → get_elem? (x ∷ []) j ≡ some e → x ≡ e
only x zero e at = some-injective x e at
only x (suc j) e at = absurd (some-ne-none e (sym at))

at_front : {A : Type 0} (es : List A) (j : ℕ) (e : A) → get_elem? (front_of es) j ≡ some e → get_elem? es j ≡ some e
at_front [] j e at = absurd (some-ne-none e (sym at))
at_front (x ∷ []) j e at = absurd (some-ne-none e (sym at))
at_front (x ∷ y ∷ ys) zero e at = at
at_front (x ∷ y ∷ ys) (suc j) e at = at_front (y ∷ ys) j e at

below_length : (n : ℕ) → length (cursors_below n) ≡ n
below_length zero = refl
below_length (suc n) = length-append (cursors_below n) (cursor n 0 ∷ []) ∙ (let h = below_length n in omega arith)

below_at : (n j : ℕ) (c : Cursor) → get_elem? (cursors_below n) j ≡ some c → (cursor j 0 ≡ c) × (j < n)
below_at zero j c at = absurd (some-ne-none c (sym at))
below_at (suc n) j c at = ⊎_elim
    (λ (z : (get_elem? (cursors_below n) j ≡ some c)
    × (j < length (cursors_below n))). let r = below_at n j c z.0 in let h = r.1 in (r.0, omega arith))
    (λ (z : (j ≡ length (cursors_below n))
    × (cursor n 0 ≡ c)). let l = below_length n in let same : j ≡ n =
    z.0 ∙ l in (ap (λ (x : ℕ). cursor x 0) same ∙ z.1, omega arith))
    (at_end (cursors_below n) (cursor n 0) j c at)

pub front_below : (n : ℕ) → front_of (cursors_below (suc n)) ≡ cursors_below n
front_below n = go (cursors_below n)
  where
    go : (es : List Cursor) → front_of (es ++ cursor n 0 ∷ []) ≡ es
    go [] = refl
    go (x ∷ []) = refl
    go (x ∷ y ∷ ys) = ap (λ (zs : List Cursor). x ∷ zs) (go (y ∷ ys))

pub last_below : (n : ℕ) → last_of (cursors_below (suc n)) ≡ cursor n 0
last_below n = go (cursors_below n)
  where
    go : (es : List Cursor) → last_of (es ++ cursor n 0 ∷ []) ≡ cursor n 0
    go [] = refl
    go (x ∷ []) = refl
    go (x ∷ y ∷ ys) = go (y ∷ ys)

module _ (owners : List ℕ) where
  -- a new board
  pub opens : (n : ℕ) (ws : List ℕ) → ws ≡ replicate (suc (length owners)) 0 → Kept owners ws (first_view n ∷ [])
  opens n ws is = subst (λ (z : List ℕ). Kept owners z (first_view n ∷ [])) (sym is) (record {
    sized = length-replicate (suc (length owners)) 0;
    holder = λ _. 0;
    tied = tied_first;
    so = so_first;
  })
    where
      blank : List ℕ
      blank = replicate (suc (length owners)) 0

      zero_word : (b : ℕ) → word_of (replicate (suc (length owners)) 0) b ≡ 0
      zero_word b = go (suc (length owners)) (suc b)
        where
          go : (n i : ℕ) → slice_index (replicate n 0) i ≡ 0
          go zero i = refl
          go (suc n) zero = refl
          go (suc n) (suc i) = go n i

      tied_first : (id : ℕ) (v : BoardView) (j : ℕ) (c : Cursor) → get_elem? (first_view n ∷ []) id ≡ some v
          → get_elem? v.cursors j ≡ some c → (0 ≡ id) × Unset owners (replicate (suc (length owners)) 0) c
      tied_first zero v j c at at_c = (refl, λ b low own. zero_word b)
      tied_first (suc id) v j c at at_c = absurd (some-ne-none v (sym at))

      so_first : (id : ℕ) (v : BoardView) (j : ℕ) (p : Bound) → get_elem? (first_view n ∷ []) id ≡ some v
          → get_elem? v.known j ≡ some p → IsSo (replicate (suc (length owners)) 0) p
      so_first zero v j p at at_p =
          absurd (some-ne-none p (sym (subst (λ (x : BoardView). get_elem? x.known j ≡ some p) (sym (some-injective
          (first_view n) v at)) at_p)))
      so_first (suc id) v j p at at_p = absurd (some-ne-none v (sym at))

  -- a view whose cursors stay and that learns one thing that is so
  learnt_one : (ws : List ℕ) (views : List BoardView) (id : ℕ) (v : BoardView) (p : Bound) → Kept owners ws views
      → get_elem? views id ≡ some v → IsSo ws p
      → Kept owners ws (slice_set views id (view v.cursors (v.known ++ p ∷ [])))
  learnt_one ws views id v p r at so_p = record {
    sized = r.sized;
    holder = r.holder;
    tied = λ id2 u j c at_u at_c. ⊎_elim
        (λ (here : (id2 ≡ id)
        × (view v.cursors (v.known ++ p ∷ []) ≡ u)). let old =
        r.tied id v j c at (subst (λ (y : BoardView). get_elem? y.cursors j ≡ some c) (sym here.1) at_c) in
        (old.0 ∙ sym here.0, old.1))
        (λ (there : (id2 ≢ id) × (get_elem? views id2 ≡ some u)). r.tied id2 u j c there.1 at_c)
        (at_set views id id2 (view v.cursors (v.known ++ p ∷ [])) u at_u);
    so = λ id2 u j q at_u at_q. ⊎_elim
        (λ (here : (id2 ≡ id) × (view v.cursors (v.known ++ p ∷ []) ≡ u)). ⊎_elim
        (λ (z : (get_elem? v.known j ≡ some q) × (j < length v.known)). r.so id v j q at z.0)
        (λ (z : (j ≡ length v.known) × (p ≡ q)). subst (IsSo ws) z.1 so_p)
        (at_end v.known p j q (subst (λ (y : BoardView). get_elem? y.known j ≡ some q) (sym here.1) at_q)))
        (λ (there : (id2 ≢ id) × (get_elem? views id2 ≡ some u)). r.so id2 u j q there.1 at_q)
        (at_set views id id2 (view v.cursors (v.known ++ p ∷ [])) u at_u);
  }

module _ {S : Type 0} (owners : List ℕ) where
  abbrev pub rule_of : State S BoardView → Type 0
  rule_of s = Kept owners s.words s.views

  unchanged : (s : State S BoardView) (id w : ℕ) (u : BoardView) → Kept owners s.words (slice_set s.views id u)
      → Kept owners (slice_set s.words w (slice_index s.words w)) (slice_set s.views id u)
  unchanged s id w u k = subst (λ (z : List ℕ). Kept owners z (slice_set s.views id u)) (sym
      (set-get_or s.words w 0)) k

  looks_at : (slots id : ℕ) (me : Me S BoardView) (b : ℕ) (s : State S BoardView) → rule_of s
      → length s.homes ≡ slots → get_elem? s.views id ≡ some me.0 → slice_index s.words (suc b) < 18446744073709551616
      → (w : BoardView) × (a : Act S) × Valid s.homes me.1 a
      × Kept owners (slice_set s.words (suc b) (slice_index s.words (suc b))) (slice_set s.views id w)
      × LooksAt b me (slice_index s.words (suc b)) (w, carried_after me.1 a)
  looks_at slots id me b s r len at bounded = (
    cond (eqb n 0) me.0 seen,
    Act.keeps,
    tt,
    unchanged s id (suc b) (cond (eqb n 0) me.0 seen) (go (eqb n 0) (eqb_tells n 0)),
    (refl, refl),
  )
    where
      n : ℕ
      n = slice_index s.words (suc b)

      seen : BoardView
      seen = view me.0.cursors (me.0.known ++ bound b (slice_index s.words (suc b)) ∷ [])

      go : (t : Bool) → ((t ≡ true) × (slice_index s.words (suc b) ≡ 0)) ⊎ ((t ≡ false)
          × (slice_index s.words (suc b) ≢ 0))
          → Kept owners s.words (slice_set s.views id (cond t me.0 (view me.0.cursors (me.0.known ++ bound b
          (slice_index s.words (suc b)) ∷ []))))
      go true tells = subst (Kept owners s.words) (sym (set_again s.views id me.0 at)) r
      go false tells = ⊎_elim (λ (z : (false ≡ true) × (slice_index s.words (suc b) ≡ 0)). let q = z.0 in absurd (cc))
          (λ (z : (false ≡ false)
          × (slice_index s.words (suc b) ≢ 0)). learnt_one owners s.words s.views id me.0 (bound b
          (slice_index s.words (suc b))) r at (refl, z.1)) tells

  pub looks : (slots id : ℕ) (me : Me S BoardView) (w b : ℕ) → w ≡ suc b
      → Allows rule_of slots id me w (λ n. n) (Looks w me)
  looks slots id me w b is =
      subst (λ (x : ℕ). Allows rule_of slots id me x (λ n. n) (Looks x me)) (sym is) (looks_there slots id me b)
    where
      same_name : (a b : ℕ) → suc a ≡ suc b → b ≡ a
      same_name a b e = omega arith

      looks_there : (slots id : ℕ) (me : Me S BoardView) (b : ℕ)
          → Allows rule_of slots id me (suc b) (λ n. n) (Looks (suc b) me)
      looks_there slots id me b = λ s r len at bounded. (let q =
          looks_at slots id me b s r len at bounded in (
            q.0,
            q.1,
            q.2,
            q.3,
            λ x e. subst (λ (y : ℕ). LooksAt y me
                (slice_index s.words (suc b)) (q.0, carried_after me.1 q.1)) (sym (same_name b x e)) q.4,
          ))

  pub settles : (slots id : ℕ) (me : Me S BoardView) (w : ℕ) → Allows rule_of slots id me w (λ n. n) (Settles me)
  settles slots id me w s r len at bounded = (
    me.0,
    Act.keeps,
    tt,
    unchanged s id w me.0 (subst (Kept owners s.words) (sym (set_again s.views id me.0 at)) r),
    (refl, (s.words, λ j p at_p. r.so id me.0 j p at at_p)),
  )

  binds_at : (slots id : ℕ) (me : Me S BoardView) (b v : ℕ) → MayBind owners me.0.cursors b → v ≢ 0
      → b < length owners → (s : State S BoardView) → rule_of s → length s.homes ≡ slots
      → get_elem? s.views id ≡ some me.0 → slice_index s.words (suc b) < 18446744073709551616
      → (w : BoardView) × (a : Act S) × Valid s.homes me.1 a
      × Kept owners (slice_set s.words (suc b) v) (slice_set s.views id w)
      × BindsAt b me v (w, carried_after me.1 a)
  binds_at slots id me b v may some_ low s r len at bounded = (
    after,
    Act.keeps,
    tt,
    record {
      sized = length-set s.words (suc b) v ∙ r.sized;
      holder = r.holder;
      tied = tied';
      so = so';
    },
    (refl, refl),
  )
    where
      c : Cursor
      c = may.0

      after : BoardView
      after = view (passed (suc b) me.0.cursors) (me.0.known ++ bound b v ∷ [])

      mine : (r.holder may.0.thread ≡ id) × Unset owners s.words may.0
      mine = r.tied id me.0 0 may.0 at (subst (λ (x : List Cursor). get_elem? x 0 ≡ some may.0) (sym may.1) refl)

      was_unset : word_of s.words b ≡ 0
      was_unset = mine.1 b may.2 may.3

      other : (x : ℕ) → x ≢ b → word_of (slice_set s.words (suc b) v) x ≡ word_of s.words x
      other x n = get_or-set_other s.words (suc b) (suc x) v 0 (λ e. n (let q = e in omega arith))

      here_is : word_of (slice_set s.words (suc b) v) b ≡ v
      here_is = get_or-set_same s.words (suc b) v 0 (let z = r.sized in omega arith)

      stays : (p : Bound) → IsSo s.words p → IsSo (slice_set s.words (suc b) v) p
      stays p is = (other p.name (λ e. is.1 (sym is.0 ∙ ap (word_of s.words) e ∙ was_unset)) ∙ is.0, is.1)

      cursors_are : passed (suc b) me.0.cursors ≡ cursor may.0.thread (suc b) ∷ []
      cursors_are = ap (passed (suc b)) may.1

      tied' : (id2 : ℕ) (u : BoardView) (j : ℕ) (d : Cursor) → get_elem? (slice_set s.views id after) id2 ≡ some u
          → get_elem? u.cursors j ≡ some d → (r.holder d.thread ≡ id2) × Unset owners (slice_set s.words (suc b) v) d
      tied' id2 u j d at_u at_d = ⊎_elim
          (λ (here : (id2 ≡ id) × (after ≡ u)).
          let one : cursor may.0.thread (suc b) ≡ d =
          only (cursor may.0.thread (suc b)) j d (subst (λ (x : List Cursor). get_elem? x j ≡ some d) (ap (λ
          (y : BoardView). y.cursors) (sym here.1) ∙ cursors_are) at_d) in
          subst (λ (x : Cursor). (r.holder x.thread ≡ id2) × Unset owners (slice_set s.words (suc b) v) x) one
          (mine.0 ∙ sym here.0, λ x far own. other x (λ e. omega arith) ∙ mine.1 x (let q = may.2 in omega arith) own))
          (λ (there : (id2 ≢ id) × (get_elem? s.views id2 ≡ some u)).
          let old = r.tied id2 u j d there.1 at_d in (
            old.0,
            λ x far own. other x (λ e. there.0 (sym old.0 ∙ ap r.holder (sym own ∙ ap
                (owner_of owners) e ∙ may.3) ∙ mine.0)) ∙ old.1 x far own,
          ))
          (at_set s.views id id2 after u at_u)

      so' : (id2 : ℕ) (u : BoardView) (j : ℕ) (p : Bound) → get_elem? (slice_set s.views id after) id2 ≡ some u
          → get_elem? u.known j ≡ some p → IsSo (slice_set s.words (suc b) v) p
      so' id2 u j p at_u at_p = ⊎_elim
          (λ (here : (id2 ≡ id) × (after ≡ u)). ⊎_elim
          (λ (z : (get_elem? me.0.known j ≡ some p) × (j < length me.0.known)). stays p (r.so id me.0 j p at z.0))
          (λ (z : (j ≡ length me.0.known)
          × (bound b v ≡ p)). subst (IsSo (slice_set s.words (suc b) v)) z.1 (here_is, some_))
          (at_end me.0.known (bound b v) j p (subst (λ (y : BoardView). get_elem? y.known j ≡ some p)
          (sym here.1) at_p)))
          (λ (there : (id2 ≢ id) × (get_elem? s.views id2 ≡ some u)). stays p (r.so id2 u j p there.1 at_p))
          (at_set s.views id id2 after u at_u)

  pub binds : (slots id : ℕ) (me : Me S BoardView) (w b v : ℕ) → w ≡ suc b → MayBind owners me.0.cursors b → v ≢ 0
      → b < length owners → Allows rule_of slots id me w (λ _. v) (λ _. Binds w me v)
  binds slots id me w b v is may some_ low =
      subst (λ (x : ℕ). Allows rule_of slots id me x (λ _. v) (λ _. Binds x me v)) (sym is)
      (λ s r len at bounded. (let q =
      binds_at slots id me b v may some_ low s r len at bounded in (
        q.0,
        q.1,
        q.2,
        q.3,
        λ x e. subst (λ
            (y : ℕ). BindsAt y me v (q.0, carried_after me.1 q.1)) (sym (same_name b x e)) q.4,
      )))
    where
      same_name : (a b : ℕ) → suc a ≡ suc b → b ≡ a
      same_name a b e = omega arith

  -- the last thread's cursor is cut off
  pub splits : (id n : ℕ) (v : BoardView) → v ≡ first_view (suc n)
      → Splits rule_of id v (view (front_of v.cursors) v.known) (view (last_of v.cursors ∷ []) [])
  splits id n v is s r at =
      let left : BoardView = view (front_of v.cursors) v.known in
      let right : BoardView = view (last_of v.cursors ∷ []) [] in
      let new = length (slice_set s.views id left) in
      let last : last_of v.cursors ≡ cursor n 0 = ap (λ (x : BoardView). last_of x.cursors) is ∙ last_below n in
      let front : front_of v.cursors ≡ cursors_below n =
      ap (λ (x : BoardView). front_of x.cursors) is ∙ front_below n in
      let mine = r.tied id v n (cursor n 0) at (subst (λ (x : BoardView). get_elem? x.cursors n ≡ some
      (cursor n 0)) (sym is) (last_at n)) in
      record {
        sized = r.sized;
        holder = λ t. cond (eqb n t) new (r.holder t);
        tied = λ id2 u j c at_u at_c. ⊎_elim
            (λ (z : (get_elem? (slice_set s.views id left) id2 ≡ some u) × (id2 < new)). ⊎_elim
            (λ (here : (id2 ≡ id) × (left ≡ u)).
            let f = subst (λ (y : List Cursor). get_elem? y j ≡ some c) front (subst (λ
            (y : BoardView). get_elem? y.cursors j ≡ some c) (sym here.1) at_c) in
            let b = below_at n j c f in
            let old = r.tied id v j c at (at_front v.cursors j c (subst (λ
            (y : BoardView). get_elem? y.cursors j ≡ some c) (sym here.1) at_c)) in
            let differ : n ≢ c.thread = (λ e. let q : j ≡ c.thread = ap (λ (x : Cursor). x.thread) b.0 in let h =
            b.1 in omega arith) in
            (else_ n c.thread new (r.holder c.thread) differ ∙ old.0 ∙ sym here.0, old.1))
            (λ (there : (id2 ≢ id) × (get_elem? s.views id2 ≡ some u)).
            let old = r.tied id2 u j c there.1 at_c in (
              else_ n c.thread new (r.holder c.thread) (λ e. there.0 (sym old.0 ∙ ap r.holder
                  (sym e) ∙ mine.0)) ∙ old.0,
              old.1,
            ))
            (at_set s.views id id2 left u z.0))
            (λ (z : (id2 ≡ new) × (right ≡ u)).
            let one : cursor n 0 ≡ c =
            only (cursor n 0) j c (subst (λ (x : List Cursor). get_elem? x j ≡ some c) (ap (λ
            (y : BoardView). y.cursors) (sym z.1) ∙ ap (λ (x : Cursor). x ∷ []) last) at_c) in
            subst (λ (x : Cursor). (cond (eqb n x.thread) new (r.holder x.thread) ≡ id2)
            × Unset owners s.words x) one (here_ n new (r.holder n) ∙ sym z.0, mine.1))
            (at_end (slice_set s.views id left) right id2 u at_u);
        so = λ id2 u j p at_u at_p. ⊎_elim
            (λ (z : (get_elem? (slice_set s.views id left) id2 ≡ some u) × (id2 < new)). ⊎_elim
            (λ (here : (id2 ≡ id)
            × (left ≡ u)). r.so id v j p at (subst (λ (y : BoardView). get_elem? y.known j ≡ some p)
            (sym here.1) at_p))
            (λ (there : (id2 ≢ id) × (get_elem? s.views id2 ≡ some u)). r.so id2 u j p there.1 at_p)
            (at_set s.views id id2 left u z.0))
            (λ (z : (id2 ≡ new) × (right ≡ u)). absurd (some-ne-none p (sym (subst (λ
            (y : BoardView). get_elem? y.known j ≡ some p) (sym z.1) at_p))))
            (at_end (slice_set s.views id left) right id2 u at_u);
      }
    where
      here_ : (n x y : ℕ) → cond (eqb n n) x y ≡ x
      here_ n x y = ⊎_elim (λ (z : (eqb n n ≡ true)
          × (n ≡ n)). ap (λ (b : Bool). cond b x y) z.0) (λ (z : (eqb n n ≡ false)
          × (n ≢ n)). absurd (z.1 refl)) (eqb_tells n n)

      else_ : (n t x y : ℕ) → n ≢ t → cond (eqb n t) x y ≡ y
      else_ n t x y differ = ⊎_elim (λ (z : (eqb n t ≡ true)
          × (n ≡ t)). absurd (differ z.1)) (λ (z : (eqb n t ≡ false)
          × (n ≢ t)). ap (λ (b : Bool). cond b x y) z.0) (eqb_tells n t)

      last_at : (n : ℕ) → get_elem? (cursors_below (suc n)) n ≡ some (cursor n 0)
      last_at n = at_last (cursors_below n) (cursor n 0) n (below_length n)

  -- a pen learns what another knows, and the other's thread goes over to it
  pub joins : (id : ℕ) (v : BoardView) (other : ℕ) (w : BoardView)
      → Joins rule_of id v other w (view (v.cursors ++ w.cursors) (v.known ++ w.known)) (view [] [])
  joins id v other w s r at apart at_other =
      let both : BoardView = view (v.cursors ++ w.cursors) (v.known ++ w.known) in
      let spent : BoardView = view [] [] in
      let old_other : get_elem? s.views other ≡ some w = sym (set_else s.views id other both apart) ∙ at_other in
      record {
        sized = r.sized;
        holder = λ t. cond (eqb (r.holder t) other) id (r.holder t);
        tied = λ id2 u j c at_u at_c. ⊎_elim
            (λ (z : (id2 ≡ other)
            × (spent ≡ u)). absurd (some-ne-none c (sym (subst (λ
            (y : BoardView). get_elem? y.cursors j ≡ some c) (sym z.1) at_c))))
            (λ (z : (id2 ≢ other) × (get_elem? (slice_set s.views id both) id2 ≡ some u)). ⊎_elim
            (λ (here : (id2 ≡ id) × (both ≡ u)). ⊎_elim
            (λ (mine : get_elem? v.cursors j ≡ some c). let old = r.tied id v j c at mine in
            (stays_at (r.holder c.thread) id other old.0 (λ e. apart (sym e)) ∙ sym here.0, old.1))
            (λ (theirs : (i : ℕ) × (get_elem? w.cursors i ≡ some c)). let old =
            r.tied other w theirs.0 c old_other theirs.1 in
            (comes_to (r.holder c.thread) id other old.0 ∙ sym here.0, old.1))
            (at_both v.cursors w.cursors j c (subst (λ (y : BoardView). get_elem? y.cursors j ≡ some c)
            (sym here.1) at_c)))
            (λ (there : (id2 ≢ id) × (get_elem? s.views id2 ≡ some u)). let old = r.tied id2 u j c there.1 at_c in
            (elsewhere (r.holder c.thread) id other (λ e. z.0 (sym old.0 ∙ e)) ∙ old.0, old.1))
            (at_set s.views id id2 both u z.1))
            (at_set (slice_set s.views id both) other id2 spent u at_u);
        so = λ id2 u j p at_u at_p. ⊎_elim
            (λ (z : (id2 ≡ other)
            × (spent ≡ u)). absurd (some-ne-none p (sym (subst (λ
            (y : BoardView). get_elem? y.known j ≡ some p) (sym z.1) at_p))))
            (λ (z : (id2 ≢ other) × (get_elem? (slice_set s.views id both) id2 ≡ some u)). ⊎_elim
            (λ (here : (id2 ≡ id) × (both ≡ u)). ⊎_elim
            (λ (mine : get_elem? v.known j ≡ some p). r.so id v j p at mine)
            (λ (theirs : (i : ℕ) × (get_elem? w.known i ≡ some p)). r.so other w theirs.0 p old_other theirs.1)
            (at_both v.known w.known j p (subst (λ (y : BoardView). get_elem? y.known j ≡ some p) (sym here.1) at_p)))
            (λ (there : (id2 ≢ id) × (get_elem? s.views id2 ≡ some u)). r.so id2 u j p there.1 at_p)
            (at_set s.views id id2 both u z.1))
            (at_set (slice_set s.views id both) other id2 spent u at_u);
      }
    where
      elsewhere : (h id other : ℕ) → (h ≡ other → ⊥) → cond (eqb h other) id h ≡ h
      elsewhere h id other differ = ⊎_elim (λ (z : (eqb h other ≡ true)
          × (h ≡ other)). absurd (differ z.1)) (λ (z : (eqb h other ≡ false)
          × (h ≢ other)). ap (λ (b : Bool). cond b id h) z.0) (eqb_tells h other)

      stays_at : (h id other : ℕ) → h ≡ id → (id ≡ other → ⊥) → cond (eqb h other) id h ≡ id
      stays_at h id other is differ = elsewhere h id other (λ e. differ (sym is ∙ e)) ∙ is

      comes_to : (h id other : ℕ) → h ≡ other → cond (eqb h other) id h ≡ id
      comes_to h id other is = ⊎_elim (λ (z : (eqb h other ≡ true)
          × (h ≡ other)). ap (λ (b : Bool). cond b id h) z.0) (λ (z : (eqb h other ≡ false)
          × (h ≢ other)). absurd (z.1 is)) (eqb_tells h other)
