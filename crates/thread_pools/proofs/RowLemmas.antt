-- One pool more of a row.
use Rattle.std.proofs.Common.{◌≡◌, ◌≢◌, ◌⊎◌, inl, inr, ℕ, zero, suc, ◌+◌, ◌<◌, ◌≤◌, true, false, eqb, List, [], ◌∷◌, ◌++◌, length, get_or, refl, sym, ap, ◌∙◌, subst, ⊎_elim, arith}
use Rattle.std.specs.Prelude.{Option, Some, slice_get, slice_set, option_to_list}
use Rattle.std.proofs.lemmas.Option.{slice_get-get_or, slice_get_past}
use Rattle.std.proofs.lemmas.Bool.Decides.{eqb_tells}
use Rattle.list_laws.proofs.Gets.{slice_get-set_same, slice_get-set_other, slice_get-within, slice_get-end}
use Rattle.pool_types.specs.declared.raw.Raw.{Ghosts}
use Rattle.atomic_driver.specs.declared.seat.DriverSeat.{DriverSeat}
use Rattle.thread_pools.specs.declared.columns.Column.{Column}
use Rattle.thread_pools.specs.Columns.{TakesLast, TakesAt, PutsAt}

module _ {X : Type 0} where
  pub length_set : (xs : List X) (i : ℕ) (x : X) → length (slice_set xs i x) ≡ length xs
  length_set [] i x = refl
  length_set (y ∷ ys) zero x = refl
  length_set (y ∷ ys) (suc i) x = ap suc (length_set ys i x)

  pub length_more : (xs : List X) (x : X) → length (xs ++ x ∷ []) ≡ suc (length xs)
  length_more [] x = refl
  length_more (y ∷ ys) x = ap suc (length_more ys x)

below_or : (i n : ℕ) → (i < n) ⊎ (n ≤ i)
below_or i zero = inr (omega arith)
below_or zero (suc n) = inl (omega arith)
below_or (suc i) (suc n) = ⊎_elim (λ (low : i < n). inl (omega arith)) (λ (high : n ≤ i). inr (omega arith)) (below_or i n)

module _ {R : Type 0} {raw : Ghosts R} where
  -- the row has the heaps of the pools below this one, and the other columns are as they were
  pub record Taken (first columns : List (Column R raw)) (row : List (Option (DriverSeat R raw))) (pool : ℕ) : Type 0 where
    pub len : length columns ≡ length first
    pub count : length row ≡ pool
    pub done : (p : ℕ) → p < pool → TakesAt (slice_get first p) (slice_get row p) (slice_get columns p)
    pub rest : (p : ℕ) → pool ≤ p → slice_get columns p ≡ slice_get first p

  takes_here : (first now new : Option (Column R raw)) (row : Option (Option (DriverSeat R raw))) (old left : Column R raw)
      (heap : Option (DriverSeat R raw)) → now ≡ Some old → now ≡ first → new ≡ Some left → row ≡ Some heap →
      TakesLast old.heaps.items heap left.heaps.items → TakesAt first row new
  takes_here first now new row old left heap is same new_is row_is takes =
      subst (λ (z : Option (Column R raw)). TakesAt z row new) (sym is ∙ same)
      (heap, left, row_is, new_is, takes)

  pub taken_more : (first columns : List (Column R raw)) (row : List (Option (DriverSeat R raw))) (pool : ℕ)
      (d left : Column R raw) (heap : Option (DriverSeat R raw)) → pool < length columns → Taken first columns row pool →
      TakesLast (get_or columns pool d).heaps.items heap left.heaps.items →
      Taken first (slice_set columns pool left) (row ++ heap ∷ []) (pool + 1)
  taken_more first columns row pool d left heap low t takes = record {
    len = length_set columns pool left ∙ t.len;
    count = length_more row heap ∙ (let c = t.count in let e : suc (length row) ≡ pool + 1 = omega arith in e);
    done = λ p below. ⊎_elim
        (λ (z : (eqb p pool ≡ true) × (p ≡ pool)).
        takes_here (slice_get first p) (slice_get columns p) (slice_get (slice_set columns pool left) p)
        (slice_get (row ++ heap ∷ []) p) (get_or columns pool d) left heap
        (ap (slice_get columns) z.1 ∙ slice_get-get_or columns pool d low)
        (t.rest p (let e = z.1 in omega arith))
        (ap (slice_get (slice_set columns pool left)) z.1 ∙ slice_get-set_same columns pool left low)
        (ap (slice_get (row ++ heap ∷ [])) (z.1 ∙ sym t.count) ∙ slice_get-end row heap)
        takes)
        (λ (z : (eqb p pool ≡ false) × (p ≢ pool)).
        let lower : p < pool = let other = z.1 in omega arith in
        subst (λ (y : Option (Option (DriverSeat R raw)) × Option (Column R raw)). TakesAt (slice_get first p) y.0 y.1)
        (λ k. (
          sym (slice_get-within row (heap ∷ []) p (let c = t.count in omega arith)) k,
          sym (slice_get-set_other columns pool p left z.1) k,
        ))
        (t.done p lower))
        (eqb_tells p pool);
    rest = λ p above. slice_get-set_other columns pool p left (λ e. absurd (omega arith)) ∙ t.rest p (omega arith);
  }

  pub taken_begins : (first : List (Column R raw)) (row : List (Option (DriverSeat R raw))) → row ≡ [] →
      Taken first first row 0
  taken_begins first row none = record {
    len = refl;
    count = ap length none;
    done = λ p low. absurd (omega arith);
    rest = λ p above. refl;
  }

  pub taken_all : (first columns : List (Column R raw)) (row : List (Option (DriverSeat R raw))) (pool : ℕ) →
      length first ≤ pool → Taken first columns row pool → (p : ℕ) →
      TakesAt (slice_get first p) (slice_get row p) (slice_get columns p)
  taken_all first columns row pool all t p = ⊎_elim
      (λ (low : p < pool). t.done p low)
      (λ (high : pool ≤ p).
      let past = slice_get_past first p (omega arith) in
      subst (λ (z : Option (Column R raw)). TakesAt z (slice_get row p) (slice_get columns p)) (sym past)
      (slice_get_past row p (let c = t.count in omega arith), t.rest p high ∙ past))
      (below_or p pool)

  -- the heaps of the pools from this one on stand in their columns, and the other columns are as they were
  pub record Put (first columns : List (Column R raw)) (row left : List (Option (DriverSeat R raw))) : Type 0 where
    pub len : length columns ≡ length first
    pub count : length left ≤ length first
    pub same : (p : ℕ) → p < length left → slice_get left p ≡ slice_get row p
    pub rest : (p : ℕ) → p < length left → slice_get columns p ≡ slice_get first p
    pub done : (p : ℕ) → length left ≤ p → PutsAt (slice_get first p) (slice_get row p) (slice_get columns p)

  pub put_begins : (first : List (Column R raw)) (row : List (Option (DriverSeat R raw))) → length row ≡ length first →
      Put first first row row
  put_begins first row count = record {
    len = refl;
    count = omega arith;
    same = λ p low. refl;
    rest = λ p low. refl;
    done = λ p above. subst (λ (z : Option (Column R raw)). PutsAt z (slice_get row p) z)
        (sym (slice_get_past first p (omega arith))) refl;
  }

  puts_here : (first now new : Option (Column R raw)) (row : Option (Option (DriverSeat R raw))) (old all : Column R raw)
      (heap : Option (DriverSeat R raw)) → now ≡ Some old → now ≡ first → new ≡ Some all → row ≡ Some heap →
      all.heaps.items ≡ old.heaps.items ++ option_to_list heap → PutsAt first row new
  puts_here first now new row old all heap is same new_is row_is puts =
      subst (λ (z : Option (Column R raw)). PutsAt z row new) (sym is ∙ same) (heap, all, row_is, new_is, puts)

  pub put_more : (first columns : List (Column R raw)) (row left next : List (Option (DriverSeat R raw)))
      (d all : Column R raw) (heap : Option (DriverSeat R raw)) → Put first columns row left → left ≡ next ++ heap ∷ [] →
      all.heaps.items ≡ (get_or columns (length next) d).heaps.items ++ option_to_list heap →
      Put first (slice_set columns (length next) all) row next
  put_more first columns row left next d all heap t split puts =
      let more : length left ≡ suc (length next) = ap length split ∙ length_more next heap in
      let low : length next < length columns = let l = t.len in let c = t.count in omega arith in
      record {
        len = length_set columns (length next) all ∙ t.len;
        count = let c = t.count in omega arith;
        same = λ p below. sym (slice_get-within next (heap ∷ []) p below) ∙ sym (ap (λ (xs : List (Option (DriverSeat R raw))). slice_get xs p) split)
            ∙ t.same p (omega arith);
        rest = λ p below. slice_get-set_other columns (length next) p all (λ e. absurd (omega arith)) ∙ t.rest p (omega arith);
        done = λ p above. ⊎_elim
            (λ (z : (eqb p (length next) ≡ true) × (p ≡ length next)).
            puts_here (slice_get first p) (slice_get columns p) (slice_get (slice_set columns (length next) all) p)
            (slice_get row p) (get_or columns (length next) d) all heap
            (ap (slice_get columns) z.1 ∙ slice_get-get_or columns (length next) d low)
            (t.rest p (let e = z.1 in omega arith))
            (ap (slice_get (slice_set columns (length next) all)) z.1 ∙ slice_get-set_same columns (length next) all low)
            (sym (t.same p (let e = z.1 in omega arith)) ∙ ap (λ (xs : List (Option (DriverSeat R raw))). slice_get xs p) split
            ∙ ap (slice_get (next ++ heap ∷ [])) z.1 ∙ slice_get-end next heap)
            puts)
            (λ (z : (eqb p (length next) ≡ false) × (p ≢ length next)).
            subst (PutsAt (slice_get first p) (slice_get row p)) (sym (slice_get-set_other columns (length next) p all z.1))
            (t.done p (let other = z.1 in omega arith)))
            (eqb_tells p (length next));
      }

  pub put_all : (first columns : List (Column R raw)) (row left : List (Option (DriverSeat R raw))) → length left ≡ 0 →
      Put first columns row left → (p : ℕ) → PutsAt (slice_get first p) (slice_get row p) (slice_get columns p)
  put_all first columns row left none t p = t.done p (omega arith)

  -- the same, where the column's place is named by a number
  pub put_at : (first columns : List (Column R raw)) (row left next : List (Option (DriverSeat R raw)))
      (d all : Column R raw) (heap : Option (DriverSeat R raw)) (n : ℕ) → n ≡ length next → Put first columns row left →
      left ≡ next ++ heap ∷ [] → all.heaps.items ≡ (get_or columns n d).heaps.items ++ option_to_list heap →
      Put first (slice_set columns n all) row next
  put_at first columns row left next d all heap n is t split puts =
      subst (λ (m : ℕ). Put first (slice_set columns m all) row next) (sym is)
      (put_more first columns row left next d all heap t split
      (puts ∙ ap (λ (m : ℕ). (get_or columns m d).heaps.items ++ option_to_list heap) is))
