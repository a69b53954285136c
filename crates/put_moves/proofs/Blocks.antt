-- What the laws of guards and of the queue say of blocks just before a step, and how blocks come into the hand and leave it.
use Rattle.std.proofs.Common.{◌≡◌, ◌⊎◌, inl, inr, ℕ, ◌+◌, ◌<◌, ◌≤◌, ◌^◌, Bool, List, true, false, cond, eqb, refl, sym, ap}
use Rattle.std.proofs.Common.{subst, arith, ◌∙◌}
use Rattle.std.proofs.lemmas.Bool.{eqb-true}
use Rattle.std.proofs.lemmas.Bool.Decides.{nat_tests}
use Rattle.pool_words.specs.declared.words.Key.{Key}
use Rattle.pool_words.specs.Words.{lefts}
use Rattle.word_codes.specs.declared.guards.Guard.{Guard}
use Rattle.word_codes.specs.Guards.{guard_of}
use Rattle.guards.specs.declared.win.Side.{Side}
use Rattle.guards.specs.declared.win.Taking.{Taking}
use Rattle.guards.specs.declared.win.WinAt.{WinAt}
use Rattle.guards.specs.declared.win.WinCall.{WinCall}
use Rattle.guards.specs.declared.win.WinNext.{WinNext}
use Rattle.guards.specs.Win.{free_word, win_course, win_learn}
use Rattle.word_laws.specs.Memory.{Mem, found}
use Rattle.word_laws.proofs.CallerLemmas.{less_or}
use Rattle.chain_laws.specs.Chains.{tally}
use Rattle.guard_laws.specs.Blocks.{CallFits, GuardFits, GuardGood, IsOf, IsOffered, Parts, Place, Shadow, Standing}
use Rattle.guard_laws.specs.Blocks.{Task, TaskFits, Use, View, core_in, half_of, put_range, taken_guard}
use Rattle.guard_laws.specs.Blocks.{view_of}
use Rattle.pool_laws.specs.Wholes.{Whole, WholeGood}
use Rattle.hand_blocks.specs.Changes.{Alters, Change}
use Rattle.hand_blocks.specs.Hands.{Hand, hand}
use Rattle.seat_ties.specs.Ties.{HandsTied}
use Rattle.seat_hands.proofs.CallerLemmas.{hands_come, hands_leave, hands_merge, others_are_none}
use Rattle.put_moves.proofs.Words.{guard_of_free}

-- before a range, or behind it
pub range_in : {A : Type 0} (f : ℕ → A) (a n : ℕ) (v : A) (x : ℕ) → a ≤ x → x < a + n → put_range f a n v x ≡ v
range_in f a n v x low high = grind (arith, nat_tests)

pub range_out : {A : Type 0} (f : ℕ → A) (a n : ℕ) (v : A) (x : ℕ) → (x < a) ⊎ (a + n ≤ x)
    → put_range f a n v x ≡ f x
range_out f a n v x out = grind (arith, nat_tests)

taken_not_free : (taking : Taking) (n : ℕ) → taken_guard taking ≡ Guard.Free n → ⊥
taken_not_free Taking.ForUse n q = cc
taken_not_free Taking.ToJoin n q = cc

free_is_open : (s : Standing) (n : ℕ) → GuardFits s (Guard.Free n) → s ≡ Standing.Open n
free_is_open Standing.Inner n f = absurd f
free_is_open Standing.Resting n f = absurd (cc)
free_is_open Standing.Walled n f = absurd (cc)
free_is_open Standing.Joining n f = absurd f
free_is_open Standing.Waiting n f = absurd (cc)
free_is_open (Standing.Open m) n f = cc
free_is_open (Standing.Won m t taking) n f = absurd (taken_not_free taking n (sym f))

-- a block that is offered at its end is in a bin
offered_is_bin : (span : ℕ) (v : View) (x n : ℕ) → Parts span v → IsOf n (v.standing.ends (x + n))
    → v.place x ≡ Place.Block x n Use.Bin
offered_is_bin span v x n parts is =
    let o = parts.offers Side.End (x + n) n is in
    by o.0 (let e = o.1 in omega arith) o.2
  where
    by : (y : ℕ) → y ≡ x → IsOffered v.place v.pieces Side.End y n → v.place x ≡ Place.Block x n Use.Bin
    by y same (inl bin) = subst (λ z. v.place z ≡ Place.Block z n Use.Bin) same bin
    by y same (inr held) = let e : Side.End ≡ Side.Begin = held.0 in absurd (cc)

won_is_free : (b : Bool) → cond b WinNext.Won (WinNext.Goes WinAt.Back) ≡ WinNext.Won → b ≡ true
won_is_free true is = refl
won_is_free false is = absurd (cc)

-- a block of which the seat has won one guard, and whose other one is still free, is in a bin
pub won_is_bin : (k : Key) (g : Shadow) (m : Mem) (tasks : ℕ → Task) (seat : ℕ) (c : WinCall)
    → GuardGood k g (core_in m tasks) → tasks seat ≡ Task.Wins c WinAt.Second
    → win_learn c WinAt.Second (found m (win_course c WinAt.Second)) ≡ WinNext.Won
    → g.place c.begin ≡ Place.Block c.begin c.granules Use.Bin
won_is_bin k g m tasks seat c good is won = by c.first refl
  where
    v : View
    v = view_of g (core_in m tasks)

    fits : CallFits c
    fits = subst TaskFits is (good.calls seat)

    free : eqb (found m (win_course c WinAt.Second)) (free_word c) ≡ true
    free = won_is_free (eqb (found m (win_course c WinAt.Second)) (free_word c)) won

    reads : guard_of (found m (win_course c WinAt.Second)) ≡ Guard.Free c.granules
    reads = ap guard_of (eqb-true (found m (win_course c WinAt.Second)) (free_word c) free)
        ∙ guard_of_free c.granules fits.told

    by : (e : Side) → c.first ≡ e → g.place c.begin ≡ Place.Block c.begin c.granules Use.Bin
    by Side.Begin first =
        let at : guard_of (m lefts (c.begin + c.granules)) ≡ Guard.Free c.granules =
        ap (λ y. guard_of (m lefts y)) fits.ends
        ∙ subst (λ e. guard_of (found m (win_course (record c { first = e }) WinAt.Second)) ≡ Guard.Free c.granules)
        first reads in
        offered_is_bin k.span v c.begin c.granules good.parts
        (subst (IsOf c.granules) (sym (free_is_open (g.standing.ends (c.begin + c.granules)) c.granules
        (subst (GuardFits (g.standing.ends (c.begin + c.granules))) at
        (good.parts.words_fit Side.End (c.begin + c.granules))))) refl)
    by Side.End first =
        let half = good.parts.half_is seat Side.End c.begin c.granules c.taking
        (ap half_of is ∙ ap (λ e. half_of (Task.Wins (record c { first = e }) WinAt.Second)) first) in
        offered_is_bin k.span v c.begin c.granules good.parts (subst (IsOf c.granules) (sym half) refl)

-- a block lies within the span, and has some granules
pub record LiesWithin (k : Key) (x n : ℕ) : Type 0 where
  pub some : 0 < n
  pub below : x + n ≤ k.span
  pub small : k.span < 2 ^ 32

pub lies_within : (k : Key) (w : Whole) (x n : ℕ) (u : Use) → WholeGood k w
    → w.pool.blocks.place x ≡ Place.Block x n u → LiesWithin k x n
lies_within k w x n u good is =
    let parts = good.free.bins.guards.parts in
    let low = (parts.whole x x n u is).below in
    record { some = omega arith; below = parts.within x n u is; small = good.free.bins.guards.small }

-- what is left of a chain that the seat took lies in its hand
none_of : (n : ℕ) → (0 < n → ⊥) → n ≡ 0
none_of n never = less_or 0 n (λ some. absurd (never some)) (λ least. omega arith)

pub bin_is_not_drained : (k : Key) (w : Whole) (seat x n : ℕ) → WholeGood k w
    → w.pool.blocks.place x ≡ Place.Block x n Use.Bin → tally x (w.drained seat) ≡ 0
bin_is_not_drained k w seat x n good is =
    none_of (tally x (w.drained seat)) (λ some.
    let held = good.free.queue.drained_is seat x some in
    let no : Place.Block x n Use.Bin ≡ Place.Block x _ (Use.Held seat Taking.ToJoin) = sym is ∙ held in cc)

-- a block comes into the hand out of a bin
pub comes_in : (k : Key) (w : Whole) (seat x n : ℕ) (taking : Taking) (before behind : List Hand) → WholeGood k w
    → w.pool.blocks.place x ≡ Place.Block x n Use.Bin → HandsTied w.pool.blocks.place (w.drained seat) seat before
    → Alters (Change.Comes (hand x n taking)) before behind
    → HandsTied (put_range w.pool.blocks.place x n (Place.Block x n (Use.Held seat taking))) (w.drained seat) seat
    behind
comes_in k w seat x n taking before behind good bin tied alters =
    let place : ℕ → Place = w.pool.blocks.place in
    let later : ℕ → Place = put_range place x n (Place.Block x n (Use.Held seat taking)) in
    let some = (lies_within k w x n Use.Bin good bin).some in
    hands_come place later (w.drained seat) seat x n taking before behind tied
    (others_are_none place seat x n Use.Bin good.free.bins.guards.parts.whole bin tt) some
    (bin_is_not_drained k w seat x n good bin)
    (λ z out. range_out place x n (Place.Block x n (Use.Held seat taking)) z out)
    (range_in place x n (Place.Block x n (Use.Held seat taking)) x (omega arith) (omega arith)) alters

-- a block leaves the hand for another use
pub goes_out : (k : Key) (w : Whole) (seat x n : ℕ) (taking : Taking) (now : Use) (before behind : List Hand)
    → WholeGood k w → w.pool.blocks.place x ≡ Place.Block x n (Use.Held seat taking)
    → HandsTied w.pool.blocks.place (w.drained seat) seat before
    → Alters (Change.Leaves (hand x n taking)) before behind
    → HandsTied (put_range w.pool.blocks.place x n (Place.Block x n now)) (w.drained seat) seat behind
goes_out k w seat x n taking now before behind good held tied alters =
    let place : ℕ → Place = w.pool.blocks.place in
    hands_leave place (put_range place x n (Place.Block x n now)) (w.drained seat) seat n (hand x n taking) before
    behind tied good.free.bins.guards.parts.whole held (λ z out. range_out place x n (Place.Block x n now) z out)
    alters

-- two blocks are one
pub are_merged : (k : Key) (w : Whole) (seat x a b : ℕ) (before behind : List Hand) → WholeGood k w
    → w.pool.blocks.place x ≡ Place.Block x a (Use.Held seat Taking.ToJoin)
    → HandsTied w.pool.blocks.place (w.drained seat) seat before
    → Alters (Change.Merges x a b) before behind
    → HandsTied (put_range w.pool.blocks.place x (a + b) (Place.Block x (a + b) (Use.Held seat Taking.ToJoin)))
    (w.drained seat) seat behind
are_merged k w seat x a b before behind good held tied alters =
    let place : ℕ → Place = w.pool.blocks.place in
    let now : Place = Place.Block x (a + b) (Use.Held seat Taking.ToJoin) in
    let some = (lies_within k w x a (Use.Held seat Taking.ToJoin) good held).some in
    hands_merge place (put_range place x (a + b) now) (w.drained seat) seat x a b before behind tied
    good.free.bins.guards.parts.whole (λ z out. range_out place x (a + b) now z out)
    (range_in place x (a + b) now x (omega arith) (omega arith)) alters
