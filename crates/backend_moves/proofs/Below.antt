-- What the laws of guards and of the queue say of blocks just before a step.
use Rattle.std.proofs.Common.{◌≡◌, ◌⊎◌, inl, inr, ℕ, ◌+◌, ◌<◌, ◌≤◌, ◌^◌, Bool, true, false, cond, eqb, refl, sym, ap}
use Rattle.std.proofs.Common.{subst, arith, ◌∙◌}
use Rattle.std.proofs.lemmas.Bool.{eqb-true}
use Rattle.std.proofs.lemmas.Bool.Decides.{nat_tests}
use Rattle.pool_words.specs.declared.words.Key.{Key}
use Rattle.pool_words.specs.Words.{lefts}
use Rattle.word_codes.specs.declared.guards.Guard.{Guard}
use Rattle.word_codes.specs.Guards.{guard_of}
use Rattle.word_codes.proofs.CallerLemmas.{guards_read_back}
use Rattle.guards.specs.declared.win.Side.{Side}
use Rattle.guards.specs.declared.win.Taking.{Taking}
use Rattle.guards.specs.declared.win.WinAt.{WinAt}
use Rattle.guards.specs.declared.win.WinCall.{WinCall}
use Rattle.guards.specs.declared.win.WinNext.{WinNext}
use Rattle.guards.specs.Win.{free_word, win_course, win_learn}
use Rattle.word_laws.specs.Memory.{Mem, found}
use Rattle.word_laws.proofs.CallerLemmas.{less_or}
use Rattle.chain_laws.specs.Chains.{tally}
use Rattle.guard_laws.specs.Blocks.{CallFits, GuardFits, GuardGood, IsOf, IsOffered, Parts, Place, Shadow, Standing}
use Rattle.guard_laws.specs.Blocks.{Task, TaskFits, Use, View, core_in, half_of, put_range, taken_guard}
use Rattle.guard_laws.specs.Blocks.{view_of}
use Rattle.pool_laws.specs.Wholes.{Whole, WholeGood}

-- before a range, or behind it
pub range_in : {A : Type 0} (f : ℕ → A) (a n : ℕ) (v : A) (x : ℕ) → a ≤ x → x < a + n → put_range f a n v x ≡ v
range_in f a n v x low high = grind (arith, nat_tests)

pub range_out : {A : Type 0} (f : ℕ → A) (a n : ℕ) (v : A) (x : ℕ) → (x < a) ⊎ (a + n ≤ x)
    → put_range f a n v x ≡ f x
range_out f a n v x out = grind (arith, nat_tests)

taken_not_free : (taking : Taking) (n : ℕ) → taken_guard taking ≡ Guard.Free n → ⊥
taken_not_free Taking.ForUse n q = cc
taken_not_free Taking.ToJoin n q = cc

free_is_open : (s : Standing) (n : ℕ) → GuardFits s (Guard.Free n) → s ≡ Standing.Open n
free_is_open Standing.Inner n f = absurd f
free_is_open Standing.Resting n f = absurd (cc)
free_is_open Standing.Walled n f = absurd (cc)
free_is_open Standing.Joining n f = absurd f
free_is_open Standing.Waiting n f = absurd (cc)
free_is_open (Standing.Open m) n f = cc
free_is_open (Standing.Won m t taking) n f = absurd (taken_not_free taking n (sym f))

-- a block that is offered at its end is in a bin
offered_is_bin : (span : ℕ) (v : View) (x n : ℕ) → Parts span v → IsOf n (v.standing.ends (x + n))
    → v.place x ≡ Place.Block x n Use.Bin
offered_is_bin span v x n parts is =
    let o = parts.offers Side.End (x + n) n is in
    by o.0 (let e = o.1 in omega arith) o.2
  where
    by : (y : ℕ) → y ≡ x → IsOffered v.place v.pieces Side.End y n → v.place x ≡ Place.Block x n Use.Bin
    by y same (inl bin) = subst (λ z. v.place z ≡ Place.Block z n Use.Bin) same bin
    by y same (inr held) = let e : Side.End ≡ Side.Begin = held.0 in absurd (cc)

won_is_free : (b : Bool) → cond b WinNext.Won (WinNext.Goes WinAt.Back) ≡ WinNext.Won → b ≡ true
won_is_free true is = refl
won_is_free false is = absurd (cc)

-- a block of which the seat has won one guard, and whose other one is still free, is in a bin
pub won_is_bin : (k : Key) (g : Shadow) (m : Mem) (tasks : ℕ → Task) (seat : ℕ) (c : WinCall)
    → GuardGood k g (core_in m tasks) → tasks seat ≡ Task.Wins c WinAt.Second
    → win_learn c WinAt.Second (found m (win_course c WinAt.Second)) ≡ WinNext.Won
    → g.place c.begin ≡ Place.Block c.begin c.granules Use.Bin
won_is_bin k g m tasks seat c good is won = by c.first refl
  where
    v : View
    v = view_of g (core_in m tasks)

    fits : CallFits c
    fits = subst TaskFits is (good.calls seat)

    free : eqb (found m (win_course c WinAt.Second)) (free_word c) ≡ true
    free = won_is_free (eqb (found m (win_course c WinAt.Second)) (free_word c)) won

    reads : guard_of (found m (win_course c WinAt.Second)) ≡ Guard.Free c.granules
    reads = ap guard_of (eqb-true (found m (win_course c WinAt.Second)) (free_word c) free)
        ∙ guards_read_back (Guard.Free c.granules) fits.told

    by : (e : Side) → c.first ≡ e → g.place c.begin ≡ Place.Block c.begin c.granules Use.Bin
    by Side.Begin first =
        let at : guard_of (m lefts (c.begin + c.granules)) ≡ Guard.Free c.granules =
        ap (λ y. guard_of (m lefts y)) fits.ends
        ∙ subst (λ e. guard_of (found m (win_course (record c { first = e }) WinAt.Second)) ≡ Guard.Free c.granules)
        first reads in
        offered_is_bin k.span v c.begin c.granules good.parts
        (subst (IsOf c.granules) (sym (free_is_open (g.standing.ends (c.begin + c.granules)) c.granules
        (subst (GuardFits (g.standing.ends (c.begin + c.granules))) at
        (good.parts.words_fit Side.End (c.begin + c.granules))))) refl)
    by Side.End first =
        let half = good.parts.half_is seat Side.End c.begin c.granules c.taking
        (ap half_of is ∙ ap (λ e. half_of (Task.Wins (record c { first = e }) WinAt.Second)) first) in
        offered_is_bin k.span v c.begin c.granules good.parts (subst (IsOf c.granules) (sym half) refl)

-- a block lies within the span, and has some granules
pub record LiesWithin (k : Key) (x n : ℕ) : Type 0 where
  pub some : 0 < n
  pub below : x + n ≤ k.span
  pub small : k.span < 2 ^ 32

pub lies_within : (k : Key) (w : Whole) (x n : ℕ) (u : Use) → WholeGood k w
    → w.pool.blocks.place x ≡ Place.Block x n u → LiesWithin k x n
lies_within k w x n u good is =
    let parts = good.free.bins.guards.parts in
    let low = (parts.whole x x n u is).below in
    record { some = omega arith; below = parts.within x n u is; small = good.free.bins.guards.small }

-- what is left of a chain that the seat took lies in its hand
none_of : (n : ℕ) → (0 < n → ⊥) → n ≡ 0
none_of n never = less_or 0 n (λ some. absurd (never some)) (λ least. omega arith)

pub bin_is_not_drained : (k : Key) (w : Whole) (seat x n : ℕ) → WholeGood k w
    → w.pool.blocks.place x ≡ Place.Block x n Use.Bin → tally x (w.drained seat) ≡ 0
bin_is_not_drained k w seat x n good is =
    none_of (tally x (w.drained seat)) (λ some.
    let held = good.free.queue.drained_is seat x some in
    let no : Place.Block x n Use.Bin ≡ Place.Block x _ (Use.Held seat Taking.ToJoin) = sym is ∙ held in cc)
