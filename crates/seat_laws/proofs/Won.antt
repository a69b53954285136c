-- A block of which a seat has won one guard, and whose other one is free, is in a bin.
use Rattle.std.proofs.Common.{◌≡◌, inl, inr, ℕ, ◌+◌, Bool, true, false, cond, eqb, refl, sym, ap}
use Rattle.std.proofs.Common.{subst, arith, ◌∙◌}
use Rattle.std.proofs.lemmas.Bool.{eqb-true}
use Rattle.pool_words.specs.declared.words.Key.{Key}
use Rattle.pool_words.specs.Words.{lefts}
use Rattle.word_codes.specs.declared.guards.Guard.{Guard}
use Rattle.word_codes.specs.Guards.{guard_of}
use Rattle.word_codes.proofs.CallerLemmas.{guards_read_back}
use Rattle.guards.specs.declared.win.Side.{Side}
use Rattle.guards.specs.declared.win.Taking.{Taking}
use Rattle.guards.specs.declared.win.WinAt.{WinAt}
use Rattle.guards.specs.declared.win.WinCall.{WinCall}
use Rattle.guards.specs.declared.win.WinNext.{WinNext}
use Rattle.guards.specs.Win.{free_word, win_course, win_learn}
use Rattle.word_laws.specs.Memory.{Mem, found}
use Rattle.guard_laws.specs.Blocks.{CallFits, GuardFits, GuardGood, IsOf, IsOffered, Parts, Place, Shadow, Standing}
use Rattle.guard_laws.specs.Blocks.{Task, TaskFits, Use, View, core_in, half_of, taken_guard}
use Rattle.guard_laws.specs.Blocks.{view_of}

taken_not_free : (taking : Taking) (n : ℕ) → taken_guard taking ≡ Guard.Free n → ⊥
taken_not_free Taking.ForUse n q = cc
taken_not_free Taking.ToJoin n q = cc

free_is_open : (s : Standing) (n : ℕ) → GuardFits s (Guard.Free n) → s ≡ Standing.Open n
free_is_open Standing.Inner n f = absurd f
free_is_open Standing.Resting n f = absurd (cc)
free_is_open Standing.Walled n f = absurd (cc)
free_is_open Standing.Joining n f = absurd f
free_is_open Standing.Waiting n f = absurd (cc)
free_is_open (Standing.Open m) n f = cc
free_is_open (Standing.Won m t taking) n f = absurd (taken_not_free taking n (sym f))

-- a block that is offered at its end is in a bin
offered_is_bin : (span : ℕ) (v : View) (x n : ℕ) → Parts span v → IsOf n (v.standing.ends (x + n))
    → v.place x ≡ Place.Block x n Use.Bin
offered_is_bin span v x n parts is =
    let o = parts.offers Side.End (x + n) n is in
    by o.0 (let e = o.1 in omega arith) o.2
  where
    by : (y : ℕ) → y ≡ x → IsOffered v.place v.pieces Side.End y n → v.place x ≡ Place.Block x n Use.Bin
    by y same (inl bin) = subst (λ z. v.place z ≡ Place.Block z n Use.Bin) same bin
    by y same (inr held) = let e : Side.End ≡ Side.Begin = held.0 in absurd (cc)

won_is_free : (b : Bool) → cond b WinNext.Won (WinNext.Goes WinAt.Back) ≡ WinNext.Won → b ≡ true
won_is_free true is = refl
won_is_free false is = absurd (cc)

-- a block of which the seat has won one guard, and whose other one is still free, is in a bin
pub won_is_bin : (k : Key) (g : Shadow) (m : Mem) (tasks : ℕ → Task) (seat : ℕ) (c : WinCall)
    → GuardGood k g (core_in m tasks) → tasks seat ≡ Task.Wins c WinAt.Second
    → win_learn c WinAt.Second (found m (win_course c WinAt.Second)) ≡ WinNext.Won
    → g.place c.begin ≡ Place.Block c.begin c.granules Use.Bin
won_is_bin k g m tasks seat c good is won = by c.first refl
  where
    v : View
    v = view_of g (core_in m tasks)

    fits : CallFits c
    fits = subst TaskFits is (good.calls seat)

    free : eqb (found m (win_course c WinAt.Second)) (free_word c) ≡ true
    free = won_is_free (eqb (found m (win_course c WinAt.Second)) (free_word c)) won

    reads : guard_of (found m (win_course c WinAt.Second)) ≡ Guard.Free c.granules
    reads = ap guard_of (eqb-true (found m (win_course c WinAt.Second)) (free_word c) free)
        ∙ guards_read_back (Guard.Free c.granules) fits.told

    by : (e : Side) → c.first ≡ e → g.place c.begin ≡ Place.Block c.begin c.granules Use.Bin
    by Side.Begin first =
        let at : guard_of (m lefts (c.begin + c.granules)) ≡ Guard.Free c.granules =
        ap (λ y. guard_of (m lefts y)) fits.ends
        ∙ subst (λ e. guard_of (found m (win_course (record c { first = e }) WinAt.Second)) ≡ Guard.Free c.granules)
        first reads in
        offered_is_bin k.span v c.begin c.granules good.parts
        (subst (IsOf c.granules) (sym (free_is_open (g.standing.ends (c.begin + c.granules)) c.granules
        (subst (GuardFits (g.standing.ends (c.begin + c.granules))) at
        (good.parts.words_fit Side.End (c.begin + c.granules))))) refl)
    by Side.End first =
        let half = good.parts.half_is seat Side.End c.begin c.granules c.taking
        (ap half_of is ∙ ap (λ e. half_of (Task.Wins (record c { first = e }) WinAt.Second)) first) in
        offered_is_bin k.span v c.begin c.granules good.parts (subst (IsOf c.granules) (sym half) refl)
