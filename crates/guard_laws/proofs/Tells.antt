-- A block is won whole or given back, a guard that is won alone is one seat's, and what a free guard tells.
use Rattle.std.proofs.Common.{◌≡◌, inl, inr, ℕ, ◌+◌, ◌≤◌, Bool, true, false, cond, eqb, refl, sym, ap}
use Rattle.std.proofs.Common.{subst, arith, ◌∙◌}
use Rattle.pool_words.specs.declared.words.Word.{Word}
use Rattle.word_codes.specs.declared.guards.Guard.{Guard}
use Rattle.word_codes.specs.Guards.{guard_of}
use Rattle.word_codes.proofs.CallerLemmas.{guards_read_back}
use Rattle.guards.specs.declared.win.Side.{Side}
use Rattle.guards.specs.declared.win.Taking.{Taking}
use Rattle.guards.specs.declared.win.WinAt.{WinAt}
use Rattle.guards.specs.declared.win.WinNext.{WinNext}
use Rattle.guards.specs.Win.{guard_at, other_side, taken_word, free_word}
use Rattle.word_laws.specs.Memory.{stored, found, fresh, word_at}
use Rattle.guard_laws.specs.Blocks.{Use, Place, Standing, at_edge, edge_of, edge_word}
use Rattle.guard_laws.specs.Blocks.{Task, half_of, piece_of, core_in, view_of, taken_guard, GuardFits, IsOf}
use Rattle.guard_laws.specs.Blocks.{IsNotFree, IsOffered, CallFits}
use Rattle.guard_laws.specs.Steps.{guard_in, shadow_won, shadow_taken}
use Rattle.guard_laws.specs.Named.{no_blocks}
use Rattle.guard_laws.specs.Laws.{IsTaken, WinEnds, BothWordsOrNone, GuardsAreWonByOne}
use Rattle.guard_laws.specs.Laws.{FreeGuardsTellBlocks, FreshPoolsHaveNoBlocks}
use Rattle.guard_laws.proofs.Edges.{edge_here, edge_else, range_in}
use Rattle.guard_laws.proofs.Wins.{free_is_open, open_is_bin}
use Rattle.guard_laws.proofs.Words.{edge_stored, word_is, guard_is, taken_reads, free_reads}
use Rattle.guard_laws.proofs.Keeps.{free_within, open_within, fits_at}

both_sides : (P : Side → Type 0) (k : Side) → P k → P (other_side k) → (e : Side) → P e
both_sides P Side.Begin a b Side.Begin = a
both_sides P Side.Begin a b Side.End = b
both_sides P Side.End a b Side.Begin = b
both_sides P Side.End a b Side.End = a

other_differs : (k : Side) → k ≡ other_side k → ⊥
other_differs Side.Begin q = cc
other_differs Side.End q = cc

pub both_words_or_none : BothWordsOrNone
both_words_or_none k t g m tasks c WinAt.First good is =
    by (guard_at c c.first) (eqb (word_at m (guard_at c c.first)) (free_word c))
  where
    by : (w : Word) (b : Bool)
        → WinEnds g (shadow_won t c (cond b (WinNext.Goes WinAt.Second) (WinNext.NotWon (word_at m w))) g) m
        (cond b (stored k m w (taken_word c.taking)) m) t c
        (cond b (WinNext.Goes WinAt.Second) (WinNext.NotWon (word_at m w)))
    by w true = refl
    by w false = (refl, refl)
both_words_or_none k t g m tasks c WinAt.Second good is =
    subst (λ (w : Word). Goal w (eqb (word_at m w) (free_word c))) (sym (guard_is c o fits))
    (by (eqb (word_at m (edge_word o y)) (free_word c)) refl)
  where
    fits : CallFits c
    fits = fits_at k g (core_in m tasks) t (Task.Wins c WinAt.Second) is good

    o : Side
    o = other_side c.first

    y : ℕ
    y = edge_of (other_side c.first) c.begin c.granules

    x : ℕ
    x = edge_of c.first c.begin c.granules

    Goal : Word → Bool → Type 0
    Goal w b = WinEnds g (shadow_won t c (cond b WinNext.Won (WinNext.Goes WinAt.Back)) g) m
        (cond b (stored k m w (taken_word c.taking)) m) t c (cond b WinNext.Won (WinNext.Goes WinAt.Back))

    reads : eqb (word_at m (edge_word o y)) (free_word c) ≡ true
        → guard_of (at_edge (core_in m tasks).words o y) ≡ Guard.Free c.granules
    reads e = sym (ap guard_of (word_is m tasks o y)) ∙ free_reads c.granules (word_at m (edge_word o y)) fits.told e

    mine : at_edge g.standing c.first x ≡ Standing.Won c.granules t c.taking
    mine = good.parts.half_is t c.first c.begin c.granules c.taking (ap half_of is)

    first_told : guard_in m c.first x ≡ taken_guard c.taking
    first_told = subst (λ s. GuardFits s (guard_in m c.first x)) mine (good.parts.words_fit c.first x)

    won : eqb (word_at m (edge_word o y)) (free_word c) ≡ true
        → IsTaken g (shadow_taken t c g) (stored k m (edge_word o y) (taken_word c.taking)) t c
    won e = record {
      bin = open_is_bin k.span (view_of g (core_in m tasks)) t c.taking c.first c.begin c.granules mine
          (free_is_open (at_edge g.standing o y) c.granules
          (subst (GuardFits (at_edge g.standing o y)) (reads e) (good.parts.words_fit o y))) good.parts;
      hand = λ z low high. range_in g.place c.begin c.granules
          (Place.Block c.begin c.granules (Use.Held t c.taking)) z low (let q = fits.ends in omega arith);
      guards = both_sides
          (λ d. guard_in (stored k m (edge_word o y) (taken_word c.taking)) d (edge_of d c.begin c.granules)
          ≡ taken_guard c.taking) c.first
          (edge_stored k m (λ seat. Task.Away) o y (taken_word c.taking)
          (λ s. guard_of (at_edge s.words c.first x) ≡ taken_guard c.taking) low
          (ap guard_of (edge_else o y (taken_word c.taking) (core_in m (λ seat. Task.Away)).words c.first x
          (λ q. other_differs c.first q.0)) ∙ first_told))
          (edge_stored k m (λ seat. Task.Away) o y (taken_word c.taking)
          (λ s. guard_of (at_edge s.words o y) ≡ taken_guard c.taking) low
          (ap guard_of (edge_here o y (taken_word c.taking) (core_in m (λ seat. Task.Away)).words)
          ∙ taken_reads c.taking));
    }
      where
        low : y ≤ k.span
        low = free_within k.span (view_of g (core_in m tasks)) o y c.granules good.parts (reads e)

    by : (b : Bool) → eqb (word_at m (edge_word o y)) (free_word c) ≡ b → Goal (edge_word o y) b
    by true e = won e
    by false e = refl
both_words_or_none k t g m tasks c WinAt.Back good is = record {
  place = refl;
  guard = subst (λ (w : Word). guard_in (stored k m w (free_word c)) c.first y ≡ Guard.Free c.granules)
      (sym (guard_is c c.first fits))
      (edge_stored k m (λ seat. Task.Away) c.first y (free_word c)
      (λ s. guard_of (at_edge s.words c.first y) ≡ Guard.Free c.granules)
      (open_within k.span (view_of g (core_in m tasks)) c.first y c.granules good.parts
      (subst (IsOf c.granules) (sym (good.parts.half_is t c.first c.begin c.granules c.taking (ap half_of is))) refl))
      (ap guard_of (edge_here c.first y (free_word c) (core_in m (λ seat. Task.Away)).words)
      ∙ guards_read_back (Guard.Free c.granules) fits.told));
}
  where
    fits : CallFits c
    fits = fits_at k g (core_in m tasks) t (Task.Wins c WinAt.Back) is good

    y : ℕ
    y = edge_of c.first c.begin c.granules

pub guards_are_won_by_one : GuardsAreWonByOne
guards_are_won_by_one k g m tasks t o e x n y l j i good one other same =
    let q : Standing.Won n t j ≡ Standing.Won l o i = sym (good.parts.half_is t e x n j one)
    ∙ ap (at_edge g.standing e) same ∙ good.parts.half_is o e y l i other in cc

pub free_guards_tell_blocks : FreeGuardsTellBlocks
free_guards_tell_blocks k g m tasks e y n good found =
    let open' = free_is_open (at_edge g.standing e y) n
    (subst (GuardFits (at_edge g.standing e y)) found (good.parts.words_fit e y)) in
    let o = good.parts.offers e y n (subst (IsOf n) (sym open') refl) in
    (o.0, o.1, o.2, low o.0 o.2)
  where
    low : (x : ℕ) → IsOffered g.place (λ t. piece_of (tasks t)) e x n → x + n ≤ k.span
    low x (inl f) = good.parts.within x n Use.Bin f
    low x (inr (s, (t, taking, f, p))) = good.parts.within x n (Use.Held t taking) f

pub zero_reads : guard_of 0 ≡ Guard.Used
unfolding guard_of
zero_reads = refl

zero_fits : IsNotFree (guard_of 0)
zero_fits = subst IsNotFree (sym zero_reads) tt

pub fresh_pools_have_no_blocks : FreshPoolsHaveNoBlocks
fresh_pools_have_no_blocks k small = record {
  small = small;
  parts = record {
    whole = λ y x n u e. absurd (cc);
    within = λ x n u e. absurd (cc);
    words_fit = fits;
    edges_fit = λ e x n u at. absurd (cc);
    offers = none;
    won_is = λ e y n t taking f. absurd (none_won e y n t taking f);
    half_is = λ t e x n taking f. absurd (cc);
    piece_is = λ t x n p. absurd (cc);
  };
  calls = λ seat. tt;
}
  where
    fits : (e : Side) (y : ℕ)
        → GuardFits (at_edge no_blocks.standing e y) (guard_of (at_edge (core_in fresh (λ seat. Task.Away)).words e y))
    fits Side.Begin y = zero_fits
    fits Side.End y = zero_fits

    none : (e : Side) (y n : ℕ) → IsOf n (at_edge no_blocks.standing e y)
        → (x : ℕ) × (edge_of e x n ≡ y) × IsOffered no_blocks.place (λ t. piece_of Task.Away) e x n
    none Side.Begin y n h = absurd h
    none Side.End y n h = absurd h

    none_won : (e : Side) (y n t : ℕ) (taking : Taking)
        → at_edge no_blocks.standing e y ≡ Standing.Won n t taking → ⊥
    none_won Side.Begin y n t taking f = cc
    none_won Side.End y n t taking f = cc
