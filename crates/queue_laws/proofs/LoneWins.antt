-- A seat that is alone at guards wins each block of which it has won the first guard.
use Rattle.std.proofs.Common.{◌≡◌, inl, inr, ℕ, zero, suc, ◌+◌, ◌^◌, ◌<◌, true, cond, eqb, refl, sym, ap}
use Rattle.std.proofs.Common.{subst, arith, ◌∙◌}
use Rattle.std.proofs.lemmas.Bool.Decides.{nat_tests}
use Rattle.pool_words.specs.declared.words.Word.{Word}
use Rattle.word_codes.specs.declared.guards.Guard.{Guard}
use Rattle.word_codes.specs.Guards.{guard_of, guard_word}
use Rattle.guards.specs.declared.win.Side.{Side}
use Rattle.guards.specs.declared.win.WinAt.{WinAt}
use Rattle.guards.specs.declared.win.WinNext.{WinNext}
use Rattle.guards.specs.Win.{guard_at, other_side, free_word}
use Rattle.word_laws.specs.Memory.{word_at}
use Rattle.word_laws.proofs.CallerLemmas.{equal_or}
use Rattle.guard_laws.specs.Blocks as blocks
use Rattle.guard_laws.specs.Blocks.{Use, Place, Standing, Half, Piece, half_of, piece_of, at_edge, edge_of}
use Rattle.guard_laws.specs.Blocks.{edge_word, IsOf}
use Rattle.guard_laws.specs.Blocks.{IsOffered, GuardFits, CallFits, GuardGood, core_in}
use Rattle.guard_laws.proofs.CallerLemmas.{fits_at, guard_is, word_is}
use Rattle.queue_laws.specs.Laws.{AloneWinsAreWon}

free_told : (w n : ℕ) → guard_of w ≡ Guard.Free n → n + 3 < 2 ^ 64 → w ≡ guard_word (Guard.Free n)
unfolding guard_of guard_word
free_told zero n is low = absurd (cc)
free_told (suc zero) n is low = absurd (cc)
free_told (suc (suc zero)) n is low = absurd (cc)
free_told (suc (suc (suc j))) n is low = let e : j ≡ n = cc in omega arith

same_number : (a b : ℕ) → a ≡ b → eqb a b ≡ true
same_number a b is = grind (arith, nat_tests)

same_edge : (e : Side) (x y n : ℕ) → edge_of e x n ≡ edge_of e y n → x ≡ y
same_edge Side.Begin x y n q = q
same_edge Side.End x y n q = omega arith

sides_differ : (e : Side) → e ≡ other_side e → ⊥
sides_differ Side.Begin q = cc
sides_differ Side.End q = cc

pub alone_wins_are_won : AloneWinsAreWon
alone_wins_are_won k g m tasks t c good alone is =
    ap (λ b. cond b WinNext.Won (WinNext.Goes WinAt.Back)) reads
  where
    e : Side
    e = other_side c.first

    y : ℕ
    y = edge_of (other_side c.first) c.begin c.granules

    fits : CallFits c
    fits = fits_at k g (core_in m tasks) t (blocks.Task.Wins c WinAt.Second) is good

    half : half_of (tasks t) ≡ Half.HalfOf c.first c.begin c.granules c.taking
    half = ap half_of is

    none : (o x n : ℕ) → piece_of (tasks o) ≡ Piece.Got x n → ⊥
    none o x n got = equal_or o t
        (λ q. let z : Piece.NoPiece ≡ Piece.Got x n = sym (ap piece_of is) ∙ ap (λ j. piece_of (tasks j))
        (sym q) ∙ got in
        cc)
        (λ ne. let z : Piece.NoPiece ≡ Piece.Got x n = sym (ap piece_of (alone o ne)) ∙ got in cc)

    bin : g.place c.begin ≡ Place.Block c.begin c.granules Use.Bin
    bin = go (good.parts.offers c.first (edge_of c.first c.begin c.granules) c.granules
        (subst (IsOf c.granules) (sym (good.parts.half_is t c.first c.begin c.granules c.taking half)) refl))
      where
        go : (x : ℕ) × (edge_of c.first x c.granules ≡ edge_of c.first c.begin c.granules)
            × IsOffered g.place (λ o. piece_of (tasks o)) c.first x c.granules
            → g.place c.begin ≡ Place.Block c.begin c.granules Use.Bin
        go (x, q, inl f) = subst (λ z. g.place z ≡ Place.Block z c.granules Use.Bin)
            (same_edge c.first x c.begin c.granules q) f
        go (x, q, inr (s, (o, taking, f, p))) = absurd (none o x c.granules p)

    told : guard_of (at_edge (core_in m tasks).words e y) ≡ Guard.Free c.granules
    told = by (at_edge g.standing e y) refl (good.parts.edges_fit e c.begin c.granules Use.Bin bin)
      where
        by : (s : Standing) → at_edge g.standing e y ≡ s → IsOf c.granules s
            → guard_of (at_edge (core_in m tasks).words e y) ≡ Guard.Free c.granules
        by Standing.Inner r f = absurd f
        by Standing.Resting r f = absurd f
        by Standing.Walled r f = absurd f
        by Standing.Joining r f = absurd f
        by Standing.Waiting r f = absurd f
        by (Standing.Open j) r f =
            subst (λ s. GuardFits s (guard_of (at_edge (core_in m tasks).words e y))) r (good.parts.words_fit e y)
            ∙ ap Guard.Free f
        by (Standing.Won j o taking) r f = let w = good.parts.won_is e y j o taking r in absurd (equal_or o t
            (λ q. let z : Half.HalfOf c.first c.begin c.granules c.taking ≡ Half.HalfOf e w.0 j taking =
            sym half ∙ ap (λ i. half_of (tasks i)) (sym q) ∙ w.2 in sides_differ c.first (cc))
            (λ ne. let z : Half.NoHalf ≡ Half.HalfOf e w.0 j taking = sym (ap half_of (alone o ne)) ∙ w.2 in cc))

    reads : eqb (word_at m (guard_at c (other_side c.first))) (free_word c) ≡ true
    reads = subst (λ (w : Word). eqb (word_at m w) (free_word c) ≡ true) (sym (guard_is c e fits))
        (same_number (word_at m (edge_word e y)) (free_word c)
        (free_told (word_at m (edge_word e y)) c.granules (ap guard_of (word_is m tasks e y) ∙ told) fits.told))
