-- Steps by which blocks in bins stay apart, and where calm begins and ends.
use Rattle.std.proofs.Common.{◌≡◌, ◌⊎◌, inl, inr, ℕ, ◌+◌, ◌-◌, ◌<◌, sym, ap, subst, arith, ◌∙◌}
use Rattle.guards.specs.declared.win.Taking.{Taking}
use Rattle.guards.specs.declared.win.WinNext.{WinNext}
use Rattle.guards.specs.Win.{win_course, win_learn}
use Rattle.backend_bins.specs.Blocks.{block}
use Rattle.word_laws.specs.Memory.{after, found}
use Rattle.guard_laws.specs.Blocks as blocks
use Rattle.guard_laws.specs.Blocks.{Use, Place, put_range, core_in, GuardGood}
use Rattle.guard_laws.specs.Steps.{GuardStep, shadow_won, IsOwn, use_drained, place_drained}
use Rattle.guard_laws.specs.Laws.{WinEnds}
use Rattle.guard_laws.proofs.CallerLemmas.{IsOut, ranged_was, range_each, drained_was, both_words_or_none}
use Rattle.queue_laws.specs.Alone.{NoRight, IsAtRest}
use Rattle.queue_laws.specs.Apart.{StepsKeepApart, WonBlocksStandApart, CutsStandApart, RestsStayApart}
use Rattle.queue_laws.specs.Apart.{CalmBeginsAndEnds}
use Rattle.queue_laws.proofs.Alone.{FewerBins, two_fewer, left_fewer, right_fewer, fewer_ranged, fewer_won, two_binned}
use Rattle.queue_laws.proofs.KeepCalm.{none_queued, rest_left, some_of}
use Rattle.queue_laws.proofs.Rests.{not_queued, not_joined}

own_no_bin : (t : ℕ) (u : Use) → IsOwn t u → u ≡ Use.Bin → ⊥
own_no_bin t Use.Bin own q = own
own_no_bin t (Use.Held o taking) own q = cc
own_no_bin t Use.Queued own q = cc
own_no_bin t Use.Elsewhere own q = cc

fewer_out : (place : ℕ → Place) (x n : ℕ) → FewerBins place (put_range place x n Place.Outside)
fewer_out place x n y j f = range_each (λ z p. p ≡ Place.Block z j Use.Bin → place z ≡ Place.Block z j Use.Bin)
    place x n Place.Outside (λ z out e. e) (λ z low high e. absurd (cc)) y f

fewer_drained : (place : ℕ → Place) (t : ℕ) → FewerBins place (λ y. place_drained t (place y))
fewer_drained place t x n f = by (drained_was t (place x) x n Use.Bin f)
  where
    of : (u : Use) → place x ≡ Place.Block x n u → use_drained t u ≡ Use.Bin → place x ≡ Place.Block x n Use.Bin
    of Use.Bin at q = at
    of (Use.Held o taking) at q = absurd (cc)
    of Use.Queued at q = absurd (cc)
    of Use.Elsewhere at q = absurd (cc)

    by : (u : Use) × (place x ≡ Place.Block x n u) × (use_drained t u ≡ Use.Bin) → place x ≡ Place.Block x n Use.Bin
    by (u, at, q) = of u at q

-- two parts of a cut, in hand
fewer_split : (place : ℕ → Place) (t first a b : ℕ)
    → FewerBins place (put_range (put_range place first a (Place.Block first a (Use.Held t Taking.ForUse)))
    (first + a) b (Place.Block (first + a) b (Use.Held t Taking.ForUse)))
fewer_split place t first a b x n f =
    fewer_ranged place first a (Use.Held t Taking.ForUse) (λ q. cc) x n
    (fewer_ranged (put_range place first a (Place.Block first a (Use.Held t Taking.ForUse))) (first + a) b
    (Use.Held t Taking.ForUse) (λ q. cc) x n f)

pub steps_keep_apart : StepsKeepApart
steps_keep_apart k t g m tasks h m' tasks' good none (GuardStep.begins c is fits) apart = none
steps_keep_apart k t g m tasks h m' tasks' good none (GuardStep.wins c at is) apart =
    two_fewer g.place _ (fewer_won t c (win_learn c at (found m (win_course c at))) g) none
steps_keep_apart k t g m tasks h m' tasks' good none (GuardStep.offers x n taking is at) apart = none
steps_keep_apart k t g m tasks h m' tasks' good none (GuardStep.offered x n is) apart =
    two_binned g.place (block x n) some apart none
  where
    some : 0 < n
    some =
        let p = good.parts.piece_is t x n (ap blocks.piece_of is) in
        let low = (good.parts.whole x x n _ p.0.1).below in omega arith
steps_keep_apart k t g m tasks h m' tasks' good none (GuardStep.marks e x n taking guard is at fits) apart = none
steps_keep_apart k t g m tasks h m' tasks' good none (GuardStep.readies e x n y taking at low high) apart = none
steps_keep_apart k t g m tasks h m' tasks' good none (GuardStep.splits x a b is some more at used) apart =
    two_fewer g.place _ (fewer_split g.place t x a b) none
steps_keep_apart k t g m tasks h m' tasks' good none (GuardStep.merges x a b is one two) apart =
    two_fewer g.place _ (fewer_ranged g.place x (a + b) (Use.Held t Taking.ToJoin) (λ q. cc)) none
steps_keep_apart k t g m tasks h m' tasks' good none (GuardStep.reuses x n was now is own own' at fits) apart =
    two_fewer g.place _ (fewer_ranged g.place x n now (own_no_bin t now own')) none
steps_keep_apart k t g m tasks h m' tasks' good none GuardStep.drains apart =
    two_fewer g.place _ (fewer_drained g.place t) none
steps_keep_apart k t g m tasks h m' tasks' good none (GuardStep.walls e y low nothing) apart = none
steps_keep_apart k t g m tasks h m' tasks' good none (GuardStep.outlines e y low nothing) apart = none
steps_keep_apart k t g m tasks h m' tasks' good none (GuardStep.comes x n some fits outside used) apart =
    two_fewer g.place _ (fewer_ranged g.place x n (Use.Held t Taking.ForUse) (λ q. cc)) none
steps_keep_apart k t g m tasks h m' tasks' good none (GuardStep.leaves x n taking is at) apart =
    two_fewer g.place _ (fewer_out g.place x n) none
steps_keep_apart k t g m tasks h m' tasks' good none (GuardStep.others action other) apart = none

pub won_blocks_stand_apart : WonBlocksStandApart
won_blocks_stand_apart k t g m tasks c at good none is won = (
  left_fewer g.place (shadow_won t c WinNext.Won g).place c.begin (fewer_won t c WinNext.Won g)
      (λ x j q f. none x j c.granules f (subst (λ z. g.place z ≡ Place.Block z c.granules Use.Bin) (sym q) bin)),
  right_fewer g.place (shadow_won t c WinNext.Won g).place (c.begin + c.granules) (fewer_won t c WinNext.Won g)
      (λ j f. none c.begin c.granules j bin f),
)
  where
    bin : g.place c.begin ≡ Place.Block c.begin c.granules Use.Bin
    bin = (subst (λ next. WinEnds g (shadow_won t c next g) m (after k m (win_course c at)) t c next) won
        (both_words_or_none k t g m tasks c at good is)).bin

pub cuts_stand_apart : CutsStandApart
cuts_stand_apart k t g m tasks first a b good some more hand (l, r) = (
  (
    left_fewer g.place _ first (fewer_split g.place t first a b) l,
    λ n f. within (ranged_was (put_range g.place first a (Place.Block first a (Use.Held t Taking.ForUse))) (first + a) b
        (Use.Held t Taking.ForUse) (first + a) n Use.Bin f),
  ),
  (
    λ x n q f. behind x n q (fewer_split g.place t first a b x n f),
    right_fewer g.place _ ((first + a) + b) (fewer_split g.place t first a b)
        (subst (NoRight g.place) (omega arith) r),
  ),
)
  where
    within : {n : ℕ} → ((first + a ≡ first + a) × (n ≡ b) × (Use.Bin ≡ Use.Held t Taking.ForUse))
        ⊎ (IsOut (first + a) b (first + a) × (put_range g.place first a
        (Place.Block first a (Use.Held t Taking.ForUse)) (first + a) ≡ Place.Block (first + a) n Use.Bin)) → ⊥
    within (inl (p, q, w)) = cc
    within (inr (inl low, old)) = omega arith
    within (inr (inr high, old)) = omega arith

    clash : (z x n : ℕ) → g.place z ≡ Place.Block x n Use.Bin
        → g.place z ≡ Place.Block first (a + b) (Use.Held t Taking.ForUse) → ⊥
    clash z x n e e' = let s : Place.Block x n Use.Bin ≡ Place.Block first (a + b) (Use.Held t Taking.ForUse) =
        sym e ∙ e' in cc

    behind : (x n : ℕ) → x + n ≡ first + a → g.place x ≡ Place.Block x n Use.Bin → ⊥
    behind x n q f =
        let w = good.parts.whole first first (a + b) (Use.Held t Taking.ForUse) hand in
        let o = good.parts.whole x x n Use.Bin f in
        let low = o.below in
        clash ((first + a) - 1) x n (o.all ((first + a) - 1) (omega arith) (omega arith))
        (w.all ((first + a) - 1) (omega arith) (omega arith))

pub rests_stay_apart : RestsStayApart
rests_stay_apart g x n b before behind (l, r) = (
  λ y j q f. left y j q (ranged_was g.place x n Use.Bin y j Use.Bin f),
  λ j f. right j (ranged_was g.place x n Use.Bin (b.first + b.granules) j Use.Bin f),
)
  where
    left : (y j : ℕ) → y + j ≡ b.first → ((y ≡ x) × (j ≡ n) × (Use.Bin ≡ Use.Bin))
        ⊎ (IsOut x n y × (g.place y ≡ Place.Block y j Use.Bin)) → ⊥
    left y j q (inl (a, c, w)) = before (omega arith)
    left y j q (inr (out, old)) = l y j q old

    right : (j : ℕ) → ((b.first + b.granules ≡ x) × (j ≡ n) × (Use.Bin ≡ Use.Bin))
        ⊎ (IsOut x n (b.first + b.granules) × (g.place (b.first + b.granules)
        ≡ Place.Block (b.first + b.granules) j Use.Bin)) → ⊥
    right j (inl (a, c, w)) = behind (sym a)
    right j (inr (out, old)) = r j old

pub calm_begins_and_ends : CalmBeginsAndEnds
calm_begins_and_ends k t g m tasks x n good = (
  λ rest. record {
    queue = none_queued g.place x n (Use.Held t Taking.ToJoin) (λ q. cc) rest.queue;
    alone = λ y j o f. by rest y j o
        (ranged_was g.place x n (Use.Held t Taking.ToJoin) y j (Use.Held o Taking.ToJoin) f);
  },
  λ now settled hand calm. rest_left g.place x n now (some_of k g m tasks t x n good hand) (not_queued now settled)
      (not_joined now settled) calm,
)
  where
    by : IsAtRest g.place → (y j o : ℕ) → ((y ≡ x) × (j ≡ n) × (Use.Held o Taking.ToJoin ≡ Use.Held t Taking.ToJoin))
        ⊎ (IsOut x n y × (g.place y ≡ Place.Block y j (Use.Held o Taking.ToJoin))) → y ≡ x
    by rest y j o (inl (a, c, w)) = a
    by rest y j o (inr (out, old)) = absurd (rest.hands y j o old)
