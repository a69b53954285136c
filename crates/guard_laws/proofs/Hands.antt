-- A block in a seat's hand stays there, with its guards, while others step.
use Rattle.std.proofs.Common.{◌≡◌, ◌≢◌, inl, inr, ℕ, ◌+◌, ◌≤◌, Bool, true, false, cond, eqb, refl, sym, ap}
use Rattle.std.proofs.Common.{subst, arith, ◌∙◌}
use Rattle.pool_words.specs.declared.words.Key.{Key}
use Rattle.pool_words.specs.declared.words.Word.{Word}
use Rattle.word_codes.specs.declared.guards.Guard.{Guard}
use Rattle.word_codes.specs.Guards.{guard_of, guard_word}
use Rattle.guards.specs.declared.win.Side.{Side}
use Rattle.guards.specs.declared.win.Taking.{Taking}
use Rattle.guards.specs.declared.win.WinAt.{WinAt}
use Rattle.guards.specs.declared.win.WinCall.{WinCall}
use Rattle.guards.specs.declared.win.WinNext.{WinNext}
use Rattle.guards.specs.Win.{other_side, taken_word, free_word, win_course, win_learn}
use Rattle.word_laws.specs.Memory.{Mem, stored, after, found, word_at}
use Rattle.guard_laws.specs.Blocks.{Use, Place, Standing, at_edge, set_edge, edge_of, edge_word}
use Rattle.guard_laws.specs.Blocks.{Task, half_of, piece_of, Shadow, core_in, view_of, GuardFits, IsOf, rest_of}
use Rattle.guard_laws.specs.Blocks.{BlocksWhole, CallFits, GuardGood}
use Rattle.guard_laws.specs.Steps.{guard_in, shadow_won, with_edge, IsOwn, standing_of, standing_drained}
use Rattle.guard_laws.specs.Steps.{place_drained, GuardStep}
use Rattle.guard_laws.specs.Laws.{HandStays, OthersLeaveHands}
use Rattle.guard_laws.proofs.Edges.{IsAt, IsOut, edge_else, range_out, in_or}
use Rattle.guard_laws.proofs.Blocks.{same_block, edges_apart, no_edge_within}
use Rattle.guard_laws.proofs.Wins.{free_is_open, open_is_bin, rest_is_not_of}
use Rattle.guard_laws.proofs.Cuts.{apart_out, split_out}
use Rattle.guard_laws.proofs.Regions.{outside_no_edge}
use Rattle.guard_laws.proofs.Words.{edge_stored, word_is, guard_is, free_reads, same_after, same_core}
use Rattle.guard_laws.proofs.Keeps.{free_within, open_within, fits_at, edge_low}

-- a block that has another use, or is in another's hand, is another block
other_block : (place : ℕ → Place) (x n y m : ℕ) (u w : Use) → place x ≡ Place.Block x n u
    → place y ≡ Place.Block y m w → (u ≡ w → ⊥) → y ≢ x
other_block place x n y m u w at f differ q =
    differ (same_block place x x n x m u w at (subst (λ b. place b ≡ Place.Block b m w) q f)).2

hands_differ : (seat other : ℕ) (j i : Taking) → other ≢ seat → Use.Held other j ≡ Use.Held seat i → ⊥
hands_differ seat other j i ne q = ne (cc)

-- no edge of the seat's block is that one, while its guards say what its use wants
abbrev pub Avoids : Shadow → ℕ → ℕ → Taking → Side → ℕ → Type 0
Avoids g x n taking k y =
    (e : Side) → at_edge g.standing e (edge_of e x n) ≡ rest_of taking → IsAt e (edge_of e x n) k y → ⊥

-- a word is written
words_else : (k : Key) (g : Shadow) (m : Mem) (x n : ℕ) (taking : Taking) (j : Side) (y w : ℕ) → y ≤ k.span
    → Avoids g x n taking j y → (e : Side) → at_edge g.standing e (edge_of e x n) ≡ rest_of taking
    → guard_in (stored k m (edge_word j y) w) e (edge_of e x n) ≡ guard_in m e (edge_of e x n)
words_else k g m x n taking j y w low avoids e rest = edge_stored k m (λ seat. Task.Away) j y w
    (λ s. guard_of (at_edge s.words e (edge_of e x n)) ≡ guard_in m e (edge_of e x n)) low
    (ap guard_of (edge_else j y w (core_in m (λ seat. Task.Away)).words e (edge_of e x n) (avoids e rest)))

-- a guard's word and what stands behind it change
edge_hand : (k : Key) (g : Shadow) (m : Mem) (seat x n : ℕ) (taking : Taking) (j : Side) (y w : ℕ) (s : Standing)
    → y ≤ k.span → Avoids g x n taking j y → g.place x ≡ Place.Block x n (Use.Held seat taking)
    → HandStays g (with_edge j y s g) m (stored k m (edge_word j y) w) seat x n taking
edge_hand k g m seat x n taking j y w s low avoids at = record {
  place = at;
  standing = λ e rest. edge_else j y s g.standing e (edge_of e x n) (avoids e rest) ∙ rest;
  guards = words_else k g m x n taking j y w low avoids;
}

same_hand : (g : Shadow) (m : Mem) (seat x n : ℕ) (taking : Taking) → g.place x ≡ Place.Block x n (Use.Held seat taking)
    → HandStays g g m m seat x n taking
same_hand g m seat x n taking at = record { place = at; standing = λ e rest. rest; guards = λ e rest. refl }

-- two edges change, and no word does
edges_hand : (g : Shadow) (m : Mem) (seat x n : ℕ) (taking : Taking) (place : ℕ → Place) (j i : Side) (y z : ℕ)
    (s : Standing) → Avoids g x n taking j y → Avoids g x n taking i z
    → place x ≡ Place.Block x n (Use.Held seat taking)
    → HandStays g (record { place = place; standing = set_edge j y s (set_edge i z s g.standing) }) m m seat x n taking
edges_hand g m seat x n taking place j i y z s first second at = record {
  place = at;
  standing = λ e rest. edge_else j y s (set_edge i z s g.standing) e (edge_of e x n) (first e rest)
      ∙ edge_else i z s g.standing e (edge_of e x n) (second e rest) ∙ rest;
  guards = λ e rest. refl;
}

-- what is offered is not at rest
open_avoids : (g : Shadow) (x n : ℕ) (taking : Taking) (k : Side) (y j : ℕ) → IsOf j (at_edge g.standing k y)
    → Avoids g x n taking k y
open_avoids g x n taking k y j open' e rest q =
    rest_is_not_of taking j (subst (IsOf j) (sym (ap (λ b. at_edge g.standing b y) q.0)
    ∙ sym (ap (at_edge g.standing e) q.1) ∙ rest) open')

-- an edge of another block
block_avoids : (g : Shadow) (x n : ℕ) (taking : Taking) (seat y m : ℕ) (u : Use) (k : Side) → BlocksWhole g.place
    → g.place x ≡ Place.Block x n (Use.Held seat taking) → g.place y ≡ Place.Block y m u
    → (u ≡ Use.Held seat taking → ⊥) → Avoids g x n taking k (edge_of k y m)
block_avoids g x n taking seat y m u k whole at f differ e rest q = edges_apart g.place k e y m x n u
    (Use.Held seat taking) whole f at
    (other_block g.place y m x n u (Use.Held seat taking) f at differ) q.0 q.1

-- and its granules
block_out : (g : Shadow) (x n : ℕ) (taking : Taking) (seat y m : ℕ) (u : Use) → BlocksWhole g.place
    → g.place x ≡ Place.Block x n (Use.Held seat taking) → g.place y ≡ Place.Block y m u
    → (u ≡ Use.Held seat taking → ⊥) → IsOut y m x
block_out g x n taking seat y m u whole at f differ =
    apart_out g.place y m u x n (Use.Held seat taking) whole f at (λ q _ _. differ q)

bin_not_held : (seat : ℕ) (taking : Taking) → Use.Bin ≡ Use.Held seat taking → ⊥
bin_not_held seat taking q = cc

-- a block is won, or not
wins_hand : (k : Key) (seat other : ℕ) (g : Shadow) (m : Mem) (tasks : ℕ → Task) (c : WinCall) (at : WinAt) (x n : ℕ)
    (taking : Taking) → GuardGood k g (core_in m tasks) → tasks other ≡ Task.Wins c at
    → g.place x ≡ Place.Block x n (Use.Held seat taking)
    → HandStays g (shadow_won other c (win_learn c at (found m (win_course c at))) g) m (after k m (win_course c at))
    seat x n taking
wins_hand k seat other g m tasks c WinAt.First x n taking good is hand =
    subst (λ (w : Word). Goal w (eqb (word_at m w) (free_word c))) (sym (guard_is c c.first fits))
    (by (eqb (word_at m (edge_word c.first y)) (free_word c)) refl)
  where
    fits : CallFits c
    fits = fits_at k g (core_in m tasks) other (Task.Wins c WinAt.First) is good

    y : ℕ
    y = edge_of c.first c.begin c.granules

    Goal : Word → Bool → Type 0
    Goal w b = HandStays g
        (shadow_won other c (cond b (WinNext.Goes WinAt.Second) (WinNext.NotWon (word_at m w))) g) m
        (cond b (stored k m w (taken_word c.taking)) m) seat x n taking

    reads : eqb (word_at m (edge_word c.first y)) (free_word c) ≡ true
        → guard_of (at_edge (core_in m tasks).words c.first y) ≡ Guard.Free c.granules
    reads e = sym (ap guard_of (word_is m tasks c.first y)) ∙ free_reads c.granules
        (word_at m (edge_word c.first y)) fits.told e

    open' : eqb (word_at m (edge_word c.first y)) (free_word c) ≡ true → IsOf c.granules (at_edge g.standing c.first y)
    open' e = subst (IsOf c.granules) (sym (free_is_open (at_edge g.standing c.first y) c.granules
        (subst (GuardFits (at_edge g.standing c.first y)) (reads e) (good.parts.words_fit c.first y)))) refl

    by : (b : Bool) → eqb (word_at m (edge_word c.first y)) (free_word c) ≡ b → Goal (edge_word c.first y) b
    by true e = edge_hand k g m seat x n taking c.first y (taken_word c.taking)
        (Standing.Won c.granules other c.taking)
        (open_within k.span (view_of g (core_in m tasks)) c.first y c.granules good.parts (open' e))
        (open_avoids g x n taking c.first y c.granules (open' e)) hand
    by false e = same_hand g m seat x n taking hand
wins_hand k seat other g m tasks c WinAt.Second x n taking good is hand =
    subst (λ (w : Word). Goal w (eqb (word_at m w) (free_word c))) (sym (guard_is c o fits))
    (by (eqb (word_at m (edge_word o y)) (free_word c)) refl)
  where
    fits : CallFits c
    fits = fits_at k g (core_in m tasks) other (Task.Wins c WinAt.Second) is good

    o : Side
    o = other_side c.first

    y : ℕ
    y = edge_of (other_side c.first) c.begin c.granules

    Goal : Word → Bool → Type 0
    Goal w b = HandStays g (shadow_won other c (cond b WinNext.Won (WinNext.Goes WinAt.Back)) g) m
        (cond b (stored k m w (taken_word c.taking)) m) seat x n taking

    reads : eqb (word_at m (edge_word o y)) (free_word c) ≡ true
        → guard_of (at_edge (core_in m tasks).words o y) ≡ Guard.Free c.granules
    reads e = sym (ap guard_of (word_is m tasks o y)) ∙ free_reads c.granules (word_at m (edge_word o y)) fits.told e

    bin : eqb (word_at m (edge_word o y)) (free_word c) ≡ true
        → g.place c.begin ≡ Place.Block c.begin c.granules Use.Bin
    bin e = open_is_bin k.span (view_of g (core_in m tasks)) other c.taking c.first c.begin c.granules
        (good.parts.half_is other c.first c.begin c.granules c.taking (ap half_of is))
        (free_is_open (at_edge g.standing o y) c.granules
        (subst (GuardFits (at_edge g.standing o y)) (reads e) (good.parts.words_fit o y))) good.parts

    won : eqb (word_at m (edge_word o y)) (free_word c) ≡ true → Goal (edge_word o y) true
    won e = record {
      place = range_out g.place c.begin c.granules
          (Place.Block c.begin c.granules (Use.Held other c.taking)) x
          (block_out g x n taking seat c.begin c.granules Use.Bin good.parts.whole hand (bin e)
          (bin_not_held seat taking)) ∙ hand;
      standing = λ e' rest. edge_else o y (rest_of c.taking)
          (set_edge c.first (edge_of c.first c.begin c.granules) (rest_of c.taking) g.standing) e' (edge_of e' x n)
          (block_avoids g x n taking seat c.begin c.granules Use.Bin o good.parts.whole hand (bin e)
          (bin_not_held seat taking) e' rest)
          ∙ edge_else c.first (edge_of c.first c.begin c.granules) (rest_of c.taking) g.standing e' (edge_of e' x n)
          (block_avoids g x n taking seat c.begin c.granules Use.Bin c.first good.parts.whole hand (bin e)
          (bin_not_held seat taking) e' rest) ∙ rest;
      guards = words_else k g m x n taking o y (taken_word c.taking)
          (free_within k.span (view_of g (core_in m tasks)) o y c.granules good.parts (reads e))
          (block_avoids g x n taking seat c.begin c.granules Use.Bin o good.parts.whole hand (bin e)
          (bin_not_held seat taking));
    }

    by : (b : Bool) → eqb (word_at m (edge_word o y)) (free_word c) ≡ b → Goal (edge_word o y) b
    by true e = won e
    by false e = same_hand g m seat x n taking hand
wins_hand k seat other g m tasks c WinAt.Back x n taking good is hand = subst
    (λ (w : Word). HandStays g (shadow_won other c WinNext.GivenBack g) m (stored k m w (free_word c)) seat x n taking)
    (sym (guard_is c c.first fits))
    (edge_hand k g m seat x n taking c.first y (free_word c) (Standing.Open c.granules)
    (open_within k.span (view_of g (core_in m tasks)) c.first y c.granules good.parts won)
    (open_avoids g x n taking c.first y c.granules won) hand)
  where
    fits : CallFits c
    fits = fits_at k g (core_in m tasks) other (Task.Wins c WinAt.Back) is good

    y : ℕ
    y = edge_of c.first c.begin c.granules

    won : IsOf c.granules (at_edge g.standing c.first y)
    won = subst (IsOf c.granules)
        (sym (good.parts.half_is other c.first c.begin c.granules c.taking (ap half_of is))) refl

own_not_held : (seat other : ℕ) (taking : Taking) (u : Use) → other ≢ seat → IsOwn other u
    → u ≡ Use.Held seat taking → ⊥
own_not_held seat other taking u ne own q = ne (sym (subst (IsOwn other) q own))

rest_drained : (taking : Taking) → standing_drained (rest_of taking) ≡ rest_of taking
rest_drained Taking.ForUse = refl
rest_drained Taking.ToJoin = refl

drained_hand : (g : Shadow) (taking : Taking) (e : Side) (y : ℕ) → at_edge g.standing e y ≡ rest_of taking
    → at_edge (record {
      begins = λ y. standing_drained (g.standing.begins y);
      ends = λ y. standing_drained (g.standing.ends y);
    }) e y ≡ rest_of taking
drained_hand g taking Side.Begin y rest = ap standing_drained rest ∙ rest_drained taking
drained_hand g taking Side.End y rest = ap standing_drained rest ∙ rest_drained taking

pub others_leave_hands : OthersLeaveHands
others_leave_hands k seat o g m tasks h m' tasks' x n taking good (GuardStep.begins c is fits) ne at =
    same_hand g m seat x n taking at
others_leave_hands k seat o g m tasks h m' tasks' x n taking good (GuardStep.wins c p is) ne at =
    wins_hand k seat o g m tasks c p x n taking good is at
others_leave_hands k seat o g m tasks h m' tasks' x n taking good (GuardStep.offers y j own is f) ne at =
    edge_hand k g m seat x n taking Side.Begin y (guard_word (Guard.Free j)) (Standing.Open j)
    (edge_low Side.Begin y j k.span (good.parts.within y j (Use.Held o own) f))
    (block_avoids g x n taking seat y j (Use.Held o own) Side.Begin good.parts.whole at f
    (hands_differ seat o own taking ne)) at
others_leave_hands k seat o g m tasks h m' tasks' x n taking good (GuardStep.offered y j is) ne at = record {
  place = range_out g.place y j (Place.Block y j Use.Bin) x
      (block_out g x n taking seat y j (Use.Held o piece.0.0) good.parts.whole at piece.0.1
      (hands_differ seat o piece.0.0 taking ne)) ∙ at;
  standing = λ e rest. edge_else Side.End (y + j) (Standing.Open j) g.standing e (edge_of e x n) (avoids e rest) ∙ rest;
  guards = words_else k g m x n taking Side.End (y + j) (guard_word (Guard.Free j))
      (good.parts.within y j (Use.Held o piece.0.0) piece.0.1) avoids;
}
  where
    piece : ((own : Taking) × (g.place y ≡ Place.Block y j (Use.Held o own))) × IsOf j (g.standing.begins y)
    piece = good.parts.piece_is o y j (ap piece_of is)

    avoids : Avoids g x n taking Side.End (y + j)
    avoids = block_avoids g x n taking seat y j (Use.Held o piece.0.0) Side.End good.parts.whole at piece.0.1
        (hands_differ seat o piece.0.0 taking ne)
others_leave_hands k seat o g m tasks h m' tasks' x n taking good (GuardStep.marks e y j own guard is f fits) ne at =
    record {
      place = at;
      standing = λ _ rest. rest;
      guards = words_else k g m x n taking e (edge_of e y j) (guard_word guard)
          (edge_low e y j k.span (good.parts.within y j (Use.Held o own) f))
          (block_avoids g x n taking seat y j (Use.Held o own) e good.parts.whole at f
          (hands_differ seat o own taking ne));
    }
others_leave_hands k seat o g m tasks h m' tasks' x n taking good (GuardStep.readies e y j z own f low high) ne at =
    edge_hand k g m seat x n taking e z (guard_word Guard.Used) Standing.Inner
    (let l = good.parts.within y j (Use.Held o own) f in omega arith)
    (λ d rest q. no_edge_within g.place d y j z x n (Use.Held o own)
    (Use.Held seat taking) good.parts.whole f low high at
    q.1) at
others_leave_hands k seat o g m tasks h m' tasks' x n taking good (GuardStep.splits y a b is some more f used) ne at =
    edges_hand g m seat x n taking h.place Side.Begin Side.End (y + a) (y + a) Standing.Resting (inner Side.Begin)
    (inner Side.End)
    (split_out g.place y a b (Use.Held o Taking.ForUse) x
    (block_out g x n taking seat y (a + b) (Use.Held o Taking.ForUse) good.parts.whole at f
    (hands_differ seat o Taking.ForUse taking ne)) ∙ at)
  where
    inner : (i : Side) → Avoids g x n taking i (y + a)
    inner i e rest q = no_edge_within g.place e y (a + b) (y + a) x n (Use.Held o Taking.ForUse) (Use.Held seat taking)
        good.parts.whole f (omega arith) (omega arith) at q.1
others_leave_hands k seat o g m tasks h m' tasks' x n taking good (GuardStep.merges y a b is one two) ne at =
    edges_hand g m seat x n taking h.place Side.Begin Side.End (y + a) (y + a) Standing.Inner
    (block_avoids g x n taking seat (y + a) b (Use.Held o Taking.ToJoin) Side.Begin good.parts.whole at two differ)
    (block_avoids g x n taking seat y a (Use.Held o Taking.ToJoin) Side.End good.parts.whole at one differ)
    (range_out g.place y (a + b) (Place.Block y (a + b) (Use.Held o Taking.ToJoin)) x
    (both_out (block_out g x n taking seat y a (Use.Held o Taking.ToJoin) good.parts.whole at one differ)
    (block_out g x n taking seat (y + a) b (Use.Held o Taking.ToJoin) good.parts.whole at two differ)) ∙ at)
  where
    differ : Use.Held o Taking.ToJoin ≡ Use.Held seat taking → ⊥
    differ = hands_differ seat o Taking.ToJoin taking ne

    both_out : IsOut y a x → IsOut (y + a) b x → IsOut y (a + b) x
    both_out (inl l) p = inl l
    both_out (inr l) (inl q) = absurd (omega arith)
    both_out (inr l) (inr q) = inr (omega arith)
others_leave_hands k seat o g m tasks h m' tasks' x n taking good
    (GuardStep.reuses y j was now is own own' f fits) ne at =
    edges_hand g m seat x n taking h.place Side.End Side.Begin (y + j) y (standing_of now)
    (block_avoids g x n taking seat y j was Side.End good.parts.whole at f (own_not_held seat o taking was ne own))
    (block_avoids g x n taking seat y j was Side.Begin good.parts.whole at f (own_not_held seat o taking was ne own))
    (range_out g.place y j (Place.Block y j now) x
    (block_out g x n taking seat y j was good.parts.whole at f (own_not_held seat o taking was ne own)) ∙ at)
others_leave_hands k seat o g m tasks h m' tasks' x n taking good GuardStep.drains ne at = record {
  place = ap (place_drained o) at;
  standing = λ e rest. drained_hand g taking e (edge_of e x n) rest;
  guards = λ e rest. refl;
}
others_leave_hands k seat o g m tasks h m' tasks' x n taking good (GuardStep.walls e y low none) ne at =
    edge_hand k g m seat x n taking e y (guard_word Guard.Wall) Standing.Walled low
    (λ d rest q. none x n (Use.Held seat taking) at (ap (λ b. edge_of b x n) (sym q.0) ∙ q.1)) at
others_leave_hands k seat o g m tasks h m' tasks' x n taking good (GuardStep.outlines e y low none) ne at =
    edge_hand k g m seat x n taking e y (guard_word Guard.Used) Standing.Inner low
    (λ d rest q. none x n (Use.Held seat taking) at (ap (λ b. edge_of b x n) (sym q.0) ∙ q.1)) at
others_leave_hands k seat o g m tasks h m' tasks' x n taking good (GuardStep.comes y j some fits outside used) ne at =
    edges_hand g m seat x n taking h.place Side.End Side.Begin (y + j) y Standing.Resting
    (λ e rest q. outer Side.End e q.0 q.1) (λ e rest q. outer Side.Begin e q.0 q.1)
    (range_out g.place y j (Place.Block y j (Use.Held o Taking.ForUse)) x (in_or y j x
    (λ low high. absurd (let q : Place.Outside ≡ Place.Block x n (Use.Held seat taking) = sym (outside x low high) ∙ at
    in cc)) (λ p. p)) ∙ at)
  where
    outer : (i e : Side) → e ≡ i → edge_of e x n ≡ edge_of i y j → ⊥
    outer Side.Begin Side.Begin a b = outside_no_edge g.place y j some good.parts.whole outside Side.Begin x n
        (Use.Held seat taking) at b
    outer Side.End Side.End a b = outside_no_edge g.place y j some good.parts.whole outside Side.End x n
        (Use.Held seat taking) at b
    outer Side.Begin Side.End a b = cc
    outer Side.End Side.Begin a b = cc
others_leave_hands k seat o g m tasks h m' tasks' x n taking good (GuardStep.leaves y j own is f) ne at =
    edges_hand g m seat x n taking h.place Side.End Side.Begin (y + j) y Standing.Inner
    (block_avoids g x n taking seat y j (Use.Held o own) Side.End good.parts.whole at f
    (hands_differ seat o own taking ne))
    (block_avoids g x n taking seat y j (Use.Held o own) Side.Begin good.parts.whole at f
    (hands_differ seat o own taking ne))
    (range_out g.place y j Place.Outside x
    (block_out g x n taking seat y j (Use.Held o own) good.parts.whole at f (hands_differ seat o own taking ne)) ∙ at)
others_leave_hands k seat o g m tasks h m' tasks' x n taking good (GuardStep.others action other) ne at = record {
  place = at;
  standing = λ e rest. rest;
  guards = λ e rest. same_core m m' (λ seat. Task.Away)
      (λ s. guard_of (at_edge s.words e (edge_of e x n)) ≡ guard_in m e (edge_of e x n))
      (same_after k m action other) refl;
}
