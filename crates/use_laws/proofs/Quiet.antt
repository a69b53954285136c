-- Steps on guards by which no block comes to rest, and none leaves it.
use Rattle.std.proofs.Common.{◌≡◌, ◌≢◌, inr, ℕ, ◌+◌, ◌<◌, ◌≤◌, sym, ap, arith, ◌∙◌}
use Rattle.pool_words.specs.declared.words.Key.{Key}
use Rattle.guards.specs.declared.win.Taking.{Taking}
use Rattle.guards.specs.declared.win.WinAt.{WinAt}
use Rattle.guards.specs.declared.win.WinCall.{WinCall}
use Rattle.guards.specs.declared.win.WinNext.{WinNext}
use Rattle.guards.specs.Win.{win_course, win_learn}
use Rattle.word_laws.specs.Memory.{Mem, found}
use Rattle.word_laws.proofs.CallerLemmas.{less_or}
use Rattle.guard_laws.specs.Blocks.{Use, Place, put_range, Task, piece_of, Shadow, core_in, BlocksWhole, GuardGood}
use Rattle.guard_laws.specs.Steps.{shadow_won, place_split, place_drained, GuardStep}
use Rattle.guard_laws.specs.Laws.{WinEnds}
use Rattle.guard_laws.proofs.CallerLemmas.{range_out, in_or, range_each, both_words_or_none}
use Rattle.use_laws.specs.Steps.{KeepsUse}

-- no block comes to rest, and none leaves it
pub record IsQuiet (place place' : ℕ → Place) : Type 0 where
  pub to : (x n : ℕ) → place x ≡ Place.Block x n Use.Elsewhere → place' x ≡ Place.Block x n Use.Elsewhere
  pub from : (x n : ℕ) → place' x ≡ Place.Block x n Use.Elsewhere → place x ≡ Place.Block x n Use.Elsewhere

quiet_same : (place : ℕ → Place) → IsQuiet place place
quiet_same place = record { to = λ x n is. is; from = λ x n is. is }

quiet_then : (a b c : ℕ → Place) → IsQuiet a b → IsQuiet b c → IsQuiet a c
quiet_then a b c one two = record {
  to = λ x n is. two.to x n (one.to x n is);
  from = λ x n is. one.from x n (two.from x n is);
}

-- a range in which no block at rest begins has another value, which is none
quiet_ranged : (place : ℕ → Place) (x n : ℕ) (q : Place) → ((z m : ℕ) → q ≢ Place.Block z m Use.Elsewhere)
    → ((z m : ℕ) → x ≤ z → z < x + n → place z ≢ Place.Block z m Use.Elsewhere)
    → IsQuiet place (put_range place x n q)
quiet_ranged place x n q none inside = record {
  to = λ z m is. in_or x n z (λ low high. absurd (inside z m low high is))
      (λ out. range_out place x n q z out ∙ is);
  from = λ z m. range_each (λ z r. r ≡ Place.Block z m Use.Elsewhere → place z ≡ Place.Block z m Use.Elsewhere)
      place x n q (λ z out is. is) (λ z low high is. absurd (none z m is)) z;
}

no_rest : (x n : ℕ) (u : Use) → u ≢ Use.Elsewhere → (z m : ℕ) → Place.Block x n u ≢ Place.Block z m Use.Elsewhere
no_rest x n u ne z m is = ne (cc)

block_inside : (place : ℕ → Place) (x n : ℕ) (u : Use) → u ≢ Use.Elsewhere → BlocksWhole place
    → place x ≡ Place.Block x n u → (z m : ℕ) → x ≤ z → z < x + n → place z ≢ Place.Block z m Use.Elsewhere
block_inside place x n u ne whole at z m low high is =
    no_rest x n u ne z m (sym ((whole x x n u at).all z low high) ∙ is)

-- a block that is not at rest has another use
used_quiet : (place : ℕ → Place) (x n : ℕ) (was now : Use) → was ≢ Use.Elsewhere → now ≢ Use.Elsewhere
    → BlocksWhole place → place x ≡ Place.Block x n was → IsQuiet place (put_range place x n (Place.Block x n now))
used_quiet place x n was now ne ne' whole at = quiet_ranged place x n (Place.Block x n now) (no_rest x n now ne')
    (block_inside place x n was ne whole at)

held_ne : (seat : ℕ) (taking : Taking) → Use.Held seat taking ≢ Use.Elsewhere
held_ne t taking q = cc

split_quiet : (place : ℕ → Place) (x a b : ℕ) (u : Use) → u ≢ Use.Elsewhere → BlocksWhole place
    → place x ≡ Place.Block x (a + b) u → IsQuiet place (place_split x a b u place)
split_quiet place x a b u ne whole at =
    quiet_then place first (place_split x a b u place)
    (quiet_ranged place x a (Place.Block x a u) (no_rest x a u ne)
    (λ z m low high. block_inside place x (a + b) u ne whole at z m low (omega arith)))
    (quiet_ranged first (x + a) b (Place.Block (x + a) b u) (no_rest (x + a) b u ne)
    (λ z m low high is. block_inside place x (a + b) u ne whole at z m (omega arith) (omega arith)
    (sym (range_out place x a (Place.Block x a u) z (inr low)) ∙ is)))
  where
    first : ℕ → Place
    first = put_range place x a (Place.Block x a u)

merged_quiet : (place : ℕ → Place) (x a b : ℕ) (u : Use) → u ≢ Use.Elsewhere → BlocksWhole place
    → place x ≡ Place.Block x a u → place (x + a) ≡ Place.Block (x + a) b u
    → IsQuiet place (put_range place x (a + b) (Place.Block x (a + b) u))
merged_quiet place x a b u ne whole at behind =
    quiet_ranged place x (a + b) (Place.Block x (a + b) u) (no_rest x (a + b) u ne) inside
  where
    inside : (z m : ℕ) → x ≤ z → z < x + (a + b) → place z ≢ Place.Block z m Use.Elsewhere
    inside z m low high is = less_or z (x + a)
        (λ near. block_inside place x a u ne whole at z m low near is)
        (λ far. block_inside place (x + a) b u ne whole behind z m far (omega arith) is)

drained_quiet : (seat : ℕ) (place : ℕ → Place) → IsQuiet place (λ y. place_drained seat (place y))
drained_quiet t place = record {
  to = λ x n is. ap (place_drained t) is;
  from = λ x n is. by (place x) x n is;
}
  where
    by : (q : Place) (x n : ℕ) → place_drained t q ≡ Place.Block x n Use.Elsewhere → q ≡ Place.Block x n Use.Elsewhere
    by Place.Outside x n is = is
    by (Place.Block y m Use.Bin) x n is = absurd (cc)
    by (Place.Block y m (Use.Held o taking)) x n is = absurd (cc)
    by (Place.Block y m Use.Queued) x n is = absurd (cc)
    by (Place.Block y m Use.Elsewhere) x n is = is

won_quiet : (seat : ℕ) (c : WinCall) (g : Shadow) (m m' : Mem) (next : WinNext) → BlocksWhole g.place
    → WinEnds g (shadow_won seat c next g) m m' seat c next → IsQuiet g.place (shadow_won seat c next g).place
won_quiet t c g m m' (WinNext.Goes WinAt.First) whole ends = quiet_same g.place
won_quiet t c g m m' (WinNext.Goes WinAt.Second) whole ends = quiet_same g.place
won_quiet t c g m m' (WinNext.Goes WinAt.Back) whole ends = quiet_same g.place
won_quiet t c g m m' WinNext.Won whole ends =
    used_quiet g.place c.begin c.granules Use.Bin (Use.Held t c.taking) (λ q. cc) (held_ne t c.taking) whole ends.bin
won_quiet t c g m m' (WinNext.NotWon f) whole ends = quiet_same g.place
won_quiet t c g m m' WinNext.GivenBack whole ends = quiet_same g.place

pub guards_are_quiet : (k : Key) (seat : ℕ) (g : Shadow) (m : Mem) (tasks : ℕ → Task) (h : Shadow) (m' : Mem)
    (tasks' : ℕ → Task) → (step : GuardStep k seat g m tasks h m' tasks') → KeepsUse k seat g m tasks h m' tasks' step
    → GuardGood k g (core_in m tasks) → IsQuiet g.place h.place
guards_are_quiet k t g m tasks h m' tasks' (GuardStep.begins c is fits) keeps good = quiet_same g.place
guards_are_quiet k t g m tasks h m' tasks' (GuardStep.wins c at is) keeps good =
    won_quiet t c g m m' (win_learn c at (found m (win_course c at))) good.parts.whole
    (both_words_or_none k t g m tasks c at good is)
guards_are_quiet k t g m tasks h m' tasks' (GuardStep.offers x n taking is at) keeps good = quiet_same g.place
guards_are_quiet k t g m tasks h m' tasks' (GuardStep.offered x n is) keeps good =
    let got = (good.parts.piece_is t x n (ap piece_of is)).0 in
    used_quiet g.place x n (Use.Held t got.0) Use.Bin (held_ne t got.0) (λ q. cc) good.parts.whole got.1
guards_are_quiet k t g m tasks h m' tasks' (GuardStep.marks e x n taking guard is at fits) keeps good =
    quiet_same g.place
guards_are_quiet k t g m tasks h m' tasks' (GuardStep.readies e x n y taking at low high) keeps good =
    quiet_same g.place
guards_are_quiet k t g m tasks h m' tasks' (GuardStep.splits x a b is some more at used) keeps good =
    split_quiet g.place x a b (Use.Held t Taking.ForUse) (held_ne t Taking.ForUse) good.parts.whole at
guards_are_quiet k t g m tasks h m' tasks' (GuardStep.merges x a b is at behind) keeps good =
    merged_quiet g.place x a b (Use.Held t Taking.ToJoin) (held_ne t Taking.ToJoin) good.parts.whole at behind
guards_are_quiet k t g m tasks h m' tasks' (GuardStep.reuses x n was now is own own' at fits) keeps good =
    used_quiet g.place x n was now keeps.0 keeps.1 good.parts.whole at
guards_are_quiet k t g m tasks h m' tasks' GuardStep.drains keeps good = drained_quiet t g.place
guards_are_quiet k t g m tasks h m' tasks' (GuardStep.walls e y low none) keeps good = quiet_same g.place
guards_are_quiet k t g m tasks h m' tasks' (GuardStep.outlines e y low none) keeps good = quiet_same g.place
guards_are_quiet k t g m tasks h m' tasks' (GuardStep.comes x n some within outside used) keeps good =
    quiet_ranged g.place x n (Place.Block x n (Use.Held t Taking.ForUse))
    (no_rest x n (Use.Held t Taking.ForUse) (held_ne t Taking.ForUse))
    (λ z m low high is. let q = sym (outside z low high) ∙ is in cc)
guards_are_quiet k t g m tasks h m' tasks' (GuardStep.leaves x n taking is at) keeps good =
    quiet_ranged g.place x n Place.Outside (λ z m q. cc)
    (block_inside g.place x n (Use.Held t taking) (held_ne t taking) good.parts.whole at)
guards_are_quiet k t g m tasks h m' tasks' (GuardStep.others action other) keeps good = quiet_same g.place
