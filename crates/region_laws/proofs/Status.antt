-- Which granules are in blocks stays, where no region comes or leaves.
use Rattle.std.proofs.Common.{◌≡◌, inr, ℕ, ◌+◌, ◌-◌, ◌<◌, ◌≤◌, length, sym, ap, subst, arith}
use Rattle.pool_words.specs.declared.words.Key.{Key}
use Rattle.guards.specs.declared.win.Taking.{Taking}
use Rattle.guards.specs.declared.win.WinAt.{WinAt}
use Rattle.guards.specs.declared.win.WinCall.{WinCall}
use Rattle.guards.specs.declared.win.WinNext.{WinNext}
use Rattle.guards.specs.Win.{win_course, win_learn}
use Rattle.word_laws.specs.Memory.{Mem, found}
use Rattle.word_laws.proofs.CallerLemmas.{less_or}
use Rattle.guard_laws.specs.Blocks.{Use, Place, put_range, Task, piece_of, Shadow, core_in, BlocksWhole, GuardGood}
use Rattle.guard_laws.specs.Steps.{shadow_won, place_split, place_drained, GuardStep}
use Rattle.guard_laws.specs.Laws.{WinEnds}
use Rattle.guard_laws.proofs.CallerLemmas.{range_out, in_or, range_each, both_words_or_none}
use Rattle.use_laws.specs.Pools.{Pool, PoolGood}
use Rattle.use_laws.specs.Steps.{PoolStep}
use Rattle.use_laws.proofs.CallerLemmas.{freed_rests, block_of, kept_by, kept_cached, cached_by}
use Rattle.region_laws.specs.Granules.{IsInside}
use Rattle.region_laws.specs.Steps.{KeepsRegions, LeavesRegions}

-- a granule is in a block just where it was
abbrev pub SameStatus : (ℕ → Place) → (ℕ → Place) → Type 0
SameStatus place place' =
    (y : ℕ) → (IsInside (place y) → IsInside (place' y)) × (IsInside (place' y) → IsInside (place y))

same : (place : ℕ → Place) → SameStatus place place
same place y = ((λ is. is), (λ is. is))

-- a range of blocks is one block
ranged : (place : ℕ → Place) (x n : ℕ) (u : Use) → ((z : ℕ) → x ≤ z → z < x + n → IsInside (place z))
    → SameStatus place (put_range place x n (Place.Block x n u))
ranged place x n u inside y = in_or x n y
    (λ low high. ((λ _. here low high), (λ _. inside y low high)))
    (λ out. (
      (λ is. subst IsInside (sym (range_out place x n (Place.Block x n u) y out)) is),
      (λ is. subst IsInside (range_out place x n (Place.Block x n u) y out) is),
    ))
  where
    here : x ≤ y → y < x + n → IsInside (put_range place x n (Place.Block x n u) y)
    here low high = range_each (λ z q. x ≤ z → z < x + n → IsInside q) place x n (Place.Block x n u)
        (λ z out low high. inside z low high) (λ z low high _ _. tt) y low high

block_inside : (place : ℕ → Place) (x n : ℕ) (u : Use) → BlocksWhole place → place x ≡ Place.Block x n u → (z : ℕ)
    → x ≤ z → z < x + n → IsInside (place z)
block_inside place x n u whole at z low high = subst IsInside (sym ((whole x x n u at).all z low high)) tt

used_same : (place : ℕ → Place) (x n : ℕ) (was now : Use) → BlocksWhole place → place x ≡ Place.Block x n was
    → SameStatus place (put_range place x n (Place.Block x n now))
used_same place x n was now whole at = ranged place x n now (block_inside place x n was whole at)

status_then : (a b c : ℕ → Place) → SameStatus a b → SameStatus b c → SameStatus a c
status_then a b c one two y = ((λ is. (two y).0 ((one y).0 is)), (λ is. (one y).1 ((two y).1 is)))

split_same : (place : ℕ → Place) (x a b : ℕ) (u : Use) → BlocksWhole place → place x ≡ Place.Block x (a + b) u
    → SameStatus place (place_split x a b u place)
split_same place x a b u whole at =
    status_then place first (place_split x a b u place)
    (ranged place x a u (λ z low high. block_inside place x (a + b) u whole at z low (omega arith)))
    (ranged first (x + a) b u
    (λ z low high. subst IsInside (sym (range_out place x a (Place.Block x a u) z (inr low)))
    (block_inside place x (a + b) u whole at z (omega arith) (omega arith))))
  where
    first : ℕ → Place
    first = put_range place x a (Place.Block x a u)

merged_same : (place : ℕ → Place) (x a b : ℕ) (u : Use) → BlocksWhole place → place x ≡ Place.Block x a u
    → place (x + a) ≡ Place.Block (x + a) b u → SameStatus place (put_range place x (a + b) (Place.Block x (a + b) u))
merged_same place x a b u whole at behind = ranged place x (a + b) u
    (λ z low high. less_or z (x + a) (λ near. block_inside place x a u whole at z low near)
    (λ far. block_inside place (x + a) b u whole behind z far (omega arith)))

drained_same : (seat : ℕ) (place : ℕ → Place) → SameStatus place (λ y. place_drained seat (place y))
drained_same t place y = by (place y)
  where
    by : (q : Place) → (IsInside q → IsInside (place_drained t q)) × (IsInside (place_drained t q) → IsInside q)
    by Place.Outside = ((λ is. is), (λ is. is))
    by (Place.Block x n u) = ((λ _. tt), (λ _. tt))

won_same : (seat : ℕ) (c : WinCall) (g : Shadow) (m m' : Mem) (next : WinNext) → BlocksWhole g.place
    → WinEnds g (shadow_won seat c next g) m m' seat c next → SameStatus g.place (shadow_won seat c next g).place
won_same t c g m m' (WinNext.Goes WinAt.First) whole ends = same g.place
won_same t c g m m' (WinNext.Goes WinAt.Second) whole ends = same g.place
won_same t c g m m' (WinNext.Goes WinAt.Back) whole ends = same g.place
won_same t c g m m' WinNext.Won whole ends =
    used_same g.place c.begin c.granules Use.Bin (Use.Held t c.taking) whole ends.bin
won_same t c g m m' (WinNext.NotWon f) whole ends = same g.place
won_same t c g m m' WinNext.GivenBack whole ends = same g.place

guards_same_status : (k : Key) (seat : ℕ) (g : Shadow) (m : Mem) (tasks : ℕ → Task) (h : Shadow) (m' : Mem)
    (tasks' : ℕ → Task) → (step : GuardStep k seat g m tasks h m' tasks')
    → KeepsRegions k seat g m tasks h m' tasks' step → GuardGood k g (core_in m tasks) → SameStatus g.place h.place
guards_same_status k t g m tasks h m' tasks' (GuardStep.begins c is fits) keeps good = same g.place
guards_same_status k t g m tasks h m' tasks' (GuardStep.wins c at is) keeps good =
    won_same t c g m m' (win_learn c at (found m (win_course c at))) good.parts.whole
    (both_words_or_none k t g m tasks c at good is)
guards_same_status k t g m tasks h m' tasks' (GuardStep.offers x n taking is at) keeps good = same g.place
guards_same_status k t g m tasks h m' tasks' (GuardStep.offered x n is) keeps good =
    let got = (good.parts.piece_is t x n (ap piece_of is)).0 in
    used_same g.place x n (Use.Held t got.0) Use.Bin good.parts.whole got.1
guards_same_status k t g m tasks h m' tasks' (GuardStep.marks e x n taking guard is at fits) keeps good = same g.place
guards_same_status k t g m tasks h m' tasks' (GuardStep.readies e x n y taking at low high) keeps good = same g.place
guards_same_status k t g m tasks h m' tasks' (GuardStep.splits x a b is some more at used) keeps good =
    split_same g.place x a b (Use.Held t Taking.ForUse) good.parts.whole at
guards_same_status k t g m tasks h m' tasks' (GuardStep.merges x a b is at behind) keeps good =
    merged_same g.place x a b (Use.Held t Taking.ToJoin) good.parts.whole at behind
guards_same_status k t g m tasks h m' tasks' (GuardStep.reuses x n was now is own own' at fits) keeps good =
    used_same g.place x n was now good.parts.whole at
guards_same_status k t g m tasks h m' tasks' GuardStep.drains keeps good = drained_same t g.place
guards_same_status k t g m tasks h m' tasks' (GuardStep.walls e y low none) keeps good = absurd keeps
guards_same_status k t g m tasks h m' tasks' (GuardStep.outlines e y low none) keeps good = absurd keeps
guards_same_status k t g m tasks h m' tasks' (GuardStep.comes x n some within outside used) keeps good = absurd keeps
guards_same_status k t g m tasks h m' tasks' (GuardStep.leaves x n taking is at) keeps good = absurd keeps
guards_same_status k t g m tasks h m' tasks' (GuardStep.others action other) keeps good = same g.place

pub pools_same_status : (k : Key) (seat : ℕ) (p later : Pool) → (step : PoolStep k seat p later)
    → LeavesRegions k seat p later step → PoolGood k p → SameStatus p.blocks.place later.blocks.place
pools_same_status k t p later (PoolStep.guards h m' tasks step keeps things) leaves good =
    guards_same_status k t p.blocks p.mem p.tasks h m' tasks step leaves good.guards
pools_same_status k t p later (PoolStep.objects h m' l' step plain) leaves good = same p.blocks.place
pools_same_status k t p later (PoolStep.frees call kind at few is own) leaves good = same p.blocks.place
pools_same_status k t p later (PoolStep.frees_block call x n at taking few is ends away) leaves good =
    used_same p.blocks.place x n Use.Elsewhere (Use.Held t taking) good.guards.parts.whole
    (freed_rests k p t call x n at is ends good).1
pools_same_status k t p later (PoolStep.takes e head below few is) leaves good = same p.blocks.place
pools_same_status k t p later (PoolStep.rests e unit few is) leaves good = same p.blocks.place
pools_same_status k t p later (PoolStep.joins e first last count is) leaves good = same p.blocks.place
pools_same_status k t p later (PoolStep.readies x n unit has away fits low high few) leaves good =
    used_same p.blocks.place x n (Use.Held t Taking.ForUse) Use.Elsewhere good.guards.parts.whole has.block
pools_same_status k t p later (PoolStep.slab_begins e class has away even low) leaves good =
    used_same p.blocks.place e 2 (Use.Held t Taking.ForUse) Use.Elsewhere good.guards.parts.whole has.block
pools_same_status k t p later (PoolStep.slab_ends e taking free away by none) leaves good =
    used_same p.blocks.place e 2 Use.Elsewhere (Use.Held t taking) good.guards.parts.whole
    (block_of k p e (kept_by (p.locals.book.keeper e) t by) good)
pools_same_status k t p later (PoolStep.slab_cached e has even room) leaves good =
    used_same p.blocks.place e 2 (Use.Held t Taking.ForUse) Use.Elsewhere good.guards.parts.whole has.block
pools_same_status k t p later (PoolStep.newest_out e taking free is) leaves good =
    let by = cached_by k p t e (length (p.cached t).items - 1) is good in
    used_same p.blocks.place e 2 Use.Elsewhere (Use.Held t taking) good.guards.parts.whole
    (block_of k p e (kept_cached (p.locals.book.keeper e) t by) good)
pools_same_status k t p later (PoolStep.oldest_out e taking free is) leaves good =
    let by = cached_by k p t e 0 is good in
    used_same p.blocks.place e 2 Use.Elsewhere (Use.Held t taking) good.guards.parts.whole
    (block_of k p e (kept_cached (p.locals.book.keeper e) t by) good)
pools_same_status k t p later (PoolStep.clears e n taking has) leaves good = same p.blocks.place
pools_same_status k t p later (PoolStep.stores_header e by) leaves good = same p.blocks.place
pools_same_status k t p later (PoolStep.leaves e away by header) leaves good = same p.blocks.place
pools_same_status k t p later (PoolStep.comes chain away orphans) leaves good = same p.blocks.place
pools_same_status k t p later (PoolStep.goes_back e away has) leaves good = same p.blocks.place
pools_same_status k t p later (PoolStep.adopts e away has) leaves good = same p.blocks.place
pools_same_status k t p later (PoolStep.shelves x n has) leaves good =
    used_same p.blocks.place x n (Use.Held t Taking.ForUse) Use.Elsewhere good.guards.parts.whole has.block
pools_same_status k t p later (PoolStep.unshelves x n taking free shelved rests) leaves good =
    used_same p.blocks.place x n Use.Elsewhere (Use.Held t taking) good.guards.parts.whole rests
