-- Where a wall stands beside a block, its region begins or ends there.
use Rattle.std.proofs.Common.{◌≡◌, ◌≢◌, ◌∙◌, ◌+◌, ◌-◌, ◌<◌, ℕ, Some, refl, ap, sym, subst, arith, inl, inr}
use Rattle.pool_types.specs.declared.policy.RegionRec.{RegionRec}
use Rattle.pool_words.specs.declared.words.Key.{Key}
use Rattle.word_codes.specs.declared.guards.Guard.{Guard}
use Rattle.guards.specs.declared.win.Side.{Side}
use Rattle.guards.specs.declared.win.Taking.{Taking}
use Rattle.word_laws.proofs.CallerLemmas.{equal_or, less_or}
use Rattle.guard_laws.specs.Blocks.{EdgeFits, GuardFits, IsOf, IsShut, IsWhole, Parts, Piece, Place, Standing, Use}
use Rattle.guard_laws.specs.Blocks.{at_edge, core_in, edge_of, rest_of, view_of}
use Rattle.guard_laws.specs.Steps.{guard_in}
use Rattle.office_laws.specs.Laws.{HasGranule}
use Rattle.office_laws.specs.Regions.{AreApart}
use Rattle.region_laws.specs.Granules.{IsInside}
use Rattle.pool_laws.specs.Wholes.{Whole, WholeGood}
use Rattle.seat_ties.specs.Says.{BeginsRegion, EndsRegion, IsAllOfRegion}

abbrev pub PartsOf : Key → Whole → Type 0
PartsOf k w = Parts k.span (view_of w.pool.blocks (core_in w.pool.mem w.pool.tasks))

pub parts_of : (k : Key) (w : Whole) → WholeGood k w → PartsOf k w
parts_of k w good = good.free.pool.guards.parts

abbrev pub first_in : Place → ℕ
first_in Place.Outside = 0
first_in (Place.Block first granules use') = first

abbrev pub granules_in : Place → ℕ
granules_in Place.Outside = 0
granules_in (Place.Block first granules use') = granules

-- a guard of a block, or one that is won of it, is no wall
of_no_wall : (n : ℕ) (s : Standing) (guard : Guard) → IsOf n s → GuardFits s guard → guard ≡ Guard.Wall → ⊥
of_no_wall n Standing.Inner guard of fits wall = of
of_no_wall n Standing.Resting guard of fits wall = of
of_no_wall n Standing.Walled guard of fits wall = of
of_no_wall n Standing.Joining guard of fits wall = of
of_no_wall n Standing.Waiting guard of fits wall = of
of_no_wall n (Standing.Open m) guard of fits wall =
    let e : Guard.Free m ≡ Guard.Wall = sym fits ∙ wall in absurd (cc)
of_no_wall n (Standing.Won m t Taking.ForUse) guard of fits wall =
    let e : Guard.Used ≡ Guard.Wall = sym fits ∙ wall in absurd (cc)
of_no_wall n (Standing.Won m t Taking.ToJoin) guard of fits wall =
    let e : Guard.Coalescing ≡ Guard.Wall = sym fits ∙ wall in absurd (cc)

rest_no_wall : (taking : Taking) (guard : Guard) → GuardFits (rest_of taking) guard → guard ≡ Guard.Wall → ⊥
rest_no_wall Taking.ForUse guard fits wall =
    let e : Guard.Used ≡ Guard.Wall = sym fits ∙ wall in absurd (cc)
rest_no_wall Taking.ToJoin guard fits wall = subst IsShut wall fits

edge_no_wall : (pieces : ℕ → Piece) (e : Side) (u : Use) (x n : ℕ) (s : Standing) (guard : Guard)
    → EdgeFits pieces e u x n s → GuardFits s guard → guard ≡ Guard.Wall → ⊥
edge_no_wall pieces e Use.Bin x n s guard of fits wall = of_no_wall n s guard of fits wall
edge_no_wall pieces e (Use.Held t taking) x n s guard (inl rests) fits wall =
    rest_no_wall taking guard (subst (λ y. GuardFits y guard) rests fits) wall
edge_no_wall pieces e (Use.Held t taking) x n s guard (inr offered) fits wall =
    of_no_wall n s guard offered.2 fits wall
edge_no_wall pieces e Use.Queued x n s guard waits fits wall =
    let stays : guard ≡ Guard.Coalescing = subst (λ y. GuardFits y guard) waits fits in
    let e : Guard.Coalescing ≡ Guard.Wall = sym stays ∙ wall in absurd (cc)
edge_no_wall pieces e Use.Elsewhere x n s guard rests fits wall =
    let stays : guard ≡ Guard.Used = subst (λ y. GuardFits y guard) rests fits in
    let e : Guard.Used ≡ Guard.Wall = sym stays ∙ wall in absurd (cc)

-- no guard of a block says that there is a wall
pub block_no_wall : (k : Key) (w : Whole) → WholeGood k w → (e : Side) (x n : ℕ) (u : Use)
    → w.pool.blocks.place x ≡ Place.Block x n u → guard_in w.pool.mem e (edge_of e x n) ≡ Guard.Wall → ⊥
block_no_wall k w good e x n u at wall =
    let parts : PartsOf k w = parts_of k w good in
    edge_no_wall (view_of w.pool.blocks (core_in w.pool.mem w.pool.tasks)).pieces e u x n
    (at_edge w.pool.blocks.standing e (edge_of e x n)) (guard_in w.pool.mem e (edge_of e x n))
    (parts.edges_fit e x n u at) (parts.words_fit e (edge_of e x n)) wall

-- a block that has this granule and not that one, beside it
ends_before : (place : ℕ → Place) (first n : ℕ) (u : Use) (x m : ℕ) (u' : Use) → place first ≡ Place.Block first n u
    → IsWhole place (first - 1) x m u' → 0 < first → x + m ≡ first
ends_before place first n u x m u' at whole some =
    let from = whole.from in
    let below = whole.below in
    less_or first (x + m)
    (λ high. let e : x ≡ first = ap first_in (sym (whole.all first (omega arith) high) ∙ at) in absurd (omega arith))
    (λ low. omega arith)

begins_behind : (place : ℕ → Place) (first n : ℕ) (u : Use) (x m : ℕ) (u' : Use) → 0 < n
    → place (first + n - 1) ≡ Place.Block first n u → IsWhole place (first + n) x m u' → x ≡ first + n
begins_behind place first n u x m u' some at whole =
    let from = whole.from in
    let below = whole.below in
    less_or x (first + n)
    (λ low.
    let same : Place.Block x m u' ≡ Place.Block first n u = sym (whole.all (first + n - 1) (omega arith) (omega arith)) ∙ at in
    let e : x ≡ first = ap first_in same in
    let f : m ≡ n = ap granules_in same in
    absurd (omega arith))
    (λ high. omega arith)

before_in : (k : Key) (w : Whole) → WholeGood k w → (first n : ℕ) (u : Use) (p : Place)
    → w.pool.blocks.place first ≡ Place.Block first n u → guard_in w.pool.mem Side.End first ≡ Guard.Wall
    → w.pool.blocks.place (first - 1) ≡ p → IsInside p → 0 < first → ⊥
before_in k w good first n u Place.Outside at wall is inside some = inside
before_in k w good first n u (Place.Block x m u') at wall is inside some =
    let parts : PartsOf k w = parts_of k w good in
    let whole : IsWhole w.pool.blocks.place (first - 1) x m u' = parts.whole (first - 1) x m u' is in
    let from = whole.from in
    let below = whole.below in
    block_no_wall k w good Side.End x m u' (whole.all x (omega arith) (omega arith))
    (ap (λ y. guard_in w.pool.mem Side.End y)
    (ends_before w.pool.blocks.place first n u x m u' at whole some) ∙ wall)

pub begins_region : (k : Key) (w : Whole) → WholeGood k w → (first n : ℕ) (u : Use)
    → w.pool.blocks.place first ≡ Place.Block first n u → guard_in w.pool.mem Side.End first ≡ Guard.Wall
    → BeginsRegion w first
begins_region k w good first n u at wall s one settled has =
    let low = has.0 in
    let high = has.1 in
    less_or one.first first
    (λ less. absurd (before_in k w good first n u (w.pool.blocks.place (first - 1)) at wall refl
    (good.regions.placed.inside s one (first - 1) settled (omega arith, omega arith)) (omega arith)))
    (λ more. omega arith)

behind_in : (k : Key) (w : Whole) → WholeGood k w → (first n : ℕ) (u : Use) (p : Place)
    → w.pool.blocks.place first ≡ Place.Block first n u → 0 < n
    → guard_in w.pool.mem Side.Begin (first + n) ≡ Guard.Wall
    → w.pool.blocks.place (first + n) ≡ p → IsInside p → ⊥
behind_in k w good first n u Place.Outside at some wall is inside = inside
behind_in k w good first n u (Place.Block x m u') at some wall is inside =
    let parts : PartsOf k w = parts_of k w good in
    let own : IsWhole w.pool.blocks.place first first n u = parts.whole first first n u at in
    let whole : IsWhole w.pool.blocks.place (first + n) x m u' = parts.whole (first + n) x m u' is in
    let from = whole.from in
    let below = whole.below in
    block_no_wall k w good Side.Begin x m u' (whole.all x (omega arith) (omega arith))
    (ap (λ y. guard_in w.pool.mem Side.Begin y)
    (begins_behind w.pool.blocks.place first n u x m u' some
    (own.all (first + n - 1) (omega arith) (omega arith)) whole) ∙ wall)

-- regions that are settled have no granule in common, and none lies beside another
settled_apart : (k : Key) (w : Whole) → WholeGood k w → (s t : ℕ) (one other : RegionRec) → s ≢ t
    → w.settled s ≡ Some one → w.settled t ≡ Some other → AreApart one other
settled_apart k w good s t one other differ is is' =
    let known = good.regions.office.records_fit.known in
    let live = good.regions.placed.known in
    good.regions.office.out_fits.apart s t one other differ (known s one (live s one is))
    (known t other (live t other is'))

not_apart : (one other : RegionRec) (first : ℕ) → AreApart one other → HasGranule one first
    → HasGranule other (one.first + one.granules) → ⊥
not_apart one other first (inl before) has has' = let low = has'.0 in absurd (omega arith)
not_apart one other first (inr behind) has has' =
    let high = has'.1 in
    let low = has.0 in
    let up = has.1 in
    absurd (omega arith)

past_region : (k : Key) (w : Whole) → WholeGood k w → (first n : ℕ) (u : Use) (s : ℕ) (one : RegionRec)
    → w.pool.blocks.place first ≡ Place.Block first n u → w.settled s ≡ Some one → HasGranule one first
    → one.first + one.granules < first + n → ⊥
past_region k w good first n u s one at settled has short =
    let parts : PartsOf k w = parts_of k w good in
    let own : IsWhole w.pool.blocks.place first first n u = parts.whole first first n u at in
    let last : ℕ = one.first + one.granules in
    let high = has.1 in
    let there : w.pool.blocks.place last ≡ Place.Block first n u = own.all last (omega arith) (omega arith) in
    let found = good.regions.placed.outside last (subst IsInside (sym there) tt) in
    equal_or s found.0
    (λ same.
    let e : Some one ≡ Some found.1 = sym settled ∙ ap w.settled same ∙ found.2 in
    let f : one ≡ found.1 = cc in
    let below : last < last = subst (λ r. last < r.first + r.granules) (sym f) found.3.1 in
    absurd (omega arith))
    (λ differ. not_apart one found.1 first (settled_apart k w good s found.0 one found.1 differ settled found.2) has
    found.3)

pub ends_region : (k : Key) (w : Whole) → WholeGood k w → (first n : ℕ) (u : Use)
    → w.pool.blocks.place first ≡ Place.Block first n u → 0 < n
    → guard_in w.pool.mem Side.Begin (first + n) ≡ Guard.Wall → EndsRegion w first n
ends_region k w good first n u at some wall s one settled has =
    let low = has.0 in
    let high = has.1 in
    less_or (one.first + one.granules) (first + n)
    (λ less. absurd (past_region k w good first n u s one at settled has less))
    (λ more. less_or (first + n) (one.first + one.granules)
    (λ inner. absurd (behind_in k w good first n u (w.pool.blocks.place (first + n)) at some wall refl
    (good.regions.placed.inside s one (first + n) settled (omega arith, inner))))
    (λ outer. omega arith))

-- a block that its region begins and ends with is all of it
pub all_of_region : (w : Whole) (seat first n : ℕ)
    → w.pool.blocks.place first ≡ Place.Block first n (Use.Held seat Taking.ToJoin) → BeginsRegion w first
    → EndsRegion w first n → IsAllOfRegion w seat first
all_of_region w seat first n at begins ends s one settled has =
    let low : one.first ≡ first = begins s one settled has in
    let high : one.first + one.granules ≡ first + n = ends s one settled has in
    let same : n ≡ one.granules = omega arith in
    (low, at ∙ ap (λ m. Place.Block first m (Use.Held seat Taking.ToJoin)) same)
