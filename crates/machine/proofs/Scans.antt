-- A scan of all bins misses no block that fits.
use Rattle.std.proofs.Common.{◌≡◌, ◌≢◌, ◌⊎◌, ℕ, ◌+◌, ◌-◌, ◌*◌, ◌<◌, ◌≤◌, min, inl, inr, List, [], ◌∷◌, ◌++◌, Bool, true, false, ◌&&◌, ◌||◌, not, nat_le, refl, sym, ◌∙◌, ap, arith, zero, suc, subst, filter, map}
use Rattle.std.specs.Prelude.{Contains, if◌then◌else◌, is_some, ◌==◌}
use Rattle.std.proofs.lemmas.Bool.{cases_lt, and_from, le-leb}
use Rattle.pool_types.specs.declared.values.Place.{Place}
use Rattle.pool_types.specs.declared.values.Request.{Request}
use Rattle.part_model.specs.declared.moves.Range.{Range}
use Rattle.part_model.specs.Holding.{same_region, lies_in, IsApart}
use Rattle.part_model.proofs.CallerLemmas.{lies_in-parts, lies_in-is, same_region-is, same_region-parts}
use Rattle.size_classes.specs.declared.Served.{Served}
use Rattle.size_classes.specs.declared.Served.TheVariants.{Small, Large, Bad}
use Rattle.machine.specs.States.{Terms, State}
use Rattle.machine.specs.Ranges.{AreDisjoint}
use Rattle.machine.specs.Journal.{Turn, Look}
use Rattle.machine.specs.Looks.{bin_of, first_bin, blocks_seen, HasSlab, Fits}
use Rattle.machine.specs.Answers.{Call}
use Rattle.machine.specs.Events.{Event, Begins, Makes, Reset_begins, Reset_ends, Ends, Serving, Resetting, Progress, no_progress, has_any, with_step}
use Rattle.machine.specs.Events.{after_begin, after_step, after_event, after_events, after_other_begins, new_call}
use Rattle.machine.specs.Turns.{IsJustPut, AreLists}
use Rattle.machine.specs.Runs.{MayHappen, IsRunFrom}
use Rattle.machine.specs.Laws.{IsInBins, LooksMissNone}
use Rattle.machine.proofs.Shapes.{each-contains}
use Rattle.list_laws.proofs.Members.{Contains-filter_from}

-- two ranges of a list that have a byte in common are one
pub disjoint-same : (ranges : List Range) → AreDisjoint ranges → (one other : Range) → Contains ranges one → Contains ranges other → (byte : Place) →
    lies_in byte one ≡ true → lies_in byte other ≡ true → one ≡ other
disjoint-same [] disjoint one other (k, below, is) more byte inside inside_other = absurd (omega (arith, below))
disjoint-same (range ∷ ranges) (first, rest) one other (zero, below, is) (zero, below', is') byte inside inside_other = sym is ∙ is'
disjoint-same (range ∷ ranges) (first, rest) one other (zero, below, is) (suc k, below', is') byte inside inside_other =
    absurd (let apart : IsApart range other = each-contains (IsApart range) ranges first other (k, omega (arith, below'), is') in
    let e : true ≡ false = sym inside_other ∙ apart byte (subst (λ r. lies_in byte r ≡ true) (sym is) inside) in cc)
disjoint-same (range ∷ ranges) (first, rest) one other (suc k, below, is) (zero, below', is') byte inside inside_other =
    absurd (let apart : IsApart range one = each-contains (IsApart range) ranges first one (k, omega (arith, below), is) in
    let e : true ≡ false = sym inside ∙ apart byte (subst (λ r. lies_in byte r ≡ true) (sym is') inside_other) in cc)
disjoint-same (range ∷ ranges) (first, rest) one other (suc k, below, is) (suc j, below', is') byte inside inside_other =
    disjoint-same ranges rest one other (k, omega (arith, below), is) (j, omega (arith, below'), is') byte inside inside_other

-- a byte of a range, by its offset from the range's begin
abbrev pub byte_of : Range → ℕ → Place
byte_of range k = record { pool = range.place.pool; region = range.place.region; offset = range.place.offset + k }

-- the next byte after one of a block lies in the block, or the block ends there
pub next_byte : (block range : Range) (k : ℕ) → lies_in (byte_of range k) block ≡ true →
    (lies_in (byte_of range (k + 1)) block ≡ true) ⊎ (block.place.offset + block.bytes ≡ range.place.offset + (k + 1))
next_byte block range k inside =
    let lies = lies_in-parts (byte_of range k) block inside in
    let from : block.place.offset ≤ range.place.offset + k = lies.from in
    let below : range.place.offset + k < block.place.offset + block.bytes = lies.below in
    elim (cases_lt (range.place.offset + (k + 1)) (block.place.offset + block.bytes)) [
      | inl more ↦ inl (lies_in-is (byte_of range (k + 1)) block lies.region (omega arith) more)
      | inr last ↦ inr (omega arith)
    ]

-- the byte before one of a block lies in the block, or the block begins behind it
pub last_byte : (block range : Range) (k : ℕ) → lies_in (byte_of range (k + 1)) block ≡ true →
    (lies_in (byte_of range k) block ≡ true) ⊎ (block.place.offset ≡ range.place.offset + (k + 1))
last_byte block range k inside =
    let lies = lies_in-parts (byte_of range (k + 1)) block inside in
    let from : block.place.offset ≤ range.place.offset + (k + 1) = lies.from in
    let below : range.place.offset + (k + 1) < block.place.offset + block.bytes = lies.below in
    elim (cases_lt (range.place.offset + k) block.place.offset) [
      | inl first ↦ inr (omega arith)
      | inr more ↦ inl (lies_in-is (byte_of range k) block lies.region more (omega arith))
    ]

-- blocks of one region
pub same_block_region : (one other : Range) (byte next : Place) → same_region byte one.place ≡ true → same_region next other.place ≡ true → byte.pool ≡ next.pool → byte.region ≡ next.region →
    same_region one.place other.place ≡ true
same_block_region one other byte next in_one in_other pool region =
    let first = same_region-parts byte one.place in_one in
    let second = same_region-parts next other.place in_other in
    same_region-is one.place other.place (sym first.0 ∙ pool ∙ second.0) (sym first.1 ∙ region ∙ second.1)

-- bytes in a row that are in bins lie in one block
pub in_one_block : (terms : Terms) (progress : Progress) (seat : ℕ) (lists : List Range) → AreLists terms progress seat lists → progress.overlapped ≡ false →
    ((byte : Place) → IsJustPut progress seat byte → ⊥) → (range : Range) → 0 < range.bytes → IsInBins progress.state range →
    (block : Range) × Contains lists block × ((k : ℕ) → k < range.bytes → lies_in (byte_of range k) block ≡ true)
in_one_block terms progress seat lists are once nobody range some bins =
    let first = block_at 0 some in (first.0, first.1, λ k below. all first.0 first.1 first.2 k below)
  where
    block_at : (k : ℕ) → k < range.bytes → (block : Range) × Contains lists block × (lies_in (byte_of range k) block ≡ true)
    block_at k below = elim (are.all (byte_of range k) (bins (byte_of range k) (lies_in-is (byte_of range k) range (same_region-is (byte_of range k) range.place refl refl) (omega arith) (omega arith)))) [
      | inl found ↦ found
      | inr put' ↦ absurd (nobody (byte_of range k) put')
    ]

    meets : (block other : Range) (k : ℕ) → Contains lists block → Contains lists other → lies_in (byte_of range k) block ≡ true → lies_in (byte_of range (k + 1)) other ≡ true →
        block.place.offset + block.bytes ≡ range.place.offset + (k + 1) → lies_in (byte_of range (k + 1)) block ≡ true
    meets block other k member member_other inside inside_other ends =
        elim (last_byte other range k inside_other) [
          | inl both ↦ subst (λ b. lies_in (byte_of range (k + 1)) b ≡ true) (sym (disjoint-same lists are.disjoint block other member member_other (byte_of range k) inside both)) inside_other
          | inr begins ↦ absurd (are.joined once block other member member_other (
            same_block_region block other (byte_of range k) (byte_of range (k + 1)) (lies_in-parts (byte_of range k) block inside).region (lies_in-parts (byte_of range (k + 1)) other inside_other).region refl refl,
            inl (ends ∙ sym begins),
          ))
        ]

    step : (block : Range) (k : ℕ) → Contains lists block → k + 1 < range.bytes → lies_in (byte_of range k) block ≡ true → lies_in (byte_of range (k + 1)) block ≡ true
    step block k member below inside = elim (next_byte block range k inside) [
      | inl more ↦ more
      | inr ends ↦ (let next = block_at (k + 1) below in meets block next.0 k member next.1 inside next.2 ends)
    ]

    all : (block : Range) → Contains lists block → lies_in (byte_of range 0) block ≡ true → (k : ℕ) → k < range.bytes → lies_in (byte_of range k) block ≡ true
    all block member inside zero below = inside
    all block member inside (suc k) below =
        let next : lies_in (byte_of range (k + 1)) block ≡ true = step block k member (omega arith) (all block member inside k (omega arith)) in
        subst (λ j. lies_in (byte_of range j) block ≡ true) (let e : k + 1 ≡ suc k = omega arith in e) next

-- at most one member
abbrev pub IsShort : {X : Type 0} → List X → Type 0
IsShort [] = Unit {0}
IsShort (x ∷ []) = Unit {0}
IsShort (x ∷ y ∷ ys) = ⊥

pub short-same : {X : Type 0} → (xs : List X) → IsShort xs → (one other : X) → Contains xs one → Contains xs other → one ≡ other
short-same [] short one other (k, below, is) member = absurd (omega (arith, below))
short-same (x ∷ []) short one other (zero, below, is) (zero, below', is') = sym is ∙ is'
short-same (x ∷ []) short one other (zero, below, is) (suc k, below', is') = absurd (omega (arith, below'))
short-same (x ∷ []) short one other (suc k, below, is) member = absurd (omega (arith, below))
short-same (x ∷ y ∷ ys) short one other member member_other = absurd short

pub short-map : {X : Type 0} → (f : X → X) (xs : List X) → IsShort xs → IsShort (map f xs)
short-map f [] short = tt
short-map f (x ∷ []) short = tt
short-map f (x ∷ y ∷ ys) short = short

pub short-filter : {X : Type 0} → (test : X → Bool) (xs : List X) → IsShort xs → IsShort (filter test xs)
short-filter test [] short = tt
short-filter {X} test (x ∷ []) short = by_test (test x)
  where
    by_test : (b : Bool) → IsShort {X = X} (if b then x ∷ [] else [])
    by_test true = tt
    by_test false = tt
short-filter test (x ∷ y ∷ ys) short = absurd short

-- As long as no two calls were open at once, at most one is. Where calls aren't served, none is.
pub record IsLone (progress : Progress) : Type 0 where
  pub lone : progress.overlapped ≡ false → IsShort progress.calls
  pub quiet : progress.phase ≢ Serving → progress.calls ≡ []

pub lone_begin : (progress : Progress) (seat : ℕ) (request : Request) → progress.phase ≡ Serving → IsLone progress → IsLone (after_begin progress seat request)
lone_begin progress seat request serving lone = record {
  lone = λ once. by_calls progress.calls (or_false progress.overlapped (has_any progress.calls) once);
  quiet = λ other. absurd (other serving);
}
  where
    or_false : (x y : Bool) → (x || y) ≡ false → y ≡ false
    or_false false y is = is
    or_false true y is = absurd (let e = is in cc)

    by_calls : (calls : List Call) → has_any calls ≡ false → IsShort (map after_other_begins calls ++ new_call progress seat request ∷ [])
    by_calls [] none = tt
    by_calls (call ∷ calls) none = absurd (let e = none in cc)

pub lone_step : (progress : Progress) (turn : Turn) → IsLone progress → IsLone (after_step progress turn)
lone_step progress turn lone = record {
  lone = λ once. short (is_some turn.answer) (lone.lone once);
  quiet = λ other. none (is_some turn.answer) progress.calls (lone.quiet other);
}
  where
    short : (b : Bool) → IsShort progress.calls →
        IsShort (if b then filter (λ call. not (call.seat == turn.seat)) progress.calls else map (λ call. if call.seat == turn.seat then with_step progress.state turn call else call) progress.calls)
    short true is = short-filter (λ (call : Call). not (call.seat == turn.seat)) progress.calls is
    short false is = short-map (λ (call : Call). if call.seat == turn.seat then with_step progress.state turn call else call) progress.calls is

    none : (b : Bool) (calls : List Call) → calls ≡ [] →
        (if b then filter (λ call. not (call.seat == turn.seat)) calls else map (λ call. if call.seat == turn.seat then with_step progress.state turn call else call) calls) ≡ []
    none true calls is = ap (λ cs. filter (λ (call : Call). not (call.seat == turn.seat)) cs) is
    none false calls is = ap (λ cs. map (λ (call : Call). if call.seat == turn.seat then with_step progress.state turn call else call) cs) is

pub lone_event : (terms : Terms) (progress : Progress) (event : Event) → MayHappen terms progress event → IsLone progress → IsLone (after_event progress event)
lone_event terms progress (Begins seat request) may lone = lone_begin progress seat request may.serving lone
lone_event terms progress (Makes turn) may lone = lone_step progress turn lone
lone_event terms progress Reset_begins may lone = record { lone = lone.lone; quiet = λ other. may.0 }
lone_event terms progress Reset_ends may lone =
    let none : progress.calls ≡ [] = lone.quiet (λ serving. (let e : Resetting ≡ Serving = sym may.0 ∙ serving in cc)) in
    record { lone = λ once. subst IsShort (sym none) tt; quiet = λ other. absurd (other refl) }
lone_event terms progress (Ends farewells) may lone = record { lone = lone.lone; quiet = λ other. may.0 }

pub lone_run : (terms : Terms) (progress : Progress) (events : List Event) → IsRunFrom terms progress events → IsLone progress → IsLone (after_events progress events)
lone_run terms progress [] run lone = lone
lone_run terms progress (event ∷ events) (may, run) lone = lone_run terms (after_event progress event) events run (lone_event terms progress event may lone)

pub lone_nothing : IsLone no_progress
lone_nothing = record { lone = λ once. tt; quiet = λ other. absurd (other refl) }

-- the bin of a block
pub bin_of-most : (bytes : ℕ) → bin_of bytes ≤ 511
bin_of-most bytes = omega arith

pub bin_of-least : (granules bytes : ℕ) → granules * 8192 ≤ bytes → min granules 512 - 1 ≤ bin_of bytes
bin_of-least granules bytes room = omega arith

-- a block that a scan from its need's first bin would see
pub seen_block : (look : Look) (block : Range) → Contains look.lists block → look.first ≤ bin_of block.bytes → look.last ≡ 511 → Contains (blocks_seen look) block
seen_block look block member from last =
    Contains-filter_from (λ b. nat_le look.first (bin_of b.bytes) && nat_le (bin_of b.bytes) look.last) look.lists block member
    (and_from (nat_le look.first (bin_of block.bytes)) (nat_le (bin_of block.bytes) look.last) (le-leb look.first (bin_of block.bytes) from)
    (le-leb (bin_of block.bytes) look.last (let most = bin_of-most block.bytes in subst (λ n. bin_of block.bytes ≤ n) (sym last) most)))

-- a slab in a range lies in the block that has the range
pub slab_in_block : (terms : Terms) (state : State) (range block : Range) → 0 < range.bytes → ((k : ℕ) → k < range.bytes → lies_in (byte_of range k) block ≡ true) →
    HasSlab terms.limits state range → HasSlab terms.limits state block × (2 * 8192 ≤ block.bytes)
slab_in_block terms state range block some all slab =
    let k : ℕ = slab.offset - range.place.offset in
    let above = slab.above in
    let inside = slab.inside in
    let first = lies_in-parts (byte_of range (slab.offset - range.place.offset)) block (all (slab.offset - range.place.offset) (omega arith)) in
    let last = lies_in-parts (byte_of range (slab.offset - range.place.offset + 16383)) block (all (slab.offset - range.place.offset + 16383) (omega arith)) in
    let from : block.place.offset ≤ range.place.offset + (slab.offset - range.place.offset) = first.from in
    let below : range.place.offset + (slab.offset - range.place.offset + 16383) < block.place.offset + block.bytes = last.below in
    let same = same_region-parts (byte_of range (slab.offset - range.place.offset)) block.place first.region in (
      record {
        region = slab.region;
        live = slab.live;
        there = (sym same.0 ∙ slab.there.0, sym same.1 ∙ slab.there.1);
        offset = slab.offset;
        above = omega arith;
        inside = omega arith;
        even = slab.even;
      },
      omega arith,
    )

-- all of a range lies in its block
pub range_in_block : (range block : Range) → 0 < range.bytes → ((k : ℕ) → k < range.bytes → lies_in (byte_of range k) block ≡ true) → range.bytes ≤ block.bytes
range_in_block range block some all =
    let first = lies_in-parts (byte_of range 0) block (all 0 some) in
    let last = lies_in-parts (byte_of range (range.bytes - 1)) block (all (range.bytes - 1) (omega arith)) in
    let from : block.place.offset ≤ range.place.offset + 0 = first.from in
    let below : range.place.offset + (range.bytes - 1) < block.place.offset + block.bytes = last.below in
    omega arith

-- where a range fits, the block that has it fits, and stands in a bin that is looked at
pub block_fits : (terms : Terms) (state : State) (served : Served) (range block : Range) → 0 < range.bytes → ((k : ℕ) → k < range.bytes → lies_in (byte_of range k) block ≡ true) →
    Fits terms.limits state served range → Fits terms.limits state served block × (first_bin served ≤ bin_of block.bytes)
block_fits terms state (Small class) range block some all fits =
    let slab = slab_in_block terms state range block some all fits in (slab.0, bin_of-least 2 block.bytes slab.1)
block_fits terms state (Large granules alignment) range block some all fits =
    let enough : range.bytes ≤ block.bytes = range_in_block range block some all in (omega (arith, fits, enough), bin_of-least granules block.bytes (omega (arith, fits, enough)))
block_fits terms state Bad range block some all fits = absurd fits

-- a look misses no room
pub looks_miss_none : LooksMissNone
looks_miss_none terms events run once call is_open served look are first last none range some bins fits =
    let lone = lone_run terms no_progress events run.1 lone_nothing in
    let nobody : (byte : Place) → IsJustPut (after_events no_progress events) call.seat byte → ⊥ =
    λ byte put'. put'.1.1 (ap (λ (c : Call). c.seat) (short-same (after_events no_progress events).calls (lone.lone once) put'.0 call put'.1.0 is_open)) in
    let found = in_one_block terms (after_events no_progress events) call.seat look.lists are once nobody range some bins in
    let fit = block_fits terms (after_events no_progress events).state served range found.0 some found.2 fits in
    none found.0 (seen_block look found.0 found.1 (subst (λ n. n ≤ bin_of found.0.bytes) (sym first) fit.1) last) fit.0
