-- The steps that move whole granules.
use Rattle.std.proofs.Common.{◌≡◌, ℕ, ◌+◌, ◌*◌, ◌/◌, ◌%◌, ◌<◌, ◌≤◌, true, false, not, List, [], ◌∷◌, ◌++◌, Some, None, refl, sym, ◌∙◌, ap, arith, inl, subst, map, lit<, lit≤}
use Rattle.std.specs.Prelude.{Contains}
use Rattle.std.specs.List.{list_any}
use Rattle.std.specs.declared.option.Option.{Option}
use Rattle.std.proofs.lemmas.Bool.{and_from, le-leb, lt-ltb}
use Rattle.pool_types.specs.declared.values.Place.{Place}
use Rattle.pool_types.specs.declared.values.Region.{Region}
use Rattle.pool_types.specs.declared.policy.RegionRec.{RegionRec}
use Rattle.part_model.specs.declared.holders.Holder.{Holder}
use Rattle.part_model.specs.declared.holders.Holder.TheVariants.{SlabCache, Bin, Hand}
use Rattle.part_model.specs.declared.moves.Range.{Range}
use Rattle.part_model.specs.declared.moves.Part.{Part}
use Rattle.part_model.specs.Holding.{lies_in, after_part, after_parts, IsWhole, IsApartFromAll, AreApart, CanMoveAll}
use Rattle.part_model.specs.Lawful.{is_lawful_pair}
use Rattle.part_model.specs.Totals.{has_holder}
use Rattle.part_model.proofs.CallerLemmas.{after_parts-at, lies_in-parts, lies_in-not, apart_before}
use Rattle.list_laws.proofs.Members.{Contains-none}
use Rattle.machine.specs.States.{State, Slab, fixed_terms}
use Rattle.machine.specs.Ranges.{Each, part_of, parts_of, slab_range, IsGranules, IsOffBook, IsSlabRoom}
use Rattle.machine.specs.Regions.{IsNewRegion}
use Rattle.machine.specs.Answers.{Call}
use Rattle.machine.specs.Turns.{BeginSlabs}
use Rattle.machine.specs.Journal.{Turn, BookChange, Nothing_seen, is_object, after_turn}
use Rattle.machine.specs.Lawful.{IsLawful, region_comes, blocks_put, bins_taken, slab_stored, slab_fetched}
use Rattle.machine.proofs.CallerLemmas.{first_number, first_gap, each-map, each-parts_of, one_whole, each-all}
use Rattle.plain_lists.specs.Lists.{Block, lies_on, first_region}
use Rattle.plain_lists.specs.Backend.{slab_block}
use Rattle.plain_runs.specs.Steps.{one_region, granule_place, block_range, step_of, blocks_step, store_step, fetch_step, come_step}
use Rattle.plain_runs.proofs.Layouts.{Use, Away, InBin, InHand, InCache, Layout, holder_in, held_by, laid, Knows}
use Rattle.plain_runs.proofs.Moves.{granules_range, in_granules, moved_laid, is_plain, plain_no_slab, SameSlabs, same_laid, laid_plain, IsQuiet, none_any, knows_moved, granules_there, IsMade}

-- a step that ends no call, moves no object, brings no region and begins no slab may be made
pub record IsQuietStep (state : State) (turn : Turn) : Type 0 where
  pub parts : List Part
  pub book : List BookChange
  pub is : turn ≡ step_of parts book None Nothing_seen None
  pub made : IsMade state parts book None
  pub quiet : Each IsQuiet parts
  pub slabs : (state : State) (call : Call) → BeginSlabs state call book

-- A step that moves no object may be made, but for what its call asks of it. And what is known after it.
pub record Does (state : State) (turn : Turn) (next : Layout) (region : Option Region) (granted : ℕ) : Type 0 where
  pub made : IsMade state turn.parts turn.book turn.region
  pub quiet : Each IsQuiet turn.parts
  pub knows : Knows (after_turn state turn) next region granted

-- the granules of several blocks go to a use
abbrev pub laid_all : Layout → List Block → Use → Layout
laid_all layout [] use' = layout
laid_all layout (block ∷ blocks) use' = laid_all (laid layout block.first block.granules use') blocks use'

pub moved_all : (layout : Layout) (blocks : List Block) (from to : Option Holder) (use' : Use) → ((offset : ℕ) → holder_in use' offset ≡ to) → (byte : Place) →
    after_parts (held_by layout) (parts_of (map block_range blocks) from to) byte ≡ held_by (laid_all layout blocks use') byte
moved_all layout [] from to use' is byte = refl
moved_all layout (block ∷ blocks) from to use' is byte =
    after_parts-at (after_part (held_by layout) (part_of (block_range block) from to)) (held_by (laid layout block.first block.granules use')) (parts_of (map block_range blocks) from to) byte
    (moved_laid layout block.first block.granules from to use' is byte)
    ∙ moved_all (laid layout block.first block.granules use') blocks from to use' is byte

-- all granules of the block have this use
abbrev pub IsAll : Layout → Use → Block → Type 0
IsAll layout use' block = (g : ℕ) → lies_on block.first block.granules g ≡ true → layout g ≡ use'

-- no granule of the block is in a slab
abbrev pub IsPlain : Layout → Block → Type 0
IsPlain layout block = (g : ℕ) → lies_on block.first block.granules g ≡ true → is_plain (layout g) ≡ true

pub same_all : (layout : Layout) (blocks : List Block) (next : Use) → is_plain next ≡ true → Each (IsPlain layout) blocks → SameSlabs layout (laid_all layout blocks next)
same_all layout [] next plain all = record { kept = λ granule slab is. is; was = λ granule slab is. is }
same_all layout (block ∷ blocks) next plain (first, rest) =
    let here = same_laid layout block.first block.granules next plain first in
    let later = same_all (laid layout block.first block.granules next) blocks next plain
    (each-map (IsPlain layout) (IsPlain (laid layout block.first block.granules next)) (λ other all g on. laid_plain layout block.first block.granules next g plain (all g on)) blocks rest) in
    record {
      kept = λ granule slab is. later.kept granule slab (here.kept granule slab is);
      was = λ granule slab is. here.was granule slab (later.was granule slab is);
    }

-- a block of the region
pub record IsRegionBlock (block : Block) : Type 0 where
  pub some : 0 < block.granules
  pub inside : block.first + block.granules ≤ 128

-- each block ends before those behind it begin
abbrev pub IsRow : List Block → Type 0
IsRow [] = Unit {0}
IsRow (block ∷ blocks) = Each (λ (other : Block). block.first + block.granules ≤ other.first) blocks × IsRow blocks

-- a fact of what a list is mapped to
pub each-of_map : {X Y : Type 0} → (f : X → Y) (P : Y → Type 0) (xs : List X) → Each (λ x. P (f x)) xs → Each P (map f xs)
each-of_map f P [] all = tt
each-of_map f P (x ∷ xs) (first, rest) = (first, each-of_map f P xs rest)

pub parts_whole : (blocks : List Block) (from to : Option Holder) → Each IsRegionBlock blocks → Each (λ (part : Part). IsWhole part.range) (parts_of (map block_range blocks) from to)
parts_whole [] from to all = tt
parts_whole (block ∷ blocks) from to (first, rest) = (whole_block first.some first.inside, parts_whole blocks from to rest)
  where
    whole_block : 0 < block.granules → block.first + block.granules ≤ 128 → IsWhole (block_range block)
    whole_block some inside = record { some = omega arith; ends = omega arith }

pub parts_apart_from : (block : Block) (blocks : List Block) (from to : Option Holder) → Each (λ (other : Block). block.first + block.granules ≤ other.first) blocks →
    IsApartFromAll (block_range block) (parts_of (map block_range blocks) from to)
parts_apart_from block [] from to all = tt
parts_apart_from block (other ∷ blocks) from to (first, rest) = (apart_before (block_range block) (block_range other) (ends first), parts_apart_from block blocks from to rest)
  where
    ends : block.first + block.granules ≤ other.first → 8192 * block.first + 8192 * block.granules ≤ 8192 * other.first
    ends before = omega arith

pub parts_apart : (blocks : List Block) (from to : Option Holder) → IsRow blocks → AreApart (parts_of (map block_range blocks) from to)
parts_apart [] from to row = tt
parts_apart (block ∷ blocks) from to (first, rest) = (parts_apart_from block blocks from to first, parts_apart blocks from to rest)

pub parts_there : (state : State) (layout : Layout) (blocks : List Block) (use' : Use) (from to : Option Holder) → is_lawful_pair 0 from to ≡ true → ((offset : ℕ) → holder_in use' offset ≡ from) →
    ((byte : Place) → state.held byte ≡ held_by layout byte) → Each (IsAll layout use') blocks → CanMoveAll 0 state.held (parts_of (map block_range blocks) from to)
parts_there state layout [] use' from to lawful is held all = tt
parts_there state layout (block ∷ blocks) use' from to lawful is held (first, rest) = (
  record { lawful = lawful; there = granules_there state layout block.first block.granules use' from is held first },
  parts_there state layout blocks use' from to lawful is held rest,
)

-- granules of the one region
pub granules_at : (state : State) (first granules : ℕ) → state.regions ≡ one_region ∷ [] → 0 < granules → first + granules ≤ 128 → IsGranules fixed_terms.limits state (granules_range first granules) granules
granules_at state first granules is some inside = record {
  region = one_region;
  live = subst (λ (rs : List RegionRec). Contains rs one_region) (sym is) (0, lit< tt, refl);
  there = (refl, refl);
  before = first;
  starts = omega arith;
  bytes = omega arith;
  some = some;
  inside = inside;
}

-- no slab of the book has a granule of these
pub off_book : (state : State) (layout : Layout) (region : Option Region) (granted first granules : ℕ) → Knows state layout region granted →
    ((g : ℕ) → lies_on first granules g ≡ true → is_plain (layout g) ≡ true) → IsOffBook state (granules_range first granules)
off_book state layout region granted first granules knows all slab member byte inside =
    lies_in-not byte (slab_range slab.place) (λ both.
    let booked = knows.in_book slab member in
    let laid_slab = (knows.slabs_are booked.own.index booked.own booked.laid_is).0 in
    let there : lies_in byte (granules_range booked.own.index 2) ≡ true = sym (ap (λ (s : Slab). lies_in byte (slab_range s.place)) booked.is) ∙ both in
    plain_no_slab (layout (byte.offset / 8192)) booked.own (all (byte.offset / 8192) (on first granules inside)) (laid_slab.whole (byte.offset / 8192) (on booked.own.index 2 there)))
  where
    on : (first granules : ℕ) → lies_in byte (granules_range first granules) ≡ true → lies_on first granules (byte.offset / 8192) ≡ true
    on first granules inside =
        let parts = lies_in-parts byte (granules_range first granules) inside in
        sym (in_granules first granules byte.offset) ∙ and_from _ _ (le-leb _ _ parts.from) (lt-ltb _ _ parts.below)

-- quiet parts of blocks
pub blocks_quiet : (blocks : List Block) (from to : Option Holder) → ((range : Range) → IsQuiet (part_of range from to)) → Each IsQuiet (parts_of (map block_range blocks) from to)
blocks_quiet blocks from to all = each-parts_of IsQuiet from to all (map block_range blocks)

pub quiet_to : (parts : List Part) → Each IsQuiet parts → list_any (λ (part : Part). is_object part.to) parts ≡ false
quiet_to parts quiet = none_any (λ (part : Part). is_object part.to) parts (each-map IsQuiet (λ (part : Part). is_object part.to ≡ false) (λ part q. q.to) parts quiet)

pub quiet_stays : (parts : List Part) → Each IsQuiet parts → list_any (λ (part : Part). not (has_holder part.to)) parts ≡ false
quiet_stays parts quiet = none_any (λ (part : Part). not (has_holder part.to)) parts (each-map IsQuiet (λ (part : Part). not (has_holder part.to) ≡ false) (λ part q. ap not q.stays) parts quiet)

-- a step, and what is known after it
pub record Leaves (state : State) (turn : Turn) (next : Layout) (region : Option Region) (granted : ℕ) : Type 0 where
  pub step : IsQuietStep state turn
  pub knows : Knows (after_turn state turn) next region granted

-- blocks of one use go to another
pub blocks_moved : (state : State) (layout : Layout) (region : Region) (granted : ℕ) (blocks : List Block) (old next : Use) (from to : Option Holder) →
    is_plain old ≡ true → is_plain next ≡ true → ((offset : ℕ) → holder_in old offset ≡ from) → ((offset : ℕ) → holder_in next offset ≡ to) →
    is_lawful_pair 0 from to ≡ true → ((range : Range) → IsQuiet (part_of range from to)) →
    IsLawful fixed_terms state 0 (parts_of (map block_range blocks) from to) [] None →
    Each IsRegionBlock blocks → IsRow blocks → Each (IsAll layout old) blocks → Knows state layout (Some region) granted →
    Leaves state (step_of (parts_of (map block_range blocks) from to) [] None Nothing_seen None) (laid_all layout blocks next) (Some region) granted
blocks_moved state layout region granted blocks old next from to plain plain_next is_old is_next pair quiet lawful fit row all knows =
    let plain_all : Each (IsPlain layout) blocks = each-map (IsAll layout old) (IsPlain layout) (λ block use' g on. ap is_plain (use' g on) ∙ plain) blocks all in
    let still : Each IsQuiet (parts_of (map block_range blocks) from to) = blocks_quiet blocks from to quiet in
    record {
      step = record {
        parts = parts_of (map block_range blocks) from to;
        book = [];
        is = refl;
        made = record {
          whole = each-all (λ (part : Part). IsWhole part.range) (parts_of (map block_range blocks) from to) (parts_whole blocks from to fit);
          apart = parts_apart blocks from to row;
          there = parts_there state layout blocks old from to pair is_old knows.held_is all;
          lawful = lawful;
        };
        quiet = still;
        slabs = λ s call. tt;
      };
      knows = knows_moved state layout (laid_all layout blocks next) (Some region) granted (parts_of (map block_range blocks) from to) Nothing_seen None
          (quiet_to (parts_of (map block_range blocks) from to) still) (quiet_stays (parts_of (map block_range blocks) from to) still)
          (moved_all layout blocks from to next is_next) (same_all layout blocks next plain_next plain_all) knows;
    }

-- blocks come out of bins
pub bins_step : (state : State) (layout : Layout) (region : Region) (granted : ℕ) (blocks : List Block) → Each IsRegionBlock blocks → IsRow blocks → Each (IsAll layout InBin) blocks →
    Knows state layout (Some region) granted → Leaves state (blocks_step blocks Bin (Hand 0)) (laid_all layout blocks InHand) (Some region) granted
bins_step state layout region granted blocks fit row all knows =
    blocks_moved state layout region granted blocks InBin InHand (Some Bin) (Some (Hand 0)) refl refl (λ offset. refl) (λ offset. refl) refl
    (λ range. record { from = refl; to = refl; stays = refl; small = refl })
    (bins_taken (map block_range blocks) (each-of_map block_range (λ range. (granules : ℕ) × IsGranules fixed_terms.limits state range granules) blocks
    (each-map IsRegionBlock (λ block. (granules : ℕ) × IsGranules fixed_terms.limits state (block_range block) granules)
    (λ block fits. (block.granules, granules_at state block.first block.granules knows.regions_are fits.some fits.inside)) blocks fit)))
    fit row all knows

-- a block goes into its bin
pub put_step : (state : State) (layout : Layout) (region : Region) (granted : ℕ) (block : Block) → IsRegionBlock block → IsAll layout InHand block →
    Knows state layout (Some region) granted → Leaves state (blocks_step (block ∷ []) (Hand 0) Bin) (laid layout block.first block.granules InBin) (Some region) granted
put_step state layout region granted block fits all knows =
    blocks_moved state layout region granted (block ∷ []) InHand InBin (Some (Hand 0)) (Some Bin) refl refl (λ offset. refl) (λ offset. refl) refl
    (λ range. record { from = refl; to = refl; stays = refl; small = refl })
    (blocks_put (block_range block ∷ []) (
      (
        block.granules,
        record {
          whole = granules_at state block.first block.granules knows.regions_are fits.some fits.inside;
          free = off_book state layout (Some region) granted block.first block.granules knows (λ g on. ap is_plain (all g on));
        },
      ),
      tt,
    ))
    (fits, tt) (tt, tt) (all, tt) knows

-- there is room for a slab at an even index
pub slab_room : (state : State) (layout : Layout) (region : Region) (granted index : ℕ) → index % 2 ≡ 0 → index + 2 ≤ 128 →
    ((g : ℕ) → lies_on index 2 g ≡ true → is_plain (layout g) ≡ true) → Knows state layout (Some region) granted → IsSlabRoom fixed_terms.limits state (granule_place index)
unfolding granules_at
slab_room state layout region granted index even inside plain knows = record {
  block = record {
    whole = granules_at state index 2 knows.regions_are (lit< tt) inside;
    free = off_book state layout (Some region) granted index 2 knows plain;
  };
  even = even_at;
}
  where
    even_at : (1048576 + 8192 * index) % 16384 ≡ 0
    even_at = omega arith

-- a slab goes into the slab cache, and comes back
pub shelf_step : (state : State) (layout : Layout) (region : Region) (granted index : ℕ) → index % 2 ≡ 0 → index + 2 ≤ 128 → IsAll layout InHand (slab_block index) →
    Knows state layout (Some region) granted → Leaves state (store_step index) (laid layout index 2 InCache) (Some region) granted
shelf_step state layout region granted index even inside all knows =
    blocks_moved state layout region granted (slab_block index ∷ []) InHand InCache (Some (Hand 0)) (Some (SlabCache 0)) refl refl (λ offset. refl) (λ offset. refl) refl
    (λ range. record { from = refl; to = refl; stays = refl; small = refl })
    (slab_stored (granule_place index) (slab_room state layout region granted index even inside (λ g on. ap is_plain (all g on)) knows))
    (record { some = lit< tt; inside = inside }, tt) (tt, tt) (all, tt) knows

pub unshelf_step : (state : State) (layout : Layout) (region : Region) (granted index : ℕ) → index % 2 ≡ 0 → index + 2 ≤ 128 → IsAll layout InCache (slab_block index) →
    Knows state layout (Some region) granted → Leaves state (fetch_step index) (laid layout index 2 InHand) (Some region) granted
unshelf_step state layout region granted index even inside all knows =
    blocks_moved state layout region granted (slab_block index ∷ []) InCache InHand (Some (SlabCache 0)) (Some (Hand 0)) refl refl (λ offset. refl) (λ offset. refl) refl
    (λ range. record { from = refl; to = refl; stays = refl; small = refl })
    (slab_fetched (granule_place index) (slab_room state layout region granted index even inside (λ g on. ap is_plain (all g on)) knows))
    (record { some = lit< tt; inside = inside }, tt) (tt, tt) (all, tt) knows

-- the first region can come
pub first_can_come : (state : State) → state.regions ≡ [] → state.next ≡ 0 → IsNewRegion fixed_terms state one_region
first_can_come state none next = record {
  only = λ fixed. next;
  number = first_number state none next;
  placed = record {
    aligned = record { least = lit< tt; multiple = refl };
    placed = inl (record {
      all = refl;
      fits = record { even_or_odd = refl; gap = first_gap state 1024 129 none (lit≤ tt) };
      lowest = λ start fits. omega arith;
    });
  };
  apart = λ other member. absurd (Contains-none other (subst (λ (rs : List RegionRec). Contains rs other) none member));
  some = lit< tt;
  inside = lit≤ tt;
  ends = lit≤ tt;
}

-- the region comes into the hand
pub region_step : (state : State) (layout : Layout) (granted : ℕ) → ((g : ℕ) → layout g ≡ Away) → Knows state layout None granted →
    Does state come_step (laid layout 0 128 InHand) (Some first_region) granted
region_step state layout granted away knows =
    let same = same_laid layout 0 128 InHand refl (λ g on. ap is_plain (away g)) in
    record {
      made = record {
        whole = one_whole (part_of (granules_range 0 128) None (Some (Hand 0))) (record { some = lit< tt; ends = lit≤ tt });
        apart = (tt, tt);
        there = (record { lawful = refl; there = granules_there state layout 0 128 Away None (λ offset. refl) knows.held_is (λ g on. away g) }, tt);
        lawful = region_comes one_region (first_can_come state knows.regions_are knows.next_is);
      };
      quiet = (record { from = refl; to = refl; stays = refl; small = refl }, tt);
      knows = record {
        held_is = λ byte. after_parts-at state.held (held_by layout) (part_of (granules_range 0 128) None (Some (Hand 0)) ∷ []) byte (knows.held_is byte)
            ∙ moved_laid layout 0 128 None (Some (Hand 0)) InHand (λ offset. refl) byte;
        regions_are = ap (λ (rs : List RegionRec). rs ++ one_region ∷ []) knows.regions_are;
        next_is = refl;
        last_is = knows.last_is;
        in_book = λ slab member.
            let old = knows.in_book slab member in
            record { own = old.own; laid_is = same.kept old.own.index old.own old.laid_is; is = old.is };
        booked = λ granule slab is. knows.booked granule slab (same.was granule slab is);
        slabs_are = λ granule slab is. absurd (plain_no_slab (layout granule) slab (ap is_plain (away granule)) (same.was granule slab is));
      };
    }
