-- The steps that get the room of a slab into the hand.
use Rattle.std.proofs.Common.{◌≡◌, ◌≢◌, ◌⊎◌, ℕ, ◌+◌, ◌-◌, ◌%◌, ◌<◌, ◌≤◌, true, false, List, [], ◌∷◌, ◌++◌, length, take, drop, Some, None, refl, sym, ◌∙◌, ap, arith, inl, inr, subst, lit<, lit≤, nat_lt}
use Rattle.std.specs.Prelude.{Contains, find, is_some}
use Rattle.std.specs.declared.option.Option.{Option}
use Rattle.std.proofs.lemmas.Bool.{and_parts, ltb-false, false_from_ne_true}
use Rattle.std.proofs.lemmas.List.Elements.{Contains-append_cases}
use Rattle.pool_types.specs.declared.values.Region.{Region}
use Rattle.pool_types.specs.declared.values.Request.{Request}
use Rattle.pool_types.specs.declared.values.Request.TheVariants.{Malloc}
use Rattle.part_model.specs.declared.holders.Holder.TheVariants.{Bin, Queue, Hand}
use Rattle.size_classes.proofs.CallerLemmas.{served_plain-small}
use Rattle.size_classes.specs.declared.Served.TheVariants.{Small}
use Rattle.machine.specs.States.{State, fixed_terms}
use Rattle.machine.specs.Ranges.{Each}
use Rattle.machine.specs.Journal.{Turn, Asked, Bins_seen, Raw_called, after_turn, after_turns}
use Rattle.machine.specs.Lawful.{nothing_moves}
use Rattle.machine.specs.Turns.{TookOrphans, IsSight, IsObtaining}
use Rattle.machine.proofs.CallerLemmas.{first_number, first_gap, nothing_moved, none_whole, none_apart}
use Rattle.list_laws.proofs.Counts.{count-some}
use Rattle.list_laws.proofs.Members.{Contains-first, Contains-none, Contains-drop, Contains-take, Contains-single}
use Rattle.plain_lists.specs.Lists.{Block, Lists, lies_on, first_region, whole_block, has_free}
use Rattle.plain_lists.specs.Backend.{first_fit, even_from, rests, after_cut, slab_block}
use Rattle.plain_lists.specs.Whole.{Room, newest}
use Rattle.plain_lists.specs.Good.{IsGoodBlock, has_granule}
use Rattle.plain_lists.proofs.Beside.{AreGoodBeside, beside_none, at_most_once}
use Rattle.plain_lists.proofs.Blocks.{two_at_least, Contains-after_cut}
use Rattle.plain_lists.proofs.BlockChanges.{blocks_good, left_block, block_cut, no_block}
use Rattle.plain_lists.proofs.Granules.{lies_on-true, lies_on-before, lies_on-behind, lies_on-parts}
use Rattle.plain_lists.proofs.Within.{block_within}
use Rattle.plain_lists.proofs.Fits.{first_fit-Some, even_from-good}
use Rattle.plain_lists.proofs.StoredChanges.{newest_last, stored_newest}
use Rattle.plain_runs.specs.Steps.{one_region, block_range, blocks_step, no_blocks, vain_step, come_step, fetch_step}
use Rattle.plain_runs.proofs.Layouts.{Use, Away, InBin, InHand, InCache, OfSlab, Layout, regions_of, next_of, laid, Knows}
use Rattle.plain_runs.proofs.Moves.{laid-inside, laid-outside, laid-other, is_plain, plain_no_slab, same_laid, IsQuiet, IsMade}
use Rattle.plain_runs.proofs.GranuleSteps.{IsAll, bins_step, put_step, unshelf_step, region_step}
use Rattle.plain_runs.proofs.ObjectSteps.{on_slab}
use Rattle.plain_runs.proofs.Courses.{call_with, calling, moment, moments_of, IsStep, quiet_moves, Opens, quiet_opens, opens_on, opens_quiet}
use Rattle.plain_runs.proofs.Bins.{BlocksIn, blocks_stay, blocks_cut}
use Rattle.plain_runs.proofs.LaidOut.{Lays, Holds, used_inside, used_below}
use Rattle.plain_runs.proofs.Legal.{never, no_orphan, none_waits}
use Rattle.plain_runs.proofs.Lacks.{HasSlabsOf, none_free, no_bin}
use Rattle.plain_runs.proofs.GotRuns.{IsAsked, accepted}

-- Room for a slab is in hand after these turns, with which a call on the request begins. No slab began, and where a slab is needed the orphans
-- were looked at.
pub record IsReady (request : Request) (state : State) (old : Layout) (turns : List Turn) (room : Room) : Type 0 where
  pub opens : Opens request state turns
  pub took : (class : ℕ) → TookOrphans 0 class (moments_of state turns)
  pub layout : Layout
  pub was : HasSlabsOf layout old
  pub region : Region
  pub region_is : room.lists.region ≡ Some region
  pub knows : Knows (after_turns state turns) layout (Some region) room.lists.granted
  pub lays : Lays room.lists layout
  pub blocks : BlocksIn (after_turns state turns) room.lists.blocks
  pub hand : (g : ℕ) → lies_on room.index 2 g ≡ true → layout g ≡ InHand
  pub even : room.index % 2 ≡ 0
  pub inside : room.index + 2 ≤ 128

-- no slab of the book is an orphan at the first of some turns
pub took_none : (state : State) (lists : Lists) (turn : Turn) (turns : List Turn) (class : ℕ) → Holds state lists → TookOrphans 0 class (moments_of state (turn ∷ turns))
took_none state lists turn turns class holds = inl (λ slab kept. absurd (no_orphan state holds.layout lists.region lists.granted slab holds.knows kept.0))

-- a region that is there
pub region_some : (region : Option Region) → is_some region ≡ true → (r : Region) × (region ≡ Some r)
region_some (Some region) there = (region, refl)
region_some None there = absurd (let clash : false ≡ true = there in cc)

-- what has a granule is in the region, and the region is there
pub used_region : (lists : Lists) (layout : Layout) (g : ℕ) (use' : Use) → Lays lists layout → layout g ≡ use' → (Away ≡ use' → ⊥) → (r : Region) × (lists.region ≡ Some r)
used_region lists layout g use' lays is other = region_some lists.region (and_parts (is_some lists.region) (nat_lt g 128) (used_inside lists layout g use' lays is other)).0

-- no slab of the slab cache, and no block, has a granule of room that is in hand
pub stored_apart : (index : ℕ) (rooms : List ℕ) (lists : Lists) (other g : ℕ) → AreGoodBeside (index ∷ rooms) lists → Contains lists.stored other → lies_on other 2 g ≡ true → lies_on index 2 g ≡ false
stored_apart index rooms lists other g good member on = false_from_ne_true (lies_on index 2 g) (λ here.
    let once = at_most_once (index ∷ rooms) lists good g in
    let room = count-some (λ i. lies_on i 2 g) (index ∷ rooms) index (Contains-first index rooms) here in
    let one = count-some (λ i. lies_on i 2 g) lists.stored other member on in
    omega (arith, once, room, one))

pub block_apart : (index : ℕ) (rooms : List ℕ) (lists : Lists) (block : Block) (g : ℕ) → AreGoodBeside (index ∷ rooms) lists → Contains lists.blocks block → lies_on block.first block.granules g ≡ true → lies_on index 2 g ≡ false
block_apart index rooms lists block g good member on = false_from_ne_true (lies_on index 2 g) (λ here.
    let once = at_most_once (index ∷ rooms) lists good g in
    let room = count-some (λ i. lies_on i 2 g) (index ∷ rooms) index (Contains-first index rooms) here in
    let one = count-some (λ (b : Block). lies_on b.first b.granules g) lists.blocks block member on in
    omega (arith, once, room, one))

-- what is known where the region is there
pub knows_region : (state : State) (layout : Layout) (region : Option Region) (r : Region) (granted : ℕ) → region ≡ Some r → Knows state layout region granted → Knows state layout (Some r) granted
knows_region state layout region r granted is knows = subst (λ reg. Knows state layout reg granted) is knows

-- the newest slab of the slab cache is fetched
pub fetched_room : (request : Request) (state : State) (lists : Lists) (index : ℕ) (holds : Holds state lists) → newest lists.stored ≡ Some index →
    IsReady request state holds.layout (fetch_step index ∷ []) (record { lists = record lists { stored = take (length lists.stored - 1) lists.stored }; index = index })
fetched_room request state lists index holds is =
    let good = stored_newest index [] lists (beside_none lists holds.good) is in
    let last : Contains (drop (length lists.stored - 1) lists.stored) index = subst (λ xs. Contains xs index) (sym (newest_last lists.stored index is)) (Contains-first index []) in
    let member : Contains lists.stored index = Contains-drop (length lists.stored - 1) lists.stored index last in
    let all : (g : ℕ) → lies_on index 2 g ≡ true → holds.layout g ≡ InCache = holds.lays.stored_are index member in
    let below : index + 1 < 128 = used_below lists holds.layout (index + 1) InCache holds.lays (all (index + 1) (on_slab index (index + 1) (omega arith) (omega arith))) (λ same. let e = same in cc) in
    let there = used_region lists holds.layout index InCache holds.lays (all index (on_slab index index (omega arith) (omega arith))) (λ same. let e = same in cc) in
    let step = unshelf_step state holds.layout there.0 lists.granted index (holds.good.stored_are index member) (omega arith) all (knows_region state holds.layout lists.region there.0 lists.granted there.1 holds.knows) in
    record {
      opens = quiet_opens request state (fetch_step index ∷ []) (step.step, tt);
      took = λ class. took_none state lists (fetch_step index) [] class holds;
      layout = laid holds.layout index 2 InHand;
      was = (same_laid holds.layout index 2 InHand refl (λ g on. ap is_plain (all g on))).was;
      blocks = blocks_stay state (fetch_step index) lists.blocks (record { from = refl; to = refl }, tt) holds.blocks;
      region = there.0;
      region_is = there.1;
      knows = step.knows;
      lays = record {
        slabs_are = λ slab inside g on. laid-other holds.layout index 2 InCache InHand (OfSlab slab) g all (holds.lays.slabs_are slab inside g on) (plain_no_slab InCache slab refl);
        stored_are = λ other inside g on. laid-outside holds.layout index 2 InHand g (stored_apart index [] (record lists { stored = take (length lists.stored - 1) lists.stored }) other g good inside on)
            ∙ holds.lays.stored_are other (Contains-take (length lists.stored - 1) lists.stored other inside) g on;
        blocks_are = λ block inside g on. laid-other holds.layout index 2 InCache InHand InBin g all (holds.lays.blocks_are block inside g on) (λ same. let e = same in cc);
        away = λ g off. laid-other holds.layout index 2 InCache InHand Away g all (holds.lays.away g off) (λ same. let e = same in cc);
      };
      hand = λ g on. laid-inside holds.layout index 2 InHand g on;
      even = holds.good.stored_are index member;
      inside = omega arith;
    }

-- a slab is cut out of a block
pub cut_room : (request : Request) (state : State) (lists : Lists) (block : Block) (holds : Holds state lists) → first_fit lists.blocks ≡ Some block →
    IsReady request state holds.layout (blocks_step (slab_block (even_from block.first) ∷ []) Bin (Hand 0) ∷ []) (record { lists = record lists { blocks = after_cut block lists.blocks }; index = even_from block.first })
cut_room request state lists block holds is = subst P (sym (even_from-good block good_block)) ready
  where
    member : Contains lists.blocks block
    member = (first_fit-Some lists.blocks block is).inside

    good_block : IsGoodBlock block
    good_block = holds.good.blocks_are block member

    P : ℕ → Type 0
    P index = IsReady request state holds.layout (blocks_step (slab_block index ∷ []) Bin (Hand 0) ∷ []) (record { lists = record lists { blocks = after_cut block lists.blocks }; index = index })

    all : (g : ℕ) → lies_on block.first 2 g ≡ true → holds.layout g ≡ InBin
    all g on =
        let bounds = lies_on-parts block.first 2 g on in
        let two = two_at_least block good_block in
        holds.lays.blocks_are block member g (lies_on-true block.first block.granules g bounds.0 (omega (arith, bounds, two)))

    ready : P block.first
    ready =
        let good = block_cut [] lists block (beside_none lists holds.good) member in
        let two = two_at_least block good_block in
        let inside = (block_within [] lists (beside_none lists holds.good) block member).1 in
        let there = used_region lists holds.layout block.first InBin holds.lays (all block.first (on_slab block.first block.first (omega arith) (omega arith))) (λ same. let e = same in cc) in
        let step = bins_step state holds.layout there.0 lists.granted (slab_block block.first ∷ []) (record { some = lit< tt; inside = omega arith }, tt) (tt, tt) (all, tt)
        (knows_region state holds.layout lists.region there.0 lists.granted there.1 holds.knows) in
        record {
          opens = quiet_opens request state (blocks_step (slab_block block.first ∷ []) Bin (Hand 0) ∷ []) (step.step, tt);
          took = λ class. took_none state lists (blocks_step (slab_block block.first ∷ []) Bin (Hand 0)) [] class holds;
          layout = laid holds.layout block.first 2 InHand;
          was = (same_laid holds.layout block.first 2 InHand refl (λ g on. ap is_plain (all g on))).was;
          blocks = blocks_cut state lists.blocks block (blocks_good [] lists (beside_none lists holds.good)) member holds.blocks;
          region = there.0;
          region_is = there.1;
          knows = step.knows;
          lays = record {
            slabs_are = λ slab listed g on. laid-other holds.layout block.first 2 InBin InHand (OfSlab slab) g all (holds.lays.slabs_are slab listed g on) (plain_no_slab InBin slab refl);
            stored_are = λ other listed g on. laid-other holds.layout block.first 2 InBin InHand InCache g all (holds.lays.stored_are other listed g on) (λ same. let e = same in cc);
            blocks_are = λ one listed g on. laid-outside holds.layout block.first 2 InHand g (block_apart block.first [] (record lists { blocks = after_cut block lists.blocks }) one g good listed on)
                ∙ was_in_bin one g on (Contains-after_cut block lists.blocks one good_block.even listed);
            away = λ g off. laid-other holds.layout block.first 2 InBin InHand Away g all (holds.lays.away g off) (λ same. let e = same in cc);
          };
          hand = λ g on. laid-inside holds.layout block.first 2 InHand g on;
          even = good_block.even;
          inside = omega arith;
        }
      where
        was_in_bin : (one : Block) (g : ℕ) → lies_on one.first one.granules g ≡ true →
            ((one.first ≡ block.first + 2) × (one.granules ≡ block.granules - 2) × (0 < block.granules - 2)) ⊎ (Contains lists.blocks one × (one.first ≢ block.first)) → holds.layout g ≡ InBin
        was_in_bin one g on (inl (first, granules, some)) =
            let bounds = lies_on-parts one.first one.granules g on in
            holds.lays.blocks_are block member g (lies_on-true block.first block.granules g (omega (arith, bounds)) (omega (arith, bounds)))
        was_in_bin one g on (inr (listed, other)) = holds.lays.blocks_are one listed g on

-- a look at the bins finds no block, where the lists have none; and the call has to look
pub no_block_seen : (state : State) (lists : Lists) (size class : ℕ) → IsAsked state lists size class → find (has_free class) lists.slabs ≡ None → lists.stored ≡ [] → lists.blocks ≡ [] →
    IsSight fixed_terms (calling state (call_with state (Malloc size) [])) (call_with state (Malloc size) []) (Bins_seen no_blocks)
no_block_seen state lists size class asked none stored blocks = (
  record {
    whole = tt;
    disjoint = tt;
    there = λ block member. absurd (Contains-none block member);
    all = λ byte bin. absurd (no_bin state lists asked.holds blocks byte bin);
    joined = λ apart one other member. absurd (Contains-none one member);
    blocks = λ block member. absurd (Contains-none block member);
  },
  (
    Small class,
    served_plain-small size class asked.found,
    (none_free state lists class asked.holds none stored, λ alone. none_waits state asked.holds.layout lists.region lists.granted class asked.holds.knows),
  ),
)

-- a malloc that looked in vain may ask for the region
pub asks_region : (state : State) (lists : Lists) (size class : ℕ) → IsAsked state lists size class → lists.region ≡ None →
    IsObtaining fixed_terms state (call_with state (Malloc size) (moment state vain_step ∷ [])) 1048576
asks_region state lists size class asked none =
    let regions : state.regions ≡ [] = asked.holds.knows.regions_are ∙ ap regions_of none in
    let next : state.next ≡ 0 = asked.holds.knows.next_is ∙ ap next_of none in
    record {
      wants = refl;
      accepted = accepted state lists size class (moment state vain_step ∷ []) asked;
      none_yet = refl;
      earlier = [];
      served = Small class;
      seen = 0;
      vain = record {
        later = moment state vain_step ∷ [];
        steps = refl;
        still = refl;
        is = served_plain-small size class asked.found;
        vain = (refl, lit≤ tt, (λ block member. absurd (Contains-none block member)), (0, (refl, refl), refl));
      };
      drained = inl (inl (never state lists asked.holds (Some Queue) refl));
      asked = record {
        may = λ fixed. next;
        number = 0;
        number_is = first_number state regions next;
        start = 0;
        gap = first_gap state 1024 130 regions (lit≤ tt);
        exact = refl;
      };
    }

-- the region comes, and all but its first slab goes into a bin
pub region_room_ready : (state : State) (lists : Lists) (size class : ℕ) (asked : IsAsked state lists size class) → find (has_free class) lists.slabs ≡ None → lists.stored ≡ [] → lists.region ≡ None →
    IsReady (Malloc size) state asked.holds.layout (vain_step ∷ come_step ∷ blocks_step (rests whole_block) (Hand 0) Bin ∷ [])
    (record { lists = record lists { region = Some first_region; blocks = rests whole_block ++ lists.blocks }; index = even_from whole_block.first })
region_room_ready state lists size class asked none stored no_region =
    let empty : (block : Block) → Contains lists.blocks block → ⊥ = no_block [] lists (beside_none lists holds.good) no_region in
    let away : (g : ℕ) → layout g ≡ Away = λ g. holds.lays.away g (ap (λ r. has_granule r g) no_region) in
    let comes = region_step state layout lists.granted away (subst (λ reg. Knows state layout reg lists.granted) no_region holds.knows) in
    let all : IsAll (laid layout 0 128 InHand) InHand left_block = λ g on.
    let bounds = lies_on-parts 2 126 g on in
    laid-inside layout 0 128 InHand g (lies_on-true 0 128 g (omega arith) (omega (arith, bounds))) in
    let put = put_step (after_turn state come_step) (laid layout 0 128 InHand) first_region lists.granted left_block (record { some = lit< tt; inside = lit≤ tt }) all comes.knows in
    record {
      opens = opens_quiet (Malloc size) state (vain_step ∷ come_step ∷ []) (blocks_step (rests whole_block) (Hand 0) Bin)
          (opens_on (Malloc size) state (vain_step ∷ []) come_step
          (opens_on (Malloc size) state [] vain_step (quiet_opens (Malloc size) state [] tt) looks tt refl refl)
          (gives comes.made comes.quiet) comes.quiet refl refl)
          put.step;
      took = λ class. took_none state lists vain_step (come_step ∷ blocks_step (rests whole_block) (Hand 0) Bin ∷ []) class holds;
      layout = laid (laid layout 0 128 InHand) 2 126 InBin;
      was = λ g slab is. (same_laid layout 0 128 InHand refl (λ g on. ap is_plain (away g))).was g slab
          ((same_laid (laid layout 0 128 InHand) 2 126 InBin refl (λ g on. ap is_plain (all g on))).was g slab is);
      region = first_region;
      region_is = refl;
      knows = put.knows;
      blocks = λ range member. elim (Contains-append_cases (after_turn state come_step).blocks (block_range left_block ∷ []) range member) [
        | inl old ↦ absurd (let was = blocks_stay state come_step lists.blocks (record { from = refl; to = refl }, tt) holds.blocks range old in empty was.0 was.1)
        | inr new ↦ (left_block, Contains-first left_block lists.blocks, sym (Contains-single (block_range left_block) range new))
      ];
      lays = record {
        slabs_are = λ slab listed g on. absurd (plain_no_slab Away slab refl (sym (away slab.index) ∙ holds.lays.slabs_are slab listed slab.index (on_slab slab.index slab.index (omega arith) (omega arith))));
        stored_are = λ other listed g on. absurd (let clash : Away ≡ InCache = sym (away g) ∙ holds.lays.stored_are other listed g on in cc);
        blocks_are = λ block listed g on. elim (Contains-append_cases (left_block ∷ []) lists.blocks block listed) [
          | inl here ↦ laid-inside (laid layout 0 128 InHand) 2 126 InBin g (ap (λ (b : Block). lies_on b.first b.granules g) (Contains-single left_block block here) ∙ on)
          | inr old ↦ absurd (empty block old)
        ];
        away = λ g off.
            let past : 128 ≤ g = beyond g off in
            laid-outside (laid layout 0 128 InHand) 2 126 InBin g (lies_on-behind 2 126 g past) ∙ laid-outside layout 0 128 InHand g (lies_on-behind 0 128 g past) ∙ away g;
      };
      hand = λ g on.
          let bounds = lies_on-parts 0 2 g on in
          laid-outside (laid layout 0 128 InHand) 2 126 InBin g (lies_on-before 2 126 g (omega (arith, bounds)))
          ∙ laid-inside layout 0 128 InHand g (lies_on-true 0 128 g (omega arith) (omega (arith, bounds)));
      even = refl;
      inside = lit≤ tt;
    }
  where
    holds : Holds state lists
    holds = asked.holds

    layout : Layout
    layout = asked.holds.layout

    beyond : (g : ℕ) → has_granule (Some first_region) g ≡ false → 128 ≤ g
    beyond g off = ltb-false g 128 off

    no_blocks_here : lists.blocks ≡ []
    no_blocks_here = none_of lists.blocks (no_block [] lists (beside_none lists asked.holds.good) no_region)
      where
        none_of : (blocks : List Block) → ((block : Block) → Contains blocks block → ⊥) → blocks ≡ []
        none_of [] empty = refl
        none_of (block ∷ blocks) empty = absurd (empty block (Contains-first block blocks))

    looks : IsStep (Malloc size) state state [] vain_step
    looks = record {
      parts = [];
      book = [];
      region = None;
      seen = Bins_seen no_blocks;
      is = refl;
      clock = refl;
      made = record { whole = none_whole; apart = none_apart; there = tt; lawful = nothing_moves };
      fits = record {
        sight = no_block_seen state lists size class asked none stored no_blocks_here;
        moves = nothing_moved fixed_terms (call_with state (Malloc size) []);
        large = tt;
        slabs = tt;
        comes = tt;
        leaves = tt;
        answered = tt;
      };
    }

    gives : IsMade state come_step.parts come_step.book come_step.region → Each IsQuiet come_step.parts → IsStep (Malloc size) state state (moment state vain_step ∷ []) come_step
    gives made quiet = record {
      parts = come_step.parts;
      book = [];
      region = Some one_region;
      seen = Raw_called (Asked first_region.bytes (Some first_region));
      is = refl;
      clock = refl;
      made = made;
      fits = record {
        sight = ((asks_region state lists size class asked no_region, lit≤ tt), refl);
        moves = quiet_moves (call_with state (Malloc size) (moment state vain_step ∷ [])) come_step.parts quiet;
        large = tt;
        slabs = tt;
        comes = refl;
        leaves = tt;
        answered = tt;
      };
    }
