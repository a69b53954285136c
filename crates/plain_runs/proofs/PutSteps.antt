-- The steps that put room for a slab into bins, and those that trim the slab cache.
use Rattle.std.proofs.Common.{◌≡◌, ◌⊎◌, ℕ, ◌+◌, ◌<◌, ◌≤◌, Bool, true, false, List, [], ◌∷◌, ◌++◌, Some, None, refl, sym, ◌∙◌, ap, arith, inl, inr, subst}
use Rattle.std.specs.Prelude.{Contains, if◌then◌else◌}
use Rattle.std.specs.declared.option.Option.{Option}
use Rattle.std.proofs.lemmas.Bool.{cases_Bool, cases_lt, eqb-true, false_from_ne_true}
use Rattle.pool_types.specs.declared.values.Region.{Region}
use Rattle.part_model.specs.declared.holders.Holder.TheVariants.{Bin, Hand}
use Rattle.machine.specs.States.{State}
use Rattle.machine.specs.Ranges.{Each}
use Rattle.machine.specs.Journal.{Turn, after_turn, after_turns}
use Rattle.machine.proofs.CallerLemmas.{each-append}
use Rattle.plain_lists.specs.Lists.{Block, Lists, lies_on}
use Rattle.plain_lists.specs.Backend.{meets, joined, block_before, block_behind, joined_first, granules_in, after_put, after_puts, slab_block}
use Rattle.list_laws.proofs.Members.{Contains-first, Contains-other, Contains-cons, Contains-none, Contains-single}
use Rattle.std.proofs.lemmas.List.Elements.{Contains-append_cases, Contains-append_left, Contains-append_right}
use Rattle.list_laws.proofs.Finds.{find-Some}
use Rattle.plain_lists.proofs.Granules.{lies_on-true, lies_on-parts}
use Rattle.plain_lists.proofs.Beside.{AreGoodBeside}
use Rattle.plain_lists.proofs.Joined.{before_meets, Contains-after_put}
use Rattle.plain_lists.proofs.StoredChanges.{stored_oldest, oldest_put}
use Rattle.plain_lists.proofs.Within.{block_within, stored_within, room_within}
use Rattle.plain_runs.specs.Steps.{listed, put_steps, puts_steps, fetch_step, blocks_step}
use Rattle.plain_runs.proofs.Layouts.{Use, Away, InBin, InHand, InCache, OfSlab, Layout, laid, Knows}
use Rattle.plain_runs.proofs.Moves.{laid-inside, laid-outside, laid-other, plain_no_slab}
use Rattle.plain_runs.proofs.GranuleSteps.{IsAll, IsRegionBlock, IsRow, laid_all, bins_step, put_step, unshelf_step}
use Rattle.plain_runs.proofs.ObjectSteps.{on_slab}
use Rattle.plain_runs.proofs.Courses.{AreQuiet, quiet_append, after_turns-append}
use Rattle.plain_runs.proofs.LaidOut.{Lays}
use Rattle.plain_runs.proofs.RoomSteps.{stored_apart}
use Rattle.plain_runs.proofs.Bins.{BlocksIn, blocks_stay, blocks_put}
use Rattle.plain_lists.proofs.BlockChanges.{blocks_good}

-- granules that have the use already keep it, those of the blocks get it, and others keep theirs
pub laid_all-keep : (layout : Layout) (blocks : List Block) (use' : Use) (g : ℕ) → layout g ≡ use' → laid_all layout blocks use' g ≡ use'
laid_all-keep layout [] use' g is = is
laid_all-keep layout (block ∷ blocks) use' g is = laid_all-keep (laid layout block.first block.granules use') blocks use' g (by_test (lies_on block.first block.granules g))
  where
    by_test : (b : Bool) → (if b then use' else layout g) ≡ use'
    by_test true = refl
    by_test false = is

pub laid_all-inside : (layout : Layout) (blocks : List Block) (use' : Use) (g : ℕ) (one : Block) → Contains blocks one → lies_on one.first one.granules g ≡ true → laid_all layout blocks use' g ≡ use'
laid_all-inside layout [] use' g one member on = absurd (Contains-none one member)
laid_all-inside layout (block ∷ blocks) use' g one member on = go (Contains-cons block blocks one member) (λ later. laid_all-inside (laid layout block.first block.granules use') blocks use' g one later on)
  where
    go : (block ≡ one) ⊎ Contains blocks one → (Contains blocks one → laid_all layout (block ∷ blocks) use' g ≡ use') → laid_all layout (block ∷ blocks) use' g ≡ use'
    go (inl is) step = laid_all-keep (laid layout block.first block.granules use') blocks use' g (laid-inside layout block.first block.granules use' g (ap (λ (b : Block). lies_on b.first b.granules g) is ∙ on))
    go (inr later) step = step later

pub laid_all-outside : (layout : Layout) (blocks : List Block) (use' : Use) (g : ℕ) → ((one : Block) → Contains blocks one → lies_on one.first one.granules g ≡ false) → laid_all layout blocks use' g ≡ layout g
laid_all-outside layout [] use' g off = refl
laid_all-outside layout (block ∷ blocks) use' g off =
    laid_all-outside (laid layout block.first block.granules use') blocks use' g (λ one member. off one (Contains-other block blocks one member))
    ∙ laid-outside layout block.first block.granules use' g (off block (Contains-first block blocks))

-- a fact of a block that may be none
pub each_listed : (P : Block → Type 0) (block : Option Block) → ((one : Block) → block ≡ Some one → P one) → Each P (listed block)
each_listed P (Some block) all = (all block refl, tt)
each_listed P None all = tt

pub listed_is : (block : Option Block) (one : Block) → Contains (listed block) one → block ≡ Some one
listed_is (Some block) one member = ap Some (Contains-single block one member)
listed_is None one member = absurd (Contains-none one member)

-- two blocks of which the first ends before the second begins
pub row_listed : (before behind : Option Block) → ((one other : Block) → before ≡ Some one → behind ≡ Some other → one.first + one.granules ≤ other.first) → IsRow (listed before ++ listed behind)
row_listed None None all = tt
row_listed None (Some other) all = (tt, tt)
row_listed (Some one) None all = (tt, tt)
row_listed (Some one) (Some other) all = ((all one other refl refl, tt), (tt, tt))

-- the neighbours of a slab that is put, and the block that it is joined to
pub record Neighbours (index : ℕ) (lists : Lists) : Type 0 where
  pub before_is : (one : Block) → block_before (slab_block index) lists.blocks ≡ Some one → Contains lists.blocks one × (one.first + one.granules ≡ index)
  pub behind_is : (one : Block) → block_behind (slab_block index) lists.blocks ≡ Some one → Contains lists.blocks one × (index + 2 ≡ one.first)

pub neighbours : (index : ℕ) (lists : Lists) → Neighbours index lists
neighbours index lists = record {
  before_is = λ one is. let both = find-Some (λ other. meets other (slab_block index)) lists.blocks one is in (both.0, eqb-true (one.first + one.granules) index both.1);
  behind_is = λ one is. let both = find-Some (λ other. meets (slab_block index) other) lists.blocks one is in (both.0, eqb-true (index + 2) one.first both.1);
}

-- a granule of the joined block is in the neighbour before, in the slab, or in the neighbour behind
pub data InJoined (index : ℕ) (lists : Lists) (g : ℕ) : Type 0 where
  in_before : (one : Block) → block_before (slab_block index) lists.blocks ≡ Some one → lies_on one.first one.granules g ≡ true → InJoined index lists g
  in_slab : lies_on index 2 g ≡ true → InJoined index lists g
  in_behind : (one : Block) → block_behind (slab_block index) lists.blocks ≡ Some one → lies_on one.first one.granules g ≡ true → InJoined index lists g

pub in_joined : (index : ℕ) (lists : Lists) (g : ℕ) → lies_on (joined (slab_block index) lists.blocks).first (joined (slab_block index) lists.blocks).granules g ≡ true → InJoined index lists g
in_joined index lists g on =
    let bounds = lies_on-parts (joined (slab_block index) lists.blocks).first (joined (slab_block index) lists.blocks).granules g on in
    let starts = before_meets (slab_block index) lists.blocks (block_before (slab_block index) lists.blocks) refl in
    elim (cases_lt g index) [
      | inl below ↦ before (block_before (slab_block index) lists.blocks) refl bounds.0 below
      | inr least ↦ elim (cases_lt g (index + 2)) [
        | inl here ↦ in_slab (on_slab index g least here)
        | inr above ↦ behind (block_behind (slab_block index) lists.blocks) refl above (omega (arith, starts, bounds))
      ]
    ]
  where
    before : (block : Option Block) → block_before (slab_block index) lists.blocks ≡ block → joined_first (slab_block index) block ≤ g → g < index → InJoined index lists g
    before None is least below = absurd (omega arith)
    before (Some one) is least below =
        let meet = ((neighbours index lists).before_is one is).1 in
        in_before one is (lies_on-true one.first one.granules g least (omega arith))

    behind : (block : Option Block) → block_behind (slab_block index) lists.blocks ≡ block → index + 2 ≤ g → g < index + (2 + granules_in block) → InJoined index lists g
    behind None is above most = absurd (omega arith)
    behind (Some one) is above most =
        let meet = ((neighbours index lists).behind_is one is).1 in
        in_behind one is (lies_on-true one.first one.granules g (omega arith) (omega arith))

-- where the joined block lies
pub joined_bounds : (index : ℕ) (lists : Lists) → (joined (slab_block index) lists.blocks).first + granules_in (block_before (slab_block index) lists.blocks) ≡ index
joined_bounds index lists = before_meets (slab_block index) lists.blocks (block_before (slab_block index) lists.blocks) refl

-- it has the granules of its neighbours
pub joined_has : (index : ℕ) (lists : Lists) (one : Block) (g : ℕ) → Contains (listed (block_before (slab_block index) lists.blocks) ++ listed (block_behind (slab_block index) lists.blocks)) one →
    lies_on one.first one.granules g ≡ true → lies_on (joined (slab_block index) lists.blocks).first (joined (slab_block index) lists.blocks).granules g ≡ true
joined_has index lists one g member on =
    let starts = joined_bounds index lists in
    let bounds = lies_on-parts one.first one.granules g on in
    elim (Contains-append_cases (listed (block_before (slab_block index) lists.blocks)) (listed (block_behind (slab_block index) lists.blocks)) one member) [
      | inl before ↦
          let is = listed_is (block_before (slab_block index) lists.blocks) one before in
          let meet = ((neighbours index lists).before_is one is).1 in
          let size : granules_in (block_before (slab_block index) lists.blocks) ≡ one.granules = ap granules_in is in
          lies_on-true (joined (slab_block index) lists.blocks).first (joined (slab_block index) lists.blocks).granules g (omega (arith, starts, bounds, meet, size)) (omega (arith, starts, bounds, meet, size))
      | inr behind ↦
          let is = listed_is (block_behind (slab_block index) lists.blocks) one behind in
          let meet = ((neighbours index lists).behind_is one is).1 in
          let size : granules_in (block_behind (slab_block index) lists.blocks) ≡ one.granules = ap granules_in is in
          lies_on-true (joined (slab_block index) lists.blocks).first (joined (slab_block index) lists.blocks).granules g (omega (arith, starts, bounds, meet, size)) (omega (arith, starts, bounds, meet, size))
    ]

-- the blocks of the lists in the layout: the neighbours of a slab
pub record NeighboursLaid (index : ℕ) (lists : Lists) (layout : Layout) (blocks : List Block) : Type 0 where
  pub fit : Each IsRegionBlock blocks
  pub row : IsRow blocks
  pub all : Each (IsAll layout InBin) blocks
  pub members : (one : Block) → Contains blocks one → Contains lists.blocks one

pub neighbours_laid : (index : ℕ) (rooms : List ℕ) (lists : Lists) (layout : Layout) → AreGoodBeside rooms lists → Lays lists layout →
    NeighboursLaid index lists layout (listed (block_before (slab_block index) lists.blocks) ++ listed (block_behind (slab_block index) lists.blocks))
neighbours_laid index rooms lists layout good lays = record {
  fit = each-append IsRegionBlock (listed (block_before (slab_block index) lists.blocks)) (listed (block_behind (slab_block index) lists.blocks))
      (each_listed IsRegionBlock (block_before (slab_block index) lists.blocks) (λ one is. fits one (near.before_is one is).0))
      (each_listed IsRegionBlock (block_behind (slab_block index) lists.blocks) (λ one is. fits one (near.behind_is one is).0));
  row = row_listed (block_before (slab_block index) lists.blocks) (block_behind (slab_block index) lists.blocks)
      (λ one other is is'. let low = (near.before_is one is).1 in let high = (near.behind_is other is').1 in omega arith);
  all = each-append (IsAll layout InBin) (listed (block_before (slab_block index) lists.blocks)) (listed (block_behind (slab_block index) lists.blocks))
      (each_listed (IsAll layout InBin) (block_before (slab_block index) lists.blocks) (λ one is. lays.blocks_are one (near.before_is one is).0))
      (each_listed (IsAll layout InBin) (block_behind (slab_block index) lists.blocks) (λ one is. lays.blocks_are one (near.behind_is one is).0));
  members = λ one member. elim (Contains-append_cases (listed (block_before (slab_block index) lists.blocks)) (listed (block_behind (slab_block index) lists.blocks)) one member) [
    | inl before ↦ (near.before_is one (listed_is (block_before (slab_block index) lists.blocks) one before)).0
    | inr behind ↦ (near.behind_is one (listed_is (block_behind (slab_block index) lists.blocks) one behind)).0
  ];
}
  where
    near : Neighbours index lists
    near = neighbours index lists

    fits : (one : Block) → Contains lists.blocks one → IsRegionBlock one
    fits one member = record { some = (good.blocks_are one member).some; inside = (block_within rooms lists good one member).1 }

-- room was put
pub record IsPut (state : State) (lists : Lists) (region : Region) (turns : List Turn) : Type 0 where
  pub layout : Layout
  pub quiet : AreQuiet state turns
  pub knows : Knows (after_turns state turns) layout (Some region) lists.granted
  pub lays : Lays lists layout
  pub blocks : BlocksIn (after_turns state turns) lists.blocks

-- room in hand is put into bins
pub room_put : (index : ℕ) (state : State) (lists : Lists) (layout : Layout) (region : Region) → AreGoodBeside (index ∷ []) lists → Lays lists layout → ((g : ℕ) → lies_on index 2 g ≡ true → layout g ≡ InHand) →
    Knows state layout (Some region) lists.granted → BlocksIn state lists.blocks → IsPut state (record lists { blocks = after_put (slab_block index) lists.blocks }) region (put_steps (slab_block index) lists.blocks)
room_put index state lists layout region good lays hand knows bins =
    let near = neighbours_laid index (index ∷ []) lists layout good lays in
    let took = bins_step state layout region lists.granted blocks near.fit near.row near.all knows in
    let put = put_step (after_turn state (blocks_step blocks Bin (Hand 0))) taken region lists.granted whole fits all_in_hand took.knows in
    record {
      layout = laid taken whole.first whole.granules InBin;
      quiet = (took.step, (put.step, tt));
      knows = put.knows;
      blocks = blocks_put state lists.blocks index (blocks_good (index ∷ []) lists good) bins;
      lays = record {
        slabs_are = λ slab member g on. kept g (OfSlab slab) (lays.slabs_are slab member g on) (plain_no_slab InBin slab refl) (plain_no_slab InHand slab refl);
        stored_are = λ other member g on. kept g InCache (lays.stored_are other member g on) (λ same. let e = same in cc) (λ same. let e = same in cc);
        blocks_are = λ one member g on. elim (Contains-after_put (slab_block index) lists.blocks one member) [
          | inl is ↦ laid-inside taken whole.first whole.granules InBin g (ap (λ (b : Block). lies_on b.first b.granules g) is ∙ on)
          | inr old ↦ elim (cases_Bool (lies_on whole.first whole.granules g)) [
            | inl inside ↦ laid-inside taken whole.first whole.granules InBin g inside
            | inr outside ↦ laid-outside taken whole.first whole.granules InBin g outside
                ∙ laid_all-outside layout blocks InHand g (λ other listed. false_from_ne_true (lies_on other.first other.granules g) (λ here.
                let clash : true ≡ false = sym (joined_has index lists other g listed here) ∙ outside in cc))
                ∙ lays.blocks_are one old.0 g on
          ]
        ];
        away = λ g off. kept g Away (lays.away g off) (λ same. let e = same in cc) (λ same. let e = same in cc);
      };
    }
  where
    blocks : List Block
    blocks = listed (block_before (slab_block index) lists.blocks) ++ listed (block_behind (slab_block index) lists.blocks)

    whole : Block
    whole = joined (slab_block index) lists.blocks

    taken : Layout
    taken = laid_all layout (listed (block_before (slab_block index) lists.blocks) ++ listed (block_behind (slab_block index) lists.blocks)) InHand

    in_hand : (g : ℕ) → InJoined index lists g → taken g ≡ InHand
    in_hand g (in_before one is on) = laid_all-inside layout blocks InHand g one (Contains-append_left (listed (block_before (slab_block index) lists.blocks)) (listed (block_behind (slab_block index) lists.blocks)) one (subst (λ b. Contains (listed b) one) (sym is) (Contains-first one []))) on
    in_hand g (in_slab on) = laid_all-keep layout blocks InHand g (hand g on)
    in_hand g (in_behind one is on) = laid_all-inside layout blocks InHand g one (Contains-append_right (listed (block_before (slab_block index) lists.blocks)) (listed (block_behind (slab_block index) lists.blocks)) one (subst (λ b. Contains (listed b) one) (sym is) (Contains-first one []))) on

    all_in_hand : IsAll taken InHand whole
    all_in_hand g on = in_hand g (in_joined index lists g on)

    fits : IsRegionBlock whole
    fits =
        let starts = joined_bounds index lists in
        let here = (room_within (index ∷ []) lists good index (Contains-first index [])).1 in
        record { some = omega arith; inside = ends (block_behind (slab_block index) lists.blocks) refl }
      where
        ends : (behind : Option Block) → block_behind (slab_block index) lists.blocks ≡ behind → (joined (slab_block index) lists.blocks).first + (granules_in (block_before (slab_block index) lists.blocks) + (2 + granules_in behind)) ≤ 128
        ends None is =
            let starts = joined_bounds index lists in
            let here = (room_within (index ∷ []) lists good index (Contains-first index [])).1 in
            omega (arith, starts, here)
        ends (Some one) is =
            let starts = joined_bounds index lists in
            let near = (neighbours index lists).behind_is one is in
            let there = (block_within (index ∷ []) lists good one near.0).1 in
            let meet = near.1 in
            omega (arith, starts, there, meet)

    kept : (g : ℕ) (use' : Use) → layout g ≡ use' → (InBin ≡ use' → ⊥) → (InHand ≡ use' → ⊥) → laid taken whole.first whole.granules InBin g ≡ use'
    kept g use' is no_bin no_hand =
        let same : taken g ≡ layout g = laid_all-outside layout blocks InHand g (λ one member. false_from_ne_true (lies_on one.first one.granules g) (λ on.
        no_bin (sym (lays.blocks_are one ((neighbours_laid index (index ∷ []) lists layout good lays).members one member) g on) ∙ is))) in
        laid-other taken whole.first whole.granules InHand InBin use' g all_in_hand (same ∙ is) no_hand

-- slabs of the slab cache are fetched and put, one after another
pub slabs_put : (indices kept : List ℕ) (state : State) (base : Lists) (blocks : List Block) (layout : Layout) (region : Region) →
    AreGoodBeside [] (record base { stored = indices ++ kept; blocks = blocks }) → Lays (record base { stored = indices ++ kept; blocks = blocks }) layout →
    Knows state layout (Some region) base.granted → BlocksIn state blocks → IsPut state (record base { stored = kept; blocks = after_puts indices blocks }) region (puts_steps indices blocks)
slabs_put [] kept state base blocks layout region good lays knows bins = record { layout = layout; quiet = tt; knows = knows; lays = lays; blocks = bins }
slabs_put (index ∷ indices) kept state base blocks layout region good lays knows bins =
    let more : List ℕ = indices ++ kept in
    let all : (g : ℕ) → lies_on index 2 g ≡ true → layout g ≡ InCache = lays.stored_are index (Contains-first index (indices ++ kept)) in
    let inside = (stored_within [] (record base { stored = index ∷ indices ++ kept; blocks = blocks }) good index (Contains-first index (indices ++ kept))).1 in
    let even = good.stored_are index (Contains-first index (indices ++ kept)) in
    let fetched = unshelf_step state layout region base.granted index even inside all knows in
    let beside = stored_oldest index (indices ++ kept) [] (record base { stored = index ∷ indices ++ kept; blocks = blocks }) good in
    let fetched_lays : Lays (record base { stored = indices ++ kept; blocks = blocks }) (laid layout index 2 InHand) = record {
      slabs_are = λ slab member g on. laid-other layout index 2 InCache InHand (OfSlab slab) g all (lays.slabs_are slab member g on) (plain_no_slab InCache slab refl);
      stored_are = λ other member g on. laid-outside layout index 2 InHand g (stored_apart index [] (record base { stored = indices ++ kept; blocks = blocks }) other g beside member on)
          ∙ lays.stored_are other (Contains-other index (indices ++ kept) other member) g on;
      blocks_are = λ block member g on. laid-other layout index 2 InCache InHand InBin g all (lays.blocks_are block member g on) (λ same. let e = same in cc);
      away = λ g off. laid-other layout index 2 InCache InHand Away g all (lays.away g off) (λ same. let e = same in cc);
    } in
    let put = room_put index (after_turn state (fetch_step index)) (record base { stored = indices ++ kept; blocks = blocks }) (laid layout index 2 InHand) region beside fetched_lays (λ g on. laid-inside layout index 2 InHand g on) fetched.knows
    (blocks_stay state (fetch_step index) blocks (record { from = refl; to = refl }, tt) bins) in
    let next_state : State = after_turns (after_turn state (fetch_step index)) (put_steps (slab_block index) blocks) in
    let later = slabs_put indices kept (after_turns (after_turn state (fetch_step index)) (put_steps (slab_block index) blocks)) base (after_put (slab_block index) blocks) put.layout region
    (oldest_put index (indices ++ kept) [] (record base { stored = index ∷ indices ++ kept; blocks = blocks }) good) put.lays put.knows put.blocks in
    record {
      layout = later.layout;
      quiet = (fetched.step, quiet_append (after_turn state (fetch_step index)) (put_steps (slab_block index) blocks) (puts_steps indices (after_put (slab_block index) blocks)) put.quiet later.quiet);
      blocks = subst (λ s. BlocksIn s (after_puts indices (after_put (slab_block index) blocks))) (sym (after_turns-append (after_turn state (fetch_step index)) (put_steps (slab_block index) blocks) (puts_steps indices (after_put (slab_block index) blocks)))) later.blocks;
      knows = subst (λ s. Knows s later.layout (Some region) base.granted) (sym (after_turns-append (after_turn state (fetch_step index)) (put_steps (slab_block index) blocks) (puts_steps indices (after_put (slab_block index) blocks)))) later.knows;
      lays = later.lays;
    }
