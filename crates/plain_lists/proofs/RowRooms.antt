-- Room for a slab while nothing is freed: slabs stand in a row, and one block has all that lies behind them.
use Rattle.std.proofs.Common.{◌≡◌, ℕ, ◌+◌, ◌*◌, ◌-◌, ◌<◌, ◌≤◌, not, inl, inr, List, [], ◌∷◌, ◌++◌, Some, None, refl, sym, ap, ◌∙◌, subst, arith}
use Rattle.std.specs.Prelude.{Bool, Contains, filter, if◌then◌else◌}
use Rattle.std.specs.declared.option.Option.{Option}
use Rattle.std.proofs.lemmas.Bool.{eq-eqb, ne_eqb, cases_lt}
use Rattle.std.proofs.lemmas.List.{append-nil}
use Rattle.pool_types.specs.declared.values.Region.{Region}
use Rattle.plain_lists.specs.Lists.{Block, Lists, whole_block}
use Rattle.plain_lists.specs.Backend.{is_same, first_fit, some_block, rests, after_cut}
use Rattle.plain_lists.specs.Whole.{Room, newest, region_room, block_room, stored_room, room_in}
use Rattle.plain_lists.specs.Good.{IsGoodBlock}
use Rattle.list_laws.proofs.Members.{Contains-none}
use Rattle.plain_lists.proofs.Blocks.{rests-even, Contains-some_block}
use Rattle.plain_lists.proofs.Fits.{first_fit-Some, first_fit-None, even_from-good}

-- The blocks of a pool in which so many slabs were begun and none was given back: before its region came it has none, and then one that
-- has all behind the slabs, where there is anything.
abbrev pub IsRow : ℕ → Option Region → List Block → Type 0
IsRow started None blocks = (started ≡ 0) × (blocks ≡ [])
IsRow started (Some region) blocks = (started ≤ 64) × (blocks ≡ some_block (2 * started) (128 - 2 * started))

-- the room is behind the slabs that were begun, and one slab more was begun after it was taken
pub record IsNextRoom (started : ℕ) (lists : Lists) (room : Room) : Type 0 where
  pub below : started < 64
  pub index_is : room.index ≡ 2 * started
  pub slabs_same : room.lists.slabs ≡ lists.slabs
  pub stored_same : room.lists.stored ≡ lists.stored
  pub row : IsRow (started + 1) room.lists.region room.lists.blocks

-- there is room, or all 64 slabs were begun
abbrev pub IsRoomAfter : ℕ → Lists → Option Room → Type 0
IsRoomAfter started lists (Some room) = IsNextRoom started lists room
IsRoomAfter started lists None = 64 ≤ started

-- the block of the row, where there is one
some_block-one : (first granules : ℕ) → 0 < granules → some_block first granules ≡ record { first = first; granules = granules } ∷ []
some_block-one first granules some = ap (λ (b : Bool). if b then [] else record { first = first; granules = granules } ∷ []) (ne_eqb granules 0 (omega (arith, some)))

-- it is good
row_good : (started : ℕ) (block : Block) → Contains (some_block (2 * started) (128 - 2 * started)) block → IsGoodBlock block
row_good started block inside =
    let (first, granules, some) = Contains-some_block (2 * started) (128 - 2 * started) block inside in
    record { even = omega (arith, first); pairs = omega (arith, granules); some = omega (arith, granules, some) }

-- a list of one block, without that block
without_one : (block : Block) (first : ℕ) → block.first ≡ first → (granules : ℕ) →
    filter (λ other. not (is_same block other)) (record { first = first; granules = granules } ∷ []) ≡ []
without_one block first same granules = ap (λ (b : Bool). if not b then record { first = first; granules = granules } ∷ [] else []) (eq-eqb block.first first same)

-- the blocks after a slab was cut out of the block of the row
cut_row : (started : ℕ) (blocks : List Block) (block : Block) → blocks ≡ some_block (2 * started) (128 - 2 * started) → Contains blocks block →
    after_cut block blocks ≡ some_block (2 * (started + 1)) (128 - 2 * (started + 1))
cut_row started blocks block row inside =
    let among = subst (λ bs. Contains bs block) row inside in
    let (first, granules, some) = Contains-some_block (2 * started) (128 - 2 * started) block among in
    let left : rests block ≡ some_block (2 * (started + 1)) (128 - 2 * (started + 1)) =
    rests-even block (row_good started block among).even
    ∙ ap (λ index. some_block index (block.granules - 2)) (omega (arith, first))
    ∙ ap (λ many. some_block (2 * (started + 1)) many) (omega (arith, granules)) in
    ap (λ bs. rests block ++ filter (λ other. not (is_same block other)) bs) (row ∙ some_block-one (2 * started) (128 - 2 * started) some)
    ∙ ap (λ bs. rests block ++ bs) (without_one block (2 * started) first (128 - 2 * started))
    ∙ append-nil (rests block)
    ∙ left

-- room that a scan of the blocks finds, or that a new region has
block_room_after : (started : ℕ) (lists : Lists) (region : Option Region) → lists.region ≡ region → IsRow started region lists.blocks →
    (block : Option Block) → first_fit lists.blocks ≡ block → IsRoomAfter started lists (block_room lists block)
block_room_after started lists None region_is (none, empty) (Some block) found =
    absurd (Contains-none block (subst (λ bs. Contains bs block) empty (first_fit-Some lists.blocks block found).inside))
block_room_after started lists None region_is (none, empty) None found =
    subst (λ region. IsRoomAfter started lists (region_room lists region)) (sym region_is) (record {
      below = omega (arith, none);
      index_is = omega (arith, none);
      slabs_same = refl;
      stored_same = refl;
      row = (omega (arith, none), ap (λ bs. rests whole_block ++ bs) empty ∙ ap (λ n. some_block (2 * (n + 1)) (128 - 2 * (n + 1))) (sym none));
    })
block_room_after started lists (Some region) region_is (few, row) (Some block) found =
    let inside = (first_fit-Some lists.blocks block found).inside in
    let among = subst (λ bs. Contains bs block) row inside in
    let (first, granules, some) = Contains-some_block (2 * started) (128 - 2 * started) block among in
    let below : started < 64 = omega (arith, some) in
    record {
      below = below;
      index_is = even_from-good block (row_good started block among) ∙ first;
      slabs_same = refl;
      stored_same = refl;
      row = subst (λ came. IsRow (started + 1) came (after_cut block lists.blocks)) (sym region_is) (omega (arith, below), cut_row started lists.blocks block row inside);
    }
block_room_after started lists (Some region) region_is (few, row) None found =
    subst (λ came. IsRoomAfter started lists (region_room lists came)) (sym region_is) (elim (cases_lt started 64) [
      | inl below ↦
          let empty = first_fit-None lists.blocks (λ block inside. row_good started block (subst (λ bs. Contains bs block) row inside)) found in
          let one = some_block-one (2 * started) (128 - 2 * started) (omega (arith, below)) in
          absurd (let clash = sym empty ∙ row ∙ one in cc)
      | inr all ↦ all
    ])

-- the room that a malloc finds
pub room_after : (started : ℕ) (lists : Lists) → lists.stored ≡ [] → IsRow started lists.region lists.blocks → IsRoomAfter started lists (room_in lists)
room_after started lists none row =
    subst (λ stored. IsRoomAfter started lists (stored_room lists (newest stored))) (sym none)
    (block_room_after started lists lists.region refl row (first_fit lists.blocks) refl)
