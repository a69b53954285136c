-- What the lawful moves have in common.
use Rattle.std.proofs.Common.{◌≡◌, ◌⊎◌, ℕ, inl, inr, List, [], ◌∷◌, Some, None, Bool, true, false, refl, sym, ◌∙◌, ap, arith, zero, suc, subst}
use Rattle.std.specs.Prelude.{Contains, map, if◌then◌else◌, ◌==◌, ◌++◌}
use Rattle.std.specs.declared.option.Option.{Option}
use Rattle.pool_types.specs.declared.policy.RegionRec.{RegionRec}
use Rattle.part_model.specs.declared.holders.Holder.{Holder}
use Rattle.part_model.specs.declared.holders.Holder.TheVariants.{Waste, Head, Rest, Private, Public, Object, LargeHead, SlabCache, Cached, Bin, Queue, Hand}
use Rattle.part_model.specs.declared.moves.Range.{Range}
use Rattle.part_model.specs.declared.moves.Part.{Part}
use Rattle.part_model.specs.Totals.{has_holder}
use Rattle.machine.specs.States.{Terms, State}
use Rattle.machine.specs.Ranges.{Each, part_of, parts_of, object_range}
use Rattle.machine.specs.Regions.{some_part, coming_parts, leaving_parts, front_range, granules_range, back_range, IsNewRegion}
use Rattle.machine.specs.Journal.{BookChange, is_object}
use Rattle.machine.specs.Lawful.{IsLawful, next_grant, is_of_slab, TakesOfSlab, nothing_moves, region_comes, region_leaves, blocks_put, blocks_queued, blocks_cached, bins_taken, queue_taken, cache_taken, slab_stored, slab_fetched, slab_begins, slab_ends, rest_granted, private_granted, object_freed, object_taken, object_listed, public_taken, block_granted, block_freed, slab_orphaned, orphans_taken, slab_adopted, slab_returned}

-- a fact of each member follows from another
pub each-map : {X : Type 0} → (P Q : X → Type 0) → ((x : X) → P x → Q x) → (xs : List X) → Each P xs → Each Q xs
each-map P Q step [] all = tt
each-map P Q step (x ∷ xs) (first, rest) = (step x first, each-map P Q step xs rest)

-- a fact of each member is one of a member
pub each-contains : {X : Type 0} → (P : X → Type 0) → (xs : List X) → Each P xs → (x : X) → Contains xs x → P x
each-contains P [] all x (k, below, is) = absurd (omega (arith, below))
each-contains {X} P (y ∷ ys) (first, rest) x (zero, below, is) = let Q : X → Type 0 = P in subst Q is first
each-contains P (y ∷ ys) (first, rest) x (suc k, below, is) = each-contains P ys rest x (k, omega (arith, below), is)

-- a fact of the members of two lists
pub each-append : {X : Type 0} → (P : X → Type 0) → (xs ys : List X) → Each P xs → Each P ys → Each P (xs ++ ys)
each-append P [] ys one other = other
each-append P (x ∷ xs) ys (first, rest) other = (first, each-append P xs ys rest other)

-- a fact of ranges that go from one holder to another
pub each-parts_of : (P : Part → Type 0) → (from to : Option Holder) → ((range : Range) → P (part_of range from to)) → (ranges : List Range) → Each P (parts_of ranges from to)
each-parts_of P from to all [] = tt
each-parts_of P from to all (range ∷ ranges) = (all range, each-parts_of P from to all ranges)

-- a fact of a part that may be none
pub each-some_part : (P : Part → Type 0) → (range : Range) (from to : Option Holder) → P (part_of range from to) → Each P (some_part range from to)
each-some_part P range from to holds = go (range.bytes == 0)
  where
    go : (b : Bool) → Each P (if b then [] else part_of range from to ∷ [])
    go true = tt
    go false = (holds, tt)

-- a fact of the three parts of a region
pub each-three : (P : Part → Type 0) → (front granules back : Range) (out out' inner inner' : Option Holder) → P (part_of front out out') → P (part_of granules inner inner') → P (part_of back out out') →
    Each P (some_part front out out' ++ some_part granules inner inner' ++ some_part back out out')
each-three P front granules back out out' inner inner' first second third =
    each-append P (some_part front out out' ++ some_part granules inner inner') (some_part back out out')
    (each-append P (some_part front out out') (some_part granules inner inner') (each-some_part P front out out' first) (each-some_part P granules inner inner' second))
    (each-some_part P back out out' third)

-- the part makes no object but the seat's next
abbrev pub IsNextObject : State → ℕ → Part → Type 0
IsNextObject state seat part = is_object part.to ≡ true → part.to ≡ Some (Object (next_grant state seat))

-- no object is made
pub no_object : (state : State) (seat : ℕ) (to : Option Holder) → is_object to ≡ false → is_object to ≡ true → to ≡ Some (Object (next_grant state seat))
no_object state seat to none object = absurd (let e = sym none ∙ object in cc)

-- what goes into a hand is no object
pub hand_no_object : (holder : Option Holder) (seat : ℕ) → holder ≡ Some (Hand seat) → is_object holder ≡ false
hand_no_object holder seat is = ap is_object is

-- a lawful move makes no object but the seat's next
pub next_object : (terms : Terms) (state : State) (seat : ℕ) (parts : List Part) (book : List BookChange) (region : Option RegionRec) →
    IsLawful terms state seat parts book region → Each (IsNextObject state seat) parts
next_object terms state seat parts book region nothing_moves = tt
next_object terms state seat parts book region (region_comes r new) =
    each-three (IsNextObject state seat) (front_range terms.limits.pool r) (granules_range terms.limits.pool r) (back_range terms.limits.pool r) None (Some Waste) None (Some (Hand seat))
    (no_object state seat (Some Waste) refl) (no_object state seat (Some (Hand seat)) refl) (no_object state seat (Some Waste) refl)
next_object terms state seat parts book region (region_leaves r live) =
    each-three (IsNextObject state seat) (front_range terms.limits.pool r) (granules_range terms.limits.pool r) (back_range terms.limits.pool r) (Some Waste) None (Some (Hand seat)) None
    (no_object state seat None refl) (no_object state seat None refl) (no_object state seat None refl)
next_object terms state seat parts book region (blocks_put blocks each) =
    each-parts_of (IsNextObject state seat) (Some (Hand seat)) (Some Bin) (λ range. no_object state seat (Some Bin) refl) blocks
next_object terms state seat parts book region (blocks_queued blocks each) =
    each-parts_of (IsNextObject state seat) (Some (Hand seat)) (Some Queue) (λ range. no_object state seat (Some Queue) refl) blocks
next_object terms state seat parts book region (blocks_cached n blocks each) =
    each-parts_of (IsNextObject state seat) (Some (Hand seat)) (Some (Cached n)) (λ range. no_object state seat (Some (Cached n)) refl) blocks
next_object terms state seat parts book region (bins_taken ranges each) =
    each-parts_of (IsNextObject state seat) (Some Bin) (Some (Hand seat)) (λ range. no_object state seat (Some (Hand seat)) refl) ranges
next_object terms state seat parts book region (queue_taken ranges each) =
    each-parts_of (IsNextObject state seat) (Some Queue) (Some (Hand seat)) (λ range. no_object state seat (Some (Hand seat)) refl) ranges
next_object terms state seat parts book region (cache_taken n ranges each) =
    each-parts_of (IsNextObject state seat) (Some (Cached n)) (Some (Hand seat)) (λ range. no_object state seat (Some (Hand seat)) refl) ranges
next_object terms state seat parts book region (slab_stored place room) = (no_object state seat (Some (SlabCache seat)) refl, tt)
next_object terms state seat parts book region (slab_fetched place room) = (no_object state seat (Some (Hand seat)) refl, tt)
next_object terms state seat parts book region (slab_begins place class exists room) = (no_object state seat (Some Head) refl, (no_object state seat (Some Rest) refl, tt))
next_object terms state seat parts book region (slab_ends slab ps kept takes) =
    each-map (TakesOfSlab slab seat) (IsNextObject state seat) (λ part of. no_object state seat part.to (hand_no_object part.to seat of.to_hand)) ps takes.each
next_object terms state seat parts book region (rest_granted slab object kept exists highest) = (λ o. refl, tt)
next_object terms state seat parts book region (private_granted slab object kept exists) = (λ o. refl, tt)
next_object terms state seat parts book region (object_freed slab object grant kept exists) = (no_object state seat (Some Private) refl, tt)
next_object terms state seat parts book region (object_taken slab object grant of other) = (no_object state seat (Some (Hand seat)) refl, tt)
next_object terms state seat parts book region (object_listed slab object of) = (no_object state seat (Some Public) refl, tt)
next_object terms state seat parts book region (public_taken slab objects kept each all) =
    each-parts_of (IsNextObject state seat) (Some Public) (Some Private) (λ range. no_object state seat (Some Private) refl) (map (object_range slab) objects)
next_object terms state seat parts book region (block_granted block alignment head cut) = (no_object state seat (Some (LargeHead (next_grant state seat))) refl, (λ o. refl, tt))
next_object terms state seat parts book region (block_freed block granules head grant whole some below all) = (no_object state seat (Some (Hand seat)) refl, (no_object state seat (Some (Hand seat)) refl, tt))
next_object terms state seat parts book region (slab_orphaned slab kept) = tt
next_object terms state seat parts book region (orphans_taken class slabs each all) = tt
next_object terms state seat parts book region (slab_adopted slab kept) = tt
next_object terms state seat parts book region (slab_returned slab kept) = tt

-- the part moves bytes within the pool
abbrev pub Stays : Part → Type 0
Stays part = (has_holder part.from ≡ true) × (has_holder part.to ≡ true)

-- what a slab is of is a holder
pub slab_has_holder : (holder : Option Holder) → is_of_slab holder ≡ true → has_holder holder ≡ true
slab_has_holder None is = absurd (let e : false ≡ true = is in cc)
slab_has_holder (Some holder) is = refl

-- A move is within the pool, or a region comes, or a region leaves.
pub record IsInPool (parts : List Part) (region : Option RegionRec) : Type 0 where
  pub each : Each Stays parts
  pub none : region ≡ None

pub record IsComing (terms : Terms) (state : State) (seat : ℕ) (parts : List Part) (region : Option RegionRec) : Type 0 where
  pub new_region : RegionRec
  pub fits : IsNewRegion terms state new_region
  pub parts_are : parts ≡ coming_parts terms.limits.pool seat new_region
  pub is : region ≡ Some new_region

pub record IsLeaving (terms : Terms) (state : State) (seat : ℕ) (parts : List Part) (region : Option RegionRec) : Type 0 where
  pub old_region : RegionRec
  pub live : Contains state.regions old_region
  pub parts_are : parts ≡ leaving_parts terms.limits.pool seat old_region
  pub none : region ≡ None

-- what a lawful move does to regions
abbrev pub RegionMove : Terms → State → ℕ → List Part → Option RegionRec → Type 0
RegionMove terms state seat parts region = IsInPool parts region ⊎ (IsComing terms state seat parts region ⊎ IsLeaving terms state seat parts region)

-- a lawful move is one of the three
pub region_move : (terms : Terms) (state : State) (seat : ℕ) (parts : List Part) (book : List BookChange) (region : Option RegionRec) →
    IsLawful terms state seat parts book region → RegionMove terms state seat parts region
region_move terms state seat parts book region nothing_moves = inl (record { each = tt; none = refl })
region_move terms state seat parts book region (region_comes r new) = inr (inl (record { new_region = r; fits = new; parts_are = refl; is = refl }))
region_move terms state seat parts book region (region_leaves r live) = inr (inr (record { old_region = r; live = live; parts_are = refl; none = refl }))
region_move terms state seat parts book region (blocks_put blocks each) = inl (record { each = each-parts_of Stays (Some (Hand seat)) (Some Bin) (λ range. (refl, refl)) blocks; none = refl })
region_move terms state seat parts book region (blocks_queued blocks each) = inl (record { each = each-parts_of Stays (Some (Hand seat)) (Some Queue) (λ range. (refl, refl)) blocks; none = refl })
region_move terms state seat parts book region (blocks_cached n blocks each) = inl (record { each = each-parts_of Stays (Some (Hand seat)) (Some (Cached n)) (λ range. (refl, refl)) blocks; none = refl })
region_move terms state seat parts book region (bins_taken ranges each) = inl (record { each = each-parts_of Stays (Some Bin) (Some (Hand seat)) (λ range. (refl, refl)) ranges; none = refl })
region_move terms state seat parts book region (queue_taken ranges each) = inl (record { each = each-parts_of Stays (Some Queue) (Some (Hand seat)) (λ range. (refl, refl)) ranges; none = refl })
region_move terms state seat parts book region (cache_taken n ranges each) = inl (record { each = each-parts_of Stays (Some (Cached n)) (Some (Hand seat)) (λ range. (refl, refl)) ranges; none = refl })
region_move terms state seat parts book region (slab_stored place room) = inl (record { each = ((refl, refl), tt); none = refl })
region_move terms state seat parts book region (slab_fetched place room) = inl (record { each = ((refl, refl), tt); none = refl })
region_move terms state seat parts book region (slab_begins place class exists room) = inl (record { each = ((refl, refl), ((refl, refl), tt)); none = refl })
region_move terms state seat parts book region (slab_ends slab ps kept takes) = inl (record {
  each = each-map (TakesOfSlab slab seat) Stays (λ part of. (slab_has_holder part.from of.of_slab, ap has_holder of.to_hand)) ps takes.each;
  none = refl;
})
region_move terms state seat parts book region (rest_granted slab object kept exists highest) = inl (record { each = ((refl, refl), tt); none = refl })
region_move terms state seat parts book region (private_granted slab object kept exists) = inl (record { each = ((refl, refl), tt); none = refl })
region_move terms state seat parts book region (object_freed slab object grant kept exists) = inl (record { each = ((refl, refl), tt); none = refl })
region_move terms state seat parts book region (object_taken slab object grant of other) = inl (record { each = ((refl, refl), tt); none = refl })
region_move terms state seat parts book region (object_listed slab object of) = inl (record { each = ((refl, refl), tt); none = refl })
region_move terms state seat parts book region (public_taken slab objects kept each all) =
    inl (record { each = each-parts_of Stays (Some Public) (Some Private) (λ range. (refl, refl)) (map (object_range slab) objects); none = refl })
region_move terms state seat parts book region (block_granted block alignment head cut) = inl (record { each = ((refl, refl), ((refl, refl), tt)); none = refl })
region_move terms state seat parts book region (block_freed block granules head grant whole some below all) = inl (record { each = ((refl, refl), ((refl, refl), tt)); none = refl })
region_move terms state seat parts book region (slab_orphaned slab kept) = inl (record { each = tt; none = refl })
region_move terms state seat parts book region (orphans_taken class slabs each all) = inl (record { each = tt; none = refl })
region_move terms state seat parts book region (slab_adopted slab kept) = inl (record { each = tt; none = refl })
region_move terms state seat parts book region (slab_returned slab kept) = inl (record { each = tt; none = refl })
