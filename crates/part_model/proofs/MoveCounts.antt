-- Counts of bytes after a move, and their sum.
use Rattle.std.proofs.Common.{◌==◌, ◌&&◌, ◌⊎◌, inl, inr, get_or, ◌≡◌, ℕ, ◌+◌, ◌^◌, Bool, true, false, List, [], ◌∷◌, All, nat_lt, refl, sym, ◌∙◌, ap, arith}
use Rattle.std.specs.Prelude.{if◌then◌else◌, sum_by, count_by}
use Rattle.std.specs.declared.option.Option.{Option}
use Rattle.std.proofs.lemmas.Bool.Decides.{nat_tests}
use Rattle.std.proofs.lemmas.Bool.{and_parts, eqb-true, cases_Bool}
use Rattle.std.proofs.lemmas.List.Elements.{All-tail}
use Rattle.std.proofs.lemmas.List.Sums.{sum_by-cons}
use Rattle.pool_types.specs.declared.values.Place.{Place}
use Rattle.part_model.specs.declared.holders.Holder.{Holder}
use Rattle.part_model.specs.declared.holders.HolderKind.{HolderKind}
use Rattle.part_model.specs.declared.moves.Part.{Part}
use Rattle.part_model.specs.Holding.{Holding, lies_in, after_part, after_parts, AreApart, AreWhole, IsWhole, CanMoveAll}
use Rattle.part_model.specs.Totals.{is_region, sum_regions, place_at, region_bytes, is_at, has_holder, bytes_at, bytes_held, is_live}
use Rattle.part_model.specs.Laws.{IsWithin, region_from, region_to, RegionsFollowMoves, holder_kinds, IsPlaced, bytes_from, bytes_to, TotalsFollowMoves, live_bytes, TotalsSum}
use Rattle.part_model.proofs.Changes.{can_move-after_part, holder_kinds-one}
use Rattle.part_model.proofs.Sums.{sum_regions-same, sum_regions-add, sum_regions-none, sum_regions-one}
use Rattle.part_model.proofs.Counts.{span_bytes}
use Rattle.list_laws.specs.Sums.{sum_below}
use Rattle.list_laws.proofs.Sums.{sum_below-same, sum_below-add, sum_below-none}

-- the bytes of a region after one part
pub region_bytes-part : (test : Option Holder → Bool) (held : Holding) (part : Part) (pool region : ℕ) → IsWhole part.range →
    ((byte : Place) → lies_in byte part.range ≡ true → held byte ≡ part.from) →
    region_bytes test (after_part held part) pool region + (if is_region pool region part.range then (if test part.from then part.range.bytes else 0) else 0)
    ≡ region_bytes test held pool region + (if is_region pool region part.range then (if test part.to then part.range.bytes else 0) else 0)
unfolding region_bytes
region_bytes-part test held part pool region whole there =
    let from = span_bytes pool region part.range (test part.from) whole in
    let to = span_bytes pool region part.range (test part.to) whole in
    let left = sum_below-add (λ o. if test (after_part held part (place_at pool region o)) then 1 else 0) (λ o. if lies_in (place_at pool region o) part.range then (if test part.from then 1 else 0) else 0) (2 ^ 64) in
    let right = sum_below-add (λ o. if test (held (place_at pool region o)) then 1 else 0) (λ o. if lies_in (place_at pool region o) part.range then (if test part.to then 1 else 0) else 0) (2 ^ 64) in
    let same = sum_below-same
    (λ o. (if test (after_part held part (place_at pool region o)) then 1 else 0) + (if lies_in (place_at pool region o) part.range then (if test part.from then 1 else 0) else 0))
    (λ o. (if test (held (place_at pool region o)) then 1 else 0) + (if lies_in (place_at pool region o) part.range then (if test part.to then 1 else 0) else 0)) (2 ^ 64)
    (λ o below. swap (lies_in (place_at pool region o) part.range) (held (place_at pool region o)) (there (place_at pool region o))) in
    omega (arith, from, to, left, right, same)
  where
    swap : (b : Bool) (holder : Option Holder) → (b ≡ true → holder ≡ part.from) →
        ◌≡◌ {A = ℕ} ((if test (if b then part.to else holder) then 1 else 0) + (if b then (if test part.from then 1 else 0) else 0))
        ((if test holder then 1 else 0) + (if b then (if test part.to then 1 else 0) else 0))
    swap true holder e = let was = ap {B = ℕ} (λ h. if test h then 1 else 0) (e refl) in omega arith
    swap false holder e = refl

-- the bytes of all regions after one part
pub bytes-part : (test : Option Holder → Bool) (held : Holding) (part : Part) → IsWhole part.range → IsPlaced part →
    ((byte : Place) → lies_in byte part.range ≡ true → held byte ≡ part.from) →
    sum_regions (region_bytes test (after_part held part)) + (if test part.from then part.range.bytes else 0)
    ≡ sum_regions (region_bytes test held) + (if test part.to then part.range.bytes else 0)
bytes-part test held part whole placed there =
    let from = sum_regions-one (if test part.from then part.range.bytes else 0) part.range.place.pool part.range.place.region placed.pool placed.region in
    let to = sum_regions-one (if test part.to then part.range.bytes else 0) part.range.place.pool part.range.place.region placed.pool placed.region in
    let left = sum_regions-add (region_bytes test (after_part held part)) (λ p r. if is_region p r part.range then (if test part.from then part.range.bytes else 0) else 0) in
    let right = sum_regions-add (region_bytes test held) (λ p r. if is_region p r part.range then (if test part.to then part.range.bytes else 0) else 0) in
    let same = sum_regions-same
    (λ p r. region_bytes test (after_part held part) p r + (if is_region p r part.range then (if test part.from then part.range.bytes else 0) else 0))
    (λ p r. region_bytes test held p r + (if is_region p r part.range then (if test part.to then part.range.bytes else 0) else 0))
    (λ p r in_pool in_region. region_bytes-part test held part p r whole there) in
    omega (arith, from, to, left, right, same)

-- the bytes of all regions after a move
pub bytes-parts : (test : Option Holder → Bool) (seat : ℕ) (held : Holding) (parts : List Part) → AreApart parts → AreWhole parts → All IsPlaced parts → CanMoveAll seat held parts →
    sum_regions (region_bytes test (after_parts held parts)) + bytes_from test parts ≡ sum_regions (region_bytes test held) + bytes_to test parts
bytes-parts test seat held [] apart whole placed can = refl
bytes-parts test seat held (part ∷ parts) (first, apart) whole placed (can, can_rest) =
    let one = bytes-part test held part (whole 0 part (omega arith)) (placed 0 part (omega arith)) can.there in
    let rest = bytes-parts test seat (after_part held part) parts apart (All-tail (λ (p : Part). IsWhole p.range) part parts whole) (All-tail IsPlaced part parts placed)
    (can_move-after_part seat held part parts first can_rest) in
    let from = sum_by-cons (λ (p : Part). if test p.from then p.range.bytes else 0) part parts in
    let to = sum_by-cons (λ (p : Part). if test p.to then p.range.bytes else 0) part parts in
    omega (arith, one, rest, from, to)

-- the bytes at several kinds of holders
pub kinds_bytes : (held : Holding) (ks : List HolderKind) →
    sum_by (λ kind. bytes_at kind held) ks ≡ sum_regions (λ p r. sum_below (λ o. count_by (λ kind. is_at kind (held (place_at p r o))) ks) (2 ^ 64))
unfolding region_bytes
kinds_bytes held [] = sym (sum_regions-none (λ p r. sum_below (λ o. 0) (2 ^ 64)) (λ p r. sum_below-none (λ o. 0) (2 ^ 64) (λ o below. refl)))
kinds_bytes held (kind ∷ ks) =
    let rest = kinds_bytes held ks in
    let cons = sum_by-cons (λ k. bytes_at k held) kind ks in
    let add = sum_regions-add (region_bytes (is_at kind) held) (λ p r. sum_below (λ o. count_by (λ k. is_at k (held (place_at p r o))) ks) (2 ^ 64)) in
    let same = sum_regions-same (λ p r. sum_below (λ o. count_by (λ k. is_at k (held (place_at p r o))) (kind ∷ ks)) (2 ^ 64))
    (λ p r. region_bytes (is_at kind) held p r + sum_below (λ o. count_by (λ k. is_at k (held (place_at p r o))) ks) (2 ^ 64))
    (λ p r in_pool in_region.
    sum_below-same (λ o. count_by (λ k. is_at k (held (place_at p r o))) (kind ∷ ks)) (λ o. (if is_at kind (held (place_at p r o)) then 1 else 0) + count_by (λ k. is_at k (held (place_at p r o))) ks) (2 ^ 64)
    (λ o below. sum_by-cons (λ k. if is_at k (held (place_at p r o)) then 1 else 0) kind ks)
    ∙ sum_below-add (λ o. if is_at kind (held (place_at p r o)) then 1 else 0) (λ o. count_by (λ k. is_at k (held (place_at p r o))) ks) (2 ^ 64)) in
    omega (arith, rest, cons, add, same)

-- all kinds together are all bytes
pub kinds_all : (held : Holding) → sum_by (λ kind. bytes_at kind held) holder_kinds ≡ bytes_held held
unfolding region_bytes
kinds_all held =
    kinds_bytes held holder_kinds
    ∙ sum_regions-same (λ p r. sum_below (λ o. count_by (λ kind. is_at kind (held (place_at p r o))) holder_kinds) (2 ^ 64)) (region_bytes has_holder held)
    (λ p r in_pool in_region.
    sum_below-same (λ o. count_by (λ kind. is_at kind (held (place_at p r o))) holder_kinds) (λ o. if has_holder (held (place_at p r o)) then 1 else 0) (2 ^ 64)
    (λ o below. holder_kinds-one (held (place_at p r o))))

-- a region that isn't live has no bytes
pub bytes_live : (held : Holding) → bytes_held held ≡ live_bytes held
bytes_live held =
    sum_regions-same (region_bytes has_holder held) (λ p r. if is_live held p r then region_bytes has_holder held p r else 0)
    (λ p r in_pool in_region. itself (region_bytes has_holder held p r))
  where
    itself : (n : ℕ) → n ≡ (if nat_lt 0 n then n else 0)
    itself n = grind (arith, nat_tests)

pub totals_sum : TotalsSum
totals_sum held = (let all = kinds_all held in omega (arith, all), bytes_live held)

pub totals_follow_moves : TotalsFollowMoves
totals_follow_moves seat held parts apart whole placed can =
    let follows : (test : Option Holder → Bool) → sum_regions (region_bytes test (after_parts held parts)) + bytes_from test parts ≡ sum_regions (region_bytes test held) + bytes_to test parts
    = λ test. bytes-parts test seat held parts apart whole placed can in
    record {
      bytes = follows has_holder;
      waste = follows _;
      head = follows _;
      rest = follows _;
      private = follows _;
      public = follows _;
      object = follows _;
      large_head = follows _;
      slab_cache = follows _;
      cached = follows _;
      bin = follows _;
      queue = follows _;
      hand = follows _;
    }

-- the bytes of one region after a move
pub region_bytes-parts : (seat : ℕ) (held : Holding) (parts : List Part) (pool region : ℕ) → AreApart parts → AreWhole parts → CanMoveAll seat held parts →
    region_bytes has_holder (after_parts held parts) pool region + region_from pool region parts ≡ region_bytes has_holder held pool region + region_to pool region parts
region_bytes-parts seat held [] pool region apart whole can = refl
region_bytes-parts seat held (part ∷ parts) pool region (first, apart) whole (can, can_rest) =
    let one = region_bytes-part has_holder held part pool region (whole 0 part (omega arith)) can.there in
    let rest = region_bytes-parts seat (after_part held part) parts pool region apart (All-tail (λ (p : Part). IsWhole p.range) part parts whole)
    (can_move-after_part seat held part parts first can_rest) in
    let from = sum_by-cons (λ (p : Part). if is_region pool region p.range then (if has_holder p.from then p.range.bytes else 0) else 0) part parts in
    let to = sum_by-cons (λ (p : Part). if is_region pool region p.range then (if has_holder p.to then p.range.bytes else 0) else 0) part parts in
    omega (arith, one, rest, from, to)

-- what stays in the pool leaves as many bytes as it brings
pub region_from-within : (pool region : ℕ) (parts : List Part) → All IsWithin parts → region_from pool region parts ≡ region_to pool region parts
region_from-within pool region [] within = refl
region_from-within pool region (part ∷ parts) within =
    let first : IsWithin part = within 0 part (omega arith) in
    let rest = region_from-within pool region parts (All-tail IsWithin part parts within) in
    let from = sum_by-cons (λ (p : Part). if is_region pool region p.range then (if has_holder p.from then p.range.bytes else 0) else 0) part parts in
    let to = sum_by-cons (λ (p : Part). if is_region pool region p.range then (if has_holder p.to then p.range.bytes else 0) else 0) part parts in
    let one = ap {B = ℕ} (λ (b : Bool). if is_region pool region part.range then (if b then part.range.bytes else 0) else 0) (first.0 ∙ sym first.1) in
    omega (arith, rest, from, to, one)

-- parts of another region
pub region_from-other : (pool region : ℕ) (parts : List Part) → All (λ part. is_region pool region part.range ≡ false) parts →
    (region_from pool region parts ≡ 0) × (region_to pool region parts ≡ 0)
region_from-other pool region [] other = (refl, refl)
region_from-other pool region (part ∷ parts) other =
    let first : is_region pool region part.range ≡ false = other 0 part (omega arith) in
    let rest = region_from-other pool region parts (All-tail (λ (p : Part). is_region pool region p.range ≡ false) part parts other) in
    let rest_from : region_from pool region parts ≡ 0 = rest.0 in
    let rest_to : region_to pool region parts ≡ 0 = rest.1 in
    let from = sum_by-cons (λ (p : Part). if is_region pool region p.range then (if has_holder p.from then p.range.bytes else 0) else 0) part parts in
    let to = sum_by-cons (λ (p : Part). if is_region pool region p.range then (if has_holder p.to then p.range.bytes else 0) else 0) part parts in
    let none_from = ap {B = ℕ} (λ (b : Bool). if b then (if has_holder part.from then part.range.bytes else 0) else 0) first in
    let none_to = ap {B = ℕ} (λ (b : Bool). if b then (if has_holder part.to then part.range.bytes else 0) else 0) first in
    (omega (arith, rest_from, from, none_from), omega (arith, rest_to, to, none_to))

-- where the parts are all of one region, they are of no other
pub of_no_other : (pool region p r : ℕ) (parts : List Part) → All (λ part. is_region pool region part.range ≡ true) parts → ((p == pool) && (r == region)) ≡ false →
    All (λ part. is_region p r part.range ≡ false) parts
of_no_other pool region p r parts all other k d below =
    apart (get_or parts k d).range.place.pool (get_or parts k d).range.place.region (all k d below) other
  where
    apart : (a b : ℕ) → ((pool == a) && (region == b)) ≡ true → ((p == pool) && (r == region)) ≡ false → ((p == a) && (r == b)) ≡ false
    apart a b same other =
        let both = and_parts (pool == a) (region == b) same in
        let pool_is = eqb-true pool a both.0 in
        let region_is = eqb-true region b both.1 in
        ap (λ x. (p == x) && (r == b)) (sym pool_is) ∙ ap (λ x. (p == pool) && (r == x)) (sym region_is) ∙ other

pub regions_follow_moves : RegionsFollowMoves
regions_follow_moves seat held parts apart whole can =
    let bytes = λ (pool region : ℕ). region_bytes-parts seat held parts pool region apart whole can in
    record {
      bytes = bytes;
      within = λ within. sum_regions-same (λ p r. if is_live (after_parts held parts) p r then 1 else 0) (λ p r. if is_live held p r then 1 else 0)
          (λ p r in_pool in_region. live (region_bytes has_holder (after_parts held parts) p r) (region_bytes has_holder held p r) _ _ (bytes p r) (region_from-within p r parts within));
      of_one = λ pool region in_pool in_region all.
          let old = sum_regions-one (if is_live held pool region then 1 else 0) pool region in_pool in_region in
          let new = sum_regions-one (if is_live (after_parts held parts) pool region then 1 else 0) pool region in_pool in_region in
          let left = sum_regions-add (λ p r. if is_live (after_parts held parts) p r then 1 else 0) (λ p r. if (p == pool) && (r == region) then (if is_live held pool region then 1 else 0) else 0) in
          let right = sum_regions-add (λ p r. if is_live held p r then 1 else 0) (λ p r. if (p == pool) && (r == region) then (if is_live (after_parts held parts) pool region then 1 else 0) else 0) in
          let same = sum_regions-same
          (λ p r. (if is_live (after_parts held parts) p r then 1 else 0) + (if (p == pool) && (r == region) then (if is_live held pool region then 1 else 0) else 0))
          (λ p r. (if is_live held p r then 1 else 0) + (if (p == pool) && (r == region) then (if is_live (after_parts held parts) pool region then 1 else 0) else 0))
          (λ p r below_pool below_region. swap pool region p r (cases_Bool ((p == pool) && (r == region))) (λ other. none p r (bytes p r) (region_from-other p r parts (of_no_other pool region p r parts all other)))) in
          omega (arith, old, new, left, right, same);
    }
  where
    live : (new old from to : ℕ) → new + from ≡ old + to → from ≡ to → ◌≡◌ {A = ℕ} (if nat_lt 0 new then 1 else 0) (if nat_lt 0 old then 1 else 0)
    live new old from to bytes same = let e : new ≡ old = omega arith in ap {B = ℕ} (λ n. if nat_lt 0 n then 1 else 0) e

    none : (p r : ℕ) → region_bytes has_holder (after_parts held parts) p r + region_from p r parts ≡ region_bytes has_holder held p r + region_to p r parts →
        (region_from p r parts ≡ 0) × (region_to p r parts ≡ 0) → region_bytes has_holder (after_parts held parts) p r ≡ region_bytes has_holder held p r
    none p r bytes (from, to) = omega (arith, bytes, from, to)

    swap : (pool region p r : ℕ) → (((p == pool) && (r == region)) ≡ true) ⊎ (((p == pool) && (r == region)) ≡ false) →
        (((p == pool) && (r == region)) ≡ false → region_bytes has_holder (after_parts held parts) p r ≡ region_bytes has_holder held p r) →
        ◌≡◌ {A = ℕ} ((if is_live (after_parts held parts) p r then 1 else 0) + (if (p == pool) && (r == region) then (if is_live held pool region then 1 else 0) else 0))
        ((if is_live held p r then 1 else 0) + (if (p == pool) && (r == region) then (if is_live (after_parts held parts) pool region then 1 else 0) else 0))
    swap pool region p r (inl same) others =
        let both = and_parts (p == pool) (r == region) same in
        let pool_is = eqb-true p pool both.0 in
        let region_is = eqb-true r region both.1 in
        let new = ap {B = ℕ} (λ x. if is_live (after_parts held parts) x r then 1 else 0) pool_is ∙ ap {B = ℕ} (λ x. if is_live (after_parts held parts) pool x then 1 else 0) region_is in
        let old = ap {B = ℕ} (λ x. if is_live held x r then 1 else 0) pool_is ∙ ap {B = ℕ} (λ x. if is_live held pool x then 1 else 0) region_is in
        let left = ap {B = ℕ} (λ (b : Bool). if b then (if is_live held pool region then 1 else 0) else 0) same in
        let right = ap {B = ℕ} (λ (b : Bool). if b then (if is_live (after_parts held parts) pool region then 1 else 0) else 0) same in
        omega (arith, new, old, left, right)
    swap pool region p r (inr other) others =
        let same = ap {B = ℕ} (λ n. if nat_lt 0 n then 1 else 0) (others other) in
        let left = ap {B = ℕ} (λ (b : Bool). if b then (if is_live held pool region then 1 else 0) else 0) other in
        let right = ap {B = ℕ} (λ (b : Bool). if b then (if is_live (after_parts held parts) pool region then 1 else 0) else 0) other in
        omega (arith, same, left, right)
