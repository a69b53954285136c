-- The totals by parts follow a move.
use Rattle.std.proofs.Common.{◌≡◌, ℕ, ◌+◌, ◌-◌, ◌≤◌, ◌^◌, Bool, true, false, List, [], ◌∷◌, refl, sym, ap, ◌∙◌, arith}
use Rattle.std.specs.Prelude.{if◌then◌else◌, sum_by, cond, min}
use Rattle.std.specs.declared.option.Option.{Option}
use Rattle.std.proofs.lemmas.List.Sums.{sum_by-cons}
use Rattle.part_model.specs.declared.holders.Holder.{Holder}
use Rattle.part_model.specs.declared.holders.HolderKind.TheVariants.{Waste, Head, Rest, Private, Public, Object}
use Rattle.part_model.specs.declared.holders.HolderKind.TheVariants.{LargeHead, SlabCache, Cached, Bin, Queue, Hand}
use Rattle.part_model.specs.declared.moves.Part.{Part}
use Rattle.part_model.specs.declared.totals.Totals.{Totals}
use Rattle.part_model.specs.Totals.{is_at, has_holder}
use Rattle.part_model.specs.Laws.{bytes_from, bytes_to, Follows}
use Rattle.pool_types.specs.Sums.{capped}
use Rattle.step_parts.specs.Tallies.{fewer, more, after_part, after_parts, regions_after, totals_after}
use Rattle.step_parts.specs.Laws.{HasRoom, CanFollow, TotalsFollowParts}

-- one count, part by part
abbrev counted_one : (Option Holder → Bool) → ℕ → Part → ℕ
counted_one test n part = more (test part.to) (fewer (test part.from) n part.range.bytes) part.range.bytes

abbrev counted : (Option Holder → Bool) → ℕ → List Part → ℕ
counted test n [] = n
counted test n (part ∷ parts) = counted test (counted_one test n part) parts

-- a count after one part, of which so many bytes leave and come, where it has room for more
step : (leaves comes : Bool) (n bytes out into : ℕ) →
    (if leaves then bytes else 0) + out ≤ n → n + ((if comes then bytes else 0) + into) ≤ 2 ^ 64 - 1 →
    (more comes (fewer leaves n bytes) bytes + (if leaves then bytes else 0) ≡ n + (if comes then bytes else 0))
    × (out ≤ more comes (fewer leaves n bytes) bytes)
    × (more comes (fewer leaves n bytes) bytes + into ≤ 2 ^ 64 - 1)
step true true n bytes out into h k = (omega arith, omega arith, omega arith)
step true false n bytes out into h k = (omega arith, omega arith, omega arith)
step false true n bytes out into h k = (omega arith, omega arith, omega arith)
step false false n bytes out into h k = (omega arith, omega arith, omega arith)

-- all parts
counted-is : (test : Option Holder → Bool) (n : ℕ) (parts : List Part) → bytes_from test parts ≤ n →
    n + bytes_to test parts ≤ 2 ^ 64 - 1 → counted test n parts + bytes_from test parts ≡ n + bytes_to test parts
counted-is test n [] h k = refl
counted-is test n (part ∷ parts) h k =
    let from = sum_by-cons (λ p. if test p.from then p.range.bytes else 0) part parts in
    let to = sum_by-cons (λ p. if test p.to then p.range.bytes else 0) part parts in
    let one = step (test part.from) (test part.to) n part.range.bytes (bytes_from test parts) (bytes_to test parts)
    (omega (arith, from, h)) (omega (arith, to, k)) in
    let rest = counted-is test (counted_one test n part) parts one.1 one.2 in
    omega (arith, from, to, one.0, rest)

after_parts-bytes : (t : Totals) (parts : List Part) → (after_parts t parts).bytes ≡ counted has_holder t.bytes parts
after_parts-bytes t [] = refl
after_parts-bytes t (part ∷ parts) = after_parts-bytes (after_part t part) parts

after_parts-waste : (t : Totals) (parts : List Part) → (after_parts t parts).waste ≡ counted (is_at Waste) t.waste parts
after_parts-waste t [] = refl
after_parts-waste t (part ∷ parts) = after_parts-waste (after_part t part) parts

after_parts-head : (t : Totals) (parts : List Part) → (after_parts t parts).head ≡ counted (is_at Head) t.head parts
after_parts-head t [] = refl
after_parts-head t (part ∷ parts) = after_parts-head (after_part t part) parts

after_parts-rest : (t : Totals) (parts : List Part) → (after_parts t parts).rest ≡ counted (is_at Rest) t.rest parts
after_parts-rest t [] = refl
after_parts-rest t (part ∷ parts) = after_parts-rest (after_part t part) parts

after_parts-private : (t : Totals) (parts : List Part) → (after_parts t parts).private ≡ counted (is_at Private) t.private parts
after_parts-private t [] = refl
after_parts-private t (part ∷ parts) = after_parts-private (after_part t part) parts

after_parts-public : (t : Totals) (parts : List Part) → (after_parts t parts).public ≡ counted (is_at Public) t.public parts
after_parts-public t [] = refl
after_parts-public t (part ∷ parts) = after_parts-public (after_part t part) parts

after_parts-object : (t : Totals) (parts : List Part) → (after_parts t parts).object ≡ counted (is_at Object) t.object parts
after_parts-object t [] = refl
after_parts-object t (part ∷ parts) = after_parts-object (after_part t part) parts

after_parts-large_head : (t : Totals) (parts : List Part) → (after_parts t parts).large_head ≡ counted (is_at LargeHead) t.large_head parts
after_parts-large_head t [] = refl
after_parts-large_head t (part ∷ parts) = after_parts-large_head (after_part t part) parts

after_parts-slab_cache : (t : Totals) (parts : List Part) → (after_parts t parts).slab_cache ≡ counted (is_at SlabCache) t.slab_cache parts
after_parts-slab_cache t [] = refl
after_parts-slab_cache t (part ∷ parts) = after_parts-slab_cache (after_part t part) parts

after_parts-cached : (t : Totals) (parts : List Part) → (after_parts t parts).cached ≡ counted (is_at Cached) t.cached parts
after_parts-cached t [] = refl
after_parts-cached t (part ∷ parts) = after_parts-cached (after_part t part) parts

after_parts-bin : (t : Totals) (parts : List Part) → (after_parts t parts).bin ≡ counted (is_at Bin) t.bin parts
after_parts-bin t [] = refl
after_parts-bin t (part ∷ parts) = after_parts-bin (after_part t part) parts

after_parts-queue : (t : Totals) (parts : List Part) → (after_parts t parts).queue ≡ counted (is_at Queue) t.queue parts
after_parts-queue t [] = refl
after_parts-queue t (part ∷ parts) = after_parts-queue (after_part t part) parts

after_parts-hand : (t : Totals) (parts : List Part) → (after_parts t parts).hand ≡ counted (is_at Hand) t.hand parts
after_parts-hand t [] = refl
after_parts-hand t (part ∷ parts) = after_parts-hand (after_part t part) parts

pub totals_follow_parts : TotalsFollowParts
unfolding totals_after
totals_follow_parts t parts room =
    let u : Totals = record t { regions = regions_after t.regions parts } in
    record {
      bytes = ap (λ n. n + bytes_from has_holder parts) (after_parts-bytes u parts) ∙ counted-is has_holder t.bytes parts room.bytes.leave room.bytes.come;
      waste = ap (λ n. n + bytes_from (is_at Waste) parts) (after_parts-waste u parts) ∙ counted-is (is_at Waste) t.waste parts room.waste.leave room.waste.come;
      head = ap (λ n. n + bytes_from (is_at Head) parts) (after_parts-head u parts) ∙ counted-is (is_at Head) t.head parts room.head.leave room.head.come;
      rest = ap (λ n. n + bytes_from (is_at Rest) parts) (after_parts-rest u parts) ∙ counted-is (is_at Rest) t.rest parts room.rest.leave room.rest.come;
      private = ap (λ n. n + bytes_from (is_at Private) parts) (after_parts-private u parts) ∙ counted-is (is_at Private) t.private parts room.private.leave room.private.come;
      public = ap (λ n. n + bytes_from (is_at Public) parts) (after_parts-public u parts) ∙ counted-is (is_at Public) t.public parts room.public.leave room.public.come;
      object = ap (λ n. n + bytes_from (is_at Object) parts) (after_parts-object u parts) ∙ counted-is (is_at Object) t.object parts room.object.leave room.object.come;
      large_head = ap (λ n. n + bytes_from (is_at LargeHead) parts) (after_parts-large_head u parts) ∙ counted-is (is_at LargeHead) t.large_head parts room.large_head.leave room.large_head.come;
      slab_cache = ap (λ n. n + bytes_from (is_at SlabCache) parts) (after_parts-slab_cache u parts) ∙ counted-is (is_at SlabCache) t.slab_cache parts room.slab_cache.leave room.slab_cache.come;
      cached = ap (λ n. n + bytes_from (is_at Cached) parts) (after_parts-cached u parts) ∙ counted-is (is_at Cached) t.cached parts room.cached.leave room.cached.come;
      bin = ap (λ n. n + bytes_from (is_at Bin) parts) (after_parts-bin u parts) ∙ counted-is (is_at Bin) t.bin parts room.bin.leave room.bin.come;
      queue = ap (λ n. n + bytes_from (is_at Queue) parts) (after_parts-queue u parts) ∙ counted-is (is_at Queue) t.queue parts room.queue.leave room.queue.come;
      hand = ap (λ n. n + bytes_from (is_at Hand) parts) (after_parts-hand u parts) ∙ counted-is (is_at Hand) t.hand parts room.hand.leave room.hand.come;
    }
