use Rattle.std.proofs.Common.{◌*◌, length, sym, ap, refl, ◌∙◌}
use Rattle.plain_pool.proofs.CallLemmas.{lists_kept}
use Rattle.plain_pool.proofs.SumLemmas.{slabs_apart, blocks_apart, totals_is}
use Rattle.plain_pool.proofs.arrays.PoolArrays.totals.Goals as goal

pub sums-sums-requires : goal.sums-sums-requires
sums-sums-requires c = let (lists, stands) = c.requires in (lists.slabs, stands.arrays.slabs, lists_kept lists stands.good, slabs_apart lists stands.good)

pub bytes-requires : goal.bytes-requires
bytes-requires c = let (lists, stands) = c.requires in (lists.blocks, stands.arrays.bins, blocks_apart lists stands.good)

pub returns : goal.returns
returns c lists stands =
    let kept = lists_kept lists stands.good in
    let apart = slabs_apart lists stands.good in
    totals_is lists c.in-Some.region c.in-Some.region.bytes c.sums-sums.result.head c.sums-sums.result.rest c.sums-sums.result.private c.sums-sums.result.object (16384 * c.len.result) c.bytes.result
    (sym stands.arrays.region ∙ sym c.given.ensures ∙ c.in-Some.is) refl
    (c.sums-sums.ensures.head lists.slabs stands.arrays.slabs kept apart) (c.sums-sums.ensures.rest lists.slabs stands.arrays.slabs kept apart)
    (c.sums-sums.ensures.private lists.slabs stands.arrays.slabs kept apart) (c.sums-sums.ensures.object lists.slabs stands.arrays.slabs kept apart)
    (ap (λ n. 16384 * n) (c.len.ensures.value ∙ ap length stands.arrays.stored)) (c.bytes.ensures lists.blocks stands.arrays.bins (blocks_apart lists stands.good))
