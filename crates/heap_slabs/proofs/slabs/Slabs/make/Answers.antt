use Rattle.std.proofs.Common.{◌≡◌, ◌<◌, ◌^◌, replicate, None, rules, arith}
use Rattle.index_lists.specs.Lists.{empty_lists}
use Rattle.pool_types.specs.Geometry.{class_count}
use Rattle.heap_slabs.proofs.Keeping.{kept_none}
use Rattle.heap_slabs.proofs.slabs.Slabs.make.Goals as goal

pub invariant_of-result : goal.invariant_of-result
invariant_of-result c =
    let lists : c.in_ok-new.field-0 ≡ empty_lists class_count c.args.granules = search rules in
    let records : c.in_ok-vec.field-0.items ≡ replicate c.args.granules None = search rules in
    let few : c.args.granules < 2 ^ 32 = omega arith in
    rw (lists, records) (kept_none c.args.granules few)
