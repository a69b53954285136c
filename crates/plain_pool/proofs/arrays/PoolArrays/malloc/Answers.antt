use Rattle.std.proofs.Common.{sym, ap, subst, ◌∙◌}
use Rattle.plain_lists.specs.Whole.{Outcome}
use Rattle.plain_pool.specs.Pool.{Has}
use Rattle.plain_pool.proofs.CallLemmas.{class_exists, lists_kept, found_free, found_none_free, found_is, none_is}
use Rattle.plain_pool.proofs.arrays.PoolArrays.malloc.Goals as goal

pub unreachable-requires : goal.unreachable-requires
unreachable-requires c = class_exists c.args.size c.requires.small (sym c.in_default.is ∙ c.class_of.ensures)

pub open_room-requires : goal.open_room-requires
open_room-requires c = let (lists, stands, few) = c.requires.stands in (lists.slabs, stands.arrays.slabs, lists_kept lists stands.good)

pub give-requires : goal.give-requires
give-requires c = let (lists, stands, few) = c.requires.stands in
    let at = found_free lists c.in-Some.class c.in-Some-open_room.room stands.good (c.in-Some-open_room.ensures lists.slabs stands.arrays.slabs (lists_kept lists stands.good)) in
    (lists, at.slab, stands.arrays, lists_kept lists stands.good, at.is, at.free, few)

pub returns-in-Some-open_room-clause-lists : goal.returns-in-Some-open_room-clause-lists
returns-in-Some-open_room-clause-lists c lists stands =
    let at = found_free lists c.in-Some.class c.in-Some-open_room.room stands.good (c.in-Some-open_room.ensures lists.slabs stands.arrays.slabs (lists_kept lists stands.good)) in
    subst (λ (o : Outcome). Has c.give.new.self o.lists) (found_is lists c.args.size c.in-Some.class at.slab (sym c.in-Some.is ∙ c.class_of.ensures) at.found)
    (c.give.ensures.lists lists at.slab stands.arrays (lists_kept lists stands.good) at.is at.free)

pub returns-in-Some-open_room-clause-answer : goal.returns-in-Some-open_room-clause-answer
returns-in-Some-open_room-clause-answer c lists stands =
    let at = found_free lists c.in-Some.class c.in-Some-open_room.room stands.good (c.in-Some-open_room.ensures lists.slabs stands.arrays.slabs (lists_kept lists stands.good)) in
    c.give.ensures.answer lists at.slab stands.arrays (lists_kept lists stands.good) at.is at.free
    ∙ ap (λ (o : Outcome). o.answer) (found_is lists c.args.size c.in-Some.class at.slab (sym c.in-Some.is ∙ c.class_of.ensures) at.found)

pub returns-in-None-clause-lists : goal.returns-in-None-clause-lists
returns-in-None-clause-lists c lists stands =
    subst (λ (o : Outcome). Has c.begin_slab.new.self o.lists) (none_is lists c.args.size c.in-Some.class (sym c.in-Some.is ∙ c.class_of.ensures) (found_none_free lists c.in-Some.class (c.in-None.ensures lists.slabs stands.arrays.slabs (lists_kept lists stands.good))))
    (c.begin_slab.ensures.lists lists stands)

pub returns-in-None-clause-answer : goal.returns-in-None-clause-answer
returns-in-None-clause-answer c lists stands =
    c.begin_slab.ensures.answer lists stands
    ∙ ap (λ (o : Outcome). o.answer) (none_is lists c.args.size c.in-Some.class (sym c.in-Some.is ∙ c.class_of.ensures) (found_none_free lists c.in-Some.class (c.in-None.ensures lists.slabs stands.arrays.slabs (lists_kept lists stands.good))))
