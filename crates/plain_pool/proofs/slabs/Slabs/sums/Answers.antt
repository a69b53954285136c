use Rattle.std.proofs.Common.{ap, ◌∙◌, refl, arith}
use Rattle.std.specs.Prelude.{sum_by}
use Rattle.plain_lists.specs.Held.{slab_head, slab_rest, slab_private, slab_object}
use Rattle.plain_pool.specs.Held.{room_head, room_rest, room_private, room_object}
use Rattle.plain_pool.proofs.SlabCalls.{nones-most}
use Rattle.plain_pool.proofs.SumLemmas.{rooms_sum, private_sum}
use Rattle.plain_pool.proofs.slabs.Slabs.sums.Goals as goal

pub returns-clause-head : goal.returns-clause-head
returns-clause-head c slabs fit kept apart = c.sums_of.ensures.head ∙ ap (sum_by room_head) c.as_slice.ensures.value
    ∙ rooms_sum room_head slab_head c.args.self.now.rooms.items c.args.self.now.classes c.args.self.now.marks.items slabs refl fit kept apart (λ slab inside. refl)

pub returns-clause-rest : goal.returns-clause-rest
returns-clause-rest c slabs fit kept apart = c.sums_of.ensures.rest ∙ ap (sum_by room_rest) c.as_slice.ensures.value
    ∙ rooms_sum room_rest slab_rest c.args.self.now.rooms.items c.args.self.now.classes c.args.self.now.marks.items slabs refl fit kept apart (λ slab inside. refl)

pub returns-clause-private : goal.returns-clause-private
returns-clause-private c slabs fit kept apart = c.sums_of.ensures.private ∙ ap (sum_by room_private) c.as_slice.ensures.value
    ∙ rooms_sum room_private slab_private c.args.self.now.rooms.items c.args.self.now.classes c.args.self.now.marks.items slabs refl fit kept apart
    (λ slab inside. private_sum slab (let most = nones-most slab.objects in let all = (kept.each slab inside).counted in omega (arith, most, all)))

pub returns-clause-object : goal.returns-clause-object
returns-clause-object c slabs fit kept apart = c.sums_of.ensures.object ∙ ap (sum_by room_object) c.as_slice.ensures.value
    ∙ rooms_sum room_object slab_object c.args.self.now.rooms.items c.args.self.now.classes c.args.self.now.marks.items slabs refl fit kept apart (λ slab inside. refl)
