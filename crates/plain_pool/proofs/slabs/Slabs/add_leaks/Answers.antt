use Rattle.std.proofs.Common.{◌≡◌, ◌-◌, ◌++◌, length, sym, ap, ◌∙◌, arith}
use Rattle.slab_core.specs.declared.SlabRec.{SlabRec}
use Rattle.plain_lists.specs.Held.{slab_leaks}
use Rattle.plain_lists.proofs.Rooms.{Some-same}
use Rattle.plain_pool.specs.Slabs.{record_of}
use Rattle.plain_pool.proofs.SlabLemmas.{found_in}
use Rattle.plain_pool.proofs.SlabCalls.{read_room}
use Rattle.plain_pool.proofs.LeakLemmas.{room_slab, leaks_goes_on, leaks_end}
use Rattle.plain_pool.proofs.slabs.Slabs.add_leaks.Goals as goal

pub add_leak-requires : goal.add_leak-requires
add_leak-requires c = let (slabs, fit, kept) = c.requires.slabs in
    let at = room_slab c.args.self.now.rooms.items c.args.self.now.classes c.args.self.now.marks.items slabs c.args.room c.index.result.now c.in-Some.slab fit c.requires.room c.index.ensures c.in-Some.is in
    let handed = ap (λ (r : SlabRec). r.handed) at.same in let below = c.loop-done-test.true in
    (slabs, at.own, fit, kept, found_in slabs c.args.room at.own at.found, omega (arith, handed, below))

pub loop-done-preserved : goal.loop-done-preserved
loop-done-preserved c slabs own fit kept is =
    let same = Some-same c.in-Some.slab (record_of own) (sym c.in-Some.is ∙ read_room c.args.self.now.rooms.items c.args.self.now.classes c.args.self.now.marks.items slabs c.args.room own c.index.result.now fit kept.placed is c.index.ensures) in
    let handed : c.in-Some.slab.handed ≡ length own.objects = ap (λ (r : SlabRec). r.handed) same in
    let below = c.loop-done-test.true in
    leaks_goes_on own c.args.leaks.now.items c.loop-done.leaks.items c.add_leak.new.leaks.items c.loop-done.done (c.in-Some.slab.handed - 1 - c.loop-done.done) (omega (arith, below, handed)) (ap (λ n. n - 1 - c.loop-done.done) handed)
    (c.loop-done.invariant slabs own fit kept is) (c.in_ok-add_leak.ensures slabs own fit kept is (omega (arith, below, handed)))

pub returns : goal.returns
returns c slabs fit kept =
    let at = room_slab c.args.self.now.rooms.items c.args.self.now.classes c.args.self.now.marks.items slabs c.args.room c.index.result.now c.in-Some.slab fit c.requires.room c.index.ensures c.in-Some.is in
    let handed = ap (λ (r : SlabRec). r.handed) at.same in let past = c.loop-done-test.false in
    leaks_end at.own c.args.leaks.now.items c.loop-done.leaks.items c.loop-done.done (omega (arith, handed, past)) (c.loop-done.invariant slabs at.own fit kept (found_in slabs c.args.room at.own at.found))
    ∙ ap (λ o. c.args.leaks.now.items ++ slab_leaks o) (sym at.found)
