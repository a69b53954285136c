use Rattle.std.proofs.Common.{[], ◌<◌, ◌-◌, ◌*◌, ◌/◌, ◌^◌, ◌∷◌, sym, ap, subst, ◌∙◌, arith}
use Rattle.plain_lists.specs.Lists.{Lists, begun}
use Rattle.plain_lists.specs.Whole.{Outcome}
use Rattle.std.proofs.Common.{ℕ}
use Rattle.plain_pool.specs.declared.slabs.Slabs.{Slabs}
use Rattle.plain_pool.specs.declared.arrays.PoolArrays.{PoolArrays}
use Rattle.plain_pool.specs.Pool.{Has}
use Rattle.plain_pool.specs.Slabs.{AreSlabs}
use Rattle.plain_pool.proofs.CallLemmas.{room_came, Came, room_free, begun_kept, begun_free, begun_in, begins_is, slabs_kept}
use Rattle.plain_pool.proofs.arrays.PoolArrays.begin_slab.Goals as goal

pub begin-requires-clause-room : goal.begin-requires-clause-room
begin-requires-clause-room c = let (lists, stands, few) = c.requires.stands in
    let came = room_came c.take_room.new.self lists c.in-Some.index stands.good (c.in-Some.ensures lists stands) in
    let i = came.inside in omega (arith, i)

pub begin-requires-clause-slabs : goal.begin-requires-clause-slabs
begin-requires-clause-slabs c = let (lists, stands, few) = c.requires.stands in
    let came = room_came c.take_room.new.self lists c.in-Some.index stands.good (c.in-Some.ensures lists stands) in
    (came.room.lists.slabs, came.arrays.slabs, room_free c.take_room.new.self lists c.in-Some.index came, (slabs_kept (came.room.index ∷ []) came.room.lists came.good.good).placed)

-- the pool once the slab began
begun_has : (pool : PoolArrays) (lists : Lists) (index class : ℕ) → (came : Came pool lists index) → (slabs : Slabs) → AreSlabs slabs (begun (2 * (index / 2)) class ∷ came.room.lists.slabs)
    → Has (record pool { slabs = slabs }) (record came.room.lists { slabs = begun (2 * (index / 2)) class ∷ came.room.lists.slabs })
begun_has pool lists index class came slabs fit = record { region = came.arrays.region; slabs = fit; bins = came.arrays.bins; stored = came.arrays.stored; granted = came.arrays.granted }

pub give-requires : goal.give-requires
give-requires c = let (lists, stands, few) = c.requires.stands in
    let came = room_came c.take_room.new.self lists c.in-Some.index stands.good (c.in-Some.ensures lists stands) in
    let fit = c.begin.ensures came.room.lists.slabs came.arrays.slabs (room_free c.take_room.new.self lists c.in-Some.index came) (slabs_kept (came.room.index ∷ []) came.room.lists came.good.good).placed in (
      record came.room.lists { slabs = begun (2 * (c.in-Some.index / 2)) c.args.class ∷ came.room.lists.slabs },
      begun (2 * (c.in-Some.index / 2)) c.args.class,
      begun_has c.take_room.new.self lists c.in-Some.index c.args.class came c.begin.new.self fit,
      begun_kept c.take_room.new.self lists c.in-Some.index c.args.class came c.requires.class,
      begun_in c.in-Some.index c.args.class came.room.lists.slabs,
      begun_free (2 * (c.in-Some.index / 2)) c.args.class c.requires.class,
      subst (λ n. n < 2 ^ 55 - 1) (sym came.good.granted_same) few,
    )

pub returns-clause-lists : goal.returns-clause-lists
returns-clause-lists c lists stands =
    let came = room_came c.take_room.new.self lists c.in-Some.index stands.good (c.in-Some.ensures lists stands) in
    let fit = c.begin.ensures came.room.lists.slabs came.arrays.slabs (room_free c.take_room.new.self lists c.in-Some.index came) (slabs_kept (came.room.index ∷ []) came.room.lists came.good.good).placed in
    subst (λ (o : Outcome). Has c.give.new.self o.lists) (begins_is c.take_room.new.self lists c.in-Some.index c.args.class came)
    (c.give.ensures.lists (record came.room.lists { slabs = begun (2 * (c.in-Some.index / 2)) c.args.class ∷ came.room.lists.slabs }) (begun (2 * (c.in-Some.index / 2)) c.args.class)
    (begun_has c.take_room.new.self lists c.in-Some.index c.args.class came c.begin.new.self fit) (begun_kept c.take_room.new.self lists c.in-Some.index c.args.class came c.requires.class)
    (begun_in c.in-Some.index c.args.class came.room.lists.slabs) (begun_free (2 * (c.in-Some.index / 2)) c.args.class c.requires.class))

pub returns-clause-answer : goal.returns-clause-answer
returns-clause-answer c lists stands =
    let came = room_came c.take_room.new.self lists c.in-Some.index stands.good (c.in-Some.ensures lists stands) in
    let fit = c.begin.ensures came.room.lists.slabs came.arrays.slabs (room_free c.take_room.new.self lists c.in-Some.index came) (slabs_kept (came.room.index ∷ []) came.room.lists came.good.good).placed in
    c.give.ensures.answer (record came.room.lists { slabs = begun (2 * (c.in-Some.index / 2)) c.args.class ∷ came.room.lists.slabs }) (begun (2 * (c.in-Some.index / 2)) c.args.class)
    (begun_has c.take_room.new.self lists c.in-Some.index c.args.class came c.begin.new.self fit) (begun_kept c.take_room.new.self lists c.in-Some.index c.args.class came c.requires.class)
    (begun_in c.in-Some.index c.args.class came.room.lists.slabs) (begun_free (2 * (c.in-Some.index / 2)) c.args.class c.requires.class)
    ∙ ap (λ (o : Outcome). o.answer) (begins_is c.take_room.new.self lists c.in-Some.index c.args.class came)
