use Rattle.std.proofs.Common.{sym, ap, subst, ◌∙◌, refl, arith}
use Rattle.std.specs.List.{remove}
use Rattle.plain_lists.specs.Backend.{after_put, slab_block}
use Rattle.plain_pool.specs.Bins.{AreBins, IsClear}
use Rattle.plain_pool.specs.Pool.{AreStored}
use Rattle.plain_pool.proofs.TrimLemmas.{oldest, oldest_is, clear_of, trim_goes_on, trim_ends}
use Rattle.plain_pool.proofs.arrays.PoolArrays.trim.Goals as goal

pub put-requires : goal.put-requires
put-requires c = let (lists, has, stored, long) = c.requires in
    let t = c.loop.invariant lists has stored long in
    let below = c.loop-test.true in let l = t.long in
    let old = oldest t.more (omega (arith, below, l)) in
    let index = oldest_is t.more c.loop.self.stored.items old c.remove-index.result t.has.stored c.remove-index.ensures.value in
    (t.blocks, t.has.bins, subst (λ n. IsClear n t.blocks) (sym index) (clear_of old.index old.rest t.blocks (subst (λ xs. AreStored xs t.blocks) old.is t.stored)))

pub loop-preserved : goal.loop-preserved
loop-preserved c lists has stored long =
    let t = c.loop.invariant lists has stored long in
    let below = c.loop-test.true in let l = t.long in
    let old = oldest t.more (omega (arith, below, l)) in
    let index = oldest_is t.more c.loop.self.stored.items old c.remove-index.result t.has.stored c.remove-index.ensures.value in
    let clear = subst (λ n. IsClear n t.blocks) (sym index) (clear_of old.index old.rest t.blocks (subst (λ xs. AreStored xs t.blocks) old.is t.stored)) in
    trim_goes_on c.loop.self (record c.loop.self { bins = c.put.new.self; stored = c.remove-index.new.self }) lists c.loop.counter t old below refl refl refl
    (c.remove-index.ensures.items ∙ ap (λ xs. remove xs 0) (t.has.stored ∙ old.is))
    (subst (λ n. AreBins c.put.new.self (after_put (slab_block n) t.blocks)) index (c.put.ensures t.blocks t.has.bins clear))

pub returns : goal.returns
returns c lists has stored long = trim_ends c.loop.self lists c.loop.counter (c.loop.invariant lists has stored long) c.loop-test.false long
