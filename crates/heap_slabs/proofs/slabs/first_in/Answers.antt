use Rattle.std.proofs.Common.{◌≡◌, Some, None, sym, arith, rules, slice_get, ◌∙◌}
use Rattle.index_lists.specs.Lists.{members}
use Rattle.index_lists.proofs.CallerLemmas.{few_members, in_some, place_in}
use Rattle.heap_slabs.proofs.Searches.{found, passed, passed_none, at_end, past_end}
use Rattle.heap_slabs.proofs.slabs.first_in.Goals as goal
use Rattle.heap_slabs.proofs.slabs.first_in.Goals.{in_default-via-in-None-1, in_default-via-in-Some+else-suits}

pub returns-in_err-slab : goal.returns-in_err-slab
returns-in_err-slab c =
    let none : c.from_residual.result ≡ None = search rules in
    none ∙ sym (c.loop-place.invariant.left ∙ at_end c.args.wanted c.args.records.now (members c.args.classes.now
    c.args.list) c.loop-place._place (sym c.loop-place.invariant.here ∙ c.in_err-slab.was))

pub returns-in-loop-place : goal.returns-in-loop-place
returns-in-loop-place c =
    sym (c.loop-place.invariant.left ∙ found c.args.wanted c.args.records.now (members c.args.classes.now c.args.list)
    c.loop-place._place c.in_ok-slab.slab c.in-Some.kept
    (sym c.loop-place.invariant.here ∙ c.in_ok-slab.was) (search rules) (sym c.suits.ensures ∙ c.if-suits.true))

pub following-next-requires : goal.following-next-requires
following-next-requires c =
    in_some c.args.classes.now c.args.list c.in_ok-slab.slab
    (place_in (members c.args.classes.now c.args.list) c.loop-place._place c.in_ok-slab.slab (sym
    c.loop-place.invariant.here ∙ c.in_ok-slab.was))

pub loop-place-preserved : goal.loop-place-preserved
loop-place-preserved c = record {
  here = c.following-next.ensures.place c.args.list c.loop-place._place here;
  left = c.loop-place.invariant.left ∙ elim c.in_default.branch [
    | in_default-via-in-None-1 w ↦
        passed_none c.args.wanted c.args.records.now (members c.args.classes.now c.args.list) c.loop-place._place
        c.in_ok-slab.slab here (search rules)
    | in_default-via-in-Some+else-suits w ↦
        passed c.args.wanted c.args.records.now (members c.args.classes.now c.args.list) c.loop-place._place
        c.in_ok-slab.slab w.in-Some.kept here (search rules)
        (sym w.suits.ensures ∙ w.if-suits.false)
  ];
}
  where
    here : slice_get (members c.args.classes.now c.args.list) c.loop-place._place ≡ Some c.in_ok-slab.slab
    here = sym c.loop-place.invariant.here ∙ c.in_ok-slab.was

pub returns : goal.returns
returns c =
    let few = few_members c.args.classes.now c.args.list c.indices-place-end.ensures.apart in
    let all = c.indices-place-end.ensures.exact in
    sym (c.loop-place.invariant.left ∙ past_end c.args.wanted c.args.records.now (members c.args.classes.now
    c.args.list) c.loop-place._place (omega arith))
