-- Each turn takes one place more.
use Rattle.std.proofs.Common.{◌≡◌, ◌+◌, ◌<◌, ◌++◌, ◌∷◌, [], take, ap, arith, length, slice_get, Some, None, sym, ◌∙◌, rules}
use Rattle.std.proofs.lemmas.List.{length_push}
use Rattle.std.proofs.lemmas.Option.{slice_get_within}
use Rattle.index_lists.specs.Lists.{members}
use Rattle.index_lists.proofs.Listed.{in_some, place_in, take_place, take_none}
use Rattle.index_lists.proofs.tests.walk.Goals as goal

pub following-next-requires : goal.following-next-requires
following-next-requires c =
    in_some c.args.lists.now c.args.list c.in-Some.index
    (place_in (members c.args.lists.now c.args.list) (length c.loop-next.found.items) c.in-Some.index (sym c.loop-next.invariant.here ∙ c.in-Some.is))

pub loop-next-smaller : goal.loop-next-smaller
loop-next-smaller c =
    let within : length c.loop-next.found.items < length (members c.args.lists.now c.args.list) =
    slice_get_within (members c.args.lists.now c.args.list) (length c.loop-next.found.items) c.in-Some.index (sym c.loop-next.invariant.here ∙ c.in-Some.is) in
    let more : length c.push.new.self.items ≡ length c.loop-next.found.items + 1 =
    ap length c.in_ok-push.ensures.items ∙ length_push c.loop-next.found.items c.in-Some.index in
    omega arith

pub loop-next-preserved : goal.loop-next-preserved
loop-next-preserved c =
    let here : slice_get (members c.args.lists.now c.args.list) (length c.loop-next.found.items) ≡ Some c.in-Some.index =
    sym c.loop-next.invariant.here ∙ c.in-Some.is in
    let more : length c.push.new.self.items ≡ length c.loop-next.found.items + 1 =
    ap length c.in_ok-push.ensures.items ∙ length_push c.loop-next.found.items c.in-Some.index in
    record {
      here = c.following-next.ensures.place c.args.list (length c.loop-next.found.items) here
          ∙ ap (slice_get (members c.args.lists.now c.args.list)) (sym more);
      so_far = c.in_ok-push.ensures.items
          ∙ ap (λ xs. xs ++ (c.in-Some.index ∷ [])) c.loop-next.invariant.so_far
          ∙ take_place (members c.args.lists.now c.args.list) (length c.loop-next.found.items) c.in-Some.index here
          ∙ ap (λ n. take n (members c.args.lists.now c.args.list)) (sym more);
    }

pub returns : goal.returns
returns c =
    let none : c.loop-next.next ≡ None = search rules in
    c.loop-next.invariant.so_far ∙ take_none (members c.args.lists.now c.args.list) (length c.loop-next.found.items) (sym c.loop-next.invariant.here ∙ none)
