-- What a walk finds is the list.
use Rattle.std.proofs.Common.{◌<◌, ap, arith, refl, sym, subst, ◌∙◌}
use Rattle.std.proofs.lemmas.List.{take_all}
use Rattle.index_lists.specs.Lists.{times}
use Rattle.index_lists.proofs.Listed.{times-take_more, times-at}
use Rattle.index_lists.proofs.tests.stands_in.Goals as goal

pub loop-other-init : goal.loop-other-init
loop-other-init c = refl

pub returns-then-other-index-clause-yes : goal.returns-then-other-index-clause-yes
returns-then-other-index-clause-yes c _ =
    subst (λ xs. 0 < times c.args.index xs) (c.as_slice-found.ensures.value ∙ c.in_ok-found.ensures)
    (times-at c.as_slice-found.result.now c.loop-other.other-index c.args.index (omega arith) c.if-other-index.true)

pub loop-other-preserved : goal.loop-other-preserved
loop-other-preserved c =
    times-take_more c.as_slice-found.result.now c.loop-other.other-index c.args.index (omega arith) (λ same. absurd (omega arith)) c.loop-other.invariant

pub returns-clause-no : goal.returns-clause-no
returns-clause-no c _ =
    ap (times c.args.index) (sym (take_all c.loop-other.other-index c.as_slice-found.result.now (omega arith) ∙ c.as_slice-found.ensures.value ∙ c.in_ok-found.ensures))
    ∙ c.loop-other.invariant
