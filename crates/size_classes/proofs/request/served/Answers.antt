use Rattle.std.proofs.Common.{◌%◌, ◌≡◌, ◌≤◌, refl, true, false, ap₂, subst, sym, ◌∙◌, arith}
use Rattle.size_classes.specs.Classes.{class_size}
use Rattle.size_classes.specs.Served.{small_or, large_at, IfSmall}
use Rattle.size_classes.proofs.Powers.{power-positive}
use Rattle.size_classes.proofs.Serving.{small_or-if, served-bad, served-well_formed, aligned_class-fits, aligned_class-multiple}
use Rattle.size_classes.proofs.request.served.Goals as goal

pub returns-then-not-is_well_formed-clause-exact :
    goal.returns-then-not-is_well_formed-clause-exact
returns-then-not-is_well_formed-clause-exact c =
    sym (served-bad c.args.size c.args.alignment (λ some power. let never : false ≡ true = c.if-not-is_well_formed.ensures.1 (some, power) in cc))

pub returns-clause-exact : goal.returns-clause-exact
returns-clause-exact c =
    let asked = c.if-not-is_well_formed.ensures.0 refl in
    c.small_or_large.ensures
    ∙ ap₂ (λ class alignment. small_or class (large_at c.args.size alignment)) c.aligned_class.ensures (omega (arith, c.max.ensures))
    ∙ sym (served-well_formed c.args.size c.args.alignment asked.0 asked.1)

pub returns-clause-fits : goal.returns-clause-fits
returns-clause-fits c =
    let asked = c.if-not-is_well_formed.ensures.0 refl in
    subst (λ served. IfSmall served (λ class. c.args.size ≤ class_size class)) (sym c.small_or_large.ensures)
    (small_or-if c.aligned_class.result c.args.size c.max.result (λ class. c.args.size ≤ class_size class)
    (λ class found. aligned_class-fits c.args.size c.args.alignment class (power-positive c.args.alignment asked.1) (sym c.aligned_class.ensures ∙ found)))

pub returns-clause-multiple : goal.returns-clause-multiple
returns-clause-multiple c =
    let asked = c.if-not-is_well_formed.ensures.0 refl in
    subst (λ served. IfSmall served (λ class. class_size class % c.args.alignment ≡ 0)) (sym c.small_or_large.ensures)
    (small_or-if c.aligned_class.result c.args.size c.max.result (λ class. class_size class % c.args.alignment ≡ 0)
    (λ class found. aligned_class-multiple c.args.size c.args.alignment class asked.0 asked.1 (sym c.aligned_class.ensures ∙ found)))
