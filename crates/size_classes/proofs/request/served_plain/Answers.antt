use Rattle.std.proofs.Common.{◌-◌, ◌*◌, ◌<◌, ◌≤◌, ap, subst, sym, ◌∙◌}
use Rattle.size_classes.specs.Classes.{class_size}
use Rattle.size_classes.specs.Served.{small_or, large_at, served_plain, IfSmall}
use Rattle.size_classes.proofs.Positions.{class_of-found}
use Rattle.size_classes.proofs.Fitting.{class_size-tight}
use Rattle.size_classes.proofs.Serving.{small_or-if}
use Rattle.size_classes.proofs.request.served_plain.Goals as goal

pub returns-clause-exact : goal.returns-clause-exact
unfolding served_plain
returns-clause-exact c = c.small_or_large.ensures ∙ ap (λ class. small_or class (large_at c.args.size 64)) c.class_of.ensures

pub returns-clause-fits : goal.returns-clause-fits
returns-clause-fits c =
    subst (λ served. IfSmall served (λ class. c.args.size ≤ class_size class)) (sym c.small_or_large.ensures)
    (small_or-if c.class_of.result c.args.size 64 (λ class. c.args.size ≤ class_size class)
    (λ class found. (class_of-found c.args.size class (sym c.class_of.ensures ∙ found)).fits))

pub returns-clause-tight : goal.returns-clause-tight
returns-clause-tight c above small =
    subst (λ served. IfSmall served (λ class. 4 * (class_size class - c.args.size) < c.args.size)) (sym c.small_or_large.ensures)
    (small_or-if c.class_of.result c.args.size 64 (λ class. 4 * (class_size class - c.args.size) < c.args.size)
    (λ class found. class_size-tight c.args.size class above small (class_of-found c.args.size class (sym c.class_of.ensures ∙ found))))
