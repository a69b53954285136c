use Rattle.std.proofs.Common.{◌≡◌, arith}
use Rattle.std.proofs.lemmas.Grind.{common_steps}
use Rattle.size_classes.specs.Classes.{class_size}
use Rattle.size_classes.proofs.Sizes.{class_size-least, class_size-most}
use Rattle.size_classes.proofs.Class.size.Goals as goal

pub returns-clause-exact : goal.returns-clause-exact
unfolding class_size
returns-clause-exact c = grind (arith, common_steps)

pub returns-clause-least : goal.returns-clause-least
returns-clause-least c =
    let exact : c.from-2.result ≡ class_size c.args.self = returns-clause-exact c in
    omega (arith, class_size-least c.args.self (let exists = c.self.invariant in omega (arith, c.self.view_is)))

pub returns-clause-most : goal.returns-clause-most
returns-clause-most c =
    let exact : c.from-2.result ≡ class_size c.args.self = returns-clause-exact c in
    omega (arith, class_size-most c.args.self)
