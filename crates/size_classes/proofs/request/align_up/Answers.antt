use Rattle.std.proofs.Common.{sym}
use Rattle.size_classes.proofs.Serving.{align_up-is}
use Rattle.size_classes.proofs.request.align_up.Goals as goal

pub returns : goal.returns
returns c =
    sym (align_up-is c.args.size c.args.alignment c.next_multiple_of.result c.requires.positive c.next_multiple_of.ensures.lower_bound c.next_multiple_of.ensures.upper_bound c.next_multiple_of.ensures.multiple)
