-- Past the script's end the rule answers.
use Rattle.pool_types.proofs.Bases.{by_rule}
use Rattle.pool_types.proofs.scripted.answer_of.Goals as goal

pub returns-in-None : goal.returns-in-None
returns-in-None c = rw c.in-None.is (by_rule c.args.out.now c.args.bytes c.least_free.result c.if-out-ge-MOST_REGIONS.false c.least_free.ensures.some c.least_free.ensures.none)
