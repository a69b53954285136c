use Rattle.part_model.proofs.totals.totals_of.Goals as goal

pub returns : goal.returns
returns c = cc
