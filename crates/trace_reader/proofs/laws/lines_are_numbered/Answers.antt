use Rattle.trace_reader.proofs.ServedLaws.{lines_are_numbered}
use Rattle.trace_reader.proofs.laws.lines_are_numbered.Goals as goal

pub returns : goal.returns
returns c = lines_are_numbered
