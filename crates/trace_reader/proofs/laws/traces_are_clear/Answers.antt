use Rattle.trace_reader.proofs.OneText.{traces_are_clear}
use Rattle.trace_reader.proofs.laws.traces_are_clear.Goals as goal

pub returns : goal.returns
returns c = traces_are_clear
