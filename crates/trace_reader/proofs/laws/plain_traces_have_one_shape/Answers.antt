use Rattle.trace_reader.proofs.PlainShape.{plain_traces_have_one_shape}
use Rattle.trace_reader.proofs.laws.plain_traces_have_one_shape.Goals as goal

pub returns : goal.returns
returns c = plain_traces_have_one_shape
