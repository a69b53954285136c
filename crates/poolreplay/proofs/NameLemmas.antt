-- Whether a call is served does not depend on what names stand for.
use Rattle.trace_reader.specs.declared.acts.TraceCall.{TraceCall}
use Rattle.trace_reader.specs.declared.acts.TraceCall.TheVariants as call
use Rattle.plain_lists.specs.Whole.{IsServed}
use Rattle.trace_calls.specs.Names.{Names, no_names, request_of}

pub served_same : (names : Names) (call : TraceCall) → IsServed (request_of no_names call) → IsServed (request_of names call)
served_same names (call.Malloc name size) served = served
served_same names (call.Aligned name size alignment) served = absurd served
served_same names (call.Realloc name what size) served = absurd served
served_same names (call.AlignedRealloc name what size alignment) served = absurd served
served_same names (call.Free what) served = tt
served_same names (call.Msize what) served = tt
served_same names (call.Identify what) served = tt
served_same names call.Exit served = absurd served
