use Rattle.thread_runs.proofs.RangeLemmas.{lines_are_within}
use Rattle.thread_runs.proofs.runs.run_by_threads.Goals as goal

pub report_of-requires-clause-within : goal.report_of-requires-clause-within
report_of-requires-clause-within g c = lines_are_within c.args.trace.now c.requires.read
