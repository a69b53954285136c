-- the pools below this one are made
use Rattle.std.proofs.Common.{◌≡◌, length}
use Rattle.line_runs.specs.Turning.{out_of, faults_of}
use Rattle.pool_types.specs.Script.{Gets, Puts}
use Rattle.thread_pools.specs.Pools.{HasColumns, IsFreshAt}
use Rattle.thread_runs.specs.Making.{HasRests, stand_plan}
use Rattle.thread_runs.specs.Traces.{threads_in}
use Rattle.thread_runs.proofs.MakeLemmas.{MadeTo}
use Rattle.thread_runs.proofs.making.made_pools.Given as goal

abbrev pub invariant-loop-number : goal.invariant-loop-number
invariant-loop-number l = record {
  made : MadeTo stand_plan l.trace l.tables.items l.number;
  rests_len : length l.rests.items ≡ l.number;
  columns_len : length l.columns.items ≡ l.number;
  rests : HasRests l.tables.items l.rests.items;
  heaps : HasColumns (IsFreshAt out_of faults_of Gets Puts) (threads_in l.trace) l.tables.items l.columns.items;
}
