use Rattle.std.proofs.Common.{subst, arith}
use Rattle.std.specs.Prelude.{slice_set}
use Rattle.thread_lines.specs.Heaps.{heaps_in}
use Rattle.thread_lines.specs.Telling.{Serves}
use Rattle.thread_lines.proofs.SlotLemmas.{fits_slot, fits_set, serves_set}
use Rattle.thread_lines.proofs.asking.ask.Goals as goal

pub ask_slot-requires : goal.ask_slot-requires
ask_slot-requires g c = let low_pool = c.if-pools-index.false in let low_heap = c.if-heaps-index.false in
    record {
      pool = fits_slot g.R.Raw.out g.R.Raw.faults g.R.Raw.got g.R.Raw.passed c.args.thread c.args.pools.now c.args.heaps.now
          c.from-index.result c.index-pools-index.result c.index-heaps-index.result c.requires.heaps
          (omega arith) (omega arith) c.index-pools-index.is;
    }

pub returns-clause-heaps : goal.returns-clause-heaps
returns-clause-heaps g c = let low_pool = c.if-pools-index.false in let low_heap = c.if-heaps-index.false in
    fits_set g.R.Raw.out g.R.Raw.faults g.R.Raw.got g.R.Raw.passed c.args.thread c.args.pools.now c.args.heaps.now
    c.from-index.result c.index-pools-index.result c.ask_slot.new.heap c.requires.heaps (omega arith) (omega arith)
    c.index-pools-index.is c.ask_slot.ensures.pool

pub returns-clause-serves : goal.returns-clause-serves
returns-clause-serves g c = let low_heap = c.if-heaps-index.false in
    subst (λ pool. Serves (heaps_in c.args.heaps.now) pool c.args.request c.ask_slot.result
    (heaps_in (slice_set c.args.heaps.now c.from-index.result c.ask_slot.new.heap))) c.from-index.ensures
    (serves_set c.args.heaps.now c.from-index.result c.ask_slot.new.heap (omega arith) c.args.request
    c.index-heaps-index.result c.ask_slot.result c.ask_slot.ensures.said)
