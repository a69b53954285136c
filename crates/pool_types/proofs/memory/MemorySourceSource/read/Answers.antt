-- The bytes that were read stood at the front of what was left.
use Rattle.std.proofs.Common.{◌≡◌, length, drop, arith, min}
use Rattle.std.proofs.lemmas.Grind.{common_steps}
use Rattle.pool_types.proofs.Reading.{copies_front, none_is_end}
use Rattle.pool_types.proofs.memory.MemorySourceSource.read.Goals as goal

pub returns-clause-bytes : goal.returns-clause-bytes
returns-clause-bytes c =
    let count : c.min-count.result ≡ min (min (length (drop c.self.inside.at c.self.inside.bytes.items)) (length c.args.buf.now)) c.self.inside.most = grind (arith, common_steps) in
    rw (← c.self.view_is) (
      copies_front c.self.inside.bytes.items c.args.buf.now c.copy_from_slice.new.self c.self.inside.at c.min-count.result (omega arith) (grind (arith, common_steps)),
      (λ none room. none_is_end c.self.inside.bytes.items c.args.buf.now c.self.inside.at c.min-count.result c.self.inside.most count c.self.invariant.1 none (grind (arith, common_steps))),
    )
