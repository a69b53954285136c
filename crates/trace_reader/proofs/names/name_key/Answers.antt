use Rattle.std.proofs.Common.{arith}
use Rattle.trace_reader.proofs.KeyLemmas.{key_room}
use Rattle.trace_reader.proofs.names.name_key.Goals as goal

pub overflow_mul-key : goal.overflow_mul-key
overflow_mul-key c = omega (arith, c.loop-i.invariant, key_room c.args.word.now c.loop-i.i c.requires (omega arith))

pub overflow_add-key : goal.overflow_add-key
overflow_add-key c = omega (arith, c.loop-i.invariant, key_room c.args.word.now c.loop-i.i c.requires (omega arith))
