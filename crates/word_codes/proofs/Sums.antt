-- Numbers of 64 bits are kept as they are.
use Rattle.std.proofs.Common.{arith}
use Rattle.word_codes.specs.Laws.{CappedIs}

pub capped_is : CappedIs
capped_is n small = omega arith
