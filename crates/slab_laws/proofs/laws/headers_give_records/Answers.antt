use Rattle.slab_laws.proofs.Taking.{header_gives}
use Rattle.slab_laws.proofs.laws.headers_give_records.Goals as goal

pub returns : goal.returns
returns c = header_gives
