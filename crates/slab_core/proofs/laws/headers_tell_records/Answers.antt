use Rattle.slab_core.proofs.HeaderLemmas.{headers_tell_records}
use Rattle.slab_core.proofs.laws.headers_tell_records.Goals as goal

pub returns : goal.returns
returns c = headers_tell_records
