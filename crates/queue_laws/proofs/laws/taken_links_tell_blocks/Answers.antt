use Rattle.queue_laws.proofs.Keeps.{taken_links_tell_blocks}
use Rattle.queue_laws.proofs.laws.taken_links_tell_blocks.Goals as goal

pub returns : goal.returns
returns c = taken_links_tell_blocks
