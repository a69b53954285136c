use Rattle.queue_laws.proofs.Keeps.{queued_blocks_are_once}
use Rattle.queue_laws.proofs.laws.queued_blocks_are_once.Goals as goal

pub returns : goal.returns
returns c = queued_blocks_are_once
