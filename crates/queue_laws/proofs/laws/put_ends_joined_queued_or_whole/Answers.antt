use Rattle.queue_laws.proofs.Puts.{put_ends_joined_queued_or_whole}
use Rattle.queue_laws.proofs.laws.put_ends_joined_queued_or_whole.Goals as goal

pub returns : goal.returns
returns c = put_ends_joined_queued_or_whole
