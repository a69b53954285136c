use Rattle.word_codes.proofs.ReadBack.{queue_links_read_back}
use Rattle.word_codes.proofs.laws.queue_links_read_back.Goals as goal

pub returns : goal.returns
returns c = queue_links_read_back
