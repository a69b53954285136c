use Rattle.plain_pool.proofs.CallLemmas.{block_is_room}
use Rattle.plain_pool.proofs.arrays.PoolArrays.cut_room.Goals as goal

pub returns-in-Some : goal.returns-in-Some
returns-in-Some c lists stands = block_is_room c.args.self.now lists c.in-Some.index c.cut.new.self stands (c.in-Some.ensures lists.blocks stands.arrays.bins)
