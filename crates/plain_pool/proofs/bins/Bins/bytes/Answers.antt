use Rattle.std.proofs.Common.{◌*◌, ap, ◌∙◌}
use Rattle.std.specs.Prelude.{sum_by}
use Rattle.plain_lists.specs.Lists.{Block}
use Rattle.plain_pool.proofs.SumLemmas.{granules_sum}
use Rattle.plain_pool.proofs.bins.Bins.bytes.Goals as goal
use Rattle.list_laws.proofs.Sums.{sum_by-times}

pub returns : goal.returns
returns c blocks fit apart = ap (λ n. 8192 * n) (c.sum_of.ensures.exact ∙ ap (sum_by (λ n. n)) c.as_slice.ensures.value ∙ granules_sum c.args.self.now.lists c.args.self.now.begins.items c.args.self.now.ends.items blocks fit apart)
    ∙ sum_by-times 8192 (λ (block : Block). block.granules) blocks
