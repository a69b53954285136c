-- What is left from here decides.
use Rattle.std.proofs.Common.{◌≡◌, ◌+◌, []}
use Rattle.arrayvec.specs.ArrayVec.{array_vec_len}
use Rattle.word_totals.specs.Chains.{linked_ages}
use Rattle.word_totals.proofs.caching.ages_from.Given as goal

abbrev pub decreases-loop-left : goal.decreases-loop-left
decreases-loop-left g l = l.left

abbrev pub invariant-loop-left : goal.invariant-loop-left
invariant-loop-left g l =
    let still = g.P.AtRest.still in
    record {
      rest : linked_ages (still l.fn.pool) 64 l.fn.first [] ≡ linked_ages (still l.pool) l.left l.next l.ages.items;
      room : array_vec_len l.ages + l.left ≡ 64;
      same : still l.pool ≡ still l.fn.pool;
    }
