-- The laws of the lists.
use Rattle.std.proofs.Common.{List, [], ◌∷◌}
use Rattle.std.specs.Prelude.{All}
use Rattle.std.proofs.lemmas.List.Elements.{All-head, All-tail}
use Rattle.pool_types.specs.declared.values.Request.{Request}
use Rattle.plain_lists.specs.Lists.{Lists, no_lists}
use Rattle.plain_lists.specs.Whole.{whole, IsServed, lists_after}
use Rattle.plain_lists.specs.Good.{AreGood, CallsKeepGood}
use Rattle.plain_lists.specs.Reached.{CallsPartEach, ReachedAreGood}
use Rattle.plain_lists.proofs.Beside.{fresh_good}
use Rattle.plain_lists.proofs.Calls.{whole_good}

pub calls_keep_good : CallsKeepGood
calls_keep_good = record { fresh = fresh_good; kept = whole_good }

-- several calls leave good lists good
pub after_good : (lists : Lists) (requests : List Request) → AreGood lists → All IsServed requests → AreGood (lists_after lists requests)
after_good lists [] good served = good
after_good lists (request ∷ requests) good served =
    after_good (whole lists request).lists requests (whole_good lists request good (All-head IsServed request requests served)) (All-tail IsServed request requests served)

pub reached_are_good : ReachedAreGood
reached_are_good requests served = after_good no_lists requests fresh_good served

pub calls_part_each : CallsPartEach
calls_part_each requests served = (reached_are_good requests served).each_once
