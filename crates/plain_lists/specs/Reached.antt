-- What holds of the lists after any calls that are served.
use Rattle.std.specs.Prelude.{List, All}
use Rattle.pool_types.specs.declared.values.Request.{Request}
use Rattle.plain_lists.specs.Lists.{no_lists}
use Rattle.plain_lists.specs.Whole.{IsServed, lists_after}
use Rattle.plain_lists.specs.Good.{AreGood, HasEachOnce}

-- After any calls that are served, one after another, each granule is in one place.
abbrev pub CallsPartEach : Type 0
CallsPartEach = (requests : List Request) → All IsServed requests → HasEachOnce (lists_after no_lists requests)

-- and the lists are good
abbrev pub ReachedAreGood : Type 0
ReachedAreGood = (requests : List Request) → All IsServed requests → AreGood (lists_after no_lists requests)
