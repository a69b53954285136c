-- What totals by parts have to do with those of a partition.
use Rattle.std.specs.Prelude.{ℕ, ◌≤◌, ◌+◌, ◌-◌, ◌^◌, Bool, List}
use Rattle.std.specs.declared.option.Option.{Option}
use Rattle.part_model.specs.declared.holders.Holder.{Holder}
use Rattle.part_model.specs.declared.holders.HolderKind.TheVariants.{Waste, Head, Rest, Private, Public, Object}
use Rattle.part_model.specs.declared.holders.HolderKind.TheVariants.{LargeHead, SlabCache, Cached, Bin, Queue, Hand}
use Rattle.part_model.specs.declared.moves.Part.{Part}
use Rattle.part_model.specs.declared.totals.Totals.{Totals}
use Rattle.part_model.specs.Totals.{is_at, has_holder}
use Rattle.part_model.specs.Laws.{bytes_from, bytes_to, Follows}
use Rattle.step_parts.specs.Tallies.{totals_after}

-- a count neither runs out nor runs over: there are all bytes that leave, and there is room for all that come
pub record HasRoom (n : ℕ) (test : Option Holder → Bool) (parts : List Part) : Type 0 where
  pub leave : bytes_from test parts ≤ n
  pub come : n + bytes_to test parts ≤ 2 ^ 64 - 1

-- no count does
pub record CanFollow (t : Totals) (parts : List Part) : Type 0 where
  pub bytes : HasRoom t.bytes has_holder parts
  pub waste : HasRoom t.waste (is_at Waste) parts
  pub head : HasRoom t.head (is_at Head) parts
  pub rest : HasRoom t.rest (is_at Rest) parts
  pub private : HasRoom t.private (is_at Private) parts
  pub public : HasRoom t.public (is_at Public) parts
  pub object : HasRoom t.object (is_at Object) parts
  pub large_head : HasRoom t.large_head (is_at LargeHead) parts
  pub slab_cache : HasRoom t.slab_cache (is_at SlabCache) parts
  pub cached : HasRoom t.cached (is_at Cached) parts
  pub bin : HasRoom t.bin (is_at Bin) parts
  pub queue : HasRoom t.queue (is_at Queue) parts
  pub hand : HasRoom t.hand (is_at Hand) parts

-- the totals by parts follow a move, as those of a partition do
abbrev pub TotalsFollowParts : Type 0
TotalsFollowParts = (t : Totals) (parts : List Part) → CanFollow t parts → Follows t (totals_after t parts) parts
