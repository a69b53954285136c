-- What a seat is about to do with slabs that nobody keeps, by its position, and what its next step leaves of that.
use Rattle.std.specs.Prelude.{ℕ, Bool, false, cond, Option, Some, None}
use Rattle.chain_words.specs.declared.pushing.PushAt.{PushAt}
use Rattle.heap_slabs.specs.Rolls.{Rolled, after_push, newest_of, without_newest}
use Rattle.backend_bins.specs.declared.bin.BinNext.{BinNext}
use Rattle.backend_bins.specs.Bin.{bin_learn}
use Rattle.public_list.specs.declared.joining.JoinAt.{JoinAt}
use Rattle.public_list.specs.declared.joining.JoinNext.{JoinNext}
use Rattle.public_list.specs.Joining.{join_learn}
use Rattle.orphans.specs.declared.adopting.AdoptAt.{AdoptAt}
use Rattle.orphans.specs.declared.adopting.AdoptNext.{AdoptNext}
use Rattle.orphans.specs.declared.leaving.LeaveAt.{LeaveAt}
use Rattle.orphans.specs.declared.leaving.LeaveNext.{LeaveNext}
use Rattle.orphans.specs.Adopting.{adopt_learn}
use Rattle.orphans.specs.Leaving.{leave_learn}
use Rattle.orphan_laws.specs.Orphans.{Task}
use Rattle.orphan_laws.specs.Orphans.Task.{Away, Leaving, Adopting, Joining, Resting, Returning, Owning}
use Rattle.step_local.specs.declared.frames.At.{At}
use Rattle.step_local.specs.declared.frames.Local.{Local}
use Rattle.step_local.specs.declared.frames.ResetAt.{ResetAt}
use Rattle.step_local.specs.declared.frames.ResetStage.{ResetStage}
use Rattle.step_local.specs.declared.frames.SmallAt.{SmallAt}
use Rattle.step_local.specs.declared.frames.Stage.{Stage}
use Rattle.step_local.specs.Resetting.{binning_call}
use Rattle.step_local.specs.Slabs.{adopts_enough, with_joined}

-- a reset strips and ends an adopted slab, and puts its block, before the orphan behind it comes next
abbrev pub stage_task : ℕ → Stage → Task
stage_task class (Stage.Resetting (ResetStage.Orphans rest)) = Resting class rest
stage_task class _ = Away

abbrev pub join_task : ℕ → ℕ → Option ℕ → JoinAt → Task
join_task class slab rest JoinAt.Take = Joining class slab rest
join_task class slab rest (JoinAt.Walk first at count) = Resting class rest
join_task class slab rest (JoinAt.Tie first last count) = Resting class rest

-- the own word of a slab that begins was stored, and its kind is not yet
abbrev pub small_task : Local → SmallAt → Task
small_task l (SmallAt.Kind slab) = Owning slab
small_task l (SmallAt.Empty slab) = stage_task l.fetch.class l.call.stage
small_task l _ = Away

abbrev pub reset_task : Local → ResetAt → Task
reset_task l (ResetAt.Strip slab at) = stage_task l.fetch.class l.call.stage
reset_task l (ResetAt.Bin at) = stage_task l.fetch.class l.call.stage
reset_task l _ = Away

abbrev pub orphan_task_at : Local → At → Task
orphan_task_at l (At.Adopt at) = Adopting l.fetch.class at
orphan_task_at l (At.Join slab rest at) = join_task l.fetch.class slab rest at
orphan_task_at l (At.Spare at) = Returning l.fetch.class l.fetch.spare at
orphan_task_at l (At.Leave slab at) = Leaving slab at
orphan_task_at l (At.Small at) = small_task l at
orphan_task_at l (At.Reset at) = reset_task l at
orphan_task_at l _ = Away

-- what the seat is about to do with orphans, and those that it is to push back
abbrev pub orphan_task_of : Local → Task
orphan_task_of l = orphan_task_at l l.at

abbrev pub spares_of : Local → Rolled ℕ
spares_of l = l.heap.spares

abbrev pub left_task : ℕ → LeaveNext → Task
left_task slab (LeaveNext.Goes at) = Leaving slab at
left_task slab LeaveNext.Filled = Away
left_task slab LeaveNext.Left = Away

-- those that were put aside are pushed back once none is in hand, the last one first
abbrev pub sparing_task : ℕ → Option ℕ → Task
sparing_task class (Some slab) = Returning class slab (LeaveAt.Push PushAt.Look)
sparing_task class None = Away

abbrev pub sparing_spares : Rolled ℕ → Option ℕ → Rolled ℕ
sparing_spares spares (Some slab) = without_newest spares
sparing_spares spares None = spares

abbrev pub back_task : ℕ → Rolled ℕ → Task
back_task class spares = sparing_task class (newest_of spares)

abbrev pub back_spares : Rolled ℕ → Rolled ℕ
back_spares spares = sparing_spares spares (newest_of spares)

abbrev pub spared_task : ℕ → Rolled ℕ → Option ℕ → Task
spared_task class spares (Some slab) = Adopting class (AdoptAt.Spare slab)
spared_task class spares None = back_task class spares

abbrev pub spared_spares : Rolled ℕ → Option ℕ → Rolled ℕ
spared_spares spares (Some slab) = spares
spared_spares spares None = back_spares spares

abbrev pub adopted_task : ℕ → Rolled ℕ → AdoptNext → Task
adopted_task class spares (AdoptNext.Goes at) = Adopting class at
adopted_task class spares AdoptNext.Empty = Away
adopted_task class spares (AdoptNext.Adopted slab header rest) = Joining class slab rest
adopted_task class spares (AdoptNext.Spared slab rest) = spared_task class (after_push spares slab) rest

abbrev pub adopted_spares : Rolled ℕ → AdoptNext → Rolled ℕ
adopted_spares spares (AdoptNext.Goes at) = spares
adopted_spares spares AdoptNext.Empty = spares
adopted_spares spares (AdoptNext.Adopted slab header rest) = spares
adopted_spares spares (AdoptNext.Spared slab rest) = spared_spares (after_push spares slab) rest

abbrev pub returned_task : ℕ → ℕ → Rolled ℕ → LeaveNext → Task
returned_task class slab spares (LeaveNext.Goes at) = Returning class slab at
returned_task class slab spares LeaveNext.Filled = back_task class spares
returned_task class slab spares LeaveNext.Left = back_task class spares

abbrev pub returned_spares : Rolled ℕ → LeaveNext → Rolled ℕ
returned_spares spares (LeaveNext.Goes at) = spares
returned_spares spares LeaveNext.Filled = back_spares spares
returned_spares spares LeaveNext.Left = back_spares spares

-- the next of the orphans in hand is adopted, or put aside once there are enough
abbrev pub rested_task : ℕ → Bool → Option ℕ → Task
rested_task class enough (Some slab) = Adopting class (cond enough (AdoptAt.Spare slab) (AdoptAt.Header slab))
rested_task class enough None = Away

-- a reset adopts all of them, and strips each before the next one
abbrev pub slab_left : Local → ℕ → Option ℕ → Stage → Task
slab_left l slab rest (Stage.Resetting stage) = Resting l.fetch.class rest
slab_left l slab rest _ = rested_task l.fetch.class (adopts_enough l slab) rest

abbrev pub joined_left : Local → ℕ → Option ℕ → JoinNext → Task
joined_left l slab rest (JoinNext.Goes at) = Resting l.fetch.class rest
joined_left l slab rest JoinNext.Nothing = slab_left l slab rest l.call.stage
joined_left l slab rest (JoinNext.Joined first count) =
    slab_left (with_joined l slab first count) slab rest l.call.stage

abbrev pub small_left : Local → SmallAt → Task
small_left l (SmallAt.Own slab) = Owning slab
small_left l (SmallAt.Empty slab) = stage_task l.fetch.class l.call.stage
small_left l _ = Away

-- the block of a stripped slab is in its bin
abbrev pub stage_left : ℕ → Stage → Task
stage_left class (Stage.Resetting (ResetStage.Orphans rest)) = rested_task class false rest
stage_left class _ = Away

abbrev pub bin_left : Local → BinNext → Task
bin_left l (BinNext.Goes at) = stage_task l.fetch.class l.call.stage
bin_left l BinNext.Waits = stage_task l.fetch.class l.call.stage
bin_left l BinNext.Done = stage_left l.fetch.class l.call.stage

abbrev pub reset_left : Local → ResetAt → ℕ → Task
reset_left l (ResetAt.Strip slab at) found = stage_task l.fetch.class l.call.stage
reset_left l (ResetAt.Bin at) found = bin_left l (bin_learn (binning_call l) at found)
reset_left l _ found = Away

-- what the next step leaves to do, if it finds this, and which orphans are to be pushed back then
abbrev pub orphan_left_at : Local → At → ℕ → Task
orphan_left_at l (At.Adopt at) found = adopted_task l.fetch.class (spares_of l) (adopt_learn at found)
orphan_left_at l (At.Join slab rest at) found = joined_left l slab rest (join_learn at found)
orphan_left_at l (At.Spare at) found =
    returned_task l.fetch.class l.fetch.spare (spares_of l) (leave_learn at found)
orphan_left_at l (At.Leave slab at) found = left_task slab (leave_learn at found)
orphan_left_at l (At.Small at) found = small_left l at
orphan_left_at l (At.Reset at) found = reset_left l at found
orphan_left_at l _ found = Away

abbrev pub orphan_left : Local → ℕ → Task
orphan_left l found = orphan_left_at l l.at found

abbrev pub spares_left_at : Local → At → ℕ → Rolled ℕ
spares_left_at l (At.Adopt at) found = adopted_spares (spares_of l) (adopt_learn at found)
spares_left_at l (At.Spare at) found = returned_spares (spares_of l) (leave_learn at found)
spares_left_at l _ found = spares_of l

abbrev pub spares_left : Local → ℕ → Rolled ℕ
spares_left l found = spares_left_at l l.at found
