-- What a seat's heap keeps and the number of its last grant, and what the seat's next step leaves of each.
use Rattle.std.specs.Prelude.{◌≡◌, ◌+◌, ℕ, cond, eqb, None}
use Rattle.pool_types.specs.Sums.{capped}
use Rattle.heap_slabs.specs.Records.{begun, of_header}
use Rattle.heap_slabs.specs.Rolls.{Rolled, after_push, without_newest, without_oldest}
use Rattle.heap_slabs.specs.Slabs.{Kept, after_add, after_free_of, after_join_of, after_remove, after_take_of}
use Rattle.mailbox.specs.declared.boxes.BoxAt.{BoxAt}
use Rattle.orphans.specs.declared.adopting.AdoptNext.{AdoptNext}
use Rattle.orphans.specs.declared.leaving.LeaveNext.{LeaveNext}
use Rattle.orphans.specs.Adopting.{adopt_learn}
use Rattle.orphans.specs.Leaving.{leave_learn}
use Rattle.public_list.specs.declared.ending.EndNext.{EndNext}
use Rattle.public_list.specs.declared.joining.JoinNext.{JoinNext}
use Rattle.public_list.specs.Ending.{end_learn}
use Rattle.public_list.specs.Joining.{join_learn}
use Rattle.reset_steps.specs.declared.strip.StripAt.{StripAt}
use Rattle.reset_steps.specs.Strip.{object_unit}
use Rattle.step_local.specs.declared.frames.At.{At}
use Rattle.step_local.specs.declared.frames.LargeAt.{LargeAt}
use Rattle.step_local.specs.declared.frames.Local.{Local}
use Rattle.step_local.specs.declared.frames.ResetAt.{ResetAt}
use Rattle.step_local.specs.declared.frames.SmallAt.{SmallAt}
use Rattle.step_local.specs.Answers.{end_call, ended_object, slab_of}
use Rattle.step_local.specs.Resetting.{strip_call}
use Rattle.step_local.specs.Slabs.{class_of_served}

-- the slabs that the heap keeps, the empty ones in its cache, and the number of the seat's last grant
abbrev pub kept_of : Local → Kept
kept_of l = l.heap.slabs

abbrev pub cached_of : Local → Rolled ℕ
cached_of l = l.heap.cached

abbrev pub last_of : Local → ℕ
last_of l = l.last

-- where a grant is ended in a slab that the heap keeps, the object comes back to it
abbrev pub kept_ended : Local → EndNext → Kept
kept_ended l (EndNext.Goes at) = kept_of l
kept_ended l EndNext.Own = after_free_of (kept_of l) (slab_of (ended_object l).unit) (ended_object l).unit
kept_ended l EndNext.Other = kept_of l
kept_ended l EndNext.Large = kept_of l
kept_ended l (EndNext.NotHeld found) = kept_of l

-- what was given back to a slab is joined
abbrev pub kept_joined : Local → ℕ → JoinNext → Kept
kept_joined l slab (JoinNext.Goes at) = kept_of l
kept_joined l slab JoinNext.Nothing = kept_of l
kept_joined l slab (JoinNext.Joined first count) = after_join_of (kept_of l) slab first count

abbrev pub kept_boxed : Local → BoxAt → ℕ → Kept
kept_boxed l (BoxAt.Join slab rest at) found = kept_joined l slab (join_learn at found)
kept_boxed l _ found = kept_of l

-- an orphan is adopted by its header, and a slab is left
abbrev pub kept_adopted : Local → AdoptNext → Kept
kept_adopted l (AdoptNext.Goes at) = kept_of l
kept_adopted l AdoptNext.Empty = kept_of l
kept_adopted l (AdoptNext.Adopted slab header rest) =
    after_add (kept_of l) (of_header slab l.fetch.class header)
kept_adopted l (AdoptNext.Spared slab rest) = kept_of l

abbrev pub kept_parted : Local → ℕ → LeaveNext → Kept
kept_parted l slab (LeaveNext.Goes at) = kept_of l
kept_parted l slab LeaveNext.Filled = kept_of l
kept_parted l slab LeaveNext.Left = after_remove (kept_of l) slab

-- a slab begins with the write of its kind, gives an object with the write of the mark, and ends with its kind
abbrev pub kept_small : Local → SmallAt → Kept
kept_small l (SmallAt.Kind slab) = after_add (kept_of l) (begun slab (class_of_served l.call.served))
kept_small l (SmallAt.Private slab head below) = after_take_of (kept_of l) slab below
kept_small l (SmallAt.Rest slab unit) = after_take_of (kept_of l) slab None
kept_small l (SmallAt.Empty slab) = after_remove (kept_of l) slab
kept_small l _ = kept_of l

-- a reset ends a grant at an object of a slab
abbrev pub kept_stripped : Local → ℕ → StripAt → ℕ → Kept
kept_stripped l slab (StripAt.Mark object) found = kept_of l
kept_stripped l slab (StripAt.End object mark) found =
    cond (eqb found mark) (after_free_of (kept_of l) slab (object_unit (strip_call l slab) object)) (kept_of l)

abbrev pub kept_reset : Local → ResetAt → ℕ → Kept
kept_reset l (ResetAt.Strip slab at) found = kept_stripped l slab at found
kept_reset l _ found = kept_of l

-- the slabs that the next step leaves, if it finds this
abbrev pub kept_left_at : Local → At → ℕ → Kept
kept_left_at l (At.End at) found = kept_ended l (end_learn (end_call l) at found)
kept_left_at l (At.Mailbox at) found = kept_boxed l at found
kept_left_at l (At.Adopt at) found = kept_adopted l (adopt_learn at found)
kept_left_at l (At.Join slab rest at) found = kept_joined l slab (join_learn at found)
kept_left_at l (At.Leave slab at) found = kept_parted l slab (leave_learn at found)
kept_left_at l (At.Small at) found = kept_small l at
kept_left_at l (At.Reset at) found = kept_reset l at found
kept_left_at l _ found = kept_of l

abbrev pub kept_left : Local → ℕ → Kept
kept_left l found = kept_left_at l l.at found

-- the cache of empty slabs that the next step leaves, whatever it finds
abbrev pub cached_small : Local → SmallAt → Rolled ℕ
cached_small l (SmallAt.Uncache slab) = without_newest (cached_of l)
cached_small l (SmallAt.Cache slab) = after_push (cached_of l) slab
cached_small l (SmallAt.Oldest slab) = without_oldest (cached_of l)
cached_small l (SmallAt.Newest slab) = without_newest (cached_of l)
cached_small l _ = cached_of l

abbrev pub cached_left_at : Local → At → Rolled ℕ
cached_left_at l (At.Small at) = cached_small l at
cached_left_at l _ = cached_of l

abbrev pub cached_left : Local → Rolled ℕ
cached_left l = cached_left_at l l.at

-- the number of the last grant that the next step leaves, whatever it finds: each grant is one more
abbrev pub last_small : Local → SmallAt → ℕ
last_small l (SmallAt.Private slab head below) = capped (last_of l + 1)
last_small l (SmallAt.Rest slab unit) = capped (last_of l + 1)
last_small l _ = last_of l

abbrev pub last_large : Local → LargeAt → ℕ
last_large l (LargeAt.Grant unit) = capped (last_of l + 1)
last_large l _ = last_of l

abbrev pub last_left_at : Local → At → ℕ
last_left_at l (At.Small at) = last_small l at
last_left_at l (At.Large at) = last_large l at
last_left_at l _ = last_of l

abbrev pub last_left : Local → ℕ
last_left l = last_left_at l l.at

-- the heap keeps these slabs and caches these, and the last grant had this number
abbrev pub HeapIs : Local → Kept → Rolled ℕ → ℕ → Type 0
HeapIs l kept cached last = (kept_of l ≡ kept) × (cached_of l ≡ cached) × (last_of l ≡ last)
