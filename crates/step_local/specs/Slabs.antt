-- Small objects: where one is looked for, what comes by mail and of orphans, and slabs that begin and end.
use Rattle.std.specs.Prelude.{ℕ, ◌-◌, ◌%◌, ◌^◌, Bool, true, false, cond, eqb, ◌||◌, Option, Some, None}
use Rattle.pool_types.specs.Geometry.{slab_granules}
use Rattle.pool_types.specs.declared.values.Answer.{Answer}
use Rattle.pool_types.specs.declared.values.Awaited.{Awaited}
use Rattle.pool_types.specs.declared.values.Turn.{Turn}
use Rattle.heap_slabs.specs.declared.records.HeapSlab.{HeapSlab}
use Rattle.heap_slabs.specs.declared.slabs.Wanted.{Wanted}
use Rattle.heap_slabs.specs.Cached.{surplus_of}
use Rattle.heap_slabs.specs.Records.{begun, has_object, of_header}
use Rattle.heap_slabs.specs.Rolls.{after_push, newest_of, oldest_of, without_newest, without_oldest}
use Rattle.heap_slabs.specs.Slabs.{record_at, first_of_class, after_add, after_remove, after_take_of, after_join_of}
use Rattle.public_list.specs.declared.joining.JoinAt.{JoinAt}
use Rattle.public_list.specs.declared.joining.JoinCall.{JoinCall}
use Rattle.public_list.specs.declared.joining.JoinNext.{JoinNext}
use Rattle.public_list.specs.Joining.{join_learn}
use Rattle.mailbox.specs.declared.boxes.BoxAt.{BoxAt}
use Rattle.mailbox.specs.declared.boxes.BoxCall.{BoxCall}
use Rattle.mailbox.specs.declared.boxes.BoxNext.{BoxNext}
use Rattle.mailbox.specs.Boxes.{box_learn}
use Rattle.orphans.specs.declared.adopting.AdoptAt.{AdoptAt}
use Rattle.orphans.specs.declared.adopting.AdoptCall.{AdoptCall}
use Rattle.orphans.specs.declared.adopting.AdoptNext.{AdoptNext}
use Rattle.orphans.specs.Adopting.{adopt_learn}
use Rattle.orphans.specs.declared.leaving.LeaveAt.{LeaveAt}
use Rattle.orphans.specs.declared.leaving.LeaveCall.{LeaveCall}
use Rattle.orphans.specs.declared.leaving.LeaveNext.{LeaveNext}
use Rattle.orphans.specs.Leaving.{leave_learn}
use Rattle.chain_words.specs.declared.pushing.PushAt.{PushAt}
use Rattle.word_codes.specs.declared.marks.Mark.{Mark}
use Rattle.word_codes.specs.Marks.{mark_of}
use Rattle.step_local.specs.declared.frames.At.{At}
use Rattle.step_local.specs.declared.frames.Local.{Local}
use Rattle.step_local.specs.declared.frames.LocateAt.{LocateAt}
use Rattle.step_local.specs.declared.frames.PutFor.{PutFor}
use Rattle.step_local.specs.declared.frames.Served.{Served}
use Rattle.step_local.specs.declared.frames.SmallAt.{SmallAt}
use Rattle.step_local.specs.declared.frames.Stage.{Stage}
use Rattle.step_local.specs.declared.frames.Tried.{Tried}
use Rattle.step_local.specs.Answers.{gone, waiting, answered, ended, got, head_at}
use Rattle.step_local.specs.Leaving.{with_slabs, slab_block, putting, asking, leaving}
use Rattle.step_local.specs.Resetting.{binning, orphan_adopted, reset_on}

-- the region of an index is looked up, from the first slot on
abbrev pub locating : Local → Local × Turn
locating l = gone l (At.Locate (LocateAt.Region 0))

-- no slab has an object: the mailbox is looked into, then the orphans, then a cached slab is begun, then the backend
-- is asked
abbrev pub cached_or_asked : Local → Option ℕ → Local × Turn
cached_or_asked l (Some slab) = gone l (At.Small (SmallAt.Uncache slab))
cached_or_asked l None = asking l (record { granules = slab_granules; slab = true })

abbrev pub looking_on : Local → ℕ → Tried → Local × Turn
looking_on l class Tried.Nothing = gone (record l {
  call = record l.call { tried = Tried.Mailbox };
  fetch = record l.fetch { class = class; came = false };
}) (At.Mailbox BoxAt.Take)
looking_on l class Tried.Mailbox =
    gone (record l { call = record l.call { tried = Tried.Orphans } }) (At.Adopt AdoptAt.Take)
looking_on l class Tried.Orphans = cached_or_asked l (newest_of l.heap.cached)

abbrev pub found_slab : Local → ℕ → Option HeapSlab → Local × Turn
found_slab l class (Some kept) = locating (record l { call = record l.call { slab = kept.slab } })
found_slab l class None = looking_on l class l.call.tried

-- the first slab of the class with an object gives it
abbrev pub getting_small : Local → ℕ → Local × Turn
getting_small l class = found_slab l class (first_of_class Wanted.WithObject l.heap.slabs class)

abbrev pub class_of_served : Served → ℕ
class_of_served (Served.Small class) = class
class_of_served (Served.Large granules alignment) = 0

-- the mailbox, or the orphans, have been dealt with
abbrev pub left_or_waits : Local → Bool → Local × Turn
left_or_waits l true = leaving l
left_or_waits l false = waiting l (At.Mailbox BoxAt.Take) (Awaited.Mail (l.fetch.awaited % 2 ^ 32))

abbrev pub fetched_at : Local → Stage → Local × Turn
fetched_at l Stage.Getting = getting_small l (class_of_served l.call.served)
fetched_at l Stage.Leaving = left_or_waits l l.fetch.came
fetched_at l Stage.Idle = answered l Answer.Exited
fetched_at l Stage.Looking = answered l Answer.Exited
fetched_at l Stage.Ending = answered l Answer.Exited
fetched_at l Stage.Replacing = answered l Answer.Exited
fetched_at l Stage.Undoing = answered l Answer.Exited
fetched_at l (Stage.Resetting stage) = reset_on l stage

abbrev pub fetched : Local → Local × Turn
fetched l = fetched_at l l.call.stage

-- what was given back to a slab is joined to its private objects
abbrev pub with_joined : Local → ℕ → ℕ → ℕ → Local
with_joined l slab first count = with_slabs l (after_join_of l.heap.slabs slab first count)

-- the mailbox's next slab
abbrev pub mailed_on : Local → Option ℕ → Local × Turn
mailed_on l (Some slab) = gone l (At.Mailbox (BoxAt.Next slab))
mailed_on l None = fetched l

abbrev pub slab_came : Local → ℕ → Option ℕ → Local × Turn
slab_came l slab rest =
    mailed_on (record l { fetch = record l.fetch { came = l.fetch.came || eqb slab l.fetch.awaited } }) rest

abbrev pub box_head : Local → BoxAt → Option ℕ
box_head l BoxAt.Take = None
box_head l (BoxAt.Next slab) = None
box_head l (BoxAt.Settle slab rest) = None
box_head l (BoxAt.Join slab rest at) = head_at l slab

abbrev pub box_call : Local → BoxAt → BoxCall
box_call l at = record { seat = l.seat; class = l.fetch.class; head = box_head l at }

abbrev pub boxed_as : Local → BoxNext → Local × Turn
boxed_as l (BoxNext.Goes at) = gone l (At.Mailbox at)
boxed_as l BoxNext.Empty = fetched l
boxed_as l (BoxNext.Unchanged slab rest) = slab_came l slab rest
boxed_as l (BoxNext.Joined slab first count rest) = slab_came (with_joined l slab first count) slab rest

abbrev pub box_learn_of : Local → BoxAt → ℕ → Local × Turn
box_learn_of l at f = boxed_as l (box_learn at f)

-- orphans that were not adopted are pushed back, the last one first
abbrev pub sparing : Local → Option ℕ → Local × Turn
sparing l (Some slab) = gone (record l {
  heap = record l.heap { spares = without_newest l.heap.spares };
  fetch = record l.fetch { spare = slab };
}) (At.Spare (LeaveAt.Push PushAt.Look))
sparing l None = fetched l

abbrev pub spares_back : Local → Local × Turn
spares_back l = sparing l (newest_of l.heap.spares)

abbrev pub spared_on : Local → Option ℕ → Local × Turn
spared_on l (Some slab) = gone l (At.Adopt (AdoptAt.Spare slab))
spared_on l None = spares_back l

abbrev pub adopt_call : Local → AdoptCall
adopt_call l = record { seat = l.seat; class = l.fetch.class }

abbrev pub adopted_as : Local → AdoptNext → Local × Turn
adopted_as l (AdoptNext.Goes at) = gone l (At.Adopt at)
adopted_as l AdoptNext.Empty = fetched l
adopted_as l (AdoptNext.Adopted slab header rest) =
    gone (with_slabs l (after_add l.heap.slabs (of_header slab l.fetch.class header))) (At.Join slab rest JoinAt.Take)
adopted_as l (AdoptNext.Spared slab rest) =
    spared_on (record l { heap = record l.heap { spares = after_push l.heap.spares slab } }) rest

abbrev pub adopt_learn_of : Local → AdoptAt → ℕ → Local × Turn
adopt_learn_of l at f = adopted_as l (adopt_learn at f)

-- an adopted slab has been joined: with an object it is the last one that is adopted
abbrev pub gives_object : Option HeapSlab → Bool
gives_object (Some kept) = has_object kept
gives_object None = false

abbrev pub adopting_on : Local → Bool → Option ℕ → Local × Turn
adopting_on l enough None = fetched l
adopting_on l enough (Some slab) = gone l (At.Adopt (cond enough (AdoptAt.Spare slab) (AdoptAt.Header slab)))

abbrev pub adopts_enough : Local → ℕ → Bool
adopts_enough l slab = gives_object (record_at l.heap.slabs.records slab)

-- a reset adopts all of them, one by one
abbrev pub adopted_at : Local → ℕ → Option ℕ → Stage → Local × Turn
adopted_at l slab rest Stage.Idle = adopting_on l (adopts_enough l slab) rest
adopted_at l slab rest Stage.Looking = adopting_on l (adopts_enough l slab) rest
adopted_at l slab rest Stage.Getting = adopting_on l (adopts_enough l slab) rest
adopted_at l slab rest Stage.Ending = adopting_on l (adopts_enough l slab) rest
adopted_at l slab rest Stage.Replacing = adopting_on l (adopts_enough l slab) rest
adopted_at l slab rest Stage.Undoing = adopting_on l (adopts_enough l slab) rest
adopted_at l slab rest Stage.Leaving = adopting_on l (adopts_enough l slab) rest
adopted_at l slab rest (Stage.Resetting stage) = orphan_adopted l slab rest

abbrev pub slab_adopted : Local → ℕ → Option ℕ → Local × Turn
slab_adopted l slab rest = adopted_at l slab rest l.call.stage

abbrev pub join_call : Local → ℕ → JoinCall
join_call l slab = record { slab = slab; head = head_at l slab }

abbrev pub joined_as : Local → ℕ → Option ℕ → JoinNext → Local × Turn
joined_as l slab rest (JoinNext.Goes at) = gone l (At.Join slab rest at)
joined_as l slab rest JoinNext.Nothing = slab_adopted l slab rest
joined_as l slab rest (JoinNext.Joined first count) = slab_adopted (with_joined l slab first count) slab rest

abbrev pub join_learn_of : Local → ℕ → Option ℕ → JoinAt → ℕ → Local × Turn
join_learn_of l slab rest at f = joined_as l slab rest (join_learn at f)

abbrev pub spare_call : Local → LeaveCall
spare_call l = record { slab = l.fetch.spare; class = l.fetch.class; header = 0 }

abbrev pub spared_as : Local → LeaveNext → Local × Turn
spared_as l (LeaveNext.Goes at) = gone l (At.Spare at)
spared_as l LeaveNext.Filled = spares_back l
spared_as l LeaveNext.Left = spares_back l

abbrev pub spare_learn_of : Local → LeaveAt → ℕ → Local × Turn
spare_learn_of l at f = spared_as l (leave_learn at f)

-- an object of the slab is taken
abbrev pub with_taken : Local → ℕ → Option ℕ → Local
with_taken l slab below = with_slabs l (after_take_of l.heap.slabs slab below)

-- the oldest cached slabs go to the backend, as many as are too many
abbrev pub surplus_next : Local → Option ℕ → Local × Turn
surplus_next l (Some slab) = gone l (At.Small (SmallAt.Oldest slab))
surplus_next l None = ended l

abbrev pub surplus_left : Local → Local × Turn
surplus_left l = cond (eqb l.call.surplus 0) (ended l) (surplus_next l (oldest_of l.heap.cached))

abbrev pub slab_cached : Local → ℕ → Local × Turn
slab_cached l slab = surplus_left (record l {
  heap = record l.heap { cached = after_push l.heap.cached slab };
  call = record l.call { surplus = surplus_of (after_push l.heap.cached slab) };
})

-- a slab without a held object is cached, or its block is put
abbrev pub emptied_at : Local → ℕ → Stage → Local × Turn
emptied_at l slab Stage.Getting = putting l PutFor.Emptied (slab_block slab)
emptied_at l slab Stage.Leaving = putting l PutFor.Left (slab_block slab)
emptied_at l slab Stage.Idle = gone l (At.Small (SmallAt.Cache slab))
emptied_at l slab Stage.Looking = gone l (At.Small (SmallAt.Cache slab))
emptied_at l slab Stage.Ending = gone l (At.Small (SmallAt.Cache slab))
emptied_at l slab Stage.Replacing = gone l (At.Small (SmallAt.Cache slab))
emptied_at l slab Stage.Undoing = gone l (At.Small (SmallAt.Cache slab))
emptied_at l slab (Stage.Resetting stage) = binning l stage (slab_block slab)

abbrev pub slab_emptied : Local → ℕ → Local × Turn
slab_emptied l slab = emptied_at (with_slabs l (after_remove l.heap.slabs slab)) slab l.call.stage

-- the newest cached slab is given up
abbrev pub newest_given : Local → ℕ → Stage → Local × Turn
newest_given l slab Stage.Leaving = putting l PutFor.Left (slab_block slab)
newest_given l slab Stage.Getting = putting l PutFor.Emptied (slab_block slab)
newest_given l slab Stage.Idle = putting l PutFor.Emptied (slab_block slab)
newest_given l slab Stage.Looking = putting l PutFor.Emptied (slab_block slab)
newest_given l slab Stage.Ending = putting l PutFor.Emptied (slab_block slab)
newest_given l slab Stage.Replacing = putting l PutFor.Emptied (slab_block slab)
newest_given l slab Stage.Undoing = putting l PutFor.Emptied (slab_block slab)
newest_given l slab (Stage.Resetting stage) = binning l stage (slab_block slab)

abbrev pub slab_begun : Local → ℕ → Local × Turn
slab_begun l slab = locating (record l {
  heap = record l.heap {
    slabs = after_add l.heap.slabs (begun slab (class_of_served l.call.served));
  };
  call = record l.call { slab = slab };
})

-- where the mark of a private object leads
abbrev pub below_in : Mark → Option ℕ
below_in (Mark.Link unit) = Some unit
below_in Mark.End = None
below_in Mark.EndUnusable = None
below_in Mark.Unmarked = None
below_in (Mark.Granted grant) = None
below_in (Mark.Hand seat) = None

abbrev pub small_learn : Local → SmallAt → ℕ → Local × Turn
small_learn l (SmallAt.Uncache slab) f = gone (record l {
  heap = record l.heap { cached = without_newest l.heap.cached };
}) (At.Small (SmallAt.Next slab))
small_learn l (SmallAt.Next slab) f = gone l (At.Small (SmallAt.Public slab))
small_learn l (SmallAt.Public slab) f = gone l (At.Small (SmallAt.Own slab))
small_learn l (SmallAt.Own slab) f = gone l (At.Small (SmallAt.Kind slab))
small_learn l (SmallAt.Kind slab) f = slab_begun l slab
small_learn l (SmallAt.Behind slab head) f = gone l (At.Small (SmallAt.Private slab head (below_in (mark_of f))))
small_learn l (SmallAt.Private slab head below) f = got (with_taken l slab below) head
small_learn l (SmallAt.Rest slab unit) f = got (with_taken l slab None) unit
small_learn l (SmallAt.Empty slab) f = slab_emptied l slab
small_learn l (SmallAt.Cache slab) f = slab_cached l slab
small_learn l (SmallAt.Oldest slab) f = putting (record l {
  heap = record l.heap { cached = without_oldest l.heap.cached };
  call = record l.call { surplus = l.call.surplus - 1 };
}) PutFor.Surplus (slab_block slab)
small_learn l (SmallAt.Newest slab) f = newest_given (record l {
  heap = record l.heap { cached = without_newest l.heap.cached };
}) slab l.call.stage
