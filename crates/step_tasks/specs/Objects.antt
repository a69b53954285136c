-- What a seat is about to do with objects, by its position, and what its next step leaves of that.
use Rattle.std.specs.Prelude.{◌≡◌, ℕ, ⊤, Option, Some, None}
use Rattle.heap_slabs.specs.declared.records.HeapSlab.{HeapSlab}
use Rattle.heap_slabs.specs.Records.{unit_of}
use Rattle.heap_slabs.specs.Slabs.{record_at}
use Rattle.mailbox.specs.declared.boxes.BoxAt.{BoxAt}
use Rattle.public_list.specs.declared.ending.EndAt.{EndAt}
use Rattle.public_list.specs.declared.ending.EndCall.{EndCall}
use Rattle.public_list.specs.declared.ending.EndNext.{EndNext}
use Rattle.public_list.specs.declared.joining.JoinAt.{JoinAt}
use Rattle.public_list.specs.declared.joining.JoinNext.{JoinNext}
use Rattle.public_list.specs.declared.looking.LookAt.{LookAt}
use Rattle.public_list.specs.declared.looking.LookCall.{LookCall}
use Rattle.public_list.specs.declared.looking.LookNext.{LookNext}
use Rattle.public_list.specs.declared.posting.PostAt.{PostAt}
use Rattle.public_list.specs.declared.posting.PostCall.{PostCall}
use Rattle.public_list.specs.declared.posting.PostNext.{PostNext}
use Rattle.public_list.specs.Ending.{end_learn}
use Rattle.public_list.specs.Joining.{join_learn}
use Rattle.public_list.specs.Looking.{look_learn}
use Rattle.public_list.specs.Posting.{post_learn}
use Rattle.chain_words.specs.declared.pushing.PushAt.{PushAt}
use Rattle.reset_steps.specs.declared.evict.EvictAt.{EvictAt}
use Rattle.reset_steps.specs.declared.strip.StripAt.{StripAt}
use Rattle.word_codes.specs.declared.kinds.Kind.{Kind}
use Rattle.word_codes.specs.Marks.{mark_of}
use Rattle.reset_steps.specs.Evict.{unit_at}
use Rattle.object_laws.specs.Laws.{strip_call as strip_end, evict_call as evict_end}
use Rattle.object_laws.specs.Objects.{Task, behind}
use Rattle.object_laws.specs.Objects.Task.{Away, Looking, Ending, Posting, Joining, Reading, Taking, Resting, Blocking}
use Rattle.object_laws.specs.Rows.{post_of}
use Rattle.step_local.specs.declared.frames.At.{At}
use Rattle.step_local.specs.declared.frames.LargeAt.{LargeAt}
use Rattle.step_local.specs.declared.frames.Local.{Local}
use Rattle.step_local.specs.declared.frames.ResetAt.{ResetAt}
use Rattle.step_local.specs.declared.frames.SmallAt.{SmallAt}
use Rattle.step_local.specs.Answers.{end_by, end_call, ended_object, head_at}
use Rattle.step_local.specs.Objects.{look_call, post_call}
use Rattle.step_local.specs.Resetting.{strip_call}

-- a reset ends a grant at a slab's object, or at a large one, without a look
abbrev pub strip_task : Local → ℕ → StripAt → Task
strip_task l slab (StripAt.Mark object) = Away
strip_task l slab (StripAt.End object mark) =
    Ending (strip_end (strip_call l slab) object mark l.seat) (Kind.Slab (strip_call l slab).class) EndAt.Own

abbrev pub evict_task : Local → EvictAt → Task
evict_task l (EvictAt.Kind granule) = Away
evict_task l (EvictAt.Mark granule b line) = Away
evict_task l (EvictAt.End granule b line mark) =
    Ending (evict_end (unit_at granule line) mark l.seat) (Kind.Large b.first b.granules) EndAt.Large

abbrev pub reset_task : Local → ResetAt → Task
reset_task l (ResetAt.Strip slab at) = strip_task l slab at
reset_task l (ResetAt.Evict region at) = evict_task l at
reset_task l _ = Away

abbrev pub box_task : BoxAt → Task
box_task (BoxAt.Join slab rest at) = Joining slab at
box_task _ = Away

abbrev pub small_task : SmallAt → Task
small_task (SmallAt.Behind slab head) = Reading slab head
small_task (SmallAt.Private slab head below) = Taking slab head below
small_task (SmallAt.Rest slab unit) = Resting slab unit
small_task _ = Away

abbrev pub large_task : Local → LargeAt → Task
large_task l (LargeAt.Grant unit) = Blocking unit l.call.block.first l.call.block.granules
large_task l _ = Away

abbrev pub object_task_at : Local → At → Task
object_task_at l (At.Look at) = Looking (look_call l) at
object_task_at l (At.End at) = Ending (end_call l) (ended_object l).kind at
object_task_at l (At.Post at) = Posting (post_call l) at
object_task_at l (At.Mailbox at) = box_task at
object_task_at l (At.Join slab rest at) = Joining slab at
object_task_at l (At.Small at) = small_task at
object_task_at l (At.Large at) = large_task l at
object_task_at l (At.Reset at) = reset_task l at
object_task_at l _ = Away

-- what the seat is about to do with an object
abbrev pub object_task_of : Local → Task
object_task_of l = object_task_at l l.at

-- what a look, the end of a grant, a post and a join leave to do
abbrev pub looked_task : LookCall → LookNext → Task
looked_task call (LookNext.Goes at) = Looking call at
looked_task call (LookNext.Held unit mark kind base) = Away
looked_task call LookNext.Differs = Away
looked_task call (LookNext.NotHeld found) = Away

abbrev pub ended_task : EndCall → Kind → EndNext → Task
ended_task call kind (EndNext.Goes at) = Ending call kind at
ended_task call kind EndNext.Own = Away
ended_task call kind EndNext.Other = Posting (post_of call) (PostAt.Push PushAt.Look)
ended_task call kind EndNext.Large = Away
ended_task call kind (EndNext.NotHeld found) = Away

abbrev pub posted_task : PostCall → PostNext → Task
posted_task call (PostNext.Goes at) = Posting call at
posted_task call PostNext.Listed = Away
posted_task call PostNext.Owed = Away

abbrev pub joined_task : ℕ → JoinNext → Task
joined_task slab (JoinNext.Goes at) = Joining slab at
joined_task slab JoinNext.Nothing = Away
joined_task slab (JoinNext.Joined first count) = Away

abbrev pub box_left : BoxAt → ℕ → Task
box_left (BoxAt.Join slab rest at) found = joined_task slab (join_learn at found)
box_left _ found = Away

abbrev pub small_left : SmallAt → ℕ → Task
small_left (SmallAt.Behind slab head) found = Taking slab head (behind (mark_of found))
small_left _ found = Away

abbrev pub large_left : Local → LargeAt → Task
large_left l (LargeAt.Kind unit) = Blocking unit l.call.block.first l.call.block.granules
large_left l _ = Away

-- what the next step leaves to do, if it finds this. A reset does not look where it could not end a grant.
abbrev pub task_left_at : Local → At → ℕ → Task
task_left_at l (At.Look at) found = looked_task (look_call l) (look_learn (look_call l) at found)
task_left_at l (At.End at) found = ended_task (end_call l) (ended_object l).kind (end_learn (end_call l) at found)
task_left_at l (At.Post at) found = posted_task (post_call l) (post_learn at found)
task_left_at l (At.Mailbox at) found = box_left at found
task_left_at l (At.Join slab rest at) found = joined_task slab (join_learn at found)
task_left_at l (At.Small at) found = small_left at found
task_left_at l (At.Large at) found = large_left l at
task_left_at l _ found = Away

abbrev pub task_left : Local → ℕ → Task
task_left l found = task_left_at l l.at found

-- the object behind those of a slab that were handed out
abbrev pub rest_in : ℕ → Option HeapSlab → ℕ
rest_in slab (Some kept) = unit_of slab kept.class kept.handed
rest_in slab None = 0

abbrev pub rest_at : Local → ℕ → ℕ
rest_at l slab = rest_in slab (record_at l.heap.slabs.records slab)

-- where a task starts: a look at the region, the end of a grant by where its object lies, a join by taking what was
-- given back, a grant at what the slab's record says
abbrev pub BoxStarts : BoxAt → Type 0
BoxStarts (BoxAt.Join slab rest at) = at ≡ JoinAt.Take
BoxStarts _ = ⊤

abbrev pub SmallStarts : Local → SmallAt → Type 0
SmallStarts l (SmallAt.Behind slab head) = head_at l slab ≡ Some head
SmallStarts l (SmallAt.Private slab head below) = ⊥
SmallStarts l (SmallAt.Rest slab unit) = (head_at l slab ≡ None) × (unit ≡ rest_at l slab)
SmallStarts l _ = ⊤

abbrev pub LargeStarts : LargeAt → Type 0
LargeStarts (LargeAt.Grant unit) = ⊥
LargeStarts _ = ⊤

abbrev pub StartsAt : Local → At → Type 0
StartsAt l (At.Look at) = at ≡ LookAt.Region
StartsAt l (At.End at) = at ≡ end_by l (ended_object l).unit (ended_object l).kind
StartsAt l (At.Post at) = ⊥
StartsAt l (At.Mailbox at) = BoxStarts at
StartsAt l (At.Join slab rest at) = at ≡ JoinAt.Take
StartsAt l (At.Small at) = SmallStarts l at
StartsAt l (At.Large at) = LargeStarts at
StartsAt l _ = ⊤

abbrev pub Starts : Local → Type 0
Starts l = StartsAt l l.at
