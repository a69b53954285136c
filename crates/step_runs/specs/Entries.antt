-- What a step on a word leaves of its seat.
use Rattle.std.specs.Prelude.{ℕ, cond, eqb, List, [], ◌∷◌, ◌++◌, Option, None}
use Rattle.pool_types.specs.declared.values.Request.{Request}
use Rattle.pool_types.specs.declared.values.Turn.{Turn}
use Rattle.pool_words.specs.declared.words.Key.{Key}
use Rattle.pool_words.specs.declared.actions.Action.{Action}
use Rattle.pool_words.specs.declared.actions.Action.TheVariants.{Load, Store, Swap, Exchange, Add, TakeOffice}
use Rattle.pool_words.specs.declared.actions.Action.TheVariants.{GiveOffice, Nothing}
use Rattle.pool_words.specs.declared.actions.Seen.{Seen}
use Rattle.public_list.specs.declared.ending.EndNext.{EndNext}
use Rattle.public_list.specs.Ending.{end_learn}
use Rattle.heap_slabs.specs.declared.records.HeapSlab.{HeapSlab}
use Rattle.word_codes.specs.declared.kinds.Kind.{Kind}
use Rattle.reset_steps.specs.Evict.{unit_at}
use Rattle.reset_steps.specs.Strip.{object_unit}
use Rattle.reset_steps.specs.declared.evict.EvictAt.{EvictAt}
use Rattle.reset_steps.specs.declared.strip.StripAt.{StripAt}
use Rattle.step_local.specs.declared.frames.At.{At}
use Rattle.step_local.specs.declared.frames.LargeAt.{LargeAt}
use Rattle.step_local.specs.declared.frames.Local.{Local}
use Rattle.step_local.specs.declared.frames.Object.{Object}
use Rattle.step_local.specs.declared.frames.ResetAt.{ResetAt}
use Rattle.step_local.specs.declared.frames.SmallAt.{SmallAt}
use Rattle.step_local.specs.declared.frames.Stage.{Stage}
use Rattle.step_local.specs.Answers.{ended_object, end_call, object_got}
use Rattle.step_local.specs.Course.{course}
use Rattle.step_local.specs.Frames.{made}
use Rattle.step_local.specs.Learn.{learn}
use Rattle.step_local.specs.Resetting.{strip_call}
use Rattle.step_local.specs.Rows.{row_of}
use Rattle.step_runs.specs.declared.entry.Entry.{Entry}
use Rattle.step_runs.specs.declared.entry.Made.{Made}
use Rattle.step_runs.specs.declared.entry.Told.{Told}
use Rattle.step_runs.specs.Places.{Move, stays, takes, gives, move_of}

-- what a seat is told of an action on a word that found this value
abbrev pub seen_by : Action → ℕ → Seen
seen_by (Load w) found = Seen.Word found
seen_by (Store w value) found = Seen.Done
seen_by (Swap w value) found = Seen.Word found
seen_by (Exchange w from to) found = Seen.Word found
seen_by (Add w value) found = Seen.Word found
seen_by (TakeOffice job) found = Seen.Done
seen_by GiveOffice found = Seen.Done
seen_by Nothing found = Seen.Done

abbrev pub gain_small : Local → SmallAt → List Object
gain_small l (SmallAt.Private slab head below) = object_got l head ∷ []
gain_small l (SmallAt.Rest slab unit) = object_got l unit ∷ []
gain_small l _ = []

abbrev pub gain_large : Local → LargeAt → List Object
gain_large l (LargeAt.Grant unit) = object_got l unit ∷ []
gain_large l _ = []

abbrev pub gain_at : Local → At → List Object
gain_at l (At.Small at) = gain_small l at
gain_at l (At.Large at) = gain_large l at
gain_at l _ = []

-- the object that the next step grants
abbrev pub gain_of : Local → List Object
gain_of l = gain_at l l.at

abbrev pub loss_by : Local → EndNext → List Object
loss_by l EndNext.Own = ended_object l ∷ []
loss_by l EndNext.Other = ended_object l ∷ []
loss_by l EndNext.Large = ended_object l ∷ []
loss_by l (EndNext.Goes at) = []
loss_by l (EndNext.NotHeld found) = []

-- an object whose grant a reset ends, which knows it by its unit and its mark, and not by its region
abbrev pub reset_object : ℕ → ℕ → Kind → Object
reset_object unit mark kind = record { number = 0; offset = 0; unit = unit; mark = mark; kind = kind }

abbrev pub loss_strip : HeapSlab → ℕ → StripAt → List Object
loss_strip s found (StripAt.Mark object) = []
loss_strip s found (StripAt.End object mark) =
    cond (eqb found mark) (reset_object (object_unit s object) mark (Kind.Slab s.class) ∷ []) []

abbrev pub loss_evict : ℕ → EvictAt → List Object
loss_evict found (EvictAt.End granule b line mark) =
    cond (eqb found mark) (reset_object (unit_at granule line) mark (Kind.Large b.first b.granules) ∷ []) []
loss_evict found _ = []

abbrev pub loss_reset : Local → ℕ → ResetAt → List Object
loss_reset l found (ResetAt.Strip slab at) = loss_strip (strip_call l slab) found at
loss_reset l found (ResetAt.Evict region at) = loss_evict found at
loss_reset l found _ = []

abbrev pub loss_at : Local → ℕ → At → List Object
loss_at l found (At.End at) = loss_by l (end_learn (end_call l) at found)
loss_at l found (At.Reset at) = loss_reset l found at
loss_at l found _ = []

-- the object whose grant the next step ends, where it finds this value
abbrev pub loss_of : Local → ℕ → List Object
loss_of l found = loss_at l found l.at

abbrev pub told_by : Request → Turn → List Told
told_by request (Turn.Done answer) = record { request = request; answer = answer } ∷ []
told_by request Turn.Stepped = []
told_by request (Turn.Waits awaited) = []
told_by request Turn.Idle = []

-- the last turn of a reset answers no call
abbrev pub told_at : Stage → Request → Turn → List Told
told_at (Stage.Resetting stage) request turn = []
told_at _ request turn = told_by request turn

abbrev pub made_by : Local → ℕ → Made
made_by l found = record { row = row_of l.at; action = course l; found = found }

-- what the seat has of the office after a step, where it had the one and the other lay at home
abbrev pub desk_after : {D : Type 0} → Move → Option D → Option D → Option D
desk_after stays home desk = desk
desk_after takes home desk = home
desk_after gives home desk = None

-- the entry of a seat whose local and desk came to these, after its step on a word found this value
abbrev pub learnt : {D : Type 0} → Entry D → Local → Option D → Option D → ℕ → Entry D
learnt e l home desk found = record {
  seat = e.seat;
  local = (learn l (seen_by (course l) found)).0;
  desk = desk_after (move_of l.at found) home desk;
  grants = e.grants ++ gain_of l;
  frees = e.frees ++ loss_of l found;
  answers = e.answers ++ told_at l.call.stage l.call.request (learn l (seen_by (course l) found)).1;
  rows = e.rows ++ (made_by l found ∷ []);
}

-- a seat of a new pool
abbrev pub first_entry : {D : Type 0} → Key → ℕ → Entry D
first_entry k seat = record {
  seat = seat;
  local = made k seat;
  desk = None;
  grants = [];
  frees = [];
  answers = [];
  rows = [];
}
