-- Whether a call's position is one of its stage.
use Rattle.std.proofs.Common.{◌≡◌, ℕ, Bool, true, false, cond, List, ap}
use Rattle.std.specs.Prelude.{Some}
use Rattle.large_cache.specs.declared.sweep.Cleanup.{Cleanup}
use Rattle.pool_types.specs.declared.values.NullCause.{NullCause}
use Rattle.pool_types.specs.declared.values.Request.{Request}
use Rattle.pool_types.specs.declared.values.Turn.{Turn}
use Rattle.pool_words.specs.declared.words.Key.{Key}
use Rattle.step_local.specs.Answers.{replaces}
use Rattle.step_local.specs.declared.frames.At.{At}
use Rattle.step_local.specs.declared.frames.LargeAt.{LargeAt}
use Rattle.step_local.specs.declared.frames.Local.{Local}
use Rattle.step_local.specs.declared.frames.Object.{Object}
use Rattle.step_local.specs.declared.frames.OfficeFor.{OfficeFor}
use Rattle.step_local.specs.declared.frames.PutFor.{PutFor}
use Rattle.step_local.specs.declared.frames.SmallAt.{SmallAt}
use Rattle.step_local.specs.declared.frames.Stage.{Stage}
use Rattle.path_laws.specs.Owing.{grants_at, frees_at, owed_grants, owed_frees}
use Rattle.path_laws.specs.Pays.{Pays, named_by, BeginsAt}

-- the request names an object
abbrev pub names : Request → Bool
names (Request.Realloc (Some place) size) = true
names (Request.AlignedRealloc (Some place) size alignment) = true
names (Request.Free (Some place)) = true
names (Request.Msize (Some place)) = true
names (Request.Identify (Some place)) = true
names _ = false

-- the request may end the grant of the object that it names
abbrev pub ends : Request → Bool
ends (Request.Realloc (Some place) size) = true
ends (Request.AlignedRealloc (Some place) size alignment) = true
ends (Request.Free (Some place)) = true
ends _ = false

abbrev pub is_looking : Stage → Request → Bool
is_looking Stage.Looking r = names r
is_looking _ r = false

abbrev pub is_getting : Stage → Bool
is_getting Stage.Getting = true
is_getting _ = false

abbrev pub is_leaving : Stage → Bool
is_leaving Stage.Leaving = true
is_leaving _ = false

-- a grant is ended, as the request allows
abbrev pub is_ending : Stage → Request → Bool
is_ending Stage.Ending r = ends r
is_ending Stage.Replacing r = replaces r
is_ending Stage.Undoing r = replaces r
is_ending _ r = false

abbrev pub is_regular : Cleanup → Bool
is_regular Cleanup.Regular = true
is_regular Cleanup.Soft = false
is_regular Cleanup.Hard = false

-- a cleanup of this kind is made: for a call that has freed, a regular one
abbrev pub is_sweeping : Stage → Request → Cleanup → Bool
is_sweeping Stage.Getting r cleanup = true
is_sweeping Stage.Ending r Cleanup.Regular = ends r
is_sweeping Stage.Replacing r Cleanup.Regular = replaces r
is_sweeping Stage.Undoing r Cleanup.Regular = replaces r
is_sweeping _ r cleanup = false

-- an object is got, or a grant is ended
abbrev pub is_working : Stage → Request → Bool
is_working s r = is_sweeping s r Cleanup.Regular

-- a block is put for this
abbrev pub is_putting : Stage → Request → Cleanup → PutFor → Bool
is_putting s r cleanup PutFor.Surplus = is_ending s r
is_putting s r cleanup PutFor.Released = is_ending s r
is_putting s r cleanup PutFor.Swept = is_sweeping s r cleanup
is_putting s r cleanup PutFor.Emptied = is_getting s
is_putting s r cleanup PutFor.Left = is_leaving s

-- slabs may be given up
abbrev pub is_emptying : Stage → Request → Bool
is_emptying Stage.Getting r = true
is_emptying Stage.Leaving r = true
is_emptying Stage.Ending r = ends r
is_emptying Stage.Replacing r = replaces r
is_emptying Stage.Undoing r = replaces r
is_emptying _ r = false

-- the heap gives up slabs
abbrev pub is_giving : Stage → Bool
is_giving Stage.Getting = true
is_giving Stage.Leaving = true
is_giving _ = false

abbrev pub fits_small : Stage → Request → SmallAt → Bool
fits_small s r (SmallAt.Empty slab) = is_emptying s r
fits_small s r (SmallAt.Cache slab) = is_ending s r
fits_small s r (SmallAt.Oldest slab) = is_ending s r
fits_small s r (SmallAt.Newest slab) = is_giving s
fits_small s r _ = is_getting s

abbrev pub fits_large : Stage → Request → LargeAt → Bool
fits_large s r LargeAt.Tick = is_working s r
fits_large s r (LargeAt.Kind unit) = is_getting s
fits_large s r (LargeAt.Grant unit) = is_getting s

abbrev pub fits_office : Stage → Request → Cleanup → PutFor → OfficeFor → Bool
fits_office s r cleanup put OfficeFor.Ask = is_getting s
fits_office s r cleanup put (OfficeFor.Put first) = is_putting s r cleanup put
fits_office s r cleanup put (OfficeFor.Drain first rest) = is_getting s

-- no object was freed by this null
abbrev pub is_other_null : NullCause → Bool
is_other_null NullCause.FreedByRealloc = false
is_other_null _ = true

abbrev pub fits_undo : Stage → NullCause → Bool
fits_undo Stage.Getting cause = is_other_null cause
fits_undo _ cause = false

abbrev pub fits_at : Stage → Request → Cleanup → PutFor → At → Bool
fits_at s r cleanup put (At.Look at) = is_looking s r
fits_at s r cleanup put (At.End at) = is_ending s r
fits_at s r cleanup put (At.Post at) = is_ending s r
fits_at s r cleanup put (At.Mail at) = is_ending s r
fits_at s r cleanup put (At.Mailbox at) = is_giving s
fits_at s r cleanup put (At.Adopt at) = is_getting s
fits_at s r cleanup put (At.Join slab rest at) = is_getting s
fits_at s r cleanup put (At.Spare at) = is_getting s
fits_at s r cleanup put (At.Leave slab at) = is_leaving s
fits_at s r cleanup put (At.Locate at) = is_getting s
fits_at s r cleanup put (At.Small at) = fits_small s r at
fits_at s r cleanup put (At.Large at) = fits_large s r at
fits_at s r cleanup put (At.Get at) = is_getting s
fits_at s r cleanup put (At.Undo cause at) = fits_undo s cause
fits_at s r cleanup put (At.Keep at) = is_ending s r
fits_at s r cleanup put (At.Sweep at) = is_sweeping s r cleanup
fits_at s r cleanup put (At.Scan at) = is_getting s
fits_at s r cleanup put (At.Cut at) = is_getting s
fits_at s r cleanup put At.Queue = is_getting s
fits_at s r cleanup put (At.Whole at) = is_getting s
fits_at s r cleanup put (At.Drain at) = is_getting s
fits_at s r cleanup put (At.Put at) = is_putting s r cleanup put
fits_at s r cleanup put (At.Office job at) = fits_office s r cleanup put job
fits_at s r cleanup put _ = false

abbrev pub fits : Local → Bool
fits l = fits_at l.call.stage l.call.request l.sweep.cleanup l.put l.at

-- what a call owes while no grant is being ended
abbrev pub due_grants : Local → List Object
due_grants l = grants_at l.call.stage l.call.new

abbrev pub due_frees : Local → List Object
due_frees l = frees_at l.call.stage l.call.old l.call.new

-- what a turn leaves of where the old object is, what the call owes, and whether its position is one of its stage
abbrev pub owing_of : Local → ℕ × ℕ × List Object × List Object × Bool
owing_of l = (l.call.old.number, l.call.old.offset, owed_grants l, owed_frees l, fits l)

-- the object that is named begins where the call looks for it
abbrev pub Faces : Local → Type 0
Faces l = BeginsAt l.key (named_by l.call.request) l.call.old

-- A turn of a call for this request, of a local with this key, whose old object lies there: where it goes on, it owes
-- this, and where it answers, it has granted and freed this.
abbrev pub SettlesBy : Key → Request → ℕ → ℕ → List Object → List Object → Local → Turn → Type 0
SettlesBy k r number offset grants frees now (Turn.Done answer) = Pays k r answer grants frees
SettlesBy k r number offset grants frees now Turn.Stepped = owing_of now ≡ (number, offset, grants, frees, true)
SettlesBy k r number offset grants frees now (Turn.Waits awaited) =
    owing_of now ≡ (number, offset, grants, frees, true)
SettlesBy k r number offset grants frees now Turn.Idle = ⊥

abbrev pub Settles : Local → List Object → List Object → Local × Turn → Type 0
Settles l grants frees turn =
    SettlesBy l.key l.call.request l.call.old.number l.call.old.offset grants frees turn.0 turn.1

-- what is due stays due
abbrev pub Rests : Local → Local × Turn → Type 0
Rests l turn = Settles l (due_grants l) (due_frees l) turn

-- what is due, beside a test
abbrev pub due_with : Local → Bool → ℕ × ℕ × List Object × List Object × Bool
due_with l b = (l.call.old.number, l.call.old.offset, due_grants l, due_frees l, b)

-- the turn goes on where the position is one of its stage
pub on : (l : Local) (b : Bool) → b ≡ true → due_with l b ≡ due_with l true
on l b e = ap (due_with l) e

pub either : (l : Local) (b : Bool) (x y : Local × Turn) → Rests l x → Rests l y → Rests l (cond b x y)
either l true x y one other = one
either l false x y one other = other
