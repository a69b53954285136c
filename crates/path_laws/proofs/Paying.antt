-- What an answer has granted and freed, by the stage of its call.
use Rattle.std.proofs.Common.{◌≡◌, inl, inr, ℕ, Bool, true, false, cond, List, [], ◌∷◌, refl}
use Rattle.std.specs.Prelude.{◌+◌, Some}
use Rattle.pool_types.specs.Sums.{capped}
use Rattle.pool_types.specs.declared.values.Found.{Found}
use Rattle.pool_types.specs.declared.values.NullCause.{NullCause}
use Rattle.pool_types.specs.declared.values.Request.{Request}
use Rattle.pool_words.specs.declared.words.Key.{Key}
use Rattle.step_local.specs.Answers.{answered, ended_as, ended, ending, freed_as, got_after, got_of, lost_at}
use Rattle.step_local.specs.Answers.{got, lost_end, not_held_as, object_got, replaces}
use Rattle.step_local.specs.declared.frames.Local.{Local}
use Rattle.step_local.specs.declared.frames.Object.{Object}
use Rattle.step_local.specs.declared.frames.Stage.{Stage}
use Rattle.path_laws.specs.Owing.{grants_at, frees_at}
use Rattle.path_laws.specs.Pays.{Pays, PaysGot, PaysNotHeld, PaysNothing, PaysNull}
use Rattle.path_laws.specs.Pays.{BeginsAt, named_by}
use Rattle.path_laws.proofs.Fits.{ends, is_ending, is_getting, is_leaving, is_looking, is_other_null}
use Rattle.path_laws.proofs.Fits.{Faces, Rests, Settles, due_grants}

-- a call that looks, gets or leaves owes nothing
pub nothing_got : (s : Stage) (old new : Object) → is_getting s ≡ true
    → PaysNothing (grants_at s new) (frees_at s old new)
nothing_got Stage.Getting old new e = (refl, refl)
nothing_got _ old new e = absurd (cc)

pub nothing_left : (s : Stage) (old new : Object) → is_leaving s ≡ true
    → PaysNothing (grants_at s new) (frees_at s old new)
nothing_left Stage.Leaving old new e = (refl, refl)
nothing_left _ old new e = absurd (cc)

pub nothing_looked : (s : Stage) (r : Request) (old new : Object) → is_looking s r ≡ true
    → PaysNothing (grants_at s new) (frees_at s old new)
nothing_looked Stage.Looking r old new e = (refl, refl)
nothing_looked _ r old new e = absurd (cc)

pub null_pays : (cause : NullCause) (k : Key) (r : Request) (grants frees : List Object) → is_other_null cause ≡ true
    → PaysNothing grants frees → PaysNull cause k r grants frees
null_pays NullCause.FreedByRealloc k r grants frees e nothing = absurd (cc)
null_pays NullCause.BadRequest k r grants frees e nothing = nothing
null_pays NullCause.NumbersSpent k r grants frees e nothing = nothing
null_pays (NullCause.TooLarge granules) k r grants frees e nothing = nothing
null_pays NullCause.RawFailed k r grants frees e nothing = nothing
null_pays (NullCause.SpanFull asked greatest) k r grants frees e nothing = nothing
null_pays (NullCause.RegionsFull out next) k r grants frees e nothing = nothing
null_pays (NullCause.NoFit looks) k r grants frees e nothing = nothing

-- nothing was held, and nothing done
pub not_held_pays : (b : Bool) (grants frees : List Object) → PaysNothing grants frees → PaysNotHeld b grants frees
not_held_pays true grants frees nothing = inl nothing
not_held_pays false grants frees nothing = nothing

pub not_held_as_pays : (k : Key) (r : Request) (found : Found) (grants frees : List Object)
    → PaysNothing grants frees → Pays k r (not_held_as r found) grants frees
not_held_as_pays k (Request.Identify place) found grants frees nothing = nothing
not_held_as_pays k (Request.Malloc size) found grants frees nothing = nothing
not_held_as_pays k (Request.Aligned size alignment) found grants frees nothing = nothing
not_held_as_pays k (Request.Realloc place size) found grants frees nothing =
    not_held_pays (replaces (Request.Realloc place size)) grants frees nothing
not_held_as_pays k (Request.AlignedRealloc place size alignment) found grants frees nothing =
    not_held_pays (replaces (Request.AlignedRealloc place size alignment)) grants frees nothing
not_held_as_pays k (Request.Free place) found grants frees nothing = nothing
not_held_as_pays k (Request.Msize place) found grants frees nothing = nothing
not_held_as_pays k Request.Exit found grants frees nothing = nothing

pub freed_pays : (k : Key) (r : Request) (old : Object) → ends r ≡ true → BeginsAt k (named_by r) old
    → Pays k r (freed_as r) [] (old ∷ [])
freed_pays k (Request.Free (Some place)) old e begins =
    record { asks = refl; old = old; begins = begins; grants_are = refl; frees_are = refl }
freed_pays k (Request.Realloc (Some place) size) old e begins =
    record { asks = refl; old = old; begins = begins; grants_are = refl; frees_are = refl }
freed_pays k (Request.AlignedRealloc (Some place) size alignment) old e begins =
    record { asks = refl; old = old; begins = begins; grants_are = refl; frees_are = refl }
freed_pays k _ old e begins = absurd (cc)

-- an object that was got, and one that was kept or given for another
pub new_pays : (b : Bool) (l : Local) (r : Request) (new : Object) → b ≡ false
    → PaysGot b l.key r (got_of l new) (new ∷ []) []
new_pays false l r new e = record {
  new = new;
  shows = refl;
  grants_are = refl;
  frees_are = refl;
}
new_pays true l r new e = absurd (cc)

pub kept_pays : (b : Bool) (l : Local) (r : Request) (old : Object) (grants frees : List Object) → b ≡ true
    → BeginsAt l.key (named_by r) old → PaysNothing grants frees → PaysGot b l.key r (got_of l old) grants frees
kept_pays true l r old grants frees e begins nothing = inl (record {
  old = old;
  begins = begins;
  shows = refl;
  nothing = nothing;
})
kept_pays false l r old grants frees e begins nothing = absurd (cc)

moved_pays : (b : Bool) (l : Local) (r : Request) (old new : Object) → b ≡ true
    → BeginsAt l.key (named_by r) old → PaysGot b l.key r (got_of l new) (new ∷ []) (old ∷ [])
moved_pays true l r old new e begins = inr (record {
  old = old;
  new = new;
  begins = begins;
  shows = refl;
  grants_are = refl;
  frees_are = refl;
})
moved_pays false l r old new e begins = absurd (cc)

-- an object that was granted in vain
undone_pays : (b : Bool) (new : Object) → b ≡ true → PaysNotHeld b (new ∷ []) (new ∷ [])
undone_pays true new e = inr (record { new = new; grants_are = refl; frees_are = inr refl })
undone_pays false new e = absurd (cc)

pub lost_pays : (b : Bool) (new : Object) → b ≡ true → PaysNotHeld b (new ∷ []) []
lost_pays true new e = inr (record { new = new; grants_are = refl; frees_are = inl refl })
lost_pays false new e = absurd (cc)

ended_pays : (l : Local) (s : Stage) → is_ending s l.call.request ≡ true → Faces l
    → Pays l.key l.call.request (ended_as l s) (grants_at s l.call.new) (frees_at s l.call.old l.call.new)
ended_pays l Stage.Ending e faces = freed_pays l.key l.call.request l.call.old e faces
ended_pays l Stage.Replacing e faces =
    moved_pays (replaces l.call.request) l l.call.request l.call.old l.call.new e faces
ended_pays l Stage.Undoing e faces = undone_pays (replaces l.call.request) l.call.new e
ended_pays l _ e faces = absurd (cc)

-- a grant is ended, with all that follows
pub rests-ended : (l : Local) (e : is_ending l.call.stage l.call.request ≡ true) (f : Faces l) → Rests l (ended l)
rests-ended l e f = ended_pays l l.call.stage e f

-- a grant could not be ended
settles-lost_at : (l : Local) (found : Found) (s : Stage) → is_ending s l.call.request ≡ true
    → Settles l (grants_at s l.call.new) [] (lost_at l found s)
settles-lost_at l found Stage.Replacing e =
    λ i. (l.call.old.number, l.call.old.offset, l.call.new ∷ [], [], e i)
settles-lost_at l found Stage.Undoing e = lost_pays (replaces l.call.request) l.call.new e
settles-lost_at l found Stage.Ending e = not_held_pays (replaces l.call.request) [] [] (refl, refl)
settles-lost_at l found _ e = absurd (cc)

pub settles-lost_end : (l : Local) (found : Found) → is_ending l.call.stage l.call.request ≡ true
    → Settles l (due_grants l) [] (lost_end l found)
settles-lost_end l found e = settles-lost_at l found l.call.stage e

-- an object is granted
settles-got_after : (l : Local) (object : Object) → Settles l (object ∷ []) [] (got_after l object)
settles-got_after l object = by (replaces l.call.request) refl
  where
    by : (b : Bool) → replaces l.call.request ≡ b → Settles l (object ∷ []) []
        (cond b (ending (record l { call = record l.call { new = object } }) Stage.Replacing)
        (answered l (got_of l object)))
    by true is = λ i. (l.call.old.number, l.call.old.offset, object ∷ [], [], is i)
    by false is = new_pays (replaces l.call.request) l l.call.request object is

pub settles-got : (l : Local) (unit : ℕ) → Settles l (object_got l unit ∷ []) [] (got l unit)
settles-got l unit = settles-got_after (record l { last = capped (l.last + 1) }) (object_got l unit)
