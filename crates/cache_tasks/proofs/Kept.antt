-- Each turn keeps what a local has released by its position.
use Rattle.std.proofs.Common.{◌≡◌, inl, inr, ◌++◌, ◌∷◌, [], Bool, true, false, cond, ◌==◌, eqb, ℕ, refl}
use Rattle.std.proofs.Common.{length, sym, subst, ◌∙◌, arith}
use Rattle.std.proofs.lemmas.Option.{slice_get-get_or}
use Rattle.std.specs.Prelude.{None, Option, Some, List, ltb, ◌-◌, slice_get}
use Rattle.heap_slabs.specs.Rolls.{Rolled, after_push, newest_of}
use Rattle.backend_bins.specs.Bin.{bin_learn}
use Rattle.backend_bins.specs.declared.bin.BinAt.{BinAt}
use Rattle.backend_bins.specs.declared.bin.BinNext.{BinNext}
use Rattle.coalescer.specs.Put.{put_learn}
use Rattle.coalescer.specs.declared.put.PutAt.{PutAt}
use Rattle.coalescer.specs.declared.put.PutNext.{PutNext}
use Rattle.large_cache.specs.declared.get.GetAt.{GetAt}
use Rattle.large_cache.specs.declared.get.GetNext.{GetNext}
use Rattle.large_cache.specs.declared.keep.KeepAt.{KeepAt}
use Rattle.large_cache.specs.declared.keep.KeepNext.{KeepNext}
use Rattle.large_cache.specs.declared.sweep.SweepAt.{SweepAt}
use Rattle.large_cache.specs.declared.sweep.SweepNext.{SweepNext}
use Rattle.large_cache.specs.declared.undo.UndoAt.{UndoAt}
use Rattle.large_cache.specs.declared.undo.UndoNext.{UndoNext}
use Rattle.large_cache.specs.Get.{get_learn}
use Rattle.large_cache.specs.Keep.{keep_learn}
use Rattle.large_cache.specs.Sweep.{sweep_is_stale, sweep_learn, sweep_walked, with_kept, with_stale}
use Rattle.large_cache.specs.Undo.{undo_learn}
use Rattle.pool_types.specs.declared.values.NullCause.{NullCause}
use Rattle.pool_words.specs.declared.actions.Seen.{Seen}
use Rattle.pool_words.specs.Actions.{word_seen}
use Rattle.region_steps.specs.Office.{office_learn}
use Rattle.region_steps.specs.declared.office.OfficeAt.{OfficeAt}
use Rattle.region_steps.specs.declared.office.OfficeEnd.{OfficeEnd}
use Rattle.region_steps.specs.declared.office.OfficeNext.{OfficeNext}
use Rattle.reset_steps.specs.Clear.{clear_headed, clear_learn, clear_walked, number_after, peeked, zeroed}
use Rattle.reset_steps.specs.declared.clear.ClearAt.{ClearAt}
use Rattle.reset_steps.specs.declared.clear.ClearNext.{ClearNext}
use Rattle.reset_steps.specs.declared.clear.Number.{Number}
use Rattle.word_codes.specs.Links.{link_of}
use Rattle.step_local.specs.declared.frames.At.{At}
use Rattle.step_local.specs.declared.frames.Local.{Local}
use Rattle.step_local.specs.declared.frames.OfficeFor.{OfficeFor}
use Rattle.step_local.specs.declared.frames.PutFor.{PutFor}
use Rattle.step_local.specs.declared.frames.ResetAt.{ResetAt}
use Rattle.step_local.specs.declared.frames.ResetStage.{ResetStage}
use Rattle.step_local.specs.declared.frames.Stage.{Stage}
use Rattle.step_local.specs.Backend.{office_as, office_call, office_left, put_as, put_done_as}
use Rattle.step_local.specs.Frames.{most_released}
use Rattle.step_local.specs.Getting.{begun, is_idle, reset_begun}
use Rattle.step_local.specs.Large.{get_as, granules_of_served, keep_as, next_bin, releasing, releasing_by, sweep_call}
use Rattle.step_local.specs.Large.{swept_as, undo_as}
use Rattle.step_local.specs.Learn.{learn_at}
use Rattle.step_local.specs.Leaving.{put_call}
use Rattle.step_local.specs.Resetting.{bin_cleared, binned_as, binned_at, binning_call, cleared_as, reset_learn_of}
use Rattle.step_local.specs.Resetting.{reset_on, uncached_by, uncaching}
use Rattle.cache_tasks.specs.Laws.{FreshLocalsFit, TurnsKeepReleased}
use Rattle.cache_tasks.specs.Released.{BinFits, ClearFits, FitsAt, NoneReleased, OfficeFits, PutFits, ReleasedFits}
use Rattle.cache_tasks.specs.Released.{ResetFits, SweepFits}
use Rattle.cache_tasks.proofs.Begun.{BegunAt, begun_lands, reset_begun_lands}
use Rattle.cache_tasks.proofs.Started.{Kept, same}
use Rattle.cache_tasks.proofs.StartedBackend.{starts-drained_on, starts-obtained_as}
use Rattle.cache_tasks.proofs.StartedLarge.{starts-emptying, starts-next_bin, starts-ticked}
use Rattle.cache_tasks.proofs.StartedResets.{starts-bin_cleared, starts-binned_at, starts-reset_learn_of}
use Rattle.cache_tasks.proofs.StartedSmall.{starts-leaving, starts-surplus_left}
use Rattle.cache_tasks.proofs.Turns.{job_turn}

abbrev HasRolls : Local → Type 0
HasRolls l = l.released.room ≡ most_released

-- where none is released, each position has what it may have
sweep_fits : (items : List ℕ) (at : SweepAt) → items ≡ [] → SweepFits items at
sweep_fits items (SweepAt.Age walk) none = tt
sweep_fits items (SweepAt.Link walk) none = tt
sweep_fits items (SweepAt.Cut walk) none = tt
sweep_fits items (SweepAt.SetItems walk) none = tt
sweep_fits items (SweepAt.SetCleaned walk) none = tt
sweep_fits items SweepAt.Unlock none = tt
sweep_fits items _ none = none

put_fits : (items : List ℕ) (why : PutFor) → items ≡ [] → PutFits items why
put_fits items PutFor.Swept none = tt
put_fits items _ none = none

office_fits : (items : List ℕ) (why : PutFor) (job : OfficeFor) → items ≡ [] → OfficeFits items why job
office_fits items why (OfficeFor.Put first) none = put_fits items why none
office_fits items why _ none = none

clear_fits : (items : List ℕ) (at : ClearAt) → items ≡ [] → ClearFits items at
clear_fits items (ClearAt.Peek number) none = none
clear_fits items ClearAt.Lock none = none
clear_fits items ClearAt.Head none = none
clear_fits items _ none = tt

bin_fits : (items : List ℕ) (stage : Stage) → items ≡ [] → BinFits items stage
bin_fits items (Stage.Resetting (ResetStage.Cache granules)) none = tt
bin_fits items (Stage.Resetting _) none = none
bin_fits items _ none = none

reset_fits : (items : List ℕ) (stage : Stage) (at : ResetAt) → items ≡ [] → ResetFits items stage at
reset_fits items stage (ResetAt.Clear granules at) none = clear_fits items at none
reset_fits items stage (ResetAt.Bin at) none = bin_fits items stage none
reset_fits items stage _ none = none

none_fits : (l : Local) (at : At) → NoneReleased l → FitsAt l at
none_fits l (At.Sweep at) none = sweep_fits l.released.items at none
none_fits l (At.Put at) none = put_fits l.released.items l.put none
none_fits l (At.Office job at) none = office_fits l.released.items l.put job none
none_fits l (At.Reset at) none = reset_fits l.released.items l.call.stage at none
none_fits l _ none = none

fits_after : (l next : Local) → HasRolls l → NoneReleased l → Kept l.released next.released → ReleasedFits next
fits_after l next room none kept = record {
  room = kept.0 ∙ room;
  fits = none_fits next next.at (kept.1 none);
}

-- the last of a list is there, unless there is none
pub none_newest : (xs : List ℕ) → slice_get xs (length xs - 1) ≡ None → xs ≡ []
none_newest [] none = refl
none_newest (x ∷ xs) none =
    let one = slice_get-get_or (x ∷ xs) (length (x ∷ xs) - 1) x (omega arith) in absurd (cc)

releasing_fits : (l : Local) → HasRolls l → ReleasedFits (releasing l).0
releasing_fits l room = by (newest_of l.released) refl
  where
    by : (one : Option ℕ) → newest_of l.released ≡ one → ReleasedFits (releasing_by l one).0
    by (Some block) is = record { room = room; fits = tt }
    by None is =
        fits_after l (next_bin l).0 room (none_newest l.released.items is) (starts-next_bin l).1

uncaching_fits : (l : Local) (granules : ℕ) → HasRolls l → ReleasedFits (uncaching l granules).0
uncaching_fits l granules room = by (newest_of l.released) refl
  where
    by : (one : Option ℕ) → newest_of l.released ≡ one → ReleasedFits (uncached_by l granules one).0
    by (Some block) is = record { room = room; fits = tt }
    by None is = fits_after l (bin_cleared l granules).0 room (none_newest l.released.items is)
        (starts-bin_cleared l granules).1

push_room : (r : Rolled ℕ) (x : ℕ) → (after_push r x).room ≡ r.room
push_room r x = by (ltb (length r.items) r.room)
  where
    by : (b : Bool) → (cond {A = Rolled ℕ} b (record r { items = r.items ++ (x ∷ []) }) r).room ≡ r.room
    by true = refl
    by false = refl

-- jobs of the cache
get_kept : (l : Local) (at : GetAt) (next : GetNext) → Kept l.released (get_as l at next).0.released
get_kept l at (GetNext.Goes next) = same l.released
get_kept l at GetNext.Waits = same l.released
get_kept l at (GetNext.Took block) = (starts-ticked (record l {
  call = record l.call {
    missed = false;
    block = record { first = block; granules = granules_of_served l.call.served };
  };
})).1
get_kept l at GetNext.Missed = (starts-ticked (record l { call = record l.call { missed = true } })).1

undo_kept : (l : Local) (cause : NullCause) (at : UndoAt) (next : UndoNext)
    → Kept l.released (undo_as l cause at next).0.released
undo_kept l cause at (UndoNext.Goes next) = same l.released
undo_kept l cause at UndoNext.Waits = same l.released
undo_kept l cause at UndoNext.Undone = same l.released

keep_kept : (l : Local) (at : KeepAt) (next : KeepNext) → Kept l.released (keep_as l at next).0.released
keep_kept l at (KeepNext.Goes next) = same l.released
keep_kept l at KeepNext.Waits = same l.released
keep_kept l at (KeepNext.Kept (Some block)) = same l.released
keep_kept l at (KeepNext.Kept None) = (starts-ticked l).1

abbrev SweepKeeps : Local → SweepAt → SweepNext → Type 0
SweepKeeps l at next = ReleasedFits (swept_as l at next).0

sweep_kept : (l : Local) (at : SweepAt) (f : ℕ) → HasRolls l → SweepFits l.released.items at
    → SweepKeeps l at (sweep_learn (sweep_call l) at f)
sweep_kept l SweepAt.Clock f room none = record { room = room; fits = none }
sweep_kept l SweepAt.Peek f room none = by (f == 0)
  where
    by : (b : Bool) → SweepKeeps l SweepAt.Peek (cond b SweepNext.Passed (SweepNext.Goes SweepAt.Lock))
    by true = fits_after l (next_bin l).0 room none (starts-next_bin l).1
    by false = record { room = room; fits = none }
sweep_kept l SweepAt.Lock f room none = by (f == 0)
  where
    by : (b : Bool) → SweepKeeps l SweepAt.Lock (cond b (SweepNext.Goes SweepAt.Items) SweepNext.Waits)
    by true = record { room = room; fits = none }
    by false = record { room = room; fits = none }
sweep_kept l SweepAt.Items f room none = record { room = room; fits = sweep_fits l.released.items _ none }
sweep_kept l (SweepAt.Judge at) f room none = record { room = room; fits = sweep_fits l.released.items _ none }
sweep_kept l (SweepAt.SetThreshold count threshold) f room none = record { room = room; fits = none }
sweep_kept l (SweepAt.Head count threshold) f room none =
    record { room = room; fits = sweep_fits l.released.items _ none }
sweep_kept l (SweepAt.Age walk) f room some = by (sweep_is_stale l.sweep.cleanup l.sweep.time walk.threshold f)
  where
    by : (b : Bool) → SweepKeeps l (SweepAt.Age walk)
        (cond b (SweepNext.Stale walk.block (SweepAt.Link (with_stale walk f)))
        (SweepNext.Stays (SweepAt.Link (with_kept walk))))
    by true = record { room = push_room l.released walk.block ∙ room; fits = tt }
    by false = record { room = room; fits = tt }
sweep_kept l (SweepAt.Link walk) f room some = record { room = room; fits = walked (link_of f) }
  where
    ends : (b : Bool) → SweepFits l.released.items (cond b SweepAt.Unlock (SweepAt.Cut walk))
    ends true = tt
    ends false = tt

    walked : (one : Option ℕ) → SweepFits l.released.items (sweep_walked walk one)
    walked (Some block) = tt
    walked None = ends (walk.stale == 0)
sweep_kept l (SweepAt.Cut walk) f room some = record { room = room; fits = tt }
sweep_kept l (SweepAt.SetItems walk) f room some = record { room = room; fits = tt }
sweep_kept l (SweepAt.SetCleaned walk) f room some = record { room = room; fits = tt }
sweep_kept l SweepAt.Unlock f room some = releasing_fits l room

-- a put, and the office for it
put_done_kept : (l : Local) (why : PutFor) → HasRolls l → PutFits l.released.items why
    → ReleasedFits (put_done_as l why).0
put_done_kept l PutFor.Surplus room none =
    fits_after l (put_done_as l PutFor.Surplus).0 room none (starts-surplus_left l).1
put_done_kept l PutFor.Released room none =
    fits_after l (put_done_as l PutFor.Released).0 room none (starts-ticked l).1
put_done_kept l PutFor.Swept room some = releasing_fits l room
put_done_kept l PutFor.Emptied room none =
    fits_after l (put_done_as l PutFor.Emptied).0 room none (starts-emptying l).1
put_done_kept l PutFor.Left room none = fits_after l (put_done_as l PutFor.Left).0 room none (starts-leaving l).1

put_kept : (l : Local) (at : PutAt) (next : PutNext) → HasRolls l → PutFits l.released.items l.put
    → ReleasedFits (put_as l at next).0
put_kept l at (PutNext.Goes next) room fits = record { room = room; fits = fits }
put_kept l at (PutNext.Waits bin) room fits = record { room = room; fits = fits }
put_kept l at PutNext.Done room fits = put_done_kept l l.put room fits
put_kept l at (PutNext.Gives block) room fits = record { room = room; fits = fits }

office_ends : (l : Local) (job : OfficeFor) (end : OfficeEnd) → HasRolls l
    → OfficeFits l.released.items l.put job → ReleasedFits (office_left l job end).0
office_ends l OfficeFor.Ask end room none =
    fits_after l (office_left l OfficeFor.Ask end).0 room none (starts-obtained_as l end).1
office_ends l (OfficeFor.Put first) end room fits = put_done_kept l l.put room fits
office_ends l (OfficeFor.Drain first rest) end room none =
    fits_after l (office_left l (OfficeFor.Drain first rest) end).0 room none (starts-drained_on l rest).1

office_kept : (l : Local) (job : OfficeFor) (at : OfficeAt) (next : OfficeNext) → HasRolls l
    → OfficeFits l.released.items l.put job → ReleasedFits (office_as l job at next).0
office_kept l job at (OfficeNext.Goes next) room fits = record { room = room; fits = fits }
office_kept l job at OfficeNext.Waits room fits = record { room = room; fits = fits }
office_kept l job at (OfficeNext.Left end) room fits = office_ends l job end room fits

-- a reset
clear_kept : (l : Local) (granules : ℕ) (at : ClearAt) (f : ℕ) → HasRolls l → ClearFits l.released.items at
    → ReleasedFits (cleared_as l granules at (clear_learn at f)).0
clear_kept l granules (ClearAt.Peek number) f room none = by (eqb f 0)
  where
    looks : (one : Option Number) → ReleasedFits (cleared_as l granules (ClearAt.Peek number) (peeked one)).0
    looks (Some next) = record { room = room; fits = none }
    looks None = fits_after l (bin_cleared l granules).0 room none (starts-bin_cleared l granules).1

    by : (b : Bool) → ReleasedFits (cleared_as l granules (ClearAt.Peek number)
        (cond b (peeked (number_after number)) (ClearNext.Goes ClearAt.Lock))).0
    by true = looks (number_after number)
    by false = record { room = room; fits = none }
clear_kept l granules ClearAt.Lock f room none = by (eqb f _)
  where
    by : (b : Bool) → ReleasedFits (cleared_as l granules ClearAt.Lock
        (cond b (ClearNext.Goes ClearAt.Head) ClearNext.Waits)).0
    by true = record { room = room; fits = none }
    by false = record { room = room; fits = none }
clear_kept l granules ClearAt.Head f room none = by (link_of f)
  where
    by : (one : Option ℕ) → ReleasedFits (cleared_as l granules ClearAt.Head (clear_headed one)).0
    by (Some block) = record { room = push_room l.released block ∙ room; fits = tt }
    by None = record { room = room; fits = tt }
clear_kept l granules (ClearAt.Link block) f room some = by (link_of f)
  where
    by : (one : Option ℕ) → ReleasedFits (cleared_as l granules (ClearAt.Link block) (clear_walked one)).0
    by (Some next) = record { room = push_room l.released next ∙ room; fits = tt }
    by None = record { room = room; fits = tt }
clear_kept l granules ClearAt.Cut f room some = record { room = room; fits = tt }
clear_kept l granules (ClearAt.Zero number) f room some = by (number_after number)
  where
    by : (one : Option Number) → ReleasedFits (cleared_as l granules (ClearAt.Zero number) (zeroed one)).0
    by (Some next) = record { room = room; fits = tt }
    by None = record { room = room; fits = tt }
clear_kept l granules ClearAt.Unlock f room some = uncaching_fits l granules room

on_kept : (l : Local) (granules : ℕ) → HasRolls l → ReleasedFits (reset_on l (ResetStage.Cache granules)).0
unfolding reset_on
on_kept l granules room = uncaching_fits l granules room

binned_kept : (l : Local) (stage : Stage) → HasRolls l → BinFits l.released.items stage
    → ReleasedFits (binned_at l stage).0
binned_kept l (Stage.Resetting (ResetStage.Cache granules)) room some = on_kept l granules room
binned_kept l (Stage.Resetting stage) room none =
    fits_after l (binned_at l (Stage.Resetting stage)).0 room none (starts-binned_at l (Stage.Resetting stage)).1
binned_kept l stage room none =
    fits_after l (binned_at l stage).0 room none (starts-binned_at l stage).1

bin_kept : (l : Local) (at : BinAt) (next : BinNext) → HasRolls l → BinFits l.released.items l.call.stage
    → ReleasedFits (binned_as l at next).0
bin_kept l at (BinNext.Goes next) room fits = record { room = room; fits = fits }
bin_kept l at BinNext.Waits room fits = record { room = room; fits = fits }
bin_kept l at BinNext.Done room fits = binned_kept l l.call.stage room fits

reset_kept : (l : Local) (at : ResetAt) (f : ℕ) → HasRolls l → ResetFits l.released.items l.call.stage at
    → ReleasedFits (reset_learn_of l at f).0
reset_kept l (ResetAt.Clear granules at) f room fits = clear_kept l granules at f room fits
reset_kept l (ResetAt.Bin at) f room fits = bin_kept l at (bin_learn (binning_call l) at f) room fits
reset_kept l at f room none =
    fits_after l (reset_learn_of l at f).0 room none (starts-reset_learn_of l at f tt).1

turn_kept : (l : Local) (at : At) (s : Seen) → l.at ≡ at → HasRolls l → FitsAt l at
    → ReleasedFits (learn_at l at s).0
turn_kept l (At.Get at) s here room none = fits_after l (learn_at l (At.Get at) s).0 room none
    (get_kept l at (get_learn at (word_seen s)))
turn_kept l (At.Undo cause at) s here room none = fits_after l (learn_at l (At.Undo cause at) s).0 room none
    (undo_kept l cause at (undo_learn at (word_seen s)))
turn_kept l (At.Keep at) s here room none = fits_after l (learn_at l (At.Keep at) s).0 room none
    (keep_kept l at (keep_learn at (word_seen s)))
turn_kept l (At.Sweep at) s here room fits = sweep_kept l at (word_seen s) room fits
turn_kept l (At.Put at) s here room fits = put_kept l at (put_learn (put_call l) at (word_seen s)) room fits
turn_kept l (At.Office job at) s here room fits =
    office_kept l job at (office_learn (office_call l job) at s) room fits
turn_kept l (At.Reset at) s here room fits = reset_kept l at (word_seen s) room fits
turn_kept l at s here room none = fits_after l (learn_at l at s).0 room none (job_turn l at s here tt).1

idle_none : (l : Local) (at : At) → is_idle at ≡ true → FitsAt l at → NoneReleased l
idle_none l At.Idle idle none = none
idle_none l _ idle fits = absurd (cc)

begins_kept : (l next : Local) → ReleasedFits l → BegunAt l next → ReleasedFits next
begins_kept l next fits (inl (idle, begins)) =
    fits_after l next fits.room (idle_none l l.at idle fits.fits) begins.1
begins_kept l next fits (inr is) = subst ReleasedFits (sym is) fits

pub turns_keep_released : TurnsKeepReleased
turns_keep_released l fits = record {
  turns = λ s. turn_kept l l.at s refl fits.room fits.fits;
  begins = λ request. begins_kept l (begun l request).0 fits (begun_lands l request);
  resets = λ reset. begins_kept l (reset_begun l reset).0 fits (reset_begun_lands l reset);
}

pub fresh_locals_fit : FreshLocalsFit
fresh_locals_fit k seat = record { room = refl; fits = refl }
