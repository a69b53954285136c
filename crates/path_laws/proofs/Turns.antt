-- What a turn of a call owes, position by position.
use Rattle.std.proofs.Common.{◌≡◌, ℕ, true, List, [], ◌∷◌, ◌++◌, refl, sym, subst}
use Rattle.std.proofs.lemmas.List.{append-nil}
use Rattle.std.specs.Prelude.{None}
use Rattle.pool_types.specs.declared.values.Turn.{Turn}
use Rattle.pool_words.specs.declared.actions.Seen.{Seen}
use Rattle.pool_words.specs.Actions.{word_seen}
use Rattle.region_steps.specs.Office.{office_learn}
use Rattle.region_steps.specs.declared.office.OfficeAt.{OfficeAt}
use Rattle.region_steps.specs.declared.office.OfficeNext.{OfficeNext}
use Rattle.step_local.specs.Answers.{got, object_got}
use Rattle.step_local.specs.Backend.{office_as, office_call}
use Rattle.step_local.specs.Large.{large_learn}
use Rattle.step_local.specs.Learn.{learn_at}
use Rattle.step_local.specs.Slabs.{small_learn, with_taken}
use Rattle.step_local.specs.declared.frames.At.{At}
use Rattle.step_local.specs.declared.frames.LargeAt.{LargeAt}
use Rattle.step_local.specs.declared.frames.Local.{Local}
use Rattle.step_local.specs.declared.frames.Object.{Object}
use Rattle.step_local.specs.declared.frames.OfficeFor.{OfficeFor}
use Rattle.step_local.specs.declared.frames.SmallAt.{SmallAt}
use Rattle.step_runs.specs.Entries.{gain_at, gain_large, gain_small, loss_at}
use Rattle.word_codes.specs.Links.{link_of}
use Rattle.path_laws.specs.Owing.{freed_at, granted_at}
use Rattle.path_laws.proofs.Backend.{rests-cut_learn_of, rests-drain_learn_of, rests-office_left, rests-put_learn_of}
use Rattle.path_laws.proofs.Backend.{rests-queue_as, rests-scan_learn_of, rests-whole_learn_of}
use Rattle.path_laws.proofs.Fits.{Faces, Rests, Settles, due_frees, due_grants, fits_at, fits_large, fits_office}
use Rattle.path_laws.proofs.Fits.{fits_small, is_getting, on}
use Rattle.path_laws.proofs.Large.{rests-get_learn_of, rests-keep_learn_of, rests-locate_learn, rests-sweep_learn_of}
use Rattle.path_laws.proofs.Large.{rests-tick, rests-undo_learn_of}
use Rattle.path_laws.proofs.Objects.{rests-look_learn_of, rests-mail_learn_of, rests-post_learn_of}
use Rattle.path_laws.proofs.Objects.{settles-end_learn_of}
use Rattle.path_laws.proofs.Paying.{nothing_got, settles-got}
use Rattle.path_laws.proofs.Small.{rests-adopt_learn_of, rests-box_learn_of, rests-join_learn_of}
use Rattle.path_laws.proofs.Small.{rests-leave_learn_of, rests-small_learn, rests-spare_learn_of}

-- the turn neither grants nor frees
plain : (l : Local) (turn : Local × Turn) → Rests l turn → Settles l (due_grants l ++ []) (due_frees l ++ []) turn
plain l turn rests = subst (λ g. Settles l g (due_frees l ++ []) turn) (sym (append-nil (due_grants l)))
    (subst (λ f. Settles l (due_grants l) f turn) (sym (append-nil (due_frees l))) rests)

-- the turn grants an object, where nothing was due
granted : (l : Local) (object : Object) (turn : Local × Turn) → is_getting l.call.stage ≡ true
    → Settles l (object ∷ []) [] turn → Settles l (due_grants l ++ object ∷ []) (due_frees l ++ []) turn
granted l object turn e settles =
    let none = nothing_got l.call.stage l.call.old l.call.new e in
    subst (λ g. Settles l (g ++ object ∷ []) (due_frees l ++ []) turn) (sym none.0)
    (subst (λ f. Settles l (object ∷ []) (f ++ []) turn) (sym none.1) settles)

settles-small_learn : (l : Local) (f : Faces l) (at : SmallAt) (found : ℕ)
    → fits_small l.call.stage l.call.request at ≡ true
    → Settles l (due_grants l ++ gain_small l at) (due_frees l ++ []) (small_learn l at found)
settles-small_learn l f (SmallAt.Private slab head below) found e =
    let l' : Local = with_taken l slab below in granted l (object_got l head) (got l' head) e (settles-got l' head)
settles-small_learn l f (SmallAt.Rest slab unit) found e =
    let l' : Local = with_taken l slab None in granted l (object_got l unit) (got l' unit) e (settles-got l' unit)
settles-small_learn l f at found e = plain l (small_learn l at found) (rests-small_learn l f at found e refl)

settles-large_learn : (l : Local) (f : Faces l) (at : LargeAt) (found : ℕ)
    → fits_large l.call.stage l.call.request at ≡ true
    → Settles l (due_grants l ++ gain_large l at) (due_frees l ++ []) (large_learn l at found)
settles-large_learn l f LargeAt.Tick found e = plain l (large_learn l LargeAt.Tick found) (rests-tick l found e)
settles-large_learn l f (LargeAt.Kind unit) found e = plain l (large_learn l (LargeAt.Kind unit) found)
    (on l (is_getting l.call.stage) e)
settles-large_learn l f (LargeAt.Grant unit) found e = granted l (object_got l unit) (got l unit) e
    (settles-got l unit)

rests-office_as : (l : Local) (f : Faces l) (job : OfficeFor) (at : OfficeAt) (next : OfficeNext)
    → fits_office l.call.stage l.call.request l.sweep.cleanup l.put job ≡ true → Rests l (office_as l job at next)
rests-office_as l f job at (OfficeNext.Goes next) e =
    on l (fits_office l.call.stage l.call.request l.sweep.cleanup l.put job) e
rests-office_as l f job at OfficeNext.Waits e =
    on l (fits_office l.call.stage l.call.request l.sweep.cleanup l.put job) e
rests-office_as l f job at (OfficeNext.Left end) e = rests-office_left l f job end e

-- a grant that was to be ended
ending_settles : (l : Local) (frees : List Object) (turn : Local × Turn) → Settles l (due_grants l) frees turn
    → Settles l (due_grants l ++ []) ([] ++ frees) turn
ending_settles l frees turn settles =
    subst (λ g. Settles l g frees turn) (sym (append-nil (due_grants l))) settles

-- what the turn at this position leaves, where it is one of the call's stage
pub settles_at : (l : Local) (f : Faces l) (at : At) (s : Seen)
    → fits_at l.call.stage l.call.request l.sweep.cleanup l.put at ≡ true
    → Settles l (granted_at l.call at ++ gain_at l at) (freed_at l.call at ++ loss_at l (word_seen s) at)
    (learn_at l at s)
settles_at l f At.Idle s e = absurd (cc)
settles_at l f (At.Ready answer) s e = absurd (cc)
settles_at l f (At.Reset at) s e = absurd (cc)
settles_at l f (At.Office job at) s e =
    plain l (learn_at l (At.Office job at) s) (rests-office_as l f job at (office_learn (office_call l job) at s) e)
settles_at l f (At.Look at) s e = plain l (learn_at l (At.Look at) s) (rests-look_learn_of l f e at (word_seen s))
settles_at l f (At.End at) s e = ending_settles l (loss_at l (word_seen s) (At.End at))
    (learn_at l (At.End at) s) (settles-end_learn_of l f e at (word_seen s))
settles_at l f (At.Post at) s e = plain l (learn_at l (At.Post at) s) (rests-post_learn_of l f e at (word_seen s))
settles_at l f (At.Mail at) s e = plain l (learn_at l (At.Mail at) s) (rests-mail_learn_of l f e at (word_seen s))
settles_at l f (At.Mailbox at) s e = plain l (learn_at l (At.Mailbox at) s) (rests-box_learn_of l e at (word_seen s))
settles_at l f (At.Adopt at) s e = plain l (learn_at l (At.Adopt at) s) (rests-adopt_learn_of l e at (word_seen s))
settles_at l f (At.Join slab rest at) s e = plain l (learn_at l (At.Join slab rest at) s)
    (rests-join_learn_of l e slab rest at (word_seen s))
settles_at l f (At.Spare at) s e = plain l (learn_at l (At.Spare at) s) (rests-spare_learn_of l e at (word_seen s))
settles_at l f (At.Leave slab at) s e = plain l (learn_at l (At.Leave slab at) s)
    (rests-leave_learn_of l e slab at (word_seen s))
settles_at l f (At.Locate at) s e = plain l (learn_at l (At.Locate at) s) (rests-locate_learn l e at (word_seen s))
settles_at l f (At.Small at) s e = settles-small_learn l f at (word_seen s) e
settles_at l f (At.Large at) s e = settles-large_learn l f at (word_seen s) e
settles_at l f (At.Get at) s e = plain l (learn_at l (At.Get at) s) (rests-get_learn_of l f e at (word_seen s))
settles_at l f (At.Undo cause at) s e = plain l (learn_at l (At.Undo cause at) s)
    (rests-undo_learn_of l cause e at (word_seen s))
settles_at l f (At.Keep at) s e = plain l (learn_at l (At.Keep at) s) (rests-keep_learn_of l f e at (word_seen s))
settles_at l f (At.Sweep at) s e = plain l (learn_at l (At.Sweep at) s) (rests-sweep_learn_of l f e at (word_seen s))
settles_at l f (At.Scan at) s e = plain l (learn_at l (At.Scan at) s) (rests-scan_learn_of l e at (word_seen s))
settles_at l f (At.Cut at) s e = plain l (learn_at l (At.Cut at) s) (rests-cut_learn_of l e at (word_seen s))
settles_at l f At.Queue s e = plain l (learn_at l At.Queue s) (rests-queue_as l e (link_of (word_seen s)))
settles_at l f (At.Whole at) s e = plain l (learn_at l (At.Whole at) s) (rests-whole_learn_of l e at (word_seen s))
settles_at l f (At.Drain at) s e = plain l (learn_at l (At.Drain at) s) (rests-drain_learn_of l e at (word_seen s))
settles_at l f (At.Put at) s e = plain l (learn_at l (At.Put at) s) (rests-put_learn_of l f e at (word_seen s))
