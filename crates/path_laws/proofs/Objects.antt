-- Where a call looks at a place, ends a grant, and gets an object: what it owes.
use Rattle.std.proofs.Common.{◌≡◌, ℕ, Bool, true, false, cond, [], ◌∷◌, refl, sym, ap, subst}
use Rattle.std.specs.Prelude.{None, Option, Some, eqb}
use Rattle.heap_slabs.specs.Records.{after_free, is_unused}
use Rattle.heap_slabs.specs.Slabs.{after_replace, record_at}
use Rattle.heap_slabs.specs.declared.records.HeapSlab.{HeapSlab}
use Rattle.mailbox.specs.Mailing.{mail_learn}
use Rattle.mailbox.specs.declared.mailing.MailAt.{MailAt}
use Rattle.mailbox.specs.declared.mailing.MailNext.{MailNext}
use Rattle.pool_types.specs.declared.values.NullCause.{NullCause}
use Rattle.pool_types.specs.declared.values.Request.{Request}
use Rattle.pool_types.specs.declared.values.Turn.{Turn}
use Rattle.public_list.specs.Ending.{end_learn}
use Rattle.public_list.specs.Looking.{look_learn}
use Rattle.public_list.specs.Posting.{post_learn}
use Rattle.public_list.specs.declared.ending.EndAt.{EndAt}
use Rattle.public_list.specs.declared.ending.EndNext.{EndNext}
use Rattle.public_list.specs.declared.looking.LookAt.{LookAt}
use Rattle.public_list.specs.declared.looking.LookNext.{LookNext}
use Rattle.public_list.specs.declared.posting.PostAt.{PostAt}
use Rattle.public_list.specs.declared.posting.PostNext.{PostNext}
use Rattle.step_local.specs.Answers.{end_call, ended_at, ended_object, ending, replaces, slab_of}
use Rattle.step_local.specs.Getting.{decided, get_or, getting, getting_as, getting_or_null, refusal_of, served_as}
use Rattle.step_local.specs.Getting.{stays}
use Rattle.step_local.specs.Objects.{end_as, end_learn_of, freed_in, freed_own, freed_slab, held, held_as}
use Rattle.step_local.specs.Objects.{look_call, look_learn_of, looked_as, mail_as, mail_learn_of, post_as}
use Rattle.step_local.specs.Objects.{post_learn_of}
use Rattle.step_local.specs.declared.frames.Call.{Call}
use Rattle.step_local.specs.declared.frames.Local.{Local}
use Rattle.step_local.specs.declared.frames.Served.{Served}
use Rattle.step_local.specs.declared.frames.Stage.{Stage}
use Rattle.step_runs.specs.Entries.{loss_by}
use Rattle.path_laws.specs.Owing.{frees_at}
use Rattle.path_laws.proofs.Fits.{Faces, Rests, Settles, due_frees, due_grants, either, ends, is_emptying, is_ending}
use Rattle.path_laws.proofs.Fits.{is_looking, is_other_null, is_working, names, on}
use Rattle.path_laws.proofs.Large.{working_to_end}
use Rattle.path_laws.proofs.Paying.{kept_pays, not_held_as_pays, nothing_looked, null_pays, rests-ended}
use Rattle.path_laws.proofs.Paying.{settles-lost_end}
use Rattle.path_laws.proofs.Small.{rests-getting_small}

-- what a request and the local alone refuse is no object's end
abbrev pub is_other : Option NullCause → Bool
is_other (Some cause) = is_other_null cause
is_other None = true

either_other : (b : Bool) (x y : Option NullCause) → is_other x ≡ true → is_other y ≡ true
    → is_other (cond b x y) ≡ true
either_other true x y one other = one
either_other false x y one other = other

pub other_refusal : (l : Local) (wanted : Option Served) → is_other (refusal_of l wanted) ≡ true
other_refusal l None = refl
other_refusal l (Some (Served.Small class)) = either_other _ (Some NullCause.NumbersSpent) None refl refl
other_refusal l (Some (Served.Large granules alignment)) = either_other _ (Some NullCause.NumbersSpent)
    (cond _ (Some (NullCause.TooLarge granules)) None) refl
    (either_other _ (Some (NullCause.TooLarge granules)) None refl refl)

-- an object is to be got, where nothing is owed
pub settles-getting : (l : Local) (served : Served) → Settles l [] [] (getting l served)
settles-getting l (Served.Small class) = rests-getting_small (getting_as l (Served.Small class)) refl class
settles-getting l (Served.Large granules alignment) = refl

settles-get_or : (l : Local) (wanted : Option Served) (cause : Option NullCause) → is_other cause ≡ true
    → Settles l [] [] (get_or l wanted cause)
settles-get_or l wanted (Some cause) other = null_pays cause l.key l.call.request [] [] other (refl, refl)
settles-get_or l (Some served) None other = settles-getting l served
settles-get_or l None None other = (refl, refl)

settles-getting_or_null : (l : Local) (wanted : Option Served) → Settles l [] [] (getting_or_null l wanted)
settles-getting_or_null l wanted = settles-get_or l wanted (refusal_of l wanted) (other_refusal l wanted)

either_settles : (l : Local) (b : Bool) (x y : Local × Turn) → Settles l [] [] x → Settles l [] [] y
    → Settles l [] [] (cond b x y)
either_settles l true x y one other = one
either_settles l false x y one other = other

-- the grant of the object that was looked at is to be ended
settles-ending : (l : Local) → ends l.call.request ≡ true → Settles l [] [] (ending l Stage.Ending)
settles-ending l e = λ i. (l.call.old.number, l.call.old.offset, [], [], e i)

ends_to_replace : (r : Request) → replaces r ≡ true → ends r ≡ true
ends_to_replace (Request.Realloc (Some place) size) e = refl
ends_to_replace (Request.AlignedRealloc (Some place) size alignment) e = refl
ends_to_replace _ e = absurd (cc)

settles-decided : (l : Local) (f : Faces l) (size : ℕ) (alignment : Option ℕ) (base : ℕ)
    → replaces l.call.request ≡ true → Settles l [] [] (decided l size alignment base)
settles-decided l f size alignment base is = either_settles l (eqb size 0) _ _
    (settles-ending l (ends_to_replace l.call.request is))
    (either_settles l (stays l size alignment base) _ _
    (kept_pays (replaces l.call.request) l l.call.request l.call.old [] [] is f (refl, refl))
    (settles-getting_or_null l (served_as size alignment)))

settles-held_as : (l : Local) (f : Faces l) (base : ℕ) (r : Request) → l.call.request ≡ r → names r ≡ true
    → Settles l [] [] (held_as l base r)
settles-held_as l f base (Request.Msize place) is e = (refl, refl)
settles-held_as l f base (Request.Identify place) is e = (refl, refl)
settles-held_as l f base (Request.Realloc (Some place) size) is e = settles-decided l f size None base (ap replaces is)
settles-held_as l f base (Request.AlignedRealloc (Some place) size alignment) is e =
    settles-decided l f size (Some alignment) base (ap replaces is)
settles-held_as l f base (Request.Free (Some place)) is e = settles-ending l (ap ends is)
settles-held_as l f base _ is e = absurd (cc)

names_to_look : (s : Stage) (r : Request) → is_looking s r ≡ true → names r ≡ true
names_to_look Stage.Looking r e = e
names_to_look _ r e = absurd (cc)

-- what is due where nothing is
nothing_due : (l : Local) (turn : Local × Turn) → is_looking l.call.stage l.call.request ≡ true
    → Settles l [] [] turn → Rests l turn
nothing_due l turn e settles =
    let none = nothing_looked l.call.stage l.call.request l.call.old l.call.new e in
    subst (λ g. Settles l g (due_frees l) turn) (sym none.0)
    (subst (λ f. Settles l [] f turn) (sym none.1) settles)

rests-looked_as : (l : Local) (f : Faces l) (e : is_looking l.call.stage l.call.request ≡ true) (next : LookNext)
    → Rests l (looked_as l next)
rests-looked_as l f e (LookNext.Goes at) = on l (is_looking l.call.stage l.call.request) e
rests-looked_as l f e (LookNext.Held unit mark kind base) =
    let l' : Local = record l {
      call = record l.call { old = record l.call.old { unit = unit; mark = mark; kind = kind } };
    } in
    nothing_due l (held l' base) e
    (settles-held_as l' f base l.call.request refl (names_to_look l.call.stage l.call.request e))
rests-looked_as l f e LookNext.Differs = nothing_looked l.call.stage l.call.request l.call.old l.call.new e
rests-looked_as l f e (LookNext.NotHeld found) = not_held_as_pays l.key l.call.request found _ _
    (nothing_looked l.call.stage l.call.request l.call.old l.call.new e)

pub rests-look_learn_of : (l : Local) (f : Faces l) (e : is_looking l.call.stage l.call.request ≡ true) (at : LookAt)
    (found : ℕ) → Rests l (look_learn_of l at found)
rests-look_learn_of l f e at found = rests-looked_as l f e (look_learn (look_call l) at found)

-- a grant was ended
emptying_to_end : (s : Stage) (r : Request) → is_ending s r ≡ true → is_emptying s r ≡ true
emptying_to_end Stage.Ending r e = e
emptying_to_end Stage.Replacing r e = e
emptying_to_end Stage.Undoing r e = e
emptying_to_end _ r e = absurd (cc)

rests-freed_slab : (l : Local) (f : Faces l) (e : is_ending l.call.stage l.call.request ≡ true) (slab : ℕ)
    (kept : HeapSlab) → Rests l (freed_slab l slab kept)
rests-freed_slab l f e slab kept =
    let l' : Local = record l { heap = record l.heap { slabs = after_replace l.heap.slabs kept } } in
    either l' (is_unused kept) _ _
    (on l' (is_emptying l.call.stage l.call.request) (emptying_to_end l.call.stage l.call.request e))
    (rests-ended l' e f)

rests-freed_in : (l : Local) (f : Faces l) (e : is_ending l.call.stage l.call.request ≡ true) (unit slab : ℕ)
    (found : Option HeapSlab) → Rests l (freed_in l unit slab found)
rests-freed_in l f e unit slab (Some kept) = rests-freed_slab l f e slab (after_free kept unit)
rests-freed_in l f e unit slab None = rests-ended l e f

rests-freed_own : (l : Local) (f : Faces l) (e : is_ending l.call.stage l.call.request ≡ true)
    → Rests l (freed_own l)
rests-freed_own l f e = rests-freed_in l f e (ended_object l).unit (slab_of (ended_object l).unit)
    (record_at l.heap.slabs.records (slab_of (ended_object l).unit))

-- the object whose grant was ended is the one that is due
ended_due : (s : Stage) (r : Request) (c : Call) → is_ending s r ≡ true
    → ended_at c s ∷ [] ≡ frees_at s c.old c.new
ended_due Stage.Ending r c e = refl
ended_due Stage.Replacing r c e = refl
ended_due Stage.Undoing r c e = refl
ended_due _ r c e = absurd (cc)

-- where a turn has ended the grant, it is due from then on
now_due : (l : Local) (turn : Local × Turn) → is_ending l.call.stage l.call.request ≡ true → Rests l turn
    → Settles l (due_grants l) (ended_object l ∷ []) turn
now_due l turn e rests = subst (λ f. Settles l (due_grants l) f turn)
    (sym (ended_due l.call.stage l.call.request l.call e)) rests

settles-end_as : (l : Local) (f : Faces l) (e : is_ending l.call.stage l.call.request ≡ true) (next : EndNext)
    → Settles l (due_grants l) (loss_by l next) (end_as l next)
settles-end_as l f e (EndNext.Goes at) =
    λ i. (l.call.old.number, l.call.old.offset, due_grants l, [], e i)
settles-end_as l f e EndNext.Own = now_due l (freed_own l) e (rests-freed_own l f e)
settles-end_as l f e EndNext.Other = now_due l (end_as l EndNext.Other) e
    (on l (is_ending l.call.stage l.call.request) e)
settles-end_as l f e EndNext.Large = now_due l (end_as l EndNext.Large) e
    (on l (is_working l.call.stage l.call.request) (working_to_end l.call.stage l.call.request e))
settles-end_as l f e (EndNext.NotHeld found) = settles-lost_end l found e

pub settles-end_learn_of : (l : Local) (f : Faces l) (e : is_ending l.call.stage l.call.request ≡ true) (at : EndAt)
    (found : ℕ)
    → Settles l (due_grants l) (loss_by l (end_learn (end_call l) at found)) (end_learn_of l at found)
settles-end_learn_of l f e at found = settles-end_as l f e (end_learn (end_call l) at found)

-- the object is posted, and its slab mailed
rests-post_as : (l : Local) (f : Faces l) (e : is_ending l.call.stage l.call.request ≡ true) (next : PostNext)
    → Rests l (post_as l next)
rests-post_as l f e (PostNext.Goes at) = on l (is_ending l.call.stage l.call.request) e
rests-post_as l f e PostNext.Listed = rests-ended l e f
rests-post_as l f e PostNext.Owed = on l (is_ending l.call.stage l.call.request) e

pub rests-post_learn_of : (l : Local) (f : Faces l) (e : is_ending l.call.stage l.call.request ≡ true) (at : PostAt)
    (found : ℕ) → Rests l (post_learn_of l at found)
rests-post_learn_of l f e at found = rests-post_as l f e (post_learn at found)

rests-mail_as : (l : Local) (f : Faces l) (e : is_ending l.call.stage l.call.request ≡ true) (next : MailNext)
    → Rests l (mail_as l next)
rests-mail_as l f e (MailNext.Goes at) = on l (is_ending l.call.stage l.call.request) e
rests-mail_as l f e MailNext.Mailed = rests-ended l e f

pub rests-mail_learn_of : (l : Local) (f : Faces l) (e : is_ending l.call.stage l.call.request ≡ true) (at : MailAt)
    (found : ℕ) → Rests l (mail_learn_of l at found)
rests-mail_learn_of l f e at found = rests-mail_as l f e (mail_learn at found)
