-- Where a call goes on with large objects, with looks and with ends of grants: it comes to grant only where a number
-- is left, and ends a grant only by a mark that names one.
use Rattle.std.proofs.Common.{arith, Bool, cond, eqb, false, refl, ap, true, ℕ, ◌≡◌, ◌<◌}
use Rattle.std.proofs.lemmas.Bool.Decides.{nat_tests}
use Rattle.std.specs.Prelude.{leb, None, Option, Some, ltb, ◌%◌, ◌+◌, ◌^◌, ◌||◌, ⊤}
use Rattle.heap_slabs.specs.Records.{after_free, is_unused, unit_of}
use Rattle.heap_slabs.specs.Rolls.{newest_of}
use Rattle.heap_slabs.specs.Slabs.{first_from, record_at}
use Rattle.heap_slabs.specs.declared.records.HeapSlab.{HeapSlab}
use Rattle.heap_slabs.specs.declared.slabs.Wanted.{Wanted}
use Rattle.large_cache.specs.Get.{get_learn}
use Rattle.large_cache.specs.Keep.{keep_learn}
use Rattle.large_cache.specs.Sweep.{sweep_learn}
use Rattle.large_cache.specs.Undo.{undo_learn}
use Rattle.large_cache.specs.declared.get.GetAt.{GetAt}
use Rattle.large_cache.specs.declared.get.GetNext.{GetNext}
use Rattle.large_cache.specs.declared.keep.KeepAt.{KeepAt}
use Rattle.large_cache.specs.declared.keep.KeepNext.{KeepNext}
use Rattle.large_cache.specs.declared.sweep.Cleanup.{Cleanup}
use Rattle.large_cache.specs.declared.sweep.SweepAt.{SweepAt}
use Rattle.large_cache.specs.declared.sweep.SweepNext.{SweepNext}
use Rattle.large_cache.specs.declared.undo.UndoAt.{UndoAt}
use Rattle.large_cache.specs.declared.undo.UndoNext.{UndoNext}
use Rattle.mailbox.specs.Mailing.{mail_learn}
use Rattle.mailbox.specs.declared.mailing.MailAt.{MailAt}
use Rattle.mailbox.specs.declared.mailing.MailNext.{MailNext}
use Rattle.pool_types.specs.declared.values.NullCause.{NullCause}
use Rattle.pool_types.specs.declared.values.Request.{Request}
use Rattle.public_list.specs.Ending.{end_learn}
use Rattle.public_list.specs.Looking.{is_slab, look_again, look_granted, look_held, look_kinded, look_learn}
use Rattle.public_list.specs.Looking.{look_placed}
use Rattle.public_list.specs.Posting.{post_learn}
use Rattle.public_list.specs.declared.ending.EndAt.{EndAt}
use Rattle.public_list.specs.declared.ending.EndNext.{EndNext}
use Rattle.public_list.specs.declared.looking.LookAt.{LookAt}
use Rattle.public_list.specs.declared.looking.LookCall.{LookCall}
use Rattle.public_list.specs.declared.looking.LookFor.{LookFor}
use Rattle.public_list.specs.declared.looking.LookNext.{LookNext}
use Rattle.public_list.specs.declared.posting.PostAt.{PostAt}
use Rattle.public_list.specs.declared.posting.PostNext.{PostNext}
use Rattle.step_local.specs.Answers.{end_call, ended_object, slab_of}
use Rattle.step_local.specs.Getting.{decided, get_or, getting, getting_as, getting_or_null, last_grant, refusal_of}
use Rattle.step_local.specs.Getting.{served_as, stays}
use Rattle.step_local.specs.Large.{bins_swept, cached, cached_at, cleanup_ticks, emptying, emptying_by, get_as}
use Rattle.step_local.specs.Large.{get_learn_of}
use Rattle.step_local.specs.Large.{got_block, granules_of_served, keep_as, keep_learn_of, kept_as, large_learn}
use Rattle.step_local.specs.Frames.{last_cache_bin}
use Rattle.step_local.specs.Large.{last_slot, locate_learn, located_as, located_index, next_bin}
use Rattle.step_local.specs.Large.{object_at, object_in, releasing, releasing_by, slot_looked, sweep_call}
use Rattle.step_local.specs.Large.{sweep_learn_of, swept, swept_as, tick_at, ticked, undo_as, undo_learn_of}
use Rattle.step_local.specs.Large.{unused_next}
use Rattle.step_local.specs.Objects.{end_as, end_learn_of, freed_at, freed_in, freed_own, freed_slab, held, held_as}
use Rattle.step_local.specs.Objects.{look_call, look_learn_of, looked_as, mail_as, mail_learn_of, post_as}
use Rattle.step_local.specs.Objects.{post_learn_of}
use Rattle.step_local.specs.declared.frames.LargeAt.{LargeAt}
use Rattle.step_local.specs.declared.frames.Local.{Local}
use Rattle.step_local.specs.declared.frames.LocateAt.{LocateAt}
use Rattle.step_local.specs.declared.frames.Served.{Served}
use Rattle.step_local.specs.declared.frames.Stage.{Stage}
use Rattle.word_codes.specs.declared.kinds.Kind.{Kind}
use Rattle.word_codes.specs.declared.marks.Mark.{Mark}
use Rattle.word_codes.specs.Kinds.{kind_of}
use Rattle.word_codes.specs.Marks.{mark_of}
use Rattle.word_codes.specs.Places.{granule_of}
use Rattle.word_codes.specs.RegionWords.{has_granule, has_number, region_of, unit_in}
use Rattle.step_numbers.specs.Positions.{IsGrantWord, granting_large, is_getting, may_grant_large, may_grant_swept}
use Rattle.step_numbers.specs.Positions.{CanGrant, LookFits, StageFits, EndFits}
use Rattle.step_numbers.proofs.Kept.{Fits, SweepFits, either, never}
use Rattle.step_numbers.proofs.Small.{fits-getting_small, fits-lost_end}

pub fits-getting : (l : Local) (served : Served) → CanGrant l → Fits l.last (getting l served)
fits-getting l (Served.Small class) can = fits-getting_small (getting_as l (Served.Small class)) class can
fits-getting l (Served.Large granules alignment) can = (refl, λ _. can)

left_by : (last : ℕ) (other : Option NullCause)
    → cond (leb last_grant last) (Some NullCause.NumbersSpent) other ≡ None → last < last_grant
left_by last other e = by (leb last_grant last) refl e
  where
    by : (b : Bool) → leb last_grant last ≡ b → cond b (Some NullCause.NumbersSpent) other ≡ None → last < last_grant
    by true spent none = absurd (cc)
    by false spent none = grind (arith, nat_tests)

-- where nothing refuses what is asked, a number is left
pub number_left : (l : Local) (wanted : Option Served) → refusal_of l wanted ≡ None → l.last < last_grant
number_left l None e = absurd (cc)
number_left l (Some (Served.Small class)) e = left_by l.last None e
number_left l (Some (Served.Large granules alignment)) e = left_by l.last _ e

pub fits-get_or : (l : Local) (wanted : Option Served) (cause : Option NullCause) → (cause ≡ None → CanGrant l)
    → Fits l.last (get_or l wanted cause)
fits-get_or l wanted (Some cause) can = (refl, tt)
fits-get_or l (Some served) None can = fits-getting l served (can refl)
fits-get_or l None None can = (refl, tt)

fits-getting_or_null : (l : Local) (wanted : Option Served) → IsGrantWord l.call.old.mark
    → Fits l.last (getting_or_null l wanted)
fits-getting_or_null l wanted held =
    fits-get_or l wanted (refusal_of l wanted)
    (λ none. record { left = number_left l wanted none; held = λ _. held })

fits-decided : (l : Local) (size : ℕ) (alignment : Option ℕ) (base : ℕ) → IsGrantWord l.call.old.mark
    → Fits l.last (decided l size alignment base)
fits-decided l size alignment base held = either (eqb size 0) _ _ (refl, (held, tt, never))
    (either (stays l size alignment base) _ _ (refl, tt)
    (fits-getting_or_null l (served_as size alignment) held))

fits-got_block : (l : Local) → CanGrant l → Fits l.last (got_block l)
fits-got_block l can = either l.call.missed _ _ (refl, λ _. can) (refl, λ _. can)

fits-cached_at : (l : Local) (stage : Stage) → l.call.stage ≡ stage → StageFits l → Fits l.last (cached_at l stage)
fits-cached_at l Stage.Getting is fits = fits-got_block l (fits (ap is_getting is))
fits-cached_at l Stage.Idle is fits = (refl, tt)
fits-cached_at l Stage.Looking is fits = (refl, tt)
fits-cached_at l Stage.Ending is fits = (refl, tt)
fits-cached_at l Stage.Replacing is fits = (refl, tt)
fits-cached_at l Stage.Undoing is fits = (refl, tt)
fits-cached_at l Stage.Leaving is fits = (refl, tt)
fits-cached_at l (Stage.Resetting stage) is fits = (refl, tt)

fits-cached : (l : Local) → StageFits l → Fits l.last (cached l)
fits-cached l fits = fits-cached_at l l.call.stage refl fits

pub fits-ticked : (l : Local) → StageFits l → Fits l.last (ticked l)
fits-ticked l fits = either (eqb (l.call.time % cleanup_ticks) 0) _ _ (refl, fits) (fits-cached l fits)

fits-swept : (l : Local) (cleanup : Cleanup) → (may_grant_swept l.call.stage cleanup ≡ true → CanGrant l)
    → Fits l.last (swept l cleanup)
fits-swept l Cleanup.Regular fits = fits-cached l fits
fits-swept l Cleanup.Soft fits = (refl, fits)
fits-swept l Cleanup.Hard fits = (refl, fits)

fits-unused_next : (l : Local) (found : Option HeapSlab) → CanGrant l → Fits l.last (unused_next l found)
fits-unused_next l (Some kept) can = (refl, λ _. can)
fits-unused_next l None can = fits-swept l l.sweep.cleanup (λ _. can)

fits-emptying_by : (l : Local) (one : Option ℕ) → CanGrant l → Fits l.last (emptying_by l one)
fits-emptying_by l (Some slab) can = (refl, λ _. can)
fits-emptying_by l None can = fits-unused_next l (first_from Wanted.Unused l.heap.slabs 0) can

pub fits-emptying : (l : Local) → CanGrant l → Fits l.last (emptying l)
fits-emptying l can = fits-emptying_by l (newest_of l.heap.cached) can

fits-bins_swept : (l : Local) (cleanup : Cleanup) → (may_grant_swept l.call.stage cleanup ≡ true → CanGrant l)
    → Fits l.last (bins_swept l cleanup)
fits-bins_swept l Cleanup.Regular fits = fits-swept l Cleanup.Regular fits
fits-bins_swept l Cleanup.Soft fits = fits-swept l Cleanup.Soft fits
fits-bins_swept l Cleanup.Hard fits = fits-emptying l (fits refl)

fits-next_bin : (l : Local) → SweepFits l → Fits l.last (next_bin l)
fits-next_bin l fits =
    either (ltb l.sweep.granules last_cache_bin) _ _ (refl, fits) (fits-bins_swept l l.sweep.cleanup fits)

fits-releasing_by : (l : Local) (one : Option ℕ) → SweepFits l → Fits l.last (releasing_by l one)
fits-releasing_by l (Some block) fits = (refl, fits)
fits-releasing_by l None fits = fits-next_bin l fits

pub fits-releasing : (l : Local) → SweepFits l → Fits l.last (releasing l)
fits-releasing l fits = fits-releasing_by l (newest_of l.released) fits

fits-swept_as : (l : Local) (at : SweepAt) (next : SweepNext) → SweepFits l → Fits l.last (swept_as l at next)
fits-swept_as l at (SweepNext.Goes next) fits = (refl, fits)
fits-swept_as l at (SweepNext.Stays next) fits = (refl, fits)
fits-swept_as l at (SweepNext.Stale block next) fits = (refl, fits)
fits-swept_as l at SweepNext.Waits fits = (refl, fits)
fits-swept_as l at (SweepNext.Began time) fits = (refl, fits)
fits-swept_as l at SweepNext.Passed fits = fits-next_bin l fits
fits-swept_as l at SweepNext.Swept fits = fits-releasing l fits

pub fits-sweep_learn_of : (l : Local) (at : SweepAt) (f : ℕ) → SweepFits l → Fits l.last (sweep_learn_of l at f)
fits-sweep_learn_of l at f fits = fits-swept_as l at (sweep_learn (sweep_call l) at f) fits

fits-get_as : (l : Local) (at : GetAt) (next : GetNext) → CanGrant l → Fits l.last (get_as l at next)
fits-get_as l at (GetNext.Goes next) can = (refl, λ _. can)
fits-get_as l at GetNext.Waits can = (refl, λ _. can)
fits-get_as l at (GetNext.Took block) can = fits-ticked (record l {
  call = record l.call {
    missed = false;
    block = record { first = block; granules = granules_of_served l.call.served };
  };
}) (λ _. can)
fits-get_as l at GetNext.Missed can = fits-ticked (record l { call = record l.call { missed = true } }) (λ _. can)

pub fits-get_learn_of : (l : Local) (at : GetAt) (f : ℕ) → CanGrant l → Fits l.last (get_learn_of l at f)
fits-get_learn_of l at f can = fits-get_as l at (get_learn at f) can

fits-undo_as : (l : Local) (cause : NullCause) (at : UndoAt) (next : UndoNext) → StageFits l
    → Fits l.last (undo_as l cause at next)
fits-undo_as l cause at (UndoNext.Goes next) fits = (refl, fits)
fits-undo_as l cause at UndoNext.Waits fits = (refl, fits)
fits-undo_as l cause at UndoNext.Undone fits = (refl, tt)

pub fits-undo_learn_of : (l : Local) (cause : NullCause) (at : UndoAt) (f : ℕ) → StageFits l
    → Fits l.last (undo_learn_of l cause at f)
fits-undo_learn_of l cause at f fits = fits-undo_as l cause at (undo_learn at f) fits

fits-kept_as : (l : Local) (one : Option ℕ) → StageFits l → Fits l.last (kept_as l one)
fits-kept_as l (Some block) fits = (refl, fits)
fits-kept_as l None fits = fits-ticked l fits

fits-keep_as : (l : Local) (at : KeepAt) (next : KeepNext) → StageFits l → Fits l.last (keep_as l at next)
fits-keep_as l at (KeepNext.Goes next) fits = (refl, fits)
fits-keep_as l at KeepNext.Waits fits = (refl, fits)
fits-keep_as l at (KeepNext.Kept released) fits = fits-kept_as l released fits

pub fits-keep_learn_of : (l : Local) (at : KeepAt) (f : ℕ) → StageFits l → Fits l.last (keep_learn_of l at f)
fits-keep_learn_of l at f fits = fits-keep_as l at (keep_learn at f) fits

fits-tick_at : (l : Local) (stage : Stage) → l.call.stage ≡ stage → StageFits l → Fits l.last (tick_at l stage)
fits-tick_at l Stage.Getting is fits = (refl, λ _. fits (ap is_getting is))
fits-tick_at l Stage.Idle is fits = (refl, fits)
fits-tick_at l Stage.Looking is fits = (refl, fits)
fits-tick_at l Stage.Ending is fits = (refl, fits)
fits-tick_at l Stage.Replacing is fits = (refl, fits)
fits-tick_at l Stage.Undoing is fits = (refl, fits)
fits-tick_at l Stage.Leaving is fits = (refl, fits)
fits-tick_at l (Stage.Resetting stage) is fits = (refl, fits)

-- but where it grants
pub fits-large_learn : (l : Local) (at : LargeAt) (f : ℕ) → granting_large at ≡ None
    → (may_grant_large l at ≡ true → CanGrant l) → Fits l.last (large_learn l at f)
fits-large_learn l LargeAt.Tick f none fits =
    fits-tick_at (record l { call = record l.call { time = (f + 1) % 2 ^ 64 } }) l.call.stage refl fits
fits-large_learn l (LargeAt.Kind unit) f none fits = (refl, fits)
fits-large_learn l (LargeAt.Grant unit) f none fits = absurd (cc)

fits-object_at : (l : Local) (slab : ℕ) (one : Option ℕ) (unit : ℕ) → CanGrant l
    → Fits l.last (object_at l slab one unit)
fits-object_at l slab (Some head) unit can = (refl, λ _. can)
fits-object_at l slab None unit can = (refl, λ _. can)

fits-object_in : (l : Local) (slab : ℕ) (found : Option HeapSlab) → CanGrant l
    → Fits l.last (object_in l slab found)
fits-object_in l slab (Some kept) can = fits-object_at l slab kept.head (unit_of slab kept.class kept.handed) can
fits-object_in l slab None can = fits-object_at l slab None 0 can

fits-located_as : (l : Local) (region base : ℕ) (served : Served) → CanGrant l
    → Fits l.last (located_as l region base served)
fits-located_as l region base (Served.Small class) can =
    fits-object_in l l.call.slab (record_at l.heap.slabs.records l.call.slab) can
fits-located_as l region base (Served.Large granules alignment) can = (refl, λ _. can)

fits-slot_looked : (l : Local) (slot region : ℕ) → CanGrant l → Fits l.last (slot_looked l slot region)
fits-slot_looked l slot region can =
    either (has_granule (region_of region) (located_index l l.call.served)) _ _ (refl, λ _. can)
    (either (ltb slot last_slot) _ _ (refl, λ _. can) (refl, λ _. can))

pub fits-locate_learn : (l : Local) (at : LocateAt) (f : ℕ) → CanGrant l → Fits l.last (locate_learn l at f)
fits-locate_learn l (LocateAt.Region slot) f can = fits-slot_looked l slot f can
fits-locate_learn l (LocateAt.Base slot region) f can =
    fits-located_as (record l { call = record l.call { region = region } }) region f l.call.served can

-- what a look finds held has a grant
abbrev LookNextFits : LookNext → Type 0
LookNextFits (LookNext.Goes at) = LookFits at
LookNextFits (LookNext.Held unit mark kind base) = IsGrantWord mark
LookNextFits LookNext.Differs = ⊤
LookNextFits (LookNext.NotHeld found) = ⊤

looked_fits : (b : Bool) (x y : LookNext) → LookNextFits x → LookNextFits y → LookNextFits (cond b x y)
looked_fits true x y one other = one
looked_fits false x y one other = other

placed_fits : (one : Option ℕ) → LookNextFits (look_placed one)
placed_fits (Some u) = tt
placed_fits None = tt

granted_fits : (u m : ℕ) (mark : Mark) → mark_of m ≡ mark → LookNextFits (look_granted u m mark)
granted_fits u m Mark.Unmarked e = tt
granted_fits u m (Mark.Granted grant) e = (grant, e)
granted_fits u m (Mark.Hand seat) e = tt
granted_fits u m (Mark.Link v) e = tt
granted_fits u m Mark.End e = tt
granted_fits u m Mark.EndUnusable e = tt

held_fits : (why : LookFor) (u m : ℕ) (kind : Kind) → IsGrantWord m → LookNextFits (look_held why u m kind)
held_fits LookFor.Free u m kind noted = noted
held_fits LookFor.Size u m kind noted = noted
held_fits LookFor.Pool u m kind noted = noted
held_fits LookFor.Realloc u m kind noted = noted

kinded_fits : (why : LookFor) (u m : ℕ) (kind : Kind) → IsGrantWord m → LookNextFits (look_kinded why u m kind)
kinded_fits why u m kind noted =
    looked_fits (is_slab kind || eqb (granule_of u % 2) 0) _ _ (held_fits why u m kind noted) noted

again_fits : (why : LookFor) (m : ℕ) → LookNextFits (look_again why m)
again_fits LookFor.Free m = tt
again_fits LookFor.Size m = tt
again_fits LookFor.Pool m = tt
again_fits LookFor.Realloc m = tt

look_fits : (c : LookCall) (at : LookAt) (f : ℕ) → LookFits at → LookNextFits (look_learn c at f)
look_fits c LookAt.Region f noted =
    looked_fits (has_number (region_of f) c.number) _ _ (placed_fits (unit_in (region_of f) c.offset)) tt
look_fits c (LookAt.Mark u) f noted = tt
look_fits c (LookAt.Again u m) f noted =
    looked_fits (has_number (region_of f) c.number) _ _ (granted_fits u m (mark_of m) refl) tt
look_fits c (LookAt.Kind u m) f noted = kinded_fits c.reason u m (kind_of f) noted
look_fits c (LookAt.Odd u m) f noted = held_fits c.reason u m (kind_of f) noted
look_fits c (LookAt.Base u m k) f noted = noted
look_fits c (LookAt.Second u m k base) f noted = looked_fits (eqb f m) _ _ noted (again_fits c.reason f)
look_fits c (LookAt.Gone m) f noted = tt

fits-held_as : (l : Local) (base : ℕ) (request : Request) → IsGrantWord l.call.old.mark
    → Fits l.last (held_as l base request)
fits-held_as l base (Request.Msize place) held = (refl, tt)
fits-held_as l base (Request.Identify place) held = (refl, tt)
fits-held_as l base (Request.Realloc place size) held = fits-decided l size None base held
fits-held_as l base (Request.AlignedRealloc place size alignment) held = fits-decided l size (Some alignment) base held
fits-held_as l base (Request.Malloc size) held = (refl, (held, tt, never))
fits-held_as l base (Request.Aligned size alignment) held = (refl, (held, tt, never))
fits-held_as l base (Request.Free place) held = (refl, (held, tt, never))
fits-held_as l base Request.Exit held = (refl, (held, tt, never))

fits-held : (l : Local) (base : ℕ) → IsGrantWord l.call.old.mark → Fits l.last (held l base)
fits-held l base held = fits-held_as l base l.call.request held

fits-looked_as : (l : Local) (next : LookNext) → LookNextFits next → Fits l.last (looked_as l next)
fits-looked_as l (LookNext.Goes at) noted = (refl, noted)
fits-looked_as l (LookNext.Held unit mark kind base) noted = fits-held (record l {
  call = record l.call { old = record l.call.old { unit = unit; mark = mark; kind = kind } };
}) base noted
fits-looked_as l LookNext.Differs noted = (refl, tt)
fits-looked_as l (LookNext.NotHeld found) noted = (refl, tt)

pub fits-look_learn_of : (l : Local) (at : LookAt) (f : ℕ) → LookFits at → Fits l.last (look_learn_of l at f)
fits-look_learn_of l at f noted =
    fits-looked_as l (look_learn (look_call l) at f) (look_fits (look_call l) at f noted)

fits-freed_slab : (l : Local) (slab : ℕ) (kept : HeapSlab) → StageFits l → Fits l.last (freed_slab l slab kept)
fits-freed_slab l slab kept fits = either (is_unused kept) _ _ (refl, fits) (refl, tt)

fits-freed_in : (l : Local) (unit slab : ℕ) (found : Option HeapSlab) → StageFits l
    → Fits l.last (freed_in l unit slab found)
fits-freed_in l unit slab (Some kept) fits = fits-freed_slab l slab (after_free kept unit) fits
fits-freed_in l unit slab None fits = (refl, tt)

fits-freed_at : (l : Local) (unit slab : ℕ) → StageFits l → Fits l.last (freed_at l unit slab)
fits-freed_at l unit slab fits = fits-freed_in l unit slab (record_at l.heap.slabs.records slab) fits

fits-freed_own : (l : Local) → StageFits l → Fits l.last (freed_own l)
fits-freed_own l fits = fits-freed_at l (ended_object l).unit (slab_of (ended_object l).unit) fits

fits-end_as : (l : Local) (next : EndNext) → EndFits l → Fits l.last (end_as l next)
fits-end_as l (EndNext.Goes at) fits = (refl, fits)
fits-end_as l EndNext.Own fits = fits-freed_own l fits.2
fits-end_as l EndNext.Other fits = (refl, fits.2)
fits-end_as l EndNext.Large fits = (refl, fits.2)
fits-end_as l (EndNext.NotHeld found) fits = fits-lost_end l found fits.1

pub fits-end_learn_of : (l : Local) (at : EndAt) (f : ℕ) → EndFits l → Fits l.last (end_learn_of l at f)
fits-end_learn_of l at f fits = fits-end_as l (end_learn (end_call l) at f) fits

fits-post_as : (l : Local) (next : PostNext) → StageFits l → Fits l.last (post_as l next)
fits-post_as l (PostNext.Goes at) fits = (refl, fits)
fits-post_as l PostNext.Listed fits = (refl, tt)
fits-post_as l PostNext.Owed fits = (refl, fits)

pub fits-post_learn_of : (l : Local) (at : PostAt) (f : ℕ) → StageFits l → Fits l.last (post_learn_of l at f)
fits-post_learn_of l at f fits = fits-post_as l (post_learn at f) fits

fits-mail_as : (l : Local) (next : MailNext) → StageFits l → Fits l.last (mail_as l next)
fits-mail_as l (MailNext.Goes at) fits = (refl, fits)
fits-mail_as l MailNext.Mailed fits = (refl, tt)

pub fits-mail_learn_of : (l : Local) (at : MailAt) (f : ℕ) → StageFits l → Fits l.last (mail_learn_of l at f)
fits-mail_learn_of l at f fits = fits-mail_as l (mail_learn at f) fits
