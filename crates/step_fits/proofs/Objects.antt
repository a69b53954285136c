-- What a local says where an object is looked at, a grant is ended, and another object is got.
use Rattle.std.proofs.Common.{◌≡◌, ℕ, ◌<◌, Bool, true, false, cond, eqb, leb, Option, Some, None, refl, sym, ap}
use Rattle.std.proofs.Common.{subst, arith}
use Rattle.std.proofs.lemmas.Bool.Decides.{nat_tests}
use Rattle.pool_types.specs.declared.values.Answer.{Answer}
use Rattle.pool_types.specs.declared.values.NullCause.{NullCause}
use Rattle.pool_types.specs.declared.values.Request.{Request}
use Rattle.pool_words.specs.declared.words.Key.{Key}
use Rattle.heap_slabs.specs.declared.records.HeapSlab.{HeapSlab}
use Rattle.heap_slabs.specs.Records.{after_free, is_unused}
use Rattle.heap_slabs.specs.Slabs.{after_replace, record_at}
use Rattle.mailbox.specs.declared.mailing.MailNext.{MailNext}
use Rattle.public_list.specs.Looking.{found_at}
use Rattle.public_list.specs.declared.ending.EndAt.{EndAt}
use Rattle.public_list.specs.declared.ending.EndNext.{EndNext}
use Rattle.public_list.specs.declared.looking.LookNext.{LookNext}
use Rattle.public_list.specs.declared.posting.PostNext.{PostNext}
use Rattle.word_codes.specs.declared.kinds.Kind.{Kind}
use Rattle.step_local.specs.declared.frames.Local.{Local}
use Rattle.step_local.specs.declared.frames.Object.{Object}
use Rattle.step_local.specs.declared.frames.Served.{Served}
use Rattle.step_local.specs.declared.frames.Stage.{Stage}
use Rattle.step_local.specs.Answers.{end_by, end_call, end_in, ended_object, got_of, not_held_as, slab_of}
use Rattle.step_local.specs.Answers.{replaces, usable_of}
use Rattle.step_local.specs.Getting.{decided, get_or, getting, getting_as, last_grant, refusal_of, served_as, stays}
use Rattle.step_local.specs.Objects.{block_in, end_as, end_learn_of, freed_in, freed_own, freed_slab, held}
use Rattle.step_local.specs.Objects.{held_as, looked_as, mail_as, post_as}
use Rattle.step_fits.specs.Frames.{CallFits, Frames, Gets, LooksFor, ServedFits}
use Rattle.step_fits.specs.Frames.{plain_rooms, wanted_of}
use Rattle.step_fits.specs.Large.{FreesBlock, IsInBlock, TickFits}
use Rattle.step_fits.specs.Mail.{EndFits, GivesBack}
use Rattle.step_fits.specs.Small.{EndsSlab, IsEnding, KeepsUnused}
use Rattle.step_fits.proofs.Framed.{Fits, either, fits-answered, fits-ended, other_call, other_slabs}
use Rattle.step_fits.proofs.Heaps.{freed-here, replace-fits}
use Rattle.step_fits.proofs.Slabs.{fits-ending, fits-lost_end}
use Rattle.step_fits.proofs.Small.{fits-getting_small}
use Rattle.step_fits.proofs.Wanted.{WantedFits, wanted_fits}

-- an object that is freed as a large one lies in a block
in_large : (found : Option HeapSlab) → EndAt.Large ≡ end_in found → ⊥
in_large (Some kept) is = absurd (cc)
in_large None is = absurd (cc)

large_kind : (l : Local) (unit : ℕ) (kind : Kind) → EndAt.Large ≡ end_by l unit kind → IsInBlock kind
large_kind l unit (Kind.Large first granules) is = tt
large_kind l unit (Kind.Slab class) is =
    absurd (in_large (record_at l.heap.slabs.records (slab_of unit)) is)
large_kind l unit Kind.Nothing is = absurd (cc)
large_kind l unit Kind.CachedSlab is = absurd (cc)

-- the span decides where the request does not
abbrev RefusedNot : Key → Option Served → Type 0
RefusedNot known None = ⊥
RefusedNot known (Some (Served.Small class)) = Unit {0}
RefusedNot known (Some (Served.Large granules alignment)) = granules < known.span

not_refused : (l : Local) (wanted : Option Served) → refusal_of l wanted ≡ None → RefusedNot l.key wanted
not_refused l None is = absurd (cc)
not_refused l (Some (Served.Small class)) is = tt
not_refused l (Some (Served.Large granules alignment)) is = by (leb last_grant l.last) (leb l.key.span granules) refl is
  where
    by : (spent large : Bool) → leb l.key.span granules ≡ large
        → cond spent (Some NullCause.NumbersSpent)
        (cond large (Some (NullCause.TooLarge granules)) None) ≡ None
        → granules < l.key.span
    by true large at is = absurd (cc)
    by false true at is = absurd (cc)
    by false false at is = grind (arith, nat_tests)

served_of : (k known : Key) (served : Served) → known ≡ k → WantedFits (Some served) → RefusedNot known (Some served)
    → ServedFits k served
served_of k known (Served.Small class) same fits few = fits
served_of k known (Served.Large granules alignment) same fits few =
    (fits, subst (λ (x : Key). granules < x.span) same few)

unused_ends : (l : Local) (slab : ℕ) (stage : Stage) → IsEnding stage → KeepsUnused l slab → EndsSlab l slab stage
unused_ends l slab Stage.Ending ends is = is
unused_ends l slab Stage.Replacing ends is = is
unused_ends l slab Stage.Undoing ends is = is
unused_ends l slab _ ends is = absurd ends

ending_ticks : (l : Local) (stage : Stage) → IsEnding stage → FreesBlock l → TickFits l stage
ending_ticks l Stage.Ending ends is = is
ending_ticks l Stage.Replacing ends is = is
ending_ticks l Stage.Undoing ends is = is
ending_ticks l _ ends is = absurd ends

module _ (sure : Bool) {k : Key} {seat : ℕ} where
  -- an object is to be got
  pub fits-getting : (l : Local) (served : Served) → Frames k seat plain_rooms l
      → Gets k l.call.request l.call.old served → Fits k seat sure (getting l served)
  fits-getting l (Served.Small class) frames gets =
      fits-getting_small sure (getting_as l (Served.Small class)) class
      (other_call frames l.call.request l.call.old (Served.Small class) Stage.Getting gets) refl refl gets.fits tt
  fits-getting l (Served.Large granules alignment) frames gets =
      (other_call frames l.call.request l.call.old (Served.Large granules alignment) Stage.Getting gets, tt)

  -- what is asked is served, where nothing refuses it
  pub gets_served : (l : Local) (served : Served) → Frames k seat plain_rooms l
      → wanted_of l.call.request ≡ Some served → WantedFits (Some served) → refusal_of l (Some served) ≡ None
      → (replaces_it : replaces l.call.request ≡ true → LooksFor k l.call.request l.call.old)
      → Gets k l.call.request l.call.old served
  gets_served l served frames wanted fits none held = record {
    wanted = wanted;
    fits = served_of k l.key served frames.key fits (not_refused l (Some served) none);
    old' = held;
  }

  fits-get_or : (l : Local) (wanted : Option Served) (cause : Option NullCause) → Frames k seat plain_rooms l
      → wanted_of l.call.request ≡ wanted → WantedFits wanted → refusal_of l wanted ≡ cause
      → LooksFor k l.call.request l.call.old → Fits k seat sure (get_or l wanted cause)
  fits-get_or l wanted (Some cause) frames is fits e looks = fits-answered sure l (Answer.Null cause) frames
  fits-get_or l (Some served) None frames is fits e looks =
      fits-getting l served frames (gets_served l served frames is fits e (λ _. looks))
  fits-get_or l None None frames is fits e looks = fits-answered sure l (Answer.Null NullCause.BadRequest) frames

  fits-decided : (l : Local) (size : ℕ) (alignment : Option ℕ) (base : ℕ) → Frames k seat plain_rooms l
      → wanted_of l.call.request ≡ served_as size alignment → LooksFor k l.call.request l.call.old
      → Fits k seat sure (decided l size alignment base)
  fits-decided l size alignment base frames is looks = either sure (eqb size 0) _ _
      (λ _. fits-ending sure l Stage.Ending frames tt looks)
      (λ _. either sure (stays l size alignment base) _ _
      (λ _. fits-answered sure l (got_of l l.call.old) frames)
      (λ _. fits-get_or l (served_as size alignment) (refusal_of l (served_as size alignment)) frames is
      (wanted_fits size alignment) refl looks))

  fits-held_as : (l : Local) (base : ℕ) (request : Request) → Frames k seat plain_rooms l
      → l.call.request ≡ request → LooksFor k l.call.request l.call.old → Fits k seat sure (held_as l base request)
  fits-held_as l base (Request.Msize place) frames is looks =
      fits-answered sure l (Answer.Size (usable_of l.call.old.kind l.call.old.unit)) frames
  fits-held_as l base (Request.Identify place) frames is looks =
      fits-answered sure l (Answer.Pool l.key.pool) frames
  fits-held_as l base (Request.Realloc place size) frames is looks =
      fits-decided l size None base frames (ap wanted_of is) looks
  fits-held_as l base (Request.AlignedRealloc place size alignment) frames is looks =
      fits-decided l size (Some alignment) base frames (ap wanted_of is) looks
  fits-held_as l base (Request.Malloc size) frames is looks = fits-ending sure l Stage.Ending frames tt looks
  fits-held_as l base (Request.Aligned size alignment) frames is looks = fits-ending sure l Stage.Ending frames tt looks
  fits-held_as l base (Request.Free place) frames is looks = fits-ending sure l Stage.Ending frames tt looks
  fits-held_as l base Request.Exit frames is looks = fits-ending sure l Stage.Ending frames tt looks

  pub fits-looked_as : (l : Local) (next : LookNext) → Frames k seat plain_rooms l → l.call.stage ≡ Stage.Looking
      → Fits k seat sure (looked_as l next)
  fits-looked_as l (LookNext.Goes at) frames is = (frames, is)
  fits-looked_as l (LookNext.Held unit mark kind base) frames is =
      let looks : LooksFor k l.call.request l.call.old =
      subst (CallFits k l.call.request l.call.old l.call.served) is frames.call in
      let old : Object = record l.call.old { unit = unit; mark = mark; kind = kind } in
      fits-held_as (record l { call = record l.call { old = old } }) base l.call.request
      (other_call frames l.call.request old l.call.served l.call.stage
      (subst (CallFits k l.call.request old l.call.served) (sym is) looks)) refl looks
  fits-looked_as l LookNext.Differs frames is = fits-answered sure l Answer.NoPool frames
  fits-looked_as l (LookNext.NotHeld found) frames is =
      fits-answered sure l (not_held_as l.call.request found) frames

  -- a grant is ended
  fits-freed_slab : (l : Local) (slab : ℕ) (kept : HeapSlab) → Frames k seat plain_rooms l → IsEnding l.call.stage
      → record_at (after_replace l.heap.slabs kept).records slab ≡ Some kept → Fits k seat sure (freed_slab l slab kept)
  fits-freed_slab l slab kept frames ends there =
      let slabs = after_replace l.heap.slabs kept in
      let next : Local = record l { heap = record l.heap { slabs = after_replace l.heap.slabs kept } } in
      let framed : Frames k seat plain_rooms next =
      other_slabs frames slabs (replace-fits k l.heap.slabs kept frames.slabs) in
      either sure (is_unused kept) _ _
      (λ (unused : is_unused kept ≡ true).
      (framed, unused_ends next slab l.call.stage ends (kept, record { there = there; unused = unused })))
      (λ _. fits-ended sure next framed)

  fits-freed_in : (l : Local) (unit slab : ℕ) (found : Option HeapSlab) → Frames k seat plain_rooms l
      → IsEnding l.call.stage → record_at l.heap.slabs.records slab ≡ found
      → Fits k seat sure (freed_in l unit slab found)
  fits-freed_in l unit slab (Some kept) frames ends is =
      fits-freed_slab l slab (after_free kept unit) frames ends
      (freed-here k l.heap.slabs slab unit kept frames.slabs is)
  fits-freed_in l unit slab None frames ends is = fits-ended sure l frames

  fits-freed_own : (l : Local) → Frames k seat plain_rooms l → IsEnding l.call.stage → Fits k seat sure (freed_own l)
  fits-freed_own l frames ends = fits-freed_in l (ended_object l).unit (slab_of (ended_object l).unit)
      (record_at l.heap.slabs.records (slab_of (ended_object l).unit)) frames ends refl

  fits-large_freed : (l : Local) → Frames k seat plain_rooms l → IsEnding l.call.stage
      → IsInBlock (ended_object l).kind → Fits k seat sure (end_as l EndNext.Large)
  fits-large_freed l frames ends large =
      let next : Local = record l { call = record l.call { block = block_in (ended_object l).kind } } in
      (frames, ending_ticks next l.call.stage ends (large, refl))

  pub fits-end_learn_of : (l : Local) (at : EndAt) (f : ℕ) → Frames k seat plain_rooms l → EndFits l at
      → Fits k seat sure (end_learn_of l at f)
  fits-end_learn_of l EndAt.Own f frames is = by (eqb f (end_call l).mark)
    where
      by : (b : Bool) → Fits k seat sure (end_as l (cond b EndNext.Own (EndNext.Goes (EndAt.Lost f))))
      by true = fits-freed_own l frames is.0
      by false = (frames, (is.0, tt))
  fits-end_learn_of l EndAt.Other f frames is = by (eqb f (end_call l).mark)
    where
      by : (b : Bool) → Fits k seat sure (end_as l (cond b EndNext.Other (EndNext.Goes (EndAt.Lost f))))
      by true = (frames, is)
      by false = (frames, (is.0, tt))
  fits-end_learn_of l EndAt.Large f frames is = by (eqb f (end_call l).mark)
    where
      by : (b : Bool) → Fits k seat sure (end_as l (cond b EndNext.Large (EndNext.Goes (EndAt.Lost f))))
      by true = fits-large_freed l frames is.0 (large_kind l (ended_object l).unit (ended_object l).kind is.1)
      by false = (frames, (is.0, tt))
  fits-end_learn_of l (EndAt.Lost mark) f frames is = fits-lost_end sure l (found_at f (end_call l).number mark) frames

  -- posts and mail
  pub fits-post_as : (l : Local) (next : PostNext) → Frames k seat plain_rooms l → GivesBack l
      → Fits k seat sure (post_as l next)
  fits-post_as l (PostNext.Goes at) frames ends = (frames, ends)
  fits-post_as l PostNext.Listed frames ends = fits-ended sure l frames
  fits-post_as l PostNext.Owed frames ends = (frames, ends)

  pub fits-mail_as : (l : Local) (next : MailNext) → Frames k seat plain_rooms l → GivesBack l
      → Fits k seat sure (mail_as l next)
  fits-mail_as l (MailNext.Goes at) frames ends = (frames, ends)
  fits-mail_as l MailNext.Mailed frames ends = fits-ended sure l frames
