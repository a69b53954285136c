-- What a turn leaves of the notes of its seat, and that it leads where its call's stage comes, position by position.
use Rattle.std.proofs.Common.{◌≡◌, ◌+◌, ◌∙◌, ℕ, Bool, true, false, cond, eqb, refl, ap, sym, subst}
use Rattle.std.specs.Prelude.{None, Option, Some, List, [], ◌∷◌, ◌++◌, ◌%◌, ◌^◌, ◌||◌}
use Rattle.pool_types.specs.Sums.{capped}
use Rattle.pool_types.specs.declared.values.Turn.{Turn}
use Rattle.pool_words.specs.declared.actions.Seen.{Seen}
use Rattle.pool_words.specs.Actions.{word_seen}
use Rattle.backend_bins.specs.Bin.{bin_learn}
use Rattle.backend_bins.specs.Cut.{cut_learn}
use Rattle.backend_bins.specs.Scan.{scan_learn}
use Rattle.coalescer.specs.Drain.{drain_learn}
use Rattle.coalescer.specs.Put.{put_learn}
use Rattle.heap_slabs.specs.Cached.{surplus_of}
use Rattle.heap_slabs.specs.Rolls.{after_push, without_newest}
use Rattle.heap_slabs.specs.Slabs.{after_remove}
use Rattle.large_cache.specs.Get.{get_learn}
use Rattle.large_cache.specs.Keep.{keep_learn}
use Rattle.large_cache.specs.Sweep.{sweep_learn}
use Rattle.large_cache.specs.Undo.{undo_learn}
use Rattle.mailbox.specs.Boxes.{box_joined, box_taken}
use Rattle.mailbox.specs.Mailing.{mail_learn}
use Rattle.mailbox.specs.declared.boxes.BoxAt.{BoxAt}
use Rattle.mailbox.specs.declared.mailing.MailNext.{MailNext}
use Rattle.orphans.specs.Adopting.{adopt_learn}
use Rattle.orphans.specs.Leaving.{leave_learn}
use Rattle.orphans.specs.declared.adopting.AdoptNext.{AdoptNext}
use Rattle.orphans.specs.declared.leaving.LeaveNext.{LeaveNext}
use Rattle.public_list.specs.Ending.{end_learn}
use Rattle.public_list.specs.Joining.{join_learn}
use Rattle.public_list.specs.Looking.{look_learn}
use Rattle.public_list.specs.Posting.{post_learn}
use Rattle.public_list.specs.declared.ending.EndNext.{EndNext}
use Rattle.public_list.specs.declared.joining.JoinNext.{JoinNext}
use Rattle.public_list.specs.declared.looking.LookNext.{LookNext}
use Rattle.public_list.specs.declared.posting.PostNext.{PostNext}
use Rattle.region_steps.specs.Office.{office_learn}
use Rattle.word_codes.specs.Links.{link_of}
use Rattle.object_laws.specs.Objects.{Note}
use Rattle.object_laws.specs.Parts.{note_of}
use Rattle.step_local.specs.declared.frames.At.{At}
use Rattle.step_local.specs.declared.frames.LargeAt.{LargeAt}
use Rattle.step_local.specs.declared.frames.Local.{Local}
use Rattle.step_local.specs.declared.frames.SmallAt.{SmallAt}
use Rattle.step_local.specs.declared.frames.Stage.{Stage}
use Rattle.step_local.specs.Answers.{answered, end_call, ending, got, got_of, object_got, replaces}
use Rattle.step_local.specs.Backend.{cut_call, drain_call, office_call, whole_call}
use Rattle.step_local.specs.Large.{large_learn, sweep_call}
use Rattle.step_local.specs.Learn.{learn_at}
use Rattle.step_local.specs.Leaving.{left_as, put_call, scan_call, with_slabs}
use Rattle.step_local.specs.Objects.{end_as, held, look_call, looked_as, mail_as, post_as}
use Rattle.step_local.specs.Slabs.{adopted_as, box_learn_of, boxed_as, joined_as, slab_came}
use Rattle.step_local.specs.Slabs.{small_learn, with_joined, with_taken}
use Rattle.heap_tasks.specs.Laws.{TurnsKeepStages, TurnsMoveNotes}
use Rattle.heap_tasks.specs.Notes.{IsTail, granted_note, large_notes, looked_notes, noted, notes_added_at, notes_by}
use Rattle.heap_tasks.specs.Notes.{notes_of, small_notes}
use Rattle.heap_tasks.specs.Stages.{IsEnding, IsGetting, IsLeaving, IsLooking, LargeStage, MayAdopt, MayFetch}
use Rattle.heap_tasks.specs.Stages.{SmallStage, StageFits, StageFitsAt}
use Rattle.heap_tasks.proofs.Staged.{Goes, adopting_fetches, ending_ticks}
use Rattle.heap_tasks.proofs.Staged.{is_getting, leaving_fetches, none_left, tails}
use Rattle.heap_tasks.proofs.StagedBackend.{goes-cut_as, goes-drained_as, goes-office_as, goes-put_as}
use Rattle.heap_tasks.proofs.StagedBackend.{goes-queue_as, goes-scanned_as, goes-whole_as}
use Rattle.heap_tasks.proofs.StagedLarge.{Finds, found-held, freed_own_goes, goes-get_as, goes-keep_as}
use Rattle.heap_tasks.proofs.StagedLarge.{goes-locate_learn, goes-swept_as, goes-tick_at, goes-undo_as}
use Rattle.heap_tasks.proofs.StagedResets.{goes-reset_learn_of}
use Rattle.heap_tasks.proofs.StagedSmall.{goes-emptied_at, goes-fetched}
use Rattle.heap_tasks.proofs.StagedSmall.{goes-leaving, goes-lost_end, goes-newest_given}
use Rattle.heap_tasks.proofs.StagedSmall.{goes-slab_adopted, goes-spare_learn_of, goes-spared_on, goes-surplus_left}

-- a turn that leads on and leaves a tail of what was noted before, and now
abbrev Leaves : Local → List Note → Local × Turn → Type 0
Leaves l added turn = StageFits turn.0 × IsTail (notes_of turn.0) (added ++ notes_of l)

-- nothing is noted while a place is looked at
is_looking : (stage : Stage) → IsLooking stage → stage ≡ Stage.Looking
is_looking Stage.Looking is = refl
is_looking _ is = absurd is

looking_notes : (l : Local) → IsLooking l.call.stage → notes_of l ≡ []
looking_notes l is = ap (notes_by l.call.request l.call.old l.call.new) (is_looking l.call.stage is)

look_turn : (l : Local) (next : LookNext) → IsLooking l.call.stage → Leaves l (looked_notes next) (looked_as l next)
look_turn l (LookNext.Goes at) is = (is, IsTail.all)
look_turn l (LookNext.Held unit mark kind base) is =
    let l' : Local = record l {
      call = record l.call { old = record l.call.old { unit = unit; mark = mark; kind = kind } };
    } in
    let step : Finds l' (held l' base) = found-held l' base in
    let n : Note = note_of unit mark kind in
    (step.0, tails step.1 (subst (λ ns. IsTail (n ∷ []) (n ∷ ns)) (sym (looking_notes l is)) IsTail.all))
look_turn l LookNext.Differs is = (tt, none_left (notes_of l))
look_turn l (LookNext.NotHeld found) is = (tt, none_left (notes_of l))

-- a grant: while an object is got in another's place, that one alone was noted before
getting_notes : (l : Local) → IsGetting l.call.stage → replaces l.call.request ≡ true
    → notes_of l ≡ noted l.call.old ∷ []
getting_notes l is so =
    ap (notes_by l.call.request l.call.old l.call.new) (is_getting l.call.stage is)
    ∙ ap (λ (b : Bool). cond b (noted l.call.old ∷ []) []) so

abbrev after_got : Local → ℕ → Bool → Local × Turn
after_got l unit replacing = cond replacing
    (ending (record l {
      last =
          capped (l.last + 1);
      call = record l.call { new = object_got l unit };
    }) Stage.Replacing)
    (answered (record l { last = capped (l.last + 1) })
    (got_of (record l { last = capped (l.last + 1) }) (object_got l unit)))

got_by : (l : Local) (unit : ℕ) (replacing : Bool) → IsGetting l.call.stage → replaces l.call.request ≡ replacing
    → Leaves l (granted_note l unit ∷ []) (after_got l unit replacing)
got_by l unit true is so = (
  tt,
  subst (λ ns. IsTail (granted_note l unit ∷ noted l.call.old ∷ []) (granted_note l unit ∷ ns))
      (sym (getting_notes l is so)) IsTail.all,
)
got_by l unit false is so = (tt, none_left (granted_note l unit ∷ notes_of l))

got_turn : (l : Local) (unit : ℕ) → IsGetting l.call.stage → Leaves l (granted_note l unit ∷ []) (got l unit)
got_turn l unit is = got_by l unit (replaces l.call.request) is refl

end_turn : (l : Local) (next : EndNext) → IsEnding l.call.stage → Goes l (end_as l next)
end_turn l (EndNext.Goes at) is = (is, IsTail.all)
end_turn l EndNext.Own is = freed_own_goes l is
end_turn l EndNext.Other is = (is, IsTail.all)
end_turn l EndNext.Large is = (ending_ticks l.call.stage is, IsTail.all)
end_turn l (EndNext.NotHeld found) is = goes-lost_end l found is

post_turn : (l : Local) (next : PostNext) → IsEnding l.call.stage → Goes l (post_as l next)
post_turn l (PostNext.Goes at) is = (is, IsTail.all)
post_turn l PostNext.Listed is = (tt, none_left (notes_of l))
post_turn l PostNext.Owed is = (is, IsTail.all)

mail_turn : (l : Local) (next : MailNext) → IsEnding l.call.stage → Goes l (mail_as l next)
mail_turn l (MailNext.Goes at) is = (is, IsTail.all)
mail_turn l MailNext.Mailed is = (tt, none_left (notes_of l))

-- what comes by mail, and of orphans
came_turn : (l : Local) (slab : ℕ) (rest : Option ℕ) → MayFetch l.call.stage → Goes l (slab_came l slab rest)
came_turn l slab (Some next) is = (is, IsTail.all)
came_turn l slab None is =
    goes-fetched (record l { fetch = record l.fetch { came = l.fetch.came || eqb slab l.fetch.awaited } }) is

taken_turn : (l : Local) (one : Option ℕ) → MayFetch l.call.stage → Goes l (boxed_as l (box_taken one))
taken_turn l (Some slab) is = (is, IsTail.all)
taken_turn l None is = goes-fetched l is

box_join_turn : (l : Local) (slab : ℕ) (rest : Option ℕ) (next : JoinNext) → MayFetch l.call.stage
    → Goes l (boxed_as l (box_joined slab rest next))
box_join_turn l slab rest (JoinNext.Goes at) is = (is, IsTail.all)
box_join_turn l slab rest JoinNext.Nothing is = came_turn l slab rest is
box_join_turn l slab rest (JoinNext.Joined first count) is = came_turn (with_joined l slab first count) slab rest is

box_turn : (l : Local) (at : BoxAt) (f : ℕ) → MayFetch l.call.stage → Goes l (box_learn_of l at f)
box_turn l BoxAt.Take f is = taken_turn l (link_of f) is
box_turn l (BoxAt.Next slab) f is = (is, IsTail.all)
box_turn l (BoxAt.Settle slab rest) f is = (is, IsTail.all)
box_turn l (BoxAt.Join slab rest at) f is = box_join_turn l slab rest (join_learn at f) is

join_turn : (l : Local) (slab : ℕ) (rest : Option ℕ) (next : JoinNext) → MayAdopt l.call.stage
    → Goes l (joined_as l slab rest next)
join_turn l slab rest (JoinNext.Goes at) is = (is, IsTail.all)
join_turn l slab rest JoinNext.Nothing is = goes-slab_adopted l slab rest is
join_turn l slab rest (JoinNext.Joined first count) is =
    goes-slab_adopted (with_joined l slab first count) slab rest is

adopt_turn : (l : Local) (next : AdoptNext) → MayAdopt l.call.stage → Goes l (adopted_as l next)
adopt_turn l (AdoptNext.Goes at) is = (is, IsTail.all)
adopt_turn l AdoptNext.Empty is = goes-fetched l (adopting_fetches l.call.stage is)
adopt_turn l (AdoptNext.Adopted slab header rest) is = (is, IsTail.all)
adopt_turn l (AdoptNext.Spared slab rest) is =
    goes-spared_on (record l { heap = record l.heap { spares = after_push l.heap.spares slab } }) rest is

leave_turn : (l : Local) (slab : ℕ) (next : LeaveNext) → IsLeaving l.call.stage → Goes l (left_as l slab next)
leave_turn l slab (LeaveNext.Goes at) is = (is, IsTail.all)
leave_turn l slab LeaveNext.Filled is = (leaving_fetches l.call.stage is, IsTail.all)
leave_turn l slab LeaveNext.Left is =
    goes-leaving (record l { heap = record l.heap { slabs = after_remove l.heap.slabs slab } }) is

small_turn : (l : Local) (at : SmallAt) (f : ℕ) → SmallStage at l.call.stage
    → Leaves l (small_notes l at) (small_learn l at f)
small_turn l (SmallAt.Uncache slab) f is = (is, IsTail.all)
small_turn l (SmallAt.Next slab) f is = (is, IsTail.all)
small_turn l (SmallAt.Public slab) f is = (is, IsTail.all)
small_turn l (SmallAt.Own slab) f is = (is, IsTail.all)
small_turn l (SmallAt.Kind slab) f is = (is, IsTail.all)
small_turn l (SmallAt.Behind slab head) f is = (is, IsTail.all)
small_turn l (SmallAt.Private slab head below) f is = got_turn (with_taken l slab below) head is
small_turn l (SmallAt.Rest slab unit) f is = got_turn (with_taken l slab None) unit is
small_turn l (SmallAt.Empty slab) f is =
    goes-emptied_at (with_slabs l (after_remove l.heap.slabs slab)) slab l.call.stage refl is
small_turn l (SmallAt.Cache slab) f is = goes-surplus_left (record l {
  heap = record l.heap { cached = after_push l.heap.cached slab };
  call = record l.call { surplus = surplus_of (after_push l.heap.cached slab) };
}) is
small_turn l (SmallAt.Oldest slab) f is = (is, IsTail.all)
small_turn l (SmallAt.Newest slab) f is = goes-newest_given
    (record l { heap = record l.heap { cached = without_newest l.heap.cached } }) slab l.call.stage refl is

large_turn : (l : Local) (at : LargeAt) (f : ℕ) → LargeStage at l.call.stage
    → Leaves l (large_notes l at) (large_learn l at f)
large_turn l LargeAt.Tick f is =
    goes-tick_at (record l { call = record l.call { time = (f + 1) % 2 ^ 64 } }) l.call.stage refl is
large_turn l (LargeAt.Kind unit) f is = (is, IsTail.all)
large_turn l (LargeAt.Grant unit) f is = got_turn l unit is

turn_at : (l : Local) (at : At) (s : Seen) → l.at ≡ at → StageFitsAt at l.put l.sweep.cleanup l.call.stage
    → Leaves l (notes_added_at l at (word_seen s)) (learn_at l at s)
turn_at l At.Idle s here is =
    (subst (λ at. StageFitsAt at l.put l.sweep.cleanup l.call.stage) (sym here) is, IsTail.all)
turn_at l (At.Ready answer) s here is = (tt, none_left (notes_of l))
turn_at l (At.Look at) s here is = look_turn l (look_learn (look_call l) at (word_seen s)) is
turn_at l (At.End at) s here is = end_turn l (end_learn (end_call l) at (word_seen s)) is
turn_at l (At.Post at) s here is = post_turn l (post_learn at (word_seen s)) is
turn_at l (At.Mail at) s here is = mail_turn l (mail_learn at (word_seen s)) is
turn_at l (At.Mailbox at) s here is = box_turn l at (word_seen s) is
turn_at l (At.Adopt at) s here is = adopt_turn l (adopt_learn at (word_seen s)) is
turn_at l (At.Join slab rest at) s here is = join_turn l slab rest (join_learn at (word_seen s)) is
turn_at l (At.Spare at) s here is = goes-spare_learn_of l at (word_seen s) is
turn_at l (At.Leave slab at) s here is = leave_turn l slab (leave_learn at (word_seen s)) is
turn_at l (At.Locate at) s here is = goes-locate_learn l at (word_seen s) is
turn_at l (At.Small at) s here is = small_turn l at (word_seen s) is
turn_at l (At.Large at) s here is = large_turn l at (word_seen s) is
turn_at l (At.Get at) s here is = goes-get_as l at (get_learn at (word_seen s)) is
turn_at l (At.Undo cause at) s here is = goes-undo_as l cause at (undo_learn at (word_seen s)) is
turn_at l (At.Keep at) s here is = goes-keep_as l at (keep_learn at (word_seen s)) is
turn_at l (At.Sweep at) s here is = goes-swept_as l at (sweep_learn (sweep_call l) at (word_seen s)) is
turn_at l (At.Scan at) s here is = goes-scanned_as l at (scan_learn (scan_call l) at (word_seen s)) is
turn_at l (At.Cut at) s here is = goes-cut_as l at (cut_learn (cut_call l) at (word_seen s)) is
turn_at l At.Queue s here is = goes-queue_as l (link_of (word_seen s)) is
turn_at l (At.Whole at) s here is = goes-whole_as l at (bin_learn (whole_call l) at (word_seen s)) is
turn_at l (At.Drain at) s here is = goes-drained_as l at (drain_learn (drain_call l) at (word_seen s)) is
turn_at l (At.Put at) s here is = goes-put_as l at (put_learn (put_call l) at (word_seen s)) is
turn_at l (At.Office job at) s here is = goes-office_as l job at (office_learn (office_call l job) at s) is
turn_at l (At.Reset at) s here is = goes-reset_learn_of l at (word_seen s) is

pub turns_keep_stages : TurnsKeepStages
turns_keep_stages l s fits = (turn_at l l.at s refl fits).0

pub turns_move_notes : TurnsMoveNotes
turns_move_notes l s fits = (turn_at l l.at s refl fits).1
