-- What each turn does to what is in hand, position by position.
use Rattle.std.proofs.Common.{◌≡◌, ◌+◌, ℕ, true, false, [], ◌∷◌, ◌++◌, refl, sym, ap, subst}
use Rattle.std.specs.Prelude.{None, Option, Some, ◌%◌, ◌^◌}
use Rattle.pool_types.specs.Geometry.{slab_granules}
use Rattle.pool_types.specs.declared.values.NullCause.{NullCause}
use Rattle.pool_words.specs.declared.actions.Seen.{Seen}
use Rattle.pool_words.specs.Actions.{word_seen}
use Rattle.guards.specs.declared.win.Taking.{Taking}
use Rattle.word_codes.specs.Links.{link_of}
use Rattle.heap_slabs.specs.Rolls.{without_newest}
use Rattle.backend_bins.specs.Blocks.{block}
use Rattle.backend_bins.specs.declared.blocks.Block.{Block}
use Rattle.large_cache.specs.declared.get.GetAt.{GetAt}
use Rattle.large_cache.specs.declared.get.GetNext.{GetNext}
use Rattle.large_cache.specs.declared.keep.KeepAt.{KeepAt}
use Rattle.large_cache.specs.declared.keep.KeepNext.{KeepNext}
use Rattle.large_cache.specs.declared.sweep.SweepAt.{SweepAt}
use Rattle.large_cache.specs.declared.sweep.SweepNext.{SweepNext}
use Rattle.large_cache.specs.declared.undo.UndoAt.{UndoAt}
use Rattle.large_cache.specs.declared.undo.UndoNext.{UndoNext}
use Rattle.large_cache.specs.Get.{get_learn}
use Rattle.large_cache.specs.Keep.{keep_learn}
use Rattle.large_cache.specs.Sweep.{sweep_learn}
use Rattle.large_cache.specs.Undo.{undo_learn}
use Rattle.mailbox.specs.Boxes.{box_learn}
use Rattle.mailbox.specs.Mailing.{mail_learn}
use Rattle.mailbox.specs.declared.mailing.MailNext.{MailNext}
use Rattle.orphans.specs.Adopting.{adopt_learn}
use Rattle.orphans.specs.Leaving.{leave_learn}
use Rattle.public_list.specs.Ending.{end_learn}
use Rattle.public_list.specs.Joining.{join_learn}
use Rattle.public_list.specs.Looking.{look_learn}
use Rattle.public_list.specs.Posting.{post_learn}
use Rattle.public_list.specs.declared.ending.EndNext.{EndNext}
use Rattle.public_list.specs.declared.looking.LookNext.{LookNext}
use Rattle.public_list.specs.declared.posting.PostNext.{PostNext}
use Rattle.step_local.specs.Answers.{end_call, ended_object, got, lost_end}
use Rattle.step_local.specs.Large.{get_as, granules_of_served, keep_as, kept_as, large_learn, next_bin, releasing}
use Rattle.step_local.specs.Large.{sweep_call}
use Rattle.step_local.specs.Large.{swept_as, tick_at, ticked, undo_as}
use Rattle.step_local.specs.Learn.{learn, learn_at}
use Rattle.step_local.specs.Leaving.{slab_block}
use Rattle.step_local.specs.Objects.{block_in, end_as, freed_own, look_call, looked_as, mail_as, post_as}
use Rattle.step_local.specs.Slabs.{newest_given, slab_begun, slab_cached, slab_emptied, small_learn, with_taken}
use Rattle.step_local.specs.declared.frames.At.{At}
use Rattle.step_local.specs.declared.frames.LargeAt.{LargeAt}
use Rattle.step_local.specs.declared.frames.Local.{Local}
use Rattle.step_local.specs.declared.frames.Served.{Served}
use Rattle.step_local.specs.declared.frames.SmallAt.{SmallAt}
use Rattle.step_local.specs.declared.frames.Stage.{Stage}
use Rattle.hand_blocks.specs.Changes.{Change, HandsLead, changes_at, changes_of, come_all, emptied_taking}
use Rattle.hand_blocks.specs.Changes.{ended_changes}
use Rattle.hand_blocks.specs.Changes.{get_changes, keep_changes, kept_changes, large_changes, small_changes}
use Rattle.hand_blocks.specs.Changes.{sweep_changes}
use Rattle.hand_blocks.specs.Fits.{AllLie, CleanupFits, FitsAt, GetFits, HandsFit, IsEnding, IsNotGetting}
use Rattle.hand_blocks.specs.Fits.{IsSomeLarge, LargeFits, SeenAt, SmallFits, StepFits, TickFits}
use Rattle.hand_blocks.specs.Hands.{got_hands_at, got_hands_by, hand, hands_at, hands_of, joining, large_hands}
use Rattle.hand_blocks.specs.Hands.{located_hands}
use Rattle.hand_blocks.specs.Hands.{released_hands, small_hands, swept_hands, tick_hands, using}
use Rattle.hand_blocks.specs.Laws.{TurnsChangeHands, TurnsKeepHandFits}
use Rattle.hand_blocks.proofs.Backend.{drain_turned, lands-queue_as, put_turned, scan_turned, whole_turned}
use Rattle.hand_blocks.proofs.Cuts.{cut_turn}
use Rattle.hand_blocks.proofs.Lands.{LandsOn, Turned, TurnedOn, lands-got, lands_as, stays, turns}
use Rattle.hand_blocks.proofs.Large.{kept_hands, lands-freed_own, lands-held, lands-kept_as, lands-locate_learn}
use Rattle.hand_blocks.proofs.Large.{lands-next_bin}
use Rattle.hand_blocks.proofs.Large.{lands-releasing, lands-tick_at, lands-ticked}
use Rattle.hand_blocks.proofs.Lists.{all_come, comes, leaves}
use Rattle.hand_blocks.proofs.Offices.{office_turned}
use Rattle.hand_blocks.proofs.ResetTurns.{reset_turned}
use Rattle.hand_blocks.proofs.Small.{emptied_hand, lands-adopted_as, lands-boxed_as, lands-joined_as, lands-left_as}
use Rattle.hand_blocks.proofs.Small.{lands-lost_at}
use Rattle.hand_blocks.proofs.Small.{lands-newest_given, lands-slab_cached, lands-slab_emptied, lands-spared_as}
use Rattle.hand_blocks.proofs.Small.{located_small}

look_turn : (l : Local) (next : LookNext) → LandsOn (looked_as l next) []
look_turn l (LookNext.Goes at) = record { has = refl; fits = tt }
look_turn l (LookNext.Held unit mark kind base) = lands-held (record l {
  call = record l.call { old = record l.call.old { unit = unit; mark = mark; kind = kind } };
}) base
look_turn l LookNext.Differs = record { has = refl; fits = tt }
look_turn l (LookNext.NotHeld found) = record { has = refl; fits = tt }

-- a large object's block comes with the end of its grant
tick_ending : (served : Served) (stage : Stage) → IsEnding stage → TickFits served stage
tick_ending served Stage.Getting is = absurd is
tick_ending served _ is = tt

ticks_ending : (b : Block) (stage : Stage) → IsEnding stage → tick_hands b stage ≡ using b ∷ []
ticks_ending b Stage.Getting is = absurd is
ticks_ending b _ is = refl

end_turn : (l : Local) (next : EndNext) → IsEnding l.call.stage
    → TurnedOn (ended_changes (block_in (ended_object l).kind) next) [] (end_as l next)
end_turn l (EndNext.Goes at) is = record { fits = is; leads = refl }
end_turn l EndNext.Own is = stays [] (freed_own l).0 (lands-freed_own l is)
end_turn l EndNext.Other is = record { fits = tt; leads = refl }
end_turn l EndNext.Large is = turns (Change.Comes (using (block_in (ended_object l).kind)) ∷ []) []
    (using (block_in (ended_object l).kind) ∷ []) (end_as l EndNext.Large).0
    (comes (using (block_in (ended_object l).kind)))
    (record {
      has = ticks_ending (block_in (ended_object l).kind) l.call.stage is;
      fits = tick_ending l.call.served l.call.stage is;
    })
end_turn l (EndNext.NotHeld found) is = stays [] (lost_end l found).0 (lands-lost_at l found l.call.stage)

post_turn : (l : Local) (next : PostNext) → LandsOn (post_as l next) []
post_turn l (PostNext.Goes at) = record { has = refl; fits = tt }
post_turn l PostNext.Listed = record { has = refl; fits = tt }
post_turn l PostNext.Owed = record { has = refl; fits = tt }

mail_turn : (l : Local) (next : MailNext) → LandsOn (mail_as l next) []
mail_turn l (MailNext.Goes at) = record { has = refl; fits = tt }
mail_turn l MailNext.Mailed = record { has = refl; fits = tt }

small_turn : (l : Local) (at : SmallAt) (f : ℕ) → SmallFits l at
    → TurnedOn (small_changes l at) (small_hands at) (small_learn l at f)
small_turn l (SmallAt.Uncache slab) f fits = record { fits = fits; leads = comes (using (slab_block slab)) }
small_turn l (SmallAt.Next slab) f fits = record { fits = fits; leads = refl }
small_turn l (SmallAt.Public slab) f fits = record { fits = fits; leads = refl }
small_turn l (SmallAt.Own slab) f fits = record { fits = fits; leads = refl }
small_turn l (SmallAt.Kind slab) f fits = turns (Change.Leaves (using (slab_block slab)) ∷ [])
    (using (slab_block slab) ∷ []) [] (slab_begun l slab).0 (leaves (using (slab_block slab)))
    (record { has = located_small l.call.block l.call.served fits; fits = tt })
small_turn l (SmallAt.Behind slab head) f fits = record { fits = tt; leads = refl }
small_turn l (SmallAt.Private slab head below) f fits =
    stays [] (got (with_taken l slab below) head).0 (lands-got (with_taken l slab below) head)
small_turn l (SmallAt.Rest slab unit) f fits =
    stays [] (got (with_taken l slab None) unit).0 (lands-got (with_taken l slab None) unit)
small_turn l (SmallAt.Empty slab) f fits = turns
    (Change.Comes (hand slab slab_granules (emptied_taking l.call.stage)) ∷ []) [] (emptied_hand slab l.call.stage)
    (slab_emptied l slab).0 (comes (hand slab slab_granules (emptied_taking l.call.stage)))
    (lands-slab_emptied l slab fits)
small_turn l (SmallAt.Cache slab) f fits = turns (Change.Leaves (using (slab_block slab)) ∷ [])
    (using (slab_block slab) ∷ []) [] (slab_cached l slab).0 (leaves (using (slab_block slab)))
    (lands-slab_cached l slab)
small_turn l (SmallAt.Oldest slab) f fits = record { fits = (tt, tt); leads = comes (joining (slab_block slab)) }
small_turn l (SmallAt.Newest slab) f fits =
    let l' : Local = record l { heap = record l.heap { cached = without_newest l.heap.cached } } in
    turns (Change.Comes (joining (slab_block slab)) ∷ []) [] (joining (slab_block slab) ∷ [])
    (newest_given l' slab l.call.stage).0 (comes (joining (slab_block slab)))
    (lands-newest_given l' slab l.call.stage refl fits)

large_turn : (l : Local) (at : LargeAt) (f : ℕ) → LargeFits l at
    → TurnedOn (large_changes l at) (large_hands l at) (large_learn l at f)
large_turn l LargeAt.Tick f fits =
    let l' : Local = record l { call = record l.call { time = (f + 1) % 2 ^ 64 } } in
    stays (tick_hands l.call.block l.call.stage) (tick_at l' l.call.stage).0 (lands-tick_at l' l.call.stage refl fits)
large_turn l (LargeAt.Kind unit) f fits = record { fits = tt; leads = leaves (using l.call.block) }
large_turn l (LargeAt.Grant unit) f fits = stays [] (got l unit).0 (lands-got l unit)

-- a get: a block of the cache comes with the bin's lock
tick_got : (served : Served) (stage : Stage) → GetFits served stage → TickFits served stage
tick_got served Stage.Getting fits = fits
tick_got served _ fits = absurd fits

got_missed : (b : Block) (served : Served) → got_hands_by b served true ≡ []
got_missed b (Served.Small class) = refl
got_missed b (Served.Large granules alignment) = refl

got_took : (b : Block) (served : Served) → IsSomeLarge served → got_hands_by b served false ≡ using b ∷ []
got_took b (Served.Small class) is = absurd is
got_took b (Served.Large granules alignment) is = refl

missed_hands : (l : Local) (stage : Stage) → GetFits l.call.served stage
    → got_hands_at (record l.call { missed = true }) stage ≡ []
missed_hands l Stage.Getting fits = got_missed l.call.block l.call.served
missed_hands l _ fits = absurd fits

took_block : (l : Local) (first : ℕ) (stage : Stage) → GetFits l.call.served stage
    → got_hands_at (record l.call { missed = false; block = block first (granules_of_served l.call.served) }) stage
    ≡ using (block first (granules_of_served l.call.served)) ∷ []
took_block l first Stage.Getting fits = got_took (block first (granules_of_served l.call.served)) l.call.served fits
took_block l first _ fits = absurd fits

get_turn : (l : Local) (at : GetAt) (next : GetNext) → GetFits l.call.served l.call.stage
    → TurnedOn (get_changes l next) [] (get_as l at next)
get_turn l at (GetNext.Goes to) fits = record { fits = fits; leads = refl }
get_turn l at GetNext.Waits fits = record { fits = fits; leads = refl }
get_turn l at (GetNext.Took first) fits =
    let l' : Local = record l {
      call = record l.call { missed = false; block = block first (granules_of_served l.call.served) };
    } in
    turns (Change.Comes (hand first (granules_of_served l.call.served) Taking.ForUse) ∷ []) []
    (using (block first (granules_of_served l.call.served)) ∷ []) (ticked l').0
    (comes (hand first (granules_of_served l.call.served) Taking.ForUse))
    (lands_as (ticked l').0 (got_hands_at l'.call l.call.stage)
    (using (block first (granules_of_served l.call.served)) ∷ []) (took_block l first l.call.stage fits)
    (lands-ticked l' (tick_got l.call.served l.call.stage fits)))
get_turn l at GetNext.Missed fits =
    let l' : Local = record l { call = record l.call { missed = true } } in
    stays [] (ticked l').0 (lands_as (ticked l').0 (got_hands_at l'.call l.call.stage) []
    (missed_hands l l.call.stage fits) (lands-ticked l' (tick_got l.call.served l.call.stage fits)))

undo_turn : (l : Local) (cause : NullCause) (at : UndoAt) (next : UndoNext) → LandsOn (undo_as l cause at next) []
undo_turn l cause at (UndoNext.Goes to) = record { has = refl; fits = tt }
undo_turn l cause at UndoNext.Waits = record { has = refl; fits = tt }
undo_turn l cause at UndoNext.Undone = record { has = refl; fits = tt }

-- a put into the cache: the block goes with the bin's lock, and the oldest one of a full bin comes
kept_leads : (l : Local) (one : Option ℕ) → HandsLead (Change.Leaves (using l.call.block) ∷ kept_changes l one)
    (using l.call.block ∷ []) (kept_hands l one)
kept_leads l None = leaves (using l.call.block)
kept_leads l (Some first) = (
  [],
  record { above = []; below = []; was = refl; now = refl; fair = tt },
  comes (hand first l.call.block.granules Taking.ToJoin),
)

keep_turn : (l : Local) (at : KeepAt) (next : KeepNext) → IsNotGetting l.call.stage
    → TurnedOn (keep_changes l next) (using l.call.block ∷ []) (keep_as l at next)
keep_turn l at (KeepNext.Goes to) is = record { fits = is; leads = refl }
keep_turn l at KeepNext.Waits is = record { fits = is; leads = refl }
keep_turn l at (KeepNext.Kept released) is = turns (Change.Leaves (using l.call.block) ∷ kept_changes l released)
    (using l.call.block ∷ []) (kept_hands l released) (kept_as l released).0 (kept_leads l released)
    (lands-kept_as l released is)

-- a sweep: what was released comes with the bin's lock
sweep_turn : (l : Local) (at : SweepAt) (next : SweepNext) → CleanupFits l l.sweep.cleanup
    → TurnedOn (sweep_changes l next) (swept_hands l) (swept_as l at next)
sweep_turn l at (SweepNext.Goes to) fits = record { fits = fits; leads = refl }
sweep_turn l at (SweepNext.Stays to) fits = record { fits = fits; leads = refl }
sweep_turn l at (SweepNext.Stale first to) fits = record { fits = fits; leads = refl }
sweep_turn l at SweepNext.Waits fits = record { fits = fits; leads = refl }
sweep_turn l at (SweepNext.Began time) fits = record { fits = fits; leads = refl }
sweep_turn l at SweepNext.Passed fits = stays (swept_hands l) (next_bin l).0 (lands-next_bin l fits)
sweep_turn l at SweepNext.Swept fits = turns (come_all (released_hands l.sweep.granules l.released.items))
    (swept_hands l)
    (swept_hands l ++ released_hands l.sweep.granules l.released.items) (releasing l).0
    (all_come (swept_hands l) (released_hands l.sweep.granules l.released.items)) (lands-releasing l fits)

turn_at : (l : Local) (at : At) (s : Seen) → l.at ≡ at → FitsAt l at → AllLie (hands_at l at) → SeenAt at s
    → TurnedOn (changes_at l at (word_seen s)) (hands_at l at) (learn_at l at s)
turn_at l At.Idle s here fits lie seen =
    record { fits = subst (FitsAt l) (sym here) tt; leads = ap (hands_at l) here }
turn_at l (At.Ready answer) s here fits lie seen = record { fits = tt; leads = refl }
turn_at l (At.Look at) s here fits lie seen =
    stays [] (looked_as l (look_learn (look_call l) at (word_seen s))).0
    (look_turn l (look_learn (look_call l) at (word_seen s)))
turn_at l (At.End at) s here fits lie seen = end_turn l (end_learn (end_call l) at (word_seen s)) fits
turn_at l (At.Post at) s here fits lie seen =
    stays [] (post_as l (post_learn at (word_seen s))).0 (post_turn l (post_learn at (word_seen s)))
turn_at l (At.Mail at) s here fits lie seen =
    stays [] (mail_as l (mail_learn at (word_seen s))).0 (mail_turn l (mail_learn at (word_seen s)))
turn_at l (At.Mailbox at) s here fits lie seen = stays [] (learn_at l (At.Mailbox at) s).0
    (lands-boxed_as l (box_learn at (word_seen s)) fits)
turn_at l (At.Adopt at) s here fits lie seen = stays [] (learn_at l (At.Adopt at) s).0
    (lands-adopted_as l (adopt_learn at (word_seen s)) fits)
turn_at l (At.Join slab rest at) s here fits lie seen = stays [] (learn_at l (At.Join slab rest at) s).0
    (lands-joined_as l slab rest (join_learn at (word_seen s)) fits)
turn_at l (At.Spare at) s here fits lie seen = stays [] (learn_at l (At.Spare at) s).0
    (lands-spared_as l (leave_learn at (word_seen s)) fits)
turn_at l (At.Leave slab at) s here fits lie seen = stays [] (learn_at l (At.Leave slab at) s).0
    (lands-left_as l slab (leave_learn at (word_seen s)) fits)
turn_at l (At.Locate at) s here fits lie seen =
    stays (located_hands l.call.block l.call.served) (learn_at l (At.Locate at) s).0
    (lands-locate_learn l at (word_seen s))
turn_at l (At.Small at) s here fits lie seen = small_turn l at (word_seen s) fits
turn_at l (At.Large at) s here fits lie seen = large_turn l at (word_seen s) fits
turn_at l (At.Get at) s here fits lie seen = get_turn l at (get_learn at (word_seen s)) fits
turn_at l (At.Undo cause at) s here fits lie seen = stays [] (learn_at l (At.Undo cause at) s).0
    (undo_turn l cause at (undo_learn at (word_seen s)))
turn_at l (At.Keep at) s here fits lie seen = keep_turn l at (keep_learn at (word_seen s)) fits
turn_at l (At.Sweep at) s here fits lie seen = sweep_turn l at (sweep_learn (sweep_call l) at (word_seen s)) fits
turn_at l (At.Scan at) s here fits lie seen = scan_turned l at (word_seen s) fits.0 fits.1 lie
turn_at l (At.Cut at) s here fits lie seen = cut_turn l at (word_seen s) fits
turn_at l At.Queue s here fits lie seen =
    stays [] (learn_at l At.Queue s).0 (lands-queue_as l (link_of (word_seen s)) fits)
turn_at l (At.Whole at) s here fits lie seen = whole_turned l at (word_seen s) fits
turn_at l (At.Drain at) s here fits lie seen = drain_turned l at (word_seen s) fits.0 fits.1 seen lie
turn_at l (At.Put at) s here fits lie seen = put_turned l at (word_seen s) fits.0 fits.1 seen lie
turn_at l (At.Office job at) s here fits lie seen = office_turned l job at s fits seen lie
turn_at l (At.Reset at) s here fits lie seen = reset_turned l at (word_seen s) fits lie

turned : (l : Local) (s : Seen) → HandsFit l → StepFits l s → Turned (changes_of l s) (hands_of l) (learn l s).0
turned l s fits step = turn_at l l.at s refl fits step.lie step.seen

pub turns_change_hands : TurnsChangeHands
turns_change_hands l s fits step = (turned l s fits step).leads

pub turns_keep_hand_fits : TurnsKeepHandFits
turns_keep_hand_fits l s fits step = (turned l s fits step).fits
