-- How a turn changes what a seat has in hand.
use Rattle.std.specs.Prelude.{◌≡◌, ℕ, ◌+◌, ◌-◌, ◌<◌, cond, eqb, Option, Some, None, List, [], ◌∷◌, ◌++◌, ⊤}
use Rattle.pool_words.specs.declared.actions.Seen.{Seen}
use Rattle.pool_words.specs.Actions.{word_seen}
use Rattle.chain_words.specs.declared.pushing.PushNext.{PushNext}
use Rattle.chain_words.specs.Pushing.{push_learn}
use Rattle.guards.specs.declared.win.Taking.{Taking}
use Rattle.guards.specs.declared.win.WinNext.{WinNext}
use Rattle.guards.specs.Win.{win_learn}
use Rattle.word_codes.specs.QueueLinks.{queue_link_of}
use Rattle.word_codes.specs.declared.region_words.RegionWord.{RegionWord}
use Rattle.backend_bins.specs.declared.bin.BinAt.{BinAt}
use Rattle.backend_bins.specs.declared.bin.BinNext.{BinNext}
use Rattle.backend_bins.specs.declared.blocks.Block.{Block}
use Rattle.backend_bins.specs.declared.cut.CutAt.{CutAt}
use Rattle.backend_bins.specs.declared.cut.CutCall.{CutCall}
use Rattle.backend_bins.specs.declared.scan.ScanStep.{ScanStep}
use Rattle.backend_bins.specs.Bin.{bin_learn}
use Rattle.backend_bins.specs.Cut.{back_of, front_of}
use Rattle.backend_bins.specs.Scan.{win_of}
use Rattle.coalescer.specs.declared.drain.DrainAt.{DrainAt}
use Rattle.coalescer.specs.declared.drain.DrainCall.{DrainCall}
use Rattle.coalescer.specs.declared.put.PutAt.{PutAt}
use Rattle.coalescer.specs.declared.put.PutCall.{PutCall}
use Rattle.coalescer.specs.declared.put.PutNext.{PutNext}
use Rattle.coalescer.specs.declared.put.PutStep.{PutStep}
use Rattle.coalescer.specs.Drain.{put_call as drained_put}
use Rattle.coalescer.specs.Put.{left_neighbour, left_win, put_learn, right_neighbour, right_win, unlink_call}
use Rattle.large_cache.specs.declared.get.GetNext.{GetNext}
use Rattle.large_cache.specs.declared.keep.KeepNext.{KeepNext}
use Rattle.large_cache.specs.declared.sweep.SweepNext.{SweepNext}
use Rattle.large_cache.specs.Get.{get_learn}
use Rattle.large_cache.specs.Keep.{keep_learn}
use Rattle.large_cache.specs.Sweep.{sweep_learn}
use Rattle.public_list.specs.declared.ending.EndNext.{EndNext}
use Rattle.public_list.specs.Ending.{end_learn}
use Rattle.region_steps.specs.declared.office.OfficeAt.{OfficeAt}
use Rattle.reset_steps.specs.declared.clear.ClearNext.{ClearNext}
use Rattle.reset_steps.specs.declared.evict.EvictNext.{EvictNext}
use Rattle.reset_steps.specs.declared.unite.UniteAt.{UniteAt}
use Rattle.reset_steps.specs.declared.unqueue.UnqueueNext.{UnqueueNext}
use Rattle.reset_steps.specs.Clear.{clear_learn}
use Rattle.reset_steps.specs.Evict.{evict_learn}
use Rattle.reset_steps.specs.Unite.{unite_win, unlink_call as unite_unlink}
use Rattle.reset_steps.specs.Unqueue.{unqueue_learn}
use Rattle.step_local.specs.declared.frames.At.{At}
use Rattle.step_local.specs.declared.frames.LargeAt.{LargeAt}
use Rattle.step_local.specs.declared.frames.Local.{Local}
use Rattle.step_local.specs.declared.frames.OfficeFor.{OfficeFor}
use Rattle.step_local.specs.declared.frames.ResetAt.{ResetAt}
use Rattle.step_local.specs.declared.frames.SmallAt.{SmallAt}
use Rattle.step_local.specs.declared.frames.Stage.{Stage}
use Rattle.step_local.specs.Answers.{end_call, ended_object}
use Rattle.step_local.specs.Backend.{cut_call, drain_call}
use Rattle.step_local.specs.Large.{granules_of_served, sweep_call}
use Rattle.step_local.specs.Leaving.{put_call, slab_block}
use Rattle.step_local.specs.Objects.{block_in}
use Rattle.step_local.specs.Resetting.{evict_call, unite_call}
use Rattle.hand_blocks.specs.Hands.{Hand, hand, using, joining, returning, rest_before, rest_behind, behind_front}
use Rattle.hand_blocks.specs.Hands.{has_front}
use Rattle.hand_blocks.specs.Hands.{released_hands}

-- A change of what is in hand. Each but the last stands for one step of the laws of blocks: a block comes into the
-- hand (a win, a region that settles, a block that left its use or the cache, or one that is read of the queue) or
-- leaves it (offered, queued, in use, in the cache, or gone with its region), is cut in two, or two of them are
-- merged. Where a region is to be given back, the local forgets how long its block is.
pub data Change : Type 0 where
  Comes : (one : Hand) → Change
  Leaves : (one : Hand) → Change
  Splits : (first a b : ℕ) → Change
  Merges : (first a b : ℕ) → Change
  Forgets : (first granules : ℕ) → Change

-- the blocks that were in hand, and those that are in their place
abbrev pub lost : Change → List Hand
lost (Change.Comes one) = []
lost (Change.Leaves one) = one ∷ []
lost (Change.Splits first a b) = hand first (a + b) Taking.ForUse ∷ []
lost (Change.Merges first a b) = hand first a Taking.ToJoin ∷ hand (first + a) b Taking.ToJoin ∷ []
lost (Change.Forgets first granules) = hand first granules Taking.ToJoin ∷ []

abbrev pub gained : Change → List Hand
gained (Change.Comes one) = one ∷ []
gained (Change.Leaves one) = []
gained (Change.Splits first a b) = hand first a Taking.ForUse ∷ hand (first + a) b Taking.ForUse ∷ []
gained (Change.Merges first a b) = hand first (a + b) Taking.ToJoin ∷ []
gained (Change.Forgets first granules) = returning first ∷ []

-- no half of a block that is cut is empty
abbrev pub IsFair : Change → Type 0
IsFair (Change.Splits first a b) = (0 < a) × (0 < b)
IsFair _ = ⊤

-- one change replaces what it is about, and leaves all else that is in hand
pub record Alters (change : Change) (before after : List Hand) : Type 0 where
  pub above : List Hand
  pub below : List Hand
  pub was : before ≡ above ++ (lost change ++ below)
  pub now : after ≡ above ++ (gained change ++ below)
  pub fair : IsFair change

-- changes one after another lead from these blocks to those
abbrev pub HandsLead : List Change → List Hand → List Hand → Type 0
HandsLead [] before after = after ≡ before
HandsLead (change ∷ rest) before after =
    (between : List Hand) × Alters change before between × HandsLead rest between after

-- the changes of a block's win, of its bin's put and of its end
abbrev pub won_changes : Hand → WinNext → List Change
won_changes one WinNext.Won = Change.Comes one ∷ []
won_changes one _ = []

abbrev pub bin_changes : Hand → BinAt → List Change
bin_changes one BinAt.Left = Change.Leaves one ∷ []
bin_changes one _ = []

abbrev pub merged_changes : ℕ → ℕ → ℕ → BinNext → List Change
merged_changes first a b BinNext.Done = Change.Merges first a b ∷ []
merged_changes first a b _ = []

-- a block is in the queue with the exchange that makes it the first one
abbrev pub pushed_changes : Hand → PushNext → List Change
pushed_changes one (PushNext.Goes at) = []
pushed_changes one (PushNext.Pushed found) = Change.Leaves one ∷ []

abbrev pub step_changes : PutCall → PutAt → PutStep → ℕ → List Change
step_changes c p (PutStep.WinLeft granules at) found =
    won_changes (joining (left_neighbour p granules)) (win_learn (left_win p granules) at found)
step_changes c p (PutStep.UnlinkLeft neighbour at) found =
    merged_changes neighbour.first neighbour.granules (rest_behind p neighbour).granules
    (bin_learn (unlink_call c neighbour) at found)
step_changes c p (PutStep.WinRight granules at) found =
    won_changes (joining (right_neighbour p granules)) (win_learn (right_win p granules) at found)
step_changes c p (PutStep.UnlinkRight neighbour at) found =
    merged_changes p.block.first (rest_before p neighbour).granules neighbour.granules
    (bin_learn (unlink_call c neighbour) at found)
step_changes c p (PutStep.Queue at) found = pushed_changes (joining p.block) (push_learn at found)
step_changes c p (PutStep.Bin at) found = bin_changes (joining p.block) at
step_changes c p _ found = []

-- a block that is a whole region goes on to the office
abbrev pub given_changes : PutNext → List Change
given_changes (PutNext.Gives b) = Change.Forgets b.first b.granules ∷ []
given_changes _ = []

abbrev pub put_changes : PutCall → PutAt → ℕ → List Change
put_changes c p found = step_changes c p p.step found ++ given_changes (put_learn c p found)

abbrev pub drain_changes : DrainCall → DrainAt → ℕ → List Change
drain_changes c DrainAt.Swap found = []
drain_changes c (DrainAt.Link first) found =
    Change.Comes (hand first (queue_link_of found).granules Taking.ToJoin) ∷ []
drain_changes c (DrainAt.Put rest at) found = put_changes (drained_put c) at found

abbrev pub scan_changes : ScanStep → ℕ → List Change
scan_changes (ScanStep.Win b at) found = won_changes (using b) (win_learn (win_of b) at found)
scan_changes _ found = []

abbrev pub cut_changes : CutCall → CutAt → List Change
cut_changes c CutAt.FrontLeft = []
cut_changes c CutAt.FrontSize =
    Change.Splits c.block.first (front_of c).granules (c.block.granules - (front_of c).granules) ∷ []
cut_changes c CutAt.BackLeft = []
cut_changes c CutAt.BackSize =
    Change.Splits (behind_front c (has_front c)).first c.piece.granules
    ((behind_front c (has_front c)).granules - c.piece.granules) ∷ []
cut_changes c (CutAt.Front at) = bin_changes (using (front_of c)) at
cut_changes c (CutAt.Back at) = bin_changes (using (back_of c)) at

abbrev pub obtain_changes : OfficeAt → List Change
obtain_changes (OfficeAt.LastLeft one) = Change.Comes (hand one.first one.granules Taking.ForUse) ∷ []
obtain_changes _ = []

abbrev pub give_changes : ℕ → OfficeAt → List Change
give_changes first (OfficeAt.Remove given) = Change.Leaves (returning first) ∷ []
give_changes first _ = []

abbrev pub office_changes : OfficeFor → OfficeAt → List Change
office_changes OfficeFor.Ask at = obtain_changes at
office_changes (OfficeFor.Put first) at = give_changes first at
office_changes (OfficeFor.Drain first rest) at = give_changes first at

-- a slab that is emptied is put, or is to be cached
abbrev pub emptied_taking : Stage → Taking
emptied_taking Stage.Getting = Taking.ToJoin
emptied_taking Stage.Leaving = Taking.ToJoin
emptied_taking (Stage.Resetting stage) = Taking.ToJoin
emptied_taking _ = Taking.ForUse

abbrev pub small_changes : Local → SmallAt → List Change
small_changes l (SmallAt.Uncache slab) = Change.Comes (using (slab_block slab)) ∷ []
small_changes l (SmallAt.Kind slab) = Change.Leaves (using (slab_block slab)) ∷ []
small_changes l (SmallAt.Empty slab) =
    Change.Comes (hand (slab_block slab).first (slab_block slab).granules (emptied_taking l.call.stage)) ∷ []
small_changes l (SmallAt.Cache slab) = Change.Leaves (using (slab_block slab)) ∷ []
small_changes l (SmallAt.Oldest slab) = Change.Comes (joining (slab_block slab)) ∷ []
small_changes l (SmallAt.Newest slab) = Change.Comes (joining (slab_block slab)) ∷ []
small_changes l _ = []

abbrev pub large_changes : Local → LargeAt → List Change
large_changes l LargeAt.Tick = []
large_changes l (LargeAt.Kind unit) = Change.Leaves (using l.call.block) ∷ []
large_changes l (LargeAt.Grant unit) = []

-- the grant of a large object is ended
abbrev pub ended_changes : Block → EndNext → List Change
ended_changes b EndNext.Large = Change.Comes (using b) ∷ []
ended_changes b _ = []

-- what leaves a bin of the cache comes with the bin's lock, and what is put there goes with it
abbrev pub get_changes : Local → GetNext → List Change
get_changes l (GetNext.Took first) = Change.Comes (hand first (granules_of_served l.call.served) Taking.ForUse) ∷ []
get_changes l _ = []

abbrev pub kept_changes : Local → Option ℕ → List Change
kept_changes l (Some first) = Change.Comes (hand first l.call.block.granules Taking.ToJoin) ∷ []
kept_changes l None = []

abbrev pub keep_changes : Local → KeepNext → List Change
keep_changes l (KeepNext.Kept released) = Change.Leaves (using l.call.block) ∷ kept_changes l released
keep_changes l _ = []

abbrev pub come_all : List Hand → List Change
come_all [] = []
come_all (one ∷ rest) = Change.Comes one ∷ come_all rest

abbrev pub sweep_changes : Local → SweepNext → List Change
sweep_changes l SweepNext.Swept = come_all (released_hands l.sweep.granules l.released.items)
sweep_changes l _ = []

-- in a reset: a large object is taken, a bin of the cache is emptied, the queue's blocks come out, a region is united
abbrev pub evict_changes : EvictNext → List Change
evict_changes (EvictNext.Ended b granule) = Change.Comes (joining b) ∷ []
evict_changes _ = []

abbrev pub clear_changes : Local → ℕ → ClearNext → List Change
clear_changes l granules ClearNext.Cleared = come_all (released_hands granules l.released.items)
clear_changes l granules _ = []

abbrev pub unqueue_changes : UnqueueNext → List Change
unqueue_changes (UnqueueNext.Out b rest) = Change.Comes (joining b) ∷ []
unqueue_changes _ = []

abbrev pub unite_changes : Local → RegionWord → UniteAt → ℕ → List Change
unite_changes l region (UniteAt.Size first) found = []
unite_changes l region (UniteAt.Win b at) found = won_changes (joining b) (win_learn (unite_win b) at found)
unite_changes l region (UniteAt.Unlink b at) found = cond (eqb (b.first - region.first) 0) []
    (merged_changes region.first (b.first - region.first) b.granules
    (bin_learn (unite_unlink (unite_call l region) b) at found))

abbrev pub reset_changes : Local → ResetAt → ℕ → List Change
reset_changes l (ResetAt.Evict region at) found = evict_changes (evict_learn (evict_call l region) at found)
reset_changes l (ResetAt.Clear granules at) found = clear_changes l granules (clear_learn at found)
reset_changes l (ResetAt.Unqueue at) found = unqueue_changes (unqueue_learn at found)
reset_changes l (ResetAt.Unite region at) found = unite_changes l region at found
reset_changes l (ResetAt.Bin at) found = bin_changes (joining l.call.block) at
reset_changes l _ found = []

abbrev pub changes_at : Local → At → ℕ → List Change
changes_at l (At.End at) found =
    ended_changes (block_in (ended_object l).kind) (end_learn (end_call l) at found)
changes_at l (At.Small at) found = small_changes l at
changes_at l (At.Large at) found = large_changes l at
changes_at l (At.Get at) found = get_changes l (get_learn at found)
changes_at l (At.Keep at) found = keep_changes l (keep_learn at found)
changes_at l (At.Sweep at) found = sweep_changes l (sweep_learn (sweep_call l) at found)
changes_at l (At.Scan at) found = scan_changes at.step found
changes_at l (At.Cut at) found = cut_changes (cut_call l) at
changes_at l (At.Whole at) found = bin_changes (using l.ask.block) at
changes_at l (At.Drain at) found = drain_changes (drain_call l) at found
changes_at l (At.Put at) found = put_changes (put_call l) at found
changes_at l (At.Office job at) found = office_changes job at
changes_at l (At.Reset at) found = reset_changes l at found
changes_at l _ found = []

-- how the next step, finding this, changes what is in hand
abbrev pub changes_of : Local → Seen → List Change
changes_of l s = changes_at l l.at (word_seen s)
