-- A seat of which nothing changes stays tied to its local.
use Rattle.std.proofs.Common.{◌≡◌, ℕ, ◌+◌, ◌<◌, List, [], ◌∷◌, ◌++◌, sym, ap, subst, arith, ◌∙◌}
use Rattle.pool_words.specs.declared.words.Key.{Key}
use Rattle.word_codes.specs.declared.guards.Guard.{Guard}
use Rattle.guards.specs.declared.win.Side.{Side}
use Rattle.guards.specs.declared.win.Taking.{Taking}
use Rattle.backend_bins.specs.declared.cut.CutAt.{CutAt}
use Rattle.backend_bins.specs.declared.cut.CutCall.{CutCall}
use Rattle.backend_bins.specs.declared.scan.ScanAt.{ScanAt}
use Rattle.backend_bins.specs.declared.scan.ScanStep.{ScanStep}
use Rattle.backend_bins.specs.declared.blocks.Block.{Block}
use Rattle.backend_bins.specs.Blocks.{block_end}
use Rattle.backend_bins.specs.Cut.{front_of}
use Rattle.coalescer.specs.declared.drain.DrainAt.{DrainAt}
use Rattle.region_steps.specs.declared.office.OfficeAt.{OfficeAt}
use Rattle.chain_laws.specs.Chains.{tally}
use Rattle.guard_laws.specs.Blocks.{BlocksWhole, Piece, Place, Use, piece_of}
use Rattle.guard_laws.specs.Steps.{guard_in}
use Rattle.lock_laws.specs.Seats.{lock_in}
use Rattle.bin_laws.specs.Bins.{list_task}
use Rattle.bin_laws.specs.Bins as bins
use Rattle.step_local.specs.declared.frames.At.{At}
use Rattle.step_local.specs.declared.frames.Local.{Local}
use Rattle.step_local.specs.declared.frames.OfficeFor.{OfficeFor}
use Rattle.step_local.specs.declared.frames.PutFor.{PutFor}
use Rattle.step_local.specs.Backend.{cut_call, drain_call}
use Rattle.coalescer.specs.Drain.{put_call as drained_put}
use Rattle.step_local.specs.Leaving.{put_call}
use Rattle.step_laws.specs.Tasks.{task_of}
use Rattle.backend_tasks.specs.Bins.{scan_task}
use Rattle.backend_tasks.specs.Fits.{DrainFits as BackDrainFits}
use Rattle.backend_tasks.specs.Guards.{drain_guard, guard_task_of}
use Rattle.hand_blocks.specs.Fits.{CutFits, DrainFits}
use Rattle.hand_blocks.specs.Hands.{Hand, behind_front, beside_put, drain_hands, give_hands, has_front, hands_of}
use Rattle.hand_blocks.specs.Hands.{if_any}
use Rattle.hand_blocks.specs.Hands.{put_hands, released_hands, swept_hands, using, cut_hands}
use Rattle.seat_laws.proofs.CutNumbers.{BackLies, FrontLies, PieceLies, back_lies, front_lies, piece_lies}
use Rattle.seat_laws.proofs.CutNumbers.{rest_lies}
use Rattle.pool_laws.specs.Wholes.{Whole}
use Rattle.seat_hands.proofs.CallerLemmas.{hands_stay}
use Rattle.seat_ties.specs.Says.{CutSays, DrainSays, GiveSays, IsAllOfRegion, ObtainSays, OfficeSays, SaysAt, ScanSays}
use Rattle.seat_ties.specs.Ties.{AreInHand, HandsTied, HeapTied, SeatTied, TasksTied}
use Rattle.seat_laws.specs.Laws.{SeatsLeftAloneAreTied}
use Rattle.seat_laws.specs.Stays.{BlocksStay, ListsStay, SeatStays}
use Rattle.seat_laws.proofs.Words.{is_inside, put_stays}

tasks_tied : (w later : Whole) (t : ℕ) (l : Local) → SeatStays w later t → TasksTied w t l → TasksTied later t l
tasks_tied w later t l stays tied = record {
  guards = stays.pool.guards ∙ tied.guards;
  bins = stays.tasks.bins ∙ tied.bins;
  queue = stays.tasks.queue ∙ tied.queue;
  objects = stays.pool.objects ∙ tied.objects;
  mails = stays.tasks.mails ∙ tied.mails;
  orphans = stays.tasks.orphans ∙ tied.orphans;
  jobs = stays.tasks.jobs ∙ tied.jobs;
  desks = stays.tasks.desks ∙ tied.desks;
}

heap_tied : (w later : Whole) (t : ℕ) (l : Local) → SeatStays w later t → HeapTied w t l → HeapTied later t l
heap_tied w later t l stays tied = record {
  kept = stays.pool.kept ∙ tied.kept;
  cached = stays.pool.cached ∙ tied.cached;
  spares = stays.tasks.spares ∙ tied.spares;
  last = stays.pool.last ∙ tied.last;
}

hands_tied : (w later : Whole) (t : ℕ) (l : Local) → SeatStays w later t
    → HandsTied w.pool.blocks.place (w.drained t) t (hands_of l)
    → HandsTied later.pool.blocks.place (later.drained t) t (hands_of l)
hands_tied w later t l stays tied =
    subst (λ d. HandsTied later.pool.blocks.place d t (hands_of l)) (sym stays.tasks.drained)
    (hands_stay w.pool.blocks.place later.pool.blocks.place (w.drained t) t (hands_of l) tied stays.blocks.stand)

-- blocks in hand of a part of these
lie_behind : (place : ℕ → Place) (t : ℕ) (above below : List Hand) → AreInHand place t (above ++ below)
    → AreInHand place t below
lie_behind place t [] below lie = lie
lie_behind place t (one ∷ above) below lie = lie_behind place t above below lie.1

lie_beside : (place : ℕ → Place) (t : ℕ) (l : Local) (why : PutFor) (hands : List Hand)
    → AreInHand place t (beside_put l why hands) → AreInHand place t hands
lie_beside place t l PutFor.Swept hands lie =
    lie_behind place t (released_hands l.sweep.granules l.released.items) hands
    (lie_behind place t (swept_hands l) (released_hands l.sweep.granules l.released.items ++ hands) lie)
lie_beside place t l PutFor.Surplus hands lie = lie
lie_beside place t l PutFor.Released hands lie = lie
lie_beside place t l PutFor.Emptied hands lie = lie
lie_beside place t l PutFor.Left hands lie = lie

items_say : (w later : Whole) (t first b : ℕ) → ListsStay w later t → w.bins t ≡ bins.Task.Has b
    → 0 < tally first (w.items b) → 0 < tally first (later.items b)
items_say w later t first b lists has some =
    subst (λ items. 0 < tally first items) (sym (lists.items b (ap (λ task. lock_in (list_task task)) has))) some

scan_says : (w later : Whole) (t : ℕ) (s : ScanAt) (step : ScanStep) → ListsStay w later t
    → w.bins t ≡ scan_task s step → ScanSays w.items s.bin step → ScanSays later.items s.bin step
scan_says w later t s (ScanStep.Length first) lists is says = items_say w later t first s.bin lists is says
scan_says w later t s (ScanStep.Win b at) lists is says = items_say w later t b.first s.bin lists is says
scan_says w later t s (ScanStep.Next first) lists is says = items_say w later t first s.bin lists is says
scan_says w later t s ScanStep.Peek lists is says = tt
scan_says w later t s ScanStep.Lock lists is says = tt
scan_says w later t s ScanStep.Head lists is says = tt
scan_says w later t s (ScanStep.Out b at) lists is says = tt
scan_says w later t s (ScanStep.Unlock took) lists is says = tt

-- a guard within a block in hand says on that a block is in use
inner_says : (w later : Whole) (t x n y : ℕ) → BlocksStay w.pool later.pool t
    → piece_of (w.pool.tasks t) ≡ Piece.NoPiece → w.pool.blocks.place x ≡ Place.Block x n (Use.Held t Taking.ForUse)
    → x < y → y < x + n → guard_in w.pool.mem Side.End y ≡ Guard.Used → guard_in later.pool.mem Side.End y ≡ Guard.Used
inner_says w later t x n y stay none is low high says =
    stay.shut Side.End y x n Taking.ForUse Guard.Used is none (low, omega arith) tt says

cut_says : (w later : Whole) (t : ℕ) (l : Local) (at : CutAt) → BlocksStay w.pool later.pool t
    → w.pool.tasks t ≡ guard_task_of (record l { at = At.Cut at })
    → CutFits (record l { at = At.Cut at }) at
    → AreInHand w.pool.blocks.place t (cut_hands (cut_call l) at) → CutSays w (cut_call l) at
    → CutSays later (cut_call l) at
cut_says w later t l CutAt.FrontSize stay is fits lie says =
    let c : CutCall = cut_call l in
    let lies : FrontLies c = front_lies c (piece_lies (record l { at = At.Cut CutAt.FrontSize }) CutAt.FrontSize fits)
    fits.here in
    inner_says w later t c.block.first c.block.granules c.piece.first stay (ap piece_of is) lie.0 lies.low lies.high
    says
cut_says w later t l CutAt.BackSize stay is fits lie says =
    let c : CutCall = cut_call l in
    let rest : Block = behind_front c (has_front c) in
    let piece : PieceLies c = piece_lies (record l { at = At.Cut CutAt.BackSize }) CutAt.BackSize fits in
    let lies : BackLies c rest = back_lies c rest piece (rest_lies c piece) fits.here in
    let has = (lie_behind w.pool.blocks.place t (if_any (has_front c) (front_of c)) (using rest ∷ []) lie).0 in
    inner_says w later t rest.first rest.granules (block_end c.piece) stay (ap piece_of is) has lies.low lies.high says
cut_says w later t l CutAt.FrontLeft stay is fits lie says = tt
cut_says w later t l CutAt.BackLeft stay is fits lie says = tt
cut_says w later t l (CutAt.Front at) stay is fits lie says = tt
cut_says w later t l (CutAt.Back at) stay is fits lie says = tt

drain_says : (w later : Whole) (t : ℕ) (l : Local) (at : DrainAt) → BlocksWhole w.pool.blocks.place
    → BlocksStay w.pool later.pool t → ListsStay w later t → w.pool.tasks t ≡ drain_guard at
    → AreInHand w.pool.blocks.place t (drain_hands at) → DrainFits at → BackDrainFits (drain_call l) at
    → DrainSays w at → DrainSays later at
drain_says w later t l DrainAt.Swap whole stay lists is lie fits puts says = tt
drain_says w later t l (DrainAt.Link first) whole stay lists is lie fits puts says = tt
drain_says w later t l (DrainAt.Put rest at) whole stay lists is lie fits puts says =
    put_stays w later t (drained_put (drain_call l)) at at.step whole stay lists is lie fits puts says

-- a block that is all of its region stays so
all_says : (w later : Whole) (t first n : ℕ) → BlocksStay w.pool later.pool t → ListsStay w later t
    → w.pool.blocks.place first ≡ Place.Block first n (Use.Held t Taking.ToJoin) → IsAllOfRegion w t first
    → IsAllOfRegion later t first
all_says w later t first n stay lists lies says s one some has =
    let inside = is_inside w.pool.blocks.place first n first (Use.Held t Taking.ToJoin) lies in
    let was = says s one (lists.settled s first one inside some has) has in
    (was.0, stay.stand first n Taking.ToJoin lies ∙ was.1)

give_says : (w later : Whole) (t first : ℕ) (at : OfficeAt) → BlocksStay w.pool later.pool t → ListsStay w later t
    → AreInHand w.pool.blocks.place t (give_hands first at) → GiveSays w t first at → GiveSays later t first at
give_says w later t first (OfficeAt.Back end) stay lists lie says = tt
give_says w later t first (OfficeAt.Unlock end) stay lists lie says = tt
give_says w later t first OfficeAt.Lock stay lists lie says = all_says w later t first lie.0.0 stay lists lie.0.1 says
give_says w later t first (OfficeAt.Region slot given) stay lists lie says =
    all_says w later t first lie.0.0 stay lists lie.0.1 says
give_says w later t first (OfficeAt.Take given) stay lists lie says =
    all_says w later t first lie.0.0 stay lists lie.0.1 says
give_says w later t first (OfficeAt.Base one) stay lists lie says =
    all_says w later t first lie.0.0 stay lists lie.0.1 says
give_says w later t first (OfficeAt.Enter one) stay lists lie says =
    all_says w later t first lie.0.0 stay lists lie.0.1 says
give_says w later t first (OfficeAt.WallSize one) stay lists lie says =
    all_says w later t first lie.0.0 stay lists lie.0.1 says
give_says w later t first (OfficeAt.WallLeft one) stay lists lie says =
    all_says w later t first lie.0.0 stay lists lie.0.1 says
give_says w later t first (OfficeAt.FirstSize one) stay lists lie says =
    all_says w later t first lie.0.0 stay lists lie.0.1 says
give_says w later t first (OfficeAt.LastLeft one) stay lists lie says =
    all_says w later t first lie.0.0 stay lists lie.0.1 says
give_says w later t first (OfficeAt.Remove given) stay lists lie says =
    all_says w later t first lie.0.0 stay lists lie.0.1 says

obtain_says : (w later : Whole) (t : ℕ) (l : Local) (job : OfficeFor) (at : OfficeAt) → ListsStay w later t
    → w.desks t ≡ task_of (record l { at = At.Office job at }) → ObtainSays w at → ObtainSays later at
obtain_says w later t l job (OfficeAt.LastLeft one) lists is says = lists.first _ one is says
obtain_says w later t l job OfficeAt.Lock lists is says = tt
obtain_says w later t l job (OfficeAt.Region slot given) lists is says = tt
obtain_says w later t l job (OfficeAt.Take given) lists is says = tt
obtain_says w later t l job (OfficeAt.Base one) lists is says = tt
obtain_says w later t l job (OfficeAt.Enter one) lists is says = tt
obtain_says w later t l job (OfficeAt.WallSize one) lists is says = tt
obtain_says w later t l job (OfficeAt.WallLeft one) lists is says = tt
obtain_says w later t l job (OfficeAt.FirstSize one) lists is says = tt
obtain_says w later t l job (OfficeAt.Remove given) lists is says = tt
obtain_says w later t l job (OfficeAt.Back end) lists is says = tt
obtain_says w later t l job (OfficeAt.Unlock end) lists is says = tt

office_says : (k : Key) (w later : Whole) (t : ℕ) (l : Local) (job : OfficeFor) (at : OfficeAt)
    → SeatStays w later t → SeatTied k w t (record l { at = At.Office job at }) → OfficeSays later t job at
office_says k w later t l OfficeFor.Ask at stays tied =
    obtain_says w later t l OfficeFor.Ask at stays.lists tied.tasks.desks tied.words
office_says k w later t l (OfficeFor.Put first) at stays tied =
    give_says w later t first at stays.blocks stays.lists
    (lie_beside w.pool.blocks.place t l l.put (give_hands first at) tied.hands.lie) tied.words
office_says k w later t l (OfficeFor.Drain first rest) at stays tied =
    give_says w later t first at stays.blocks stays.lists tied.hands.lie tied.words

words_say : (k : Key) (w later : Whole) (t : ℕ) (l : Local) (at : At) → BlocksWhole w.pool.blocks.place
    → SeatStays w later t → SeatTied k w t (record l { at = at }) → SaysAt later t l at
words_say k w later t l (At.Scan at) whole stays tied =
    scan_says w later t at at.step stays.lists tied.tasks.bins tied.words
words_say k w later t l (At.Cut at) whole stays tied =
    cut_says w later t l at stays.blocks tied.tasks.guards tied.says.hands tied.hands.lie tied.words
words_say k w later t l (At.Drain at) whole stays tied =
    drain_says w later t l at whole stays.blocks stays.lists tied.tasks.guards tied.hands.lie tied.says.hands.1
    tied.says.backend tied.words
words_say k w later t l (At.Put at) whole stays tied =
    put_stays w later t (put_call l) at at.step whole stays.blocks stays.lists tied.tasks.guards
    (lie_beside w.pool.blocks.place t l l.put (put_hands at) tied.hands.lie) tied.says.hands.1 tied.says.backend
    tied.words
words_say k w later t l (At.Office job at) whole stays tied = office_says k w later t l job at stays tied
words_say k w later t l _ whole stays tied = tt

pub seats_left_alone_are_tied : SeatsLeftAloneAreTied
seats_left_alone_are_tied k w later t l good stays tied = record {
  says = tied.says;
  tasks = tasks_tied w later t l stays tied.tasks;
  heap = heap_tied w later t l stays tied.heap;
  notes = stays.pool.notes ∙ tied.notes;
  hands = hands_tied w later t l stays tied.hands;
  words = words_say k w later t l l.at good.free.bins.guards.parts.whole stays tied;
}
