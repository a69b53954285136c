-- Which blocks of granules a seat has in its hand, by its position.
use Rattle.std.specs.Prelude.{ℕ, ◌+◌, ◌-◌, Bool, true, false, cond, eqb, ltb, Option, Some, None, List, [], ◌∷◌}
use Rattle.std.specs.Prelude.{◌++◌, ⊤}
use Rattle.pool_types.specs.declared.policy.RegionRec.{RegionRec}
use Rattle.guards.specs.declared.win.Taking.{Taking}
use Rattle.word_codes.specs.declared.region_words.RegionWord.{RegionWord}
use Rattle.backend_bins.specs.declared.bin.BinAt.{BinAt}
use Rattle.backend_bins.specs.declared.blocks.Block.{Block}
use Rattle.backend_bins.specs.declared.cut.CutAt.{CutAt}
use Rattle.backend_bins.specs.declared.cut.CutCall.{CutCall}
use Rattle.backend_bins.specs.declared.scan.ScanAt.{ScanAt}
use Rattle.backend_bins.specs.declared.scan.ScanStep.{ScanStep}
use Rattle.backend_bins.specs.Blocks.{block}
use Rattle.backend_bins.specs.Cut.{back_of, front_of}
use Rattle.coalescer.specs.declared.drain.DrainAt.{DrainAt}
use Rattle.coalescer.specs.declared.put.PutAt.{PutAt}
use Rattle.coalescer.specs.declared.put.PutStep.{PutStep}
use Rattle.large_cache.specs.declared.sweep.Cleanup.{Cleanup}
use Rattle.region_steps.specs.declared.office.OfficeAt.{OfficeAt}
use Rattle.region_steps.specs.declared.office.OfficeEnd.{OfficeEnd}
use Rattle.reset_steps.specs.declared.unite.UniteAt.{UniteAt}
use Rattle.step_local.specs.declared.frames.At.{At}
use Rattle.step_local.specs.declared.frames.Call.{Call}
use Rattle.step_local.specs.declared.frames.LargeAt.{LargeAt}
use Rattle.step_local.specs.declared.frames.Local.{Local}
use Rattle.step_local.specs.declared.frames.OfficeFor.{OfficeFor}
use Rattle.step_local.specs.declared.frames.PutFor.{PutFor}
use Rattle.step_local.specs.declared.frames.ResetAt.{ResetAt}
use Rattle.step_local.specs.declared.frames.ResetStage.{ResetStage}
use Rattle.step_local.specs.declared.frames.Served.{Served}
use Rattle.step_local.specs.declared.frames.SmallAt.{SmallAt}
use Rattle.step_local.specs.declared.frames.Stage.{Stage}
use Rattle.step_local.specs.Backend.{cut_call}
use Rattle.step_local.specs.Leaving.{slab_block}

-- a block in hand. Of a region that is given back the local keeps the first granule alone: it has no granules here.
pub record Hand : Type 0 where
  pub first : ℕ
  pub granules : Option ℕ
  pub taking : Taking

abbrev pub hand : ℕ → ℕ → Taking → Hand
hand first granules taking = record { first = first; granules = Some granules; taking = taking }

-- a block that is to be used or cut, and one that is to be put
abbrev pub using : Block → Hand
using b = hand b.first b.granules Taking.ForUse

abbrev pub joining : Block → Hand
joining b = hand b.first b.granules Taking.ToJoin

-- the block that begins there, as long as its region
abbrev pub returning : ℕ → Hand
returning first = record { first = first; granules = None; taking = Taking.ToJoin }

-- a block that is put into its bin is in hand until it is offered at both ends
abbrev pub bin_hands : Hand → BinAt → List Hand
bin_hands one BinAt.Lock = one ∷ []
bin_hands one BinAt.Size = one ∷ []
bin_hands one BinAt.Left = one ∷ []
bin_hands one (BinAt.Insert at) = []
bin_hands one (BinAt.Out at) = []
bin_hands one BinAt.Unlock = []

-- a neighbour that was won is a block of its own until it is out of its bin's list; the rest of the block that is
-- put, behind a left neighbour and before a right one
abbrev pub rest_behind : PutAt → Block → Block
rest_behind p neighbour = block (neighbour.first + neighbour.granules) (p.block.granules - neighbour.granules)

abbrev pub rest_before : PutAt → Block → Block
rest_before p neighbour = block p.block.first (p.block.granules - neighbour.granules)

abbrev pub put_hands_at : PutAt → PutStep → List Hand
put_hands_at p (PutStep.UnlinkLeft neighbour at) = joining neighbour ∷ joining (rest_behind p neighbour) ∷ []
put_hands_at p (PutStep.UnlinkRight neighbour at) = joining (rest_before p neighbour) ∷ joining neighbour ∷ []
put_hands_at p (PutStep.Bin at) = bin_hands (joining p.block) at
put_hands_at p _ = joining p.block ∷ []

abbrev pub put_hands : PutAt → List Hand
put_hands p = put_hands_at p p.step

-- of the queue, a block is in hand here once its link was read
abbrev pub drain_hands : DrainAt → List Hand
drain_hands DrainAt.Swap = []
drain_hands (DrainAt.Link first) = []
drain_hands (DrainAt.Put rest at) = put_hands at

-- a block is in a scan's hand once both its guards are won
abbrev pub took_hands : Option Block → List Hand
took_hands (Some b) = using b ∷ []
took_hands None = []

abbrev pub scan_hands_at : ScanStep → List Hand
scan_hands_at (ScanStep.Out b at) = using b ∷ []
scan_hands_at (ScanStep.Unlock took) = took_hands took
scan_hands_at _ = []

abbrev pub scan_hands : ScanAt → List Hand
scan_hands s = scan_hands_at s.step

-- of a block that is cut: what lies before the piece, if anything does, the rest, and what lies behind the piece
abbrev pub has_front : CutCall → Bool
has_front c = ltb 0 (front_of c).granules

abbrev pub has_back : CutCall → Bool
has_back c = ltb 0 (back_of c).granules

abbrev pub behind_front : CutCall → Bool → Block
behind_front c true = block (c.block.first + (front_of c).granules) (c.block.granules - (front_of c).granules)
behind_front c false = c.block

abbrev pub if_any : Bool → Block → List Hand
if_any true b = using b ∷ []
if_any false b = []

-- both guards at the piece's begin say so before the front is a block, and so behind the piece
abbrev pub halves_of : CutCall → List Hand
halves_of c = if_any (has_front c) (front_of c) ++ (using (behind_front c (has_front c)) ∷ [])

abbrev pub piece_and_back : CutCall → List Hand
piece_and_back c = using c.piece ∷ if_any (has_back c) (back_of c)

abbrev pub cut_hands : CutCall → CutAt → List Hand
cut_hands c CutAt.FrontLeft = using c.block ∷ []
cut_hands c CutAt.FrontSize = using c.block ∷ []
cut_hands c CutAt.BackLeft = halves_of c
cut_hands c CutAt.BackSize = halves_of c
cut_hands c (CutAt.Front at) = bin_hands (using (front_of c)) at ++ piece_and_back c
cut_hands c (CutAt.Back at) = using c.piece ∷ bin_hands (using (back_of c)) at

-- a region that came is a block with its last guard; one without a granule is none
abbrev pub region_hands : RegionRec → List Hand
region_hands one = cond (eqb one.granules 0) [] (using (block one.first one.granules) ∷ [])

abbrev pub end_hands : OfficeEnd → List Hand
end_hands (OfficeEnd.Obtained one) = region_hands one
end_hands (OfficeEnd.Refused error) = []
end_hands OfficeEnd.Given = []

abbrev pub obtain_hands : OfficeAt → List Hand
obtain_hands (OfficeAt.Back end) = end_hands end
obtain_hands (OfficeAt.Unlock end) = end_hands end
obtain_hands _ = []

-- a region that is given back is in hand until its word is gone
abbrev pub give_hands : ℕ → OfficeAt → List Hand
give_hands first (OfficeAt.Back end) = []
give_hands first (OfficeAt.Unlock end) = []
give_hands first _ = returning first ∷ []

-- blocks of so many granules that left the cache with the lock of their bin, the oldest first
abbrev pub released_hands : ℕ → List ℕ → List Hand
released_hands granules [] = []
released_hands granules (first ∷ rest) = joining (block first granules) ∷ released_hands granules rest

-- the large block that a get took stays in hand all through the regular cleanup behind it
abbrev pub got_hands_by : Block → Served → Bool → List Hand
got_hands_by b (Served.Small class) missed = []
got_hands_by b (Served.Large granules alignment) true = []
got_hands_by b (Served.Large granules alignment) false = using b ∷ []

abbrev pub got_hands_at : Call → Stage → List Hand
got_hands_at c Stage.Getting = got_hands_by c.block c.served c.missed
got_hands_at c _ = []

abbrev pub swept_hands_by : Call → Cleanup → List Hand
swept_hands_by c Cleanup.Regular = got_hands_at c c.stage
swept_hands_by c Cleanup.Soft = []
swept_hands_by c Cleanup.Hard = []

abbrev pub swept_hands : Local → List Hand
swept_hands l = swept_hands_by l.call l.sweep.cleanup

-- what the seat has in hand beside the block that it puts, or whose region it gives back
abbrev pub beside_put : Local → PutFor → List Hand → List Hand
beside_put l PutFor.Swept hands =
    swept_hands l ++ (released_hands l.sweep.granules l.released.items ++ hands)
beside_put l PutFor.Surplus hands = hands
beside_put l PutFor.Released hands = hands
beside_put l PutFor.Emptied hands = hands
beside_put l PutFor.Left hands = hands

abbrev pub beside_bin : Local → Stage → List Hand → List Hand
beside_bin l (Stage.Resetting (ResetStage.Cache granules)) hands = released_hands granules l.released.items ++ hands
beside_bin l _ hands = hands

abbrev pub office_hands : Local → OfficeFor → OfficeAt → List Hand
office_hands l OfficeFor.Ask at = obtain_hands at
office_hands l (OfficeFor.Put first) at = beside_put l l.put (give_hands first at)
office_hands l (OfficeFor.Drain first rest) at = give_hands first at

-- a slab is a block in hand before it begins and after it was emptied
abbrev pub small_hands : SmallAt → List Hand
small_hands (SmallAt.Next slab) = using (slab_block slab) ∷ []
small_hands (SmallAt.Public slab) = using (slab_block slab) ∷ []
small_hands (SmallAt.Own slab) = using (slab_block slab) ∷ []
small_hands (SmallAt.Kind slab) = using (slab_block slab) ∷ []
small_hands (SmallAt.Cache slab) = using (slab_block slab) ∷ []
small_hands _ = []

-- the block of a large object is in hand from the end of its grant on, and until its kind is written
abbrev pub tick_hands : Block → Stage → List Hand
tick_hands b Stage.Getting = []
tick_hands b _ = using b ∷ []

abbrev pub large_hands : Local → LargeAt → List Hand
large_hands l LargeAt.Tick = tick_hands l.call.block l.call.stage
large_hands l (LargeAt.Kind unit) = using l.call.block ∷ []
large_hands l (LargeAt.Grant unit) = []

abbrev pub located_hands : Block → Served → List Hand
located_hands b (Served.Small class) = []
located_hands b (Served.Large granules alignment) = using b ∷ []

-- a region's granules before this one are united, and behind them lies a block that was won
abbrev pub united_hands : RegionWord → ℕ → List Hand
united_hands region first =
    cond (eqb (first - region.first) 0) [] (joining (block region.first (first - region.first)) ∷ [])

abbrev pub unite_hands : RegionWord → UniteAt → List Hand
unite_hands region (UniteAt.Size first) = united_hands region first
unite_hands region (UniteAt.Win b at) = united_hands region b.first
unite_hands region (UniteAt.Unlink b at) = united_hands region b.first ++ (joining b ∷ [])

abbrev pub reset_hands : Local → ResetAt → List Hand
reset_hands l (ResetAt.Bin at) = beside_bin l l.call.stage (bin_hands (joining l.call.block) at)
reset_hands l (ResetAt.Unite region at) = unite_hands region at
reset_hands l _ = []

abbrev pub hands_at : Local → At → List Hand
hands_at l (At.Locate at) = located_hands l.call.block l.call.served
hands_at l (At.Small at) = small_hands at
hands_at l (At.Large at) = large_hands l at
hands_at l (At.Keep at) = using l.call.block ∷ []
hands_at l (At.Sweep at) = swept_hands l
hands_at l (At.Scan at) = scan_hands at
hands_at l (At.Cut at) = cut_hands (cut_call l) at
hands_at l (At.Whole at) = bin_hands (using l.ask.block) at
hands_at l (At.Drain at) = drain_hands at
hands_at l (At.Put at) = beside_put l l.put (put_hands at)
hands_at l (At.Office job at) = office_hands l job at
hands_at l (At.Reset at) = reset_hands l at
hands_at l _ = []

-- all blocks that the seat has in hand
abbrev pub hands_of : Local → List Hand
hands_of l = hands_at l l.at

-- a fact of each of these blocks
abbrev pub AllHands : (Hand → Type 0) → List Hand → Type 0
AllHands IsSuch [] = ⊤
AllHands IsSuch (one ∷ rest) = IsSuch one × AllHands IsSuch rest

-- where these blocks begin
abbrev pub firsts : List Hand → List ℕ
firsts [] = []
firsts (one ∷ rest) = one.first ∷ firsts rest
