-- Where turns at the backend go on.
use Rattle.std.proofs.Common.{Bool, None, Option, Some, ap, arith, cond, eqb, false, leb, refl, subst}
use Rattle.std.proofs.Common.{sym, true, ℕ, ◌%◌, ◌+◌, ◌≡◌, ◌≤◌}
use Rattle.pool_types.specs.Geometry.{slab_granules}
use Rattle.pool_types.specs.Limits.{most_span}
use Rattle.pool_types.specs.Sums.{capped}
use Rattle.pool_types.specs.declared.policy.RegionRec.{RegionRec}
use Rattle.pool_types.specs.declared.values.Answer.{Answer}
use Rattle.pool_types.specs.declared.values.NullCause.{NullCause}
use Rattle.pool_words.specs.declared.words.Key.{Key}
use Rattle.backend_bins.specs.Blocks.{first_skipped, fits, piece_of}
use Rattle.backend_bins.specs.Cut.{cut_begins}
use Rattle.backend_bins.specs.declared.bin.BinAt.{BinAt}
use Rattle.backend_bins.specs.declared.bin.BinNext.{BinNext}
use Rattle.backend_bins.specs.declared.blocks.Block.{Block}
use Rattle.backend_bins.specs.declared.blocks.Want.{Want}
use Rattle.backend_bins.specs.declared.cut.CutAt.{CutAt}
use Rattle.backend_bins.specs.declared.cut.CutNext.{CutNext}
use Rattle.backend_bins.specs.declared.scan.ScanAt.{ScanAt}
use Rattle.backend_bins.specs.declared.scan.ScanNext.{ScanNext}
use Rattle.coalescer.specs.Drain.{goes_on}
use Rattle.coalescer.specs.declared.drain.DrainAt.{DrainAt}
use Rattle.coalescer.specs.declared.drain.DrainNext.{DrainNext}
use Rattle.coalescer.specs.declared.put.PutAt.{PutAt}
use Rattle.coalescer.specs.declared.put.PutNext.{PutNext}
use Rattle.region_steps.specs.declared.office.OfficeAt.{OfficeAt}
use Rattle.region_steps.specs.declared.office.OfficeEnd.{OfficeEnd}
use Rattle.region_steps.specs.declared.office.OfficeNext.{OfficeNext}
use Rattle.large_cache.specs.declared.sweep.Cleanup.{Cleanup}
use Rattle.large_cache.specs.declared.sweep.SweepAt.{SweepAt}
use Rattle.step_local.specs.Backend.{asked_as, cause_of, cut_as, cut_call, cutting, drained_as, in_vain}
use Rattle.step_local.specs.Backend.{no_piece, nothing_as, obtained, obtained_as, office_as, office_left}
use Rattle.step_local.specs.Backend.{put_as, put_done_as, queue_as, scanned_as, softened, whole_as}
use Rattle.step_local.specs.declared.frames.At.{At}
use Rattle.step_local.specs.declared.frames.Call.{Call}
use Rattle.step_local.specs.declared.frames.Local.{Local}
use Rattle.step_local.specs.declared.frames.OfficeFor.{OfficeFor}
use Rattle.step_local.specs.declared.frames.PutFor.{PutFor}
use Rattle.step_local.specs.declared.frames.Served.{Served}
use Rattle.step_local.specs.declared.frames.Tries.{Tries}
use Rattle.step_ranges.proofs.Backend.{CutGoes, CutNextFits, DrainGoes, DrainNextFits, PutNextFits}
use Rattle.step_ranges.proofs.Backend.{ScanNextFits, begins_fit, goes_on_goes}
use Rattle.step_ranges.proofs.LargeTurns.{emptying_fits, releasing_fits, sweeping_fits, ticked_fits}
use Rattle.step_ranges.proofs.Lists.{BinNextFits}
use Rattle.step_ranges.proofs.Numbers.{block_few, choose_by, end_last, least_by}
use Rattle.step_ranges.proofs.Resets.{OfficeNextFits}
use Rattle.step_ranges.proofs.SlabTurns.{locating_fits, surplus_left_fits}
use Rattle.step_ranges.proofs.Turns.{TurnFits, answered_fits, leaving_fits, scanning_fits, with_call}
use Rattle.step_ranges.specs.Jobs.{BinFits, CutFits, DrainFits, HasBlock, HasRegion, IsCut, IsWanted}
use Rattle.step_ranges.specs.Jobs.{OfficeEndFits, OfficeFits, PutFits, ScanFits}
use Rattle.step_ranges.specs.Locals.{AfterOffice, AfterPut, AskFits, Frames, IsSmall, NoneReleased, PlaceFits}
use Rattle.step_ranges.specs.Locals.{ServedFits}
use Rattle.step_ranges.specs.Ranges.{IsBlock, IsKey, IsSlab}
use Rattle.std.proofs.lemmas.Bool.Decides.{nat_tests}
use Rattle.word_codes.proofs.CallerLemmas.{capped_is}
use Rattle.step_local.specs.Backend.{asked}

module _ (k : Key) (key : IsKey k) where
  -- what is asked of the backend is at least a granule
  some_wanted : (want : Want) (served : Served) → AskFits want served → ServedFits k served → 1 ≤ want.granules
  some_wanted want (Served.Small class) ask fits = omega (arith, ask.0)
  some_wanted want (Served.Large granules alignment) ask fits = let room = fits.room in omega (arith, ask)

  -- the piece is one of the block's
  piece_begin : (want : Want) (b : Block) → IsWanted k want b
      → (piece_of want b).first ≡ b.first + first_skipped want b.first
  piece_begin want b is = capped_is (b.first + first_skipped want b.first)
      (let few = block_few k key b.granules b.first is.block in
      let skipped = skipped_least want.slab b.first in omega arith)
    where
      skipped_least : (slab : Bool) (first : ℕ) → cond slab (first % 2) 0 ≤ 1
      skipped_least true first = omega arith
      skipped_least false first = omega arith

  room_of : (skipped wanted granules : ℕ) → leb (capped (skipped + wanted)) granules ≡ true → granules ≤ most_span
      → skipped + wanted ≤ granules
  room_of skipped wanted granules e few =
      let least = least_by (capped (skipped + wanted)) granules e in omega arith

  piece_room : (want : Want) (b : Block) → IsWanted k want b
      → first_skipped want b.first + want.granules ≤ b.granules
  piece_room want b is = room_of (first_skipped want b.first) want.granules b.granules is.room
      (let few = block_few k key b.granules b.first is.block in omega arith)

  pub is_cut : (l : Local) → IsWanted k l.ask.want l.ask.block → IsCut k (cut_call l)
  is_cut l is =
      let begin = piece_begin l.ask.want l.ask.block is in
      let room = piece_room l.ask.want l.ask.block is in
      record { block = is.block; front = omega arith; back = omega arith }

  even_begin : (first slab : ℕ) → slab ≡ first + first % 2 → slab % 2 ≡ 0
  even_begin first slab e = omega arith

  slab_piece : (want : Want) (b : Block) → IsWanted k want b → want.granules ≡ slab_granules → want.slab ≡ true
      → IsSlab k (piece_of want b).first
  slab_piece want b is two even =
      let begin = piece_begin want b is in
      let room = piece_room want b is in
      let skipped : first_skipped want b.first ≡ b.first % 2 = ap (λ (slab : Bool). cond slab (b.first % 2) 0) even in
      let ends = is.block.ends in
      record { even = even_begin b.first (piece_of want b).first (omega arith); below = omega arith }

  large_piece : (want : Want) (b : Block) → IsWanted k want b → 1 ≤ want.granules
      → IsBlock k want.granules (piece_of want b).first
  large_piece want b is some =
      let begin = piece_begin want b is in
      let room = piece_room want b is in
      let ends = is.block.ends in
      record { begins = omega arith; ends = omega arith }

  asked_as_fits : (l : Local) (served : Served) → l.call.served ≡ served → Frames k l → NoneReleased l
      → AskFits l.ask.want served → IsWanted k l.ask.want l.ask.block
      → TurnFits k (asked_as l (piece_of l.ask.want l.ask.block) served)
  asked_as_fits l (Served.Small class) e frames none ask is = record {
    frames = frames;
    at = (none, (slab_piece l.ask.want l.ask.block is ask.0 ask.1, subst IsSmall (sym e) tt));
  }
  asked_as_fits l (Served.Large granules alignment) e frames none ask is =
      let c : Call = record l.call { block = piece_of l.ask.want l.ask.block } in
      let some =
      some_wanted l.ask.want (Served.Large granules alignment) ask (subst (ServedFits k) e frames.call.served) in
      locating_fits k key (record l { call = c }) (with_call frames c frames.call) none
      (subst (PlaceFits k c) (sym e)
      (subst (λ length. IsBlock k length c.block.first) ask (large_piece l.ask.want l.ask.block is some), ask))

  asked_fits : (l : Local) → Frames k l → NoneReleased l → AskFits l.ask.want l.call.served
      → IsWanted k l.ask.want l.ask.block → TurnFits k (asked l)
  asked_fits l frames none ask is = asked_as_fits l l.call.served refl frames none ask is

  nothing_fits : (l : Local) (cause : NullCause) (served : Served) → Frames k l → NoneReleased l
      → TurnFits k (nothing_as l cause served)
  nothing_fits l cause (Served.Small class) frames none = answered_fits k l (Answer.Null cause) frames none
  nothing_fits l cause (Served.Large granules alignment) frames none = record { frames = frames; at = none }

  in_vain_fits : (l : Local) (seen : ℕ) (tries : Tries) → Frames k l → NoneReleased l
      → AskFits l.ask.want l.call.served
      → TurnFits k (in_vain l seen tries)
  in_vain_fits l seen Tries.First frames none ask = record { frames = frames; at = (none, ask) }
  in_vain_fits l seen Tries.Queue frames none ask = record { frames = frames; at = ((none, ask), tt) }
  in_vain_fits l seen Tries.Soft frames none ask =
      sweeping_fits k key (record l { ask = record l.ask { tries = Tries.Hard } }) Cleanup.Hard SweepAt.Peek frames
      (none, tt) ask
  in_vain_fits l seen Tries.Hard frames none ask =
      nothing_fits l (cause_of l.ask.want seen l.ask.refused) l.call.served frames none

  softened_fits : (l : Local) → Frames k l → NoneReleased l → AskFits l.ask.want l.call.served
      → TurnFits k (softened l)
  softened_fits l frames none ask =
      sweeping_fits k key (record l { ask = record l.ask { tries = Tries.Soft } }) Cleanup.Soft SweepAt.Clock frames
      (none, tt) ask

  cut_goes_on : (l : Local) (at : At) (next : CutNext) → Frames k l → NoneReleased l → AskFits l.ask.want l.call.served
      → IsWanted k l.ask.want l.ask.block → CutGoes k (cut_call l) next → TurnFits k (cut_as l at next)
  cut_goes_on l at (CutNext.Goes on) frames none ask is goes = record { frames = frames; at = (none, ask, is, goes) }
  cut_goes_on l at (CutNext.Waits bin) frames none ask is goes = absurd goes
  cut_goes_on l at CutNext.Done frames none ask is goes = asked_fits l frames none ask is

  cutting_fits : (l : Local) (b : Block) → Frames k l → NoneReleased l → AskFits l.ask.want l.call.served
      → IsWanted k l.ask.want b → TurnFits k (cutting l b)
  cutting_fits l b frames none ask is =
      let l' : Local = record l { ask = record l.ask { block = b } } in
      cut_goes_on l' l'.at (cut_begins (cut_call l')) frames none ask is
      (begins_fit k key (cut_call l') (is_cut l' is))

  pub cut_as_fits : (l : Local) (at : CutAt) (next : CutNext) → Frames k l → NoneReleased l
      → AskFits l.ask.want l.call.served → IsWanted k l.ask.want l.ask.block → CutFits k (cut_call l) at
      → CutNextFits k (cut_call l) next → TurnFits k (cut_as l (At.Cut at) next)
  cut_as_fits l at (CutNext.Goes on) frames none ask is fits next =
      record { frames = frames; at = (none, ask, is, next) }
  cut_as_fits l at (CutNext.Waits bin) frames none ask is fits next =
      record { frames = frames; at = (none, ask, is, fits) }
  cut_as_fits l at CutNext.Done frames none ask is fits next = asked_fits l frames none ask is

  pub scanned_fits : (l : Local) (at : ScanAt) (next : ScanNext) → Frames k l → NoneReleased l
      → AskFits l.ask.want l.call.served → ScanFits k l.ask.want at → ScanNextFits k l.ask.want next
      → TurnFits k (scanned_as l at next)
  scanned_fits l at (ScanNext.Goes on) frames none ask fits next = record { frames = frames; at = (none, ask, next) }
  scanned_fits l at ScanNext.WaitsLock frames none ask fits next = record { frames = frames; at = (none, ask, fits) }
  scanned_fits l at (ScanNext.WaitsHalf bin again) frames none ask fits next =
      record { frames = frames; at = (none, ask, next) }
  scanned_fits l at (ScanNext.Took b) frames none ask fits next = cutting_fits l b frames none ask next
  scanned_fits l at (ScanNext.Nothing seen) frames none ask fits next = in_vain_fits l seen l.ask.tries frames none ask

  pub queue_as_fits : (l : Local) (one : Option ℕ) → Frames k l → NoneReleased l → AskFits l.ask.want l.call.served
      → TurnFits k (queue_as l one)
  queue_as_fits l None frames none ask = record { frames = frames; at = ((none, ask), tt) }
  queue_as_fits l (Some block) frames none ask = record { frames = frames; at = (none, ask, tt) }

  pub whole_as_fits : (l : Local) (at : BinAt) (next : BinNext) → Frames k l → NoneReleased l
      → AskFits l.ask.want l.call.served → HasBlock k l.ask.block → BinFits k at → BinNextFits k next
      → TurnFits k (whole_as l at next)
  whole_as_fits l at (BinNext.Goes on) frames none ask is fits next =
      record { frames = frames; at = (none, ask, is, next) }
  whole_as_fits l at BinNext.Waits frames none ask is fits next =
      record { frames = frames; at = (none, ask, is, fits) }
  whole_as_fits l at BinNext.Done frames none ask is fits next = softened_fits l frames none ask

  -- a region that came
  region_block_there : (one : RegionRec) → HasRegion k one → 1 ≤ one.granules → IsBlock k one.granules one.first
  region_block_there one is some =
      let last = end_last k key in record { begins = omega arith; ends = omega arith }

  no_piece_fits : (l : Local) (one : RegionRec) → Frames k l → NoneReleased l → AskFits l.ask.want l.call.served
      → HasRegion k one → TurnFits k (no_piece l (record { first = one.first; granules = one.granules }))
  no_piece_fits l one frames none ask is = choose_by (TurnFits k) (eqb one.granules 0) _ _
      (λ nothing. softened_fits l frames none ask)
      (λ some. record {
        frames = frames;
        at = (none, ask, region_block_there one is (some_by one.granules some), tt);
      })
    where
      some_by : (n : ℕ) → eqb n 0 ≡ false → 1 ≤ n
      some_by n e = grind (arith, nat_tests)

  obtained_fits : (l : Local) (one : RegionRec) → Frames k l → NoneReleased l → AskFits l.ask.want l.call.served
      → HasRegion k one → TurnFits k (obtained l (record { first = one.first; granules = one.granules }))
  obtained_fits l one frames none ask is =
      let b : Block = record { first = one.first; granules = one.granules } in
      choose_by (TurnFits k) (fits l.ask.want b) _ _
      (λ room. cutting_fits l b frames none ask (record {
        block = region_block_there one is
            (let wanted = some_wanted l.ask.want l.call.served ask frames.call.served in
            let least =
            least_by (capped (first_skipped l.ask.want one.first + l.ask.want.granules)) one.granules room in
            omega arith);
        room = room;
      }))
      (λ no. no_piece_fits l one frames none ask is)

  obtained_as_fits : (l : Local) (end : OfficeEnd) → Frames k l → NoneReleased l → AskFits l.ask.want l.call.served
      → OfficeEndFits k end → TurnFits k (obtained_as l end)
  obtained_as_fits l (OfficeEnd.Obtained one) frames none ask is = obtained_fits l one frames none ask is
  obtained_as_fits l (OfficeEnd.Refused error) frames none ask is =
      softened_fits (record l { ask = record l.ask { refused = Some error } }) frames none ask
  obtained_as_fits l OfficeEnd.Given frames none ask is = softened_fits l frames none ask

  -- a block was put
  put_done_as_fits : (l : Local) (why : PutFor) → Frames k l
      → AfterPut k l.call l.ask.want l.sweep l.released.items why → TurnFits k (put_done_as l why)
  put_done_as_fits l PutFor.Surplus frames after = surplus_left_fits k key l frames after
  put_done_as_fits l PutFor.Released frames after = ticked_fits k key l frames after.0 after.1
  put_done_as_fits l PutFor.Swept frames after = releasing_fits k key l frames after.0 after.1
  put_done_as_fits l PutFor.Emptied frames after = emptying_fits k key l frames after.0 after.1
  put_done_as_fits l PutFor.Left frames after = leaving_fits k l frames after.0 after.1

  pub put_as_fits : (l : Local) (at : PutAt) (next : PutNext) → Frames k l
      → AfterPut k l.call l.ask.want l.sweep l.released.items l.put → PutFits k at → PutNextFits k next
      → TurnFits k (put_as l at next)
  put_as_fits l at (PutNext.Goes on) frames after fits next = record { frames = frames; at = (after, next) }
  put_as_fits l at (PutNext.Waits bin) frames after fits next = record { frames = frames; at = (after, fits) }
  put_as_fits l at PutNext.Done frames after fits next = put_done_as_fits l l.put frames after
  put_as_fits l at (PutNext.Gives b) frames after fits next = record { frames = frames; at = (after, tt) }

  drain_goes : (l : Local) (at : At) (next : DrainNext) → Frames k l → NoneReleased l
      → AskFits l.ask.want l.call.served → DrainGoes k next → TurnFits k (drained_as l at next)
  drain_goes l at (DrainNext.Goes on) frames none ask goes = record { frames = frames; at = (none, ask, goes) }
  drain_goes l at (DrainNext.Waits bin) frames none ask goes = absurd goes
  drain_goes l at (DrainNext.Gives b rest) frames none ask goes = absurd goes
  drain_goes l at DrainNext.Drained frames none ask goes = scanning_fits k l frames none ask

  pub drained_fits : (l : Local) (at : DrainAt) (next : DrainNext) → Frames k l → NoneReleased l
      → AskFits l.ask.want l.call.served → DrainFits k at → DrainNextFits k next
      → TurnFits k (drained_as l (At.Drain at) next)
  drained_fits l at (DrainNext.Goes on) frames none ask fits next = record { frames = frames; at = (none, ask, next) }
  drained_fits l at (DrainNext.Waits bin) frames none ask fits next =
      record { frames = frames; at = (none, ask, fits) }
  drained_fits l at (DrainNext.Gives b rest) frames none ask fits next =
      record { frames = frames; at = ((none, ask, next), tt) }
  drained_fits l at DrainNext.Drained frames none ask fits next = scanning_fits k l frames none ask

  office_left_fits : (l : Local) (job : OfficeFor) (end : OfficeEnd) → Frames k l
      → AfterOffice k l.call l.ask.want l.sweep l.released.items l.put job → OfficeEndFits k end
      → TurnFits k (office_left l job end)
  office_left_fits l OfficeFor.Ask end frames after is = obtained_as_fits l end frames after.0 after.1 is
  office_left_fits l (OfficeFor.Put first) end frames after is = put_done_as_fits l l.put frames after
  office_left_fits l (OfficeFor.Drain first rest) end frames after is =
      drain_goes l l.at (goes_on rest) frames after.0 after.1 (goes_on_goes k key rest after.2)

  pub office_as_fits : (l : Local) (job : OfficeFor) (at : OfficeAt) (next : OfficeNext) → Frames k l
      → AfterOffice k l.call l.ask.want l.sweep l.released.items l.put job → OfficeFits k at → OfficeNextFits k next
      → TurnFits k (office_as l job at next)
  office_as_fits l job at (OfficeNext.Goes on) frames after fits next = record { frames = frames; at = (after, next) }
  office_as_fits l job at OfficeNext.Waits frames after fits next = record { frames = frames; at = (after, fits) }
  office_as_fits l job at (OfficeNext.Left end) frames after fits next = office_left_fits l job end frames after next
