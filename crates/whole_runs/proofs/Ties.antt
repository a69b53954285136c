-- Where a seat's next position is there but for what starts, the seat begins that, and is tied.
use Rattle.std.proofs.Common.{◌≡◌, ◌∙◌, ℕ, ◌<◌, ◌≤◌, sym, subst, arith}
use Rattle.pool_words.specs.declared.words.Key.{Key}
use Rattle.word_laws.specs.Memory.{Mem}
use Rattle.word_laws.proofs.CallerLemmas.{less_or}
use Rattle.guards.specs.declared.win.Taking.{Taking}
use Rattle.guard_laws.specs.Blocks.{Place, Use}
use Rattle.office_laws.specs.Regions.{Shadow}
use Rattle.step_local.specs.declared.frames.At.{At}
use Rattle.step_local.specs.declared.frames.Local.{Local}
use Rattle.hand_blocks.specs.Hands.{hands_at}
use Rattle.step_fits.specs.Frames.{SeatFits}
use Rattle.pool_laws.specs.Named.{fresh_whole}
use Rattle.pool_laws.specs.Wholes.{Whole, WholeGood, regions_of}
use Rattle.seat_ties.specs.Ties.{AreInHand}
use Rattle.seat_ties.specs.Turns.{StateHere}
use Rattle.seat_starts.specs.Says.{StartSaysAt}
use Rattle.seat_starts.specs.Started.{Started}
use Rattle.seat_starts.proofs.CallerLemmas.{starts_tie}
use Rattle.begun_laws.specs.Begun.{Names}
use Rattle.slab_moves.specs.Says.{SlabSays}
use Rattle.whole_runs.specs.Calls.{IsCall}
use Rattle.whole_runs.specs.States.{AreShort, SeatStands}
use Rattle.whole_runs.proofs.Around.{Around, good_of, run_around}
use Rattle.begun_laws.proofs.CallerLemmas.{new_slabs_are_none, tied_seats_hold}
use Rattle.region_laws.proofs.CallerLemmas.{blocks_lie_in_one_region}
use Rattle.whole_runs.proofs.Turned.{no_reset}

module _ (k : Key) (most : k.seats ≤ 64) (anew : WholeGood k (fresh_whole k)) (locals : ℕ → Local) where
  abbrev pub AroundSeat : ℕ → Whole → Type 0
  AroundSeat t w = (low : t < k.seats) × Around k most anew locals t low w

  -- a whole with these words and these regions, to which this seat is tied, and all others as before
  pub record Stands (t : ℕ) (l : Local) (m : Mem) (g : Shadow) : Type 0 where
    pub whole : Whole
    pub low : t < k.seats
    pub around : Around k most anew locals t low whole
    pub mine : SeatStands k whole t l
    pub words : whole.pool.mem ≡ m
    pub office : whole.office ≡ g
    pub short : AreShort k g

  module _ (l : Local) (low : l.seat < k.seats) (w : Whole) (a : Around k most anew locals l.seat low w) where
    hold : (t e : ℕ) → (t ≡ l.seat → ⊥) → Names (w.mails t) e
        → (n : ℕ) × (w.pool.blocks.place e ≡ Place.Block e n (Use.Held t Taking.ForUse))
    hold t e ne names = less_or t k.seats
        (λ few. tied_seats_hold k w t e (locals t) (a.others t few ne).tied names)
        (λ high. absurd (subst (λ task. Names task e) (a.none t high) names))

    -- a block that is put into the cache is one of its bins, since regions lie in the pool with their walls
    kept_at : (at : At) → AreShort k w.office → SeatFits k l.seat → AreInHand w.pool.blocks.place l.seat (hands_at l at)
        → StartSaysAt l at
    kept_at (At.Keep at) short number lie =
        let good = good_of k most anew w a.run in
        let r = blocks_lie_in_one_region k (regions_of w) l.call.block.first l.call.block.granules _ good.regions
        lie.0 in
        let low = short r.slot r.one (good.regions.office.records_fit.known r.slot r.one r.live) in
        let from = r.from in
        let to = r.to in
        let few = number.span in
        omega arith
    kept_at _ short number lie = tt

    tie_own : (m : Mem) (g : Shadow) → StateHere k w l.seat l → IsCall l → SlabSays l → w.pool.mem ≡ m → w.office ≡ g
        → AreShort k g → Stands l.seat l m g
    tie_own m g here call slabs words office short =
        let good = good_of k most anew w a.run in
        let started : Started k w l = starts_tie k w l good here (no_reset l.call.stage call.calling)
        (kept_at l.at (subst (AreShort k) (sym office) short) here.says.number here.hands.lie)
        (new_slabs_are_none k w l good a.begun here hold) in
        record {
          whole = started.later;
          low = low;
          around = run_around k most anew locals l.seat low w started.later a started.run;
          mine = record { tied = started.tied; call = call; slabs = slabs };
          words = started.words ∙ words;
          office = started.office ∙ office;
          short = short;
        }

  abbrev Ties : ℕ → Local → Mem → Shadow → Type 0
  Ties t l m g = (low : t < k.seats) (w : Whole) → Around k most anew locals t low w → StateHere k w t l → IsCall l
      → SlabSays l → w.pool.mem ≡ m → w.office ≡ g → AreShort k g → Stands t l m g

  pub tie : (t : ℕ) (l : Local) (m : Mem) (g : Shadow) → Ties t l m g
  tie t l m g low w a here call slabs words office short = subst (λ o. Ties o l m g) here.says.fits.frames.seat'
      (λ low w a here call slabs words office short. tie_own l low w a m g here call slabs words office short)
      low w a here call slabs words office short

  -- the same by the number that the local has
  pub by_local : (t : ℕ) (l : Local) (m : Mem) (g : Shadow) → Stands t l m g → Stands l.seat l m g
  by_local t l m g s = subst (λ o. Stands o l m g) (sym s.mine.tied.says.fits.frames.seat') s

  pub by_seat : (t : ℕ) (l next : Local) (m' : Mem) (g' : Shadow) → l.seat ≡ t → Stands l.seat next m' g'
      → Stands t next m' g'
  by_seat t l next m' g' number s = subst (λ o. Stands o next m' g') number s
