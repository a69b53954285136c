-- The steps of a put by which its block goes into its bin.
use Rattle.std.proofs.Common.{◌≡◌, ◌+◌, ◌<◌, ℕ, List, [], ◌++◌, refl, sym, subst, arith}
use Rattle.std.proofs.lemmas.Bool.Decides.{nat_tests}
use Rattle.pool_types.specs.Geometry.{bin_count}
use Rattle.pool_types.specs.Sums.{capped}
use Rattle.pool_words.specs.declared.words.Key.{Key}
use Rattle.pool_words.specs.declared.words.Word.{Word}
use Rattle.pool_words.specs.declared.actions.Action.TheVariants.{Store}
use Rattle.guards.specs.declared.win.Taking.{Taking}
use Rattle.locked_chain.specs.declared.insert.InsertAt.{InsertAt}
use Rattle.backend_bins.specs.declared.bin.BinAt.{BinAt}
use Rattle.backend_bins.specs.declared.bin.BinCall.{BinCall}
use Rattle.backend_bins.specs.declared.bin.BinNext.{BinNext}
use Rattle.backend_bins.specs.Bin.{bin_course, bin_learn, free_guard}
use Rattle.backend_bins.specs.Blocks.{bin_of}
use Rattle.coalescer.specs.declared.put.PutAt.{PutAt}
use Rattle.coalescer.specs.declared.put.PutCall.{PutCall}
use Rattle.coalescer.specs.declared.put.PutStep.{PutStep}
use Rattle.coalescer.specs.Put.{bin_goes, insert_call}
use Rattle.word_laws.specs.Memory.{found}
use Rattle.guard_laws.specs.Blocks.{Place, Use, put_range}
use Rattle.bin_laws.specs.Bins as binning
use Rattle.queue_laws.specs.Queue as line_laws
use Rattle.queue_laws.specs.Steps.{IsIdle}
use Rattle.hand_blocks.specs.Changes.{HandsLead, bin_changes, given_changes}
use Rattle.hand_blocks.specs.Hands.{Hand, joining}
use Rattle.pool_laws.specs.Wholes.{Whole}
use Rattle.seat_ties.specs.Ties.{HandsTied}
use Rattle.put_moves.proofs.BinMoves.{comes, frees, in_bins, links, offers, takes}
use Rattle.put_moves.proofs.Blocks.{goes_out}
use Rattle.put_moves.proofs.Frame.{Steps}
use Rattle.put_moves.proofs.Job.{After, Before, NextSays, end_is}

bin_low : (n : ℕ) → bin_of n < bin_count
bin_low n = grind (arith, nat_tests)

-- a put into a bin says nothing and gives nothing back
bin_says : (later : Whole) (seat : ℕ) (p : PutAt) (at : BinAt) (next : BinNext)
    → NextSays later seat p (PutStep.Bin at) (bin_goes p next)
bin_says later seat p at (BinNext.Goes on) = tt
bin_says later seat p at BinNext.Waits = tt
bin_says later seat p at BinNext.Done = tt

bin_given : (p : PutAt) (next : BinNext) → given_changes (bin_goes p next) ≡ []
bin_given p (BinNext.Goes on) = refl
bin_given p BinNext.Waits = refl
bin_given p BinNext.Done = refl

bin_leads : (p : PutAt) (one : Hand) (at : BinAt) (next : BinNext) (was is : List Hand)
    → HandsLead (bin_changes one at ++ given_changes (bin_goes p next)) was is → HandsLead (bin_changes one at ++ []) was is
bin_leads p one at next was is leads =
    subst (λ given. HandsLead (bin_changes one at ++ given) was is) (bin_given p next) leads

module _ (k : Key) (w : Whole) (c : PutCall) (p : PutAt) (line : line_laws.Task) (was is : List Hand)
    (idle : IsIdle line) where
  abbrev call : BinCall
  call = insert_call c p.block

  still : (at : BinAt) → HandsTied w.pool.blocks.place (w.drained c.seat) c.seat was → is ≡ was
      → HandsTied w.pool.blocks.place (w.drained c.seat) c.seat is
  still at tied e = subst (HandsTied w.pool.blocks.place (w.drained c.seat) c.seat) (sym e) tied

  pub bin_turns : (at : BinAt) → Before k w c p (PutStep.Bin at) line was is → After k w c p (PutStep.Bin at) line is
  bin_turns BinAt.Lock b = record {
    place' = w.pool.blocks.place;
    steps = takes k w c.seat (bin_of p.block.granules) line b.now idle (bin_low p.block.granules);
    hands = still BinAt.Lock b.tied
        (bin_leads p (joining p.block) BinAt.Lock (bin_learn call BinAt.Lock (found w.pool.mem (bin_course call BinAt.Lock)))
        was is b.leads);
    says = λ later l. bin_says later c.seat p BinAt.Lock _;
  }
  bin_turns BinAt.Size b = record {
    place' = w.pool.blocks.place;
    steps = offers k w c.seat p.block.first p.block.granules Taking.ToJoin line b.now idle b.each.0.lies;
    hands = still BinAt.Size b.tied b.leads;
    says = λ later l. tt;
  }
  bin_turns BinAt.Left b =
      let first : ℕ = p.block.first in
      let n : ℕ = p.block.granules in
      let end : capped (first + n) ≡ first + n = end_is k w first n (Use.Held c.seat Taking.ToJoin) b.good b.each.0.lies in
      let place' = put_range w.pool.blocks.place first n (Place.Block first n Use.Bin) in
      record {
        place' = place';
        steps = subst (λ y. Steps k w c.seat (Store (Word.Left y) (free_guard call))
            (in_bins (binning.Task.Links first n InsertAt.Head) line) place' (w.drained c.seat)) (sym end)
            (comes k w c.seat first n line b.now idle b.each.0.apart);
        hands = subst (HandsTied place' (w.drained c.seat) c.seat) (sym b.leads.2)
            (goes_out k w c.seat first n Taking.ToJoin Use.Bin was b.leads.0 b.good b.each.0.lies b.tied b.leads.1);
        says = λ later l. tt;
      }
  bin_turns (BinAt.Insert at) b = record {
    place' = w.pool.blocks.place;
    steps = links k w c.seat p.block.first p.block.granules at line b.now idle;
    hands = still (BinAt.Insert at) b.tied
        (bin_leads p (joining p.block) (BinAt.Insert at)
        (bin_learn call (BinAt.Insert at) (found w.pool.mem (bin_course call (BinAt.Insert at)))) was is b.leads);
    says = λ later l. bin_says later c.seat p (BinAt.Insert at) _;
  }
  bin_turns (BinAt.Out at) b = absurd b.fits
  bin_turns BinAt.Unlock b = record {
    place' = w.pool.blocks.place;
    steps = frees k w c.seat (bin_of p.block.granules) line b.now idle;
    hands = still BinAt.Unlock b.tied b.leads;
    says = λ later l. tt;
  }
