-- Each turn at a slab is a step of the whole.
use Rattle.pool_words.specs.declared.words.Key.{Key}
use Rattle.step_local.specs.declared.frames.At.{At}
use Rattle.step_local.specs.declared.frames.LargeAt.{LargeAt}
use Rattle.step_local.specs.declared.frames.Local.{Local}
use Rattle.step_local.specs.declared.frames.SmallAt.{SmallAt}
use Rattle.pool_laws.specs.Wholes.{Whole}
use Rattle.seat_ties.specs.Turns.{StepLeaves}
use Rattle.slab_moves.specs.Laws.{SlabTurnsAreSteps}
use Rattle.slab_moves.specs.Says.{IsSlabAt}
use Rattle.slab_moves.proofs.Begun.{cleared, is_slab, owned, settled}
use Rattle.slab_moves.proofs.Caching.{cached, newest_given, oldest_given, uncached}
use Rattle.slab_moves.proofs.Emptied.{emptied}
use Rattle.slab_moves.proofs.Large.{readied, ticked}
use Rattle.slab_moves.proofs.Turns.{Turn}

turned_at : (k : Key) (w : Whole) (l : Local) (at : At) → Turn k w (record l { at = at }) → IsSlabAt at
    → StepLeaves k w (record l { at = at })
turned_at k w l (At.Small (SmallAt.Uncache slab)) t is = uncached k w l slab t
turned_at k w l (At.Small (SmallAt.Next slab)) t is = settled k w l slab t
turned_at k w l (At.Small (SmallAt.Public slab)) t is = cleared k w l slab t
turned_at k w l (At.Small (SmallAt.Own slab)) t is = owned k w l slab t
turned_at k w l (At.Small (SmallAt.Kind slab)) t is = is_slab k w l slab t
turned_at k w l (At.Small (SmallAt.Behind slab head)) t is = absurd is
turned_at k w l (At.Small (SmallAt.Private slab head below)) t is = absurd is
turned_at k w l (At.Small (SmallAt.Rest slab unit)) t is = absurd is
turned_at k w l (At.Small (SmallAt.Empty slab)) t is = emptied k w l slab t
turned_at k w l (At.Small (SmallAt.Cache slab)) t is = cached k w l slab t
turned_at k w l (At.Small (SmallAt.Oldest slab)) t is = oldest_given k w l slab t
turned_at k w l (At.Small (SmallAt.Newest slab)) t is = newest_given k w l slab t
turned_at k w l (At.Large LargeAt.Tick) t is = ticked k w l t
turned_at k w l (At.Large (LargeAt.Kind unit)) t is = readied k w l unit t
turned_at k w l (At.Large (LargeAt.Grant unit)) t is = absurd is
turned_at k w l _ t is = absurd is

pub slab_turns_are_steps : SlabTurnsAreSteps
slab_turns_are_steps k w l good tied plain word suits there = turned_at k w l l.at (record {
  good = good;
  tied = tied;
  no = plain;
  word = word;
  suits = suits;
  says = there.says;
}) there.at
