-- What a turn of a put makes of the seat's lock, whatever the put's end leads to.
use Rattle.std.proofs.Common.{◌≡◌, ℕ, Option, Some, None}
use Rattle.std.specs.Prelude.{◌&&◌}
use Rattle.word_codes.specs.declared.guards.Guard.{Guard}
use Rattle.word_codes.specs.Guards.{guard_of}
use Rattle.word_codes.specs.Links.{link_of}
use Rattle.word_codes.specs.QueueLinks.{queue_link_of}
use Rattle.chain_words.specs.Pushing.{push_learn}
use Rattle.chain_words.specs.declared.pushing.PushAt.{PushAt}
use Rattle.chain_words.specs.declared.pushing.PushNext.{PushNext}
use Rattle.guards.specs.Win.{win_learn}
use Rattle.guards.specs.declared.win.WinAt.{WinAt}
use Rattle.guards.specs.declared.win.WinNext.{WinNext}
use Rattle.backend_bins.specs.Blocks.{bin_of, block}
use Rattle.backend_bins.specs.declared.bin.BinAt.{BinAt}
use Rattle.backend_bins.specs.declared.blocks.Block.{Block}
use Rattle.coalescer.specs.Drain.{drain_learn, goes_on, put_call, put_goes}
use Rattle.coalescer.specs.Put.{bin_goes, bins, insert_call, is_walled, joined_left, joined_right, judges_left}
use Rattle.coalescer.specs.Put.{judges_right, left_ends, left_neighbour, left_win}
use Rattle.coalescer.specs.Put.{put_begins, queue_goes, queues, right_ends, right_neighbour, right_win}
use Rattle.coalescer.specs.Put.{sees_far_left, sees_far_right, sides_known, step_learn as put_learn, unlink_call}
use Rattle.coalescer.specs.Put.{unlinks_left, unlinks_right, wins_left, wins_right}
use Rattle.coalescer.specs.declared.drain.DrainAt.{DrainAt}
use Rattle.coalescer.specs.declared.drain.DrainCall.{DrainCall}
use Rattle.coalescer.specs.declared.drain.DrainNext.{DrainNext}
use Rattle.coalescer.specs.declared.put.Beside.{Beside}
use Rattle.coalescer.specs.declared.put.PutAt.{PutAt}
use Rattle.coalescer.specs.declared.put.PutCall.{PutCall}
use Rattle.coalescer.specs.declared.put.PutNext.{PutNext}
use Rattle.coalescer.specs.declared.put.PutStep.{PutStep}
use Rattle.step_local.specs.declared.frames.Local.{Local}
use Rattle.step_locks.specs.Holdings.{no_lock, after_change}
use Rattle.step_locks.specs.Jobs.{put_holds, put_change, drain_holds, drain_change}
use Rattle.step_locks.specs.Positions.{holding_of}
use Rattle.step_locks.proofs.OnBins.{either_held, bin_onward}

module _ (to : PutNext → Local) (c : PutCall)
    (on : (p : PutAt) → holding_of (to (PutNext.Goes p)) ≡ put_holds c p p.step)
    (done : holding_of (to PutNext.Done) ≡ no_lock)
    (gives : (b : Block) → holding_of (to (PutNext.Gives b)) ≡ no_lock) where
  abbrev IsPutFree : PutNext → Type 0
  IsPutFree next = holding_of (to next) ≡ no_lock

  binned : (p : PutAt) → IsPutFree (bins p)
  binned p = on (record p { step = PutStep.Bin BinAt.Lock })

  queued : (p : PutAt) → IsPutFree (queues c p)
  queued p = either_held to no_lock c.drained _ _ (binned p) (on (record p { step = PutStep.Queue PushAt.Look }))

  right_ended : (p : PutAt) (right : Beside) → IsPutFree (right_ends p right)
  right_ended p Beside.Joined = on (record p { step = PutStep.FarRight })
  right_ended p Beside.InUse = gives p.block
  right_ended p Beside.Wall = gives p.block
  right_ended p Beside.Unknown = gives p.block

  left_ended : (p : PutAt) (left : Beside) → IsPutFree (left_ends p left)
  left_ended p Beside.Joined = on (record p { step = PutStep.FarLeft })
  left_ended p Beside.InUse = right_ended p p.right
  left_ended p Beside.Wall = right_ended p p.right
  left_ended p Beside.Unknown = right_ended p p.right

  known : (p : PutAt) → IsPutFree (sides_known c p)
  known p = either_held to no_lock (c.gives && is_walled p) _ _ (left_ended p p.left) (binned p)

  seen_left : (p : PutAt) (guard : Guard) → IsPutFree (sees_far_left p guard)
  seen_left p Guard.Wall = right_ended p p.right
  seen_left p Guard.Used = binned p
  seen_left p Guard.Coalescing = binned p
  seen_left p (Guard.Free granules) = binned p

  seen_right : (p : PutAt) (guard : Guard) → IsPutFree (sees_far_right p guard)
  seen_right p Guard.Wall = gives p.block
  seen_right p Guard.Used = binned p
  seen_right p Guard.Coalescing = binned p
  seen_right p (Guard.Free granules) = binned p

  judged_left : (p : PutAt) (guard : Guard) → IsPutFree (judges_left c p guard)
  judged_left p Guard.Used = on (record p { left = Beside.InUse; step = PutStep.RightWord })
  judged_left p Guard.Wall = on (record p { left = Beside.Wall; step = PutStep.RightWord })
  judged_left p Guard.Coalescing = queued p
  judged_left p (Guard.Free granules) = on (record p { step = PutStep.WinLeft granules WinAt.First })

  judged_right : (p : PutAt) (guard : Guard) → IsPutFree (judges_right c p guard)
  judged_right p Guard.Used = known (record p { right = Beside.InUse })
  judged_right p Guard.Wall = known (record p { right = Beside.Wall })
  judged_right p Guard.Coalescing = queued p
  judged_right p (Guard.Free granules) = on (record p { step = PutStep.WinRight granules WinAt.First })

  won_left : (p : PutAt) (granules : ℕ) (next : WinNext) → IsPutFree (wins_left c p granules next)
  won_left p granules (WinNext.Goes at) = on (record p { step = PutStep.WinLeft granules at })
  won_left p granules WinNext.Won =
      on (record (joined_left p granules) { step = PutStep.UnlinkLeft (left_neighbour p granules) BinAt.Lock })
  won_left p granules (WinNext.NotWon found) = judged_left p (guard_of found)
  won_left p granules WinNext.GivenBack = queued p

  won_right : (p : PutAt) (granules : ℕ) (next : WinNext) → IsPutFree (wins_right c p granules next)
  won_right p granules (WinNext.Goes at) = on (record p { step = PutStep.WinRight granules at })
  won_right p granules WinNext.Won =
      on (record (joined_right p granules) { step = PutStep.UnlinkRight (right_neighbour p granules) BinAt.Lock })
  won_right p granules (WinNext.NotWon found) = judged_right p (guard_of found)
  won_right p granules WinNext.GivenBack = queued p

  pushed : (p : PutAt) (next : PushNext) → IsPutFree (queue_goes p next)
  pushed p (PushNext.Goes at) = on (record p { step = PutStep.Queue at })
  pushed p (PushNext.Pushed found) = done

  pub put_onward : (p : PutAt) (step : PutStep) (f : ℕ)
      → ((bin : ℕ) → holding_of (to (PutNext.Waits bin)) ≡ put_holds c p step)
      → holding_of (to (put_learn c p step f)) ≡ after_change (put_change c p step) f (put_holds c p step)
  put_onward p PutStep.Size f waits = on (record p { step = PutStep.Left })
  put_onward p PutStep.Left f waits = on (record p { step = PutStep.LeftWord })
  put_onward p PutStep.LeftWord f waits = judged_left p (guard_of f)
  put_onward p (PutStep.WinLeft granules at) f waits = won_left p granules (win_learn (left_win p granules) at f)
  put_onward p (PutStep.UnlinkLeft neighbour at) f waits =
      bin_onward (λ next. to (unlinks_left p neighbour next)) (unlink_call c neighbour)
      (λ next. on (record p { step = PutStep.UnlinkLeft neighbour next })) (on (record p { step = PutStep.RightWord }))
      at f (waits (bin_of neighbour.granules))
  put_onward p PutStep.RightWord f waits = judged_right p (guard_of f)
  put_onward p (PutStep.WinRight granules at) f waits = won_right p granules (win_learn (right_win p granules) at f)
  put_onward p (PutStep.UnlinkRight neighbour at) f waits =
      bin_onward (λ next. to (unlinks_right c p neighbour next)) (unlink_call c neighbour)
      (λ next. on (record p { step = PutStep.UnlinkRight neighbour next }))
      (known (record p { right = Beside.Joined })) at f (waits (bin_of neighbour.granules))
  put_onward p PutStep.FarLeft f waits = seen_left p (guard_of f)
  put_onward p PutStep.FarRight f waits = seen_right p (guard_of f)
  put_onward p (PutStep.Queue at) f waits = pushed p (push_learn at f)
  put_onward p (PutStep.Bin at) f waits =
      bin_onward (λ next. to (bin_goes p next)) (insert_call c p.block)
      (λ next. on (record p { step = PutStep.Bin next })) done at f (waits (bin_of p.block.granules))

module _ (to : DrainNext → Local) (c : DrainCall)
    (on : (at : DrainAt) → holding_of (to (DrainNext.Goes at)) ≡ drain_holds c at)
    (done : holding_of (to DrainNext.Drained) ≡ no_lock)
    (gives : (b : Block) (rest : Option ℕ) → holding_of (to (DrainNext.Gives b rest)) ≡ no_lock) where
  draining : (rest : Option ℕ) → holding_of (to (goes_on rest)) ≡ no_lock
  draining (Some first) = on (DrainAt.Link first)
  draining None = done

  pub drain_onward : (at : DrainAt) (f : ℕ) → ((bin : ℕ) → holding_of (to (DrainNext.Waits bin)) ≡ drain_holds c at)
      → holding_of (to (drain_learn c at f)) ≡ after_change (drain_change c at) f (drain_holds c at)
  drain_onward DrainAt.Swap f waits = draining (link_of f)
  drain_onward (DrainAt.Link first) f waits =
      on (DrainAt.Put (queue_link_of f).next (put_begins (block first (queue_link_of f).granules)))
  drain_onward (DrainAt.Put rest at) f waits =
      put_onward (λ next. to (put_goes rest next)) (put_call c) (λ p. on (DrainAt.Put rest p)) (draining rest)
      (λ b. gives b rest) at at.step f waits
