-- A sweep of a bin of the cache.
use Rattle.std.proofs.Common.{◌≡◌, ℕ, zero, suc, ◌-◌, ◌≤◌, List, [], ◌∷◌, length, Bool, true, false, cond, eqb}
use Rattle.std.proofs.Common.{ap, refl, sym, subst, arith}
use Rattle.std.specs.Prelude.{drop}
use Rattle.guards.specs.declared.win.Taking.{Taking}
use Rattle.pool_words.specs.declared.words.Key.{Key}
use Rattle.pool_words.specs.Actions.{word_seen}
use Rattle.large_cache.specs.declared.sweep.SweepAt.{SweepAt}
use Rattle.large_cache.specs.declared.sweep.SweepNext.{SweepNext}
use Rattle.large_cache.specs.Sweep.{sweep_course, sweep_learn}
use Rattle.word_laws.specs.Memory.{after}
use Rattle.chain_laws.specs.Chains.{tally}
use Rattle.cache_laws.specs.Bins.{Bin, Item, blocks_of}
use Rattle.cache_laws.specs.Sweeps.{count_gone, gone_of}
use Rattle.use_laws.specs.After.{with_mem}
use Rattle.use_laws.specs.Pools.{Pool}
use Rattle.shelf_laws.specs.Steps.{left_by_sweep, taken_out}
use Rattle.step_local.specs.declared.frames.At.{At}
use Rattle.step_local.specs.declared.frames.Local.{Local}
use Rattle.step_local.specs.Large.{sweep_call}
use Rattle.cache_tasks.specs.Cache.{gone_at}
use Rattle.cache_tasks.proofs.CallerLemmas.{released_are_those_that_go}
use Rattle.hand_blocks.specs.Changes.{sweep_changes}
use Rattle.hand_blocks.specs.Hands.{hands_of}
use Rattle.pool_laws.specs.Wholes.{Whole}
use Rattle.seat_ties.specs.Turns.{StepLeaves, next_in, seen_in}
use Rattle.shelf_moves.proofs.Jobs.{Turn, job_leaves, off}
use Rattle.shelf_moves.proofs.Got.{leads}
use Rattle.shelf_moves.proofs.Out.{AllFree, all_free, all_out, quiet_hands}

-- the blocks that go come out as the bin's lock is freed, and none before
pub record IsQuiet (at : SweepAt) : Type 0 where
  pub none : (gone : List ℕ) → left_by_sweep gone at ≡ []
  pub still : (l : Local) (f : ℕ) → sweep_changes l (sweep_learn (sweep_call l) at f) ≡ []

data SweepCase : SweepAt → Type 0 where
  ends : SweepCase SweepAt.Unlock
  quiet : {at : SweepAt} → IsQuiet at → SweepCase at

passed : (l : Local) (b : Bool) → sweep_changes l (cond b SweepNext.Passed (SweepNext.Goes SweepAt.Lock)) ≡ []
passed l true = refl
passed l false = refl

locked : (l : Local) (b : Bool) → sweep_changes l (cond b (SweepNext.Goes SweepAt.Items) SweepNext.Waits) ≡ []
locked l true = refl
locked l false = refl

aged : (l : Local) (b : Bool) (x : ℕ) (stale stays : SweepAt)
    → sweep_changes l (cond b (SweepNext.Stale x stale) (SweepNext.Stays stays)) ≡ []
aged l true x stale stays = refl
aged l false x stale stays = refl

sweep_case : (at : SweepAt) → SweepCase at
sweep_case SweepAt.Clock = quiet (record { none = λ gone. refl; still = λ l f. refl })
sweep_case SweepAt.Peek = quiet (record { none = λ gone. refl; still = λ l f. passed l (eqb f 0) })
sweep_case SweepAt.Lock = quiet (record { none = λ gone. refl; still = λ l f. locked l (eqb f 0) })
sweep_case SweepAt.Items = quiet (record { none = λ gone. refl; still = λ l f. refl })
sweep_case (SweepAt.Judge at) = quiet (record { none = λ gone. refl; still = λ l f. refl })
sweep_case (SweepAt.SetThreshold count threshold) =
    quiet (record { none = λ gone. refl; still = λ l f. refl })
sweep_case (SweepAt.Head count threshold) = quiet (record { none = λ gone. refl; still = λ l f. refl })
sweep_case (SweepAt.Age walk) = quiet (record { none = λ gone. refl; still = λ l f. aged l _ walk.block _ _ })
sweep_case (SweepAt.Link walk) = quiet (record { none = λ gone. refl; still = λ l f. refl })
sweep_case (SweepAt.Cut walk) = quiet (record { none = λ gone. refl; still = λ l f. refl })
sweep_case (SweepAt.SetItems walk) = quiet (record { none = λ gone. refl; still = λ l f. refl })
sweep_case (SweepAt.SetCleaned walk) = quiet (record { none = λ gone. refl; still = λ l f. refl })
sweep_case SweepAt.Unlock = ends

-- the oldest blocks of a bin are some of it
dropped_few : (x n : ℕ) (items : List Item) → tally x (blocks_of (drop n items)) ≤ tally x (blocks_of items)
dropped_few x zero items = omega arith
dropped_few x (suc n) [] = omega arith
dropped_few x (suc n) (item ∷ items) = let fewer = dropped_few x n items in omega arith

gone_few : (x : ℕ) (l : Local) (w : Whole) (xs : List ℕ)
    → xs ≡ gone_of l.sweep.cleanup l.sweep.time (w.shelves l.sweep.granules)
    → tally x xs ≤ tally x (blocks_of (w.shelves l.sweep.granules).items)
gone_few x l w xs is =
    let bin : Bin = w.shelves l.sweep.granules in
    subst (λ ys. tally x ys ≤ tally x (blocks_of bin.items)) (sym is)
    (dropped_few x (length bin.items - count_gone l.sweep.cleanup l.sweep.time bin) bin.items)

-- so they lie in the cache, each once
released_free : (k : Key) (w : Whole) (l : Local) → Turn k w (record l { at = At.Sweep SweepAt.Unlock })
    → AllFree w.pool.blocks.place l.seat l.sweep.granules l.released.items
released_free k w l t =
    let l' : Local = record l { at = At.Sweep SweepAt.Unlock } in
    let b : ℕ = l.sweep.granules in
    let gone = released_are_those_that_go k w.shelves w.pool.mem w.jobs l.seat l' t.good.shelf.cache t.tied.tasks.jobs
    refl in
    all_free w.pool.blocks.place l.seat b l.released.items t.good.shelf.pool.guards.parts.whole
    (λ x some. (t.good.shelf.shelves.binned b x
    (let few = gone_few x l w l.released.items gone in omega arith)).1)
    (λ x. let few = gone_few x l w l.released.items gone in let once = (t.good.shelf.cache.bins b).once x in omega arith)

swept_by : (k : Key) (w : Whole) (l : Local) (at : SweepAt) → SweepCase at → Turn k w (record l { at = At.Sweep at })
    → StepLeaves k w (record l { at = At.Sweep at })
swept_by k w l _ ends t =
    let l' : Local = record l { at = At.Sweep SweepAt.Unlock } in
    let b : ℕ = l.sweep.granules in
    let p : Pool = with_mem (after k w.pool.mem (sweep_course (sweep_call l) SweepAt.Unlock)) w.pool in
    let some : 1 ≤ b = t.tied.says.fits.place.0 in
    job_leaves k Taking.ToJoin w l' t
    (all_out p (w.drained l.seat) l.seat b Taking.ToJoin l.released.items (hands_of l') (hands_of (next_in w l')) refl
    (off k w l' t).drained t.tied.hands (released_free k w l t) (omega arith) (leads k w l' t))
swept_by k w l at (quiet is) t =
    let l' : Local = record l { at = At.Sweep at } in
    let b : ℕ = l.sweep.granules in
    let p : Pool = with_mem (after k w.pool.mem (sweep_course (sweep_call l) at)) w.pool in
    let gone : List ℕ = gone_at l.released.items at in
    job_leaves k Taking.ToJoin w l' t
    (quiet_hands w.pool.blocks.place (taken_out l.seat Taking.ToJoin b (left_by_sweep gone at) p).blocks.place
    (w.drained l.seat) l.seat (sweep_changes l' (sweep_learn (sweep_call l') at (word_seen (seen_in w l'))))
    (hands_of l') (hands_of (next_in w l'))
    (ap (λ xs. (taken_out l.seat Taking.ToJoin b xs p).blocks.place) (is.none gone))
    (is.still l' (word_seen (seen_in w l'))) (leads k w l' t) t.tied.hands)

pub swept : (k : Key) (w : Whole) (l : Local) (at : SweepAt) → Turn k w (record l { at = At.Sweep at })
    → StepLeaves k w (record l { at = At.Sweep at })
swept k w l at t = swept_by k w l at (sweep_case at) t
