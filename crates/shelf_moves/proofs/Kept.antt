-- A put of a block into the cache.
use Rattle.std.proofs.Common.{◌≡◌, ◌∙◌, ◌⊎◌, inl, inr, ℕ, ◌<◌, List, [], ◌∷◌, Option, Some, None, Bool, true, false}
use Rattle.std.proofs.Common.{cond, eqb, ap, refl, subst, arith}
use Rattle.guards.specs.declared.win.Taking.{Taking}
use Rattle.pool_words.specs.declared.words.Key.{Key}
use Rattle.pool_words.specs.Actions.{word_seen}
use Rattle.large_cache.specs.declared.keep.KeepAt.{KeepAt}
use Rattle.large_cache.specs.declared.keep.KeepNext.{KeepNext}
use Rattle.large_cache.specs.Keep.{keep_course, keep_learn}
use Rattle.word_laws.specs.Memory.{after}
use Rattle.chain_laws.specs.Chains.{tally}
use Rattle.chain_laws.proofs.CallerLemmas.{tally-here}
use Rattle.guard_laws.specs.Blocks.{Place, Use, put_range}
use Rattle.cache_laws.specs.Bins.{Item, blocks_of, last_block}
use Rattle.cache_laws.specs.Good.{Holding, holds}
use Rattle.cache_laws.specs.Puts.{is_full, released_at}
use Rattle.use_laws.specs.After.{with_mem}
use Rattle.use_laws.specs.Pools.{Pool}
use Rattle.shelf_laws.specs.Steps.{left_by_keep, shelved_by, taken_out}
use Rattle.step_local.specs.declared.frames.At.{At}
use Rattle.step_local.specs.declared.frames.Local.{Local}
use Rattle.step_local.specs.Large.{keep_call}
use Rattle.hand_blocks.specs.Changes.{Change, keep_changes}
use Rattle.hand_blocks.specs.Hands.{hand, hands_of}
use Rattle.pool_laws.specs.Wholes.{Whole}
use Rattle.seat_hands.proofs.CallerLemmas.{hands_leave, others_are_none}
use Rattle.seat_ties.specs.Turns.{StepLeaves, next_in, seen_in}
use Rattle.slab_moves.proofs.CallerLemmas.{one_change, range_out}
use Rattle.shelf_moves.proofs.Jobs.{Turn, job_leaves, off}
use Rattle.shelf_moves.proofs.Got.{leads}
use Rattle.shelf_moves.proofs.Out.{comes_out, first_change, none_rests, quiet_hands, some_granules}

-- a put moves blocks as it frees the bin's lock, and no other step of it does
pub record IsQuiet (at : KeepAt) : Type 0 where
  pub none : left_by_keep at ≡ []
  pub same : (x b : ℕ) (p : Pool) → (shelved_by at x b p).blocks ≡ p.blocks
  pub still : (l : Local) (f : ℕ) → keep_changes l (keep_learn at f) ≡ []

data KeepCase : KeepAt → Type 0 where
  ends : (released : Option ℕ) → KeepCase (KeepAt.Unlock released)
  quiet : {at : KeepAt} → IsQuiet at → KeepCase at

locked : (l : Local) (b : Bool) → keep_changes l (cond b (KeepNext.Goes KeepAt.Items) KeepNext.Waits) ≡ []
locked l true = refl
locked l false = refl

keep_case : (at : KeepAt) → KeepCase at
keep_case KeepAt.Lock =
    quiet (record { none = refl; same = λ x b p. refl; still = λ l f. locked l (eqb f 0) })
keep_case KeepAt.Items = quiet (record { none = refl; same = λ x b p. refl; still = λ l f. refl })
keep_case (KeepAt.Head items) = quiet (record { none = refl; same = λ x b p. refl; still = λ l f. refl })
keep_case (KeepAt.Walk tail) = quiet (record { none = refl; same = λ x b p. refl; still = λ l f. refl })
keep_case (KeepAt.OldAge tail) = quiet (record { none = refl; same = λ x b p. refl; still = λ l f. refl })
keep_case (KeepAt.Cut tail age) = quiet (record { none = refl; same = λ x b p. refl; still = λ l f. refl })
keep_case (KeepAt.SetCleaned tail age) = quiet (record { none = refl; same = λ x b p. refl; still = λ l f. refl })
keep_case (KeepAt.SetLink items head released) =
    quiet (record { none = refl; same = λ x b p. refl; still = λ l f. refl })
keep_case (KeepAt.SetAge items released) = quiet (record { none = refl; same = λ x b p. refl; still = λ l f. refl })
keep_case (KeepAt.SetHead items released) = quiet (record { none = refl; same = λ x b p. refl; still = λ l f. refl })
keep_case (KeepAt.SetItems items released) = quiet (record { none = refl; same = λ x b p. refl; still = λ l f. refl })
keep_case (KeepAt.Used released) = quiet (record { none = refl; same = λ x b p. refl; still = λ l f. refl })
keep_case (KeepAt.SetUsed released used) = quiet (record { none = refl; same = λ x b p. refl; still = λ l f. refl })
keep_case (KeepAt.Unlock released) = ends released

-- the oldest block of a bin is in it
last_in : (y : ℕ) (before : Option ℕ) (items : List Item) → Some y ≡ last_block before items
    → (Some y ≡ before) ⊎ (0 < tally y (blocks_of items))
last_in y before [] is = inl is
last_in y before (item ∷ items) is = pick (last_in y (Some item.block) items is)
  where
    pick : (Some y ≡ Some item.block) ⊎ (0 < tally y (blocks_of items))
        → (Some y ≡ before) ⊎ (0 < tally y (item.block ∷ blocks_of items))
    pick (inl this) =
        let same : y ≡ item.block = cc in
        inr (subst (λ z. 0 < tally y (z ∷ blocks_of items)) same
        (let t = tally-here y (blocks_of items) in omega arith))
    pick (inr behind) = inr (omega arith)

released_in : (y : ℕ) (full : Bool) (items : List Item) → Some y ≡ released_at full items
    → 0 < tally y (blocks_of items)
released_in y true items is = pick (last_in y None items is)
  where
    pick : (Some y ≡ None) ⊎ (0 < tally y (blocks_of items)) → 0 < tally y (blocks_of items)
    pick (inl none) = absurd (cc)
    pick (inr here) = here
released_in y false items is = absurd (cc)

-- so it lies in the cache
released_rests : (k : Key) (w : Whole) (l : Local) (y : ℕ)
    → Turn k w (record l { at = At.Keep (KeepAt.Unlock (Some y)) })
    → w.pool.blocks.place y ≡ Place.Block y l.call.block.granules Use.Elsewhere
released_rests k w l y t =
    let b : ℕ = l.call.block.granules in
    let held = subst (λ task. holds task ≡ true → Holding w.shelves w.pool.mem task) t.tied.tasks.jobs
    (t.good.shelf.cache.held l.seat) in
    (t.good.shelf.shelves.binned b y
    (released_in y (is_full (w.shelves b)) (w.shelves b).items (held refl).noted)).1

put_alone : (k : Key) (w : Whole) (l : Local) → Turn k w (record l { at = At.Keep (KeepAt.Unlock None) })
    → StepLeaves k w (record l { at = At.Keep (KeepAt.Unlock None) })
put_alone k w l t =
    let l' : Local = record l { at = At.Keep (KeepAt.Unlock None) } in
    let x : ℕ = l.call.block.first in
    let n : ℕ = l.call.block.granules in
    let place : ℕ → Place = w.pool.blocks.place in
    let now : Place = Place.Block x n Use.Elsewhere in
    job_leaves k Taking.ToJoin w l' t
    (hands_leave place (put_range place x n now) (w.drained l.seat) l.seat n (hand x n Taking.ForUse) (hands_of l')
    (hands_of (next_in w l')) t.tied.hands t.good.shelf.pool.guards.parts.whole t.tied.hands.lie.0
    (λ z out. range_out place x n now z out)
    (one_change (Change.Leaves (hand x n Taking.ForUse)) (hands_of l') (hands_of (next_in w l')) (leads k w l' t)))

-- with a full bin the oldest block comes out as the other goes in
put_for : (k : Key) (w : Whole) (l : Local) (y : ℕ) → Turn k w (record l { at = At.Keep (KeepAt.Unlock (Some y)) })
    → StepLeaves k w (record l { at = At.Keep (KeepAt.Unlock (Some y)) })
put_for k w l y t =
    let l' : Local = record l { at = At.Keep (KeepAt.Unlock (Some y)) } in
    let x : ℕ = l.call.block.first in
    let n : ℕ = l.call.block.granules in
    let place : ℕ → Place = w.pool.blocks.place in
    let now : Place = Place.Block x n Use.Elsewhere in
    let whole = t.good.shelf.pool.guards.parts.whole in
    let rests = released_rests k w l y t in
    let first = first_change (Change.Leaves (hand x n Taking.ForUse)) (Change.Comes (hand y n Taking.ToJoin) ∷ [])
    (hands_of l') (hands_of (next_in w l')) (leads k w l' t) in
    job_leaves k Taking.ToJoin w l' t
    (comes_out (put_range place x n now) (w.drained l.seat) l.seat y n Taking.ToJoin first.between
    (hands_of (next_in w l')) (off k w l' t).drained
    (hands_leave place (put_range place x n now) (w.drained l.seat) l.seat n (hand x n Taking.ForUse) (hands_of l')
    first.between t.tied.hands whole t.tied.hands.lie.0 (λ z out. range_out place x n now z out) first.alters)
    (none_rests place l.seat x n y n (others_are_none place l.seat y n Use.Elsewhere whole rests tt))
    (some_granules place y n Use.Elsewhere whole rests)
    (one_change (Change.Comes (hand y n Taking.ToJoin)) first.between (hands_of (next_in w l')) first.led))

kept_by : (k : Key) (w : Whole) (l : Local) (at : KeepAt) → KeepCase at → Turn k w (record l { at = At.Keep at })
    → StepLeaves k w (record l { at = At.Keep at })
kept_by k w l _ (ends (Some y)) t = put_for k w l y t
kept_by k w l _ (ends None) t = put_alone k w l t
kept_by k w l at (quiet is) t =
    let l' : Local = record l { at = At.Keep at } in
    let x : ℕ = l.call.block.first in
    let n : ℕ = l.call.block.granules in
    let p : Pool = with_mem (after k w.pool.mem (keep_course (keep_call l) at)) w.pool in
    let q : Pool = shelved_by at x n p in
    job_leaves k Taking.ToJoin w l' t
    (quiet_hands w.pool.blocks.place (taken_out l.seat Taking.ToJoin n (left_by_keep at) q).blocks.place
    (w.drained l.seat) l.seat (keep_changes l' (keep_learn at (word_seen (seen_in w l')))) (hands_of l')
    (hands_of (next_in w l'))
    (ap (λ xs. (taken_out l.seat Taking.ToJoin n xs q).blocks.place) is.none ∙ ap (λ g. g.place) (is.same x n p))
    (is.still l' (word_seen (seen_in w l'))) (leads k w l' t) t.tied.hands)

pub kept : (k : Key) (w : Whole) (l : Local) (at : KeepAt) → Turn k w (record l { at = At.Keep at })
    → StepLeaves k w (record l { at = At.Keep at })
kept k w l at t = kept_by k w l at (keep_case at) t
