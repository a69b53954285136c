-- A get of a block of the cache, and its undoing.
use Rattle.std.proofs.Common.{◌≡◌, ℕ, ◌<◌, List, [], ◌∷◌, Some, None, Bool, true, false, cond, eqb}
use Rattle.std.proofs.Common.{ap, refl, subst, arith}
use Rattle.guards.specs.declared.win.Taking.{Taking}
use Rattle.pool_words.specs.declared.words.Key.{Key}
use Rattle.pool_words.specs.Actions.{word_seen}
use Rattle.pool_types.specs.declared.values.NullCause.{NullCause}
use Rattle.large_cache.specs.declared.get.GetAt.{GetAt}
use Rattle.large_cache.specs.declared.get.GetNext.{GetNext}
use Rattle.large_cache.specs.declared.undo.UndoAt.{UndoAt}
use Rattle.large_cache.specs.Get.{get_course, get_learn}
use Rattle.word_laws.specs.Memory.{after}
use Rattle.chain_laws.specs.Chains.{tally}
use Rattle.chain_laws.proofs.CallerLemmas.{tally-here}
use Rattle.guard_laws.specs.Blocks.{Place, Use}
use Rattle.cache_laws.specs.Bins.{Item, blocks_of}
use Rattle.cache_laws.specs.Gets.{taken_of}
use Rattle.cache_laws.specs.Good.{Holding, holds}
use Rattle.use_laws.specs.After.{with_mem}
use Rattle.shelf_laws.specs.Steps.{left_by_get, taken_out}
use Rattle.step_local.specs.declared.frames.At.{At}
use Rattle.step_local.specs.declared.frames.Local.{Local}
use Rattle.step_local.specs.Large.{cache_call, granules_of_served}
use Rattle.hand_blocks.specs.Changes.{Change, HandsLead, changes_of, get_changes}
use Rattle.hand_blocks.specs.Hands.{hand, hands_of}
use Rattle.hand_blocks.proofs.CallerLemmas.{turns_change_hands}
use Rattle.pool_laws.specs.Wholes.{Whole}
use Rattle.seat_hands.proofs.CallerLemmas.{others_are_none}
use Rattle.seat_ties.specs.Turns.{StepLeaves, next_in, seen_in}
use Rattle.slab_moves.proofs.CallerLemmas.{one_change}
use Rattle.shelf_moves.proofs.Jobs.{Turn, job_leaves, off}
use Rattle.shelf_moves.proofs.Out.{comes_out, quiet_hands, some_granules}

pub leads : (k : Key) (w : Whole) (l : Local) → Turn k w l
    → HandsLead (changes_of l (seen_in w l)) (hands_of l) (hands_of (next_in w l))
leads k w l t = turns_change_hands l (seen_in w l) t.tied.says.hands t.suits.step

-- a get takes a block as it frees the bin's lock, and no other step of it does
data GetCase : GetAt → Type 0 where
  takes : (x : ℕ) → GetCase (GetAt.Unlock (Some x))
  quiet : {at : GetAt} → left_by_get at ≡ [] → ((l : Local) (f : ℕ) → get_changes l (get_learn at f) ≡ [])
      → GetCase at

locked : (l : Local) (b : Bool) → get_changes l (cond b (GetNext.Goes GetAt.Items) GetNext.Waits) ≡ []
locked l true = refl
locked l false = refl

get_case : (at : GetAt) → GetCase at
get_case GetAt.Lock = quiet refl (λ l f. locked l (eqb f 0))
get_case GetAt.Items = quiet refl (λ l f. refl)
get_case (GetAt.Head items) = quiet refl (λ l f. refl)
get_case (GetAt.Hit at) = quiet refl (λ l f. refl)
get_case GetAt.Cleaned = quiet refl (λ l f. refl)
get_case (GetAt.SetThreshold cleaned) = quiet refl (λ l f. refl)
get_case GetAt.ClearCleaned = quiet refl (λ l f. refl)
get_case (GetAt.SetTime block) = quiet refl (λ l f. refl)
get_case (GetAt.Used block) = quiet refl (λ l f. refl)
get_case (GetAt.SetUsed block used) = quiet refl (λ l f. refl)
get_case (GetAt.Unlock (Some x)) = takes x
get_case (GetAt.Unlock None) = quiet refl (λ l f. refl)

is_taken : (x : ℕ) (items : List Item) → Some x ≡ taken_of items → 0 < tally x (blocks_of items)
is_taken x [] is = absurd (cc)
is_taken x (item ∷ items) is =
    let same : x ≡ item.block = cc in
    subst (λ y. 0 < tally x (y ∷ blocks_of items)) same (let t = tally-here x (blocks_of items) in omega arith)

-- it lies in the cache
taken_rests : (k : Key) (w : Whole) (l : Local) (x : ℕ) → Turn k w (record l { at = At.Get (GetAt.Unlock (Some x)) })
    → w.pool.blocks.place x ≡ Place.Block x (granules_of_served l.call.served) Use.Elsewhere
taken_rests k w l x t =
    let b : ℕ = granules_of_served l.call.served in
    let held = subst (λ task. holds task ≡ true → Holding w.shelves w.pool.mem task) t.tied.tasks.jobs
    (t.good.shelf.cache.held l.seat) in
    (t.good.shelf.shelves.binned b x (is_taken x (w.shelves b).items (held refl).noted)).1

got_by : (k : Key) (w : Whole) (l : Local) (at : GetAt) → GetCase at → Turn k w (record l { at = At.Get at })
    → StepLeaves k w (record l { at = At.Get at })
got_by k w l _ (takes x) t =
    let l' : Local = record l { at = At.Get (GetAt.Unlock (Some x)) } in
    let b : ℕ = granules_of_served l.call.served in
    let place : ℕ → Place = w.pool.blocks.place in
    let whole = t.good.shelf.pool.guards.parts.whole in
    let rests = taken_rests k w l x t in
    job_leaves k Taking.ForUse w l' t
    (comes_out place (w.drained l.seat) l.seat x b Taking.ForUse (hands_of l') (hands_of (next_in w l'))
    (off k w l' t).drained t.tied.hands (others_are_none place l.seat x b Use.Elsewhere whole rests tt)
    (some_granules place x b Use.Elsewhere whole rests)
    (one_change (Change.Comes (hand x b Taking.ForUse)) (hands_of l') (hands_of (next_in w l')) (leads k w l' t)))
got_by k w l at (quiet none still) t =
    let l' : Local = record l { at = At.Get at } in
    let b : ℕ = granules_of_served l.call.served in
    let place : ℕ → Place = w.pool.blocks.place in
    let p = with_mem (after k w.pool.mem (get_course (cache_call l) at)) w.pool in
    job_leaves k Taking.ForUse w l' t
    (quiet_hands place (taken_out l.seat Taking.ForUse b (left_by_get at) p).blocks.place (w.drained l.seat) l.seat
    (get_changes l' (get_learn at (word_seen (seen_in w l')))) (hands_of l') (hands_of (next_in w l'))
    (ap (λ xs. (taken_out l.seat Taking.ForUse b xs p).blocks.place) none)
    (still l' (word_seen (seen_in w l'))) (leads k w l' t) t.tied.hands)

pub got : (k : Key) (w : Whole) (l : Local) (at : GetAt) → Turn k w (record l { at = At.Get at })
    → StepLeaves k w (record l { at = At.Get at })
got k w l at t = got_by k w l at (get_case at) t

pub undone : (k : Key) (w : Whole) (l : Local) (cause : NullCause) (at : UndoAt)
    → Turn k w (record l { at = At.Undo cause at }) → StepLeaves k w (record l { at = At.Undo cause at })
undone k w l cause at t =
    let l' : Local = record l { at = At.Undo cause at } in
    job_leaves k Taking.ForUse w l' t
    (quiet_hands w.pool.blocks.place w.pool.blocks.place (w.drained l.seat) l.seat [] (hands_of l')
    (hands_of (next_in w l')) refl refl (leads k w l' t) t.tied.hands)
