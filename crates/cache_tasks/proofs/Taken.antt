-- What leaves a bin with a turn is in the local's hand after it.
use Rattle.std.proofs.Common.{◌≡◌, inl, inr, ◌++◌, ◌∷◌, [], Bool, true, false, cond, eqb, ℕ, zero, suc, refl, ap}
use Rattle.std.proofs.Common.{length, sym, subst, arith}
use Rattle.std.specs.Prelude.{None, Option, Some, List, ◌+◌, ◌-◌, ◌%◌, slice_get, take}
use Rattle.heap_slabs.specs.Rolls.{newest_of}
use Rattle.coalescer.specs.Put.{put_learn}
use Rattle.coalescer.specs.declared.put.PutAt.{PutAt}
use Rattle.coalescer.specs.declared.put.PutNext.{PutNext}
use Rattle.large_cache.specs.declared.get.GetAt.{GetAt}
use Rattle.large_cache.specs.declared.keep.KeepAt.{KeepAt}
use Rattle.large_cache.specs.declared.sweep.SweepAt.{SweepAt}
use Rattle.large_cache.specs.Get.{get_learn, get_unlocked}
use Rattle.large_cache.specs.Keep.{keep_learn}
use Rattle.large_cache.specs.Sweep.{sweep_learn}
use Rattle.pool_words.specs.declared.actions.Seen.{Seen}
use Rattle.pool_words.specs.Actions.{word_seen}
use Rattle.region_steps.specs.Office.{office_learn}
use Rattle.region_steps.specs.declared.office.OfficeAt.{OfficeAt}
use Rattle.region_steps.specs.declared.office.OfficeNext.{OfficeNext}
use Rattle.shelf_laws.specs.Steps.{left_by_get, left_by_keep, list_of}
use Rattle.step_local.specs.declared.frames.At.{At}
use Rattle.step_local.specs.declared.frames.Local.{Local}
use Rattle.step_local.specs.declared.frames.OfficeFor.{OfficeFor}
use Rattle.step_local.specs.declared.frames.PutFor.{PutFor}
use Rattle.step_local.specs.declared.frames.Stage.{Stage}
use Rattle.step_local.specs.Backend.{office_as, office_call, put_as, put_done_as}
use Rattle.step_local.specs.Large.{cached_at, cleanup_ticks, get_as, granules_of_served, keep_as}
use Rattle.step_local.specs.Large.{kept_as, releasing, releasing_by, sweep_call, swept_as, ticked}
use Rattle.step_local.specs.Learn.{learn_at}
use Rattle.step_local.specs.Leaving.{put_call}
use Rattle.cache_tasks.specs.Hands.{ComesIntoHand, GotFrom, IsPutting, KeptFrom, MissedFrom, PutsFrom, PutsOn}
use Rattle.cache_tasks.specs.Hands.{SweptFrom}
use Rattle.cache_tasks.specs.Laws.{SweptBlocksArePut, TakenBlocksComeIntoHand}
use Rattle.cache_tasks.proofs.Kept.{none_newest}
use Rattle.cache_tasks.proofs.StartedLarge.{starts-next_bin}
use Rattle.pool_types.specs.declared.values.Turn.{Turn}

-- a list is its last item behind the others
splits_at : (n : ℕ) (xs : List ℕ) (x : ℕ) → slice_get xs n ≡ Some x → length xs ≡ n + 1 → xs ≡ take n xs ++ (x ∷ [])
splits_at n [] x is many = absurd (cc)
splits_at zero (y ∷ []) x is many = let same : y ≡ x = cc in ap (λ z. z ∷ []) same
splits_at zero (y ∷ z ∷ zs) x is many = absurd (omega arith)
splits_at (suc n) (y ∷ ys) x is many = ap (λ zs. y ∷ zs) (splits_at n ys x is (omega arith))

splits : (xs : List ℕ) (x : ℕ) → slice_get xs (length xs - 1) ≡ Some x → xs ≡ take (length xs - 1) xs ++ (x ∷ [])
splits [] x is = absurd (cc)
splits (y ∷ ys) x is = splits_at (length (y ∷ ys) - 1) (y ∷ ys) x is (omega arith)

puts_from : (l : Local) → PutsFrom l (releasing l).0 l.released.items
puts_from l = by (newest_of l.released) refl
  where
    by : (one : Option ℕ) → newest_of l.released ≡ one → PutsFrom l (releasing_by l one).0 l.released.items
    by (Some block) is = inl (record {
      oldest = block;
      others = take (length l.released.items - 1) l.released.items;
      is = splits l.released.items block is;
      begins = refl;
      why = refl;
      rest = refl;
      sweep' = refl;
    })
    by None is =
        let none = none_newest l.released.items is in inr (none, (starts-next_bin l).1.1 none)

-- with the cleanup that is due the call has the block that it took
abbrev KeepsTaken : Local → Local × Turn → Type 0
KeepsTaken l turn = (turn.0.call.block ≡ l.call.block) × (turn.0.call.missed ≡ l.call.missed)

either_keeps : (l : Local) (b : Bool) (x y : Local × Turn) → KeepsTaken l x → KeepsTaken l y
    → KeepsTaken l (cond b x y)
either_keeps l true x y one other = one
either_keeps l false x y one other = other

cached_keeps : (l : Local) (stage : Stage) → KeepsTaken l (cached_at l stage)
cached_keeps l Stage.Getting = either_keeps l l.call.missed _ _ (refl, refl) (refl, refl)
cached_keeps l Stage.Idle = (refl, refl)
cached_keeps l Stage.Looking = (refl, refl)
cached_keeps l Stage.Ending = (refl, refl)
cached_keeps l Stage.Replacing = (refl, refl)
cached_keeps l Stage.Undoing = (refl, refl)
cached_keeps l Stage.Leaving = (refl, refl)
cached_keeps l (Stage.Resetting stage) = (refl, refl)

ticked_keeps : (l : Local) → KeepsTaken l (ticked l)
ticked_keeps l =
    either_keeps l (eqb (l.call.time % cleanup_ticks) 0) _ _ (refl, refl) (cached_keeps l l.call.stage)

got_from : (l : Local) (one : Option ℕ) → GotFrom l (get_as l (GetAt.Unlock one) (get_unlocked one)).0 (list_of one)
got_from l (Some block) =
    let l' : Local = record l {
      call = record l.call {
        missed = false;
        block = record { first = block; granules = granules_of_served l.call.served };
      };
    } in
    (refl, (ticked_keeps l').0, (ticked_keeps l').1)
got_from l None = tt

get_takes : (l : Local) (at : GetAt) (f : ℕ) → GotFrom l (get_as l at (get_learn at f)).0 (left_by_get at)
get_takes l (GetAt.Unlock block) f = got_from l block
get_takes l _ f = tt

get_misses : (l : Local) (at : GetAt) (f : ℕ) → MissedFrom (get_as l at (get_learn at f)).0 at
get_misses l (GetAt.Unlock None) f = (ticked_keeps (record l { call = record l.call { missed = true } })).1
get_misses l (GetAt.Unlock (Some block)) f = tt
get_misses l _ f = tt

kept_from : (l : Local) (one : Option ℕ) → KeptFrom l (kept_as l one).0 (list_of one)
kept_from l (Some block) = (refl, refl, refl)
kept_from l None = tt

keep_takes : (l : Local) (at : KeepAt) (f : ℕ) → KeptFrom l (keep_as l at (keep_learn at f)).0 (left_by_keep at)
keep_takes l (KeepAt.Unlock released) f = kept_from l released
keep_takes l _ f = tt

sweep_takes : (l : Local) (at : SweepAt) (f : ℕ) → SweptFrom l (swept_as l at (sweep_learn (sweep_call l) at f)).0 at
sweep_takes l SweepAt.Unlock f = (refl, puts_from l)
sweep_takes l _ f = refl

takes : (l : Local) (at : At) (s : Seen) → ComesIntoHand l (learn_at l at s).0 at
takes l (At.Get at) s = (get_takes l at (word_seen s), get_misses l at (word_seen s))
takes l (At.Keep at) s = keep_takes l at (word_seen s)
takes l (At.Sweep at) s = sweep_takes l at (word_seen s)
takes l _ s = tt

pub taken_blocks_come_into_hand : TakenBlocksComeIntoHand
taken_blocks_come_into_hand l s = takes l l.at s

put_is_done : (l : Local) → l.put ≡ PutFor.Swept → PutsOn l (put_done_as l l.put).0
put_is_done l why = subst (λ reason. PutsOn l (put_done_as l reason).0) (sym why) (inr (puts_from l))

put_on : (l : Local) (at : PutAt) (next : PutNext) → l.put ≡ PutFor.Swept → PutsOn l (put_as l at next).0
put_on l at (PutNext.Goes next) why = inl (record { puts = tt; why = refl; rest = refl; sweep' = refl })
put_on l at (PutNext.Waits bin) why = inl (record { puts = tt; why = refl; rest = refl; sweep' = refl })
put_on l at PutNext.Done why = put_is_done l why
put_on l at (PutNext.Gives block) why = inl (record { puts = tt; why = refl; rest = refl; sweep' = refl })

office_on : (l : Local) (first : ℕ) (at : OfficeAt) (next : OfficeNext) → l.put ≡ PutFor.Swept
    → PutsOn l (office_as l (OfficeFor.Put first) at next).0
office_on l first at (OfficeNext.Goes next) why = inl (record { puts = tt; why = refl; rest = refl; sweep' = refl })
office_on l first at OfficeNext.Waits why = inl (record { puts = tt; why = refl; rest = refl; sweep' = refl })
office_on l first at (OfficeNext.Left end) why = put_is_done l why

puts_on : (l : Local) (at : At) (s : Seen) → IsPutting at → l.put ≡ PutFor.Swept → PutsOn l (learn_at l at s).0
puts_on l (At.Put at) s puts why = put_on l at (put_learn (put_call l) at (word_seen s)) why
puts_on l (At.Office (OfficeFor.Put first) at) s puts why =
    office_on l first at (office_learn (office_call l (OfficeFor.Put first)) at s) why
puts_on l (At.Office _ at) s puts why = absurd puts
puts_on l _ s puts why = absurd puts

pub swept_blocks_are_put : SweptBlocksArePut
swept_blocks_are_put l s puts why = puts_on l l.at s puts why
