-- What a scan has in hand, step by step.
use Rattle.std.proofs.Common.{◌≡◌, ◌+◌, ◌<◌, ℕ, Bool, true, false, cond, List, [], ◌∷◌, ltb, refl, ap}
use Rattle.std.specs.Prelude.{None, Option, Some, ⊤}
use Rattle.pool_types.specs.Sums.{capped}
use Rattle.guards.specs.declared.win.WinAt.{WinAt}
use Rattle.guards.specs.declared.win.WinNext.{WinNext}
use Rattle.guards.specs.Win.{win_learn}
use Rattle.locked_chain.specs.declared.lock.LockNext.{LockNext}
use Rattle.locked_chain.specs.declared.remove.RemoveNext.{RemoveNext}
use Rattle.locked_chain.specs.Locks.{lock_learn}
use Rattle.locked_chain.specs.Remove.{remove_learn}
use Rattle.word_codes.specs.declared.guards.Guard.{Guard}
use Rattle.word_codes.specs.Guards.{guard_of}
use Rattle.word_codes.specs.Links.{link_of}
use Rattle.backend_bins.specs.Blocks.{block, fits, last_bin}
use Rattle.backend_bins.specs.Scan.{goes, lock_tried, looks_on, measure, out_goes, peeked, scan_end, scan_learn}
use Rattle.backend_bins.specs.Scan.{scan_lock, see_block}
use Rattle.backend_bins.specs.Scan.{step_learn, tries, unlocked, visits, win_goes, win_of}
use Rattle.backend_bins.specs.declared.blocks.Block.{Block}
use Rattle.backend_bins.specs.declared.blocks.Want.{Want}
use Rattle.backend_bins.specs.declared.scan.ScanAt.{ScanAt}
use Rattle.backend_bins.specs.declared.scan.ScanCall.{ScanCall}
use Rattle.backend_bins.specs.declared.scan.ScanNext.{ScanNext}
use Rattle.backend_bins.specs.declared.scan.ScanStep.{ScanStep}
use Rattle.hand_blocks.specs.Changes.{Change, HandsLead, scan_changes, won_changes}
use Rattle.hand_blocks.specs.Fits.{AllLie, ScanFits, TookFits, indices}
use Rattle.hand_blocks.specs.Hands.{Hand, scan_hands, scan_hands_at, took_hands, using}

abbrev pub scan_next_hands : ScanAt → ScanNext → List Hand
scan_next_hands s (ScanNext.Goes next) = scan_hands next
scan_next_hands s ScanNext.WaitsLock = scan_hands s
scan_next_hands s (ScanNext.WaitsHalf bin again) = scan_hands again
scan_next_hands s (ScanNext.Took b) = using b ∷ []
scan_next_hands s (ScanNext.Nothing seen) = []

abbrev pub ScanNextFits : Want → ScanNext → Type 0
ScanNextFits w (ScanNext.Goes next) = ScanFits w next.step
ScanNextFits w ScanNext.WaitsLock = ⊤
ScanNextFits w (ScanNext.WaitsHalf bin again) = ScanFits w again.step
ScanNextFits w (ScanNext.Took b) = (fits w b ≡ true) × (b.first + b.granules < indices)
ScanNextFits w (ScanNext.Nothing seen) = ⊤

pub record ScanTurned (w : Want) (s : ScanAt) (changes : List Change) (before : List Hand)
    (next : ScanNext) : Type 0 where
  pub fits : ScanNextFits w next
  pub leads : HandsLead changes before (scan_next_hands s next)

-- nothing is in hand where a scan looks on
abbrev LooksOn : Want → ScanAt → ScanNext → Type 0
LooksOn w s next = ScanTurned w s [] [] next

looks_end : (c : ScanCall) (s : ScanAt) (noted : Option ℕ) → LooksOn c.want s (scan_end c s noted)
looks_end c s (Some bin) = record { fits = tt; leads = refl }
looks_end c s None = record { fits = tt; leads = refl }

looks_looks_on : (c : ScanCall) (s : ScanAt) → LooksOn c.want s (looks_on c s)
looks_looks_on c s = by (ltb s.bin last_bin)
  where
    by : (b : Bool) → LooksOn c.want s
        (cond b (ScanNext.Goes (record s { bin = s.bin + 1; step = ScanStep.Peek })) (scan_end c s s.noted))
    by true = record { fits = tt; leads = refl }
    by false = looks_end c s s.noted

looks_tries : (c : ScanCall) (s : ScanAt) (t : ScanAt) (b : Block) → LooksOn c.want s (tries c t b)
looks_tries c s t b = by (fits c.want b) refl
  where
    by : (test : Bool) → fits c.want b ≡ test → LooksOn c.want s
        (cond test (goes t (ScanStep.Win b WinAt.First)) (goes t (ScanStep.Next b.first)))
    by true is = record { fits = is; leads = refl }
    by false is = record { fits = tt; leads = refl }

looks_see_block : (c : ScanCall) (s t : ScanAt) (first : ℕ) → LooksOn c.want s (see_block c t first)
looks_see_block c s t first = by (ltb t.bin last_bin)
  where
    by : (b : Bool) → LooksOn c.want s (cond b (tries c t (block first (t.bin + 1))) (goes t (ScanStep.Length first)))
    by true = looks_tries c s t (block first (t.bin + 1))
    by false = record { fits = tt; leads = refl }

looks_visits : (c : ScanCall) (s : ScanAt) (one : Option ℕ) → LooksOn c.want s (visits c s one)
looks_visits c s (Some first) = looks_see_block c s (record s { seen = capped (s.seen + 1) }) first
looks_visits c s None = record { fits = tt; leads = refl }

looks_peeked : (c : ScanCall) (s : ScanAt) (one : Option ℕ) → LooksOn c.want s (peeked c s one)
looks_peeked c s (Some first) = record { fits = tt; leads = refl }
looks_peeked c s None = looks_looks_on c s

looks_locked : (c : ScanCall) (s : ScanAt) (next : LockNext) → s.step ≡ ScanStep.Lock
    → LooksOn c.want s (lock_tried s next)
looks_locked c s LockNext.Won here = record { fits = tt; leads = refl }
looks_locked c s LockNext.Waits here = record { fits = tt; leads = ap scan_hands_at here }

looks_measure : (c : ScanCall) (s : ScanAt) (first : ℕ) (guard : Guard) → LooksOn c.want s (measure c s first guard)
looks_measure c s first (Guard.Free granules) = looks_tries c s s (block first granules)
looks_measure c s first Guard.Used = record { fits = tt; leads = refl }
looks_measure c s first Guard.Coalescing = record { fits = tt; leads = refl }
looks_measure c s first Guard.Wall = record { fits = tt; leads = refl }

won : (b : Block) → HandsLead (Change.Comes (using b) ∷ []) [] (using b ∷ [])
won b = (using b ∷ [], record { above = []; below = []; was = refl; now = refl; fair = tt }, refl)

win_turn : (c : ScanCall) (s : ScanAt) (b : Block) (next : WinNext) → fits c.want b ≡ true
    → ScanTurned c.want s (won_changes (using b) next) [] (win_goes s b next)
win_turn c s b (WinNext.Goes at) has = record { fits = has; leads = refl }
win_turn c s b WinNext.Won has = record { fits = has; leads = won b }
win_turn c s b (WinNext.NotWon found) has = record { fits = tt; leads = refl }
win_turn c s b WinNext.GivenBack has = record { fits = tt; leads = refl }

out_turn : (c : ScanCall) (s : ScanAt) (b : Block) (next : RemoveNext) → fits c.want b ≡ true
    → ScanTurned c.want s [] (using b ∷ []) (out_goes s b next)
out_turn c s b (RemoveNext.Goes at) has = record { fits = has; leads = refl }
out_turn c s b RemoveNext.Out has = record { fits = has; leads = refl }

unlock_turn : (c : ScanCall) (s : ScanAt) (took : Option Block) → TookFits c.want took → AllLie (took_hands took)
    → ScanTurned c.want s [] (took_hands took) (unlocked c s took)
unlock_turn c s (Some b) has lie = record { fits = (has, lie.0.1); leads = refl }
unlock_turn c s None has lie = looks_looks_on c s

scan_turn_at : (c : ScanCall) (s : ScanAt) (step : ScanStep) (found : ℕ) → s.step ≡ step → ScanFits c.want step
    → AllLie (scan_hands_at step)
    → ScanTurned c.want s (scan_changes step found) (scan_hands_at step) (step_learn c s step found)
scan_turn_at c s ScanStep.Peek found here has lie = looks_peeked c s (link_of found)
scan_turn_at c s ScanStep.Lock found here has lie = looks_locked c s (lock_learn (scan_lock c s) found) here
scan_turn_at c s ScanStep.Head found here has lie = looks_visits c s (link_of found)
scan_turn_at c s (ScanStep.Length first) found here has lie = looks_measure c s first (guard_of found)
scan_turn_at c s (ScanStep.Win b at) found here has lie = win_turn c s b (win_learn (win_of b) at found) has
scan_turn_at c s (ScanStep.Next first) found here has lie = looks_visits c s (link_of found)
scan_turn_at c s (ScanStep.Out b at) found here has lie = out_turn c s b (remove_learn at found) has
scan_turn_at c s (ScanStep.Unlock took) found here has lie = unlock_turn c s took has lie

pub scan_turn : (c : ScanCall) (s : ScanAt) (found : ℕ) → ScanFits c.want s.step → AllLie (scan_hands s)
    → ScanTurned c.want s (scan_changes s.step found) (scan_hands s) (scan_learn c s found)
scan_turn c s found has lie = scan_turn_at c s s.step found refl has lie
