-- What each turn of a reset does to what is in hand.
use Rattle.std.proofs.Common.{◌≡◌, ◌∙◌, ◌+◌, ◌-◌, ◌<◌, ◌≤◌, ◌^◌, ℕ, Bool, true, false, cond, List, [], ◌∷◌, ◌++◌}
use Rattle.std.proofs.Common.{eqb, refl, sym, ap, subst, arith}
use Rattle.std.proofs.lemmas.Bool.Decides.{nat_tests}
use Rattle.pool_types.specs.Sums.{capped}
use Rattle.guards.specs.declared.win.Taking.{Taking}
use Rattle.guards.specs.declared.win.WinAt.{WinAt}
use Rattle.guards.specs.declared.win.WinNext.{WinNext}
use Rattle.guards.specs.Win.{win_learn}
use Rattle.word_codes.specs.declared.guards.Guard.{Guard}
use Rattle.word_codes.specs.Guards.{guard_of}
use Rattle.word_codes.specs.declared.region_words.RegionWord.{RegionWord}
use Rattle.backend_bins.specs.Bin.{bin_learn}
use Rattle.backend_bins.specs.Blocks.{block, block_end}
use Rattle.backend_bins.specs.declared.bin.BinAt.{BinAt}
use Rattle.backend_bins.specs.declared.bin.BinNext.{BinNext}
use Rattle.backend_bins.specs.declared.blocks.Block.{Block}
use Rattle.reset_steps.specs.Clear.{clear_learn}
use Rattle.reset_steps.specs.Evict.{evict_learn}
use Rattle.reset_steps.specs.Seek.{seek_learn}
use Rattle.reset_steps.specs.Strip.{strip_learn}
use Rattle.reset_steps.specs.Unite.{unite_from, unite_learn, unite_sized, unite_unlinked, unite_win, unite_won}
use Rattle.reset_steps.specs.Unite.{united, unlink_call}
use Rattle.reset_steps.specs.Unqueue.{unqueue_learn}
use Rattle.reset_steps.specs.declared.clear.ClearAt.{ClearAt}
use Rattle.reset_steps.specs.declared.clear.ClearNext.{ClearNext}
use Rattle.reset_steps.specs.declared.evict.EvictNext.{EvictNext}
use Rattle.reset_steps.specs.declared.unite.UniteAt.{UniteAt}
use Rattle.reset_steps.specs.declared.unqueue.UnqueueNext.{UnqueueNext}
use Rattle.step_local.specs.Resetting.{bin_cleared, binned_as, binned_at, binning_call, cleared_as, evict_call}
use Rattle.step_local.specs.Resetting.{evicting, reset_learn_of, strip_call, uncaching}
use Rattle.step_local.specs.Resetting.{unite_call, uniting, unqueuing}
use Rattle.step_local.specs.declared.frames.Local.{Local}
use Rattle.step_local.specs.declared.frames.ResetAt.{ResetAt}
use Rattle.step_local.specs.declared.frames.ResetStage.{ResetStage}
use Rattle.step_local.specs.declared.frames.Stage.{Stage}
use Rattle.hand_blocks.specs.Changes.{Change, HandsLead, bin_changes, clear_changes, come_all, evict_changes}
use Rattle.hand_blocks.specs.Changes.{merged_changes}
use Rattle.hand_blocks.specs.Changes.{reset_changes, unite_changes, unqueue_changes, won_changes}
use Rattle.hand_blocks.specs.Fits.{AllLie, ResetFits, UniteFits}
use Rattle.hand_blocks.specs.Hands.{AllHands, Hand, beside_bin, bin_hands, hand, joining, released_hands, reset_hands}
use Rattle.hand_blocks.specs.Hands.{unite_hands, united_hands}
use Rattle.hand_blocks.proofs.Lands.{TurnedOn, stays, turns}
use Rattle.hand_blocks.proofs.Lists.{all_come, comes, leads_behind, rest_of_all}
use Rattle.hand_blocks.proofs.Puts.{bin_insert, bin_next_hands}
use Rattle.hand_blocks.proofs.Resets.{evicted_hands, lands-binned_at, lands-bin_cleared, lands-evicting}
use Rattle.hand_blocks.proofs.Resets.{lands-sought_as}
use Rattle.hand_blocks.proofs.Resets.{lands-stripped_as, lands-uncaching, lands-unite_from, lands-united}
use Rattle.hand_blocks.proofs.Resets.{lands-unqueuing}
use Rattle.hand_blocks.proofs.Resets.{unqueued_hands}

evict_leads : (next : EvictNext) → HandsLead (evict_changes next) [] (evicted_hands next)
evict_leads (EvictNext.Goes at) = refl
evict_leads (EvictNext.Ended b granule) = comes (joining b)
evict_leads EvictNext.Passed = refl

evict_turn : (l : Local) (region : RegionWord) (next : EvictNext)
    → TurnedOn (evict_changes next) [] (evicting l region next)
evict_turn l region next = turns (evict_changes next) [] (evicted_hands next) (evicting l region next).0
    (evict_leads next) (lands-evicting l region next)

clear_turn : (l : Local) (granules : ℕ) (at : ClearAt) (next : ClearNext)
    → TurnedOn (clear_changes l granules next) [] (cleared_as l granules at next)
clear_turn l granules at (ClearNext.Goes to) = record { fits = tt; leads = refl }
clear_turn l granules at (ClearNext.Taken taken to) = record { fits = tt; leads = refl }
clear_turn l granules at ClearNext.Waits = record { fits = tt; leads = refl }
clear_turn l granules at ClearNext.Passed = stays [] (bin_cleared l granules).0 (lands-bin_cleared l granules)
clear_turn l granules at ClearNext.Cleared = turns (come_all (released_hands granules l.released.items)) []
    (released_hands granules l.released.items) (uncaching l granules).0
    (all_come [] (released_hands granules l.released.items)) (lands-uncaching l granules)

unqueue_leads : (next : UnqueueNext) → HandsLead (unqueue_changes next) [] (unqueued_hands next)
unqueue_leads (UnqueueNext.Goes at) = refl
unqueue_leads (UnqueueNext.Out b rest) = comes (joining b)
unqueue_leads UnqueueNext.Emptied = refl

-- the block in hand is put into its bin
leads_beside_bin : (l : Local) (stage : Stage) (changes : List Change) (before after : List Hand)
    → HandsLead changes before after → HandsLead changes (beside_bin l stage before) (beside_bin l stage after)
leads_beside_bin l (Stage.Resetting (ResetStage.Cache granules)) changes before after leads =
    leads_behind (released_hands granules l.released.items) changes before after leads
leads_beside_bin l _ changes before after leads = leads

-- a fact of all that is in hand is one of what is put into its bin
pub all_beside_bin : (IsSuch : Hand → Type 0) (l : Local) (stage : Stage) (hands : List Hand)
    → AllHands IsSuch (beside_bin l stage hands) → AllHands IsSuch hands
all_beside_bin IsSuch l (Stage.Resetting (ResetStage.Cache granules)) hands is =
    rest_of_all IsSuch (released_hands granules l.released.items) hands is
all_beside_bin IsSuch l _ hands is = is

bin_turn : (l : Local) (at : BinAt) (next : BinNext)
    → HandsLead (bin_changes (joining l.call.block) at) (bin_hands (joining l.call.block) at)
    (bin_next_hands (joining l.call.block) at next)
    → TurnedOn (bin_changes (joining l.call.block) at)
    (beside_bin l l.call.stage (bin_hands (joining l.call.block) at)) (binned_as l at next)
bin_turn l at (BinNext.Goes to) leads = record {
  fits = tt;
  leads = leads_beside_bin l l.call.stage (bin_changes (joining l.call.block) at)
      (bin_hands (joining l.call.block) at)
      (bin_hands (joining l.call.block) to) leads;
}
bin_turn l at BinNext.Waits leads = record {
  fits = tt;
  leads = leads_beside_bin l l.call.stage (bin_changes (joining l.call.block) at)
      (bin_hands (joining l.call.block) at)
      (bin_hands (joining l.call.block) at) leads;
}
bin_turn l at BinNext.Done leads = turns (bin_changes (joining l.call.block) at)
    (beside_bin l l.call.stage (bin_hands (joining l.call.block) at)) (beside_bin l l.call.stage [])
    (binned_at l l.call.stage).0
    (leads_beside_bin l l.call.stage (bin_changes (joining l.call.block) at) (bin_hands (joining l.call.block) at) []
    leads) (lands-binned_at l l.call.stage refl)

-- a region is united, block by block
unite_size_turn : (l : Local) (region : RegionWord) (first : ℕ) (guard : Guard) → region.first ≤ first
    → TurnedOn [] (united_hands region first)
    (uniting l region (UniteAt.Size first) (unite_sized (unite_call l region) first guard))
unite_size_turn l region first (Guard.Free granules) from = record { fits = from; leads = refl }
unite_size_turn l region first Guard.Used from = stays (united_hands region first)
    (uniting l region (UniteAt.Size first) (united (unite_call l region) first)).0
    (lands-united l region (UniteAt.Size first) first)
unite_size_turn l region first Guard.Coalescing from = stays (united_hands region first)
    (uniting l region (UniteAt.Size first) (united (unite_call l region) first)).0
    (lands-united l region (UniteAt.Size first) first)
unite_size_turn l region first Guard.Wall from = stays (united_hands region first)
    (uniting l region (UniteAt.Size first) (united (unite_call l region) first)).0
    (lands-united l region (UniteAt.Size first) first)

-- a block that was won comes behind what is united
comes_behind : (pre : List Hand) (one : Hand) → HandsLead (Change.Comes one ∷ []) pre (pre ++ one ∷ [])
comes_behind pre one = all_come pre (one ∷ [])

unite_win_turn : (l : Local) (region : RegionWord) (b : Block) (at : WinAt) (next : WinNext) → region.first ≤ b.first
    → TurnedOn (won_changes (joining b) next) (united_hands region b.first)
    (uniting l region (UniteAt.Win b at) (unite_won b next))
unite_win_turn l region b at (WinNext.Goes to) from = record { fits = from; leads = refl }
unite_win_turn l region b at WinNext.Won from = record {
  fits = from;
  leads = comes_behind (united_hands region b.first) (joining b);
}
unite_win_turn l region b at (WinNext.NotWon found) from = record { fits = from; leads = refl }
unite_win_turn l region b at WinNext.GivenBack from = record { fits = from; leads = refl }

-- and is merged with it
end_behind : (r f n : ℕ) → r ≤ f → f + n < 2 ^ 32 → r ≤ capped (f + n)
end_behind r f n from low = omega arith

merged_end : (r f n : ℕ) → r ≤ f → f + n < 2 ^ 32 → capped (f + n) - r ≡ (f - r) + n
merged_end r f n from low = omega arith

begin_is : (r f : ℕ) → r ≤ f → r + (f - r) ≡ f
begin_is r f from = omega arith

none_is : (r f : ℕ) → r ≤ f → eqb (f - r) 0 ≡ true → f ≡ r
none_is r f from is = grind (arith, nat_tests)

some_end : (r f n : ℕ) → r ≤ f → f + n < 2 ^ 32 → 0 < n → eqb (capped (f + n) - r) 0 ≡ false
some_end r f n from low some = let e = merged_end r f n from low in grind (arith, nat_tests)

-- all that is united, behind a block that was not empty
united_some : (region : RegionWord) (b : Block) → region.first ≤ b.first → b.first + b.granules < 2 ^ 32
    → 0 < b.granules
    → united_hands region (block_end b) ≡ hand region.first ((b.first - region.first) + b.granules) Taking.ToJoin ∷ []
united_some region b from low some =
    ap (λ none. cond none [] (joining (block region.first (block_end b - region.first)) ∷ []))
    (some_end region.first b.first b.granules from low some)
    ∙ ap (λ n. hand region.first n Taking.ToJoin ∷ []) (merged_end region.first b.first b.granules from low)

unlink_leads : (l : Local) (region : RegionWord) (b : Block) (none : Bool) → eqb (b.first - region.first) 0 ≡ none
    → region.first ≤ b.first
    → AllLie (cond none [] (joining (block region.first (b.first - region.first)) ∷ []) ++ (joining b ∷ []))
    → (0 < b.granules) × (b.first + b.granules < 2 ^ 32)
    → HandsLead (cond none [] (Change.Merges region.first (b.first - region.first) b.granules ∷ []))
    (cond none [] (joining (block region.first (b.first - region.first)) ∷ []) ++ (joining b ∷ []))
    (united_hands region (block_end b))
unlink_leads l region b true is from lie lies =
    united_some region b from lies.1 lies.0
    ∙ ap (λ f. hand region.first ((f - region.first) + b.granules) Taking.ToJoin ∷ [])
    (none_is region.first b.first from is)
    ∙ ap (λ n. hand region.first n Taking.ToJoin ∷ []) (plain region.first b.granules)
    ∙ ap (λ f. hand f b.granules Taking.ToJoin ∷ []) (sym (none_is region.first b.first from is))
  where
    plain : (r n : ℕ) → (r - r) + n ≡ n
    plain r n = omega arith
unlink_leads l region b false is from lie lies = (
  hand region.first ((b.first - region.first) + b.granules) Taking.ToJoin ∷ [],
  record {
    above = [];
    below = [];
    was = ap (λ f. joining (block region.first (b.first - region.first)) ∷ hand f b.granules Taking.ToJoin ∷ [])
        (sym (begin_is region.first b.first from));
    now = refl;
    fair = tt;
  },
  united_some region b from lies.1 lies.0,
)

last_lies : (none : Bool) (one b : Block) → AllLie (cond none [] (joining one ∷ []) ++ (joining b ∷ []))
    → (0 < b.granules) × (b.first + b.granules < 2 ^ 32)
last_lies true one b lie = lie.0
last_lies false one b lie = lie.1.0

same_changes : (none : Bool) (changes : List Change) → changes ≡ [] → cond none [] changes ≡ []
same_changes true changes is = refl
same_changes false changes is = is

unlink_turn : (l : Local) (region : RegionWord) (b : Block) (at : BinAt) (next : BinNext) → region.first ≤ b.first
    → AllLie (united_hands region b.first ++ (joining b ∷ []))
    → TurnedOn (cond (eqb (b.first - region.first) 0) []
    (merged_changes region.first (b.first - region.first) b.granules next))
    (united_hands region b.first ++ (joining b ∷ []))
    (uniting l region (UniteAt.Unlink b at) (unite_unlinked (unite_call l region) b next))
unlink_turn l region b at (BinNext.Goes to) from lie = record {
  fits = from;
  leads = subst (λ changes. HandsLead changes (united_hands region b.first ++ (joining b ∷ []))
      (united_hands region b.first ++ (joining b ∷ [])))
      (sym (same_changes (eqb (b.first - region.first) 0) [] refl)) refl;
}
unlink_turn l region b at BinNext.Waits from lie = record {
  fits = from;
  leads = subst (λ changes. HandsLead changes (united_hands region b.first ++ (joining b ∷ []))
      (united_hands region b.first ++ (joining b ∷ [])))
      (sym (same_changes (eqb (b.first - region.first) 0) [] refl)) refl;
}
unlink_turn l region b at BinNext.Done from lie =
    let lies = last_lies (eqb (b.first - region.first) 0) (block region.first (b.first - region.first)) b lie in
    turns (cond (eqb (b.first - region.first) 0) []
    (Change.Merges region.first (b.first - region.first) b.granules ∷ []))
    (united_hands region b.first ++ (joining b ∷ [])) (united_hands region (block_end b))
    (uniting l region (UniteAt.Unlink b at) (unite_from (unite_call l region) (block_end b))).0
    (unlink_leads l region b (eqb (b.first - region.first) 0) refl from lie lies)
    (lands-unite_from l region (UniteAt.Unlink b at) (block_end b)
    (end_behind region.first b.first b.granules from lies.1))

unite_turn : (l : Local) (region : RegionWord) (at : UniteAt) (f : ℕ) → UniteFits region at
    → AllLie (unite_hands region at)
    → TurnedOn (unite_changes l region at f) (unite_hands region at)
    (uniting l region at (unite_learn (unite_call l region) at f))
unite_turn l region (UniteAt.Size first) f fits lie = unite_size_turn l region first (guard_of f) fits
unite_turn l region (UniteAt.Win b at) f fits lie = unite_win_turn l region b at (win_learn (unite_win b) at f) fits
unite_turn l region (UniteAt.Unlink b at) f fits lie =
    unlink_turn l region b at (bin_learn (unlink_call (unite_call l region) b) at f) fits lie

pub reset_turned : (l : Local) (at : ResetAt) (f : ℕ) → ResetFits l at → AllLie (reset_hands l at)
    → TurnedOn (reset_changes l at f) (reset_hands l at) (reset_learn_of l at f)
reset_turned l (ResetAt.Strip slab at) f fits lie = stays [] (reset_learn_of l (ResetAt.Strip slab at) f).0
    (lands-stripped_as l slab (strip_learn (strip_call l slab) at f) fits)
reset_turned l (ResetAt.Seek at) f fits lie = stays [] (reset_learn_of l (ResetAt.Seek at) f).0
    (lands-sought_as l at.seek (seek_learn at f))
reset_turned l (ResetAt.Evict region at) f fits lie = evict_turn l region (evict_learn (evict_call l region) at f)
reset_turned l (ResetAt.Clear granules at) f fits lie = clear_turn l granules at (clear_learn at f)
reset_turned l (ResetAt.Unqueue at) f fits lie = turns (unqueue_changes (unqueue_learn at f)) []
    (unqueued_hands (unqueue_learn at f)) (unqueuing l (unqueue_learn at f)).0 (unqueue_leads (unqueue_learn at f))
    (lands-unqueuing l (unqueue_learn at f))
reset_turned l (ResetAt.Unite region at) f fits lie = unite_turn l region at f fits lie
reset_turned l (ResetAt.Bin at) f fits lie = bin_turn l at (bin_learn (binning_call l) at f)
    (bin_insert (binning_call l) (joining l.call.block) at f refl)
