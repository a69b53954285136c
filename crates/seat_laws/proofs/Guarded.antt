-- A step on guards leaves all that other seats say.
use Rattle.std.proofs.Common.{◌≡◌, ◌≢◌, ◌⊎◌, inl, inr, ℕ, ◌+◌, ◌<◌, ◌≤◌, refl, sym, ap, arith, ◌∙◌}
use Rattle.pool_types.specs.declared.policy.RegionRec.{RegionRec}
use Rattle.pool_words.specs.declared.words.Key.{Key}
use Rattle.pool_words.specs.declared.actions.OfficeJob.{OfficeJob}
use Rattle.word_codes.specs.declared.guards.Guard.{Guard}
use Rattle.guards.specs.declared.win.Side.{Side}
use Rattle.guards.specs.declared.win.Taking.{Taking}
use Rattle.guards.specs.declared.win.WinCall.{WinCall}
use Rattle.guards.specs.declared.win.WinNext.{WinNext}
use Rattle.guards.specs.declared.win.WinAt.{WinAt}
use Rattle.guards.specs.Win.{win_course, win_learn}
use Rattle.region_steps.specs.declared.office.OfficeAt.{OfficeAt}
use Rattle.word_laws.specs.Memory.{Mem, found}
use Rattle.word_laws.proofs.CallerLemmas.{less_or, put_else}
use Rattle.guard_laws.specs.Blocks as blocks
use Rattle.guard_laws.specs.Blocks.{BlocksWhole, IsShut, Piece, Place, Use, piece_of, put_range}
use Rattle.guard_laws.specs.Steps.{GuardStep, place_split, shadow_won}
use Rattle.office_laws.specs.Regions as offices
use Rattle.free_laws.specs.Steps.{IsHand, IsNotWon, with_guards}
use Rattle.pool_laws.specs.Changes.{with_space}
use Rattle.pool_laws.specs.Steps.{KeepsWhole}
use Rattle.pool_laws.specs.Wholes.{Whole, WholeGood, space_of}
use Rattle.seat_hands.specs.Moved.{HandsStand, IsNotOf, SameBut}
use Rattle.seat_hands.proofs.CallerLemmas.{hands_stand_elsewhere, others_are_none}
use Rattle.seat_laws.specs.Stays.{BlocksStay, SeatStays}
use Rattle.seat_laws.proofs.Alone.{range_out, stand_same, stand_used}
use Rattle.seat_laws.proofs.Kept.{IsKept, IsNoOutline, guards_leave, mine_is_kept, none_is_kept}
use Rattle.region_laws.specs.Granules.{settling}
use Rattle.seat_laws.proofs.Outside.{has_first, last_is_in, settling_outside}

-- where one block changes that is not the seat's, its blocks stay
pub stand_by : (place later : ℕ → Place) (t a b : ℕ) (u : Use) → BlocksWhole place → place a ≡ Place.Block a b u
    → IsNotOf t u → SameBut later place a b → HandsStand later place t
stand_by place later t a b u whole is not same =
    hands_stand_elsewhere place later t a b (others_are_none place t a b u whole is not) same

split_same : (place : ℕ → Place) (x a b : ℕ) (u : Use) → SameBut (place_split x a b u place) place x (a + b)
split_same place x a b u z (inl low) =
    range_out (put_range place x a (Place.Block x a u)) (x + a) b (Place.Block (x + a) b u) z (inl (omega arith))
    ∙ range_out place x a (Place.Block x a u) z (inl low)
split_same place x a b u z (inr high) =
    range_out (put_range place x a (Place.Block x a u)) (x + a) b (Place.Block (x + a) b u) z (inr (omega arith))
    ∙ range_out place x a (Place.Block x a u) z (inr (omega arith))

-- two blocks beside each other, neither of which is the seat's
merged_stands : (place : ℕ → Place) (t x a b : ℕ) (u v : Use) (w : Place) → BlocksWhole place
    → place x ≡ Place.Block x a u → place (x + a) ≡ Place.Block (x + a) b v → IsNotOf t u → IsNotOf t v
    → HandsStand (put_range place x (a + b) w) place t
merged_stands place t x a b u v w whole one two not not' =
    hands_stand_elsewhere place (put_range place x (a + b) w) t x (a + b)
    (λ y m taking low high is. by y m taking low high is (nat_or y (x + a)))
    (λ z out. range_out place x (a + b) w z out)
  where
    nat_or : (y z : ℕ) → (y < z) ⊎ (z ≤ y)
    nat_or y z = less_or y z (λ low. inl low) (λ high. inr high)

    by : (y m : ℕ) (taking : Taking) → x ≤ y → y < x + (a + b) → place y ≡ Place.Block y m (Use.Held t taking)
        → (y < x + a) ⊎ (x + a ≤ y) → ⊥
    by y m taking low high is (inl before) = others_are_none place t x a u whole one not y m taking low before is
    by y m taking low high is (inr behind) =
        others_are_none place t (x + a) b v whole two not' y m taking behind (omega arith) is

hand_not_of : (o t : ℕ) (was : Use) → o ≢ t → IsHand o was → IsNotOf t was
hand_not_of o t Use.Bin differ is = absurd is
hand_not_of o t (Use.Held s taking) differ is = λ same. differ (sym is ∙ same)
hand_not_of o t Use.Queued differ is = absurd is
hand_not_of o t Use.Elsewhere differ is = tt

not_won_stands : (g : blocks.Shadow) (o t : ℕ) (c : WinCall) (next : WinNext) → IsNotWon next
    → HandsStand (shadow_won o c next g).place g.place t
not_won_stands g o t c (WinNext.Goes WinAt.First) is = stand_same g.place t
not_won_stands g o t c (WinNext.Goes WinAt.Second) is = stand_same g.place t
not_won_stands g o t c (WinNext.Goes WinAt.Back) is = stand_same g.place t
not_won_stands g o t c WinNext.Won is = absurd is
not_won_stands g o t c (WinNext.NotWon found) is = stand_same g.place t
not_won_stands g o t c WinNext.GivenBack is = stand_same g.place t

guards_stand : (k : Key) (o t : ℕ) (w : Whole) (h : blocks.Shadow) (m' : Mem) (tasks : ℕ → blocks.Task)
    → (step : GuardStep k o w.pool.blocks w.pool.mem w.pool.tasks h m' tasks) → KeepsWhole k o w h m' tasks step
    → BlocksWhole w.pool.blocks.place → o ≢ t → HandsStand h.place w.pool.blocks.place t
guards_stand k o t w h m' tasks (GuardStep.begins c is fits) keeps whole differ = stand_same w.pool.blocks.place t
guards_stand k o t w h m' tasks (GuardStep.wins c at is) keeps whole differ =
    not_won_stands w.pool.blocks o t c (win_learn c at (found w.pool.mem (win_course c at))) keeps
guards_stand k o t w h m' tasks (GuardStep.offers x n taking is at) keeps whole differ = stand_same
    w.pool.blocks.place t
guards_stand k o t w h m' tasks (GuardStep.offered x n is) keeps whole differ = absurd keeps
guards_stand k o t w h m' tasks (GuardStep.marks e x n taking guard is at fits) keeps whole differ =
    stand_same w.pool.blocks.place t
guards_stand k o t w h m' tasks (GuardStep.readies e x n y taking at low high) keeps whole differ =
    stand_same w.pool.blocks.place t
guards_stand k o t w h m' tasks (GuardStep.splits x a b is some more at used) keeps whole differ =
    stand_by w.pool.blocks.place (place_split x a b (Use.Held o Taking.ForUse) w.pool.blocks.place) t x (a + b)
    (Use.Held o Taking.ForUse) whole at differ
    (split_same w.pool.blocks.place x a b (Use.Held o Taking.ForUse))
guards_stand k o t w h m' tasks (GuardStep.merges x a b is at behind) keeps whole differ =
    merged_stands w.pool.blocks.place t x a b (Use.Held o Taking.ToJoin) (Use.Held o Taking.ToJoin)
    (Place.Block x (a + b) (Use.Held o Taking.ToJoin)) whole at behind differ differ
guards_stand k o t w h m' tasks (GuardStep.reuses x n was now is own own' at fits) keeps whole differ =
    stand_used w.pool.blocks.place t x n was (Place.Block x n now) whole at (hand_not_of o t was differ keeps.0)
guards_stand k o t w h m' tasks GuardStep.drains keeps whole differ = absurd keeps
guards_stand k o t w h m' tasks (GuardStep.walls e y low none) keeps whole differ = absurd keeps
guards_stand k o t w h m' tasks (GuardStep.outlines e y low none) keeps whole differ = absurd keeps
guards_stand k o t w h m' tasks (GuardStep.comes x n some within outside used) keeps whole differ = absurd keeps
guards_stand k o t w h m' tasks (GuardStep.leaves x n taking is at) keeps whole differ = absurd keeps
guards_stand k o t w h m' tasks (GuardStep.others action other) keeps whole differ = stand_same w.pool.blocks.place t

tasks_stay : (k : Key) (o t : ℕ) (g : blocks.Shadow) (m : Mem) (tasks : ℕ → blocks.Task) (h : blocks.Shadow) (m' : Mem)
    (tasks' : ℕ → blocks.Task) → GuardStep k o g m tasks h m' tasks' → o ≢ t → tasks' t ≡ tasks t
tasks_stay k o t g m tasks h m' tasks' (GuardStep.begins c is fits) differ = put_else tasks o t _ differ
tasks_stay k o t g m tasks h m' tasks' (GuardStep.wins c at is) differ = put_else tasks o t _ differ
tasks_stay k o t g m tasks h m' tasks' (GuardStep.offers x n taking is at) differ = put_else tasks o t _ differ
tasks_stay k o t g m tasks h m' tasks' (GuardStep.offered x n is) differ = put_else tasks o t _ differ
tasks_stay k o t g m tasks h m' tasks' (GuardStep.marks e x n taking guard is at fits) differ = refl
tasks_stay k o t g m tasks h m' tasks' (GuardStep.readies e x n y taking at low high) differ = refl
tasks_stay k o t g m tasks h m' tasks' (GuardStep.splits x a b is some more at used) differ = refl
tasks_stay k o t g m tasks h m' tasks' (GuardStep.merges x a b is at behind) differ = refl
tasks_stay k o t g m tasks h m' tasks' (GuardStep.reuses x n was now is own own' at fits) differ = refl
tasks_stay k o t g m tasks h m' tasks' GuardStep.drains differ = refl
tasks_stay k o t g m tasks h m' tasks' (GuardStep.walls e y low none) differ = refl
tasks_stay k o t g m tasks h m' tasks' (GuardStep.outlines e y low none) differ = refl
tasks_stay k o t g m tasks h m' tasks' (GuardStep.comes x n some within outside used) differ = refl
tasks_stay k o t g m tasks h m' tasks' (GuardStep.leaves x n taking is at) differ = refl
tasks_stay k o t g m tasks h m' tasks' (GuardStep.others action other) differ = refl

no_outline : (k : Key) (o : ℕ) (w : Whole) (h : blocks.Shadow) (m' : Mem) (tasks : ℕ → blocks.Task)
    → (step : GuardStep k o w.pool.blocks w.pool.mem w.pool.tasks h m' tasks) → KeepsWhole k o w h m' tasks step
    → IsNoOutline k o w.pool.blocks w.pool.mem w.pool.tasks h m' tasks step
no_outline k o w h m' tasks (GuardStep.walls e y low none) keeps = keeps
no_outline k o w h m' tasks (GuardStep.outlines e y low none) keeps = keeps
no_outline k o w h m' tasks (GuardStep.begins c is fits) keeps = tt
no_outline k o w h m' tasks (GuardStep.wins c at is) keeps = tt
no_outline k o w h m' tasks (GuardStep.offers x n taking is at) keeps = tt
no_outline k o w h m' tasks (GuardStep.offered x n is) keeps = tt
no_outline k o w h m' tasks (GuardStep.marks e x n taking guard is at fits) keeps = tt
no_outline k o w h m' tasks (GuardStep.readies e x n y taking at low high) keeps = tt
no_outline k o w h m' tasks (GuardStep.splits x a b is some more at used) keeps = tt
no_outline k o w h m' tasks (GuardStep.merges x a b is at behind) keeps = tt
no_outline k o w h m' tasks (GuardStep.reuses x n was now is own own' at fits) keeps = tt
no_outline k o w h m' tasks GuardStep.drains keeps = tt
no_outline k o w h m' tasks (GuardStep.comes x n some within outside used) keeps = tt
no_outline k o w h m' tasks (GuardStep.leaves x n taking is at) keeps = tt
no_outline k o w h m' tasks (GuardStep.others action other) keeps = tt

-- the first guard of a region that is about to be settled is of no block
pub first_is_kept : (k : Key) (w : Whole) (o t : ℕ) (job : OfficeJob) (one : RegionRec) → WholeGood k w
    → w.desks t ≡ offices.Task.At job (OfficeAt.LastLeft one)
    → IsKept w.pool.blocks.place w.pool.tasks o Side.Begin one.first
first_is_kept k w o t job one good at = none_is_kept w.pool.blocks.place w.pool.tasks o Side.Begin one.first
    (λ a b u is here. settling_outside k w t one one.first good (ap settling at) (last_is_in k w t job one good at)
    (omega arith, omega arith)
    (has_first k w one one.first a b u good is here))

-- a step of guards, on the pool
pub guard_blocks_stay : (k : Key) (o t : ℕ) (w : Whole) (h : blocks.Shadow) (m' : Mem) (tasks : ℕ → blocks.Task)
    → (step : GuardStep k o w.pool.blocks w.pool.mem w.pool.tasks h m' tasks)
    → IsNoOutline k o w.pool.blocks w.pool.mem w.pool.tasks h m' tasks step
    → HandsStand h.place w.pool.blocks.place t → WholeGood k w → o ≢ t
    → BlocksStay w.pool (record w.pool { mem = m'; blocks = h; tasks = tasks }) t
guard_blocks_stay k o t w h m' tasks step plain stand good differ = record {
  stand = stand;
  shut = λ e y x n taking g is none at shut says.
      guards_leave k o w.pool.blocks w.pool.mem w.pool.tasks h m' tasks e y g good.free.bins.guards step plain
      (mine_is_kept w.pool.blocks.place w.pool.tasks o t e y x n taking good.free.bins.guards.parts.whole differ is none
      at) shut says;
}

pub guards_leave_others : (k : Key) (o t : ℕ) (w : Whole) (h : blocks.Shadow) (m' : Mem) (tasks : ℕ → blocks.Task)
    → (step : GuardStep k o w.pool.blocks w.pool.mem w.pool.tasks h m' tasks) → KeepsWhole k o w h m' tasks step
    → WholeGood k w → o ≢ t → SeatStays w (with_space (with_guards h m' tasks (space_of w)) w) t
guards_leave_others k o t w h m' tasks step keeps good differ = record {
  pool = record {
    guards = tasks_stay k o t w.pool.blocks w.pool.mem w.pool.tasks h m' tasks step differ;
    objects = refl;
    notes = refl;
    last = refl;
    kept = refl;
    cached = refl;
  };
  tasks = record {
    bins = refl;
    queue = refl;
    drained = refl;
    mails = refl;
    orphans = refl;
    spares = refl;
    jobs = refl;
    desks = refl;
  };
  blocks = guard_blocks_stay k o t w h m' tasks step (no_outline k o w h m' tasks step keeps)
      (guards_stand k o t w h m' tasks step keeps good.free.bins.guards.parts.whole differ) good differ;
  lists = record {
    first = λ job one at says. guards_leave k o w.pool.blocks w.pool.mem w.pool.tasks h m' tasks Side.Begin one.first
        Guard.Used good.free.bins.guards step (no_outline k o w h m' tasks step keeps)
        (first_is_kept k w o t job one good at) tt says;
    settled = λ s y one inside is has. is;
    items = λ b is. refl;
  };
}
