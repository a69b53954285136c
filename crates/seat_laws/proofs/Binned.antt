-- A step at bins leaves all other seats alone.
use Rattle.std.proofs.Common.{◌≡◌, ◌≢◌, ℕ, true, Option, Some, None, List, refl}
use Rattle.std.proofs.Common.{sym, ap, subst, arith, ◌∙◌}
use Rattle.pool_words.specs.declared.actions.Action.{Action}
use Rattle.pool_words.specs.declared.words.Key.{Key}
use Rattle.word_codes.specs.Links.{link_of}
use Rattle.word_codes.specs.Locks.{lock_word}
use Rattle.word_codes.specs.declared.guards.Guard.{Guard}
use Rattle.guards.specs.declared.win.Side.{Side}
use Rattle.guards.specs.declared.win.WinAt.{WinAt}
use Rattle.backend_bins.specs.Blocks.{bin_of}
use Rattle.locked_chain.specs.declared.insert.InsertAt.{InsertAt}
use Rattle.locked_chain.specs.declared.remove.RemoveAt.{RemoveAt}
use Rattle.locked_chain.specs.Insert.{insert_course}
use Rattle.locked_chain.specs.Locks.{lock_course, unlock_course}
use Rattle.locked_chain.specs.Remove.{remove_course, skip_course}
use Rattle.word_laws.specs.Memory.{Mem, after, put}
use Rattle.lock_laws.specs.Locks.{lock_by}
use Rattle.lock_laws.specs.Seats.{list_call, lock_in}
use Rattle.guard_laws.specs.Blocks.{CallFits, Piece, Place, TaskFits, Use, IsShut, piece_of}
use Rattle.guard_laws.specs.Blocks as guards
use Rattle.guard_laws.specs.Steps.{GuardStep, guard_in}
use Rattle.bin_laws.specs.Bins.{Task, bin_words, list_task}
use Rattle.bin_laws.specs.Bins as binning
use Rattle.bin_laws.specs.Steps.{BinStep, with_bin}
use Rattle.use_laws.specs.Pools.{Pool}
use Rattle.free_laws.specs.Spaces.{bin_tasks, bins_of}
use Rattle.free_laws.specs.Steps.{IsAtBins, with_bins}
use Rattle.pool_laws.specs.Changes.{with_space}
use Rattle.pool_laws.specs.Wholes.{Whole, WholeGood, space_of}
use Rattle.seat_hands.specs.Moved.{HandsStand}
use Rattle.seat_laws.specs.Stays.{BlocksStay, ListsStay, SeatStays}
use Rattle.seat_laws.proofs.Alone.{SameGuards, after_spared, blocks_stay, guard_stays, not_put, spares, stand_same}
use Rattle.seat_laws.proofs.Alone.{stand_used}
use Rattle.seat_laws.proofs.Guarded.{first_is_kept}
use Rattle.seat_laws.proofs.Kept.{IsNoOutline, guards_leave, mine_is_kept}
use Rattle.seat_laws.proofs.Won.{won_is_bin}

-- no two seats have one lock
numbers : (a b : ℕ) → lock_word a ≡ lock_word b → a ≡ b
unfolding lock_word
numbers a b same = omega arith

locks_apart : (k : Key) (w : Whole) (seat t b : ℕ) → WholeGood k w → seat ≢ t
    → lock_in (list_task (w.bins seat)) ≡ Some b → lock_in (list_task (w.bins t)) ≡ Some b → ⊥
locks_apart k w seat t b good ne mine his =
    ne (numbers seat t (sym (good.free.bins.lists.locks.held seat b mine)
    ∙ good.free.bins.lists.locks.held t b his))

insert_spares : (b x : ℕ) (at : InsertAt) → spares (insert_course (list_call bin_words b x) at) ≡ true
insert_spares b x InsertAt.Head = refl
insert_spares b x _ = refl

skip_spares : (b x forward : ℕ) (before : Option ℕ)
    → spares (skip_course (list_call bin_words b x) forward before) ≡ true
skip_spares b x forward (Some before) = refl
skip_spares b x forward None = refl

remove_spares : (b x : ℕ) (at : RemoveAt) → spares (remove_course (list_call bin_words b x) at) ≡ true
remove_spares b x (RemoveAt.Skip forward backward) = skip_spares b x forward (link_of backward)
remove_spares b x _ = refl

-- what a step at bins makes of the whole
bin_parts : (w : Whole) (t : ℕ) (h : binning.Shadow) (m' : Mem) (l' : binning.Locals) → l'.guards t ≡ w.pool.tasks t
    → l'.bins t ≡ w.bins t → BlocksStay w.pool (with_space (with_bins h m' l' (space_of w)) w).pool t
    → ListsStay w (with_space (with_bins h m' l' (space_of w)) w) t
    → SeatStays w (with_space (with_bins h m' l' (space_of w)) w) t
bin_parts w t h m' l' guards bins blocks lists = record {
  pool = record { guards = guards; objects = refl; notes = refl; last = refl; kept = refl; cached = refl };
  tasks = record {
    bins = bins;
    queue = refl;
    drained = refl;
    mails = refl;
    orphans = refl;
    spares = refl;
    jobs = refl;
    desks = refl;
  };
  blocks = blocks;
  lists = lists;
}

-- a list whose lock another seat has is another one
other_list : (k : Key) (w : Whole) (seat t b : ℕ) (later : List ℕ) → WholeGood k w → seat ≢ t
    → lock_in (list_task (w.bins seat)) ≡ Some b → (c : ℕ) → lock_in (list_task (w.bins t)) ≡ Some c
    → put w.items b later c ≡ w.items c
other_list k w seat t b later good ne mine c his = not_put w.items b c later
    (λ same. locks_apart k w seat t b good ne mine (his ∙ ap (λ d. Some d) (sym same)))

lists_locked : (w later : Whole) (t : ℕ) → SameGuards w.pool.mem later.pool.mem → later.settled ≡ w.settled
    → ((b : ℕ) → lock_in (list_task (w.bins t)) ≡ Some b → later.items b ≡ w.items b) → ListsStay w later t
lists_locked w later t same settled items = record {
  first = λ job one is says. guard_stays w.pool.mem later.pool.mem Side.Begin one.first same ∙ says;
  settled = λ s y one inside is has. ap (λ f. f s) (sym settled) ∙ is;
  items = items;
}

-- a guard that is shut of this seat's blocks, or that is the first one of a region which it is about to settle, is none
-- that a step on guards stores
guard_left : (k : Key) (w : Whole) (seat t : ℕ) (h : guards.Shadow) (m' : Mem) (tasks : ℕ → guards.Task)
    → (step : GuardStep k seat w.pool.blocks w.pool.mem w.pool.tasks h m' tasks)
    → IsNoOutline k seat w.pool.blocks w.pool.mem w.pool.tasks h m' tasks step → WholeGood k w → seat ≢ t
    → (place : ℕ → Place) → HandsStand place w.pool.blocks.place t → (later : Pool) → later.mem ≡ m'
    → later.blocks.place ≡ place → BlocksStay w.pool later t
guard_left k w seat t h m' tasks step plain good ne place stand later mem at = record {
  stand = subst (λ f. HandsStand f w.pool.blocks.place t) (sym at) stand;
  shut = λ e y x n taking g lies none guard shut says. subst (λ m. guard_in m e y ≡ g) (sym mem)
      (guards_leave k seat w.pool.blocks w.pool.mem w.pool.tasks h m' tasks e y g good.free.bins.guards step plain
      (mine_is_kept w.pool.blocks.place w.pool.tasks seat t e y x n taking good.free.bins.guards.parts.whole ne lies
      none guard) shut says);
}

first_left : (k : Key) (w later : Whole) (seat t : ℕ) (h : guards.Shadow) (m' : Mem) (tasks : ℕ → guards.Task)
    → (step : GuardStep k seat w.pool.blocks w.pool.mem w.pool.tasks h m' tasks)
    → IsNoOutline k seat w.pool.blocks w.pool.mem w.pool.tasks h m' tasks step → WholeGood k w
    → later.pool.mem ≡ m' → later.settled ≡ w.settled → later.items ≡ w.items → ListsStay w later t
first_left k w later seat t h m' tasks step plain good mem settled items = record {
  first = λ job one at says. subst (λ m. guard_in m Side.Begin one.first ≡ Guard.Used) (sym mem)
      (guards_leave k seat w.pool.blocks w.pool.mem w.pool.tasks h m' tasks Side.Begin one.first Guard.Used
      good.free.bins.guards step plain (first_is_kept k w seat t job one good at) tt says);
  settled = λ s y one inside is has. ap (λ f. f s) (sym settled) ∙ is;
  items = λ b has. ap (λ f. f b) items;
}

-- a lock is taken or freed
locked_leaves : (k : Key) (w : Whole) (seat t : ℕ) (action : Action) (task : Task) → seat ≢ t → spares action ≡ true
    → SeatStays w (with_space (with_bins (bins_of (space_of w)) (after k w.pool.mem action)
    (with_bin seat task (bin_tasks (space_of w))) (space_of w)) w) t
locked_leaves k w seat t action task ne none =
    bin_parts w t (bins_of (space_of w)) (after k w.pool.mem action) (with_bin seat task (bin_tasks (space_of w))) refl
    (not_put w.bins seat t task ne)
    (blocks_stay w.pool _ t (stand_same w.pool.blocks.place t) (after_spared k w.pool.mem action none))
    (lists_locked w _ t (after_spared k w.pool.mem action none) refl (λ b has. refl))

-- a list is changed under its lock
listed_leaves : (k : Key) (w : Whole) (seat t b : ℕ) (action : Action) (task : Task) (items : List ℕ)
    (member : ℕ → binning.Member) → WholeGood k w → seat ≢ t → lock_in (list_task (w.bins seat)) ≡ Some b
    → spares action ≡ true
    → SeatStays w (with_space (with_bins (record {
      guards = w.pool.blocks;
      items = put w.items b items;
      member = member;
    }) (after k w.pool.mem action) (with_bin seat task (bin_tasks (space_of w))) (space_of w)) w) t
listed_leaves k w seat t b action task items member good ne mine none =
    bin_parts w t _ (after k w.pool.mem action) (with_bin seat task (bin_tasks (space_of w))) refl
    (not_put w.bins seat t task ne)
    (blocks_stay w.pool _ t (stand_same w.pool.blocks.place t) (after_spared k w.pool.mem action none))
    (lists_locked w _ t (after_spared k w.pool.mem action none) refl
    (λ c his. other_list k w seat t b items good ne mine c his))

pub bins_leave : (k : Key) (seat t : ℕ) (w : Whole) (h : binning.Shadow) (m' : Mem) (l' : binning.Locals)
    → WholeGood k w → seat ≢ t
    → (step : BinStep k seat (bins_of (space_of w)) w.pool.mem (bin_tasks (space_of w)) h m' l')
    → IsAtBins k seat (space_of w) h m' l' step → SeatStays w (with_space (with_bins h m' l' (space_of w)) w) t
bins_leave k seat t w h m' l' good ne (BinStep.guards g m tasks step quiet same) at = absurd at
bins_leave k seat t w h m' l' good ne (BinStep.wins c is won ready) at =
    let later = with_space (with_bins h m' l' (space_of w)) w in
    let bin = won_is_bin k w.pool.blocks w.pool.mem w.pool.tasks seat c good.free.bins.guards is won in
    let stand = stand_used w.pool.blocks.place t c.begin c.granules Use.Bin
    (Place.Block c.begin c.granules (Use.Held seat c.taking)) good.free.bins.guards.parts.whole bin tt in
    bin_parts w t h m' l' (not_put w.pool.tasks seat t _ ne) (not_put w.bins seat t _ ne)
    (guard_left k w seat t _ m' _ (GuardStep.wins c WinAt.Second is) tt good ne _ stand later.pool refl refl)
    (first_left k w later seat t _ m' _ (GuardStep.wins c WinAt.Second is) tt good refl refl refl)
bins_leave k seat t w h m' l' good ne (BinStep.comes x n is has) at =
    let later = with_space (with_bins h m' l' (space_of w)) w in
    let piece = good.free.bins.guards.parts.piece_is seat x n (ap piece_of is) in
    let stand = stand_used w.pool.blocks.place t x n (Use.Held seat piece.0.0) (Place.Block x n Use.Bin)
    good.free.bins.guards.parts.whole piece.0.1 ne in
    bin_parts w t h m' l' (not_put w.pool.tasks seat t _ ne) (not_put w.bins seat t _ ne)
    (guard_left k w seat t _ m' _ (GuardStep.offered x n is) tt good ne _ stand later.pool refl refl)
    (first_left k w later seat t _ m' _ (GuardStep.offered x n is) tt good refl refl refl)
bins_leave k seat t w h m' l' good ne (BinStep.takes b some is) at =
    locked_leaves k w seat t (lock_course (lock_by bin_words.lock seat b)) _ ne refl
bins_leave k seat t w h m' l' good ne (BinStep.leaves x n is) at =
    locked_leaves k w seat t (lock_course (lock_by bin_words.lock seat (bin_of n))) _ ne refl
bins_leave k seat t w h m' l' good ne (BinStep.frees b is) at =
    locked_leaves k w seat t (unlock_course (lock_by bin_words.lock seat b)) _ ne refl
bins_leave k seat t w h m' l' good ne (BinStep.links x n at' is) at =
    listed_leaves k w seat t (bin_of n) (insert_course (list_call bin_words (bin_of n) x) at') _ _ _ good ne
    (ap (λ q. lock_in (list_task q)) is) (insert_spares (bin_of n) x at')
bins_leave k seat t w h m' l' good ne (BinStep.unlinks x n at' is) at =
    listed_leaves k w seat t (bin_of n) (remove_course (list_call bin_words (bin_of n) x) at') _ _ _ good ne
    (ap (λ q. lock_in (list_task q)) is) (remove_spares (bin_of n) x at')
