-- A put leaves no whole region in a bin.
use Rattle.std.proofs.Common.{◌≡◌, ◌≢◌, ◌⊎◌, inl, inr, ℕ, ◌+◌, ◌-◌, Bool, true, false, cond, ◌&&◌, refl, sym, ap}
use Rattle.std.proofs.Common.{subst, arith, ◌∙◌}
use Rattle.pool_words.specs.declared.words.Key.{Key}
use Rattle.pool_words.specs.Words.{sizes, lefts}
use Rattle.word_codes.specs.declared.guards.Guard.{Guard}
use Rattle.word_codes.specs.Guards.{guard_of}
use Rattle.chain_words.specs.declared.pushing.PushAt.{PushAt}
use Rattle.chain_words.specs.declared.pushing.PushNext.{PushNext}
use Rattle.chain_words.specs.Pushing.{push_learn}
use Rattle.guards.specs.declared.win.Side.{Side}
use Rattle.guards.specs.declared.win.Taking.{Taking}
use Rattle.guards.specs.declared.win.WinAt.{WinAt}
use Rattle.guards.specs.declared.win.WinCall.{WinCall}
use Rattle.guards.specs.declared.win.WinNext.{WinNext}
use Rattle.guards.specs.Win.{other_side, win_course, win_learn}
use Rattle.locked_chain.specs.declared.insert.InsertNext.{InsertNext}
use Rattle.locked_chain.specs.declared.lock.LockNext.{LockNext}
use Rattle.locked_chain.specs.Insert.{insert_learn}
use Rattle.locked_chain.specs.Locks.{lock_learn}
use Rattle.backend_bins.specs.declared.bin.BinAt.{BinAt}
use Rattle.backend_bins.specs.declared.bin.BinNext.{BinNext}
use Rattle.backend_bins.specs.declared.blocks.Block.{Block}
use Rattle.backend_bins.specs.Blocks.{block_end}
use Rattle.backend_bins.specs.Bin.{bin_lock, lock_tried, insert_goes, bin_learn}
use Rattle.coalescer.specs.declared.put.Beside.{Beside}
use Rattle.coalescer.specs.declared.put.PutAt.{PutAt}
use Rattle.coalescer.specs.declared.put.PutCall.{PutCall}
use Rattle.coalescer.specs.declared.put.PutStep.{PutStep}
use Rattle.coalescer.specs.Put.{left_win, right_win, unlink_call, insert_call, step_course, goes, bins, queues, is_free}
use Rattle.coalescer.specs.Put.{judges_left, judges_right, wins_left, wins_right, unlinks_left, unlinks_right}
use Rattle.coalescer.specs.Put.{is_walled, right_ends, left_ends, looks_far, sides_known, sees_far_left}
use Rattle.coalescer.specs.Put.{sees_far_right, queue_goes, bin_goes, step_learn}
use Rattle.word_laws.specs.Memory.{Mem, found}
use Rattle.guard_laws.specs.Blocks as blocks
use Rattle.guard_laws.specs.Blocks.{Use, Place, Standing, Edges, at_edge, set_edge, edge_of, put_range, GuardFits}
use Rattle.guard_laws.specs.Blocks.{rest_of}
use Rattle.guard_laws.specs.Blocks.{GuardGood, core_in}
use Rattle.guard_laws.specs.Steps.{guard_in, shadow_won}
use Rattle.guard_laws.proofs.CallerLemmas.{IsOut, ranged_was, edge_each}
use Rattle.queue_laws.specs.Puts.{HasBlock, BinFits, PutFits, shadow_joined, shadow_binned, shadow_put}
use Rattle.queue_laws.specs.Steps.{shadow_queued}
use Rattle.queue_laws.specs.Whole.{NoWhole, IsPart, LeftSeen, RightSeen, WholeBin}
use Rattle.queue_laws.specs.Whole.{WholeFits, WholeAfter, PutsLeaveNoWhole}
use Rattle.queue_laws.proofs.Alone.{FewerBins, fewer_won, fewer_joined, fewer_queued, end_is}
use Rattle.queue_laws.proofs.Puts.{not_won}

-- no wall has come
abbrev pub FewerWalls : Edges Standing → Edges Standing → Type 0
FewerWalls f f' = (e : Side) (z : ℕ) → at_edge f' e z ≡ Standing.Walled → at_edge f e z ≡ Standing.Walled

fewer_set : (f : Edges Standing) (j : Side) (y : ℕ) (s : Standing) → (s ≡ Standing.Walled → ⊥)
    → FewerWalls f (set_edge j y s f)
fewer_set f j y s never = edge_each (λ e z v. v ≡ Standing.Walled → at_edge f e z ≡ Standing.Walled) j y s f
    (λ e z ne q. q) (λ q. absurd (never q))

fewer_both : (f : Edges Standing) (j i : Side) (y x : ℕ) (s : Standing) → (s ≡ Standing.Walled → ⊥)
    → FewerWalls f (set_edge j y s (set_edge i x s f))
fewer_both f j i y x s never e z q =
    fewer_set f i x s never e z (fewer_set (set_edge i x s f) j y s never e z q)

rest_no_wall : (taking : Taking) → rest_of taking ≡ Standing.Walled → ⊥
rest_no_wall Taking.ForUse q = cc
rest_no_wall Taking.ToJoin q = cc

walls_won : (t : ℕ) (c : WinCall) (next : WinNext) (g : blocks.Shadow)
    → FewerWalls g.standing (shadow_won t c next g).standing
walls_won t c (WinNext.Goes WinAt.First) g = λ e z q. q
walls_won t c (WinNext.Goes WinAt.Second) g = fewer_set g.standing c.first (edge_of c.first c.begin c.granules)
    (Standing.Won c.granules t c.taking) (λ q. cc)
walls_won t c (WinNext.Goes WinAt.Back) g = λ e z q. q
walls_won t c WinNext.Won g = fewer_both g.standing (other_side c.first) c.first
    (edge_of (other_side c.first) c.begin c.granules) (edge_of c.first c.begin c.granules) (rest_of c.taking)
    (rest_no_wall c.taking)
walls_won t c (WinNext.NotWon f) g = λ e z q. q
walls_won t c WinNext.GivenBack g = fewer_set g.standing c.first (edge_of c.first c.begin c.granules)
    (Standing.Open c.granules) (λ q. cc)

walls_joined : (t first left right : ℕ) (next : BinNext) (g : blocks.Shadow)
    → FewerWalls g.standing (shadow_joined t first left right next g).standing
walls_joined t first left right (BinNext.Goes at) g = λ e z q. q
walls_joined t first left right BinNext.Waits g = λ e z q. q
walls_joined t first left right BinNext.Done g =
    fewer_both g.standing Side.Begin Side.End (first + left) (first + left) Standing.Inner (λ q. cc)

walls_queued : (x n : ℕ) (next : PushNext) (g : blocks.Shadow)
    → FewerWalls g.standing (shadow_queued x n next g).standing
walls_queued x n (PushNext.Goes at) g = λ e z q. q
walls_queued x n (PushNext.Pushed head) g =
    fewer_both g.standing Side.End Side.Begin (x + n) x Standing.Waiting (λ q. cc)

whole_fewer : (g h : blocks.Shadow) → FewerBins g.place h.place → FewerWalls g.standing h.standing → NoWhole g
    → NoWhole h
whole_fewer g h bins walls none x n f l r =
    none x n (bins x n f) (walls Side.End x l) (walls Side.Begin (x + n) r)

seen_fewer : (g h : blocks.Shadow) (first : ℕ) → FewerWalls g.standing h.standing → (left : Beside)
    → LeftSeen g first left → LeftSeen h first left
seen_fewer g h first walls Beside.Unknown seen = tt
seen_fewer g h first walls Beside.InUse seen = λ q. seen (walls Side.End first q)
seen_fewer g h first walls Beside.Wall seen = tt
seen_fewer g h first walls Beside.Joined seen = tt

-- where a wall stands the guard says so
no_wall : (k : Key) (g : blocks.Shadow) (m : Mem) (tasks : ℕ → blocks.Task) (e : Side) (y : ℕ)
    → GuardGood k g (core_in m tasks) → guard_in m e y ≢ Guard.Wall → at_edge g.standing e y ≡ Standing.Walled → ⊥
no_wall k g m tasks e y good ne q =
    ne (subst (λ s. GuardFits s (guard_in m e y)) q (good.parts.words_fit e y))

right_whole : (g : blocks.Shadow) (p : PutAt) (right : Beside) → WholeAfter g (right_ends p right)
right_whole g p Beside.Joined = tt
right_whole g p Beside.InUse = tt
right_whole g p Beside.Wall = tt
right_whole g p Beside.Unknown = tt

left_whole : (g : blocks.Shadow) (p : PutAt) (left : Beside) → WholeAfter g (left_ends p left)
left_whole g p Beside.Joined = tt
left_whole g p Beside.InUse = right_whole g p p.right
left_whole g p Beside.Wall = right_whole g p p.right
left_whole g p Beside.Unknown = right_whole g p p.right

part_right : (g : blocks.Shadow) (b : Block) (right : Beside) → RightSeen g b right → is_free right ≡ false
    → IsPart g b
part_right g b Beside.Unknown seen e = absurd (cc)
part_right g b Beside.InUse seen e = λ l r. seen r
part_right g b Beside.Wall seen e = absurd (cc)
part_right g b Beside.Joined seen e = absurd (cc)

part_of : (g : blocks.Shadow) (b : Block) (left right : Beside) → LeftSeen g b.first left → RightSeen g b right
    → (is_free left && is_free right) ≡ false → IsPart g b
part_of g b Beside.Unknown right l r e = part_right g b right r e
part_of g b Beside.InUse right l r e = λ w _. l w
part_of g b Beside.Wall right l r e = part_right g b right r e
part_of g b Beside.Joined right l r e = part_right g b right r e

sides_whole : (g : blocks.Shadow) (c : PutCall) (p : PutAt) → c.gives ≡ true → LeftSeen g p.block.first p.left
    → RightSeen g p.block p.right → WholeAfter g (sides_known c p)
sides_whole g c p gives l r = by (c.gives && is_walled p) refl
  where
    by : (b : Bool) → (c.gives && is_walled p) ≡ b → WholeAfter g (cond b (looks_far p) (bins p))
    by true e = left_whole g p p.left
    by false e = part_of g p.block p.left p.right l r (ap (λ x. x && is_walled p) (sym gives) ∙ e)

queues_whole : (g : blocks.Shadow) (c : PutCall) (p : PutAt) → c.drained ≡ false → WholeAfter g (queues c p)
queues_whole g c p never = by c.drained never
  where
    by : (b : Bool) → b ≡ false → WholeAfter g (cond b (bins p) (goes p (PutStep.Queue PushAt.Look)))
    by true e = absurd (cc)
    by false e = tt

judge_left : (k : Key) (g : blocks.Shadow) (m : Mem) (tasks : ℕ → blocks.Task) (c : PutCall) (p : PutAt)
    (guard : Guard) → GuardGood k g (core_in m tasks) → c.drained ≡ false
    → guard_in m Side.End p.block.first ≡ guard → WholeAfter g (judges_left c p guard)
judge_left k g m tasks c p Guard.Used good never is =
    no_wall k g m tasks Side.End p.block.first good (λ q. let z : Guard.Used ≡ Guard.Wall = sym is ∙ q in cc)
judge_left k g m tasks c p Guard.Wall good never is = tt
judge_left k g m tasks c p Guard.Coalescing good never is = queues_whole g c p never
judge_left k g m tasks c p (Guard.Free n) good never is = tt

judge_right : (k : Key) (g : blocks.Shadow) (m : Mem) (tasks : ℕ → blocks.Task) (c : PutCall) (p : PutAt)
    (guard : Guard) → GuardGood k g (core_in m tasks) → c.gives ≡ true → c.drained ≡ false
    → HasBlock g c.seat p.block.first p.block.granules → LeftSeen g p.block.first p.left
    → guard_in m Side.Begin (block_end p.block) ≡ guard → WholeAfter g (judges_right c p guard)
judge_right k g m tasks c p Guard.Used good gives never hand l is =
    sides_whole g c (record p { right = Beside.InUse }) gives l
    (subst (λ y. at_edge g.standing Side.Begin y ≡ Standing.Walled → ⊥) (end_is k g m tasks c.seat p.block good hand)
    (no_wall k g m tasks Side.Begin (block_end p.block) good
    (λ q. let z : Guard.Used ≡ Guard.Wall = sym is ∙ q in cc)))
judge_right k g m tasks c p Guard.Wall good gives never hand l is =
    sides_whole g c (record p { right = Beside.Wall }) gives l tt
judge_right k g m tasks c p Guard.Coalescing good gives never hand l is = queues_whole g c p never
judge_right k g m tasks c p (Guard.Free n) good gives never hand l is = l

won_left : (k : Key) (g : blocks.Shadow) (m : Mem) (tasks : ℕ → blocks.Task) (c : PutCall) (p : PutAt) (n : ℕ)
    (next : WinNext) → GuardGood k g (core_in m tasks) → c.drained ≡ false
    → ((f : ℕ) → next ≡ WinNext.NotWon f → m lefts p.block.first ≡ f)
    → WholeAfter (shadow_won c.seat (left_win p n) next g) (wins_left c p n next)
won_left k g m tasks c p n (WinNext.Goes at) good never lost = tt
won_left k g m tasks c p n WinNext.Won good never lost = refl
won_left k g m tasks c p n (WinNext.NotWon f) good never lost =
    judge_left k g m tasks c p (guard_of f) good never (ap guard_of (lost f refl))
won_left k g m tasks c p n WinNext.GivenBack good never lost =
    queues_whole (shadow_won c.seat (left_win p n) WinNext.GivenBack g) c p never

won_right : (k : Key) (g : blocks.Shadow) (m : Mem) (tasks : ℕ → blocks.Task) (c : PutCall) (p : PutAt) (n : ℕ)
    (next : WinNext) → GuardGood k g (core_in m tasks) → c.gives ≡ true → c.drained ≡ false
    → HasBlock g c.seat p.block.first p.block.granules → LeftSeen g p.block.first p.left
    → ((f : ℕ) → next ≡ WinNext.NotWon f → m sizes (block_end p.block) ≡ f)
    → WholeAfter (shadow_won c.seat (right_win p n) next g) (wins_right c p n next)
won_right k g m tasks c p n (WinNext.Goes at) good gives never hand l lost =
    seen_fewer g (shadow_won c.seat (right_win p n) (WinNext.Goes at) g) p.block.first
    (walls_won c.seat (right_win p n) (WinNext.Goes at) g) p.left l
won_right k g m tasks c p n WinNext.Won good gives never hand l lost =
    seen_fewer g (shadow_won c.seat (right_win p n) WinNext.Won g) p.block.first
    (walls_won c.seat (right_win p n) WinNext.Won g) p.left l
won_right k g m tasks c p n (WinNext.NotWon f) good gives never hand l lost =
    judge_right k g m tasks c p (guard_of f) good gives never hand l (ap guard_of (lost f refl))
won_right k g m tasks c p n WinNext.GivenBack good gives never hand l lost =
    queues_whole (shadow_won c.seat (right_win p n) WinNext.GivenBack g) c p never

bin_whole : (c : PutCall) (g : blocks.Shadow) (p : PutAt) (at : BinAt) (f : ℕ) → BinFits g c.seat p.block at
    → WholeBin g p.block at
    → WholeAfter (shadow_binned p.block at g) (bin_goes p (bin_learn (insert_call c p.block) at f))
bin_whole c g p BinAt.Lock f fits part = by (lock_learn (bin_lock (insert_call c p.block)) f)
  where
    by : (next : LockNext) → WholeAfter g (bin_goes p (lock_tried (insert_call c p.block) next))
    by LockNext.Won = part
    by LockNext.Waits = tt
bin_whole c g p BinAt.Size f fits part = λ l r. part l
    (fewer_set g.standing Side.Begin p.block.first (Standing.Open p.block.granules) (λ q. cc) Side.Begin
    (p.block.first + p.block.granules) r)
bin_whole c g p BinAt.Left f fits part = tt
bin_whole c g p (BinAt.Insert at) f fits part = by (insert_learn at f)
  where
    by : (next : InsertNext) → WholeAfter g (bin_goes p (insert_goes next))
    by (InsertNext.Goes now) = tt
    by InsertNext.Inserted = tt
bin_whole c g p (BinAt.Out at) f fits part = absurd fits
bin_whole c g p BinAt.Unlock f fits part = tt

-- the block that comes into a bin is no whole region
binned_whole : (g : blocks.Shadow) (b : Block) → IsPart g b → NoWhole g → NoWhole (shadow_binned b BinAt.Left g)
binned_whole g b part none x n f l r = by (ranged_was g.place b.first b.granules Use.Bin x n Use.Bin f)
  where
    before : g.standing.ends x ≡ Standing.Walled
    before = fewer_set g.standing Side.End (b.first + b.granules) (Standing.Open b.granules) (λ q. cc) Side.End x l

    by : ((x ≡ b.first) × (n ≡ b.granules) × (Use.Bin ≡ Use.Bin))
        ⊎ (IsOut b.first b.granules x × (g.place x ≡ Place.Block x n Use.Bin)) → ⊥
    by (inl (p, q, w)) = part (subst (λ y. g.standing.ends y ≡ Standing.Walled) p before)
        (subst (λ y. g.standing.begins y ≡ Standing.Walled) (omega arith) r)
    by (inr (out, old)) = none x n old before r

whole_put : (c : PutCall) (g : blocks.Shadow) (p : PutAt) (step : PutStep) (f : ℕ) → WholeFits g p step → NoWhole g
    → NoWhole (shadow_put c p step f g)
whole_put c g p PutStep.Size f fits none = none
whole_put c g p PutStep.Left f fits none = none
whole_put c g p PutStep.LeftWord f fits none = none
whole_put c g p (PutStep.WinLeft n at) f fits none = whole_fewer g (shadow_put c p (PutStep.WinLeft n at) f g)
    (fewer_won c.seat (left_win p n) (win_learn (left_win p n) at f) g)
    (walls_won c.seat (left_win p n) (win_learn (left_win p n) at f) g) none
whole_put c g p (PutStep.UnlinkLeft b at) f fits none = whole_fewer g (shadow_put c p (PutStep.UnlinkLeft b at) f g)
    (fewer_joined c.seat p.block.first b.granules (p.block.granules - b.granules) (bin_learn (unlink_call c b) at f) g)
    (walls_joined c.seat p.block.first b.granules (p.block.granules - b.granules) (bin_learn (unlink_call c b) at f) g)
    none
whole_put c g p PutStep.RightWord f fits none = none
whole_put c g p (PutStep.WinRight n at) f fits none = whole_fewer g (shadow_put c p (PutStep.WinRight n at) f g)
    (fewer_won c.seat (right_win p n) (win_learn (right_win p n) at f) g)
    (walls_won c.seat (right_win p n) (win_learn (right_win p n) at f) g) none
whole_put c g p (PutStep.UnlinkRight b at) f fits none = whole_fewer g (shadow_put c p (PutStep.UnlinkRight b at) f g)
    (fewer_joined c.seat p.block.first (p.block.granules - b.granules) b.granules (bin_learn (unlink_call c b) at f) g)
    (walls_joined c.seat p.block.first (p.block.granules - b.granules) b.granules (bin_learn (unlink_call c b) at f) g)
    none
whole_put c g p PutStep.FarLeft f fits none = none
whole_put c g p PutStep.FarRight f fits none = none
whole_put c g p (PutStep.Queue at) f fits none = whole_fewer g (shadow_put c p (PutStep.Queue at) f g)
    (fewer_queued p.block.first p.block.granules (push_learn at f) g)
    (walls_queued p.block.first p.block.granules (push_learn at f) g) none
whole_put c g p (PutStep.Bin BinAt.Lock) f fits none = none
whole_put c g p (PutStep.Bin BinAt.Size) f fits none = λ x n at l r. none x n at l
    (fewer_set g.standing Side.Begin p.block.first (Standing.Open p.block.granules) (λ q. cc) Side.Begin (x + n) r)
whole_put c g p (PutStep.Bin BinAt.Left) f fits none = binned_whole g p.block fits none
whole_put c g p (PutStep.Bin (BinAt.Insert at)) f fits none = none
whole_put c g p (PutStep.Bin (BinAt.Out at)) f fits none = none
whole_put c g p (PutStep.Bin BinAt.Unlock) f fits none = none

whole_as : (k : Key) (g : blocks.Shadow) (m : Mem) (tasks : ℕ → blocks.Task) (c : PutCall) (p : PutAt) (step : PutStep)
    → GuardGood k g (core_in m tasks) → c.gives ≡ true → c.drained ≡ false → PutFits c g p step → WholeFits g p step
    → WholeAfter (shadow_put c p step (found m (step_course c p step)) g)
    (step_learn c p step (found m (step_course c p step)))
whole_as k g m tasks c p PutStep.Size good gives never fits seen = tt
whole_as k g m tasks c p PutStep.Left good gives never fits seen = tt
whole_as k g m tasks c p PutStep.LeftWord good gives never fits seen =
    judge_left k g m tasks c p (guard_of (m lefts p.block.first)) good never refl
whole_as k g m tasks c p (PutStep.WinLeft n at) good gives never fits seen =
    won_left k g m tasks c p n (win_learn (left_win p n) at (found m (win_course (left_win p n) at))) good never
    (not_won m (left_win p n) at)
whole_as k g m tasks c p (PutStep.UnlinkLeft b at) good gives never fits seen =
    by (bin_learn (unlink_call c b) at (found m (step_course c p (PutStep.UnlinkLeft b at))))
  where
    by : (next : BinNext) → WholeAfter (shadow_joined c.seat p.block.first b.granules
        (p.block.granules - b.granules) next g) (unlinks_left p b next)
    by (BinNext.Goes now) = seen
    by BinNext.Waits = tt
    by BinNext.Done = subst (LeftSeen (shadow_joined c.seat p.block.first b.granules
        (p.block.granules - b.granules) BinNext.Done g) p.block.first) (sym seen) tt
whole_as k g m tasks c p PutStep.RightWord good gives never fits seen =
    judge_right k g m tasks c p (guard_of (m sizes (block_end p.block))) good gives never fits seen refl
whole_as k g m tasks c p (PutStep.WinRight n at) good gives never fits seen =
    won_right k g m tasks c p n (win_learn (right_win p n) at (found m (win_course (right_win p n) at))) good gives
    never fits.0 seen (not_won m (right_win p n) at)
whole_as k g m tasks c p (PutStep.UnlinkRight b at) good gives never fits seen =
    by (bin_learn (unlink_call c b) at (found m (step_course c p (PutStep.UnlinkRight b at))))
  where
    by : (next : BinNext) → WholeAfter (shadow_joined c.seat p.block.first (p.block.granules - b.granules)
        b.granules next g) (unlinks_right c p b next)
    by (BinNext.Goes now) = seen
    by BinNext.Waits = tt
    by BinNext.Done = sides_whole (shadow_joined c.seat p.block.first
        (p.block.granules - b.granules) b.granules BinNext.Done g) c
        (record p { right = Beside.Joined }) gives
        (seen_fewer g (shadow_joined c.seat p.block.first (p.block.granules - b.granules) b.granules
        BinNext.Done g) p.block.first
        (walls_joined c.seat p.block.first (p.block.granules - b.granules) b.granules
        BinNext.Done g) p.left seen) tt
whole_as k g m tasks c p PutStep.FarLeft good gives never fits seen = by (guard_of (m lefts p.block.first)) refl
  where
    part : (guard : Guard) → guard_of (m lefts p.block.first) ≡ guard → guard ≢ Guard.Wall → IsPart g p.block
    part guard is ne = λ l r. no_wall k g m tasks Side.End p.block.first good (λ q. ne (sym is ∙ q)) l

    by : (guard : Guard) → guard_of (m lefts p.block.first) ≡ guard → WholeAfter g (sees_far_left p guard)
    by Guard.Wall is = right_whole g p p.right
    by Guard.Used is = part Guard.Used is (λ q. cc)
    by Guard.Coalescing is = part Guard.Coalescing is (λ q. cc)
    by (Guard.Free n) is = part (Guard.Free n) is (λ q. cc)
whole_as k g m tasks c p PutStep.FarRight good gives never fits seen =
    by (guard_of (m sizes (block_end p.block))) refl
  where
    part : (guard : Guard) → guard_of (m sizes (block_end p.block)) ≡ guard → guard ≢ Guard.Wall → IsPart g p.block
    part guard is ne = λ l r. no_wall k g m tasks Side.Begin (block_end p.block) good (λ q. ne (sym is ∙ q))
        (subst (λ y. g.standing.begins y ≡ Standing.Walled)
        (sym (end_is k g m tasks c.seat p.block good fits.0)) r)

    by : (guard : Guard) → guard_of (m sizes (block_end p.block)) ≡ guard → WholeAfter g (sees_far_right p guard)
    by Guard.Wall is = tt
    by Guard.Used is = part Guard.Used is (λ q. cc)
    by Guard.Coalescing is = part Guard.Coalescing is (λ q. cc)
    by (Guard.Free n) is = part (Guard.Free n) is (λ q. cc)
whole_as k g m tasks c p (PutStep.Queue at) good gives never fits seen =
    by (push_learn at (found m (step_course c p (PutStep.Queue at))))
  where
    by : (next : PushNext) → WholeAfter (shadow_queued p.block.first p.block.granules next g) (queue_goes p next)
    by (PushNext.Goes now) = tt
    by (PushNext.Pushed head) = tt
whole_as k g m tasks c p (PutStep.Bin at) good gives never fits seen =
    bin_whole c g p at (found m (step_course c p (PutStep.Bin at))) fits seen

pub puts_leave_no_whole : PutsLeaveNoWhole
puts_leave_no_whole k g m tasks c p good gives never fits none seen = (
  whole_put c g p p.step (found m (step_course c p p.step)) seen none,
  whole_as k g m tasks c p p.step good gives never fits seen,
)
