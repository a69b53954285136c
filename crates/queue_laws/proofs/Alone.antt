-- A put that no other seat overlaps at guards leaves no two blocks in bins beside each other.
use Rattle.std.proofs.Common.{◌≡◌, ◌⊎◌, inl, inr, ℕ, ◌+◌, ◌-◌, ◌^◌, ◌<◌, min, Bool, true, false, cond, eqb}
use Rattle.std.proofs.Common.{◌&&◌, refl, sym, ap, subst, arith, ◌∙◌}
use Rattle.pool_words.specs.declared.words.Key.{Key}
use Rattle.pool_words.specs.Words.{sizes, lefts}
use Rattle.word_codes.specs.declared.guards.Guard.{Guard}
use Rattle.word_codes.specs.Guards.{guard_of}
use Rattle.chain_words.specs.declared.pushing.PushAt.{PushAt}
use Rattle.chain_words.specs.declared.pushing.PushNext.{PushNext}
use Rattle.chain_words.specs.Pushing.{push_learn}
use Rattle.guards.specs.declared.win.Side.{Side}
use Rattle.guards.specs.declared.win.WinAt.{WinAt}
use Rattle.guards.specs.declared.win.WinCall.{WinCall}
use Rattle.guards.specs.declared.win.WinNext.{WinNext}
use Rattle.guards.specs.Win.{guard_at, other_side, free_word, win_course, win_learn}
use Rattle.locked_chain.specs.declared.insert.InsertNext.{InsertNext}
use Rattle.locked_chain.specs.declared.lock.LockNext.{LockNext}
use Rattle.locked_chain.specs.Insert.{insert_learn}
use Rattle.locked_chain.specs.Locks.{lock_learn}
use Rattle.backend_bins.specs.declared.bin.BinAt.{BinAt}
use Rattle.backend_bins.specs.declared.bin.BinNext.{BinNext}
use Rattle.backend_bins.specs.declared.blocks.Block.{Block}
use Rattle.backend_bins.specs.Blocks.{block_end}
use Rattle.backend_bins.specs.Bin.{bin_lock, lock_tried, insert_goes, bin_learn}
use Rattle.coalescer.specs.declared.put.Beside.{Beside}
use Rattle.coalescer.specs.declared.put.PutAt.{PutAt}
use Rattle.coalescer.specs.declared.put.PutCall.{PutCall}
use Rattle.coalescer.specs.declared.put.PutStep.{PutStep}
use Rattle.coalescer.specs.Put.{left_win, right_win, unlink_call, insert_call, step_course, goes, bins, queues}
use Rattle.coalescer.specs.Put.{judges_left, judges_right, wins_left, wins_right, unlinks_left, unlinks_right}
use Rattle.coalescer.specs.Put.{is_walled, right_ends, left_ends, looks_far, sides_known, sees_far_left}
use Rattle.coalescer.specs.Put.{sees_far_right, queue_goes, bin_goes, step_learn}
use Rattle.word_laws.specs.Memory.{Mem, after, found, word_at}
use Rattle.word_laws.proofs.CallerLemmas.{equal_or}
use Rattle.guard_laws.specs.Blocks as blocks
use Rattle.guard_laws.specs.Blocks.{Use, Place, Standing, Half, half_of, at_edge, edge_of, put_range, IsNotFree, IsOf}
use Rattle.guard_laws.specs.Blocks.{GuardFits, CallFits, GuardGood, core_in}
use Rattle.guard_laws.specs.Steps.{guard_in, shadow_won}
use Rattle.guard_laws.specs.Laws.{WinEnds}
use Rattle.guard_laws.proofs.CallerLemmas.{IsOut, ranged_was, both_words_or_none}
use Rattle.queue_laws.specs.Puts.{HasBlock, BinFits, PutFits, IsJoining, shadow_joined, shadow_binned, shadow_put}
use Rattle.queue_laws.specs.Steps.{shadow_queued}
use Rattle.queue_laws.specs.Alone.{NoTwo, NoLeft, NoRight, NoBeside, SidesFit, SidesAfter, IsAlone, IsLooking}
use Rattle.queue_laws.specs.Laws.{AlonePutsLeaveNoTwo}
use Rattle.queue_laws.proofs.Puts.{not_won}

-- no block has come into a bin
abbrev pub FewerBins : (ℕ → Place) → (ℕ → Place) → Type 0
FewerBins place place' =
    (x n : ℕ) → place' x ≡ Place.Block x n Use.Bin → place x ≡ Place.Block x n Use.Bin

pub two_fewer : (place place' : ℕ → Place) → FewerBins place place' → NoTwo place → NoTwo place'
two_fewer place place' fewer none x n m f s = none x n m (fewer x n f) (fewer (x + n) m s)

pub left_fewer : (place place' : ℕ → Place) (i : ℕ) → FewerBins place place' → NoLeft place i → NoLeft place' i
left_fewer place place' i fewer none x n q f = none x n q (fewer x n f)

pub right_fewer : (place place' : ℕ → Place) (i : ℕ) → FewerBins place place' → NoRight place i → NoRight place' i
right_fewer place place' i fewer none n f = none n (fewer i n f)

beside_fewer : (place place' : ℕ → Place) (b : Block) → FewerBins place place' → NoBeside place b → NoBeside place' b
beside_fewer place place' b fewer (l, r) =
    (left_fewer place place' b.first fewer l, right_fewer place place' (b.first + b.granules) fewer r)

pub fewer_ranged : (place : ℕ → Place) (x n : ℕ) (u : Use) → (u ≡ Use.Bin → ⊥)
    → FewerBins place (put_range place x n (Place.Block x n u))
fewer_ranged place x n u never z m f = by (ranged_was place x n u z m Use.Bin f)
  where
    by : ((z ≡ x) × (m ≡ n) × (Use.Bin ≡ u)) ⊎ (IsOut x n z × (place z ≡ Place.Block z m Use.Bin))
        → place z ≡ Place.Block z m Use.Bin
    by (inl (a, b, w)) = absurd (never (sym w))
    by (inr (out, old)) = old

pub fewer_won : (t : ℕ) (c : WinCall) (next : WinNext) (g : blocks.Shadow)
    → FewerBins g.place (shadow_won t c next g).place
fewer_won t c (WinNext.Goes WinAt.First) g = λ x n f. f
fewer_won t c (WinNext.Goes WinAt.Second) g = λ x n f. f
fewer_won t c (WinNext.Goes WinAt.Back) g = λ x n f. f
fewer_won t c WinNext.Won g = fewer_ranged g.place c.begin c.granules (Use.Held t c.taking) (λ q. cc)
fewer_won t c (WinNext.NotWon f) g = λ x n f. f
fewer_won t c WinNext.GivenBack g = λ x n f. f

pub fewer_joined : (t first left right : ℕ) (next : BinNext) (g : blocks.Shadow)
    → FewerBins g.place (shadow_joined t first left right next g).place
fewer_joined t first left right (BinNext.Goes at) g = λ x n f. f
fewer_joined t first left right BinNext.Waits g = λ x n f. f
fewer_joined t first left right BinNext.Done g = fewer_ranged g.place first (left + right) _ (λ q. cc)

pub fewer_queued : (x n : ℕ) (next : PushNext) (g : blocks.Shadow) → FewerBins g.place (shadow_queued x n next g).place
fewer_queued x n (PushNext.Goes at) g = λ y m f. f
fewer_queued x n (PushNext.Pushed head) g = fewer_ranged g.place x n Use.Queued (λ q. cc)

-- a block between no others comes into a bin
pub two_binned : (place : ℕ → Place) (b : Block) → 0 < b.granules → NoBeside place b → NoTwo place
    → NoTwo (put_range place b.first b.granules (Place.Block b.first b.granules Use.Bin))
two_binned place b some (l, r) none x n m f s =
    by (ranged_was place b.first b.granules Use.Bin x n Use.Bin f)
    (ranged_was place b.first b.granules Use.Bin (x + n) m Use.Bin s)
  where
    by : ((x ≡ b.first) × (n ≡ b.granules) × (Use.Bin ≡ Use.Bin))
        ⊎ (IsOut b.first b.granules x × (place x ≡ Place.Block x n Use.Bin))
        → ((x + n ≡ b.first) × (m ≡ b.granules) × (Use.Bin ≡ Use.Bin))
        ⊎ (IsOut b.first b.granules (x + n) × (place (x + n) ≡ Place.Block (x + n) m Use.Bin)) → ⊥
    by (inl (q, p, w)) (inl (q', p', w')) = omega arith
    by (inl (q, p, w)) (inr (out, old)) =
        let e : x + n ≡ b.first + b.granules = omega arith in
        r m (subst (λ z. place z ≡ Place.Block z m Use.Bin) e old)
    by (inr (out, old)) (inl (q', p', w')) = l x n q' old
    by (inr (out, old)) (inr (out', old')) = none x n m old old'

two_put : (k : Key) (g : blocks.Shadow) (m : Mem) (tasks : ℕ → blocks.Task) (c : PutCall) (p : PutAt) (step : PutStep)
    (f : ℕ) → GuardGood k g (core_in m tasks) → PutFits c g p step → SidesFit g.place p.block step → NoTwo g.place
    → NoTwo (shadow_put c p step f g).place
two_put k g m tasks c p PutStep.Size f good fits sides none = none
two_put k g m tasks c p PutStep.Left f good fits sides none = none
two_put k g m tasks c p PutStep.LeftWord f good fits sides none = none
two_put k g m tasks c p (PutStep.WinLeft n at) f good fits sides none = two_fewer g.place _
    (fewer_won c.seat (left_win p n) (win_learn (left_win p n) at f) g) none
two_put k g m tasks c p (PutStep.UnlinkLeft b at) f good fits sides none = two_fewer g.place _
    (fewer_joined c.seat p.block.first b.granules (p.block.granules - b.granules)
    (bin_learn (unlink_call c b) at f) g) none
two_put k g m tasks c p PutStep.RightWord f good fits sides none = none
two_put k g m tasks c p (PutStep.WinRight n at) f good fits sides none = two_fewer g.place _
    (fewer_won c.seat (right_win p n) (win_learn (right_win p n) at f) g) none
two_put k g m tasks c p (PutStep.UnlinkRight b at) f good fits sides none = two_fewer g.place _
    (fewer_joined c.seat p.block.first (p.block.granules - b.granules) b.granules
    (bin_learn (unlink_call c b) at f) g) none
two_put k g m tasks c p PutStep.FarLeft f good fits sides none = none
two_put k g m tasks c p PutStep.FarRight f good fits sides none = none
two_put k g m tasks c p (PutStep.Queue at) f good fits sides none = two_fewer g.place _
    (fewer_queued p.block.first p.block.granules (push_learn at f) g) none
two_put k g m tasks c p (PutStep.Bin BinAt.Lock) f good fits sides none = none
two_put k g m tasks c p (PutStep.Bin BinAt.Size) f good fits sides none = none
two_put k g m tasks c p (PutStep.Bin BinAt.Left) f good fits sides none = two_binned g.place p.block
    (let low = (good.parts.whole p.block.first p.block.first p.block.granules _ fits).below in omega arith) sides none
two_put k g m tasks c p (PutStep.Bin (BinAt.Insert at)) f good fits sides none = none
two_put k g m tasks c p (PutStep.Bin (BinAt.Out at)) f good fits sides none = none
two_put k g m tasks c p (PutStep.Bin BinAt.Unlock) f good fits sides none = none

-- no guard is won alone
abbrev pub NoHalves : (ℕ → blocks.Task) → Type 0
NoHalves tasks = (o : ℕ) → half_of (tasks o) ≡ Half.NoHalf

pub alone_halves : (tasks : ℕ → blocks.Task) (t : ℕ) → IsAlone tasks t → half_of (tasks t) ≡ Half.NoHalf
    → NoHalves tasks
alone_halves tasks t alone own o =
    equal_or o t (λ q. ap (λ j. half_of (tasks j)) q ∙ own) (λ ne. ap half_of (alone o ne))

-- a guard that is not free is none of a block in a bin then
pub no_bin : (k : Key) (g : blocks.Shadow) (m : Mem) (tasks : ℕ → blocks.Task) (e : Side) (x n y : ℕ) (guard : Guard)
    → GuardGood k g (core_in m tasks) → NoHalves tasks → guard_in m e y ≡ guard → IsNotFree guard
    → edge_of e x n ≡ y → g.place x ≡ Place.Block x n Use.Bin → ⊥
no_bin k g m tasks e x n y guard good halves is shut q at = by (at_edge g.standing e y) refl
    (subst (λ z. IsOf n (at_edge g.standing e z)) q (good.parts.edges_fit e x n Use.Bin at))
  where
    by : (s : Standing) → at_edge g.standing e y ≡ s → IsOf n s → ⊥
    by Standing.Inner r f = f
    by Standing.Resting r f = f
    by Standing.Walled r f = f
    by Standing.Joining r f = f
    by Standing.Waiting r f = f
    by (Standing.Open j) r f = let told : guard_in m e y ≡ Guard.Free j =
        subst (λ s. GuardFits s (guard_in m e y)) r (good.parts.words_fit e y) in
        subst IsNotFree (sym is ∙ told) shut
    by (Standing.Won j o taking) r f = let w = good.parts.won_is e y j o taking r in
        let z : Half.NoHalf ≡ Half.HalfOf e w.0 j taking = sym (halves o) ∙ w.2 in cc

queues_alone : (place : ℕ → Place) (c : PutCall) (p : PutAt) → c.drained ≡ false → SidesAfter place (queues c p)
queues_alone place c p never = by c.drained never
  where
    by : (b : Bool) → b ≡ false → SidesAfter place (cond b (bins p) (goes p (PutStep.Queue PushAt.Look)))
    by true e = absurd (cc)
    by false e = tt

right_alone : (place : ℕ → Place) (p : PutAt) → NoBeside place p.block → (right : Beside)
    → SidesAfter place (right_ends p right)
right_alone place p sides Beside.Joined = sides
right_alone place p sides Beside.InUse = tt
right_alone place p sides Beside.Wall = tt
right_alone place p sides Beside.Unknown = tt

left_alone : (place : ℕ → Place) (p : PutAt) → NoBeside place p.block → (left : Beside)
    → SidesAfter place (left_ends p left)
left_alone place p sides Beside.Joined = sides
left_alone place p sides Beside.InUse = right_alone place p sides p.right
left_alone place p sides Beside.Wall = right_alone place p sides p.right
left_alone place p sides Beside.Unknown = right_alone place p sides p.right

sides_alone : (place : ℕ → Place) (c : PutCall) (p : PutAt) → NoBeside place p.block
    → SidesAfter place (sides_known c p)
sides_alone place c p sides = by (c.gives && is_walled p)
  where
    by : (b : Bool) → SidesAfter place (cond b (looks_far p) (bins p))
    by true = left_alone place p sides p.left
    by false = sides

judge_left : (k : Key) (g : blocks.Shadow) (m : Mem) (tasks : ℕ → blocks.Task) (c : PutCall) (p : PutAt)
    (guard : Guard) → GuardGood k g (core_in m tasks) → c.drained ≡ false → NoHalves tasks
    → guard_in m Side.End p.block.first ≡ guard → SidesAfter g.place (judges_left c p guard)
judge_left k g m tasks c p Guard.Used good never halves is =
    λ x n q at. no_bin k g m tasks Side.End x n p.block.first Guard.Used good halves is tt q at
judge_left k g m tasks c p Guard.Wall good never halves is =
    λ x n q at. no_bin k g m tasks Side.End x n p.block.first Guard.Wall good halves is tt q at
judge_left k g m tasks c p Guard.Coalescing good never halves is = queues_alone g.place c p never
judge_left k g m tasks c p (Guard.Free n) good never halves is = tt

pub end_is : (k : Key) (g : blocks.Shadow) (m : Mem) (tasks : ℕ → blocks.Task) (t : ℕ) (b : Block)
    → GuardGood k g (core_in m tasks) → HasBlock g t b.first b.granules → block_end b ≡ b.first + b.granules
end_is k g m tasks t b good hand =
    let low = good.parts.within b.first b.granules _ hand in let few = good.small in omega arith

judge_right : (k : Key) (g : blocks.Shadow) (m : Mem) (tasks : ℕ → blocks.Task) (c : PutCall) (p : PutAt)
    (guard : Guard) → GuardGood k g (core_in m tasks) → c.drained ≡ false → NoHalves tasks
    → HasBlock g c.seat p.block.first p.block.granules → NoLeft g.place p.block.first
    → guard_in m Side.Begin (block_end p.block) ≡ guard → SidesAfter g.place (judges_right c p guard)
judge_right k g m tasks c p Guard.Used good never halves hand left is =
    sides_alone g.place c (record p { right = Beside.InUse }) (
      left,
      λ n at. no_bin k g m tasks Side.Begin
          (p.block.first + p.block.granules) n (block_end p.block) Guard.Used good halves is tt
          (sym (end_is k g m tasks c.seat p.block good hand)) at,
    )
judge_right k g m tasks c p Guard.Wall good never halves hand left is =
    sides_alone g.place c (record p { right = Beside.Wall }) (
      left,
      λ n at. no_bin k g m tasks Side.Begin
          (p.block.first + p.block.granules) n (block_end p.block) Guard.Wall good halves is tt
          (sym (end_is k g m tasks c.seat p.block good hand)) at,
    )
judge_right k g m tasks c p Guard.Coalescing good never halves hand left is = queues_alone g.place c p never
judge_right k g m tasks c p (Guard.Free n) good never halves hand left is = left

-- only the first guard is lost
lost_first : (m : Mem) (c : WinCall) (at : WinAt) (f : ℕ) → win_learn c at (found m
    (win_course c at)) ≡ WinNext.NotWon f
    → at ≡ WinAt.First
lost_first m c WinAt.First f = λ e. refl
lost_first m c WinAt.Second f = by (eqb (word_at m (guard_at c (other_side c.first))) (free_word c))
  where
    by : (b : Bool) → cond b WinNext.Won (WinNext.Goes WinAt.Back) ≡ WinNext.NotWon f → WinAt.Second ≡ WinAt.First
    by true e = absurd (cc)
    by false e = absurd (cc)
lost_first m c WinAt.Back f = λ e. absurd (cc)

won_left : (k : Key) (g : blocks.Shadow) (m m' : Mem) (tasks : ℕ → blocks.Task) (c : PutCall) (p : PutAt) (n : ℕ)
    (next : WinNext) → GuardGood k g (core_in m tasks) → c.drained ≡ false → NoTwo g.place
    → ((f : ℕ) → next ≡ WinNext.NotWon f → (m lefts p.block.first ≡ f) × NoHalves tasks)
    → WinEnds g (shadow_won c.seat (left_win p n) next g) m m' c.seat (left_win p n) next
    → SidesAfter (shadow_won c.seat (left_win p n) next g).place (wins_left c p n next)
won_left k g m m' tasks c p n (WinNext.Goes at) good never none lost ends = tt
won_left k g m m' tasks c p n WinNext.Won good never none lost ends =
    left_fewer g.place (shadow_won c.seat (left_win p n) WinNext.Won g).place (p.block.first - n)
    (fewer_won c.seat (left_win p n) WinNext.Won g)
    (λ x j q at. none x j n at (subst (λ z. g.place z ≡ Place.Block z n Use.Bin) (sym q) ends.bin))
won_left k g m m' tasks c p n (WinNext.NotWon f) good never none lost ends =
    let l = lost f refl in judge_left k g m tasks c p (guard_of f) good never l.1 (ap guard_of l.0)
won_left k g m m' tasks c p n WinNext.GivenBack good never none lost ends = queues_alone _ c p never

won_right : (k : Key) (g : blocks.Shadow) (m m' : Mem) (tasks : ℕ → blocks.Task) (c : PutCall) (p : PutAt) (n : ℕ)
    (next : WinNext) → GuardGood k g (core_in m tasks) → c.drained ≡ false → NoTwo g.place
    → HasBlock g c.seat p.block.first p.block.granules → NoLeft g.place p.block.first
    → ((f : ℕ) → next ≡ WinNext.NotWon f → (m sizes (block_end p.block) ≡ f) × NoHalves tasks)
    → WinEnds g (shadow_won c.seat (right_win p n) next g) m m' c.seat (right_win p n) next
    → SidesAfter (shadow_won c.seat (right_win p n) next g).place (wins_right c p n next)
won_right k g m m' tasks c p n (WinNext.Goes at) good never none hand left lost ends =
    left_fewer g.place (shadow_won c.seat (right_win p n) (WinNext.Goes at) g).place p.block.first
    (fewer_won c.seat (right_win p n) (WinNext.Goes at) g) left
won_right k g m m' tasks c p n WinNext.Won good never none hand left lost ends = (
  left_fewer g.place (shadow_won c.seat (right_win p n) WinNext.Won g).place p.block.first
      (fewer_won c.seat (right_win p n) WinNext.Won g) left,
  right_fewer g.place (shadow_won c.seat (right_win p n) WinNext.Won g).place
      (p.block.first + min (p.block.granules + n) (2 ^ 64 - 1)) (fewer_won c.seat (right_win p n) WinNext.Won g)
      (λ j at. none (block_end p.block) n j ends.bin
      (subst (λ z. g.place z ≡ Place.Block z j Use.Bin) (sym far) at)),
)
  where
    far : block_end p.block + n ≡ p.block.first + min (p.block.granules + n) (2 ^ 64 - 1)
    far = let e = end_is k g m tasks c.seat p.block good hand in
        let low = good.parts.within (block_end p.block) n Use.Bin ends.bin in let few = good.small in omega arith
won_right k g m m' tasks c p n (WinNext.NotWon f) good never none hand left lost ends =
    let l = lost f refl in judge_right k g m tasks c p (guard_of f) good never l.1 hand left (ap guard_of l.0)
won_right k g m m' tasks c p n WinNext.GivenBack good never none hand left lost ends = queues_alone _ c p never

bin_alone : (c : PutCall) (g : blocks.Shadow) (p : PutAt) (at : BinAt) (f : ℕ) → BinFits g c.seat p.block at
    → SidesFit g.place p.block (PutStep.Bin at)
    → SidesAfter (shadow_binned p.block at g).place (bin_goes p (bin_learn (insert_call c p.block) at f))
bin_alone c g p BinAt.Lock f fits sides = by (lock_learn (bin_lock (insert_call c p.block)) f)
  where
    by : (next : LockNext) → SidesAfter g.place (bin_goes p (lock_tried (insert_call c p.block) next))
    by LockNext.Won = sides
    by LockNext.Waits = tt
bin_alone c g p BinAt.Size f fits sides = sides
bin_alone c g p BinAt.Left f fits sides = tt
bin_alone c g p (BinAt.Insert at) f fits sides = by (insert_learn at f)
  where
    by : (next : InsertNext) → SidesAfter g.place (bin_goes p (insert_goes next))
    by (InsertNext.Goes now) = tt
    by InsertNext.Inserted = tt
bin_alone c g p (BinAt.Out at) f fits sides = absurd fits
bin_alone c g p BinAt.Unlock f fits sides = tt

sides_put : (k : Key) (g : blocks.Shadow) (m : Mem) (tasks : ℕ → blocks.Task) (c : PutCall) (p : PutAt)
    (step : PutStep) → GuardGood k g (core_in m tasks) → c.drained ≡ false → IsAlone tasks c.seat
    → IsJoining (tasks c.seat) p step → IsLooking (tasks c.seat) step → PutFits c g p step → NoTwo g.place
    → SidesFit g.place p.block step
    → SidesAfter (shadow_put c p step (found m (step_course c p step)) g).place
    (step_learn c p step (found m (step_course c p step)))
sides_put k g m tasks c p PutStep.Size good never alone joins looks fits none sides = tt
sides_put k g m tasks c p PutStep.Left good never alone joins looks fits none sides = tt
sides_put k g m tasks c p PutStep.LeftWord good never alone joins looks fits none sides =
    judge_left k g m tasks c p (guard_of (m lefts p.block.first)) good never
    (alone_halves tasks c.seat alone (ap half_of looks)) refl
sides_put k g m tasks c p (PutStep.WinLeft n at) good never alone joins looks fits none sides =
    won_left k g m (after k m (win_course (left_win p n) at)) tasks c p n
    (win_learn (left_win p n) at (found m (win_course (left_win p n) at))) good never none
    (λ f e. (
      not_won m (left_win p n) at f e,
      alone_halves tasks c.seat alone (ap half_of (joins
          ∙ ap (blocks.Task.Wins (left_win p n)) (lost_first m (left_win p n) at f e))),
    )) (both_words_or_none k c.seat g m tasks (left_win p n) at good joins)
sides_put k g m tasks c p (PutStep.UnlinkLeft b at) good never alone joins looks fits none sides =
    by (bin_learn (unlink_call c b) at (found m (step_course c p (PutStep.UnlinkLeft b at))))
  where
    by : (next : BinNext) → SidesAfter (shadow_joined c.seat p.block.first b.granules
        (p.block.granules - b.granules) next g).place (unlinks_left p b next)
    by (BinNext.Goes now) = sides
    by BinNext.Waits = tt
    by BinNext.Done = left_fewer g.place _ p.block.first
        (fewer_joined c.seat p.block.first b.granules (p.block.granules - b.granules) BinNext.Done g) sides
sides_put k g m tasks c p PutStep.RightWord good never alone joins looks fits none sides =
    judge_right k g m tasks c p (guard_of (m sizes (block_end p.block))) good never
    (alone_halves tasks c.seat alone (ap half_of looks)) fits sides refl
sides_put k g m tasks c p (PutStep.WinRight n at) good never alone joins looks fits none sides =
    won_right k g m (after k m (win_course (right_win p n) at)) tasks c p n
    (win_learn (right_win p n) at (found m (win_course (right_win p n) at))) good never none fits.0 sides
    (λ f e. (
      not_won m (right_win p n) at f e,
      alone_halves tasks c.seat alone (ap half_of (joins
          ∙ ap (blocks.Task.Wins (right_win p n)) (lost_first m (right_win p n) at f e))),
    )) (both_words_or_none k c.seat g m tasks (right_win p n) at good joins)
sides_put k g m tasks c p (PutStep.UnlinkRight b at) good never alone joins looks fits none sides =
    by (bin_learn (unlink_call c b) at (found m (step_course c p (PutStep.UnlinkRight b at))))
  where
    by : (next : BinNext) → SidesAfter (shadow_joined c.seat p.block.first (p.block.granules - b.granules)
        b.granules next g).place (unlinks_right c p b next)
    by (BinNext.Goes now) = sides
    by BinNext.Waits = tt
    by BinNext.Done = sides_alone _ c (record p { right = Beside.Joined }) (beside_fewer g.place _ p.block
        (fewer_joined c.seat p.block.first (p.block.granules - b.granules) b.granules BinNext.Done g) sides)
sides_put k g m tasks c p PutStep.FarLeft good never alone joins looks fits none sides =
    by (guard_of (m lefts p.block.first))
  where
    by : (guard : Guard) → SidesAfter g.place (sees_far_left p guard)
    by Guard.Wall = right_alone g.place p sides p.right
    by Guard.Used = sides
    by Guard.Coalescing = sides
    by (Guard.Free n) = sides
sides_put k g m tasks c p PutStep.FarRight good never alone joins looks fits none sides =
    by (guard_of (m sizes (block_end p.block)))
  where
    by : (guard : Guard) → SidesAfter g.place (sees_far_right p guard)
    by Guard.Wall = tt
    by Guard.Used = sides
    by Guard.Coalescing = sides
    by (Guard.Free n) = sides
sides_put k g m tasks c p (PutStep.Queue at) good never alone joins looks fits none sides =
    by (push_learn at (found m (step_course c p (PutStep.Queue at))))
  where
    by : (next : PushNext) → SidesAfter (shadow_queued p.block.first p.block.granules next g).place (queue_goes p next)
    by (PushNext.Goes now) = tt
    by (PushNext.Pushed head) = tt
sides_put k g m tasks c p (PutStep.Bin at) good never alone joins looks fits none sides =
    bin_alone c g p at (found m (step_course c p (PutStep.Bin at))) fits sides

pub alone_puts_leave_no_two : AlonePutsLeaveNoTwo
alone_puts_leave_no_two k g m tasks c p good never alone joins looks fits none sides = (
  two_put k g m tasks c p p.step (found m (step_course c p p.step)) good fits sides none,
  sides_put k g m tasks c p p.step good never alone joins looks fits none sides,
)
