-- No step of a put that is alone leads it to the queue.
use Rattle.std.proofs.Common.{◌≡◌, ◌≢◌, ℕ, Bool, true, false, cond, eqb, ◌&&◌, refl, sym, ap, subst, ◌∙◌}
use Rattle.pool_words.specs.declared.words.Key.{Key}
use Rattle.pool_words.specs.Words.{sizes, lefts}
use Rattle.word_codes.specs.declared.guards.Guard.{Guard}
use Rattle.word_codes.specs.Guards.{guard_of}
use Rattle.word_laws.proofs.CallerLemmas.{equal_or}
use Rattle.guards.specs.declared.win.Side.{Side}
use Rattle.guards.specs.declared.win.WinAt.{WinAt}
use Rattle.guards.specs.declared.win.WinNext.{WinNext}
use Rattle.guards.specs.Win.{win_learn, free_word}
use Rattle.backend_bins.specs.declared.bin.BinNext.{BinNext}
use Rattle.backend_bins.specs.Blocks.{block_end}
use Rattle.backend_bins.specs.Bin.{bin_learn}
use Rattle.coalescer.specs.declared.put.Beside.{Beside}
use Rattle.coalescer.specs.declared.put.PutAt.{PutAt}
use Rattle.coalescer.specs.declared.put.PutCall.{PutCall}
use Rattle.coalescer.specs.declared.put.PutStep.{PutStep}
use Rattle.coalescer.specs.Put.{left_win, right_win, unlink_call, insert_call, step_course, bins, judges_left}
use Rattle.coalescer.specs.Put.{judges_right, wins_left, wins_right, unlinks_left, unlinks_right, is_walled}
use Rattle.coalescer.specs.Put.{right_ends, left_ends, looks_far, sides_known, sees_far_left, sees_far_right}
use Rattle.coalescer.specs.Put.{bin_goes, step_learn}
use Rattle.word_laws.specs.Memory.{Mem, found}
use Rattle.guard_laws.specs.Blocks as blocks
use Rattle.guard_laws.specs.Blocks.{Piece, half_of, piece_of, GuardGood, core_in}
use Rattle.guard_laws.specs.Neighbours.{Covered}
use Rattle.guard_laws.specs.Steps.{guard_in}
use Rattle.queue_laws.specs.Puts.{PutFits, IsJoining}
use Rattle.queue_laws.specs.Alone.{IsAlone, IsLooking, CalmFits, JoinsOn, JoinsNext}
use Rattle.queue_laws.specs.Laws.{AlonePutsNeverQueue}
use Rattle.queue_laws.proofs.Alone.{alone_halves, end_is}
use Rattle.queue_laws.proofs.Looks.{NoPieces, unmarked}
use Rattle.queue_laws.proofs.LoneWins.{alone_wins_are_won}

alone_pieces : (tasks : ℕ → blocks.Task) (t : ℕ) → IsAlone tasks t → piece_of (tasks t) ≡ Piece.NoPiece
    → NoPieces tasks
alone_pieces tasks t alone own o =
    equal_or o t (λ q. ap (λ j. piece_of (tasks j)) q ∙ own) (λ ne. ap piece_of (alone o ne))

right_joins : (p : PutAt) (right : Beside) → JoinsNext (right_ends p right)
right_joins p Beside.Joined = tt
right_joins p Beside.InUse = tt
right_joins p Beside.Wall = tt
right_joins p Beside.Unknown = tt

left_joins : (p : PutAt) (left : Beside) → JoinsNext (left_ends p left)
left_joins p Beside.Joined = tt
left_joins p Beside.InUse = right_joins p p.right
left_joins p Beside.Wall = right_joins p p.right
left_joins p Beside.Unknown = right_joins p p.right

sides_join : (c : PutCall) (p : PutAt) → JoinsNext (sides_known c p)
sides_join c p = by (c.gives && is_walled p)
  where
    by : (b : Bool) → JoinsNext (cond b (looks_far p) (bins p))
    by true = left_joins p p.left
    by false = tt

judge_left : (c : PutCall) (p : PutAt) (guard : Guard) → guard ≢ Guard.Coalescing → JoinsNext (judges_left c p guard)
judge_left c p Guard.Used ne = tt
judge_left c p Guard.Wall ne = tt
judge_left c p Guard.Coalescing ne = absurd (ne refl)
judge_left c p (Guard.Free n) ne = tt

judge_right : (c : PutCall) (p : PutAt) (guard : Guard) → guard ≢ Guard.Coalescing
    → JoinsNext (judges_right c p guard)
judge_right c p Guard.Used ne = sides_join c (record p { right = Beside.InUse })
judge_right c p Guard.Wall ne = sides_join c (record p { right = Beside.Wall })
judge_right c p Guard.Coalescing ne = absurd (ne refl)
judge_right c p (Guard.Free n) ne = tt

-- the first guard of a neighbour is won, or what it said is judged
first_left : (c : PutCall) (p : PutAt) (n f : ℕ) → guard_of f ≢ Guard.Coalescing
    → JoinsNext (wins_left c p n (win_learn (left_win p n) WinAt.First f))
first_left c p n f ne = by (eqb f (free_word (left_win p n)))
  where
    by : (b : Bool) → JoinsNext (wins_left c p n (cond b (WinNext.Goes WinAt.Second) (WinNext.NotWon f)))
    by true = tt
    by false = judge_left c p (guard_of f) ne

first_right : (c : PutCall) (p : PutAt) (n f : ℕ) → guard_of f ≢ Guard.Coalescing
    → JoinsNext (wins_right c p n (win_learn (right_win p n) WinAt.First f))
first_right c p n f ne = by (eqb f (free_word (right_win p n)))
  where
    by : (b : Bool) → JoinsNext (wins_right c p n (cond b (WinNext.Goes WinAt.Second) (WinNext.NotWon f)))
    by true = tt
    by false = judge_right c p (guard_of f) ne

never_as : (k : Key) (g : blocks.Shadow) (m : Mem) (tasks : ℕ → blocks.Task) (c : PutCall) (p : PutAt) (step : PutStep)
    → GuardGood k g (core_in m tasks) → Covered g → IsAlone tasks c.seat → IsJoining (tasks c.seat) p step
    → IsLooking (tasks c.seat) step → PutFits c g p step → CalmFits g.place p.block.first step → JoinsOn step
    → JoinsNext (step_learn c p step (found m (step_course c p step)))
never_as k g m tasks c p PutStep.Size good covered alone joins looks fits calm on = tt
never_as k g m tasks c p PutStep.Left good covered alone joins looks fits calm on = tt
never_as k g m tasks c p PutStep.LeftWord good covered alone joins looks fits calm on =
    judge_left c p (guard_of (m lefts p.block.first))
    (unmarked k g m tasks c.seat p.block.first p.block.granules good covered
    (alone_halves tasks c.seat alone (ap half_of looks)) (alone_pieces tasks c.seat alone (ap piece_of looks)) fits
    calm).0
never_as k g m tasks c p (PutStep.WinLeft n WinAt.First) good covered alone joins looks fits calm on =
    first_left c p n (m lefts p.block.first)
    (unmarked k g m tasks c.seat p.block.first p.block.granules good covered
    (alone_halves tasks c.seat alone (ap half_of joins)) (alone_pieces tasks c.seat alone (ap piece_of joins)) fits.0
    calm).0
never_as k g m tasks c p (PutStep.WinLeft n WinAt.Second) good covered alone joins looks fits calm on =
    subst (λ next. JoinsNext (wins_left c p n next))
    (sym (alone_wins_are_won k g m tasks c.seat (left_win p n) good alone joins)) tt
never_as k g m tasks c p (PutStep.WinLeft n WinAt.Back) good covered alone joins looks fits calm on = absurd on
never_as k g m tasks c p (PutStep.UnlinkLeft b at) good covered alone joins looks fits calm on =
    by (bin_learn (unlink_call c b) at (found m (step_course c p (PutStep.UnlinkLeft b at))))
  where
    by : (next : BinNext) → JoinsNext (unlinks_left p b next)
    by (BinNext.Goes now) = tt
    by BinNext.Waits = tt
    by BinNext.Done = tt
never_as k g m tasks c p PutStep.RightWord good covered alone joins looks fits calm on =
    judge_right c p (guard_of (m sizes (block_end p.block)))
    (subst (λ y. guard_in m Side.Begin y ≢ Guard.Coalescing) (sym (end_is k g m tasks c.seat p.block good fits))
    (unmarked k g m tasks c.seat p.block.first p.block.granules good covered
    (alone_halves tasks c.seat alone (ap half_of looks)) (alone_pieces tasks c.seat alone (ap piece_of looks)) fits
    calm).1)
never_as k g m tasks c p (PutStep.WinRight n WinAt.First) good covered alone joins looks fits calm on =
    first_right c p n (m sizes (block_end p.block))
    (subst (λ y. guard_in m Side.Begin y ≢ Guard.Coalescing) (sym (end_is k g m tasks c.seat p.block good fits.0))
    (unmarked k g m tasks c.seat p.block.first p.block.granules good covered
    (alone_halves tasks c.seat alone (ap half_of joins)) (alone_pieces tasks c.seat alone (ap piece_of joins)) fits.0
    calm).1)
never_as k g m tasks c p (PutStep.WinRight n WinAt.Second) good covered alone joins looks fits calm on =
    subst (λ next. JoinsNext (wins_right c p n next))
    (sym (alone_wins_are_won k g m tasks c.seat (right_win p n) good alone joins)) tt
never_as k g m tasks c p (PutStep.WinRight n WinAt.Back) good covered alone joins looks fits calm on = absurd on
never_as k g m tasks c p (PutStep.UnlinkRight b at) good covered alone joins looks fits calm on =
    by (bin_learn (unlink_call c b) at (found m (step_course c p (PutStep.UnlinkRight b at))))
  where
    by : (next : BinNext) → JoinsNext (unlinks_right c p b next)
    by (BinNext.Goes now) = tt
    by BinNext.Waits = tt
    by BinNext.Done = sides_join c (record p { right = Beside.Joined })
never_as k g m tasks c p PutStep.FarLeft good covered alone joins looks fits calm on =
    by (guard_of (m lefts p.block.first))
  where
    by : (guard : Guard) → JoinsNext (sees_far_left p guard)
    by Guard.Wall = right_joins p p.right
    by Guard.Used = tt
    by Guard.Coalescing = tt
    by (Guard.Free n) = tt
never_as k g m tasks c p PutStep.FarRight good covered alone joins looks fits calm on =
    by (guard_of (m sizes (block_end p.block)))
  where
    by : (guard : Guard) → JoinsNext (sees_far_right p guard)
    by Guard.Wall = tt
    by Guard.Used = tt
    by Guard.Coalescing = tt
    by (Guard.Free n) = tt
never_as k g m tasks c p (PutStep.Queue at) good covered alone joins looks fits calm on = absurd on
never_as k g m tasks c p (PutStep.Bin at) good covered alone joins looks fits calm on =
    by (bin_learn (insert_call c p.block) at (found m (step_course c p (PutStep.Bin at))))
  where
    by : (next : BinNext) → JoinsNext (bin_goes p next)
    by (BinNext.Goes now) = tt
    by BinNext.Waits = tt
    by BinNext.Done = tt

pub alone_puts_never_queue : AlonePutsNeverQueue
alone_puts_never_queue k g m tasks c p good covered alone joins looks fits calm on =
    never_as k g m tasks c p p.step good covered alone joins looks fits calm on
