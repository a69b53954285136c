-- A guard within a block in hand is readied, and the block is cut in two there, by steps of the whole.
use Rattle.std.proofs.Common.{◌≡◌, inl, inr, ◌+◌, ◌<◌, ◌≤◌, ℕ, [], ◌∷◌, refl, ap, sym, subst}
use Rattle.std.proofs.Common.{arith, ◌∙◌}
use Rattle.pool_words.specs.declared.words.Key.{Key}
use Rattle.pool_words.specs.declared.words.Word.{Word}
use Rattle.pool_words.specs.declared.actions.Action.TheVariants.{Store}
use Rattle.pool_words.specs.Words.{lefts, number, sizes}
use Rattle.word_codes.specs.declared.guards.Guard.{Guard}
use Rattle.word_codes.specs.Guards.{guard_of, guard_word}
use Rattle.word_codes.proofs.CallerLemmas.{guards_read_back}
use Rattle.guards.specs.declared.win.Side.{Side}
use Rattle.guards.specs.declared.win.Taking.{Taking}
use Rattle.word_laws.specs.Memory.{Mem, after}
use Rattle.word_laws.proofs.CallerLemmas.{stored-valid, write_else, write_here}
use Rattle.chain_laws.specs.Chains.{tally}
use Rattle.guard_laws.specs.Blocks as guards
use Rattle.guard_laws.specs.Blocks.{Piece, Place, Standing, Use, put_range}
use Rattle.guard_laws.specs.Steps.{GuardStep, guard_in, place_split, shadow_split, with_edge}
use Rattle.bin_laws.specs.Bins as bins
use Rattle.bin_laws.specs.Steps.{kept_of}
use Rattle.queue_laws.specs.Queue.{told}
use Rattle.free_laws.specs.Steps.{IsLoose, with_guards}
use Rattle.hand_blocks.specs.Changes.{Change}
use Rattle.pool_laws.specs.Changes.{with_space}
use Rattle.pool_laws.specs.Steps.{IsFree, WholeStep}
use Rattle.pool_laws.specs.Wholes.{Whole, WholeGood, space_of}
use Rattle.seat_ties.specs.Ties.{HandsTied}
use Rattle.seat_ties.specs.Turns.{stays, steps_on}
use Rattle.seat_hands.specs.Moved.{DrainedLie, SameBut}
use Rattle.seat_hands.proofs.CallerLemmas.{hands_split}
use Rattle.backend_moves.specs.Moved.{HandsMove, Moved}
use Rattle.backend_moves.proofs.Below.{lies_within, range_in, range_out}
use Rattle.backend_moves.proofs.Looks.{none_move}
use Rattle.backend_moves.proofs.Sides.{beside_guards}

abbrev used : ℕ
used = guard_word Guard.Used

used_reads : guard_of used ≡ Guard.Used
used_reads = guards_read_back Guard.Used tt

-- what a store of that guard leaves
end_is_used : (k : Key) (m : Mem) (y : ℕ) → y ≤ k.span
    → guard_in (after k m (Store (Word.Left y) used)) Side.End y ≡ Guard.Used
end_is_used k m y low =
    subst (λ (x : Mem). guard_of (x lefts y) ≡ Guard.Used) (sym (stored-valid k m (Word.Left y) used (omega arith)))
    (ap guard_of (write_here m lefts lefts y used y refl refl) ∙ used_reads)

begin_is_used : (k : Key) (m : Mem) (y : ℕ) → y ≤ k.span
    → guard_in (after k m (Store (Word.Size y) used)) Side.Begin y ≡ Guard.Used
begin_is_used k m y low =
    subst (λ (x : Mem). guard_of (x sizes y) ≡ Guard.Used) (sym (stored-valid k m (Word.Size y) used (omega arith)))
    (ap guard_of (write_here m sizes sizes y used y refl refl) ∙ used_reads)

end_stays : (k : Key) (m : Mem) (y z : ℕ) → y ≤ k.span
    → guard_in (after k m (Store (Word.Size y) used)) Side.End z ≡ guard_in m Side.End z
end_stays k m y z low =
    subst (λ (x : Mem). guard_of (x lefts z) ≡ guard_of (m lefts z))
    (sym (stored-valid k m (Word.Size y) used (omega arith)))
    (ap guard_of (write_else m sizes lefts y used z
    (λ same. absurd (let no : number sizes ≡ number lefts = same in cc))))

-- the guard at which a block before that place ends
pub record Readied (k : Key) (w : Whole) (seat y : ℕ) : Type 0 where
  pub moved : Moved k w seat (Store (Word.Left y) used) guards.Task.Away bins.Task.Away []
  pub says : guard_in moved.later.pool.mem Side.End y ≡ Guard.Used

pub ready_moves : (k : Key) (w : Whole) (seat x n y : ℕ) → WholeGood k w → IsFree w seat
    → w.pool.tasks seat ≡ guards.Task.Away → w.bins seat ≡ bins.Task.Away
    → w.pool.blocks.place x ≡ Place.Block x n (Use.Held seat Taking.ForUse) → x < y → y < x + n
    → Readied k w seat y
ready_moves k w seat x n y good free task is held low high =
    let h : guards.Shadow = with_edge Side.End y Standing.Inner w.pool.blocks in
    let m : Mem = after k w.pool.mem (Store (Word.Left y) used) in
    let lies = lies_within k w x n (Use.Held seat Taking.ForUse) good held in
    record {
      moved = record {
        later = with_space (with_guards h m w.pool.tasks (space_of w)) w;
        run = steps_on stays (WholeStep.guards h m w.pool.tasks
            (GuardStep.readies Side.End x n y Taking.ForUse held low high) tt free);
        words = refl;
        guards' = task;
        bins' = is;
        beside = beside_guards h m w.pool.tasks w;
        hands = none_move w.pool.blocks.place (w.drained seat) seat;
      };
      says = end_is_used k w.pool.mem y (let a = lies.below in omega arith);
    }

-- where the two halves of a block lie
split_first : (place : ℕ → Place) (x a b : ℕ) (u : Use) → 0 < a → place_split x a b u place x ≡ Place.Block x a u
split_first place x a b u some =
    range_out (put_range place x a (Place.Block x a u)) (x + a) b (Place.Block (x + a) b u) x (inl (omega arith))
    ∙ range_in place x a (Place.Block x a u) x (omega arith) (omega arith)

split_second : (place : ℕ → Place) (x a b : ℕ) (u : Use) → 0 < b
    → place_split x a b u place (x + a) ≡ Place.Block (x + a) b u
split_second place x a b u some =
    range_in (put_range place x a (Place.Block x a u)) (x + a) b (Place.Block (x + a) b u) (x + a) (omega arith)
    (omega arith)

split_else : (place : ℕ → Place) (x a b : ℕ) (u : Use) → SameBut (place_split x a b u place) place x (a + b)
split_else place x a b u z (inl low) =
    range_out (put_range place x a (Place.Block x a u)) (x + a) b (Place.Block (x + a) b u) z (inl (omega arith))
    ∙ range_out place x a (Place.Block x a u) z (inl low)
split_else place x a b u z (inr high) =
    range_out (put_range place x a (Place.Block x a u)) (x + a) b (Place.Block (x + a) b u) z (inr (omega arith))
    ∙ range_out place x a (Place.Block x a u) z (inr (omega arith))

-- what the seat took of the queue lies in its hand
drained_lies : (k : Key) (w : Whole) (seat : ℕ) → WholeGood k w
    → DrainedLie w.pool.blocks.place (w.drained seat) seat
drained_lies k w seat good x some = (told w.pool.mem x, good.free.queue.drained_is seat x some)

split_hands : (k : Key) (w : Whole) (seat x a b : ℕ) → WholeGood k w → 0 < a → 0 < b
    → HandsMove (Change.Splits x a b ∷ []) w.pool.blocks.place
    (place_split x a b (Use.Held seat Taking.ForUse) w.pool.blocks.place) (w.drained seat) seat
split_hands k w seat x a b good some more before behind tied leads =
    let place : ℕ → Place = w.pool.blocks.place in
    let u : Use = Use.Held seat Taking.ForUse in
    let later : ℕ → Place = place_split x a b u place in
    subst (λ hands. HandsTied later (w.drained seat) seat hands) (sym leads.2)
    (hands_split place later (w.drained seat) seat x a b before leads.0 tied good.free.bins.guards.parts.whole
    (drained_lies k w seat good) (split_else place x a b u) (split_first place x a b u some)
    (split_second place x a b u more) leads.1)

loose : (w : Whole) (seat x : ℕ) → w.bins seat ≡ bins.Task.Away → tally x (w.drained seat) ≡ 0
    → IsLoose (space_of w) seat x
loose w seat x is apart = record {
  listed = λ n e. absurd (let no : Piece.NoPiece ≡ Piece.Got x n = sym (ap (λ t. kept_of t) is) ∙ e in cc);
  taken = apart;
}

-- the guard at which the block behind that place begins; so both say that a block is in use, and it is cut there
pub split_moves : (k : Key) (w : Whole) (seat x a b : ℕ) → WholeGood k w → IsFree w seat
    → w.pool.tasks seat ≡ guards.Task.Away → w.bins seat ≡ bins.Task.Away
    → w.pool.blocks.place x ≡ Place.Block x (a + b) (Use.Held seat Taking.ForUse) → tally x (w.drained seat) ≡ 0
    → guard_in w.pool.mem Side.End (x + a) ≡ Guard.Used → 0 < a → 0 < b
    → Moved k w seat (Store (Word.Size (x + a)) used) guards.Task.Away bins.Task.Away (Change.Splits x a b ∷ [])
split_moves k w seat x a b good free task is held apart says some more =
    let h : guards.Shadow = with_edge Side.Begin (x + a) Standing.Inner w.pool.blocks in
    let m : Mem = after k w.pool.mem (Store (Word.Size (x + a)) used) in
    let ready : Whole = with_space (with_guards h m w.pool.tasks (space_of w)) w in
    let cut : guards.Shadow = shadow_split seat x a b h in
    let lies = lies_within k w x (a + b) (Use.Held seat Taking.ForUse) good held in
    let low : x + a ≤ k.span = let below = lies.below in omega arith in
    record {
      later = with_space (with_guards cut m w.pool.tasks (space_of ready)) ready;
      run = steps_on (steps_on stays (WholeStep.guards h m w.pool.tasks
          (GuardStep.readies Side.Begin x (a + b) (x + a) Taking.ForUse held (omega arith) (omega arith)) tt free))
          (WholeStep.guards cut m w.pool.tasks (GuardStep.splits x a b task some more held
          (λ e. both k w.pool.mem (x + a) low says e)) (loose ready seat x is apart)
          (record { shelf = free.shelf; queue = free.queue }));
      words = refl;
      guards' = task;
      bins' = is;
      beside = beside_guards cut m w.pool.tasks w;
      hands = split_hands k w seat x a b good some more;
    }
  where
    both : (k : Key) (m : Mem) (y : ℕ) → y ≤ k.span → guard_in m Side.End y ≡ Guard.Used → (e : Side)
        → guard_in (after k m (Store (Word.Size y) used)) e y ≡ Guard.Used
    both k m y low says Side.Begin = begin_is_used k m y low
    both k m y low says Side.End = end_stays k m y y low ∙ says
