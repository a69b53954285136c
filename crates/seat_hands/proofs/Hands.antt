-- Blocks in hand where they lie, and where none begin.
use Rattle.std.proofs.Common.{◌≡◌, ℕ, ◌+◌, ◌<◌, ◌≤◌, [], ◌∷◌, ◌++◌, inl, inr, arith, Some, None}
use Rattle.std.proofs.Common.{Option, ◌^◌}
use Rattle.guards.specs.declared.win.Taking.{Taking}
use Rattle.chain_laws.proofs.CallerLemmas.{tally-here}
use Rattle.guard_laws.specs.Blocks.{Use, Place, BlocksWhole}
use Rattle.hand_blocks.specs.Fits.{LiesAt}
use Rattle.hand_blocks.specs.Hands.{firsts}
use Rattle.hand_blocks.proofs.CallerLemmas.{count_of}
use Rattle.seat_ties.specs.Ties.{LiesFor}
use Rattle.seat_hands.specs.Laws.{EachIsOfHands, HandsLie, HandsStandElsewhere, HandsStay, OthersAreNone, OutsideIsNone}
use Rattle.seat_hands.specs.Moved.{IsNotOf}
use Rattle.seat_hands.proofs.Lists.{all_stand, all_below, apart_is}
use Rattle.word_laws.proofs.CallerLemmas.{less_or}

lies_at : (place : ℕ → Place) (span seat first : ℕ) (granules : Option ℕ) (taking : Taking) → BlocksWhole place
    → span < 2 ^ 32 → ((x n : ℕ) (u : Use) → place x ≡ Place.Block x n u → x + n ≤ span)
    → LiesFor place seat first granules taking → LiesAt first granules
lies_at place span seat first (Some n) taking whole small within lies =
    let below = (whole first first n (Use.Held seat taking) lies).below in
    let end = within first n (Use.Held seat taking) lies in (omega arith, omega arith)
lies_at place span seat first None taking whole small within lies = tt

pub hands_lie : HandsLie
hands_lie place span seat [] whole small within are = tt
hands_lie place span seat (one ∷ rest) whole small within are = (
  lies_at place span seat one.first one.granules one.taking whole small within are.0,
  hands_lie place span seat rest whole small within are.1,
)

pub each_is_of_hands : EachIsOfHands
each_is_of_hands place drained seat above below one tied = record {
  lies = (all_below place seat above (one ∷ below) tied.lie).0;
  apart = apart_is drained (firsts (above ++ (one ∷ below))) tied.apart one.first
      (let count = count_of one.first above (one ∷ below) in let here = tally-here one.first (firsts below) in
      omega arith);
}

not_own : (seat : ℕ) (u : Use) (taking : Taking) → IsNotOf seat u → u ≡ Use.Held seat taking → ⊥
not_own seat Use.Bin taking other' e = cc
not_own seat (Use.Held other which) taking other' e = other' (cc)
not_own seat Use.Queued taking other' e = cc
not_own seat Use.Elsewhere taking other' e = cc

pub others_are_none : OthersAreNone
others_are_none place seat first n u whole is other' y m taking low high e =
    let here = (whole first first n u is).all y low high in not_own seat u taking other' (cc)

pub outside_is_none : OutsideIsNone
outside_is_none place seat first n out y m taking low high e = let here = out y low high in cc

pub hands_stay : HandsStay
hands_stay place later drained seat hands tied stand = record {
  lie = all_stand place later seat hands tied.lie (λ y m taking some is. stand y m taking is);
  once = tied.once;
  apart = tied.apart;
}

pub hands_stand_elsewhere : HandsStandElsewhere
hands_stand_elsewhere place later seat first n none same y m taking is =
    less_or y first
    (λ low. same y (inl low))
    (λ from. less_or y (first + n) (λ below. absurd (none y m taking from below is)) (λ above. same y (inr above)))
