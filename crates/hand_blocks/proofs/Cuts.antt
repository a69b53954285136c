-- What a cut has in hand, step by step, and what is in hand once there is a piece.
use Rattle.std.proofs.Common.{◌≡◌, ◌∙◌, ◌+◌, ◌-◌, ◌<◌, ℕ, Bool, true, false, cond, List, [], ◌∷◌, ◌++◌, refl, sym}
use Rattle.std.proofs.Common.{ap, subst, arith}
use Rattle.guards.specs.declared.win.Taking.{Taking}
use Rattle.backend_bins.specs.Bin.{bin_learn}
use Rattle.backend_bins.specs.Blocks.{first_skipped, fits, piece_of}
use Rattle.backend_bins.specs.Cut.{at_back, at_last, at_rests, back_call, back_goes, back_of, cut_begins, cut_learn}
use Rattle.backend_bins.specs.Cut.{front_call, front_goes, front_of}
use Rattle.backend_bins.specs.declared.bin.BinAt.{BinAt}
use Rattle.backend_bins.specs.declared.bin.BinNext.{BinNext}
use Rattle.backend_bins.specs.declared.blocks.Block.{Block}
use Rattle.backend_bins.specs.declared.blocks.Want.{Want}
use Rattle.backend_bins.specs.declared.cut.CutAt.{CutAt}
use Rattle.backend_bins.specs.declared.cut.CutNext.{CutNext}
use Rattle.step_local.specs.Backend.{asked, asked_as, cut_as, cut_call, cutting}
use Rattle.step_local.specs.declared.frames.At.{At}
use Rattle.step_local.specs.declared.frames.Local.{Local}
use Rattle.step_local.specs.declared.frames.Served.{Served}
use Rattle.step_local.specs.declared.frames.Stage.{Stage}
use Rattle.hand_blocks.specs.Changes.{HandsLead, bin_changes, cut_changes}
use Rattle.hand_blocks.specs.Fits.{AskFits, AsksFit, CutFits, IsAskedFor, IsSmall, indices}
use Rattle.hand_blocks.specs.Hands.{Hand, behind_front, bin_hands, cut_hands, halves_of, hand, has_back, has_front}
use Rattle.hand_blocks.specs.Hands.{if_any}
use Rattle.hand_blocks.specs.Hands.{located_hands, piece_and_back, using}
use Rattle.hand_blocks.proofs.Lands.{LandsOn, TurnedOn, lands_as, turns}
use Rattle.hand_blocks.proofs.Lists.{leads_before, leads_behind}
use Rattle.hand_blocks.proofs.Numbers.{HasPiece, back_begins, front_cut, has_piece, is_none, is_some, more_minus}
use Rattle.hand_blocks.proofs.Numbers.{rest_begins}
use Rattle.hand_blocks.proofs.Numbers.{rest_has, rest_some, whole_begins, whole_has}
use Rattle.hand_blocks.proofs.Puts.{bin_insert, bin_next_hands}

-- what is asked is for what the call serves
asked_for : (stage : Stage) (served : Served) (w : Want) → AsksFit stage served w → IsAskedFor served w
asked_for Stage.Getting served w asks = asks
asked_for _ served w asks = absurd asks

some_asked : (served : Served) (w : Want) → IsAskedFor served w → 0 < w.granules
some_asked (Served.Small class) w asks = omega arith
some_asked (Served.Large granules alignment) w asks = asks

pub asks_some : (l : Local) → AskFits l → 0 < l.ask.want.granules
asks_some l asks =
    some_asked l.call.served l.ask.want (asked_for l.call.stage l.call.served l.ask.want asks)

lands-asked_as : (l : Local) (piece : Block) (served : Served) → l.call.served ≡ served → IsAskedFor served l.ask.want
    → piece.granules ≡ l.ask.want.granules → LandsOn (asked_as l piece served) (using piece ∷ [])
lands-asked_as l piece (Served.Small class) is asks same = record {
  has = ap (λ n. hand piece.first n Taking.ForUse ∷ []) (sym (same ∙ asks));
  fits = subst IsSmall (sym is) tt;
}
lands-asked_as l piece (Served.Large granules alignment) is asks same = record {
  has = ap (located_hands piece) is;
  fits = tt;
}

-- the piece is in hand
pub lands-asked : (l : Local) → AskFits l → LandsOn (asked l) (using (piece_of l.ask.want l.ask.block) ∷ [])
lands-asked l asks = lands-asked_as l (piece_of l.ask.want l.ask.block) l.call.served refl
    (asked_for l.call.stage l.call.served l.ask.want asks) refl

-- what is known all through a cut
pub record Cuts (l : Local) : Type 0 where
  pub asked : AskFits l
  pub has : fits l.ask.want l.ask.block ≡ true
  pub lies : l.ask.block.first + l.ask.block.granules < indices

abbrev Piece : Local → Type 0
Piece l = HasPiece l.ask.block.first l.ask.block.granules (first_skipped l.ask.want l.ask.block.first)
    l.ask.want.granules

piece : (l : Local) → Cuts l → Piece l
piece l cuts = has_piece l.ask.want l.ask.block cuts.has cuts.lies

abbrev skipped : Local → ℕ
skipped l = first_skipped l.ask.want l.ask.block.first

-- the rest begins where the piece does, and has the piece and what lies behind it
rest_first : (l : Local) (test : Bool) → Piece l → has_front (cut_call l) ≡ test
    → (behind_front (cut_call l) test).first ≡ (cut_call l).piece.first
rest_first l true has is = rest_begins l.ask.block.first l.ask.block.granules (skipped l) l.ask.want.granules has
rest_first l false has is = whole_begins l.ask.block.first l.ask.block.granules (skipped l) l.ask.want.granules has
    (is_none (front_of (cut_call l)).granules is)

rest_granules : (l : Local) (test : Bool) → Piece l → has_front (cut_call l) ≡ test
    → (behind_front (cut_call l) test).granules ≡ l.ask.want.granules + (back_of (cut_call l)).granules
rest_granules l true has is = rest_has l.ask.block.first l.ask.block.granules (skipped l) l.ask.want.granules has
rest_granules l false has is = whole_has l.ask.block.first l.ask.block.granules (skipped l) l.ask.want.granules has
    (is_none (front_of (cut_call l)).granules is)

abbrev rest : Local → Block
rest l = behind_front (cut_call l) (has_front (cut_call l))

-- with nothing behind the piece, it is the rest
no_back : (l : Local) → Cuts l → has_back (cut_call l) ≡ false → piece_and_back (cut_call l) ≡ using (rest l) ∷ []
no_back l cuts none =
    ap (λ test. using (cut_call l).piece ∷ if_any test (back_of (cut_call l))) none
    ∙ ap (λ first. hand first l.ask.want.granules Taking.ForUse ∷ [])
    (sym (rest_first l (has_front (cut_call l)) (piece l cuts) refl))
    ∙ ap (λ n. hand (rest l).first n Taking.ForUse ∷ [])
    (sym (rest_granules l (has_front (cut_call l)) (piece l cuts) refl
    ∙ plain l.ask.want.granules (back_of (cut_call l)).granules (is_none (back_of (cut_call l)).granules none)))
  where
    plain : (a b : ℕ) → b ≡ 0 → a + b ≡ a
    plain a b is = omega arith

lands-last : (l : Local) (at : At) → Cuts l
    → LandsOn (cut_as l at (at_last (cut_call l))) (piece_and_back (cut_call l))
lands-last l at cuts = by (has_back (cut_call l)) refl
  where
    by : (test : Bool) → has_back (cut_call l) ≡ test
        → LandsOn (cut_as l at (cond test (CutNext.Goes (CutAt.Back BinAt.Lock)) CutNext.Done))
        (using (cut_call l).piece ∷ if_any test (back_of (cut_call l)))
    by true is = record {
      has = refl;
      fits = record { asked = cuts.asked; has = cuts.has; lies = cuts.lies; here = tt };
    }
    by false is = lands-asked l cuts.asked

abbrev fronts : Local → List Hand
fronts l = if_any (has_front (cut_call l)) (front_of (cut_call l))

abbrev rest_hands : Local → List Hand
rest_hands l = fronts l ++ piece_and_back (cut_call l)

lands-rests : (l : Local) (at : At) → Cuts l → LandsOn (cut_as l at (at_rests (cut_call l))) (rest_hands l)
lands-rests l at cuts = by (has_front (cut_call l)) refl
  where
    by : (test : Bool) → has_front (cut_call l) ≡ test
        → LandsOn (cut_as l at (cond test (CutNext.Goes (CutAt.Front BinAt.Lock)) (at_last (cut_call l))))
        (if_any test (front_of (cut_call l)) ++ piece_and_back (cut_call l))
    by true is = record {
      has = refl;
      fits = record { asked = cuts.asked; has = cuts.has; lies = cuts.lies; here = tt };
    }
    by false is = lands-last l at cuts

lands-back : (l : Local) (at : At) → Cuts l → LandsOn (cut_as l at (at_back (cut_call l))) (halves_of (cut_call l))
lands-back l at cuts = by (has_back (cut_call l)) refl
  where
    by : (test : Bool) → has_back (cut_call l) ≡ test
        → LandsOn (cut_as l at (cond test (CutNext.Goes CutAt.BackLeft) (at_rests (cut_call l))))
        (halves_of (cut_call l))
    by true is = record {
      has = refl;
      fits = record { asked = cuts.asked; has = cuts.has; lies = cuts.lies; here = is };
    }
    by false is = lands_as (cut_as l at (at_rests (cut_call l))).0 (rest_hands l) (halves_of (cut_call l))
        (ap (λ hands. if_any (has_front (cut_call l)) (front_of (cut_call l)) ++ hands) (no_back l cuts is))
        (lands-rests l at cuts)

lands-begins : (l : Local) (at : At) → Cuts l
    → LandsOn (cut_as l at (cut_begins (cut_call l))) (using l.ask.block ∷ [])
lands-begins l at cuts = by (has_front (cut_call l)) refl
  where
    by : (test : Bool) → has_front (cut_call l) ≡ test
        → LandsOn (cut_as l at (cond test (CutNext.Goes CutAt.FrontLeft) (at_back (cut_call l))))
        (using l.ask.block ∷ [])
    by true is = record {
      has = refl;
      fits = record { asked = cuts.asked; has = cuts.has; lies = cuts.lies; here = is };
    }
    by false is = lands_as (cut_as l at (at_back (cut_call l))).0 (halves_of (cut_call l)) (using l.ask.block ∷ [])
        (ap (λ test. if_any test (front_of (cut_call l)) ++ (using (behind_front (cut_call l) test) ∷ [])) is)
        (lands-back l at cuts)

pub lands-cutting : (l : Local) (b : Block) → AskFits l → fits l.ask.want b ≡ true → b.first + b.granules < indices
    → LandsOn (cutting l b) (using b ∷ [])
lands-cutting l b asks has lies =
    let l' : Local = record l { ask = record l.ask { block = b } } in
    lands-begins l' l'.at (record { asked = asks; has = has; lies = lies })

-- the block is cut before the piece, and then behind it
front_splits : (l : Local) → Cuts l → has_front (cut_call l) ≡ true
    → HandsLead (cut_changes (cut_call l) CutAt.FrontSize) (using l.ask.block ∷ []) (halves_of (cut_call l))
front_splits l cuts is = (
  using (front_of (cut_call l)) ∷ using (behind_front (cut_call l) true) ∷ [],
  record {
    above = [];
    below = [];
    was = ap (λ n. hand l.ask.block.first n Taking.ForUse ∷ [])
        (front_cut l.ask.block.first l.ask.block.granules (skipped l) l.ask.want.granules (piece l cuts));
    now = refl;
    fair = (
      is_some (front_of (cut_call l)).granules is,
      rest_some l.ask.block.first l.ask.block.granules (skipped l) l.ask.want.granules (piece l cuts)
          (asks_some l cuts.asked),
    );
  },
  ap (λ test. if_any test (front_of (cut_call l)) ++ (using (behind_front (cut_call l) test) ∷ [])) is,
)

back_splits : (l : Local) → Cuts l → has_back (cut_call l) ≡ true
    → HandsLead (cut_changes (cut_call l) CutAt.BackSize) (halves_of (cut_call l)) (rest_hands l)
back_splits l cuts is = (
  fronts l ++ (hand (rest l).first l.ask.want.granules Taking.ForUse
      ∷ hand ((rest l).first + l.ask.want.granules) ((rest l).granules - l.ask.want.granules) Taking.ForUse ∷ []),
  record {
    above = fronts l;
    below = [];
    was = ap (λ n. fronts l ++ (hand (rest l).first n Taking.ForUse ∷ [])) whole;
    now = refl;
    fair = (asks_some l cuts.asked, subst (λ n. 0 < n) (sym behind) (is_some (back_of (cut_call l)).granules is));
  },
  ap (λ hands. fronts l ++ hands) pieces,
)
  where
    has : (rest l).granules ≡ l.ask.want.granules + (back_of (cut_call l)).granules
    has = rest_granules l (has_front (cut_call l)) (piece l cuts) refl

    behind : (rest l).granules - l.ask.want.granules ≡ (back_of (cut_call l)).granules
    behind = ap (λ n. n - l.ask.want.granules) has ∙ more_minus l.ask.want.granules (back_of (cut_call l)).granules

    whole : (rest l).granules ≡ l.ask.want.granules + ((rest l).granules - l.ask.want.granules)
    whole = has ∙ ap (λ n. l.ask.want.granules + n) (sym behind)

    begins : (rest l).first ≡ (cut_call l).piece.first
    begins = rest_first l (has_front (cut_call l)) (piece l cuts) refl

    pieces : piece_and_back (cut_call l) ≡ hand (rest l).first l.ask.want.granules Taking.ForUse
        ∷ hand ((rest l).first + l.ask.want.granules) ((rest l).granules - l.ask.want.granules) Taking.ForUse ∷ []
    pieces = ap (λ test. using (cut_call l).piece ∷ if_any test (back_of (cut_call l))) is
        ∙ ap (λ first. using (cut_call l).piece ∷ hand first (back_of (cut_call l)).granules Taking.ForUse ∷ [])
        (back_begins l.ask.block.first l.ask.block.granules (skipped l) l.ask.want.granules (piece l cuts))
        ∙ ap (λ first. hand first l.ask.want.granules Taking.ForUse
        ∷ hand (first + l.ask.want.granules) (back_of (cut_call l)).granules Taking.ForUse ∷ []) (sym begins)
        ∙ ap (λ n. hand (rest l).first l.ask.want.granules Taking.ForUse
        ∷ hand ((rest l).first + l.ask.want.granules) n Taking.ForUse ∷ []) (sym behind)

front_turn : (l : Local) (at : BinAt) (next : BinNext) → Cuts l
    → HandsLead (bin_changes (using (front_of (cut_call l))) at) (bin_hands (using (front_of (cut_call l))) at)
    (bin_next_hands (using (front_of (cut_call l))) at next)
    → TurnedOn (bin_changes (using (front_of (cut_call l))) at)
    (bin_hands (using (front_of (cut_call l))) at ++ piece_and_back (cut_call l))
    (cut_as l (At.Cut (CutAt.Front at)) (front_goes (cut_call l) next))
front_turn l at (BinNext.Goes to) cuts leads = record {
  fits = record { asked = cuts.asked; has = cuts.has; lies = cuts.lies; here = tt };
  leads = leads_before (piece_and_back (cut_call l)) (bin_changes (using (front_of (cut_call l))) at)
      (bin_hands (using (front_of (cut_call l))) at) (bin_hands (using (front_of (cut_call l))) to) leads;
}
front_turn l at BinNext.Waits cuts leads = record {
  fits = record { asked = cuts.asked; has = cuts.has; lies = cuts.lies; here = tt };
  leads = leads_before (piece_and_back (cut_call l)) (bin_changes (using (front_of (cut_call l))) at)
      (bin_hands (using (front_of (cut_call l))) at) (bin_hands (using (front_of (cut_call l))) at) leads;
}
front_turn l at BinNext.Done cuts leads = turns (bin_changes (using (front_of (cut_call l))) at)
    (bin_hands (using (front_of (cut_call l))) at ++ piece_and_back (cut_call l)) (piece_and_back (cut_call l))
    (cut_as l (At.Cut (CutAt.Front at)) (at_last (cut_call l))).0
    (leads_before (piece_and_back (cut_call l)) (bin_changes (using (front_of (cut_call l))) at)
    (bin_hands (using (front_of (cut_call l))) at) [] leads)
    (lands-last l (At.Cut (CutAt.Front at)) cuts)

back_turn : (l : Local) (at : BinAt) (next : BinNext) → Cuts l
    → HandsLead (bin_changes (using (back_of (cut_call l))) at) (bin_hands (using (back_of (cut_call l))) at)
    (bin_next_hands (using (back_of (cut_call l))) at next)
    → TurnedOn (bin_changes (using (back_of (cut_call l))) at)
    (using (cut_call l).piece ∷ bin_hands (using (back_of (cut_call l))) at)
    (cut_as l (At.Cut (CutAt.Back at)) (back_goes (cut_call l) next))
back_turn l at (BinNext.Goes to) cuts leads = record {
  fits = record { asked = cuts.asked; has = cuts.has; lies = cuts.lies; here = tt };
  leads = leads_behind (using (cut_call l).piece ∷ []) (bin_changes (using (back_of (cut_call l))) at)
      (bin_hands (using (back_of (cut_call l))) at) (bin_hands (using (back_of (cut_call l))) to) leads;
}
back_turn l at BinNext.Waits cuts leads = record {
  fits = record { asked = cuts.asked; has = cuts.has; lies = cuts.lies; here = tt };
  leads = leads_behind (using (cut_call l).piece ∷ []) (bin_changes (using (back_of (cut_call l))) at)
      (bin_hands (using (back_of (cut_call l))) at) (bin_hands (using (back_of (cut_call l))) at) leads;
}
back_turn l at BinNext.Done cuts leads = turns (bin_changes (using (back_of (cut_call l))) at)
    (using (cut_call l).piece ∷ bin_hands (using (back_of (cut_call l))) at) (using (cut_call l).piece ∷ [])
    (asked l).0
    (leads_behind (using (cut_call l).piece ∷ []) (bin_changes (using (back_of (cut_call l))) at)
    (bin_hands (using (back_of (cut_call l))) at) [] leads)
    (lands-asked l cuts.asked)

pub cut_turn : (l : Local) (at : CutAt) (found : ℕ) → CutFits l at
    → TurnedOn (cut_changes (cut_call l) at) (cut_hands (cut_call l) at)
    (cut_as l (At.Cut at) (cut_learn (cut_call l) at found))
cut_turn l CutAt.FrontLeft found fits = record {
  fits = record { asked = fits.asked; has = fits.has; lies = fits.lies; here = fits.here };
  leads = refl;
}
cut_turn l CutAt.FrontSize found fits =
    let cuts : Cuts l = record { asked = fits.asked; has = fits.has; lies = fits.lies } in
    turns (cut_changes (cut_call l) CutAt.FrontSize) (using l.ask.block ∷ []) (halves_of (cut_call l))
    (cut_as l (At.Cut CutAt.FrontSize) (at_back (cut_call l))).0 (front_splits l cuts fits.here)
    (lands-back l (At.Cut CutAt.FrontSize) cuts)
cut_turn l CutAt.BackLeft found fits = record {
  fits = record { asked = fits.asked; has = fits.has; lies = fits.lies; here = fits.here };
  leads = refl;
}
cut_turn l CutAt.BackSize found fits =
    let cuts : Cuts l = record { asked = fits.asked; has = fits.has; lies = fits.lies } in
    turns (cut_changes (cut_call l) CutAt.BackSize) (halves_of (cut_call l)) (rest_hands l)
    (cut_as l (At.Cut CutAt.BackSize) (at_rests (cut_call l))).0 (back_splits l cuts fits.here)
    (lands-rests l (At.Cut CutAt.BackSize) cuts)
cut_turn l (CutAt.Front at) found fits =
    front_turn l at (bin_learn (front_call (cut_call l)) at found)
    (record { asked = fits.asked; has = fits.has; lies = fits.lies })
    (bin_insert (front_call (cut_call l)) (using (front_of (cut_call l))) at found refl)
cut_turn l (CutAt.Back at) found fits =
    back_turn l at (bin_learn (back_call (cut_call l)) at found)
    (record { asked = fits.asked; has = fits.has; lies = fits.lies })
    (bin_insert (back_call (cut_call l)) (using (back_of (cut_call l))) at found refl)
