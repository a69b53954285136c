-- Where a piece lies in the block that it is cut from, and what lies before and behind it.
use Rattle.std.proofs.Common.{◌≡◌, ◌+◌, ◌-◌, ◌<◌, ◌≤◌, ◌^◌, ℕ, Bool, true, false, refl, arith}
use Rattle.std.proofs.lemmas.Bool.{leb-true, ltb-false, ltb-true}
use Rattle.word_laws.proofs.CallerLemmas.{less_or}
use Rattle.pool_types.specs.Sums.{capped}
use Rattle.backend_bins.specs.declared.blocks.Block.{Block}
use Rattle.backend_bins.specs.declared.blocks.Want.{Want}
use Rattle.backend_bins.specs.declared.cut.CutCall.{CutCall}
use Rattle.backend_bins.specs.Blocks.{block_end, first_skipped}
use Rattle.backend_bins.specs.Cut.{back_of, front_of}
use Rattle.step_local.specs.declared.frames.Local.{Local}
use Rattle.step_local.specs.declared.frames.Served.{Served}
use Rattle.step_local.specs.declared.frames.Stage.{Stage}
use Rattle.step_local.specs.Backend.{cut_call}
use Rattle.hand_blocks.specs.Fits.{AsksFit, CutFits, IsAskedFor}
use Rattle.hand_blocks.specs.Hands.{behind_front, has_back, has_front}
use Rattle.backend_bins.specs.declared.cut.CutAt.{CutAt}

-- the piece, of some granules, lies in the block
pub record PieceLies (c : CutCall) : Type 0 where
  pub some : 0 < c.piece.granules
  pub from : c.block.first ≤ c.piece.first
  pub to : c.piece.first + c.piece.granules ≤ c.block.first + c.block.granules
  pub small : c.block.first + c.block.granules < 2 ^ 32

lies_from : (f n s p : ℕ) → capped (s + p) ≤ n → f + n < 2 ^ 32 → f ≤ capped (f + s)
lies_from f n s p low small = omega arith

lies_to : (f n s p : ℕ) → capped (s + p) ≤ n → f + n < 2 ^ 32 → capped (f + s) + p ≤ f + n
lies_to f n s p low small = omega arith

some_asked : (served : Served) (w : Want) → IsAskedFor served w → 0 < w.granules
some_asked (Served.Small class) w asks = omega arith
some_asked (Served.Large granules alignment) w asks = asks

asks_some : (stage : Stage) (served : Served) (w : Want) → AsksFit stage served w → 0 < w.granules
asks_some Stage.Getting served w asks = some_asked served w asks
asks_some _ served w asks = absurd asks

pub piece_lies : (l : Local) (at : CutAt) → CutFits l at → PieceLies (cut_call l)
piece_lies l at fit =
    let skip : ℕ = first_skipped l.ask.want l.ask.block.first in
    let low : capped (skip + l.ask.want.granules) ≤ l.ask.block.granules = leb-true _ _ fit.has in
    record {
      some = asks_some l.call.stage l.call.served l.ask.want fit.asked;
      from = lies_from l.ask.block.first l.ask.block.granules skip l.ask.want.granules low fit.lies;
      to = lies_to l.ask.block.first l.ask.block.granules skip l.ask.want.granules low fit.lies;
      small = fit.lies;
    }

-- where the piece ends
end_numbers : (f n x p : ℕ) → x + p ≤ f + n → f + n < 2 ^ 32 → capped (x + p) ≡ x + p
end_numbers f n x p to small = omega arith

pub piece_ends : (c : CutCall) → PieceLies c → block_end c.piece ≡ c.piece.first + c.piece.granules
piece_ends c lies =
    end_numbers c.block.first c.block.granules c.piece.first c.piece.granules lies.to lies.small

-- with something before the piece, the block is cut there
pub record FrontLies (c : CutCall) : Type 0 where
  pub low : c.block.first < c.piece.first
  pub high : c.piece.first < c.block.first + c.block.granules
  pub at : c.block.first + (front_of c).granules ≡ c.piece.first
  pub sum : (front_of c).granules + (c.block.granules - (front_of c).granules) ≡ c.block.granules
  pub some : 0 < (front_of c).granules
  pub more : 0 < c.block.granules - (front_of c).granules

front_numbers : (f n x p : ℕ) → 0 < p → f ≤ x → x + p ≤ f + n → 0 < x - f
    → (f < x) × (x < f + n) × (f + (x - f) ≡ x) × ((x - f) + (n - (x - f)) ≡ n) × (0 < n - (x - f))
front_numbers f n x p some from to has = (omega arith, omega arith, omega arith, omega arith, omega arith)

pub front_lies : (c : CutCall) → PieceLies c → has_front c ≡ true → FrontLies c
front_lies c lies is =
    let has : 0 < (front_of c).granules = ltb-true 0 (front_of c).granules is in
    let all = front_numbers c.block.first c.block.granules c.piece.first c.piece.granules lies.some lies.from lies.to
    has in
    record { low = all.0; high = all.1; at = all.2; sum = all.3; some = has; more = all.4 }

-- the rest begins where the piece does, and ends where the block does
pub record RestLies (c : CutCall) (rest : Block) : Type 0 where
  pub begins : rest.first ≡ c.piece.first
  pub ends : rest.first + rest.granules ≡ c.block.first + c.block.granules

cut_numbers : (f n x p : ℕ) → f ≤ x → x + p ≤ f + n
    → (f + (x - f) ≡ x) × ((f + (x - f)) + (n - (x - f)) ≡ f + n)
cut_numbers f n x p from to = (omega arith, omega arith)

whole_numbers : (f x : ℕ) → f ≤ x → (0 < x - f → ⊥) → f ≡ x
whole_numbers f x from none = less_or 0 (x - f) (λ some. absurd (none some)) (λ least. omega arith)

rest_by : (c : CutCall) (test : Bool) → PieceLies c → has_front c ≡ test → RestLies c (behind_front c test)
rest_by c true lies is =
    let all = cut_numbers c.block.first c.block.granules c.piece.first c.piece.granules lies.from lies.to in
    record { begins = all.0; ends = all.1 }
rest_by c false lies is = record {
  begins = whole_numbers c.block.first c.piece.first lies.from (λ some.
      let low = ltb-false 0 (front_of c).granules is in omega arith);
  ends = refl;
}

pub rest_lies : (c : CutCall) → PieceLies c → RestLies c (behind_front c (has_front c))
rest_lies c lies = rest_by c (has_front c) lies refl

-- with something behind the piece, the rest is cut there
pub record BackLies (c : CutCall) (rest : Block) : Type 0 where
  pub low : rest.first < block_end c.piece
  pub high : block_end c.piece < rest.first + rest.granules
  pub at : rest.first + c.piece.granules ≡ block_end c.piece
  pub sum : c.piece.granules + (rest.granules - c.piece.granules) ≡ rest.granules
  pub more : 0 < rest.granules - c.piece.granules

back_numbers : (f n x p r m e : ℕ) → 0 < p → x + p ≤ f + n → f + n < 2 ^ 32 → r ≡ x → r + m ≡ f + n → e ≡ x + p
    → 0 < capped (f + n) - e
    → (r < e) × (e < r + m) × (r + p ≡ e) × (p + (m - p) ≡ m) × (0 < m - p)
back_numbers f n x p r m e some to small begins ends is has =
    (omega arith, omega arith, omega arith, omega arith, omega arith)

pub back_lies : (c : CutCall) (rest : Block) → PieceLies c → RestLies c rest → has_back c ≡ true → BackLies c rest
back_lies c rest lies lie is =
    let has : 0 < (back_of c).granules = ltb-true 0 (back_of c).granules is in
    let all = back_numbers c.block.first c.block.granules c.piece.first c.piece.granules rest.first rest.granules
    (block_end c.piece) lies.some lies.to lies.small lie.begins lie.ends (piece_ends c lies) has in
    record { low = all.0; high = all.1; at = all.2; sum = all.3; more = all.4 }
