-- The piece of a block that fits, and the block's rests.
use Rattle.std.specs.Prelude.{◌≡◌, ℕ, ◌+◌, ◌%◌, ◌^◌, ◌<◌, true}
use Rattle.backend_bins.specs.declared.blocks.Block.{Block}
use Rattle.backend_bins.specs.declared.blocks.Want.{Want}
use Rattle.backend_bins.specs.declared.cut.CutCall.{CutCall}
use Rattle.backend_bins.specs.Blocks.{block_end, fits, piece_of}
use Rattle.backend_bins.specs.Cut.{front_of, back_of}

abbrev pub cut_of : ℕ → Want → Block → CutCall
cut_of seat w b = record { seat = seat; block = b; piece = piece_of w b }

-- one after another, the front rest, the piece and the back rest are the block
pub record IsCut (c : CutCall) : Type 0 where
  pub begins : (front_of c).first ≡ c.block.first
  pub piece : block_end (front_of c) ≡ c.piece.first
  pub back : block_end c.piece ≡ (back_of c).first
  pub ends : block_end (back_of c) ≡ block_end c.block
  pub whole : (front_of c).granules + c.piece.granules + (back_of c).granules ≡ c.block.granules

pub record IsPiece (seat : ℕ) (w : Want) (b : Block) : Type 0 where
  pub cut : IsCut (cut_of seat w b)
  pub even : w.slab ≡ true → (piece_of w b).first % 2 ≡ 0

-- so it is with each block that fits; its granules are far from where numbers saturate
abbrev pub PiecesAreCut : Type 0
PiecesAreCut = (seat : ℕ) (w : Want) (b : Block) → b.first + b.granules < 2 ^ 32 → fits w b ≡ true → IsPiece seat w b
