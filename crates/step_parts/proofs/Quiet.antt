-- Steps that move nothing.
use Rattle.std.proofs.Common.{◌≡◌, ℕ, Bool, true, false, List, refl, sym, ap, ◌∙◌}
use Rattle.std.specs.Prelude.{cond}
use Rattle.pool_types.specs.declared.policy.RegionRec.{RegionRec}
use Rattle.pool_words.specs.declared.words.Key.{Key}
use Rattle.pool_words.specs.declared.actions.Seen.{Seen}
use Rattle.step_local.specs.Course.{course}
use Rattle.step_local.specs.Rows.{is_made}
use Rattle.step_local.specs.declared.frames.Local.{Local}
use Rattle.word_parts.specs.declared.shifts.Moved.{Moved}
use Rattle.step_parts.specs.Moves.{no_moves, moving_of, moves_of}
use Rattle.step_parts.specs.Positions.{moved_at}

either_nothing : (made : Bool) → cond made Moved.Nothing Moved.Nothing ≡ Moved.Nothing
either_nothing true = refl
either_nothing false = refl

-- a step of a position that moves nothing moves nothing, made or not
pub nothing_moves : (k : Key) (words : List ℕ) (regions : List RegionRec) (l : Local) (f : ℕ) →
    moved_at l f l.at ≡ Moved.Nothing → no_moves ≡ moves_of k words regions l f
unfolding moves_of
nothing_moves k words regions l f none =
    ap (moving_of k words regions l.seat) (sym (ap (λ m. cond (is_made (course l) (Seen.Word f)) m Moved.Nothing) none
    ∙ either_nothing (is_made (course l) (Seen.Word f))))
