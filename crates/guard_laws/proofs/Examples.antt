-- The blocks that are named, made step by step, and what the wrong definitions come to.
use Rattle.std.proofs.Common.{◌≡◌, ℕ, refl, sym, subst, arith, ◌∙◌}
use Rattle.word_codes.specs.declared.guards.Guard.{Guard}
use Rattle.word_codes.specs.Guards.{guard_of, guard_word}
use Rattle.word_codes.proofs.CallerLemmas.{guards_read_back}
use Rattle.guards.specs.declared.win.Side.{Side}
use Rattle.guards.specs.declared.win.Taking.{Taking}
use Rattle.guards.specs.declared.win.WinAt.{WinAt}
use Rattle.guards.specs.Win.{taken_word}
use Rattle.word_laws.specs.Memory.{put}
use Rattle.word_laws.proofs.CallerLemmas.{put-other, each, both}
use Rattle.chain_laws.specs.Named.{ten_key}
use Rattle.guard_laws.specs.Blocks.{Use, Standing, Half, Piece, Edges, at_edge, set_edge, edge_of, Task, half_at}
use Rattle.guard_laws.specs.Blocks.{half_of, piece_of, Shadow, View, IsShut, TaskFits, Parts}
use Rattle.guard_laws.specs.Blocks.{GuardGood}
use Rattle.guard_laws.specs.Named.{no_blocks, walled_blocks, one_region, four_blocks, one_in_use, one_to_join}
use Rattle.guard_laws.specs.Named.{one_queued}
use Rattle.guard_laws.specs.Named.{one_in_bin, named_blocks, no_words, walled_words, queued_words, binned_words}
use Rattle.guard_laws.specs.Named.{named_words, first_block, named_tasks, named_guards}
use Rattle.guard_laws.specs.Steps.{with_edge, shadow_split}
use Rattle.guard_laws.specs.Laws.{NamedGuardsStand}
use Rattle.guard_laws.specs.Wrong.{OneGuardIsTooFew, UsedIsNotGivenBack}
use Rattle.guard_laws.proofs.Wins.{first_won}
use Rattle.guard_laws.proofs.Puts.{offered_begin, offered_end}
use Rattle.guard_laws.proofs.Regroup.{edge_written, word_marked, reused}
use Rattle.guard_laws.proofs.Cuts.{cut}
use Rattle.guard_laws.proofs.Regions.{came}
use Rattle.guard_laws.proofs.Words.{taken_reads}
use Rattle.guard_laws.proofs.Tells.{zero_reads, fresh_pools_have_no_blocks}

by_side : (P : Side → Type 0) → P Side.Begin → P Side.End → (e : Side) → P e
by_side P a b Side.Begin = a
by_side P a b Side.End = b

abbrev none : ℕ → Piece
none j = Piece.NoPiece

abbrev seen : Shadow → Edges ℕ → (ℕ → Piece) → View
seen g words pieces = record {
  place = g.place;
  standing = g.standing;
  words = words;
  halves = λ j. Half.NoHalf;
  pieces = pieces;
}

fresh_parts : Parts 10 (seen no_blocks no_words none)
fresh_parts = (fresh_pools_have_no_blocks ten_key (omega arith)).parts

walled_parts : Parts 10 (seen walled_blocks walled_words none)
walled_parts =
    edge_written 10 (seen first (set_edge Side.Begin 9
    (guard_word Guard.Wall) no_words) none) Side.End 1 Standing.Walled
    (guard_word Guard.Wall) (λ _ f. f) (λ _ f. f) (guards_read_back Guard.Wall tt) (λ x n u at q. absurd (cc))
    (edge_written 10 (seen no_blocks no_words none) Side.Begin 9 Standing.Walled (guard_word Guard.Wall) (λ _ f. f)
    (λ _ f. f) (guards_read_back Guard.Wall tt) (λ x n u at q. absurd (cc)) fresh_parts)
  where
    first : Shadow
    first = with_edge Side.Begin 9 Standing.Walled no_blocks

region_parts : Parts 10 (seen one_region walled_words none)
region_parts = came 10 (seen walled_blocks walled_words none) 1 1 8 (omega arith) (omega arith) (λ z low high. refl)
    (by_side (λ e. guard_of (at_edge walled_words e (edge_of e 1 8)) ≡ Guard.Used) zero_reads zero_reads) walled_parts

cut_parts : Parts 10 (seen four_blocks walled_words none)
cut_parts =
    cut 10 (seen (shadow_split 1 3 2 4 (shadow_split 1 1 2 6 one_region)) walled_words none) 1 5 1 3 (omega arith)
    (omega arith) refl refl
    (by_side (λ e. guard_of (at_edge walled_words e 6) ≡ Guard.Used) zero_reads zero_reads)
    (cut 10 (seen (shadow_split 1 1 2 6 one_region) walled_words none) 1 3 2 4 (omega arith) (omega arith) refl refl
    (by_side (λ e. guard_of (at_edge walled_words e 5) ≡ Guard.Used) zero_reads zero_reads)
    (cut 10 (seen one_region walled_words none) 1 1 2 6 (omega arith) (omega arith) refl refl
    (by_side (λ e. guard_of (at_edge walled_words e 3) ≡ Guard.Used) zero_reads zero_reads) region_parts))

zero_is_shut : IsShut (guard_of 0)
zero_is_shut = subst IsShut (sym zero_reads) tt

coalescing_is_shut : IsShut (guard_of (guard_word Guard.Coalescing))
coalescing_is_shut = subst IsShut (sym (guards_read_back Guard.Coalescing tt)) tt

to_join_parts : Parts 10 (seen one_to_join walled_words none)
to_join_parts =
    reused 10 (seen one_in_use walled_words none) 5 1 (Use.Held 1 Taking.ForUse) (Use.Held 1 Taking.ToJoin)
    (λ q. cc) refl
    (λ q. cc) (by_side (λ e. IsShut (guard_of (at_edge walled_words e (edge_of e 5 1)))) zero_is_shut zero_is_shut)
    (reused 10 (seen four_blocks walled_words none) 6 3 (Use.Held 1 Taking.ForUse) Use.Elsewhere (λ q. cc) refl
    (λ q. cc)
    (by_side (λ e. guard_of (at_edge walled_words e (edge_of e 6 3)) ≡ Guard.Used) zero_reads zero_reads) cut_parts)

marked_parts : Parts 10 (seen one_to_join queued_words none)
marked_parts =
    word_marked 10 (seen one_to_join (set_edge Side.Begin 5 (guard_word Guard.Coalescing) walled_words) none) Side.End 6
    (guard_word Guard.Coalescing) coalescing_is_shut
    (word_marked 10 (seen one_to_join walled_words none) Side.Begin 5 (guard_word Guard.Coalescing) coalescing_is_shut
    to_join_parts)

queued_parts : Parts 10 (seen one_queued queued_words none)
queued_parts = reused 10 (seen one_to_join queued_words none) 5 1 (Use.Held 1 Taking.ToJoin) Use.Queued (λ q. cc) refl
    (λ q. cc) (by_side (λ e. guard_of (at_edge queued_words e (edge_of e 5 1)) ≡ Guard.Coalescing)
    (guards_read_back Guard.Coalescing tt) (guards_read_back Guard.Coalescing tt)) marked_parts

two_reads : guard_of (guard_word (Guard.Free 2)) ≡ Guard.Free 2
two_reads = guards_read_back (Guard.Free 2) (omega arith)

abbrev offered_pieces : ℕ → Piece
offered_pieces = put (put none 1 (Piece.Got 1 2)) 1 Piece.NoPiece

bin_parts : Parts 10 (seen one_in_bin binned_words offered_pieces)
bin_parts =
    offered_end 10 (seen (with_edge Side.Begin 1 (Standing.Open 2) one_queued)
    (set_edge Side.Begin 1 (guard_word (Guard.Free 2)) queued_words) (put none 1 (Piece.Got 1 2))) 1 1 2
    (guard_word (Guard.Free 2)) refl two_reads
    (offered_begin 10 (seen one_queued queued_words none) 1 Taking.ForUse 1 2 (guard_word (Guard.Free 2)) refl refl
    two_reads queued_parts)

abbrev named_pieces : ℕ → Piece
named_pieces = put offered_pieces 1 (Piece.Got 3 2)

abbrev first_half : Half
first_half = Half.HalfOf Side.Begin 1 2 Taking.ForUse

named_parts : Parts 10 (record {
  place = named_blocks.place;
  standing = named_blocks.standing;
  words = named_words;
  halves = put (λ j. Half.NoHalf) 0 first_half;
  pieces = named_pieces;
})
named_parts =
    first_won 10 (seen (with_edge Side.Begin 3 (Standing.Open 2) one_in_bin)
    (set_edge Side.Begin 3 (guard_word (Guard.Free 2)) binned_words) named_pieces) 0 Taking.ForUse Side.Begin 1 2
    (taken_word Taking.ForUse) refl two_reads (taken_reads Taking.ForUse)
    (offered_begin 10 (seen one_in_bin binned_words offered_pieces) 1 Taking.ForUse 3 2 (guard_word (Guard.Free 2)) refl
    refl two_reads bin_parts)

halves_are : (at : WinAt) → half_at first_block at ≡ first_half
    → ◌≡◌ {A = ℕ → Half} (λ j. half_of (named_tasks at j)) (put (λ j. Half.NoHalf) 0 first_half)
halves_are at is i j = both (λ _ q h. half_of q ≡ h) (put (λ seat. Task.Away) 1 (Task.Offers 3 2)) (λ j. Half.NoHalf) 0
    (Task.Wins first_block at) first_half
    (λ o _. each (λ _ q. half_of q ≡ Half.NoHalf) (λ seat. Task.Away) 1 (Task.Offers 3 2) (λ _ _. refl) refl o) is j i

pieces_are : (at : WinAt) → ◌≡◌ {A = ℕ → Piece} (λ j. piece_of (named_tasks at j)) named_pieces
pieces_are at i j = each (λ o q. piece_of q ≡ named_pieces o) (put (λ seat. Task.Away) 1 (Task.Offers 3 2)) 0
    (Task.Wins first_block at)
    (λ o _. each (λ o q. piece_of q ≡ named_pieces o) (λ seat. Task.Away) 1 (Task.Offers 3 2)
    (λ o ne. sym (put-other offered_pieces 1 (Piece.Got 3 2) o ne
    ∙ put-other (put none 1 (Piece.Got 1 2)) 1 Piece.NoPiece o ne ∙ put-other none 1 (Piece.Got 1 2) o ne)) refl o)
    refl j i

pub stands_at : (at : WinAt) → half_at first_block at ≡ first_half → GuardGood ten_key named_blocks (named_guards at)
stands_at at is = record {
  small = omega arith;
  parts = subst (λ (f : ℕ → Half). Parts 10 (record {
    place = named_blocks.place;
    standing = named_blocks.standing;
    words = named_words;
    halves = f;
    pieces = λ j. piece_of (named_tasks at j);
  })) (sym (halves_are at is))
      (subst (λ (f : ℕ → Piece). Parts 10 (record {
        place = named_blocks.place;
        standing = named_blocks.standing;
        words = named_words;
        halves = put (λ j. Half.NoHalf) 0 first_half;
        pieces = f;
      })) (sym (pieces_are at)) named_parts);
  calls = each (λ o q. TaskFits q) (put (λ seat. Task.Away) 1 (Task.Offers 3 2)) 0 (Task.Wins first_block at)
      (λ o _. each (λ o q. TaskFits q) (λ seat. Task.Away) 1 (Task.Offers 3 2) (λ _ _. tt) tt o)
      (record { ends = refl; told = omega arith });
}

pub named_guards_stand : NamedGuardsStand
named_guards_stand = stands_at WinAt.Second refl

pub one_guard_is_too_few : OneGuardIsTooFew
one_guard_is_too_few takes =
    let good = takes ten_key 0 named_blocks (named_guards WinAt.Second) first_block refl named_guards_stand in
    let told : guard_of (guard_word (Guard.Free 2)) ≡ Guard.Used = good.parts.words_fit Side.End 3 in
    let q : Guard.Free 2 ≡ Guard.Used = sym two_reads ∙ told in cc

pub used_is_not_given_back : UsedIsNotGivenBack
used_is_not_given_back gives =
    let good = gives ten_key 0 named_blocks (named_guards WinAt.Back) first_block refl (stands_at WinAt.Back refl) in
    let told : guard_of (guard_word Guard.Used) ≡ Guard.Free 2 = good.parts.words_fit Side.Begin 1 in
    let q : Guard.Used ≡ Guard.Free 2 = sym (guards_read_back Guard.Used tt) ∙ told in cc
