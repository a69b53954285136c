-- A new pool's blocks, and blocks by name in a pool of ten granules, of which a region has granules 1 to 8. Seat 1 has
-- cut the region. The block at 1 is in a bin, and seat 0 has won its first guard; seat 1 offers the block at 3, so far
-- at its begin; the block at 5 is queued; and that at 6 is in use.
use Rattle.std.specs.Prelude.{ℕ}
use Rattle.word_codes.specs.declared.guards.Guard.{Guard}
use Rattle.word_codes.specs.Guards.{guard_word}
use Rattle.guards.specs.declared.win.Side.{Side}
use Rattle.guards.specs.declared.win.Taking.{Taking}
use Rattle.guards.specs.declared.win.WinAt.{WinAt}
use Rattle.guards.specs.declared.win.WinCall.{WinCall}
use Rattle.guards.specs.Win.{taken_word}
use Rattle.word_laws.specs.Memory.{put, fresh}
use Rattle.guard_laws.specs.Blocks.{Use, Place, Standing, Edges, set_edge, Task, Shadow, Core, core_in}
use Rattle.guard_laws.specs.Steps.{with_use, with_edge, with_edges, shadow_split}

abbrev pub no_blocks : Shadow
no_blocks = record {
  place = λ y. Place.Outside;
  standing = record { begins = λ y. Standing.Inner; ends = λ y. Standing.Inner };
}

abbrev pub walled_blocks : Shadow
walled_blocks = with_edge Side.End 1 Standing.Walled (with_edge Side.Begin 9 Standing.Walled no_blocks)

abbrev pub one_region : Shadow
one_region = with_use 1 8 (Use.Held 1 Taking.ForUse) (with_edges 1 8 Standing.Resting walled_blocks)

abbrev pub four_blocks : Shadow
four_blocks = shadow_split 1 5 1 3 (shadow_split 1 3 2 4 (shadow_split 1 1 2 6 one_region))

abbrev pub one_in_use : Shadow
one_in_use = with_use 6 3 Use.Elsewhere (with_edges 6 3 Standing.Resting four_blocks)

abbrev pub one_to_join : Shadow
one_to_join = with_use 5 1 (Use.Held 1 Taking.ToJoin) (with_edges 5 1 Standing.Joining one_in_use)

abbrev pub one_queued : Shadow
one_queued = with_use 5 1 Use.Queued (with_edges 5 1 Standing.Waiting one_to_join)

abbrev pub one_in_bin : Shadow
one_in_bin = with_use 1 2 Use.Bin
    (with_edge Side.End 3 (Standing.Open 2) (with_edge Side.Begin 1 (Standing.Open 2) one_queued))

abbrev pub named_blocks : Shadow
named_blocks = with_edge Side.Begin 1 (Standing.Won 2 0 Taking.ForUse)
    (with_edge Side.Begin 3 (Standing.Open 2) one_in_bin)

abbrev pub no_words : Edges ℕ
no_words = (core_in fresh (λ seat. Task.Away)).words

abbrev pub walled_words : Edges ℕ
walled_words = set_edge Side.End 1 (guard_word Guard.Wall) (set_edge Side.Begin 9 (guard_word Guard.Wall) no_words)

abbrev pub queued_words : Edges ℕ
queued_words =
    set_edge Side.End 6 (guard_word Guard.Coalescing) (set_edge Side.Begin 5 (guard_word Guard.Coalescing) walled_words)

abbrev pub binned_words : Edges ℕ
binned_words =
    set_edge Side.End 3 (guard_word (Guard.Free 2)) (set_edge Side.Begin 1 (guard_word (Guard.Free 2)) queued_words)

abbrev pub named_words : Edges ℕ
named_words = set_edge Side.Begin 1 (taken_word Taking.ForUse)
    (set_edge Side.Begin 3 (guard_word (Guard.Free 2)) binned_words)

abbrev pub first_block : WinCall
first_block = record { begin = 1; end = 3; granules = 2; first = Side.Begin; taking = Taking.ForUse }

abbrev pub named_tasks : WinAt → ℕ → Task
named_tasks at = put (put (λ seat. Task.Away) 1 (Task.Offers 3 2)) 0 (Task.Wins first_block at)

abbrev pub named_guards : WinAt → Core
named_guards at = record { words = named_words; tasks = named_tasks at }
