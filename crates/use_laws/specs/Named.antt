-- A new pool, and a pool by name, of ten granules, to which steps of seat 0 lead from a new one. Its one region was
-- cut: the block at 0 is a slab, of which one object is held; that at 2 is an empty slab in the seat's cache; a large
-- object has that at 4; that at 6 lies in the cache of large blocks; that at 7 is in the seat's hand, and that at 8 in
-- a bin.
use Rattle.std.specs.Prelude.{ℕ}
use Rattle.pool_words.specs.declared.words.Key.{Key}
use Rattle.pool_words.specs.declared.words.Word.{Word}
use Rattle.pool_words.specs.declared.actions.Action.TheVariants.{Store}
use Rattle.word_codes.specs.declared.guards.Guard.{Guard}
use Rattle.word_codes.specs.declared.kinds.Kind.{Kind}
use Rattle.word_codes.specs.Guards.{guard_word}
use Rattle.guards.specs.declared.win.Side.{Side}
use Rattle.guards.specs.declared.win.Taking.{Taking}
use Rattle.heap_slabs.specs.Cached.{empty_cache}
use Rattle.heap_slabs.specs.Slabs.{no_slabs}
use Rattle.word_laws.specs.Memory.{put, after, fresh}
use Rattle.chain_laws.specs.Named.{ten_key}
use Rattle.guard_laws.specs.Blocks.{Use, Standing, Task}
use Rattle.guard_laws.specs.Steps.{with_use, with_edge, with_edges, shadow_split}
use Rattle.guard_laws.specs.Named.{no_blocks}
use Rattle.object_laws.specs.Objects.{Held}
use Rattle.object_laws.specs.Objects.Task.{Resting}
use Rattle.object_laws.specs.Named.{no_objects, fresh_locals}
use Rattle.object_laws.specs.Rows.{with_task, next_grant, grant_word, granted, shadow_granted}
use Rattle.use_laws.specs.Uses.{Purpose}
use Rattle.use_laws.specs.Pools.{Pool}
use Rattle.use_laws.specs.After.{pool_begun, pool_rested, pool_readied, pool_cached, pool_shelved}

abbrev pub fresh_pool : Key → Pool
fresh_pool k = record {
  mem = fresh;
  blocks = no_blocks;
  purpose = λ x. Purpose.Spare;
  tasks = λ seat. Task.Away;
  locals = fresh_locals;
  objects = no_objects;
  kept = λ seat. no_slabs k.span;
  cached = λ seat. empty_cache;
}

abbrev pub one_region : Pool
one_region = record (fresh_pool ten_key) {
  blocks = with_use 0 10 (Use.Held 0 Taking.ForUse) (with_edges 0 10 Standing.Resting no_blocks);
}

-- a block in seat 0's hand is cut
abbrev pub cut_at : ℕ → ℕ → ℕ → Pool → Pool
cut_at first a b p = record p { blocks = shadow_split 0 first a b p.blocks }

abbrev pub six_blocks : Pool
six_blocks = cut_at 7 1 2 (cut_at 6 1 3 (cut_at 4 2 4 (cut_at 2 2 6 (cut_at 0 2 8 one_region))))

-- the last block is offered at its begin, and then at its end
abbrev pub one_offered : Pool
one_offered = record six_blocks {
  mem = after ten_key fresh (Store (Word.Size 8) (guard_word (Guard.Free 2)));
  blocks = with_edge Side.Begin 8 (Standing.Open 2) six_blocks.blocks;
  tasks = put six_blocks.tasks 0 (Task.Offers 8 2);
}

abbrev pub one_in_bin : Pool
one_in_bin = record one_offered {
  mem = after ten_key one_offered.mem (Store (Word.Left 10) (guard_word (Guard.Free 2)));
  blocks = with_use 8 2 Use.Bin (with_edge Side.End 10 (Standing.Open 2) one_offered.blocks);
  tasks = put one_offered.tasks 0 Task.Away;
}

abbrev pub one_slab : Pool
one_slab = pool_begun ten_key 0 0 4 one_in_bin

-- where the slab's first object begins
abbrev pub first_unit : ℕ
first_unit = 2040

abbrev pub one_resting : Pool
one_resting = record one_slab { locals = with_task 0 (Resting 0 first_unit) one_slab.locals }

abbrev pub one_object : Pool
one_object = pool_rested ten_key 0 0 first_unit one_resting

-- a large object begins behind sixteen units of its block
abbrev pub large_unit : ℕ
large_unit = 4112

abbrev pub one_ready : Pool
one_ready = pool_readied ten_key 0 4 2 large_unit one_object

abbrev pub two_objects : Pool
two_objects = record one_ready {
  mem = after ten_key one_ready.mem (Store (Word.Mark large_unit) (grant_word one_ready.locals 0));
  objects = shadow_granted (Held.Large (next_grant one_ready.locals 0) 4 2) large_unit one_ready.objects;
  locals = granted 0 large_unit (Kind.Large 4 2) one_ready.locals.book one_ready.locals;
}

abbrev pub one_cached : Pool
one_cached = pool_cached ten_key 0 2 two_objects

abbrev pub named_pool : Pool
named_pool = pool_shelved 6 1 one_cached
