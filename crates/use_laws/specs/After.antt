-- What each step makes of the pool.
use Rattle.std.specs.Prelude.{ℕ, Option, None, List}
use Rattle.pool_words.specs.declared.words.Key.{Key}
use Rattle.pool_words.specs.declared.words.Word.{Word}
use Rattle.pool_words.specs.declared.actions.Action.TheVariants.{Store, Swap}
use Rattle.pool_words.specs.Words.{headers}
use Rattle.word_codes.specs.declared.publics.Public.{Public}
use Rattle.word_codes.specs.declared.kinds.Kind.{Kind}
use Rattle.word_codes.specs.Kinds.{kind_word}
use Rattle.word_codes.specs.Places.{granule_of}
use Rattle.word_codes.specs.Publics.{public_word}
use Rattle.guards.specs.declared.win.Taking.{Taking}
use Rattle.heap_slabs.specs.Records.{begun, to_header, of_header}
use Rattle.heap_slabs.specs.Rolls.{after_push, without_newest, without_oldest}
use Rattle.heap_slabs.specs.Slabs.{after_add, after_remove, after_take_of, after_free_of, after_join_of}
use Rattle.public_list.specs.declared.ending.EndCall.{EndCall}
use Rattle.public_list.specs.declared.ending.EndAt.{EndAt}
use Rattle.public_list.specs.declared.ending.EndNext.{EndNext}
use Rattle.public_list.specs.declared.joining.JoinAt.{JoinAt}
use Rattle.public_list.specs.declared.joining.JoinNext.{JoinNext}
use Rattle.public_list.specs.Ending.{end_course}
use Rattle.public_list.specs.Joining.{join_course}
use Rattle.word_laws.specs.Memory.{Mem, put, after}
use Rattle.guard_laws.specs.Blocks as guards
use Rattle.guard_laws.specs.Blocks.{Use, Standing, rest_of}
use Rattle.guard_laws.specs.Steps.{with_use, with_edges}
use Rattle.slab_laws.specs.Books.{Keeper, record_of, with_private_taken, with_rest_taken, with_begun, with_ended}
use Rattle.slab_laws.specs.Books.{with_keeper, with_chain_taken}
use Rattle.slab_laws.specs.Heaps.{slab_of}
use Rattle.object_laws.specs.Objects.{Held}
use Rattle.object_laws.specs.Objects.Task.{Blocking}
use Rattle.object_laws.specs.Rows.{with_task, shadow_ended, ended, shadow_joined, joined_as, next_grant, grant_word}
use Rattle.object_laws.specs.Rows.{granted, shadow_granted, shadow_private, shadow_emptied, with_book}
use Rattle.object_laws.specs.Steps.{join_of}
use Rattle.use_laws.specs.Uses.{Purpose}
use Rattle.use_laws.specs.Pools.{Pool}

-- other words
abbrev pub with_mem : Mem → Pool → Pool
with_mem m p = record p { mem = m }

-- a block in hand is at rest, and one at rest is in a seat's hand
abbrev pub at_rest : ℕ → ℕ → guards.Shadow → guards.Shadow
at_rest x n g = with_use x n Use.Elsewhere (with_edges x n Standing.Resting g)

abbrev pub in_hand : ℕ → Taking → ℕ → ℕ → guards.Shadow → guards.Shadow
in_hand seat taking x n g = with_use x n (Use.Held seat taking) (with_edges x n (rest_of taking) g)

-- a grant is ended of an object in a slab that the seat keeps; or of a large object, whose block is in hand then
abbrev pub pool_freed : Key → ℕ → EndCall → Kind → EndAt → Pool → Pool
pool_freed k seat call kind at p = record p {
  mem = after k p.mem (end_course call at);
  objects = shadow_ended seat call EndNext.Own p.objects;
  locals = ended seat call kind EndNext.Own p.locals;
  kept = put p.kept seat (after_free_of (p.kept seat) (slab_of call.unit) call.unit);
}

abbrev pub pool_block_freed : Key → ℕ → EndCall → ℕ → ℕ → EndAt → Taking → Pool → Pool
pool_block_freed k seat call x n at taking p = record p {
  mem = after k p.mem (end_course call at);
  blocks = in_hand seat taking x n p.blocks;
  purpose = put p.purpose x Purpose.Spare;
  objects = shadow_ended seat call EndNext.Large p.objects;
  locals = ended seat call (Kind.Large x n) EndNext.Large p.locals;
}

-- an object is granted, of a slab's private list or of its rest; and what was given back is joined
abbrev pub pool_taken : Key → ℕ → ℕ → ℕ → Option ℕ → Pool → Pool
pool_taken k seat e head below p = record p {
  mem = after k p.mem (Store (Word.Mark head) (grant_word p.locals seat));
  objects = shadow_private (Held.Object (next_grant p.locals seat)) e head p.objects;
  locals = granted seat head (Kind.Slab (p.locals.book.classes e)) (with_private_taken e below p.locals.book) p.locals;
  kept = put p.kept seat (after_take_of (p.kept seat) e below);
}

abbrev pub pool_rested : Key → ℕ → ℕ → ℕ → Pool → Pool
pool_rested k seat e unit p = record p {
  mem = after k p.mem (Store (Word.Mark unit) (grant_word p.locals seat));
  objects = shadow_granted (Held.Object (next_grant p.locals seat)) unit p.objects;
  locals = granted seat unit (Kind.Slab (p.locals.book.classes e)) (with_rest_taken e p.locals.book) p.locals;
  kept = put p.kept seat (after_take_of (p.kept seat) e None);
}

abbrev pub pool_joined : Key → ℕ → ℕ → ℕ → ℕ → ℕ → Pool → Pool
pool_joined k seat e first last count p = record p {
  mem = after k p.mem (join_course (join_of p.locals e) (JoinAt.Tie first last count));
  objects = shadow_joined e (JoinAt.Tie first last count) p.objects;
  locals = joined_as seat e (JoinNext.Joined first count) p.locals;
  kept = put p.kept seat (after_join_of (p.kept seat) e first count);
}

-- a block in hand is ready for a large object
abbrev pub pool_readied : Key → ℕ → ℕ → ℕ → ℕ → Pool → Pool
pool_readied k seat x n unit p = record p {
  mem = after k p.mem (Store (Word.Kind (granule_of unit)) (kind_word (Kind.Large x n)));
  blocks = at_rest x n p.blocks;
  purpose = put p.purpose x (Purpose.Object unit);
  objects = shadow_granted (Held.Ready seat x n) unit p.objects;
  locals = with_task seat (Blocking unit x n) p.locals;
}

-- a block in hand is a slab, and a slab is a block in hand
abbrev pub pool_begun : Key → ℕ → ℕ → ℕ → Pool → Pool
pool_begun k seat e class p = record p {
  mem = after k p.mem (Store (Word.Kind e) (kind_word (Kind.Slab class)));
  blocks = at_rest e 2 p.blocks;
  purpose = put p.purpose e Purpose.Slab;
  locals = with_book (with_begun seat e class p.locals.book) p.locals;
  kept = put p.kept seat (after_add (p.kept seat) (begun e class));
}

abbrev pub pool_ended : Key → ℕ → ℕ → Taking → Pool → Pool
pool_ended k seat e taking p = record p {
  mem = after k p.mem (Store (Word.Kind e) (kind_word Kind.Nothing));
  blocks = in_hand seat taking e 2 p.blocks;
  purpose = put p.purpose e Purpose.Spare;
  objects = shadow_emptied e p.objects;
  locals = with_book (with_ended e p.locals.book) p.locals;
  kept = put p.kept seat (after_remove (p.kept seat) e);
}

-- a block in hand is an empty slab in the seat's cache, and one of them is a block in hand
abbrev pub pool_cached : Key → ℕ → ℕ → Pool → Pool
pool_cached k seat e p = record p {
  mem = after k p.mem (Store (Word.Kind e) (kind_word Kind.CachedSlab));
  blocks = at_rest e 2 p.blocks;
  purpose = put p.purpose e Purpose.Slab;
  locals = with_book (with_keeper e (Keeper.Cached seat) p.locals.book) p.locals;
  cached = put p.cached seat (after_push (p.cached seat) e);
}

abbrev pub pool_newest_out : Key → ℕ → ℕ → Taking → Pool → Pool
pool_newest_out k seat e taking p = record p {
  mem = after k p.mem (Store (Word.Kind e) (kind_word Kind.Nothing));
  blocks = in_hand seat taking e 2 p.blocks;
  purpose = put p.purpose e Purpose.Spare;
  locals = with_book (with_keeper e Keeper.Nobody p.locals.book) p.locals;
  cached = put p.cached seat (without_newest (p.cached seat));
}

abbrev pub pool_oldest_out : Key → ℕ → ℕ → Taking → Pool → Pool
pool_oldest_out k seat e taking p = record p {
  mem = after k p.mem (Store (Word.Kind e) (kind_word Kind.Nothing));
  blocks = in_hand seat taking e 2 p.blocks;
  purpose = put p.purpose e Purpose.Spare;
  locals = with_book (with_keeper e Keeper.Nobody p.locals.book) p.locals;
  cached = put p.cached seat (without_oldest (p.cached seat));
}

-- the public word of a block in hand says that nothing was given back, and a slab's header its record
abbrev pub pool_cleared : Key → ℕ → Pool → Pool
pool_cleared k e p = record p { mem = after k p.mem (Swap (Word.Public e) (public_word Public.Null)) }

abbrev pub pool_header_stored : Key → ℕ → Pool → Pool
pool_header_stored k e p = record p {
  mem = after k p.mem (Store (Word.Header e) (to_header (record_of p.locals.book e)));
}

-- a slab is left; a chain of orphans is taken; one is pushed back, or adopted
abbrev pub pool_left : ℕ → ℕ → Pool → Pool
pool_left seat e p = record p {
  locals = with_book (with_keeper e Keeper.Orphan p.locals.book) p.locals;
  kept = put p.kept seat (after_remove (p.kept seat) e);
}

abbrev pub pool_come : ℕ → List ℕ → Pool → Pool
pool_come seat chain p = record p { locals = with_book (with_chain_taken seat chain p.locals.book) p.locals }

abbrev pub pool_gone_back : ℕ → Pool → Pool
pool_gone_back e p = record p { locals = with_book (with_keeper e Keeper.Orphan p.locals.book) p.locals }

abbrev pub pool_adopted : ℕ → ℕ → Pool → Pool
pool_adopted seat e p = record p {
  locals = with_book (with_keeper e (Keeper.By seat) p.locals.book) p.locals;
  kept = put p.kept seat (after_add (p.kept seat) (of_header e (p.locals.book.classes e) (p.mem headers e)));
}

-- a block in hand is in the cache of large blocks, and one there is in a hand
abbrev pub pool_shelved : ℕ → ℕ → Pool → Pool
pool_shelved x n p = record p { blocks = at_rest x n p.blocks; purpose = put p.purpose x Purpose.Shelved }

abbrev pub pool_unshelved : ℕ → ℕ → ℕ → Taking → Pool → Pool
pool_unshelved seat x n taking p = record p {
  blocks = in_hand seat taking x n p.blocks;
  purpose = put p.purpose x Purpose.Spare;
}
