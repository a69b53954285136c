-- Slabs by name: in a pool of ten granules seat 0 keeps a slab of which two objects were handed out, one of them came
-- back, and has an empty slab in its cache; a slab is an orphan, and a large block begins at granule 9.
use Rattle.std.specs.Prelude.{Some, None}
use Rattle.pool_words.specs.declared.words.Key.{Key}
use Rattle.pool_words.specs.Words.{kinds, headers}
use Rattle.word_codes.specs.declared.kinds.Kind.{Kind}
use Rattle.word_codes.specs.Kinds.{kind_word}
use Rattle.heap_slabs.specs.declared.records.HeapSlab.{HeapSlab}
use Rattle.heap_slabs.specs.Cached.{empty_cache}
use Rattle.heap_slabs.specs.Records.{begun, unit_of, to_header}
use Rattle.heap_slabs.specs.Rolls.{after_push}
use Rattle.heap_slabs.specs.Slabs.{no_slabs, after_add}
use Rattle.word_laws.specs.Memory.{Mem, put, write, fresh}
use Rattle.slab_laws.specs.Books.{Keeper, Book}
use Rattle.slab_laws.specs.Heaps.{Slabs}

-- a new pool
abbrev pub empty_book : Book
empty_book = record {
  keeper = λ e. Keeper.Nobody;
  classes = λ e. 0;
  handed = λ e. 0;
  counts = λ e. 0;
  heads = λ e. None;
}

abbrev pub fresh_slabs : Key → Slabs
fresh_slabs k = record {
  book = empty_book;
  mem = fresh;
  kept = λ seat. no_slabs k.span;
  cached = λ seat. empty_cache;
}

-- the record of the slab at granule 2, of class 4: objects 0 and 1 were handed out, and 0 came back
abbrev pub second_slab : HeapSlab
second_slab = record {
  slab = 2;
  class = 4;
  handed = 2;
  count = 1;
  head = Some (unit_of 2 4 0);
}

-- that of the orphan at granule 4, of class 7: nothing was handed out
abbrev pub orphan_slab : HeapSlab
orphan_slab = begun 4 7

abbrev pub named_book : Book
named_book = record {
  keeper = put (put (put (λ e. Keeper.Nobody) 2 (Keeper.By 0)) 4 Keeper.Orphan) 6 (Keeper.Cached 0);
  classes = put (put (λ e. 0) 2 4) 4 7;
  handed = put (λ e. 0) 2 2;
  counts = put (λ e. 0) 2 1;
  heads = put (λ e. None) 2 (Some (unit_of 2 4 0));
}

abbrev pub named_mem : Mem
named_mem =
    write (write (write (write (write fresh kinds 2 (kind_word (Kind.Slab 4))) kinds 4 (kind_word (Kind.Slab 7)))
    kinds 6 (kind_word Kind.CachedSlab)) kinds 9 (kind_word (Kind.Large 9 1))) headers 4 (to_header orphan_slab)

abbrev pub named_slabs : Slabs
named_slabs = record {
  book = named_book;
  mem = named_mem;
  kept = put (λ seat. no_slabs 10) 0 (after_add (no_slabs 10) second_slab);
  cached = put (λ seat. empty_cache) 0 (after_push empty_cache 6);
}
