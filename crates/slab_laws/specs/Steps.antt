-- The steps after which a heap keeps other slabs or other records, and those on the words of kinds and headers.
use Rattle.std.specs.Prelude.{◌≡◌, ◌≢◌, ℕ, ◌<◌, Option, Some, None, List, length, ⊤}
use Rattle.pool_types.specs.Geometry.{class_count}
use Rattle.pool_words.specs.declared.words.Key.{Key}
use Rattle.pool_words.specs.declared.words.Word.{Word}
use Rattle.pool_words.specs.declared.actions.Action.{Action}
use Rattle.pool_words.specs.declared.actions.Action.TheVariants.{Load, Store, Swap, Exchange, Add}
use Rattle.pool_words.specs.declared.actions.Action.TheVariants.{TakeOffice, GiveOffice, Nothing}
use Rattle.pool_words.specs.Words.{kind_of_word, number, kinds, headers}
use Rattle.size_classes.specs.Classes.{class_objects}
use Rattle.word_codes.specs.declared.kinds.Kind.{Kind}
use Rattle.word_codes.specs.Kinds.{kind_word, FitsKind}
use Rattle.heap_slabs.specs.Records.{begun, after_take, after_free, after_join, to_header, of_header}
use Rattle.heap_slabs.specs.Rolls.{after_push, newest_of, oldest_of, without_newest, without_oldest}
use Rattle.heap_slabs.specs.Slabs.{after_add, after_remove, after_take_of, after_free_of, after_join_of}
use Rattle.word_laws.specs.Memory.{put, after}
use Rattle.chain_laws.specs.Chains.{tally}
use Rattle.slab_laws.specs.Books.{Keeper, record_of, with_private_taken, with_rest_taken, with_freed}
use Rattle.slab_laws.specs.Books.{with_joined, with_begun, with_ended, with_keeper, with_chain_taken}
use Rattle.slab_laws.specs.OneSlab.{IsRecord}
use Rattle.slab_laws.specs.Heaps.{Slabs, IsPlace}

-- a word that is no granule's kind and no slab's header
pub record IsOtherWord (w : Word) : Type 0 where
  pub no_kind : number (kind_of_word w) ≢ number kinds
  pub no_header : number (kind_of_word w) ≢ number headers

abbrev pub IsOtherAction : Action → Type 0
IsOtherAction (Load w) = ⊤
IsOtherAction (Store w value) = IsOtherWord w
IsOtherAction (Swap w value) = IsOtherWord w
IsOtherAction (Exchange w from to) = IsOtherWord w
IsOtherAction (Add w value) = IsOtherWord w
IsOtherAction (TakeOffice job) = ⊤
IsOtherAction GiveOffice = ⊤
IsOtherAction Nothing = ⊤

-- the steps: what each rests on, and what it leaves
pub data SlabStep (k : Key) (s : Slabs) : Slabs → Type 0 where
  -- M3, M2: an object is granted, of the slab's private list or of its rest
  takes_private : (seat e u : ℕ) (below : Option ℕ) → s.book.keeper e ≡ Keeper.By seat → s.book.heads e ≡ Some u
      → IsRecord (after_take (record_of s.book e) below)
      → SlabStep k s (record s {
        book = with_private_taken e below s.book;
        kept = put s.kept seat (after_take_of (s.kept seat) e below);
      })
  takes_rest : (seat e : ℕ) → s.book.keeper e ≡ Keeper.By seat → s.book.heads e ≡ None
      → s.book.handed e < class_objects (s.book.classes e)
      → SlabStep k s (record s {
        book = with_rest_taken e s.book;
        kept = put s.kept seat (after_take_of (s.kept seat) e None);
      })
  -- M4, M8: an object comes back, or so many are joined
  frees : (seat e u : ℕ) → s.book.keeper e ≡ Keeper.By seat → IsRecord (after_free (record_of s.book e) u)
      → SlabStep k s (record s {
        book = with_freed e u s.book;
        kept = put s.kept seat (after_free_of (s.kept seat) e u);
      })
  joins : (seat e first joined : ℕ) → s.book.keeper e ≡ Keeper.By seat
      → IsRecord (after_join (record_of s.book e) first joined)
      → SlabStep k s (record s {
        book = with_joined e first joined s.book;
        kept = put s.kept seat (after_join_of (s.kept seat) e first joined);
      })
  -- F8: a slab begins, or ends
  begins : (seat e class : ℕ) → s.book.keeper e ≡ Keeper.Nobody → IsPlace k e → class < class_count
      → SlabStep k s (record {
        book = with_begun seat e class s.book;
        mem = after k s.mem (Store (Word.Kind e) (kind_word (Kind.Slab class)));
        kept = put s.kept seat (after_add (s.kept seat) (begun e class));
        cached = s.cached;
      })
  ends : (seat e : ℕ) → s.book.keeper e ≡ Keeper.By seat
      → SlabStep k s (record {
        book = with_ended e s.book;
        mem = after k s.mem (Store (Word.Kind e) (kind_word Kind.Nothing));
        kept = put s.kept seat (after_remove (s.kept seat) e);
        cached = s.cached;
      })
  -- O1, O5: a slab's header is its record's; a slab is left
  stores_header : (seat e : ℕ) → s.book.keeper e ≡ Keeper.By seat
      → SlabStep k s (record s { mem = after k s.mem (Store (Word.Header e) (to_header (record_of s.book e))) })
  leaves : (seat e : ℕ) → s.book.keeper e ≡ Keeper.By seat → s.mem headers e ≡ to_header (record_of s.book e)
      → SlabStep k s (record s {
        book = with_keeper e Keeper.Orphan s.book;
        kept = put s.kept seat (after_remove (s.kept seat) e);
      })
  -- O6, O5, O8: a chain of orphans is taken; one of them is pushed back, or adopted by its header
  comes : (seat : ℕ) (chain : List ℕ) → ((e : ℕ) → 0 < tally e chain → s.book.keeper e ≡ Keeper.Orphan)
      → SlabStep k s (record s { book = with_chain_taken seat chain s.book })
  goes_back : (seat e : ℕ) → s.book.keeper e ≡ Keeper.Adopting seat
      → SlabStep k s (record s { book = with_keeper e Keeper.Orphan s.book })
  adopts : (seat e : ℕ) → s.book.keeper e ≡ Keeper.Adopting seat
      → SlabStep k s (record s {
        book = with_keeper e (Keeper.By seat) s.book;
        kept = put s.kept seat (after_add (s.kept seat) (of_header e (s.book.classes e) (s.mem headers e)));
      })
  -- F8: an empty slab is cached, or taken out of the cache at its newest or its oldest end
  caches : (seat e : ℕ) → s.book.keeper e ≡ Keeper.Nobody → e < k.span
      → length (s.cached seat).items < (s.cached seat).room
      → SlabStep k s (record s {
        book = with_keeper e (Keeper.Cached seat) s.book;
        mem = after k s.mem (Store (Word.Kind e) (kind_word Kind.CachedSlab));
        cached = put s.cached seat (after_push (s.cached seat) e);
      })
  newest_out : (seat e : ℕ) → newest_of (s.cached seat) ≡ Some e
      → SlabStep k s (record s {
        book = with_keeper e Keeper.Nobody s.book;
        mem = after k s.mem (Store (Word.Kind e) (kind_word Kind.Nothing));
        cached = put s.cached seat (without_newest (s.cached seat));
      })
  oldest_out : (seat e : ℕ) → oldest_of (s.cached seat) ≡ Some e
      → SlabStep k s (record s {
        book = with_keeper e Keeper.Nobody s.book;
        mem = after k s.mem (Store (Word.Kind e) (kind_word Kind.Nothing));
        cached = put s.cached seat (without_oldest (s.cached seat));
      })
  -- F8: a large object's block begins where no slab does
  large : (e first granules : ℕ) → s.book.keeper e ≡ Keeper.Nobody → FitsKind (Kind.Large first granules)
      → SlabStep k s (record s { mem = after k s.mem (Store (Word.Kind e) (kind_word (Kind.Large first granules))) })
  -- each step on another word
  others : (action : Action) → IsOtherAction action → SlabStep k s (record s { mem = after k s.mem action })

-- any number of steps of any number of seats
pub data SlabRun (k : Key) (s : Slabs) : Slabs → Type 0 where
  starts : SlabRun k s s
  steps : {before later : Slabs} → SlabRun k s before → SlabStep k before later → SlabRun k s later
