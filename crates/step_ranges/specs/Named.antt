-- A named pool, in whose words each kind holds the last index that it may hold.
use Rattle.std.specs.Prelude.{Some, false, true, ℕ}
use Rattle.pool_words.specs.Words.{backwards, bin_heads, bin_locks, cache_heads, cache_links, cache_locks}
use Rattle.pool_words.specs.Words.{forwards, kinds, lefts, marks, nexts, office_locks, owns, publics}
use Rattle.pool_words.specs.Words.{queue_links, sizes}
use Rattle.pool_words.specs.declared.words.Key.{Key}
use Rattle.pool_words.specs.declared.words.Word.{Word}
use Rattle.word_codes.specs.Guards.{guard_word}
use Rattle.word_codes.specs.Kinds.{kind_word}
use Rattle.word_codes.specs.Links.{link_word}
use Rattle.word_codes.specs.Locks.{lock_word}
use Rattle.word_codes.specs.Marks.{mark_word}
use Rattle.word_codes.specs.Nexts.{next_word}
use Rattle.word_codes.specs.Owns.{own_word}
use Rattle.word_codes.specs.Publics.{public_word}
use Rattle.word_codes.specs.QueueLinks.{queue_link_word}
use Rattle.word_codes.specs.RegionWords.{region_word}
use Rattle.word_codes.specs.declared.guards.Guard.{Guard}
use Rattle.word_codes.specs.declared.kinds.Kind.{Kind}
use Rattle.word_codes.specs.declared.marks.Mark.{Mark}
use Rattle.word_codes.specs.declared.nexts.Next.{Next}
use Rattle.word_codes.specs.declared.owns.Own.{Own}
use Rattle.word_codes.specs.declared.publics.Public.{Public}
use Rattle.step_ranges.specs.Ranges.{IsKey, Ranged, ValueFits}
use Rattle.word_laws.specs.Memory.{Mem, put}
use Rattle.pool_words.specs.Words.{WordKind, queues, mailboxes, orphans, regions}

-- a pool of two seats and 17 granules, of which the last is a wall's
abbrev pub named_key : Key
named_key = record {
  pool = 0;
  seats = 2;
  span = 17;
  region = 8192;
  granularity = 8192;
  gets = true;
  frees = true;
  fixed = false;
  keep = false;
}

-- one word of each kind, for index 2
abbrev pub named_word : WordKind → ℕ
named_word marks = mark_word (Mark.Link 16383)
named_word kinds = kind_word (Kind.Large 2 14)
named_word owns = own_word (Own.Kept 1)
named_word publics = public_word (Public.Filled 16383)
named_word nexts = next_word (Next.Link (Some 14))
named_word sizes = guard_word (Guard.Free 14)
named_word lefts = guard_word (Guard.Free 2)
named_word bin_locks = lock_word 1
named_word bin_heads = link_word (Some 15)
named_word forwards = link_word (Some 15)
named_word backwards = link_word (Some 15)
named_word queues = link_word (Some 15)
named_word queue_links = queue_link_word (record { next = Some 15; granules = 14 })
named_word mailboxes = link_word (Some 14)
named_word orphans = link_word (Some 14)
named_word cache_locks = lock_word 1
named_word cache_heads = link_word (Some 14)
named_word cache_links = link_word (Some 15)
named_word office_locks = lock_word 1
named_word regions = region_word (record { live = true; number = 2; first = 2; granules = 14; waste = 0 })
named_word _ = 1

-- it stands there, and all others are as in a new pool
abbrev pub named_words : Mem
named_words kind = put (λ index. 0) 2 (named_word kind)

-- the named words are in their ranges
pub record NamedWordsAreInRange : Type 0 where
  pub key : IsKey named_key
  pub words : Ranged named_key named_words

-- and these are not: each is the next index
pub record NextIndicesAreOut : Type 0 where
  pub unit : ValueFits named_key (Word.Mark 2) (mark_word (Mark.Link 16384)) → ⊥
  pub slab : ValueFits named_key (Word.Orphans 2) (link_word (Some 15)) → ⊥
  pub block : ValueFits named_key (Word.Size 2) (guard_word (Guard.Free 15)) → ⊥
  pub granule : ValueFits named_key (Word.Forward 2) (link_word (Some 16)) → ⊥
  pub cached : ValueFits named_key (Word.CacheHead 2) (link_word (Some 15)) → ⊥
  pub seat : ValueFits named_key (Word.BinLock 2) (lock_word 2) → ⊥
