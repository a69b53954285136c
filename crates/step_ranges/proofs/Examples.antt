-- The named words are in their ranges, and the next indices are not.
use Rattle.std.proofs.Common.{Some, arith, refl, true, ℕ}
use Rattle.pool_words.specs.Words.{backwards, bin_heads, bin_locks, cache_heads, cache_links, cache_locks}
use Rattle.pool_words.specs.Words.{forwards, kinds, lefts, marks, nexts, office_locks, owns, publics}
use Rattle.pool_words.specs.Words.{queue_links, sizes}
use Rattle.word_codes.specs.Guards.{guard_of, guard_word}
use Rattle.word_codes.specs.Links.{link_of, link_word}
use Rattle.word_codes.specs.Locks.{holder_of, lock_word}
use Rattle.word_codes.specs.Marks.{mark_of, mark_word}
use Rattle.word_codes.specs.declared.kinds.Kind.{Kind}
use Rattle.word_codes.specs.declared.owns.Own.{Own}
use Rattle.word_codes.specs.declared.publics.Public.{Public}
use Rattle.step_ranges.proofs.Codes.{block_fits, free_left, free_size, kind_fits, link_fits, lock_fits}
use Rattle.step_ranges.proofs.Codes.{next_fits, own_fits, public_fits, public_link_fits, queue_link_fits}
use Rattle.step_ranges.proofs.Codes.{region_fits, slab_fits, zero_fits}
use Rattle.step_ranges.specs.Named.{NamedWordsAreInRange, NextIndicesAreOut, named_key, named_word}
use Rattle.step_ranges.specs.Named.{named_words}
use Rattle.step_ranges.specs.Ranges.{IsBlock, IsKey, IsSlab, WordFits}
use Rattle.word_laws.proofs.CallerLemmas.{each}
use Rattle.pool_words.specs.Words.{WordKind, queues, mailboxes, orphans, regions}

named_is : IsKey named_key
named_is = record { seated = omega arith; seats = omega arith; spans = omega arith; span = omega arith }

block_at : IsBlock named_key 14 2
block_at = record { begins = omega arith; ends = omega arith }

slab_at_last : IsSlab named_key 14
slab_at_last = record { even = refl; below = omega arith }

word_fits : (kind : WordKind) → WordFits named_key kind 2 (named_word kind)
word_fits marks = public_link_fits named_key named_is (Public.Filled 16383) (omega arith)
word_fits kinds = kind_fits named_key named_is (Kind.Large 2 14) (record { block = block_at; few = omega arith })
word_fits owns = own_fits named_key named_is (Own.Kept 1) (omega arith)
word_fits publics = public_fits named_key named_is (Public.Filled 16383) (omega arith)
word_fits nexts = next_fits named_key named_is (Some 14) slab_at_last
word_fits sizes = free_size named_key named_is 14 2 block_at
word_fits lefts = (free_left named_key named_is 2 2 (record {
  long = omega arith;
  block = record { begins = omega arith; ends = omega arith };
}))
word_fits bin_locks = lock_fits named_key named_is 1 (omega arith)
word_fits bin_heads = link_fits named_key named_is 15 (omega arith)
word_fits forwards = link_fits named_key named_is 15 (omega arith)
word_fits backwards = link_fits named_key named_is 15 (omega arith)
word_fits queues = link_fits named_key named_is 15 (omega arith)
word_fits queue_links = queue_link_fits named_key named_is (Some 15) 14 2 (omega arith) block_at
word_fits mailboxes = slab_fits named_key named_is 14 slab_at_last
word_fits orphans = slab_fits named_key named_is 14 slab_at_last
word_fits cache_locks = lock_fits named_key named_is 1 (omega arith)
word_fits cache_heads = block_fits named_key named_is 2 14 (record { begins = omega arith; ends = omega arith })
word_fits cache_links = link_fits named_key named_is 15 (omega arith)
word_fits office_locks = lock_fits named_key named_is 1 (omega arith)
word_fits regions = (region_fits named_key named_is
    (record { live = true; number = 2; first = 2; granules = 14; waste = 0 }) (omega arith))
word_fits _ = tt

named_fits : (kind : WordKind) (index : ℕ) → WordFits named_key kind index (named_words kind index)
named_fits kind = each (WordFits named_key kind) (λ index. 0) 2 (named_word kind)
    (λ index _. zero_fits named_key named_is kind index) (word_fits kind)

pub named_words_are_in_range : NamedWordsAreInRange
named_words_are_in_range = record { key = named_is; words = named_fits }

pub next_indices_are_out : NextIndicesAreOut
unfolding mark_of mark_word link_of link_word guard_of guard_word holder_of lock_word
next_indices_are_out = record {
  unit = λ fits. absurd (omega (arith, fits));
  slab = λ fits. absurd (let even = fits.even in omega arith);
  block = λ fits. absurd (let ends = fits.ends in omega arith);
  granule = λ fits. absurd (omega (arith, fits));
  cached = λ fits. absurd (let ends = fits.ends in omega arith);
  seat = λ fits. absurd (omega (arith, fits));
}
