-- What each granule lies in, and what each block is.
use Rattle.std.proofs.Common.{◌≡◌, ◌≢◌, ◌⊎◌, inl, inr, ℕ, ◌<◌, refl, sym, ap, subst, arith, ◌∙◌}
use Rattle.pool_words.specs.declared.words.Key.{Key}
use Rattle.guards.specs.declared.win.Taking.{Taking}
use Rattle.word_laws.proofs.CallerLemmas.{less_or}
use Rattle.backend_bins.specs.Blocks.{bin_of}
use Rattle.chain_laws.specs.Chains.{tally}
use Rattle.guard_laws.specs.Blocks.{Use, Place, Piece}
use Rattle.guard_laws.proofs.CallerLemmas.{same_block}
use Rattle.bin_laws.specs.Bins.{won_of}
use Rattle.bin_laws.specs.Laws.{IsOfBin}
use Rattle.bin_laws.proofs.Keeps.{blocks_in_bins_are_listed, lists_have_their_blocks}
use Rattle.queue_laws.specs.Queue.{told}
use Rattle.queue_laws.proofs.Keeps.{queued_blocks_are_once}
use Rattle.use_laws.specs.Laws.{IsBareBlock}
use Rattle.use_laws.proofs.CallerLemmas.{blocks_in_hand_are_bare, blocks_have_one_purpose}
use Rattle.free_laws.specs.Spaces.{Space, FreeGood, bins_of, bin_tasks, queue_of, queue_tasks}
use Rattle.free_laws.specs.Places.{IsUnlisted, IsUnqueued, IsWithin, LiesOutside, LiesIn}
use Rattle.free_laws.specs.Laws.{GranulesHaveOnePlace, BlocksAreOneThing}

none_if : (n : ℕ) → (0 < n → ⊥) → n ≡ 0
none_if n none = less_or 0 n (λ some. absurd (none some)) (λ few. omega arith)

-- one block has one length and one use
same_as : (s : Space) (x n m : ℕ) (u w : Use) → s.pool.blocks.place x ≡ Place.Block x n u
    → s.pool.blocks.place x ≡ Place.Block x m w → (n ≡ m) × (u ≡ w)
same_as s x n m u w a b = let same = same_block s.pool.blocks.place x x n x m u w a b in (same.1, same.2)

-- what the queue has is queued, and what a seat took of it is in its hand
not_queued : (k : Key) (s : Space) (x n : ℕ) (u : Use) → FreeGood k s → s.pool.blocks.place x ≡ Place.Block x n u
    → u ≢ Use.Queued → tally x s.queued ≡ 0
not_queued k s x n u good at ne = none_if (tally x s.queued)
    (λ some. ne (same_as s x n (told s.pool.mem x) u Use.Queued at (good.queue.queued_is x some)).1)

not_taken : (k : Key) (s : Space) (x n seat : ℕ) (u : Use) → FreeGood k s → s.pool.blocks.place x ≡ Place.Block x n u
    → u ≢ Use.Held seat Taking.ToJoin → tally x (s.drained seat) ≡ 0
not_taken k s x n t u good at ne = none_if (tally x (s.drained t))
    (λ some. ne (same_as s x n (told s.pool.mem x) u (Use.Held t Taking.ToJoin) at (good.queue.drained_is t x some)).1)

-- what a list has is in a bin, or in the hand of the seat that has won it
listed_by : (k : Key) (s : Space) (x n b : ℕ) (u : Use) → FreeGood k s → s.pool.blocks.place x ≡ Place.Block x n u
    → 0 < tally x (s.items b)
    → (b ≡ bin_of n) × ((u ≡ Use.Bin)
    ⊎ ((t : ℕ) × (taking : Taking) × (u ≡ Use.Held t taking) × (won_of (s.bins t) ≡ Piece.Got x n)))
listed_by k s x n b u good at some =
    by (lists_have_their_blocks k (bins_of s) s.pool.mem (bin_tasks s) b x good.bins some)
  where
    by : IsOfBin (bins_of s) (bin_tasks s) b x
        → (b ≡ bin_of n) × ((u ≡ Use.Bin)
        ⊎ ((t : ℕ) × (taking : Taking) × (u ≡ Use.Held t taking) × (won_of (s.bins t) ≡ Piece.Got x n)))
    by is = elim is.use' [
      | inl bin ↦ let q = same_as s x n is.granules u Use.Bin at bin in
          (sym is.bin ∙ ap bin_of (sym q.0), inl q.1)
      | inr held ↦ let q = same_as s x n is.granules u (Use.Held held.0 held.1) at held.2 in (
        sym is.bin ∙ ap bin_of (sym q.0),
        inr (held.0, held.1, q.1, held.3 ∙ ap (Piece.Got x) (sym q.0)),
      )
    ]

unlisted : (k : Key) (s : Space) (x n : ℕ) (u : Use) → FreeGood k s → s.pool.blocks.place x ≡ Place.Block x n u
    → u ≢ Use.Bin → ((t : ℕ) (taking : Taking) → u ≢ Use.Held t taking) → IsUnlisted s x
unlisted k s x n u good at bin hand b = none_if (tally x (s.items b)) (λ some.
    elim (listed_by k s x n b u good at some).1 [
      | inl is ↦ bin is
      | inr is ↦ hand is.0 is.1 is.2
    ])

unqueued : (k : Key) (s : Space) (x n : ℕ) (u : Use) → FreeGood k s → s.pool.blocks.place x ≡ Place.Block x n u
    → u ≢ Use.Queued → ((t : ℕ) → u ≢ Use.Held t Taking.ToJoin) → IsUnqueued s x
unqueued k s x n u good at ne hand = record {
  queue = not_queued k s x n u good at ne;
  taken = λ t. not_taken k s x n t u good at (hand t);
}

bare : (k : Key) (s : Space) (x n : ℕ) (u : Use) → FreeGood k s → s.pool.blocks.place x ≡ Place.Block x n u
    → u ≢ Use.Elsewhere → IsBareBlock s.pool x n
bare k s x n u good at ne = blocks_in_hand_are_bare k s.pool x n u good.pool at ne

pub blocks_are_one_thing : BlocksAreOneThing
blocks_are_one_thing k s x n Use.Bin good at = record {
  listed = blocks_in_bins_are_listed k (bins_of s) s.pool.mem (bin_tasks s) x n good.bins at;
  queues = unqueued k s x n Use.Bin good at (λ q. cc) (λ t q. cc);
  bare = bare k s x n Use.Bin good at (λ q. cc);
}
blocks_are_one_thing k s x n (Use.Held t taking) good at = record {
  lists = λ b some. let is = listed_by k s x n b (Use.Held t taking) good at some in (
    is.0,
    elim is.1 [
      | inl bin ↦ absurd (cc)
      | inr held ↦ let same : held.0 ≡ t = (let q = held.2 in cc) in
          subst (λ o. won_of (s.bins o) ≡ Piece.Got x n) same held.3
    ],
  );
  queue = not_queued k s x n (Use.Held t taking) good at (λ q. cc);
  taken = λ o some. let q = (same_as s x n (told s.pool.mem x) (Use.Held t taking) (Use.Held o Taking.ToJoin) at
      (good.queue.drained_is o x some)).1 in (cc, cc);
  bare = bare k s x n (Use.Held t taking) good at (λ q. cc);
}
blocks_are_one_thing k s x n Use.Queued good at = record {
  once = queued_blocks_are_once k (queue_of s) s.pool.mem (queue_tasks s) x n good.queue at;
  lists = unlisted k s x n Use.Queued good at (λ q. cc) (λ t taking q. cc);
  bare = bare k s x n Use.Queued good at (λ q. cc);
}
blocks_are_one_thing k s x n Use.Elsewhere good at = record {
  purpose = blocks_have_one_purpose k s.pool x n good.pool at;
  lists = unlisted k s x n Use.Elsewhere good at (λ q. cc) (λ t taking q. cc);
  queues = unqueued k s x n Use.Elsewhere good at (λ q. cc) (λ t q. cc);
}

pub granules_have_one_place : GranulesHaveOnePlace
granules_have_one_place k s z good = by (s.pool.blocks.place z) refl
  where
    at : (x n : ℕ) (u : Use) → IsWithin s z x n u → s.pool.blocks.place z ≡ Place.Block x n u
    at x n u is = (good.pool.guards.parts.whole x x n u is.0).all z is.1 is.2

    by : (q : Place) → s.pool.blocks.place z ≡ q → LiesOutside s z ⊎ LiesIn s z
    by Place.Outside is = inl (record {
      outside = is;
      none = λ x n u within. let q : Place.Outside ≡ Place.Block x n u = sym is ∙ at x n u within in cc;
    })
    by (Place.Block x n u) is =
        let w = good.pool.guards.parts.whole z x n u is in
        let first = w.from in
        let behind = w.below in
        let here = w.all x (omega arith) (omega arith) in
        inr (record {
          first = x;
          granules = n;
          use' = u;
          within = (here, w.from, w.below);
          one = λ y m v within. let q : Place.Block y m v ≡ Place.Block x n u = sym (at y m v within) ∙ is in
              (cc, cc, cc);
          is = blocks_are_one_thing k s x n u good here;
        })
