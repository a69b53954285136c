-- A new pool with its cache, the one that is named, and what the wrong definitions come to.
use Rattle.std.proofs.Common.{◌≡◌, ◌≢◌, ℕ, ◌<◌, ◌≤◌, true, false, Some, None, [], ◌∷◌, refl, sym, ap}
use Rattle.std.proofs.Common.{subst, arith, ◌∙◌}
use Rattle.std.proofs.lemmas.Bool.Decides.{nat_tests}
use Rattle.pool_words.specs.declared.words.Word.{Word}
use Rattle.pool_words.specs.declared.actions.Action.TheVariants.{Store}
use Rattle.pool_words.specs.Words.{WordKind, number, kind_of_word, cache_locks, cache_heads, cache_items, cache_used}
use Rattle.pool_words.specs.Words.{cache_means, cache_thresholds, cache_gets, cache_cleaned, cache_links, cache_ages}
use Rattle.word_codes.specs.Links.{link_word}
use Rattle.word_codes.specs.Locks.{lock_word}
use Rattle.guards.specs.declared.win.Taking.{Taking}
use Rattle.word_laws.specs.Memory.{Mem, put, write, after, fresh}
use Rattle.word_laws.proofs.CallerLemmas.{equal_or, put-other, each, stored-valid}
use Rattle.chain_laws.specs.Chains.{tally}
use Rattle.chain_laws.specs.Named.{ten_key}
use Rattle.lock_laws.specs.Locks.{locks_of}
use Rattle.lock_laws.proofs.CallerLemmas.{lock_word-taken}
use Rattle.guard_laws.specs.Blocks.{Use, Place}
use Rattle.guard_laws.proofs.CallerLemmas.{stored-apart}
use Rattle.cache_laws.specs.Bins.{Bin, blocks_of, Says}
use Rattle.cache_laws.specs.Good.{Task, holds, hand, lock_in, CallFits, Holding, BinFits, lock_words}
use Rattle.cache_laws.specs.Good.{CacheGood}
use Rattle.cache_laws.specs.Named.{empty_bin, no_bins}
use Rattle.cache_laws.specs.Laws.{FreshBinsAreEmpty}
use Rattle.use_laws.specs.Uses.{Purpose}
use Rattle.use_laws.specs.Pools.{PoolGood}
use Rattle.use_laws.specs.Named.{named_pool, one_cached, two_objects, one_ready, one_object, one_resting}
use Rattle.use_laws.specs.Named.{one_in_bin, one_offered}
use Rattle.use_laws.specs.Laws.{FreshPoolsAreGood}
use Rattle.shelf_laws.specs.Shelves.{stock_of, PutFits}
use Rattle.shelf_laws.specs.Steps.{SameCache}
use Rattle.shelf_laws.specs.Named.{one_bin, headed_words, shelf_words, putting, named_state}
use Rattle.shelf_laws.specs.Laws.{FreshShelvesAreGood, NamedShelfStands}
use Rattle.shelf_laws.specs.Wrong.{LostBlocksAreWrong, StrangePutsAreWrong}
use Rattle.use_laws.proofs.CallerLemmas.{mem_so}
use Rattle.shelf_laws.proofs.Words.{cache_as}

pub fresh_shelves_are_good : FreshPoolsAreGood → FreshBinsAreEmpty → FreshShelvesAreGood
fresh_shelves_are_good pools bins k low = record {
  pool = pools k low;
  cache = bins k low;
  shelves = record { binned = λ b x some. absurd (omega (arith, some)); shelved = λ x is. absurd (cc) };
  puts = λ seat. tt;
}

-- the words of the named pool's cache are those of a new one
kept_word : (m : Mem) (w : Word) (v : ℕ) (kind : WordKind) → number (kind_of_word w) < 8 → 15 < number kind
    → after ten_key m (Store w v) kind ≡ m kind
kept_word m w v kind near far = stored-apart ten_key m w v kind (λ e. omega (arith, e, near, far))

named_fresh : (kind : WordKind) → 15 < number kind → named_pool.mem kind ≡ fresh kind
named_fresh kind far =
    kept_word two_objects.mem (Word.Kind 2) _ kind (omega arith) far
    ∙ kept_word one_ready.mem (Word.Mark 4112) _ kind (omega arith) far
    ∙ kept_word one_object.mem (Word.Kind 4) _ kind (omega arith) far
    ∙ kept_word one_resting.mem (Word.Mark 2040) _ kind (omega arith) far
    ∙ kept_word one_in_bin.mem (Word.Kind 0) _ kind (omega arith) far
    ∙ kept_word one_offered.mem (Word.Left 10) _ kind (omega arith) far
    ∙ kept_word fresh (Word.Size 8) _ kind (omega arith) far

-- the same words by kind
abbrev plain_words : Mem
plain_words = write (write fresh cache_heads 1 7) cache_items 1 1

shelf_fresh : (kind : WordKind) → 15 < number kind → 17 ≢ number kind → 18 ≢ number kind
    → shelf_words kind ≡ fresh kind
shelf_fresh kind far head items =
    stored-apart ten_key headed_words (Word.CacheItems 1) 1 kind items
    ∙ stored-apart ten_key named_pool.mem (Word.CacheHead 1) 7 kind head
    ∙ named_fresh kind far

shelf_heads : shelf_words cache_heads ≡ plain_words cache_heads
shelf_heads =
    stored-apart ten_key headed_words (Word.CacheItems 1) 1 cache_heads (λ e. omega (arith, e))
    ∙ ap (λ (m : Mem). m cache_heads) (stored-valid ten_key named_pool.mem (Word.CacheHead 1) 7 (omega arith))
    ∙ ap (λ (f : ℕ → ℕ). put f 1 7) (named_fresh cache_heads (omega arith))

shelf_items : shelf_words cache_items ≡ plain_words cache_items
shelf_items =
    ap (λ (m : Mem). m cache_items) (stored-valid ten_key headed_words (Word.CacheItems 1) 1 (omega arith))
    ∙ ap (λ (f : ℕ → ℕ). put f 1 1)
    (stored-apart ten_key named_pool.mem (Word.CacheHead 1) 7 cache_items (λ e. omega (arith, e))
    ∙ named_fresh cache_items (omega arith))

same_words : SameCache plain_words shelf_words
same_words = record {
  locks = shelf_fresh cache_locks (omega arith) (λ e. omega (arith, e)) (λ e. omega (arith, e));
  heads = shelf_heads;
  items = shelf_items;
  used = shelf_fresh cache_used (omega arith) (λ e. omega (arith, e)) (λ e. omega (arith, e));
  means = shelf_fresh cache_means (omega arith) (λ e. omega (arith, e)) (λ e. omega (arith, e));
  thresholds = shelf_fresh cache_thresholds (omega arith) (λ e. omega (arith, e)) (λ e. omega (arith, e));
  gets = shelf_fresh cache_gets (omega arith) (λ e. omega (arith, e)) (λ e. omega (arith, e));
  cleaned = shelf_fresh cache_cleaned (omega arith) (λ e. omega (arith, e)) (λ e. omega (arith, e));
  links = shelf_fresh cache_links (omega arith) (λ e. omega (arith, e)) (λ e. omega (arith, e));
  ages = shelf_fresh cache_ages (omega arith) (λ e. omega (arith, e)) (λ e. omega (arith, e));
}

six_says : ◌≡◌ {A = ℕ} 7 (link_word (Some 6))
unfolding link_word
six_says = refl

one_says : Says plain_words 1 one_bin
one_says = record {
  head = six_says;
  count' = refl;
  used' = refl;
  mean' = refl;
  threshold' = refl;
  get' = refl;
  cleaned' = refl;
  listed = (refl, refl, tt);
}

else_says : (b : ℕ) → b ≢ 1 → Says plain_words b empty_bin
else_says b ne = record {
  head = put-other (fresh cache_heads) 1 7 b ne;
  count' = put-other (fresh cache_items) 1 1 b ne;
  used' = refl;
  mean' = refl;
  threshold' = refl;
  get' = refl;
  cleaned' = refl;
  listed = tt;
}

empty_fits : BinFits ten_key empty_bin
empty_fits = record {
  counted = refl;
  few = omega arith;
  inside = λ x some. absurd (omega (arith, some));
  once = λ x. omega arith;
}

one_fits : BinFits ten_key one_bin
one_fits = record {
  counted = refl;
  few = omega arith;
  inside = λ x some. inside_one x some;
  once = λ x. once_one x;
}
  where
    inside_one : (x : ℕ) → 0 < tally x (6 ∷ []) → x < 10
    inside_one x some = grind (arith, nat_tests)

    once_one : (x : ℕ) → tally x (6 ∷ []) ≤ 1
    once_one x = equal_or x 6 (λ e. grind (arith, nat_tests)) (λ ne. grind (arith, nat_tests))

one_in : (x : ℕ) → 0 < tally x (6 ∷ []) → x ≡ 6
one_in x some = equal_or x 6 (λ e. e) (λ ne. absurd (grind (arith, nat_tests)))

abbrev jobs : ℕ → Task
jobs = named_state.jobs

abbrev bins : ℕ → Bin
bins = named_state.bins

hand_seven : (o x : ℕ) → hand (jobs o) ≡ Some x → (x ≡ 7) × (o ≡ 0)
hand_seven o x = each (λ o q. hand q ≡ Some x → (x ≡ 7) × (o ≡ 0)) (λ seat. Task.Away) 0 putting
    (λ o _ z. absurd (let q : None ≡ Some x = z in cc)) (λ z. (let q : Some 7 ≡ Some x = z in cc, refl)) o

named_cache : CacheGood ten_key bins plain_words jobs
named_cache = record {
  span = omega arith;
  locks = record {
    held = λ o b. each (λ o q. lock_in q ≡ Some b → locks_of lock_words plain_words b ≡ lock_word o)
        (λ seat. Task.Away) 0 putting (λ o _ z. absurd (let q : None ≡ Some b = z in cc))
        (λ z. absurd (let q : None ≡ Some b = z in cc)) o;
    named = λ o b z. absurd (lock_word-taken o (sym z));
  };
  rest = λ b nobody. each (λ b bin. Says plain_words b bin) no_bins 1 one_bin else_says one_says b;
  held = each (λ o q. holds q ≡ true → Holding bins plain_words q) (λ seat. Task.Away) 0 putting
      (λ o _ z. absurd (let q : false ≡ true = z in cc)) (λ z. absurd (let q : false ≡ true = z in cc));
  calls = each (λ o q. CallFits ten_key q) (λ seat. Task.Away) 0 putting (λ o _. tt) (omega arith, omega arith);
  bins = each (λ b bin. BinFits ten_key bin) no_bins 1 one_bin (λ b _. empty_fits) one_fits;
  once = λ b c ne x. each (λ b (bin : Bin). b ≢ c → 0 < tally x (blocks_of bin.items)
      → tally x (blocks_of (bins c).items) ≡ 0) no_bins 1 one_bin (λ b _ ne some. absurd (omega (arith, some)))
      (λ ne some. ap (λ (bin : Bin). tally x (blocks_of bin.items))
      (put-other no_bins 1 one_bin c (λ e. ne (sym e)))) b ne;
  hands = λ o x b is. each (λ b (bin : Bin). tally x (blocks_of bin.items) ≡ 0) no_bins 1 one_bin (λ b _. refl)
      (let e = (hand_seven o x is).0 in let q : tally x (6 ∷ []) ≡ tally 7 (6 ∷ []) = ap (λ z. tally z (6 ∷ [])) e in
      q) b;
  apart = λ o p x ne is is'. ne ((hand_seven o x is).1 ∙ sym (hand_seven p x is').1);
}

named_shelved : (x : ℕ) → named_pool.purpose x ≡ Purpose.Shelved → x ≡ 6
named_shelved = each (λ x q. q ≡ Purpose.Shelved → x ≡ 6) one_cached.purpose 6 Purpose.Shelved
    (λ x _. each (λ x q. q ≡ Purpose.Shelved → x ≡ 6) two_objects.purpose 2 Purpose.Slab
    (λ x _. each (λ x q. q ≡ Purpose.Shelved → x ≡ 6) one_object.purpose 4 (Purpose.Object 4112)
    (λ x _. each (λ x q. q ≡ Purpose.Shelved → x ≡ 6) one_in_bin.purpose 0 Purpose.Slab (λ x _ q. absurd (cc))
    (λ q. absurd (cc)) x) (λ q. absurd (cc)) x) (λ q. absurd (cc)) x) (λ _. refl)

pub named_shelf_stands : PoolGood ten_key named_pool → NamedShelfStands
named_shelf_stands named = record {
  pool = mem_so ten_key 0 (record named_pool { mem = headed_words }) (Store (Word.CacheItems 1) 1) (omega arith)
      (mem_so ten_key 0 named_pool (Store (Word.CacheHead 1) 7) (omega arith) named);
  cache = cache_as ten_key bins plain_words shelf_words jobs same_words named_cache;
  shelves = record {
    binned = λ b x. each (λ b (bin : Bin). 0 < tally x (blocks_of bin.items) → (named_pool.purpose x ≡ Purpose.Shelved)
        × (named_pool.blocks.place x ≡ Place.Block x b Use.Elsewhere)) no_bins 1 one_bin
        (λ b _ some. absurd (omega (arith, some)))
        (λ some. subst (λ z. (named_pool.purpose z ≡ Purpose.Shelved)
        × (named_pool.blocks.place z ≡ Place.Block z 1 Use.Elsewhere)) (sym (one_in x some)) (refl, refl)) b;
    shelved = λ x is. (1, subst (λ z. 0 < stock_of bins 1 z) (sym (named_shelved x is)) (omega arith));
  };
  puts = each (λ o q. PutFits named_pool.blocks.place o q) (λ seat. Task.Away) 0 putting (λ o _. tt) refl;
}

pub lost_blocks_are_wrong : NamedShelfStands → LostBlocksAreWrong
lost_blocks_are_wrong named wrong =
    let good = wrong ten_key named_state 1 named in
    let lies = good.shelves.shelved 6 refl in
    none lies.0 lies.1
  where
    none : (b : ℕ) → 0 < stock_of (put bins 1 (record one_bin { count = 0; items = [] })) b 6 → ⊥
    none = each (λ b (bin : Bin). 0 < tally 6 (blocks_of bin.items) → ⊥) bins 1 (record one_bin {
      count = 0;
      items = [];
    }) (λ b ne. subst (λ (bin : Bin). 0 < tally 6 (blocks_of bin.items) → ⊥) (sym (put-other no_bins 1 one_bin b ne))
        (λ some. omega (arith, some))) (λ some. omega (arith, some))

pub strange_puts_are_wrong : NamedShelfStands → StrangePutsAreWrong
strange_puts_are_wrong named wrong =
    let good = wrong ten_key 1 named_state 2 5 4 refl named in
    let at : Place.Block 4 2 Use.Elsewhere ≡ Place.Block 4 2 (Use.Held 1 Taking.ForUse) = good.puts 1 in cc
