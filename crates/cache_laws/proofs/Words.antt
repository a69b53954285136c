-- What stores leave of bins, and what a store of a bin's word makes of that bin.
use Rattle.std.proofs.Common.{◌≡◌, ◌≢◌, inl, inr, ℕ, ◌+◌, ◌%◌, ◌^◌, ◌<◌, ◌≤◌, Bool, true, false, cond, eqb, List}
use Rattle.std.proofs.Common.{[], ◌∷◌}
use Rattle.std.proofs.Common.{refl, sym, ap, subst, arith, ◌∙◌}
use Rattle.pool_words.specs.declared.words.Key.{Key}
use Rattle.pool_words.specs.declared.words.Word.{Word}
use Rattle.pool_words.specs.declared.actions.Action.{Action}
use Rattle.pool_words.specs.declared.actions.Action.TheVariants.{Load, Store, Swap, Exchange, Add}
use Rattle.pool_words.specs.declared.actions.Action.TheVariants.{TakeOffice, GiveOffice, Nothing}
use Rattle.pool_words.specs.Words.{WordKind, kind_of_word, number, at_of, length_of, cache_counts, cache_locks}
use Rattle.pool_words.specs.Words.{cache_heads, cache_items, cache_used, cache_means, cache_thresholds, cache_gets}
use Rattle.pool_words.specs.Words.{cache_cleaned, cache_links, cache_ages}
use Rattle.word_laws.specs.Memory.{Mem, Valid, write, stored, after, word_at}
use Rattle.word_laws.proofs.CallerLemmas.{less_or, write_else, stored-valid, stored-void, put-same}
use Rattle.chain_laws.specs.Chains.{tally}
use Rattle.chain_laws.proofs.CallerLemmas.{tally-here, tally-more}
use Rattle.lock_laws.specs.Locks.{locks_of}
use Rattle.lock_laws.proofs.CallerLemmas.{other_stored}
use Rattle.cache_laws.specs.Bins.{Item, Bin, blocks_of, word_of, Lists, Says}
use Rattle.cache_laws.specs.Good.{lock_words}
use Rattle.cache_laws.specs.Steps.{IsOtherWord, IsOtherAction}

pub to_stored : (P : Mem → Type 0) (k : Key) (m : Mem) (w : Word) (v : ℕ) → Valid k w
    → P (write m (kind_of_word w) (at_of w) v) → P (stored k m w v)
to_stored P k m w v valid p = subst P (sym (stored-valid k m w v valid)) p

-- a word that is not stored is as it was
pub stored-else : (k : Key) (m : Mem) (w : Word) (v : ℕ) (kind : WordKind) (i : ℕ)
    → (number (kind_of_word w) ≡ number kind → at_of w ≢ i) → stored k m w v kind i ≡ m kind i
stored-else k m w v kind i other = less_or (at_of w) (length_of k (kind_of_word w))
    (λ valid. to_stored (λ x. x kind i ≡ m kind i) k m w v valid
    (write_else m (kind_of_word w) kind (at_of w) v i other))
    (λ void. ap (λ (x : Mem). x kind i) (stored-void k m w v void))

-- the words are the same but for those of one bin, and of these blocks
pub record SameNumbers (m m' : Mem) (c : ℕ) : Type 0 where
  pub head : m' cache_heads c ≡ m cache_heads c
  pub count : m' cache_items c ≡ m cache_items c
  pub used : m' cache_used c ≡ m cache_used c
  pub mean : m' cache_means c ≡ m cache_means c
  pub threshold : m' cache_thresholds c ≡ m cache_thresholds c
  pub get : m' cache_gets c ≡ m cache_gets c
  pub cleaned : m' cache_cleaned c ≡ m cache_cleaned c

pub record Apart (m m' : Mem) (b : ℕ) (mine : ℕ → Type 0) : Type 0 where
  pub numbers : (c : ℕ) → c ≢ b → SameNumbers m m' c
  pub links : (x : ℕ) → (mine x → ⊥) → m' cache_links x ≡ m cache_links x
  pub ages : (x : ℕ) → (mine x → ⊥) → m' cache_ages x ≡ m cache_ages x

-- and so are the locks
pub record Leaves (m m' : Mem) (b : ℕ) (mine : ℕ → Type 0) : Type 0 where
  pub locks : locks_of lock_words m' ≡ locks_of lock_words m
  pub others : Apart m m' b mine

pub leaves_all : (m : Mem) (b : ℕ) (mine : ℕ → Type 0) → Leaves m m b mine
leaves_all m b mine = record {
  locks = refl;
  others = record {
    numbers = λ c ne. record {
      head = refl;
      count = refl;
      used = refl;
      mean = refl;
      threshold = refl;
      get = refl;
      cleaned = refl;
    };
    links = λ x other. refl;
    ages = λ x other. refl;
  };
}

-- a store on a word of the bin
pub leaves_number : (k : Key) (m : Mem) (w : Word) (v b : ℕ) (mine : ℕ → Type 0) → at_of w ≡ b
    → number cache_locks < number (kind_of_word w) → number (kind_of_word w) < number cache_links
    → Leaves m (stored k m w v) b mine
leaves_number k m w v b mine at above below = record {
  locks = other_stored k lock_words m w v (λ c z. let e = z.0 in omega arith);
  others = record {
    numbers = λ c ne. record {
      head = stored-else k m w v cache_heads c (λ _ e. ne (sym e ∙ at));
      count = stored-else k m w v cache_items c (λ _ e. ne (sym e ∙ at));
      used = stored-else k m w v cache_used c (λ _ e. ne (sym e ∙ at));
      mean = stored-else k m w v cache_means c (λ _ e. ne (sym e ∙ at));
      threshold = stored-else k m w v cache_thresholds c (λ _ e. ne (sym e ∙ at));
      get = stored-else k m w v cache_gets c (λ _ e. ne (sym e ∙ at));
      cleaned = stored-else k m w v cache_cleaned c (λ _ e. ne (sym e ∙ at));
    };
    links = λ x _. stored-else k m w v cache_links x (λ e _. omega arith);
    ages = λ x _. stored-else k m w v cache_ages x (λ e _. omega arith);
  };
}

-- a store on a word of one of the blocks
pub leaves_block : (k : Key) (m : Mem) (w : Word) (v b : ℕ) (mine : ℕ → Type 0) → mine (at_of w)
    → number cache_links ≤ number (kind_of_word w) → Leaves m (stored k m w v) b mine
leaves_block k m w v b mine own above = record {
  locks = other_stored k lock_words m w v (λ c z. let e = z.0 in omega arith);
  others = record {
    numbers = λ c ne. record {
      head = stored-else k m w v cache_heads c (λ e _. omega arith);
      count = stored-else k m w v cache_items c (λ e _. omega arith);
      used = stored-else k m w v cache_used c (λ e _. omega arith);
      mean = stored-else k m w v cache_means c (λ e _. omega arith);
      threshold = stored-else k m w v cache_thresholds c (λ e _. omega arith);
      get = stored-else k m w v cache_gets c (λ e _. omega arith);
      cleaned = stored-else k m w v cache_cleaned c (λ e _. omega arith);
    };
    links = λ x other. stored-else k m w v cache_links x (λ _ e. other (subst mine e own));
    ages = λ x other. stored-else k m w v cache_ages x (λ _ e. other (subst mine e own));
  };
}

-- a store on a lock
pub apart_lock : (k : Key) (m : Mem) (c v b : ℕ) (mine : ℕ → Type 0) → Apart m (stored k m (Word.CacheLock c) v) b mine
apart_lock k m c v b mine = record {
  numbers = λ d ne. record {
    head = stored-else k m (Word.CacheLock c) v cache_heads d (λ e _. omega arith);
    count = stored-else k m (Word.CacheLock c) v cache_items d (λ e _. omega arith);
    used = stored-else k m (Word.CacheLock c) v cache_used d (λ e _. omega arith);
    mean = stored-else k m (Word.CacheLock c) v cache_means d (λ e _. omega arith);
    threshold = stored-else k m (Word.CacheLock c) v cache_thresholds d (λ e _. omega arith);
    get = stored-else k m (Word.CacheLock c) v cache_gets d (λ e _. omega arith);
    cleaned = stored-else k m (Word.CacheLock c) v cache_cleaned d (λ e _. omega arith);
  };
  links = λ x _. stored-else k m (Word.CacheLock c) v cache_links x (λ e _. omega arith);
  ages = λ x _. stored-else k m (Word.CacheLock c) v cache_ages x (λ e _. omega arith);
}

-- a list whose blocks' words are the same
pub lists-same : (links ages links' ages' : ℕ → ℕ) (items : List Item)
    → ((x : ℕ) → 0 < tally x (blocks_of items) → links' x ≡ links x)
    → ((x : ℕ) → 0 < tally x (blocks_of items) → ages' x ≡ ages x) → Lists links ages items → Lists links' ages' items
lists-same links ages links' ages' [] same same' lists = tt
lists-same links ages links' ages' (x ∷ xs) same same' lists = (
  same x.block (first x xs) ∙ lists.0,
  same' x.block (first x xs) ∙ lists.1,
  lists-same links ages links' ages' xs (λ y some. same y (later x xs y some)) (λ y some. same' y (later x xs y some))
      lists.2,
)
  where
    first : (x : Item) (xs : List Item) → 0 < tally x.block (blocks_of (x ∷ xs))
    first x xs = let h = tally-here x.block (blocks_of xs) in omega arith

    later : (x : Item) (xs : List Item) (y : ℕ) → 0 < tally y (blocks_of xs) → 0 < tally y (blocks_of (x ∷ xs))
    later x xs y some = let h = tally-more y x.block (blocks_of xs) in omega arith

-- another bin says what it said
pub says-same : (m m' : Mem) (b c : ℕ) (mine : ℕ → Type 0) (bin : Bin) → Apart m m' b mine → c ≢ b
    → ((x : ℕ) → 0 < tally x (blocks_of bin.items) → mine x → ⊥) → Says m c bin → Says m' c bin
says-same m m' b c mine bin leaves ne others says = let same = leaves.numbers c ne in record {
  head = same.head ∙ says.head;
  count' = same.count ∙ says.count';
  used' = same.used ∙ says.used';
  mean' = same.mean ∙ says.mean';
  threshold' = same.threshold ∙ says.threshold';
  get' = same.get ∙ says.get';
  cleaned' = same.cleaned ∙ says.cleaned';
  listed = lists-same (m cache_links) (m cache_ages) (m' cache_links) (m' cache_ages) bin.items
      (λ x some. leaves.links x (others x some)) (λ x some. leaves.ages x (others x some)) says.listed;
}

-- a word of the bin stored is that number of the bin changed
pub count_said : (k : Key) (m : Mem) (b v : ℕ) (bin : Bin) → b < cache_counts → Says m b bin
    → Says (stored k m (Word.CacheItems b) v) b (record bin { count = v })
count_said k m b v bin low says =
    to_stored (λ x. Says x b (record bin { count = v })) k m (Word.CacheItems b) v low (record {
      head = says.head;
      count' = put-same (m cache_items) b v;
      used' = says.used';
      mean' = says.mean';
      threshold' = says.threshold';
      get' = says.get';
      cleaned' = says.cleaned';
      listed = says.listed;
    })

pub used_said : (k : Key) (m : Mem) (b v : ℕ) (bin : Bin) → b < cache_counts → Says m b bin
    → Says (stored k m (Word.CacheUsed b) v) b (record bin { used = v })
used_said k m b v bin low says =
    to_stored (λ x. Says x b (record bin { used = v })) k m (Word.CacheUsed b) v low (record {
      head = says.head;
      count' = says.count';
      used' = put-same (m cache_used) b v;
      mean' = says.mean';
      threshold' = says.threshold';
      get' = says.get';
      cleaned' = says.cleaned';
      listed = says.listed;
    })

pub mean_said : (k : Key) (m : Mem) (b v : ℕ) (bin : Bin) → b < cache_counts → Says m b bin
    → Says (stored k m (Word.CacheMean b) v) b (record bin { mean = v })
mean_said k m b v bin low says =
    to_stored (λ x. Says x b (record bin { mean = v })) k m (Word.CacheMean b) v low (record {
      head = says.head;
      count' = says.count';
      used' = says.used';
      mean' = put-same (m cache_means) b v;
      threshold' = says.threshold';
      get' = says.get';
      cleaned' = says.cleaned';
      listed = says.listed;
    })

pub threshold_said : (k : Key) (m : Mem) (b v : ℕ) (bin : Bin) → b < cache_counts → Says m b bin
    → Says (stored k m (Word.CacheThreshold b) v) b (record bin { threshold = v })
threshold_said k m b v bin low says =
    to_stored (λ x. Says x b (record bin { threshold = v })) k m (Word.CacheThreshold b) v low (record {
      head = says.head;
      count' = says.count';
      used' = says.used';
      mean' = says.mean';
      threshold' = put-same (m cache_thresholds) b v;
      get' = says.get';
      cleaned' = says.cleaned';
      listed = says.listed;
    })

pub get_said : (k : Key) (m : Mem) (b v : ℕ) (bin : Bin) → b < cache_counts → Says m b bin
    → Says (stored k m (Word.CacheGet b) v) b (record bin { get = v })
get_said k m b v bin low says =
    to_stored (λ x. Says x b (record bin { get = v })) k m (Word.CacheGet b) v low (record {
      head = says.head;
      count' = says.count';
      used' = says.used';
      mean' = says.mean';
      threshold' = says.threshold';
      get' = put-same (m cache_gets) b v;
      cleaned' = says.cleaned';
      listed = says.listed;
    })

pub cleaned_said : (k : Key) (m : Mem) (b v : ℕ) (bin : Bin) → b < cache_counts → Says m b bin
    → Says (stored k m (Word.CacheCleaned b) v) b (record bin { cleaned = v })
cleaned_said k m b v bin low says =
    to_stored (λ x. Says x b (record bin { cleaned = v })) k m (Word.CacheCleaned b) v low (record {
      head = says.head;
      count' = says.count';
      used' = says.used';
      mean' = says.mean';
      threshold' = says.threshold';
      get' = says.get';
      cleaned' = put-same (m cache_cleaned) b v;
      listed = says.listed;
    })

-- a new head, from which other blocks are listed
pub head_said : (k : Key) (m : Mem) (b v : ℕ) (bin : Bin) (items : List Item) → b < cache_counts → v ≡ word_of items
    → Lists (m cache_links) (m cache_ages) items → Says m b bin
    → Says (stored k m (Word.CacheHead b) v) b (record bin { items = items })
head_said k m b v bin items low is lists says =
    to_stored (λ x. Says x b (record bin { items = items })) k m (Word.CacheHead b) v low (record {
      head = put-same (m cache_heads) b v ∙ is;
      count' = says.count';
      used' = says.used';
      mean' = says.mean';
      threshold' = says.threshold';
      get' = says.get';
      cleaned' = says.cleaned';
      listed = lists;
    })

-- the lock's own word says nothing of the bin
pub says-locked : (k : Key) (m : Mem) (b c v : ℕ) (bin : Bin) → c < cache_counts → Says m b bin
    → Says (stored k m (Word.CacheLock c) v) b bin
says-locked k m b c v bin low says =
    to_stored (λ x. Says x b bin) k m (Word.CacheLock c) v low (record {
      head = says.head;
      count' = says.count';
      used' = says.used';
      mean' = says.mean';
      threshold' = says.threshold';
      get' = says.get';
      cleaned' = says.cleaned';
      listed = says.listed;
    })

-- a step on a word that is none of the cache's leaves all bins
pub record SameCache (m m' : Mem) : Type 0 where
  pub locks : locks_of lock_words m' ≡ locks_of lock_words m
  pub numbers : (c : ℕ) → SameNumbers m m' c
  pub links : (x : ℕ) → m' cache_links x ≡ m cache_links x
  pub ages : (x : ℕ) → m' cache_ages x ≡ m cache_ages x

same_here : (m : Mem) → SameCache m m
same_here m = record {
  locks = refl;
  numbers = λ c. record {
    head = refl;
    count = refl;
    used = refl;
    mean = refl;
    threshold = refl;
    get = refl;
    cleaned = refl;
  };
  links = λ x. refl;
  ages = λ x. refl;
}

other_kind : (w : Word) (kind : WordKind) → IsOtherWord w → number cache_locks ≤ number kind
    → number kind ≤ number cache_ages → number (kind_of_word w) ≢ number kind
other_kind w which (inl below) low high e = omega arith
other_kind w which (inr above) low high e = omega arith

same_stored : (k : Key) (m : Mem) (w : Word) (v : ℕ) → IsOtherWord w → SameCache m (stored k m w v)
same_stored k m w v other = record {
  locks = other_stored k lock_words m w v
      (λ c z. other_kind w cache_locks other (omega arith) (omega arith) z.0);
  numbers = λ c. record {
    head = same cache_heads (omega arith) (omega arith) c;
    count = same cache_items (omega arith) (omega arith) c;
    used = same cache_used (omega arith) (omega arith) c;
    mean = same cache_means (omega arith) (omega arith) c;
    threshold = same cache_thresholds (omega arith) (omega arith) c;
    get = same cache_gets (omega arith) (omega arith) c;
    cleaned = same cache_cleaned (omega arith) (omega arith) c;
  };
  links = same cache_links (omega arith) (omega arith);
  ages = same cache_ages (omega arith) (omega arith);
}
  where
    same : (kind : WordKind) → number cache_locks ≤ number kind → number kind ≤ number cache_ages → (i : ℕ)
        → stored k m w v kind i ≡ m kind i
    same kind low high i = stored-else k m w v kind i (λ e _. absurd (other_kind w kind other low high e))

pub same_after : (k : Key) (m : Mem) (action : Action) → IsOtherAction action → SameCache m (after k m action)
same_after k m (Load w) other = same_here m
same_after k m (Store w v) other = same_stored k m w v other
same_after k m (Swap w v) other = same_stored k m w v other
same_after k m (Exchange w from to) other = by (eqb (word_at m w) from)
  where
    by : (b : Bool) → SameCache m (cond b (stored k m w to) m)
    by true = same_stored k m w to other
    by false = same_here m
same_after k m (Add w v) other = same_stored k m w ((word_at m w + v) % 2 ^ 64) other
same_after k m (TakeOffice job) other = same_here m
same_after k m GiveOffice other = same_here m
same_after k m Nothing other = same_here m

pub says-over : (m m' : Mem) (c : ℕ) (bin : Bin) → SameCache m m' → Says m c bin → Says m' c bin
says-over m m' c bin over says = let same = over.numbers c in record {
  head = same.head ∙ says.head;
  count' = same.count ∙ says.count';
  used' = same.used ∙ says.used';
  mean' = same.mean ∙ says.mean';
  threshold' = same.threshold ∙ says.threshold';
  get' = same.get ∙ says.get';
  cleaned' = same.cleaned ∙ says.cleaned';
  listed = lists-same (m cache_links) (m cache_ages) (m' cache_links) (m' cache_ages) bin.items
      (λ x some. over.links x) (λ x some. over.ages x) says.listed;
}
